use Rattle.std.proofs.Common.{ℕ, List, ◌+◌, ◌<◌, length, subst, sym, arith, ◌∙◌}
use Rattle.js_store.specs.State.{text}
use Rattle.js_store.proofs.Laws.{step_trans, text_still}
use Rattle.js_search.specs.Blocks.{IsPart}
use Rattle.js_search.specs.Places.{IsFirst, IsPartAt}
use Rattle.js_search.proofs.Passed.{first_none, first_past, first_there, none_next, first_among}
use Rattle.js_search.proofs.places.first_after.Goals as goal

pub returns-in-None-clause-least : goal.returns-in-None-clause-least
returns-in-None-clause-least g c =
    let s = c.loop-cost.invariant in
    let u : List ℕ = text (g.S.Strings.state c.args.store.now) (g.S.Strings.number c.args.hay) in
    let w : List ℕ = text (g.S.Strings.state c.args.store.now) (g.S.Strings.number c.args.needle) in
    let same = text_still s.step.grows _ c.requires.hay_known in
    first_none u _ w c.pair_of-pair.result c.pair_of-pair.ensures.pair same c.args.from c.loop-cost.place s.apart c.in-None.ensures.least

pub returns-then-size-len-clause-least : goal.returns-then-size-len-clause-least
returns-then-size-len-clause-least g c =
    let s = c.loop-cost.invariant in
    let e = c.in-Some.ensures.least in
    let u : List ℕ = text (g.S.Strings.state c.args.store.now) (g.S.Strings.number c.args.hay) in
    let w : List ℕ = text (g.S.Strings.state c.args.store.now) (g.S.Strings.number c.args.needle) in
    let at = c.in-Some.at in
    let n = c.requires.len in
    let m = c.requires.size in
    let past : length u < at + length w = omega (arith, c.if-size-len.true) in
    let same = text_still s.step.grows _ c.requires.hay_known in
    first_past u _ w c.pair_of-pair.result c.pair_of-pair.ensures.pair same c.args.from c.loop-cost.place s.apart at s.low e.0 e.2 past

pub returns-then-same-size-clause-least : goal.returns-then-same-size-clause-least
returns-then-same-size-clause-least g c =
    let s = c.loop-cost.invariant in
    let e = c.in-Some.ensures in
    let u : List ℕ = text (g.S.Strings.state c.args.store.now) (g.S.Strings.number c.args.hay) in
    let w : List ℕ = text (g.S.Strings.state c.args.store.now) (g.S.Strings.number c.args.needle) in
    let at = c.in-Some.at in
    let grows = step_trans s.step e.uses.step in
    let f = text_still grows.grows (g.S.Strings.number c.args.hay) c.requires.hay_known in
    let h = text_still grows.grows (g.S.Strings.number c.args.needle) c.requires.needle_known in
    let there : IsPartAt u w at =
    subst (λ (x : List ℕ). IsPartAt x w at) f
    (subst (λ (x : List ℕ). IsPartAt (text (g.S.Strings.state c.next_pair.new.store) (g.S.Strings.number c.args.hay)) x at) h (c.same_units-same.ensures.all.0 c.if-same-size.true)) in
    let same = text_still s.step.grows _ c.requires.hay_known in
    first_there u _ w c.pair_of-pair.result c.pair_of-pair.ensures.pair same c.args.from c.loop-cost.place s.apart at s.low e.least.0 e.least.2 there

pub loop-cost-preserved : goal.loop-cost-preserved
loop-cost-preserved g c =
    let s = c.loop-cost.invariant in
    let e = c.in-Some.ensures in
    let u : List ℕ = text (g.S.Strings.state c.args.store.now) (g.S.Strings.number c.args.hay) in
    let w : List ℕ = text (g.S.Strings.state c.args.store.now) (g.S.Strings.number c.args.needle) in
    let at = c.in-Some.at in
    let low = s.low in
    let next = e.least.0 in
    let room = c.if-size-len.false in
    let some = c.requires.some in
    let inside = e.least.1 in
    let grows = step_trans s.step e.uses.step in
    let f = text_still grows.grows (g.S.Strings.number c.args.hay) c.requires.hay_known in
    let h = text_still grows.grows (g.S.Strings.number c.args.needle) c.requires.needle_known in
    let g1 = text_still s.step.grows (g.S.Strings.number c.args.hay) c.requires.hay_known in
    record {
      low = omega arith;
      high = omega arith;
      apart = none_next u _ w c.pair_of-pair.result c.pair_of-pair.ensures.pair g1 c.args.from c.loop-cost.place s.apart at s.low e.least.0 e.least.2
          (λ there. c.if-same-size.false (c.same_units-same.ensures.all.1
          (subst (λ (x : List ℕ). IsPartAt x (text (g.S.Strings.state c.next_pair.new.store) (g.S.Strings.number c.args.needle)) at) (sym f)
          (subst (λ (x : List ℕ). IsPartAt u x at) (sym h) there))));
      part = subst (λ (x : List ℕ). IsPart x c.next_pair.new.block) g1 e.part;
      step = step_trans grows c.same_units-same.ensures.uses.step;
      history = c.same_units-same.ensures.uses.history ∙ (e.uses.history ∙ s.history);
    }

pub returns-clause-least : goal.returns-clause-least
returns-clause-least g c =
    let s = c.loop-cost.invariant in
    let u : List ℕ = text (g.S.Strings.state c.args.store.now) (g.S.Strings.number c.args.hay) in
    let w : List ℕ = text (g.S.Strings.state c.args.store.now) (g.S.Strings.number c.args.needle) in
    let place = c.loop-cost.place in
    let f = text_still s.step.grows (g.S.Strings.number c.args.hay) c.requires.hay_known in
    let h = text_still s.step.grows (g.S.Strings.number c.args.needle) c.requires.needle_known in
    let found : IsFirst u w place c.first_from.result =
    subst (λ (x : List ℕ). IsFirst x w place c.first_from.result) f
    (subst (λ (x : List ℕ). IsFirst (text (g.S.Strings.state c.loop-cost.store) (g.S.Strings.number c.args.hay)) x place c.first_from.result) h c.first_from.ensures.least) in
    first_among u w c.args.from place s.low s.apart c.first_from.result found
