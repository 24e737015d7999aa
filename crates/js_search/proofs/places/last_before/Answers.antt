use Rattle.std.proofs.Common.{ℕ, List, ◌≡◌, ◌+◌, ◌-◌, subst, sym, arith, ◌∙◌}
use Rattle.js_store.specs.State.{text}
use Rattle.js_store.proofs.Laws.{step_trans, text_still}
use Rattle.js_search.specs.Blocks.{IsPart}
use Rattle.js_search.specs.Places.{IsLast, IsPartAt}
use Rattle.js_search.proofs.Pairing.{last_among, last_there, none_from}
use Rattle.js_search.proofs.Passed.{last_none}
use Rattle.js_search.proofs.places.last_before.Goals as goal

pub returns-in-None-clause-greatest : goal.returns-in-None-clause-greatest
returns-in-None-clause-greatest g c =
    let s = c.loop-end.invariant in
    let u : List ℕ = text (g.S.Strings.state c.args.store.now) (g.S.Strings.number c.args.hay) in
    let w : List ℕ = text (g.S.Strings.state c.args.store.now) (g.S.Strings.number c.args.needle) in
    let same = text_still s.step.grows _ c.requires.hay_known in
    last_none u _ w c.pair_of-pair.result c.pair_of-pair.ensures.pair same c.args.most c.loop-end.end s.apart c.in-None.ensures.greatest

pub returns-then-cost-most-clause-greatest : goal.returns-then-cost-most-clause-greatest
returns-then-cost-most-clause-greatest g c =
    let s = c.loop-end.invariant in
    let e = c.in-Some.ensures in
    let u : List ℕ = text (g.S.Strings.state c.args.store.now) (g.S.Strings.number c.args.hay) in
    let w : List ℕ = text (g.S.Strings.state c.args.store.now) (g.S.Strings.number c.args.needle) in
    let at = c.in-Some.at in
    let high = s.high in
    let low = e.greatest.0 in
    let grows = step_trans s.step e.uses.step in
    let f = text_still grows.grows (g.S.Strings.number c.args.hay) c.requires.hay_known in
    let h = text_still grows.grows (g.S.Strings.number c.args.needle) c.requires.needle_known in
    let same : at + c.args.size - c.args.size ≡ at = omega arith in
    let there : IsLast u w at c.last_within.result =
    subst (λ (n : ℕ). IsLast u w n c.last_within.result) same
    (subst (λ (x : List ℕ). IsLast x w (at + c.args.size - c.args.size) c.last_within.result) f
    (subst (λ (x : List ℕ). IsLast (text (g.S.Strings.state c.previous_pair.new.store) (g.S.Strings.number c.args.hay)) x
    (at + c.args.size - c.args.size) c.last_within.result) h c.last_within.ensures.greatest)) in
    last_among u _ w c.pair_of-pair.result c.args.most c.loop-end.end at c.pair_of-pair.ensures.pair
    (text_still s.step.grows _ c.requires.hay_known) e.greatest.1 s.apart c.last_within.result (omega arith) there

pub returns-then-same-size-clause-greatest : goal.returns-then-same-size-clause-greatest
returns-then-same-size-clause-greatest g c =
    let s = c.loop-end.invariant in
    let e = c.in-Some.ensures in
    let u : List ℕ = text (g.S.Strings.state c.args.store.now) (g.S.Strings.number c.args.hay) in
    let w : List ℕ = text (g.S.Strings.state c.args.store.now) (g.S.Strings.number c.args.needle) in
    let at = c.in-Some.at in
    let high = s.high in
    let low = e.greatest.0 in
    let grows = step_trans s.step e.uses.step in
    let f = text_still grows.grows (g.S.Strings.number c.args.hay) c.requires.hay_known in
    let h = text_still grows.grows (g.S.Strings.number c.args.needle) c.requires.needle_known in
    let there : IsPartAt u w at =
    subst (λ (x : List ℕ). IsPartAt x w at) f
    (subst (λ (x : List ℕ). IsPartAt (text (g.S.Strings.state c.previous_pair.new.store) (g.S.Strings.number c.args.hay)) x at) h (c.same_units-same.ensures.all.0 c.if-same-size.true)) in
    last_there u _ w c.pair_of-pair.result c.args.most c.loop-end.end at c.pair_of-pair.ensures.pair (text_still s.step.grows _ c.requires.hay_known) e.greatest.1 s.apart (omega arith) there

pub loop-end-preserved : goal.loop-end-preserved
loop-end-preserved g c =
    let s = c.loop-end.invariant in
    let e = c.in-Some.ensures in
    let u : List ℕ = text (g.S.Strings.state c.args.store.now) (g.S.Strings.number c.args.hay) in
    let w : List ℕ = text (g.S.Strings.state c.args.store.now) (g.S.Strings.number c.args.needle) in
    let at = c.in-Some.at in
    let high = s.high in
    let low = e.greatest.0 in
    let grows = step_trans s.step e.uses.step in
    let f = text_still grows.grows (g.S.Strings.number c.args.hay) c.requires.hay_known in
    let h = text_still grows.grows (g.S.Strings.number c.args.needle) c.requires.needle_known in
    let g1 = text_still s.step.grows (g.S.Strings.number c.args.hay) c.requires.hay_known in
    record {
      high = omega arith;
      apart = none_from u _ w c.pair_of-pair.result c.args.most c.loop-end.end at c.pair_of-pair.ensures.pair g1 e.greatest.1 s.apart
          (λ there. c.if-same-size.false (c.same_units-same.ensures.all.1
          (subst (λ (x : List ℕ). IsPartAt x (text (g.S.Strings.state c.previous_pair.new.store) (g.S.Strings.number c.args.needle)) at) (sym f)
          (subst (λ (x : List ℕ). IsPartAt u x at) (sym h) there))));
      part = subst (λ (x : List ℕ). IsPart x c.previous_pair.new.block) g1 e.part;
      step = step_trans grows c.same_units-same.ensures.uses.step;
      history = c.same_units-same.ensures.uses.history ∙ (e.uses.history ∙ s.history);
    }
