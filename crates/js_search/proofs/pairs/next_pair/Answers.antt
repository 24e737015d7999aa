use Rattle.std.proofs.Common.{List, ℕ, ◌-◌, subst, arith, ◌∙◌}
use Rattle.js_store.specs.State.{text}
use Rattle.js_store.proofs.Laws.{step_trans, text_still}
use Rattle.js_search.specs.Blocks.{IsPart}
use Rattle.js_search.proofs.Pairing.{none_to}
use Rattle.js_search.proofs.pairs.next_pair.Goals as goal

pub returns-then-at-end-clause-least : goal.returns-then-at-end-clause-least
returns-then-at-end-clause-least g c =
    let s = c.loop-place.invariant in
    let e = c.cover.ensures in
    let u : List ℕ = text (g.S.Strings.state c.args.store.now) (g.S.Strings.number c.args.hay) in
    let part : IsPart u c.cover.new.self = subst (λ (v : List ℕ). IsPart v c.cover.new.self) (text_still s.step.grows _ c.requires.known) e.part in
    let within = part.within in
    let low = s.low in
    let f = c.first_in-at.ensures in
    let inside = c.if-at-end.true in (
      omega arith,
      omega arith,
      none_to u c.cover.new.self c.args.pair part c.args.from c.loop-place.place c.first_in-at.result e.low (omega arith) s.none f.none,
    )

pub loop-place-preserved : goal.loop-place-preserved
loop-place-preserved g c =
    let s = c.loop-place.invariant in
    let e = c.cover.ensures in
    let u : List ℕ = text (g.S.Strings.state c.args.store.now) (g.S.Strings.number c.args.hay) in
    let part : IsPart u c.cover.new.self = subst (λ (v : List ℕ). IsPart v c.cover.new.self) (text_still s.step.grows _ c.requires.known) e.part in
    let within = part.within in
    let len = c.requires.len in
    let low = s.low in
    let f = c.first_in-at.ensures in
    let all = c.if-at-end.false in
    record {
      low = omega arith;
      high = omega arith;
      none = none_to u c.cover.new.self c.args.pair part c.args.from c.loop-place.place (c.cover.new.self.count - c.args.pair.apart) e.low (omega arith) s.none (λ k a b. f.none k a (omega arith));
      part = part;
      step = step_trans s.step e.uses.step;
      history = e.uses.history ∙ s.history;
    }
