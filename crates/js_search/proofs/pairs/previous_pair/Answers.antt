use Rattle.std.proofs.Common.{List, ℕ, ◌+◌, subst, arith, ◌∙◌}
use Rattle.js_store.specs.State.{text}
use Rattle.js_store.proofs.Laws.{step_trans, text_still}
use Rattle.js_search.specs.Blocks.{IsPart}
use Rattle.js_search.proofs.Pairing.{none_down}
use Rattle.js_search.proofs.pairs.previous_pair.Goals as goal

pub returns-in-Some-clause-greatest : goal.returns-in-Some-clause-greatest
returns-in-Some-clause-greatest g c =
    let s = c.loop-left.invariant in
    let e = c.cover.ensures in
    let u : List ℕ = text (g.S.Strings.state c.args.store.now) (g.S.Strings.number c.args.hay) in
    let part : IsPart u c.cover.new.self = subst (λ (v : List ℕ). IsPart v c.cover.new.self) (text_still s.step.grows _ c.requires.known) e.part in
    let high = s.high in
    let low = e.low in
    let inside = c.in-Some.ensures.0 in (
      omega arith,
      λ k a b. none_down u c.cover.new.self c.args.pair part c.args.end c.loop-left.left (c.in-Some.at + 1) e.high s.none (λ j l m. c.in-Some.ensures.1 j (omega arith) m) k (omega arith) b,
    )

pub loop-left-preserved : goal.loop-left-preserved
loop-left-preserved g c =
    let s = c.loop-left.invariant in
    let e = c.cover.ensures in
    let u : List ℕ = text (g.S.Strings.state c.args.store.now) (g.S.Strings.number c.args.hay) in
    let part : IsPart u c.cover.new.self = subst (λ (v : List ℕ). IsPart v c.cover.new.self) (text_still s.step.grows _ c.requires.known) e.part in
    let high = s.high in
    let low = e.low in
    record {
      high = omega arith;
      none = λ k a b. none_down u c.cover.new.self c.args.pair part c.args.end c.loop-left.left 0 e.high s.none (λ j l m. c.in_default.ensures j m) k (omega arith) b;
      part = part;
      step = step_trans s.step e.uses.step;
      history = e.uses.history ∙ s.history;
    }
