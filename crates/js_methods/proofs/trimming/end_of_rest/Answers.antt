use Rattle.std.proofs.Common.{◌-◌, ◌≤◌, length, get_or, arith, rules, ap, sym, ◌∙◌, List, ℕ}
use Rattle.js_units.specs.Text.{is_blank}
use Rattle.js_store.specs.State.{text}
use Rattle.js_store.proofs.Laws.{text_still}
use Rattle.js_methods.proofs.Blanks.{back_more, back_stop, back_all}
use Rattle.js_methods.proofs.trimming.end_of_rest.Goals as goal

pub returns-clause-value : goal.returns-clause-value
returns-clause-value g c = back_all _ c.args.from c.loop-i.i c.requires.within c.loop-i-test.false c.loop-i.invariant.rest

pub returns-then-not-is_trimmed-clause-value : goal.returns-then-not-is_trimmed-clause-value
returns-then-not-is_trimmed-clause-value g c =
    let units = text (g.S.Strings.state c.args.store.now) (g.S.Strings.number c.args.s) in
    let same = text_still c.loop-i.invariant.step.grows (g.S.Strings.number c.args.s) c.requires.known in
    let unit = ap (λ (u : List ℕ). get_or u (c.loop-i.i - 1) 0) (sym same) ∙ sym c.unit_at.ensures.value in
    let blank = ap is_blank unit ∙ sym c.is_trimmed.ensures ∙ c.if-not-is_trimmed.true in
    let within : c.loop-i.i ≤ length units = omega (arith, c.loop-i.auto.i, c.len-len.ensures.value) in
    let e = back_stop units c.args.from c.loop-i.i c.loop-i-test.true within blank c.loop-i.invariant.rest in
    omega (arith, e, c.loop-i-test.true)

pub loop-i-preserved : goal.loop-i-preserved
loop-i-preserved g c =
    let units = text (g.S.Strings.state c.args.store.now) (g.S.Strings.number c.args.s) in
    let same = text_still c.loop-i.invariant.step.grows (g.S.Strings.number c.args.s) c.requires.known in
    let unit = ap (λ (u : List ℕ). get_or u (c.loop-i.i - 1) 0) (sym same) ∙ sym c.unit_at.ensures.value in
    let blank = ap is_blank unit ∙ sym c.is_trimmed.ensures ∙ c.if-not-is_trimmed.false in
    let within : c.loop-i.i ≤ length units = omega (arith, c.loop-i.auto.i, c.len-len.ensures.value) in
    record {
      rest = back_more units c.args.from c.loop-i.i c.loop-i-test.true within blank c.loop-i.invariant.rest;
      step = search rules;
      history = search rules;
    }
