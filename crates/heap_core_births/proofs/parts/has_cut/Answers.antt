use Rattle.std.proofs.Common.{◌≡◌, ◌∙◌, true, false, refl, sym, rules}
use Rattle.std.proofs.lemmas.Map.Iter.{rest_more, rest_all}
use Rattle.std.specs.Map.Iter.{deref_pair}
use Rattle.js_header.specs.declared.form.Form.{Form}
use Rattle.heap_core_births.specs.Moving.{IsCut}
use Rattle.heap_core_views.proofs.Searches.{search_start, search_next, search_none, head_found}
use Rattle.heap_core_births.proofs.parts.has_cut.Goals as goal

pub loop-part-init : goal.loop-part-init
loop-part-init c = search_start (λ _ (f : Form). IsCut c.args.p f) c.args.view.now.forms c.into_iter-part-iterator.result (search rules) c.iter-part-items.ensures.found

pub loop-part-preserved : goal.loop-part-preserved
loop-part-preserved c = search_next (λ _ (f : Form). IsCut c.args.p f) c.args.view.now.forms c.loop-part._part-iterator c.next.new.self
    c.in-Some._part.now c.in-Some.form.now (rest_more deref_pair c.loop-part._part-iterator c.next.new.self c.next.result
    (c.in-Some._part, c.in-Some.form) c.in-Some.is c.next.ensures.steps)
    (λ p. let e : false ≡ true = sym c.if-is_cut.false ∙ c.is_cut.ensures.1 p in absurd (cc)) c.loop-part.invariant

pub returns-then-is_cut : goal.returns-then-is_cut
returns-then-is_cut c = (
  (λ _. (
    c.in-Some._part.now,
    c.in-Some.form.now,
    head_found (λ _ (f : Form). IsCut c.args.p f) c.args.view.now.forms
        c.loop-part._part-iterator c.next.new.self c.in-Some._part.now c.in-Some.form.now
        (rest_more deref_pair c.loop-part._part-iterator c.next.new.self c.next.result (c.in-Some._part, c.in-Some.form) c.in-Some.is
        c.next.ensures.steps) c.loop-part.invariant.1,
    c.is_cut.ensures.0 c.if-is_cut.true,
  )),
  (λ _. refl),
)

pub returns : goal.returns
returns c = (
  (λ (e : false ≡ true). absurd (cc)),
  (λ t. absurd (search_none (λ _ (f : Form). IsCut c.args.p f) c.args.view.now.forms
      c.loop-part._part-iterator (rest_all deref_pair c.loop-part._part-iterator c.next.new.self c.next.result c.in-None.is
      c.next.ensures.steps) c.loop-part.invariant t.0 t.1 t.2 t.3)),
)
