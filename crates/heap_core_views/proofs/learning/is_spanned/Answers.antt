use Rattle.std.proofs.Common.{◌≡◌, ◌∙◌, true, false, refl, sym, rules}
use Rattle.std.proofs.lemmas.Map.Iter.{rest_more, rest_all}
use Rattle.std.specs.Map.Iter.{deref_pair}
use Rattle.heap_core_views.specs.Loading.{Spans}
use Rattle.heap_core_views.proofs.Searches.{search_start, search_next, search_none, head_found}
use Rattle.heap_core_views.proofs.learning.is_spanned.Goals as goal

pub loop-id-init : goal.loop-id-init
loop-id-init c = search_start (Spans c.args.view.now c.args.at) c.args.view.now.forms c.into_iter-id-iterator.result (search rules) c.iter-id-items.ensures.found

pub loop-id-preserved : goal.loop-id-preserved
loop-id-preserved c = search_next (Spans c.args.view.now c.args.at) c.args.view.now.forms c.loop-id.id-iterator c.next.new.self
    c.in-Some.id.now c.in-Some.form.now (rest_more deref_pair c.loop-id.id-iterator c.next.new.self c.next.result
    (c.in-Some.id, c.in-Some.form) c.in-Some.is c.next.ensures.steps) (λ p. let e : false ≡ true = sym c.if-spans.false ∙ c.spans.ensures.1 p
    in absurd (cc)) c.loop-id.invariant

pub returns-then-spans : goal.returns-then-spans
returns-then-spans c = (
  (λ _. (
    c.in-Some.id.now,
    c.in-Some.form.now,
    head_found (Spans c.args.view.now c.args.at) c.args.view.now.forms
        c.loop-id.id-iterator c.next.new.self c.in-Some.id.now c.in-Some.form.now
        (rest_more deref_pair c.loop-id.id-iterator c.next.new.self c.next.result (c.in-Some.id, c.in-Some.form) c.in-Some.is
        c.next.ensures.steps) c.loop-id.invariant.1,
    c.spans.ensures.0 c.if-spans.true,
  )),
  (λ _. refl),
)

pub returns : goal.returns
returns c = (
  (λ (e : false ≡ true). absurd (cc)),
  (λ t. absurd (search_none (Spans c.args.view.now c.args.at) c.args.view.now.forms
      c.loop-id.id-iterator (rest_all deref_pair c.loop-id.id-iterator c.next.new.self c.next.result c.in-None.is c.next.ensures.steps)
      c.loop-id.invariant t.0 t.1 t.2 t.3)),
)
