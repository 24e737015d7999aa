use Rattle.std.proofs.Common.{◌≡◌, ◌∙◌, true, false, refl, sym, rules}
use Rattle.std.proofs.lemmas.Map.Iter.{rest_more, rest_all}
use Rattle.std.specs.Map.Iter.{deref_pair}
use Rattle.heap_core_views.specs.Loading.{EndsPast}
use Rattle.heap_core_views.proofs.Searches.{search_start, search_next, search_none, head_found}
use Rattle.heap_core_views.proofs.learning.has_later_part.Goals as goal

pub loop-part-init : goal.loop-part-init
loop-part-init c = search_start (EndsPast c.args.view.now c.args.id c.args.n) c.args.view.now.forms c.into_iter-part-iterator.result (search rules) c.iter-part-items.ensures.found

pub loop-part-preserved : goal.loop-part-preserved
loop-part-preserved c = search_next (EndsPast c.args.view.now c.args.id c.args.n) c.args.view.now.forms c.loop-part.part-iterator
    c.next.new.self c.in-Some.part.now c.in-Some.form.now (rest_more deref_pair c.loop-part.part-iterator c.next.new.self c.next.result
    (c.in-Some.part, c.in-Some.form) c.in-Some.is c.next.ensures.steps) (λ p. let e : false ≡ true = sym c.if-ends_past.false ∙
    c.ends_past.ensures.1 p in absurd (cc)) c.loop-part.invariant

pub returns-then-ends_past : goal.returns-then-ends_past
returns-then-ends_past c = (
  (λ _. (
    c.in-Some.part.now,
    c.in-Some.form.now,
    head_found (EndsPast c.args.view.now c.args.id c.args.n)
        c.args.view.now.forms c.loop-part.part-iterator c.next.new.self c.in-Some.part.now c.in-Some.form.now
        (rest_more deref_pair c.loop-part.part-iterator c.next.new.self c.next.result (c.in-Some.part, c.in-Some.form) c.in-Some.is
        c.next.ensures.steps) c.loop-part.invariant.1,
    c.ends_past.ensures.0 c.if-ends_past.true,
  )),
  (λ _. refl),
)

pub returns : goal.returns
returns c = (
  (λ (e : false ≡ true). absurd (cc)),
  (λ t. absurd (search_none (EndsPast c.args.view.now c.args.id c.args.n)
      c.args.view.now.forms c.loop-part.part-iterator (rest_all deref_pair c.loop-part.part-iterator c.next.new.self c.next.result c.in-None.is
      c.next.ensures.steps) c.loop-part.invariant t.0 t.1 t.2 t.3)),
)
