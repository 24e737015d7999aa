use Rattle.std.proofs.Common.{◌≡◌, ◌∙◌, true, false, sym, subst, rules, IsTrue}
use Rattle.std.proofs.lemmas.Map.Iter.{rest_more, rest_all}
use Rattle.std.specs.Map.Iter.{deref_pair}
use Rattle.std.specs.FinMap.{get}
use Rattle.heap_core_views.specs.declared.load.Load.{Load}
use Rattle.heap_rule.specs.Maps.{Has}
use Rattle.heap_rule.specs.Learning.{tells}
use Rattle.heap_core_views.specs.Loading.{loaded_by}
use Rattle.heap_rule.proofs.MapLemmas.{insert_other}
use Rattle.heap_core_views.proofs.Searches.{search_start, search_next, search_none}
use Rattle.heap_core_views.proofs.Justified.{none_told, one_told}
use Rattle.heap_core_views.proofs.load.Load.any_tells.Goals as goal

pub loop-other-init : goal.loop-other-init
loop-other-init c = search_start (λ j _. IsTrue (tells (loaded_by c.args.view.now c.args.self.now) c.args.id j
    (get (loaded_by c.args.view.now c.args.self.now).forms j))) c.args.view.now.forms c.into_iter-other-iterator.result (search rules)
    c.iter-other-items.ensures.found

pub loop-other-preserved : goal.loop-other-preserved
loop-other-preserved c = search_next (λ j _. IsTrue (tells (loaded_by c.args.view.now c.args.self.now) c.args.id j
    (get (loaded_by c.args.view.now c.args.self.now).forms j))) c.args.view.now.forms c.loop-other.other-iterator c.next.new.self
    c.in-Some.other.now c.in-Some._form.now (rest_more deref_pair c.loop-other.other-iterator c.next.new.self c.next.result
    (c.in-Some.other, c.in-Some._form) c.in-Some.is c.next.ensures.steps)
    (λ p. let e : false ≡ true = sym c.if-tells.false ∙ (c.tells.ensures ∙ p) in absurd (cc)) c.loop-other.invariant

pub returns-in-SeenForm : goal.returns-in-SeenForm
returns-in-SeenForm c = (
  (λ h. (c.in-SeenForm.at, sym c.tells-in-SeenForm.ensures ∙ h)),
  (λ t. c.tells-in-SeenForm.ensures ∙ one_told c.args.view.now c.args.self.now c.args.id c.in-SeenForm.at
      (search_none (λ j _. IsTrue (tells (loaded_by c.args.view.now c.args.self.now) c.args.id j
      (get (loaded_by c.args.view.now c.args.self.now).forms j))) c.args.view.now.forms c.loop-other.other-iterator
      (rest_all deref_pair c.loop-other.other-iterator c.next.new.self c.next.result c.in-None.is c.next.ensures.steps) c.loop-other.invariant)
      (λ k x ne h. sym (insert_other c.args.view.now.forms c.in-SeenForm.at k c.in-SeenForm.form ne) ∙ subst (λ (l : Load). Has (loaded_by c.args.view.now l).forms k x) c.in-SeenForm.is h) t),
)

pub returns-in-Turned : goal.returns-in-Turned
returns-in-Turned c = (
  (λ h. (c.in-Turned.at, sym c.tells-in-Turned.ensures ∙ h)),
  (λ t. c.tells-in-Turned.ensures ∙ one_told c.args.view.now c.args.self.now c.args.id c.in-Turned.at
      (search_none (λ j _. IsTrue (tells (loaded_by c.args.view.now c.args.self.now) c.args.id j
      (get (loaded_by c.args.view.now c.args.self.now).forms j))) c.args.view.now.forms c.loop-other.other-iterator
      (rest_all deref_pair c.loop-other.other-iterator c.next.new.self c.next.result c.in-None.is c.next.ensures.steps) c.loop-other.invariant)
      (λ k x ne h. sym (insert_other c.args.view.now.forms c.in-Turned.at k c.in-Turned.form ne) ∙ subst (λ (l : Load). Has (loaded_by c.args.view.now l).forms k x) c.in-Turned.is h) t),
)

pub returns-in-SeenLength : goal.returns-in-SeenLength
returns-in-SeenLength c = (
  (λ (e : false ≡ true). absurd (cc)),
  (λ t. absurd
      (none_told c.args.view.now c.args.self.now c.args.id (search_none (λ j _. IsTrue
      (tells (loaded_by c.args.view.now c.args.self.now) c.args.id j (get (loaded_by c.args.view.now c.args.self.now).forms j)))
      c.args.view.now.forms c.loop-other.other-iterator (rest_all deref_pair c.loop-other.other-iterator c.next.new.self c.next.result
      c.in-None.is c.next.ensures.steps) c.loop-other.invariant) (λ k x h. subst (λ (l : Load). Has (loaded_by c.args.view.now l).forms k x)
      c.in-SeenLength.is h) t)),
)

pub returns-in-SeenWord : goal.returns-in-SeenWord
returns-in-SeenWord c = (
  (λ (e : false ≡ true). absurd (cc)),
  (λ t. absurd
      (none_told c.args.view.now c.args.self.now c.args.id (search_none (λ j _. IsTrue
      (tells (loaded_by c.args.view.now c.args.self.now) c.args.id j (get (loaded_by c.args.view.now c.args.self.now).forms j)))
      c.args.view.now.forms c.loop-other.other-iterator (rest_all deref_pair c.loop-other.other-iterator c.next.new.self c.next.result
      c.in-None.is c.next.ensures.steps) c.loop-other.invariant) (λ k x h. subst (λ (l : Load). Has (loaded_by c.args.view.now l).forms k x)
      c.in-SeenWord.is h) t)),
)

pub returns-in-Own : goal.returns-in-Own
returns-in-Own c = (
  (λ (e : false ≡ true). absurd (cc)),
  (λ t. absurd (none_told c.args.view.now c.args.self.now c.args.id
      (search_none (λ j _. IsTrue (tells (loaded_by c.args.view.now c.args.self.now) c.args.id j
      (get (loaded_by c.args.view.now c.args.self.now).forms j))) c.args.view.now.forms c.loop-other.other-iterator
      (rest_all deref_pair c.loop-other.other-iterator c.next.new.self c.next.result c.in-None.is c.next.ensures.steps) c.loop-other.invariant)
      (λ k x h. subst (λ (l : Load). Has (loaded_by c.args.view.now l).forms k x) c.in-Own.is h) t)),
)
