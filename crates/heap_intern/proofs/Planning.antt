-- The plan of a header, by the form that was loaded of the string.
use Rattle.std.proofs.Common.{◌≡◌, ℕ, zero, suc, ◌<◌, ◌⊎◌, ⊎_elim, inl, inr, Bool, true, List, length, sym, refl, ap, ◌∙◌, subst, arith, Some, IfSome}
use Rattle.js_header.specs.declared.form.Form.{Form}
use Rattle.js_header.specs.declared.form.Form.TheVariants.{Unborn, Flat, Cons, Sliced, Thin}
use Rattle.heap_rule.specs.declared.view.View.{View}
use Rattle.heap_rule.specs.Forms.{IsCons, IsSliced}
use Rattle.heap_rule.specs.Maps.{Has, HasKey}
use Rattle.heap_rule.proofs.MapLemmas.{has_key}
use Rattle.heap_rule.specs.Sound.{IsPossible}
use Rattle.heap_table.specs.Known.{KeepsKnown}
use Rattle.heap_intern.specs.declared.table.sought.Sought.{Sought}
use Rattle.heap_intern.specs.Answers.{BeginsAt, IsFixed, IsFound, IsHeader, IsPlan, IsPlanBy, MakesNone, HeaderPlan, UsesNothing, words_of_copy}
use Rattle.heap_intern.specs.Headers.{IsFlat, begins, header_plan, plain_plan, plan_by, target_of}
use Rattle.heap_intern.proofs.Going.{no_slice}
use Rattle.heap_read.proofs.Freezing.{possible_fixed}
use Rattle.heap_intern.proofs.Possibly.{possible_born, possible_thin_units}
use Rattle.heap_intern.proofs.Seeking.{one_form, sought_length}
use Rattle.heap_intern.specs.Seeking.{IsSought}

-- a header is a fixed Flat
pub fixed_of : (v : View) (plan : HeaderPlan) (us : List ℕ) (i : ℕ) → IsHeader v plan us i → IsFixed v us i
fixed_of v plan us i h = ((plan.wide, h.0.0, h.0.2), h.1)

pub header_of : (v : View) (plan : HeaderPlan) (wide : Bool) (start : ℕ) (us : List ℕ) (i : ℕ) → IsFlat v wide start us i → wide ≡ plan.wide → BeginsAt plan.start start → IsHeader v plan us i
header_of v plan wide start us i h e b = ((start, b, subst (λ (x : Bool). Has v.forms i (Flat x start true)) e h.0), h.1)

-- a string that is no part of another
pub plain_is : (f : Form) (s : Sought) (us : List ℕ) → (IsSliced f → ⊥) → plan_by f s us ≡ plain_plan s
plain_is (Sliced wide parent offset) s us never = absurd (never tt)
plain_is Unborn s us never = refl
plain_is (Flat wide start fixed) s us never = refl
plain_is (Cons wide left right) s us never = refl
plain_is (Thin t) s us never = refl

pub begins_at : (n start first : ℕ) → (0 < n → first ≡ start) → BeginsAt (begins n start) first
begins_at zero start first some = tt
begins_at (suc n) start first some = some (omega arith)

begins_some : (n start : ℕ) → 0 < n → begins n start ≡ Some start
begins_some zero start some = absurd (omega arith)
begins_some (suc n) start some = refl

module _ (v : View) (p : IsPossible v) (s : Sought) (us : List ℕ) (h : IsSought v s) (u : Has v.units s.id us) where
  starts : 0 < length us → begins s.window.len s.window.start ≡ Some s.window.start
  starts some = let n = sought_length v p s us h u in begins_some s.window.len s.window.start (omega arith)

  -- a Flat has its words for itself
  flat_is : (wide : Bool) (start : ℕ) (fixed : Bool) → Has v.forms s.id (Flat wide start fixed) → (s.window.wide ≡ wide) × (s.window.start ≡ start)
  flat_is wide start fixed own = ⊎_elim
      (λ (t : ((s.id ≡ h.flat) ⊎ Has v.forms s.id (Thin h.flat)) × (s.window.offset ≡ 0)). ⊎_elim
      (λ (e : s.id ≡ h.flat). same (subst (λ (i : ℕ). Has v.forms i (Flat s.window.wide s.window.start h.fixed)) (sym e) h.form))
      (λ (m : Has v.forms s.id (Thin h.flat)). let bad : Thin h.flat ≡ Flat wide start fixed = one_form v s.id _ _ m own in absurd (cc))
      t.0)
      (λ (t : (w : Bool) × (parent : ℕ) × Has v.forms s.id (Sliced w parent s.window.offset) × ((parent ≡ h.flat) ⊎ Has v.forms parent (Thin h.flat))).
      let bad : Sliced t.0 t.1 s.window.offset ≡ Flat wide start fixed = one_form v s.id _ _ t.2 own in absurd (cc))
      h.leads
    where
      same : Has v.forms s.id (Flat s.window.wide s.window.start h.fixed) → (s.window.wide ≡ wide) × (s.window.start ≡ start)
      same m = let e : Flat s.window.wide s.window.start h.fixed ≡ Flat wide start fixed = one_form v s.id _ _ m own in
          let a : s.window.wide ≡ wide = cc in let b : s.window.start ≡ start = cc in (a, b)

  -- what forwards has those of a fixed Flat
  thin_is : (target : ℕ) → Has v.forms s.id (Thin target) → Has v.forms target (Flat s.window.wide s.window.start true)
  thin_is target own = ⊎_elim
      (λ (t : ((s.id ≡ h.flat) ⊎ Has v.forms s.id (Thin h.flat)) × (s.window.offset ≡ 0)). ⊎_elim
      (λ (e : s.id ≡ h.flat). let m : Has v.forms s.id (Flat s.window.wide s.window.start h.fixed) = subst (λ (i : ℕ). Has v.forms i (Flat s.window.wide s.window.start h.fixed)) (sym e) h.form in
      let bad : Flat s.window.wide s.window.start h.fixed ≡ Thin target = one_form v s.id _ _ m own in absurd (cc))
      (λ (m : Has v.forms s.id (Thin h.flat)). there m)
      t.0)
      (λ (t : (w : Bool) × (parent : ℕ) × Has v.forms s.id (Sliced w parent s.window.offset) × ((parent ≡ h.flat) ⊎ Has v.forms parent (Thin h.flat))).
      let bad : Sliced t.0 t.1 s.window.offset ≡ Thin target = one_form v s.id _ _ t.2 own in absurd (cc))
      h.leads
    where
      there : Has v.forms s.id (Thin h.flat) → Has v.forms target (Flat s.window.wide s.window.start true)
      there m = let e : Thin h.flat ≡ Thin target = one_form v s.id _ _ m own in let is : h.flat ≡ target = cc in
          let q = possible_fixed v p h.flat (inr (s.id, m)) (Flat s.window.wide s.window.start h.fixed) h.form in
          let d : Flat s.window.wide s.window.start h.fixed ≡ Flat q.0 q.1 true = q.2 in let fixed : h.fixed ≡ true = cc in
          subst (λ (i : ℕ). Has v.forms i (Flat s.window.wide s.window.start true)) is (subst (λ (b : Bool). Has v.forms h.flat (Flat s.window.wide s.window.start b)) fixed h.form)

  plan_at : (w : View) → KeepsKnown v w → (f : Form) → Has v.forms s.id f → (IsCons f → ⊥) → IsPlanBy w f us (plan_by f s us)
  plan_at w k (Sliced wide parent offset) own never = (refl, refl)
  plan_at w k (Flat wide start fixed) own never = let t = flat_is wide start fixed own in (refl, t.0, λ some. starts some ∙ ap Some t.1)
  plan_at w k (Thin target) own never = (refl, (s.window.start, k.flats target s.window.wide s.window.start (thin_is target own), starts))
  plan_at w k Unborn own never = absurd (possible_born v p s.id own)
  plan_at w k (Cons wide left right) own never = absurd (never tt)

  -- the plan that the code goes by is one by the form that was loaded
  pub plan_is : (w : View) → KeepsKnown v w → IsPlanBy w s.form us (header_plan s us)
  plan_is w k = plan_at w k s.form h.own h.settled

  thin_made : (target : ℕ) → Has v.forms s.id (Thin target) → HasKey v.units target → IsHeader v (plain_plan s) us target
  thin_made target own known = let ts = has_key v.units target known in let same = possible_thin_units v p s.id target us ts.0 own u ts.1 in
      ((s.window.start, begins_at s.window.len s.window.start s.window.start (λ some. refl), thin_is target own), subst (λ (xs : List ℕ). Has v.units target xs) same ts.1)

  ready_at : (f : Form) → Has v.forms s.id f → ((t : ℕ) → f ≡ Thin t → HasKey v.units t) → IfSome (target_of f) (IsFixed v us)
  ready_at (Thin target) own known = fixed_of v (plain_plan s) us target (thin_made target own (known target refl))
  ready_at Unborn own known = tt
  ready_at (Flat wide start fixed) own known = tt
  ready_at (Cons wide left right) own known = tt
  ready_at (Sliced wide parent offset) own known = tt

  -- where the string forwards, its target has its units
  pub ready_fixed : ((t : ℕ) → s.form ≡ Thin t → HasKey v.units t) → IfSome (target_of s.form) (IsFixed v us)
  ready_fixed known = ready_at s.form h.own known

-- what forwards makes nothing, where there is a header already for it
pub makes_none : (v w : View) (f : Form) → ((i : ℕ) → target_of f ≡ Some i → UsesNothing v w) → MakesNone f v w
makes_none v w (Thin t) h = h t refl
makes_none v w Unborn h = tt
makes_none v w (Flat wide start fixed) h = tt
makes_none v w (Cons wide left right) h = tt
makes_none v w (Sliced wide parent offset) h = tt

-- also where nothing was used before
pub makes_after : (u v w : View) (f : Form) → UsesNothing u v → MakesNone f v w → MakesNone f u w
makes_after u v w (Thin t) a b = (b.0 ∙ a.0, b.1 ∙ a.1)
makes_after u v w Unborn a b = tt
makes_after u v w (Flat wide start fixed) a b = tt
makes_after u v w (Cons wide left right) a b = tt
makes_after u v w (Sliced wide parent offset) a b = tt

-- and afterwards
pub makes_before : (u v w : View) (f : Form) → MakesNone f u v → UsesNothing v w → MakesNone f u w
makes_before u v w (Thin t) a b = (b.0 ∙ a.0, b.1 ∙ a.1)
makes_before u v w Unborn a b = tt
makes_before u v w (Flat wide start fixed) a b = tt
makes_before u v w (Cons wide left right) a b = tt
makes_before u v w (Sliced wide parent offset) a b = tt

-- a header takes no words, or those of a copy, where the string was never seen as a Flat
pub plan_words : (v w : View) (id : ℕ) (us : List ℕ) (plan : HeaderPlan) → IsPlan v w id us plan → (plan.words ≡ 0) ⊎
    ((plan.words ≡ words_of_copy us) × ((wide : Bool) (start : ℕ) (fixed : Bool) → Has v.forms id (Flat wide start fixed) → ⊥))
plan_words v w id us plan h = by_form h.0 h.1 h.2
  where
    by_form : (f : Form) → IsFound v id f → IsPlanBy w f us plan → (plan.words ≡ 0) ⊎
        ((plan.words ≡ words_of_copy us) × ((wide : Bool) (start : ℕ) (fixed : Bool) → Has v.forms id (Flat wide start fixed) → ⊥))
    by_form (Sliced a parent offset) found p = inr (p.0, λ wide start fixed g. no_slice wide start fixed (Sliced a parent offset) (found (Flat wide start fixed) g) tt)
    by_form (Flat a start fixed) found p = inl p.0
    by_form (Thin t) found p = inl p.0
    by_form Unborn found p = absurd p
    by_form (Cons a left right) found p = absurd p
