-- Where one map of forms is laid over another, what each has of an id fits what is there.
use Rattle.std.proofs.Common.{◌≡◌, ◌≢◌, ℕ, ◌⊎◌, ⊎_elim, Bool, false, true, cond, List, [], ◌∷◌, refl, sym, ap, ◌∙◌, subst, ne_eqb, Option, Some, None}
use mathlib.Core.Logic.{dite}
use native.Mathlib.Decide.{ℕ_discrete}
use Rattle.std.specs.List.{list_any}
use Rattle.std.specs.Ordering.{nat_cmp, eq_by_cmp}
use Rattle.std.specs.Cmp.{unsigned_tied}
use Rattle.std.specs.FinMap.{FinMap, get, keys, contains_key-keys}
use Rattle.js_header.specs.declared.form.Form.{Form}
use Rattle.js_header.specs.declared.form.Form.TheVariants.{Unborn, Flat, Cons, Sliced, Thin}
use Rattle.heap_rule.specs.Maps.{Has, put_if_some, laid_at, laid_over}
use Rattle.heap_rule.specs.Forms.{IsLater, is_later, later_form}
use Rattle.heap_rule.proofs.MapLemmas.{insert_same, insert_other, key_of}
use Rattle.heap_table.specs.Rule.{AreOfOneLine}
use Rattle.heap_table.specs.Taken.{fits_form}
use Rattle.heap_table.proofs.Fitting.{false_true, fits_self, not_self, or_rest}

-- of two forms only one is later than the other
not_back : (g f : Form) → IsLater f g → is_later g f ≡ false
not_back Unborn f l = refl
not_back (Thin target) f l = refl
not_back (Flat wide start true) f l = refl
not_back (Flat wide start false) Unborn l = refl
not_back (Flat wide start false) (Flat w s x) l = refl
not_back (Flat wide start false) (Cons w s x) l = refl
not_back (Flat wide start false) (Sliced w s x) l = refl
not_back (Flat wide start false) (Thin target) l = absurd (false_true l)
not_back (Cons wide left right) Unborn l = refl
not_back (Cons wide left right) (Flat w s true) l = refl
not_back (Cons wide left right) (Flat w s false) l = absurd (false_true l)
not_back (Cons wide left right) (Cons w s x) l = refl
not_back (Cons wide left right) (Sliced w s x) l = refl
not_back (Cons wide left right) (Thin target) l = absurd (false_true l)
not_back (Sliced wide parent offset) Unborn l = refl
not_back (Sliced wide parent offset) (Flat w s x) l = refl
not_back (Sliced wide parent offset) (Cons w s x) l = refl
not_back (Sliced wide parent offset) (Sliced w s x) l = refl
not_back (Sliced wide parent offset) (Thin target) l = absurd (false_true l)

-- the form is the one that stands, or an earlier one
abbrev pub IsSeen : Form → Form → Type 0
IsSeen now f = (f ≡ now) ⊎ IsLater f now

over_now : (now x : Form) → IsSeen now x → later_form (Some now) x ≡ now
over_now now x h = ap (λ b. cond b x now) (⊎_elim (λ (e : x ≡ now). ap (is_later now) e ∙ not_self now) (λ (l : IsLater x now). not_back now x l) h)

now_over : (now f : Form) → IsSeen now f → later_form (Some f) now ≡ now
now_over now f h = ⊎_elim (λ (e : f ≡ now). subst (λ (y : Form). cond (is_later y now) now y ≡ now) (sym e)
    (ap (λ b. cond b now now) (not_self now))) (λ (l : IsLater f now). ap (λ b. cond b now f) l) h

-- a form that was seen fits the later one of two that were
fits_lower : (f g now : Form) → IsSeen now f → IsSeen now g → (now ≡ Unborn → ⊥) → fits_form f (later_form (Some f) g) ≡ true
fits_lower f g now p q born = ⊎_elim
    (λ (e : f ≡ now). subst (λ (y : Form). fits_form y (later_form (Some y) g) ≡ true) (sym e) (subst (λ (y : Form). fits_form now y ≡ true) (sym (over_now now g q)) (fits_self now born)))
    (λ (l : IsLater f now). early f g l) p
  where
    early : (f g : Form) → IsLater f now → fits_form f (later_form (Some f) g) ≡ true
    early (Cons wide left right) g l = refl
    early Unborn g l = absurd (false_true l)
    early (Thin target) g l = absurd (false_true l)
    early (Flat wide start true) g l = absurd (false_true l)
    early (Flat wide start false) (Thin t) l = refl
    early (Flat wide start false) Unborn l = refl
    early (Flat wide start false) (Flat w s x) l = refl
    early (Flat wide start false) (Cons w s x) l = refl
    early (Flat wide start false) (Sliced w s x) l = refl
    early (Sliced wide parent offset) (Thin t) l = refl
    early (Sliced wide parent offset) Unborn l = refl
    early (Sliced wide parent offset) (Flat w s x) l = refl
    early (Sliced wide parent offset) (Cons w s x) l = refl
    early (Sliced wide parent offset) (Sliced w s x) l = refl

fits_upper : (f g now : Form) → IsSeen now f → IsSeen now g → AreOfOneLine f g → (now ≡ Unborn → ⊥) → fits_form g (later_form (Some f) g) ≡ true
fits_upper f g now p q line born = ⊎_elim
    (λ (e : g ≡ now). subst (λ (y : Form). fits_form y (later_form (Some f) y) ≡ true) (sym e) (subst (λ (y : Form). fits_form now y ≡ true) (sym (now_over now f p)) (fits_self now born)))
    (λ (l : IsLater g now). early f g l line) q
  where
    early : (f g : Form) → IsLater g now → AreOfOneLine f g → fits_form g (later_form (Some f) g) ≡ true
    early f (Cons wide left right) l h = refl
    early f Unborn l h = absurd (false_true l)
    early f (Thin target) l h = absurd (false_true l)
    early f (Flat wide start true) l h = absurd (false_true l)
    early (Cons w s x) (Flat wide start false) l h = refl
    early Unborn (Flat wide start false) l h = refl
    early (Flat w s true) (Flat wide start false) l h = refl
    early (Flat w s false) (Flat wide start false) l h = refl
    early (Sliced w s x) (Flat wide start false) l h = refl
    early (Thin t) (Flat wide start false) l h = refl
    early (Cons w s x) (Sliced wide parent offset) l h = absurd h
    early Unborn (Sliced wide parent offset) l h = refl
    early (Flat w s true) (Sliced wide parent offset) l h = refl
    early (Flat w s false) (Sliced wide parent offset) l h = refl
    early (Sliced w s x) (Sliced wide parent offset) l h = refl
    early (Thin t) (Sliced wide parent offset) l h = refl

-- the later one of two stays where the second is laid over it again
again_by : (b : Bool) (f x : Form) → is_later f x ≡ b → later_form (Some (cond b x f)) x ≡ cond b x f
again_by true f x e = ap (λ t. cond t x x) (not_self x)
again_by false f x e = ap (λ t. cond t x f) e

again : (o : Option Form) (x : Form) → later_form (Some (later_form o x)) x ≡ later_form o x
again None x = ap (λ t. cond t x x) (not_self x)
again (Some f) x = again_by (is_later f x) f x refl

module _ (upper : FinMap nat_cmp Form) (q : ℕ) where
  put_else : (m : FinMap nat_cmp Form) (k : ℕ) (o : Option Form) → q ≢ k → get (put_if_some later_form m k o) q ≡ get m q
  put_else m k None ne = refl
  put_else m k (Some x) ne = insert_other m k q (later_form (get m k) x) ne

  -- the upper map has nothing there
  none_at : get upper q ≡ None → (ks : List ℕ) (m : FinMap nat_cmp Form) → get (laid_at later_form m upper ks) q ≡ get m q
  none_at e [] m = refl
  none_at e (k ∷ ks) m = none_at e ks (put_if_some later_form m k (get upper k)) ∙ dite (ℕ_discrete q k)
      (λ is. ap (λ (o : Option Form). get (put_if_some later_form m k o) q) (ap (get upper) (sym is) ∙ e))
      (λ ne. put_else m k (get upper k) ne)

  put_here : (m : FinMap nat_cmp Form) (x : Form) → get upper q ≡ Some x → get (put_if_some later_form m q (get upper q)) q ≡ Some (later_form (get m q) x)
  put_here m x e = ap (λ (o : Option Form). get (put_if_some later_form m q o) q) e ∙ insert_same m q (later_form (get m q) x)

  module _ (x : Form) (e : get upper q ≡ Some x) where
    stays_at : (ks : List ℕ) (m : FinMap nat_cmp Form) (y : Form) → Has m q y → later_form (Some y) x ≡ y → Has (laid_at later_form m upper ks) q y
    stays_at [] m y h same = h
    stays_at (k ∷ ks) m y h same = stays_at ks (put_if_some later_form m k (get upper k)) y (dite (ℕ_discrete q k)
        (λ is. subst (λ (r : ℕ). get (put_if_some later_form m r (get upper r)) q ≡ Some y) is (put_here m x e ∙ (ap (λ (o : Option Form). Some (later_form o x)) h ∙ ap Some same)))
        (λ ne. put_else m k (get upper k) ne ∙ h)) same

    some_at : (ks : List ℕ) (m : FinMap nat_cmp Form) → list_any (eq_by_cmp nat_cmp q) ks ≡ true → Has (laid_at later_form m upper ks) q (later_form (get m q) x)
    some_at [] m h = absurd (false_true h)
    some_at (k ∷ ks) m h = dite (ℕ_discrete q k)
        (λ is. stays_at ks (put_if_some later_form m k (get upper k)) (later_form (get m q) x)
        (subst (λ (r : ℕ). get (put_if_some later_form m r (get upper r)) q ≡ Some (later_form (get m q) x)) is (put_here m x e)) (again (get m q) x))
        (λ ne. let other = put_else m k (get upper k) ne in subst (λ (o : Option Form). Has (laid_at later_form m upper (k ∷ ks)) q (later_form o x)) other
        (some_at ks (put_if_some later_form m k (get upper k)) (or_rest (eq_by_cmp nat_cmp q k) (list_any (eq_by_cmp nat_cmp q) ks) (unsigned_tied q k ∙ ne_eqb q k ne) h)))

    pub laid_some : (m : FinMap nat_cmp Form) → Has (laid_over later_form m upper) q (later_form (get m q) x)
    laid_some m = some_at (keys upper) m (sym (contains_key-keys upper q) ∙ key_of upper q x e)

  pub laid_none : (m : FinMap nat_cmp Form) → get upper q ≡ None → get (laid_over later_form m upper) q ≡ get m q
  laid_none m e = none_at e (keys upper) m

module _ (m upper : FinMap nat_cmp Form) (q : ℕ) (now : Form) (born : now ≡ Unborn → ⊥) where
  -- what the lower map has fits what is there, and so does what the upper map has
  pub lower_fits : (f : Form) → Has m q f → IsSeen now f → ((g : Form) → Has upper q g → IsSeen now g) → (y : Form) × Has (laid_over later_form m upper) q y × (fits_form f y ≡ true)
  lower_fits f h p seen = with_upper (get upper q) refl
    where
      with_upper : (o : Option Form) → get upper q ≡ o → (y : Form) × Has (laid_over later_form m upper) q y × (fits_form f y ≡ true)
      with_upper None e = (f, laid_none upper q m e ∙ h, lone)
        where
          lone : fits_form f f ≡ true
          lone = ap (fits_form f) (sym (ap (λ b. cond b f f) (not_self f))) ∙ fits_lower f f now p p born
      with_upper (Some g) e = (
        later_form (Some f) g,
        subst (λ (o : Option Form). Has (laid_over later_form m upper) q (later_form o g)) h
            (laid_some upper q g e m),
        fits_lower f g now p (seen g e) born,
      )

  pub upper_fits : (g : Form) → Has upper q g → IsSeen now g → ((f : Form) → Has m q f → IsSeen now f × AreOfOneLine f g) → (y : Form) × Has (laid_over later_form m upper) q y × (fits_form g y ≡ true)
  upper_fits g h p seen = with_lower (get m q) refl
    where
      with_lower : (o : Option Form) → get m q ≡ o → (y : Form) × Has (laid_over later_form m upper) q y × (fits_form g y ≡ true)
      with_lower None e = (
        g,
        subst (λ (o : Option Form). Has (laid_over later_form m upper) q (later_form o g)) e
            (laid_some upper q g h m),
        subst (λ (y : Form). fits_form g y ≡ true) (ap (λ b. cond b g g) (not_self g)) (fits_lower g g now p p born),
      )
      with_lower (Some f) e = (
        later_form (Some f) g,
        subst (λ (o : Option Form). Has (laid_over later_form m upper) q (later_form o g)) e
            (laid_some upper q g h m),
        fits_upper f g now (seen f e).0 p (seen f e).1 born,
      )
