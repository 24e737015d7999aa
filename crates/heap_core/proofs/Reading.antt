-- What the words of a born id show, by its form.
use Rattle.std.proofs.Common.{◌≡◌, ℕ, zero, suc, ◌+◌, ◌<◌, ◌≤◌, Bool, List, ◌++◌, take, drop, length, sym, refl, ap, ◌∙◌, subst, arith, Some, Result, Ok, Err}
use Rattle.std.specs.Prelude.{OnOk}
use Rattle.js_header.specs.Form.{form_of}
use Rattle.js_header.specs.declared.form.Form.{Form}
use Rattle.js_header.specs.declared.form.Form.TheVariants.{Flat, Cons, Sliced}
use Rattle.heap_rule.specs.declared.size.HeapSize.{HeapSize}
use Rattle.heap_rule.specs.Layout.{form, length_word, content, IsBorn}
use Rattle.heap_rule.specs.Contents.{units_of, span}
use Rattle.heap_rule.specs.Sound.{AreStanding, StandsAs, Shows}
use Rattle.heap_rule.proofs.Birth.{length_span}
use Rattle.heap_rule.proofs.Loading.{stands_shows}

take_span : (f : ℕ → ℕ) (wide : Bool) (start k m n : ℕ) → n ≤ m → take n (span f wide start k m) ≡ span f wide start k n
take_span f wide start k m zero l = refl
take_span f wide start k zero (suc n) l = absurd (omega arith)
take_span f wide start k (suc m) (suc n) l = λ i. span f wide start k 1 ++ take_span f wide start (suc k) m n (omega arith) i

-- a part of a span
span_part : (f : ℕ → ℕ) (wide : Bool) (start k m o n : ℕ) → o + n ≤ m → take n (drop o (span f wide start k m)) ≡ span f wide start (k + o) n
span_part f wide start k m zero n l = let e : k ≡ k + 0 = omega arith in take_span f wide start k m n (omega arith) ∙ ap (λ (x : ℕ). span f wide start x n) e
span_part f wide start k zero (suc o) n l = absurd (omega arith)
span_part f wide start k (suc m) (suc o) n l = let e : suc k + o ≡ k + suc o = omega arith in span_part f wide start (suc k) m o n (omega arith) ∙ ap (λ (x : ℕ). span f wide start x n) e

module _ (z : HeapSize) (W : List ℕ) (stand : AreStanding z W) (i : ℕ) (b : IsBorn z W i) where
  pub standing : (f : Form) → form_of (form z W i) ≡ Some f → StandsAs z W stand.0 i f
  standing f e = let s = stand.1 i b in let same : s.now ≡ f = (let d : Some s.now ≡ Some f = sym s.decodes ∙ e in cc) in subst (StandsAs z W stand.0 i) same s.stands

  pub shows : (f : Form) → form_of (form z W i) ≡ Some f → Shows z W stand.0 i f
  shows f e = stands_shows z W stand.0 stand.1 i f e (standing f e)

  pub flat_read : (wide : Bool) (start : ℕ) (fixed : Bool) (n : ℕ) → form_of (form z W i) ≡ Some (Flat wide start fixed) → length_word z W i ≡ n → units_of z W i ≡ span (content z W) wide start 0 n
  flat_read wide start fixed n e l = (shows (Flat wide start fixed) e).0 ∙ ap (λ (m : ℕ). span (content z W) wide start 0 m) l

  pub sliced_read : (wide' : Bool) (parent offset n : ℕ) (wide : Bool) (start m : ℕ) → form_of (form z W i) ≡ Some
      (Sliced wide' parent offset) → length_word z W i ≡ n → units_of z W parent ≡ span (content z W) wide start 0 m
      → (units_of z W i ≡ span (content z W) wide start offset n) × (offset + n ≤ m)
  sliced_read wide' parent offset n wide start m e l p = let s = shows (Sliced wide' parent offset) e in
      let long : length (units_of z W parent) ≡ m = ap length p ∙ length_span (content z W) wide start 0 m in
      let room : offset + n ≤ m = subst (λ (x : ℕ). offset + n ≤ x) long (subst (λ (x : ℕ). offset + x ≤ length (units_of z W parent)) l s.3) in
      let plain : 0 + offset ≡ offset = omega arith in
      (s.2 ∙ ((λ k. take (l k) (drop offset (p k))) ∙ (span_part (content z W) wide start 0 m offset n room ∙ ap (λ (x : ℕ). span (content z W) wide start x n) plain)), room)

  -- a solid form, seen at the id, is a Flat or a Thin
  pub cons_read : (wide : Bool) (left right : ℕ) → form_of (form z W i) ≡ Some (Cons wide left right)
      → (left < i) × (right < i) × IsBorn z W left × IsBorn z W right × (units_of z W i ≡ units_of z W left ++ units_of z W right)
  cons_read wide left right e = let t = standing (Cons wide left right) e in let s = shows (Cons wide left right) e in (t.0, t.1, t.2, t.3, s.2)

pub on_ok : {A E : Type 0} (r : Result A E) (P Q : Type 0) → (P → Q) → OnOk r P → OnOk r Q
on_ok (Ok x) P Q f h = f h
on_ok (Err e) P Q f h = h
