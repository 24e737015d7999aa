-- What is known of a string that was made with the reserve: one of two ways was taken, since each has a test.
use Rattle.std.proofs.Common.{◌≡◌, ℕ, suc, ◌+◌, ◌-◌, ◌++◌, ◌<◌, ◌≤◌, ◌⊎◌, ⊎_elim, inl, inr, Bool, false, List, length, get_or, ap, subst, sym, arith, Some, None, Result, Ok, Err, IfOk}
use mathlib.Core.Logic.{dite}
use native.Mathlib.Decide.{dec_le}
use Rattle.js_units.specs.Lanes.{is_wide}
use Rattle.js_header.specs.declared.form.Form.{Form}
use Rattle.js_header.specs.declared.form.Form.TheVariants.{Flat, Sliced}
use Rattle.heap_rule.specs.declared.view.View.{View}
use Rattle.heap_rule.specs.Births.{part}
use Rattle.heap_rule.specs.Maps.{Has}
use Rattle.heap_rule.specs.Views.{IsSeenSettled}
use Rattle.heap_table.specs.Known.{KeepsKnown}
use Rattle.heap_read.specs.declared.string.JsStr.{JsStr}
use Rattle.heap_text.specs.declared.faults.JoinFault.{JoinFault}
use Rattle.heap_text.specs.declared.faults.TextFull.{TextFull}
use Rattle.heap_text.specs.Joins.{offset_of, parent_of}
use Rattle.heap_reserve.specs.declared.reserve.Reserve.{Reserve}
use Rattle.heap_rule.specs.declared.size.HeapSize.{HeapSize}
use Rattle.heap_text.specs.declared.faults.JoinFault.TheVariants.{Full}
use Rattle.heap_reserve.specs.Making.{IsFlatAnswer, IsFlatTaken, IsLongCut, IsLongJoin, IsShortCut, IsShortJoin, words_holding}
use Rattle.heap_reserve.specs.Reserves.{HasAbove, HasSome, IsTakingRefused, kept_ids, words_kept}
use Rattle.heap_reserve.specs.Trying.{TriesCut, TriesJoin, join_answer}

both : {A B : Type 0} → A ⊎ (A → ⊥) → B ⊎ (B → ⊥) → (A × B) ⊎ (A × B → ⊥)
both (inl a) (inl b) = inl (a, b)
both (inl a) (inr f) = inr (λ p. f p.1)
both (inr f) b = inr (λ p. f p.0)

below : (m n : ℕ) → (m < n) ⊎ (m < n → ⊥)
below m n = dite (dec_le (suc m) n) (λ l. inl (omega (arith, l))) (λ l. inr (λ k. l (omega (arith, k))))

some_or : (r : Reserve) → HasSome r ⊎ (HasSome r → ⊥)
some_or r = ⊎_elim (λ l. inl (inl l)) (λ f. ⊎_elim (λ l. inl (inr l)) (λ g. inr (λ p. ⊎_elim f g p)) (below 0 (words_kept r))) (below 0 (length (kept_ids r)))

above_or : (r : Reserve) (i : ℕ) → HasAbove r i ⊎ (HasAbove r i → ⊥)
above_or r i = both (below 0 (length (kept_ids r))) (below i (get_or (kept_ids r) 0 0))

-- a part is not the whole, or it is
part_or : (from to n : ℕ) → ((0 < from) ⊎ (to < n)) ⊎ ((0 < from) ⊎ (to < n) → ⊥)
part_or from to n = ⊎_elim (λ l. inl (inl l))
    (λ f. ⊎_elim (λ l. inl (inr l)) (λ g. inr (λ p. ⊎_elim f g p)) (below to n)) (below 0 from)

module _ (v w : View) (r s : Reserve) (z : HeapSize) where
  module _ (us : List ℕ) where
    abbrev Shows : Result JsStr TextFull → Type 0
    Shows a = IfOk a (λ x. Has w.units x.id us)

    abbrev IsFlat : Result JsStr TextFull → Type 0
    IsFlat a = IfOk a (λ x. (start : ℕ) × Has w.forms x.id (Flat (is_wide us) start false))

    pub flat_shows : (a : Result JsStr TextFull) → IsFlatAnswer v w r s z us a → IfOk a (λ x. Has w.units x.id us)
    flat_shows a h = ⊎_elim
        (λ (c : (t : JsStr) × (a ≡ Ok t) × IsFlatTaken v w r s t us). subst Shows (sym c.1) c.2.units)
        (λ (c : (f : TextFull) × (a ≡ Err f) × IsTakingRefused v w z r s (words_holding us) f). subst Shows (sym c.1) tt) h

    pub flat_form : (a : Result JsStr TextFull) → IsFlatAnswer v w r s z us a → IfOk a (λ x. (start : ℕ) × Has w.forms x.id (Flat (is_wide us) start false))
    flat_form a h = ⊎_elim
        (λ (c : (t : JsStr) × (a ≡ Ok t) × IsFlatTaken v w r s t us). subst IsFlat (sym c.1) (c.2.form.0, c.2.form.1))
        (λ (c : (f : TextFull) × (a ≡ Err f) × IsTakingRefused v w z r s (words_holding us) f). subst IsFlat (sym c.1) tt) h

    pub flat_joined : (a : Result JsStr TextFull) → IsFlatAnswer v w r s z us a
        → ((t : JsStr) × (join_answer a ≡ Ok t) × IsFlatTaken v w r s t us) ⊎ ((f : TextFull) × (join_answer a ≡ Err (Full f)) × IsTakingRefused v w z r s (words_holding us) f)
    flat_joined a h = ⊎_elim
        (λ (c : (t : JsStr) × (a ≡ Ok t) × IsFlatTaken v w r s t us). inl (c.0, ap join_answer c.1, c.2))
        (λ (c : (f : TextFull) × (a ≡ Err f) × IsTakingRefused v w z r s (words_holding us) f). inr (c.0, ap join_answer c.1, c.2)) h

  module _ (most : ℕ) (a b : JsStr) (us vs : List ℕ) (made : Result JsStr TextFull) (h : TriesJoin v w r s z most a b us vs (Some made)) where
    abbrev Made : Result JsStr TextFull → Type 0
    Made o = IfOk o (λ x. Has w.units x.id (us ++ vs))

    abbrev m : ℕ
    m = length us

    abbrev n : ℕ
    n = length vs

    by_copy : IsShortJoin r most us vs → Made made
    by_copy e = let q = h.short e in let o : Some made ≡ Some q.0 = q.1 in let same : q.0 ≡ made = cc in subst Made same (flat_shows (us ++ vs) q.0 q.2)

    by_rope : IsLongJoin r most a b us vs → Made made
    by_rope e = let q = h.long e in let o : Some made ≡ Some (Ok q.0) = q.1 in let same : Ok q.0 ≡ made = cc in subst Made same q.2.units

    by_neither : (IsShortJoin r most us vs → ⊥) → (IsLongJoin r most a b us vs → ⊥) → Made made
    by_neither f g = let l = h.left f g in let o : Some made ≡ None = l.0 in absurd (cc)

    of_two : m + n ≤ most → 0 < m → 0 < n → Made made
    of_two fits some more = dite (dec_le 13 (m + n))
        (λ l. ⊎_elim (λ x. ⊎_elim (λ y. by_rope (fits, some, more, l, x, y)) (λ f. by_neither (λ e. let k = e.3 in absurd (omega (arith, k, l))) (λ e. f e.5)) (above_or r b.id))
        (λ f. by_neither (λ e. let k = e.3 in absurd (omega (arith, k, l))) (λ e. f e.4)) (above_or r a.id))
        (λ l. ⊎_elim (λ x. by_copy (fits, some, more, omega (arith, l), x)) (λ f. by_neither (λ e. f e.4) (λ e. let k = e.3 in absurd (l k))) (some_or r))

    pub join_made : Made made
    join_made = dite (dec_le (m + n) most)
        (λ fits. dite (dec_le 1 m) (λ some. dite (dec_le 1 n) (λ more. of_two fits (omega (arith, some)) (omega (arith, more)))
        (λ f. by_neither (λ e. let k = e.2 in f (omega (arith, k))) (λ e. let k = e.2 in f (omega (arith, k)))))
        (λ f. by_neither (λ e. let k = e.1 in f (omega (arith, k))) (λ e. let k = e.1 in f (omega (arith, k)))))
        (λ f. by_neither (λ e. f e.0) (λ e. f e.0))

  module _ (p : JsStr) (from to : ℕ) (us : List ℕ) (made : Result JsStr TextFull) (h : TriesCut v w r s z p from to us (Some made)) where
    abbrev cut : List ℕ
    cut = part from (to - from) us

    abbrev Cut : Result JsStr TextFull → Type 0
    Cut o = IfOk o (λ x. Has w.units x.id cut) × IfOk o (λ x. IsSeenSettled w x.id)

    cut_flat : (o : Result JsStr TextFull) → IsFlatAnswer v w r s z cut o → Cut o
    cut_flat o k = ⊎_elim
        (λ (c : (t : JsStr) × (o ≡ Ok t) × IsFlatTaken v w r s t cut). subst Cut (sym c.1) (c.2.units, (Flat (is_wide cut) c.2.form.0 false, c.2.form.1, λ d. d)))
        (λ (c : (f : TextFull) × (o ≡ Err f) × IsTakingRefused v w z r s (words_holding cut) f). subst Cut (sym c.1) (tt, tt)) k

    cut_copy : IsShortCut r from to us → Cut made
    cut_copy e = let q = h.short e in let o : Some made ≡ Some q.0 = q.1 in let same : q.0 ≡ made = cc in subst Cut same (cut_flat q.0 q.2)

    cut_slice : IsLongCut r p from to us → Cut made
    cut_slice e = let q = h.long e in let o : Some made ≡ Some (Ok q.0) = q.1 in let same : Ok q.0 ≡ made = cc in
        let f : Form = q.2.part.0 in let wide : Bool = q.2.part.1 in
        subst Cut same (q.2.units, (Sliced wide (parent_of p.id f) (offset_of f + from), q.2.part.4, λ c. c))

    cut_neither : (IsShortCut r from to us → ⊥) → (IsLongCut r p from to us → ⊥) → Cut made
    cut_neither f g = let l = h.left f g in let o : Some made ≡ None = l.0 in absurd (cc)

    cut_part : (0 < from) ⊎ (to < length us) → Cut made
    cut_part o = dite (dec_le 13 (to - from))
        (λ l. ⊎_elim (λ x. cut_slice (o, l, x)) (λ f. cut_neither (λ e. let k = e.1 in absurd (omega (arith, k, l))) (λ e. f e.2)) (above_or r p.id))
        (λ l. ⊎_elim (λ x. cut_copy (o, omega (arith, l), x)) (λ f. cut_neither (λ e. f e.2) (λ e. let k = e.1 in absurd (l k))) (some_or r))

    pub cut_made : Cut made
    cut_made = ⊎_elim (λ o. cut_part o) (λ f. cut_neither (λ e. f e.0) (λ e. f e.0)) (part_or from to (length us))

-- what is told of a join's answer
pub join_shows : (v w : View) (a b : JsStr) (made : Result JsStr TextFull)
    → ((us vs : List ℕ) → Has v.units a.id us → Has v.units b.id vs → IfOk made (λ x. Has w.units x.id (us ++ vs)))
    → IfOk (join_answer made) (λ x. (us vs : List ℕ) → Has v.units a.id us → Has v.units b.id vs → Has w.units x.id (us ++ vs))
join_shows v w a b (Ok t) h = λ us vs p q. h us vs p q
join_shows v w a b (Err f) h = tt

pub cut_shows : (v w : View) (p : JsStr) (from to : ℕ) (made : Result JsStr TextFull) → ((us : List ℕ) → Has v.units p.id us → IfOk made (λ x. Has w.units x.id (part from (to - from) us)))
    → IfOk made (λ x. (us : List ℕ) → Has v.units p.id us → Has w.units x.id (part from (to - from) us))
cut_shows v w p from to (Ok t) h = λ us q. h us q
cut_shows v w p from to (Err f) h = tt

-- what is told of the answer after a call that keeps what is known
module _ (v u w : View) (k : KeepsKnown v u) where
  pub join_told : (a b : JsStr) (r : Result JsStr JoinFault) → IfOk r (λ t. (us vs : List ℕ) → Has u.units a.id us → Has u.units b.id vs → Has w.units t.id (us ++ vs))
      → IfOk r (λ t. (us vs : List ℕ) → Has v.units a.id us → Has v.units b.id vs → Has w.units t.id (us ++ vs))
  join_told a b (Ok t) h = λ us vs p q. h us vs (k.units a.id us p) (k.units b.id vs q)
  join_told a b (Err e) h = tt

  pub cut_told : (p : JsStr) (from to : ℕ) (r : Result JsStr TextFull) → IfOk r (λ t. (us : List ℕ) → Has u.units p.id us → Has w.units t.id (part from (to - from) us))
      → IfOk r (λ t. (us : List ℕ) → Has v.units p.id us → Has w.units t.id (part from (to - from) us))
  cut_told p from to (Ok t) h = λ us q. h us (k.units p.id us q)
  cut_told p from to (Err e) h = tt
