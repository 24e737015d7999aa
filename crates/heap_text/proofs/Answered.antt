-- The units of what joining and cutting answer.
use Rattle.std.proofs.Common.{◌≡◌, ℕ, ◌+◌, ◌-◌, ◌<◌, ◌≤◌, ⊎_elim, ◌⊎◌, inl, inr, false, List, [], ◌∷◌, ◌++◌, append-nil, length, sym, refl, ap, ◌∙◌, subst, arith}
use Rattle.std.specs.Prelude.{Result, Ok, Err, IfOk}
use Rattle.std.proofs.lemmas.List.{take_all}
use mathlib.Core.Logic.{dite}
use native.Mathlib.Decide.{ℕ_discrete, dec_le}
use Rattle.js_header.specs.declared.form.Form.TheVariants.{Flat, Sliced}
use Rattle.heap_rule.specs.declared.size.HeapSize.{HeapSize}
use Rattle.heap_rule.specs.declared.view.View.{View}
use Rattle.heap_rule.specs.Births.{part}
use Rattle.heap_rule.specs.Maps.{Has}
use Rattle.heap_rule.specs.Views.{IsSeenSettled}
use Rattle.heap_text.specs.declared.faults.TextFull.{TextFull}
use Rattle.heap_read.specs.declared.string.JsStr.{JsStr}
use Rattle.heap_text.specs.Joins.{IsCopied, IsCopy, IsCut, IsJoined, IsNoId, IsPart, IsPartCut, IsTextRefused, IsRope, MIN_CONS, offset_of, parent_of}
use Rattle.js_units.specs.Lanes.{is_wide}

module _ (v w : View) (z : HeapSize) where
  pub joined_units : (most : ℕ) (a b t : JsStr) (us vs : List ℕ) → IsJoined v w z most a b us vs (Ok t) → Has w.units a.id us → Has w.units b.id vs → Has w.units t.id (us ++ vs)
  joined_units most a b t us vs h k l = dite (dec_le (length us + length vs) most)
      (λ m. fitting us vs h k l m)
      (λ m. let o = (h.long (omega arith)).0 in absurd (cc))
    where
      fitting : (us vs : List ℕ) → IsJoined v w z most a b us vs (Ok t) → Has w.units a.id us → Has w.units b.id vs → length us + length vs ≤ most → Has w.units t.id (us ++ vs)
      fitting [] vs h k l m = let e = h.left_empty m refl in let is : t ≡ b = (let same : t ≡ e.0 = (let o = e.1 in cc) in same ∙ e.2.0) in subst (λ (x : JsStr). Has w.units x.id vs) (sym is) l
      fitting (x ∷ us) [] h k l m = let e = h.right_empty m (omega arith) refl in let is : t ≡ a = (let same : t ≡ e.0 = (let o = e.1 in cc) in same ∙ e.2.0) in
          subst (λ (y : JsStr). Has w.units y.id ((x ∷ us) ++ [])) (sym is) (subst (Has w.units a.id) (sym (append-nil (x ∷ us))) k)
      fitting (x ∷ us) (y ∷ vs) h k l m = dite (dec_le MIN_CONS (length (x ∷ us) + length (y ∷ vs)))
          (λ n. ⊎_elim
          (λ (c : (s : JsStr) × (Ok t ≡ Ok s) × IsRope v w a b s ((x ∷ us) ++ y ∷ vs)). let same : t ≡ c.0 = (let o = c.1 in cc) in subst
          (λ (q : JsStr). Has w.units q.id ((x ∷ us) ++ y ∷ vs)) (sym same) c.2.0)
          (λ c. let o = c.1 in absurd (cc))
          (h.rope m (omega arith) (omega arith) n))
          (λ n. ⊎_elim
          (λ (c : (s : JsStr) × (Ok t ≡ Ok s) × IsCopy v w s ((x ∷ us) ++ y ∷ vs)). let same : t ≡ c.0 = (let o = c.1 in cc) in subst
          (λ (q : JsStr). Has w.units q.id ((x ∷ us) ++ y ∷ vs)) (sym same) c.2.0)
          (λ c. let o = c.1 in absurd (cc))
          (h.short m (omega arith) (omega arith) (omega arith)))

  copied_units : (t : JsStr) (us : List ℕ) (r : Result JsStr TextFull) → r ≡ Ok t → IsCopied v w z us r → Has w.units t.id us × IsSeenSettled w t.id
  copied_units t us r is h = ⊎_elim
      (λ (c : (x : JsStr) × (r ≡ Ok x) × IsCopy v w x us). let same : t ≡ c.0 = (let o : Ok t ≡ Ok c.0 = sym is ∙ c.1 in cc) in
      subst (λ (y : JsStr). Has w.units y.id us × IsSeenSettled w y.id) (sym same) (c.2.0, (Flat (is_wide us) c.2.1.0 false, c.2.1.1, λ x. x)))
      (λ (c : (f : TextFull) × (r ≡ Err f) × IsTextRefused v w z us f). let o : Ok t ≡ Err c.0 = sym is ∙ c.1 in absurd (cc)) h

  part_units : (s t : JsStr) (from : ℕ) (us : List ℕ) (r : Result JsStr TextFull) → r ≡ Ok t → IsPartCut v w z s from us r → Has w.units t.id us × IsSeenSettled w t.id
  part_units s t from us r is h = ⊎_elim
      (λ (c : (x : JsStr) × (r ≡ Ok x) × IsPart v w s from x us). let same : t ≡ c.0 = (let o : Ok t ≡ Ok c.0 = sym is ∙ c.1 in cc) in let q = c.2.1 in
      subst (λ (y : JsStr). Has w.units y.id us × IsSeenSettled w y.id) (sym same) (c.2.0, (Sliced q.1 (parent_of s.id q.0) (offset_of q.0 + from), q.4, λ x. x)))
      (λ (c : (f : TextFull) × (r ≡ Err f) × IsNoId v w z f). let o : Ok t ≡ Err c.0 = sym is ∙ c.1 in absurd (cc)) h

  other_units : (s t : JsStr) (from to : ℕ) (us : List ℕ) → IsCut v w z s from to us (Ok t) → (0 < from) ⊎ (to < length us) → Has w.units t.id (part from (to - from) us) × IsSeenSettled w t.id
  other_units s t from to us h other = dite (dec_le MIN_CONS (to - from))
      (λ l. part_units s t from (part from (to - from) us) (Ok t) refl (h.long other l))
      (λ l. copied_units t (part from (to - from) us) (Ok t) refl (h.short other (omega arith)))

  pub cut_units : (s t : JsStr) (from to : ℕ) (us : List ℕ) → IsCut v w z s from to us (Ok t) → Has w.units s.id us → IsSeenSettled w s.id →
      from ≤ to → to ≤ length us → Has w.units t.id (part from (to - from) us) × IsSeenSettled w t.id
  cut_units s t from to us h k settled l m = dite (ℕ_discrete from 0)
      (λ (e : from ≡ 0). dite (ℕ_discrete to (length us))
      (λ f. let g = h.whole e f in let is : t ≡ s = (let same : t ≡ g.0 = (let o = g.1 in cc) in same ∙ g.2.0) in
      let all : part from (to - from) us ≡ us = (let n : length us ≤ to - from = omega arith in ap (λ (o : ℕ). part o (to - from) us) e ∙ take_all (to - from) us n) in
      subst (λ (y : JsStr). Has w.units y.id (part from (to - from) us) × IsSeenSettled w y.id) (sym is) (subst (Has w.units s.id) (sym all) k, settled))
      (λ ne. other_units s t from to us h (inr (omega arith))))
      (λ ne. other_units s t from to us h (inl (omega arith)))

  pub cut_all : (s : JsStr) (from to : ℕ) (r : Result JsStr TextFull) → ((us : List ℕ) → Has v.units s.id us → IsCut v w z s from to us r ×
      Has w.units s.id us × (from ≤ to) × (to ≤ length us)) → IsSeenSettled w s.id
      → IfOk r (λ t. (us : List ℕ) → Has v.units s.id us → Has w.units t.id (part from (to - from) us))
  cut_all s from to (Ok t) f settled = λ us h. let q = f us h in (cut_units s t from to us q.0 q.1 settled q.2 q.3).0
  cut_all s from to (Err e) f settled = tt

  pub cut_settled : (s : JsStr) (from to : ℕ) (us : List ℕ) (r : Result JsStr TextFull) → IsCut v w z s from to us r → Has w.units s.id us →
      from ≤ to → to ≤ length us → IsSeenSettled w s.id → IfOk r (λ t. IsSeenSettled w t.id)
  cut_settled s from to us (Ok t) c h l m settled = (cut_units s t from to us c h settled l m).1
  cut_settled s from to us (Err e) c h l m settled = tt
