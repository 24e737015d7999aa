-- Lists of calls that begin with one another.
use Rattle.std.proofs.Common.{◌≡◌, ℕ, ◌+◌, ◌<◌, ◌≤◌, Bool, true, List, [], ◌∷◌, ◌++◌, append_assoc, length, take, drop, ◌-◌, get_or, sym, refl, ap, ◌∙◌, subst, IsTrue}
use Rattle.std.proofs.lemmas.List.{drop_more, append_cancel_left, length-drop}
use Rattle.std.proofs.Math.Seq.{drop-append_seam, take-length}
use Rattle.std.proofs.Math.ListN.{drop_of_length-le}
use Rattle.heap_rule.specs.Paths.{Calls, StartsWith}

abbrev Call : Type 0
Call = List ℕ × ℕ

abbrev Both : Type 0 → Type 0 → Type 0
Both P Q = (P → Q) × (Q → P)

cons_start : (c f : Call) (cs fs : Calls) → c ≡ f → Both (StartsWith (c ∷ cs) (f ∷ fs)) (StartsWith cs fs)
cons_start c f cs fs e = ((λ h. (h.0, ap (drop 1) h.1)), (λ h. (h.0, λ i. e i ∷ h.1 i)))

heads : (c d : Call) (cs ds : Calls) → c ∷ cs ≡ d ∷ ds → c ≡ d
heads c d cs ds e = ap (λ l. get_or l 0 c) e

abbrev pub Goes : Calls → Calls → ℕ → Type 0
Goes calls front i = (StartsWith (drop i calls) (drop i front) → StartsWith calls front) × (StartsWith calls front → StartsWith (drop i calls) (drop i front))

module _ (calls front : Calls) (i : ℕ) (d : Call) (inside : i < length calls) (within : i < length front) where
  there : Both (StartsWith (drop i calls) (drop i front)) (StartsWith (get_or calls i d ∷ drop (i + 1) calls) (get_or front i d ∷ drop (i + 1) front))
  there = (
    (λ h. subst (λ (p : Calls × Calls). StartsWith p.0 p.1) (λ k. (drop_more calls i d inside k, drop_more front i d within k)) h),
    (λ h. subst (λ (p : Calls × Calls). StartsWith p.0 p.1) (λ k. (sym (drop_more calls i d inside) k, sym (drop_more front i d within) k)) h),
  )

  pub same_next : get_or calls i d ≡ get_or front i d → Goes calls front i → Goes calls front (i + 1)
  same_next e g = let s = cons_start (get_or calls i d) (get_or front i d) (drop (i + 1) calls) (drop (i + 1) front) e in ((λ h. g.0 (there.1 (s.1 h))), (λ h. s.0 (there.0 (g.1 h))))

  pub other_next : (get_or calls i d ≡ get_or front i d → ⊥) → Goes calls front i → StartsWith calls front → ⊥
  other_next ne g h = let t = there.0 (g.1 h) in ne (heads _ _ _ _ t.1)

pub at_end : (calls front : Calls) (i : ℕ) → length front ≤ i → Goes calls front i → (IsTrue true → StartsWith calls front) × (StartsWith calls front → IsTrue true)
at_end calls front i l g = ((λ _. g.0 (drop i calls, ap (λ (f : Calls). f ++ drop i calls) (sym (drop_of_length-le front l)))), (λ _. refl))

-- one more call taken over
pub add_step : (have items all have' : Calls) (i : ℕ) (d x : Call) → i < length items → have ++ drop i items ≡ all → have' ≡ have ++ x ∷ [] → x ≡ get_or items i d → have' ++ drop (i + 1) items ≡ all
add_step have items all have' i d x l e is val = (λ k. is k ++ drop (i + 1) items) ∙
    (append_assoc have (x ∷ []) (drop (i + 1) items) ∙ ((λ k. have ++ val k ∷ drop (i + 1) items) ∙ ((λ k. have ++ sym (drop_more items i d l) k) ∙ e)))

continues_as : (a l r : Calls) (b : Bool) → (IsTrue b → StartsWith l r) × (StartsWith l r → IsTrue b) → (IsTrue b → StartsWith (a ++ l) (a ++ r)) × (StartsWith (a ++ l) (a ++ r) → IsTrue b)
continues_as a l r b t = (
  (λ h. let s = t.0 h in (s.0, ap (λ (q : Calls). a ++ q) s.1 ∙ sym (append_assoc a r s.0))),
  (λ s. t.1 (s.0, append_cancel_left a l (r ++ s.0) (s.1 ∙ append_assoc a r s.0))),
)

-- what follows a front, by the rest behind it
pub continues_by : (a l f l' g : Calls) (n : ℕ) (b : Bool) → l' ≡ l → g ≡ f → n ≡ length a → StartsWith f a →
    (IsTrue b → StartsWith l' (take (length g - n) (drop n g))) × (StartsWith l' (take (length g - n) (drop n g)) → IsTrue b)
    → (IsTrue b → StartsWith (a ++ l) f) × (StartsWith (a ++ l) f → IsTrue b)
continues_by a l f l' g n b el eg en s t =
    let rest : take (length g - n) (drop n g) ≡ s.0 = ap (λ m. take m (drop n g)) (sym (length-drop n g)) ∙
    (take-length (drop n g) ∙ ((λ k. drop (en k) ((eg ∙ s.1) k)) ∙ drop-append_seam a s.0)) in
    subst (λ (q : Calls). (IsTrue b → StartsWith (a ++ l) q) × (StartsWith (a ++ l) q → IsTrue b)) (sym s.1)
    (continues_as a l s.0 b (subst (λ (p : Calls × Calls). (IsTrue b → StartsWith p.0 p.1) × (StartsWith p.0 p.1 → IsTrue b)) (λ k. (el k, rest k)) t))
