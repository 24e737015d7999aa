-- Loops over the entries of a map: a search for one that has a property, and the first that gives a value.
use Rattle.std.proofs.Common.{◌≡◌, ℕ, suc, ◌⊎◌, inl, inr, ⊎_elim, cond, List, [], ◌∷◌, map, sym, ap, ◌∙◌, subst, arith, Option, Some, None}
use Rattle.std.specs.List.{All}
use Rattle.std.specs.Ordering.{nat_cmp}
use Rattle.std.specs.Cmp.{unsigned_tied}
use Rattle.std.specs.FinMap.{FinMap, get, entries, keys, find, get-entries}
use mathlib.Core.Logic.{dite}
use native.Mathlib.Decide.{ℕ_discrete}
use Rattle.std.proofs.Common.{eq-eqb, ne_eqb}
use Rattle.heap_rule.specs.Maps.{Has, first_some, first_in}

module _ {X : Type 0} where
  abbrev pub In : List (ℕ × X) → ℕ → X → Type 0
  In [] k x = ⊥
  In (e ∷ es) k x = (e ≡ (k, x)) ⊎ In es k x

  in_found : (es : List (ℕ × X)) (k : ℕ) (x : X) → find nat_cmp k es ≡ Some x → In es k x
  in_found [] k x h = absurd (cc)
  in_found (e ∷ es) k x h = dite (ℕ_discrete k e.0)
      (λ is. let here : Some e.1 ≡ Some x = sym (ap (λ b. cond b (Some e.1) (find nat_cmp k es)) (unsigned_tied k e.0 ∙ eq-eqb k e.0 is)) ∙ h in let val : e.1 ≡ x = cc in inl (λ i. (sym is i, val i)))
      (λ ne. inr (in_found es k x (sym (ap (λ b. cond b (Some e.1) (find nat_cmp k es)) (unsigned_tied k e.0 ∙ ne_eqb k e.0 ne)) ∙ h)))

  abbrev pub IsFound : FinMap nat_cmp X → ℕ × X → Type 0
  IsFound m e = get m e.0 ≡ Some e.1

  -- every entry with the property is among those that are left, and these are entries
  abbrev pub Searching : (ℕ → X → Type 0) → FinMap nat_cmp X → List (ℕ × X) → Type 0
  Searching P m s = ((k : ℕ) (x : X) → Has m k x → P k x → In s k x) × All (IsFound m) s

  module _ (P : ℕ → X → Type 0) (m : FinMap nat_cmp X) where
    pub search_start : (s : List (ℕ × X)) → s ≡ entries m → All (IsFound m) (entries m) → Searching P m s
    search_start s e g = ((λ k x h p. subst (λ (l : List (ℕ × X)). In l k x) (sym e) (in_found (entries m) k x (sym (get-entries m k) ∙ h))), subst (All (IsFound m)) (sym e) g)

    tail_found : (s t : List (ℕ × X)) (k : ℕ) (x : X) → s ≡ (k, x) ∷ t → All (IsFound m) s → All (IsFound m) t
    tail_found s t k x e g = let h : All (IsFound m) ((k, x) ∷ t) = subst (All (IsFound m)) e g in λ j d l. h (suc j) d (omega arith)

    pub head_found : (s t : List (ℕ × X)) (k : ℕ) (x : X) → s ≡ (k, x) ∷ t → All (IsFound m) s → Has m k x
    head_found s t k x e g = let h : All (IsFound m) ((k, x) ∷ t) = subst (All (IsFound m)) e g in h 0 (k, x) (omega arith)

    pub search_next : (s t : List (ℕ × X)) (k : ℕ) (x : X) → s ≡ (k, x) ∷ t → (P k x → ⊥) → Searching P m s → Searching P m t
    search_next s t k x e not h = (
      (λ q y has p. ⊎_elim (λ (is : (k, x) ≡ (q, y)). absurd
          (not (subst (λ (z : ℕ × X). P z.0 z.1) (sym is) p))) (λ i. i) (subst (λ (l : List (ℕ × X)). In l q y) e (h.0 q y has p))),
      tail_found s t k x e h.1,
    )

    pub search_none : (s : List (ℕ × X)) → s ≡ [] → Searching P m s → (k : ℕ) (x : X) → Has m k x → P k x → ⊥
    search_none s e h k x has p = subst (λ (l : List (ℕ × X)). In l k x) e (h.0 k x has p)

  -- the first value that an entry gives
  module _ {Y : Type 0} (F : ℕ → Option X → Option Y) (m : FinMap nat_cmp X) where
    abbrev by_key : ℕ → Option Y
    by_key k = F k (get m k)

    abbrev pub Seeking : List (ℕ × X) → Type 0
    Seeking s = (first_in by_key (map (λ e. e.0) s) ≡ first_in by_key (keys m)) × All (IsFound m) s

    pub seek_start : (s : List (ℕ × X)) → s ≡ entries m → All (IsFound m) (entries m) → Seeking s
    seek_start s e g = (ap (λ (l : List (ℕ × X)). first_in by_key (map (λ e. e.0) l)) e, subst (All (IsFound m)) (sym e) g)

    seek_at : (s t : List (ℕ × X)) (k : ℕ) (x : X) (o : Option Y) → s ≡ (k, x) ∷ t → F k (Some x) ≡ o → Seeking s → first_some o (first_in by_key (map (λ e. e.0) t)) ≡ first_in by_key (keys m)
    seek_at s t k x o e is h = let here : Has m k x = head_found (λ _ _. Unit {0}) m s t k x e h.1 in
        (λ i. first_some ((sym is ∙ ap (F k) (sym here)) i) (first_in by_key (map (λ e. e.0) t))) ∙ (ap (λ (l : List (ℕ × X)). first_in by_key (map (λ e. e.0) l)) (sym e) ∙ h.0)

    pub seek_next : (s t : List (ℕ × X)) (k : ℕ) (x : X) → s ≡ (k, x) ∷ t → F k (Some x) ≡ None → Seeking s → Seeking t
    seek_next s t k x e is h = (seek_at s t k x None e is h, tail_found (λ _ _. Unit {0}) m s t k x e h.1)

    pub seek_hit : (s t : List (ℕ × X)) (k : ℕ) (x : X) (y : Y) → s ≡ (k, x) ∷ t → F k (Some x) ≡ Some y → Seeking s → Some y ≡ first_in by_key (keys m)
    seek_hit s t k x y e is h = seek_at s t k x (Some y) e is h

    pub seek_none : (s : List (ℕ × X)) → s ≡ [] → Seeking s → None ≡ first_in by_key (keys m)
    seek_none s e h = ap (λ (l : List (ℕ × X)). first_in by_key (map (λ e. e.0) l)) (sym e) ∙ h.0
