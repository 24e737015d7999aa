-- One map laid over another, entry by entry.
use Rattle.std.proofs.Common.{◌≡◌, ℕ, suc, List, ◌∷◌, map, sym, refl, ap, ◌∙◌, subst, arith, Option, Some, None}
use Rattle.std.specs.List.{All}
use Rattle.std.specs.Ordering.{nat_cmp}
use Rattle.std.specs.FinMap.{FinMap, get, insert, entries, empty, same_map, nat_cmp-IsAntisymmetric}
use Rattle.std.specs.Cmp.{nat_cmp_total}
use Rattle.heap_rule.specs.Maps.{Has, put_if_some, laid_at, laid_over, upper_one}
use Rattle.heap_rule.proofs.MapLemmas.{nothing_has, has_key, key_of}
use Rattle.heap_rule.proofs.Joining.{laid_has, laid_takes}

alike : {X : Type 0} (o p : Option X) → ((x : X) → o ≡ Some x → p ≡ Some x) → ((x : X) → p ≡ Some x → o ≡ Some x) → o ≡ p
alike (Some x) p f g = sym (f x refl)
alike None (Some y) f g = g y refl
alike None None f g = refl

module _ {X : Type 0} (f : Option X → X → X) (upper all : FinMap nat_cmp X) where
  abbrev pub IsFound : ℕ × X → Type 0
  IsFound e = get upper e.0 ≡ Some e.1

  pub lay_start : (m : FinMap nat_cmp X) (s : List (ℕ × X)) → s ≡ entries upper → All IsFound (entries upper) → (laid_at f m upper (map (λ e. e.0) s) ≡ laid_over f m upper) × All IsFound s
  lay_start m s e g = (ap (λ (l : List (ℕ × X)). laid_at f m upper (map (λ e. e.0) l)) e, subst (All IsFound) (sym e) g)

  -- the next entry
  pub lay_step : (m m' : FinMap nat_cmp X) (s t : List (ℕ × X)) (k : ℕ) (x y : X) → s ≡ (k, x) ∷ t → laid_at f m upper (map (λ e. e.0) s) ≡ all → All IsFound s → m' ≡ insert m k y → y ≡ f (get m k) x
      → (laid_at f m' upper (map (λ e. e.0) t) ≡ all) × All IsFound t
  lay_step m m' s t k x y e h g is val =
      let h' : laid_at f (put_if_some f m k (get upper k)) upper (map (λ e. e.0) t) ≡ all = subst
      (λ (l : List (ℕ × X)). laid_at f m upper (map (λ e. e.0) l) ≡ all) e h in
      let g' : All IsFound ((k, x) ∷ t) = subst (All IsFound) e g in let here : get upper k ≡ Some x = g' 0 (k, x) (omega arith) in (
        (λ i. laid_at f ((is ∙ (ap (insert m k) val ∙ ap (put_if_some f m k) (sym here))) i) upper (map (λ e. e.0) t)) ∙ h',
        (λ j d l. g' (suc j) d (omega arith)),
      )

-- laid over nothing, a map is itself
pub laid_alone : {X : Type 0} (u : FinMap nat_cmp X) → laid_over upper_one empty u ≡ u
laid_alone u = let m = laid_over upper_one empty u in
    let back = laid_has upper_one (λ q x. Has u q x) (λ k o x h p. p) empty u (λ q x e. absurd (nothing_has q x e)) (λ q x e. e) in
    same_map nat_cmp_total nat_cmp-IsAntisymmetric m u (λ q. alike (get m q) (get u q) (λ x e. back q x e)
    (λ x e. let p = has_key m q (laid_takes upper_one empty u q (key_of u q x e)) in p.1 ∙ (sym (back q p.0 p.1) ∙ e)))
