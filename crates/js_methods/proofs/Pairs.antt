-- Pairs of surrogates, unit by unit.
use Rattle.std.proofs.Common.{◌≡◌, ℕ, List, [], ◌∷◌, Bool, true, false, refl, ap, sym, ◌∙◌}
use Rattle.std.specs.Prelude.{not, ◌&&◌, if◌then◌else◌, IsTrue, ◌↔◌}
use Rattle.js_units.specs.Text.{is_lead, is_trail, alone, well}
use Rattle.js_methods.specs.Testing.{all_paired, is_surrogate}

-- whether what is left of a list is in pairs, where a leading surrogate before it may wait for its trailing one
abbrev pub paired_after : Bool → List ℕ → Bool
paired_after false us = all_paired us
paired_after true [] = false
paired_after true (v ∷ us) = is_trail v && all_paired us

alone_kept : (b : Bool) (u : ℕ) → not b ≡ true → (if b then 0xFFFD else u) ≡ u
alone_kept true u h = cc
alone_kept false u h = refl

alone_changed : (b : Bool) (u : ℕ) → is_surrogate u ≡ b → (if b then 0xFFFD else u) ≡ u → not b ≡ true
alone_changed true u s e = absurd (let h : false ≡ true = ap is_surrogate e ∙ s in cc)
alone_changed false u s e = refl

both_kept : (p s a b : Bool) (u v x : ℕ) (us ws vs : List ℕ) → (a ≡ true → ws ≡ us) → (s ≡ true → x ≡ u) → (b ≡ true → vs ≡ v ∷ us) →
    (if p then a else s && b) ≡ true → (if p then u ∷ v ∷ ws else x ∷ vs) ≡ u ∷ v ∷ us
both_kept true s a b u v x us ws vs f g k h = ap (λ r. u ∷ v ∷ r) (f h)
both_kept false true a b u v x us ws vs f g k h = cc (g refl, k h)
both_kept false false a b u v x us ws vs f g k h = cc

both_changed : (p s a b : Bool) (u v x : ℕ) (us ws vs : List ℕ) → (ws ≡ us → a ≡ true) → (x ≡ u → s ≡ true) → (vs ≡ v ∷ us → b ≡ true) →
    (if p then u ∷ v ∷ ws else x ∷ vs) ≡ u ∷ v ∷ us → (if p then a else s && b) ≡ true
both_changed true s a b u v x us ws vs f g k h = f (cc)
both_changed false s a b u v x us ws vs f g k h = let m : s ≡ true = g (cc) in let n : b ≡ true = k (cc) in rw (m) n

-- replacing what is unpaired changes nothing exactly where all is in pairs
kept_of_paired : (u : List ℕ) → all_paired u ≡ true → well u ≡ u
kept_of_paired [] h = refl
kept_of_paired (u ∷ []) h = ap (λ x. x ∷ []) (alone_kept (is_surrogate u) u h)
kept_of_paired (u ∷ v ∷ us) h = both_kept (is_lead u && is_trail v) (not (is_surrogate u)) (all_paired us) (all_paired (v ∷ us)) u v
    (alone u) us (well us) (well (v ∷ us)) (kept_of_paired us) (alone_kept (is_surrogate u) u) (kept_of_paired (v ∷ us)) h

paired_of_kept : (u : List ℕ) → well u ≡ u → all_paired u ≡ true
paired_of_kept [] h = refl
paired_of_kept (u ∷ []) h = let e : alone u ≡ u = cc in alone_changed (is_surrogate u) u refl e
paired_of_kept (u ∷ v ∷ us) h = both_changed (is_lead u && is_trail v) (not (is_surrogate u)) (all_paired us) (all_paired (v ∷ us)) u v
    (alone u) us (well us) (well (v ∷ us)) (paired_of_kept us) (alone_changed (is_surrogate u) u refl) (paired_of_kept (v ∷ us)) h

pub is_kept : (u : List ℕ) (r : Bool) → r ≡ all_paired u → IsTrue r ↔ (well u ≡ u)
is_kept u r e = (λ h. kept_of_paired u (sym e ∙ h), λ h. e ∙ paired_of_kept u h)
