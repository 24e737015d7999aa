-- The hash of a list, unit by unit: h is the hash of the units before i, and the rest of the list goes on from it to the whole, g.
use Rattle.std.proofs.Common.{◌≡◌, ◌∙◌, ℕ, suc, ◌+◌, ◌<◌, ◌++◌, List, [], ◌∷◌, length, get_or, drop, drop-cons, refl, ap, subst, sym, arith}
use Rattle.js_units.specs.Lanes.{hash_after, hash_from}

pub hash_next : (h g i : ℕ) (us : List ℕ) → i < length us → hash_from h (drop i us) ≡ g → hash_from (hash_after h (get_or us i 0)) (drop (i + 1) us) ≡ g
hash_next h g i us l e = let one : suc i ≡ i + 1 = omega arith in let next : drop (suc i) us ≡ drop (i + 1) us = ap (λ (n : ℕ). drop n us) one in
    subst (λ (xs : List ℕ). hash_from (hash_after h (get_or us i 0)) xs ≡ g) next (ap (hash_from h) (sym (drop-cons us i 0 l)) ∙ e)

drop_all : (us : List ℕ) → drop (length us) us ≡ []
drop_all [] = refl
drop_all (u ∷ us) = drop_all us

pub hash_end : (h g i : ℕ) (us : List ℕ) → i ≡ length us → hash_from h (drop i us) ≡ g → h ≡ g
hash_end h g i us long e = sym (ap (hash_from h) (ap (λ (m : ℕ). drop m us) long ∙ drop_all us)) ∙ e

-- the hash of a list in two parts
pub hash_append : (h : ℕ) (us vs : List ℕ) → hash_from h (us ++ vs) ≡ hash_from (hash_from h us) vs
hash_append h [] vs = refl
hash_append h (u ∷ us) vs = hash_append (hash_after h u) us vs
