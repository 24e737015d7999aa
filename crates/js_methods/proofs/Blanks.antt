-- Blank units at the end of a list, read backwards.
use Rattle.std.proofs.Common.{◌≡◌, ℕ, ◌+◌, ◌-◌, ◌<◌, ◌≤◌, List, length, drop, reverse, get_or, arith, ap, ◌∙◌, Bool, true, false, cond, ◌∷◌}
use Rattle.std.proofs.lemmas.List.{get_or-reverse, get_or-drop, length-drop, length-reverse, drop_more}
use Rattle.std.proofs.lemmas.List.Sums.{prefix_len-le-length}
use Rattle.js_units.specs.Text.{is_blank}
use Rattle.js_methods.specs.Blanks.{blanks}

by_blank : (b : Bool) (x : ℕ) (xs : List ℕ) → is_blank x ≡ b → blanks (x ∷ xs) ≡ cond b (1 + blanks xs) 0
by_blank b x xs h = ap (λ c. cond c (1 + blanks xs) 0) h

blanks_on : (b : Bool) (xs : List ℕ) (n : ℕ) → n < length xs → is_blank (get_or xs n 0) ≡ b → blanks (drop n xs) ≡ cond b (1 + blanks (drop (n + 1) xs)) 0
blanks_on b xs n h e = ap blanks (drop_more xs n 0 h) ∙ by_blank b (get_or xs n 0) (drop (n + 1) xs) e

back_length : (u : List ℕ) (from : ℕ) → length (reverse (drop from u)) ≡ length u - from
back_length u from = simp (length-reverse, length-drop)

-- the unit before j stands there, from the end
back_unit : (u : List ℕ) (from j : ℕ) → from < j → j ≤ length u → get_or (reverse (drop from u)) (length u - j) 0 ≡ get_or u (j - 1) 0
back_unit u from j h k =
    let m : length u - j < length (drop from u) = omega (arith, length-drop from u) in
    let place : from + (length (drop from u) - 1 - (length u - j)) ≡ j - 1 = omega (arith, length-drop from u) in
    get_or-reverse (drop from u) (length u - j) 0 m ∙ get_or-drop from u (length (drop from u) - 1 - (length u - j)) 0 ∙ ap (λ i. get_or u i 0) place

back_on : (b : Bool) (u : List ℕ) (from j : ℕ) → from < j → j ≤ length u → is_blank (get_or u (j - 1) 0) ≡ b → blanks
    (drop (length u - j) (reverse (drop from u))) ≡ cond b (1 + blanks (drop (length u - j + 1) (reverse (drop from u)))) 0
back_on b u from j h k e = blanks_on b (reverse (drop from u)) (length u - j) (omega (arith, back_length u from)) (ap is_blank (back_unit u from j h k) ∙ e)

pub back_more : (u : List ℕ) (from j : ℕ) → from < j → j ≤ length u → is_blank (get_or u (j - 1) 0) ≡ true → blanks (reverse (drop from u))
    ≡ (length u - j) + blanks (drop (length u - j) (reverse (drop from u))) → blanks (reverse (drop from u)) ≡ (length u - (j - 1)) + blanks
    (drop (length u - (j - 1)) (reverse (drop from u)))
back_more u from j h k e r =
    let place : length u - j + 1 ≡ length u - (j - 1) = omega arith in
    let on = back_on true u from j h k e ∙ ap (λ n. 1 + blanks (drop n (reverse (drop from u)))) place in
    omega (arith, r, on)

pub back_stop : (u : List ℕ) (from j : ℕ) → from < j → j ≤ length u → is_blank (get_or u (j - 1) 0) ≡ false → blanks (reverse (drop from u))
    ≡ (length u - j) + blanks (drop (length u - j) (reverse (drop from u))) → j + blanks (reverse (drop from u)) ≡ length u
back_stop u from j h k e r = omega (arith, r, back_on false u from j h k e)

pub back_all : (u : List ℕ) (from j : ℕ) → from ≤ length u → j ≤ from → blanks (reverse (drop from u)) ≡ (length u - j) + blanks
    (drop (length u - j) (reverse (drop from u))) → from + blanks (reverse (drop from u)) ≡ length u
back_all u from j h k r = omega (arith, r, prefix_len-le-length is_blank (reverse (drop from u)), back_length u from)
