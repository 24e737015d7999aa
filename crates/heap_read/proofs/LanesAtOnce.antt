-- The lanes of a word that is packed of some units at once, and whether one of these is over 255.
use Rattle.std.proofs.Common.{◌≡◌, ℕ, zero, suc, ◌+◌, ◌-◌, ◌*◌, ◌/◌, ◌%◌, ◌^◌, ◌<◌, ◌≤◌, Bool, true, false, List, [], ◌∷◌, length, map, take, drop, get_or, sym, refl, ap, ◌∙◌, arith, Fits, w8, w16}
use Rattle.std.specs.Prelude.{nat_lt, ◌||◌}
use Rattle.std.specs.Simd.Lanes.{Each1, chunk, digits_l, number_l}
use Rattle.std.proofs.Math.Nat.{div-lt_iff_lt-mul, mod-add-div, pow-suc, pow-zero}
use Rattle.std.proofs.lemmas.List.{length-drop, take_all}
use Rattle.std.proofs.lemmas.List.Folds.{list_any-append}
use Rattle.std.proofs.lemmas.Simd.{Each1-from_get_or, Each1-weaker, below_from_Fits, chunk-drop, chunk-fits, get_or-chunk, length-chunk}
use Rattle.js_units.specs.Lanes.{is_wide, lane_base, lane_count, lane_of}
use Rattle.js_units.proofs.PackedWords.{first_lane, next_lane}

-- whether one of the units from place `at` on is wide, by the n next ones and those behind them
pub wide_rest : (us : List ℕ) (at n : ℕ) → is_wide (drop at us) ≡ (is_wide (chunk at n us) || is_wide (drop (at + n) us))
wide_rest us at n = ap is_wide (chunk-drop at n us) ∙ list_any-append (λ u. nat_lt 255 u) (chunk at n us) (drop (at + n) us)

pub wide_here : (us : List ℕ) (at n : ℕ) (all : Bool) → is_wide (drop at us) ≡ all → is_wide (chunk at n us) ≡ true → all ≡ true
wide_here us at n all e h = sym e ∙ (wide_rest us at n ∙ ap (λ (b : Bool). b || is_wide (drop (at + n) us)) h)

pub wide_behind : (us : List ℕ) (at n : ℕ) (all : Bool) → is_wide (drop at us) ≡ all → is_wide (chunk at n us) ≡ false → is_wide (drop (at + n) us) ≡ all
wide_behind us at n all e h = sym (ap (λ (b : Bool). b || is_wide (drop (at + n) us)) h) ∙ (sym (wide_rest us at n) ∙ e)

turned : (wide : Bool) (word unit : ℕ) → unit + lane_base wide * word ≡ word * lane_base wide + unit
turned true word unit = omega arith
turned false word unit = omega arith

-- a number of its digits, as lanes of a word
pub packed_lane : (wide : Bool) (xs : List ℕ) (k : ℕ) → Each1 (λ x. x < lane_base wide) xs → k < length xs → k < lane_count wide → lane_of wide (number_l (lane_base wide) xs) k ≡ get_or xs k 0
packed_lane wide [] k h l m = absurd (omega arith)
packed_lane wide (x ∷ xs) zero h l m = let w : ℕ = number_l (lane_base wide) xs in ap (λ (n : ℕ). lane_of wide n 0) (turned wide w x) ∙ first_lane wide w x h.0
packed_lane wide (x ∷ xs) (suc k) h l m =
    let w : ℕ = number_l (lane_base wide) xs in ap (λ (n : ℕ). lane_of wide n (suc k)) (turned wide w x) ∙
    (next_lane wide k w x h.0 m ∙ packed_lane wide xs k h.1 (omega (arith, l)) (omega arith))

-- a number of its digits
number_digits : (p n x : ℕ) → 0 < p → x < p ^ n → number_l p (digits_l p n x) ≡ x
number_digits p zero x pos h = let o = pow-zero p in let e : x ≡ 0 = omega (arith, o) in sym e
number_digits p (suc n) x pos h =
    let below : x / p < p ^ n = (div-lt_iff_lt-mul pos).1 (let e = pow-suc p n in omega arith) in
    ap (λ y. x % p + p * y) (number_digits p n (x / p) pos below) ∙ mod-add-div x p

-- a list of digits is a number below the power of their count
byte_number : (n : ℕ) (xs : List ℕ) → length xs ≡ n → Each1 (λ x. x < 256) xs → number_l 256 xs < 256 ^ n
byte_number zero [] l h = omega arith
byte_number zero (x ∷ xs) l h = absurd (omega (arith, l))
byte_number (suc n) [] l h = absurd (omega (arith, l))
byte_number (suc n) (x ∷ xs) l h = let b = byte_number n xs (omega (arith, l)) h.1 in let s = h.0 in let e = pow-suc 256 n in omega arith

pair_number : (n : ℕ) (xs : List ℕ) → length xs ≡ n → Each1 (λ x. x < 65536) xs → number_l 65536 xs < 65536 ^ n
pair_number zero [] l h = omega arith
pair_number zero (x ∷ xs) l h = absurd (omega (arith, l))
pair_number (suc n) [] l h = absurd (omega (arith, l))
pair_number (suc n) (x ∷ xs) l h = let b = pair_number n xs (omega (arith, l)) h.1 in let s = h.0 in let e = pow-suc 65536 n in omega arith

eight_below : (xs : List ℕ) → length xs ≡ 8 → Each1 (λ x. x < 256) xs → number_l 256 xs < 2 ^ 64
eight_below xs l h = let b = byte_number 8 xs l h in omega arith

four_below : (xs : List ℕ) → length xs ≡ 4 → Each1 (λ x. x < 65536) xs → number_l 65536 xs < 2 ^ 64
four_below xs l h = let b = pair_number 4 xs l h in omega arith

-- a word of one lane
one_lane : (x : ℕ) → x < 2 ^ 64 → get_or (digits_l (2 ^ 64) 1 x) 0 0 ≡ x
one_lane x l = omega arith

bytes_below : (us : List ℕ) (at : ℕ) → at + 8 ≤ length us → ((k : ℕ) → k < 8 → get_or us (at + k) 0 < 256) → Each1 (λ x. x < 256) (chunk at 8 us)
bytes_below us at room fits = let long = length-chunk at 8 us room in Each1-from_get_or (λ x. x < 256) (chunk at 8 us) 0
    (λ k l. let m : k < 8 = omega arith in let e = get_or-chunk at 8 us k 0 m in let f = fits k m in omega arith)

fits_byte : (x : ℕ) → x < 256 → Fits w8 x
fits_byte x l = record { fits = l }

pub bytes_fit : (us : List ℕ) (at : ℕ) → at + 8 ≤ length us → ((k : ℕ) → k < 8 → get_or us (at + k) 0 < 256) → Each1 (Fits w8) (chunk at 8 us)
bytes_fit us at room fits = Each1-weaker (λ x. x < 256) (Fits w8) fits_byte (chunk at 8 us) (bytes_below us at room fits)

map_same : (f : ℕ → ℕ) → ((x : ℕ) → x < 256 → f x ≡ x) → (xs : List ℕ) → Each1 (λ x. x < 256) xs → map f xs ≡ xs
map_same f same [] h = refl
map_same f same (x ∷ xs) h = λ i. same x h.0 i ∷ map_same f same xs h.1 i

-- f is the cast of a unit to a byte, which changes none of these
pub narrow_packed : (us : List ℕ) (at k : ℕ) (f : ℕ → ℕ) → ((x : ℕ) → x < 256 → f x ≡ x) → at + 8 ≤ length us → ((j : ℕ) → j < 8 → get_or us (at + j) 0 < 256) → k < 8
    → lane_of false (get_or (digits_l (2 ^ 64) 1 (number_l 256 (map f (chunk at 8 us)))) 0 0) k ≡ get_or us (at + k) 0
narrow_packed us at k f same room fits l = let xs : List ℕ = chunk at 8 us in let long = length-chunk at 8 us room in let small = bytes_below us at room fits in
    ap (λ (ys : List ℕ). lane_of false (get_or (digits_l (2 ^ 64) 1 (number_l 256 ys)) 0 0) k) (map_same f same xs small)
    ∙ (ap (λ (n : ℕ). lane_of false n k) (one_lane (number_l 256 xs) (eight_below xs long small)) ∙ (packed_lane false xs k small (omega arith) l ∙ get_or-chunk at 8 us k 0 l))

pub wide_packed : (us : List ℕ) (at k : ℕ) → at + 4 ≤ length us → ((j : ℕ) → Fits w16 (get_or us j 0)) → k < 4
    → lane_of true (get_or (digits_l (2 ^ 64) 1 (number_l 256 (digits_l 256 8 (number_l 65536 (chunk at 4 us))))) 0 0) k ≡ get_or us (at + k) 0
wide_packed us at k room fits l = let xs : List ℕ = chunk at 4 us in let long = length-chunk at 4 us room in
    let small : Each1 (λ x. x < 65536) xs = below_from_Fits w16 xs (chunk-fits w16 at 4 us fits) in let n = four_below xs long small in
    let bytes : number_l 256 (digits_l 256 8 (number_l 65536 xs)) ≡ number_l 65536 xs = number_digits 256 8 (number_l 65536 xs) (omega arith) n in
    ap (λ (m : ℕ). lane_of true (get_or (digits_l (2 ^ 64) 1 m) 0 0) k) bytes
    ∙ (ap (λ (m : ℕ). lane_of true m k) (one_lane (number_l 65536 xs) n) ∙ (packed_lane true xs k small (omega arith) l ∙ get_or-chunk at 4 us k 0 l))

-- the units behind the last ones that were looked at together
pub last_wide : (us : List ℕ) (at : ℕ) → is_wide (take (length us - at) (drop at us)) ≡ is_wide (drop at us)
last_wide us at = let d = length-drop at us in ap is_wide (take_all (length us - at) (drop at us) (omega arith))
