-- Units packed into words, the last lane first.
use Rattle.std.proofs.Common.{◌≡◌, ℕ, zero, suc, ◌+◌, ◌-◌, ◌*◌, ◌/◌, ◌%◌, ◌^◌, ◌<◌, ◌≤◌, Bool, true, false, List, [], ◌∷◌, length, get_or, sym, refl, ap, ◌∙◌, arith}
use Rattle.std.specs.Prelude.{min, nat_lt, ◌||◌}
use Rattle.std.proofs.Math.Nat.{one-le-pow, pow-le-pow_right}
use Rattle.std.proofs.lemmas.List.{get_or_past}
use Rattle.std.proofs.lemmas.Nat.{div_below}
use mathlib.Core.Logic.{dite}
use native.Mathlib.Decide.{dec_le}
use Rattle.std.proofs.lemmas.Bool.{lt-ltb}
use Rattle.js_units.specs.Lanes.{IsWordOf, is_wide, lane_base, lane_count, lane_of, words_over}

pub first_lane : (wide : Bool) (word unit : ℕ) → unit < lane_base wide → lane_of wide (word * lane_base wide + unit) 0 ≡ unit
unfolding lane_of
first_lane true word unit l = let e : (word * 65536 + unit) / 1 % 65536 ≡ unit = omega arith in e
first_lane false word unit l = let e : (word * 256 + unit) / 1 % 256 ≡ unit = omega arith in e

pub next_lane : (wide : Bool) (k word unit : ℕ) → unit < lane_base wide → suc k < lane_count wide → lane_of wide (word * lane_base wide + unit) (suc k) ≡ lane_of wide word k
unfolding lane_of
next_lane true zero word unit l m = let e : (word * 65536 + unit) / 65536 % 65536 ≡ word / 1 % 65536 = omega arith in e
next_lane true (suc zero) word unit l m = let e : (word * 65536 + unit) / 4294967296 % 65536 ≡ word / 65536 % 65536 = omega arith in e
next_lane true (suc (suc zero)) word unit l m = let e : (word * 65536 + unit) / 281474976710656 % 65536 ≡ word / 4294967296 % 65536 = omega arith in e
next_lane true (suc (suc (suc k))) word unit l m = absurd (omega arith)
next_lane false zero word unit l m = let e : (word * 256 + unit) / 256 % 256 ≡ word / 1 % 256 = omega arith in e
next_lane false (suc zero) word unit l m = let e : (word * 256 + unit) / 65536 % 256 ≡ word / 256 % 256 = omega arith in e
next_lane false (suc (suc zero)) word unit l m = let e : (word * 256 + unit) / 16777216 % 256 ≡ word / 65536 % 256 = omega arith in e
next_lane false (suc (suc (suc zero))) word unit l m = let e : (word * 256 + unit) / 4294967296 % 256 ≡ word / 16777216 % 256 = omega arith in e
next_lane false (suc (suc (suc (suc zero)))) word unit l m = let e : (word * 256 + unit) / 1099511627776 % 256 ≡ word / 4294967296 % 256 = omega arith in e
next_lane false (suc (suc (suc (suc (suc zero))))) word unit l m = let e : (word * 256 + unit) / 281474976710656 % 256 ≡ word / 1099511627776 % 256 = omega arith in e
next_lane false (suc (suc (suc (suc (suc (suc zero)))))) word unit l m = let e : (word * 256 + unit) / 72057594037927936 % 256 ≡ word / 281474976710656 % 256 = omega arith in e
next_lane false (suc (suc (suc (suc (suc (suc (suc k))))))) word unit l m = absurd (omega arith)

-- a word of so many lanes, with one more, is one of 64 bits
pub one_more : (wide : Bool) (d word unit : ℕ) → d < lane_count wide → word < lane_base wide ^ d → unit < lane_base wide →
    (word * lane_base wide + unit < lane_base wide ^ suc d) × (word * lane_base wide + unit < 2 ^ 64)
one_more true zero word unit d w u = let a : word * 65536 + unit < 65536 = omega arith in let b : word * 65536 + unit < 2 ^ 64 = omega arith in (a, b)
one_more true (suc zero) word unit d w u = let a : word * 65536 + unit < 4294967296 = omega arith in let b : word * 65536 + unit < 2 ^ 64 = omega arith in (a, b)
one_more true (suc (suc zero)) word unit d w u = let a : word * 65536 + unit < 281474976710656 = omega arith in let b : word * 65536 + unit < 2 ^ 64 = omega arith in (a, b)
one_more true (suc (suc (suc zero))) word unit d w u = let a : word * 65536 + unit < 18446744073709551616 = omega arith in (a, a)
one_more true (suc (suc (suc (suc k)))) word unit d w u = absurd (omega arith)
one_more false zero word unit d w u = let a : word * 256 + unit < 256 = omega arith in let b : word * 256 + unit < 2 ^ 64 = omega arith in (a, b)
one_more false (suc zero) word unit d w u = let a : word * 256 + unit < 65536 = omega arith in let b : word * 256 + unit < 2 ^ 64 = omega arith in (a, b)
one_more false (suc (suc zero)) word unit d w u = let a : word * 256 + unit < 16777216 = omega arith in let b : word * 256 + unit < 2 ^ 64 = omega arith in (a, b)
one_more false (suc (suc (suc zero))) word unit d w u = let a : word * 256 + unit < 4294967296 = omega arith in let b : word * 256 + unit < 2 ^ 64 = omega arith in (a, b)
one_more false (suc (suc (suc (suc zero)))) word unit d w u = let a : word * 256 + unit < 1099511627776 = omega arith in let b : word * 256 + unit < 2 ^ 64 = omega arith in (a, b)
one_more false (suc (suc (suc (suc (suc zero))))) word unit d w u = let a : word * 256 + unit < 281474976710656 = omega arith in let b : word * 256 + unit < 2 ^ 64 = omega arith in (a, b)
one_more false (suc (suc (suc (suc (suc (suc zero)))))) word unit d w u = let a : word * 256 + unit < 72057594037927936 = omega arith in let b : word * 256 + unit < 2 ^ 64 = omega arith in (a, b)
one_more false (suc (suc (suc (suc (suc (suc (suc zero))))))) word unit d w u = let a : word * 256 + unit < 18446744073709551616 = omega arith in (a, a)
one_more false (suc (suc (suc (suc (suc (suc (suc (suc k)))))))) word unit d w u = absurd (omega arith)

-- the lanes above the first are those of the word before
pub lanes_then : (wide : Bool) (d word unit : ℕ) (us : List ℕ) (o : ℕ) → d < lane_count wide → unit < lane_base wide → unit ≡ get_or us o 0
    → ((q : ℕ) → q < d → lane_of wide word q ≡ get_or us (suc o + q) 0) → (q : ℕ) → q < suc d → lane_of wide (word * lane_base wide + unit) q ≡ get_or us (o + q) 0
lanes_then wide d word unit us o l u is h zero m = let e : o ≡ o + 0 = omega arith in first_lane wide word unit u ∙ (is ∙ ap (λ (n : ℕ). get_or us n 0) e)
lanes_then wide d word unit us o l u is h (suc q) m = let e : suc o + q ≡ o + suc q = omega arith in next_lane wide q word unit u (omega arith) ∙ (h q (omega arith) ∙ ap (λ (n : ℕ). get_or us n 0) e)

none_by : (u : ℕ) (us : List ℕ) (b : Bool) → nat_lt 255 u ≡ b → u ≤ 255 → is_wide us ≡ false → (b || is_wide us) ≡ false
none_by u us true e l h = absurd (grind (arith, e))
none_by u us false e l h = h

pub none_wide : (us : List ℕ) → ((q : ℕ) → q < length us → get_or us q 0 ≤ 255) → is_wide us ≡ false
none_wide [] h = refl
none_wide (u ∷ us) h = none_by u us (nat_lt 255 u) refl (h 0 (omega arith)) (none_wide us (λ q l. h (suc q) (omega arith)))

or_right : (b c : Bool) → c ≡ true → (b || c) ≡ true
or_right true c e = refl
or_right false c e = e

pub some_wide : (us : List ℕ) (q : ℕ) → q < length us → 255 < get_or us q 0 → is_wide us ≡ true
some_wide [] q l h = absurd (omega arith)
some_wide (u ∷ us) zero l h = ap (λ b. b || is_wide us) (lt-ltb 255 u h)
some_wide (u ∷ us) (suc q) l h = or_right (nat_lt 255 u) (is_wide us) (some_wide us q (omega arith) h)

narrow_by : (u : ℕ) (us : List ℕ) (b : Bool) → nat_lt 255 u ≡ b → (b || is_wide us) ≡ false → (u ≤ 255) × (is_wide us ≡ false)
narrow_by u us true e h = absurd (cc)
narrow_by u us false e h = (grind (arith, e), h)

-- a unit fits a lane of its list
pub narrow_unit : (us : List ℕ) (q : ℕ) → is_wide us ≡ false → get_or us q 0 < 256
narrow_unit [] q h = omega arith
narrow_unit (u ∷ us) zero h = let t = (narrow_by u us (nat_lt 255 u) refl h).0 in omega arith
narrow_unit (u ∷ us) (suc q) h = narrow_unit us q (narrow_by u us (nat_lt 255 u) refl h).1

pub unit_fits : (wide : Bool) (us : List ℕ) (q : ℕ) → wide ≡ is_wide us → get_or us q 0 < 65536 → get_or us q 0 < lane_base wide
unit_fits true us q e l = l
unit_fits false us q e l = narrow_unit us q (sym e)

pub lane_fits : (wide : Bool) (us : List ℕ) (q : ℕ) → (wide ≡ false → (k : ℕ) → k < length us → get_or us k 0 < 256) → q < length us → get_or us q 0 < 65536 → get_or us q 0 < lane_base wide
lane_fits true us q f m l = l
lane_fits false us q f m l = f refl q m

-- units that take one-byte lanes are below 256
pub fits_of : (wide : Bool) (us : List ℕ) → wide ≡ is_wide us → wide ≡ false → (k : ℕ) → k < length us → get_or us k 0 < 256
fits_of wide us e f k l = narrow_unit us k (sym e ∙ f)

-- the lanes of a word of a string are numbered by 32 bits
pub lanes_small : (wide : Bool) (n at k : ℕ) → n ≤ 536870888 → at < words_over wide n → k < lane_count wide →
    (at * lane_count wide + (lane_count wide - 1 - k) < 2 ^ 32) × (at * lane_count wide < 2 ^ 32)
lanes_small true n at k s l m = (omega arith, omega arith)
lanes_small false n at k s l m = (omega arith, omega arith)

pub base_some : (wide : Bool) → 0 < lane_base wide
base_some true = omega arith
base_some false = omega arith

pow_some : (wide : Bool) (q : ℕ) → 0 < lane_base wide ^ q
pow_some wide q = let h = one-le-pow q (lane_base wide) (base_some wide) in omega arith

none_above : (p x : ℕ) → 0 < p → x < p → x / p ≡ 0
none_above p x s l = let h = div_below x p 1 s (omega arith) in omega arith

-- the lanes past those of a word are 0
pub lane_past : (wide : Bool) (d word q : ℕ) → word < lane_base wide ^ d → d ≤ q → lane_of wide word q ≡ 0
unfolding lane_of
lane_past true d word q w l = let h = pow-le-pow_right (base_some true) {i = d} {j = q} l in ap (λ (x : ℕ). x % 65536) (none_above (65536 ^ q) word (pow_some true q) (omega arith))
lane_past false d word q w l = let h = pow-le-pow_right (base_some false) {i = d} {j = q} l in ap (λ (x : ℕ). x % 256) (none_above (256 ^ q) word (pow_some false q) (omega arith))

-- a word packed of the units from `from` up to `to`, which are all that there are for its lanes
pub word_packed : (wide : Bool) (us : List ℕ) (at from to word : ℕ) → from ≡ at * lane_count wide → to ≡ min (length us) (from + lane_count wide) → word < lane_base wide ^ (to - from)
    → ((q : ℕ) → q < to - from → lane_of wide word q ≡ get_or us (from + q) 0) → IsWordOf wide us at word
word_packed wide us at from to word f t small lanes k l = dite (dec_le (to - from) k)
    (λ m. lane_past wide (to - from) word k small m ∙ sym (get_or_past us (at * lane_count wide + k) 0 (omega arith)))
    (λ m. lanes k (omega arith) ∙ ap (λ (n : ℕ). get_or us (n + k) 0) f)
