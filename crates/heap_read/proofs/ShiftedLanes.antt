-- The lanes of words that are shifted, cut and put together.
use Rattle.std.proofs.Common.{◌≡◌, ℕ, zero, suc, ◌+◌, ◌-◌, ◌*◌, ◌/◌, ◌%◌, ◌^◌, ◌<◌, ◌≤◌, ◌⊎◌, inl, inr, ⊎_elim, Bool, true, false, List, length, get_or, refl, ap, sym, ◌∙◌, subst, arith}
use mathlib.Core.Bool.{beq}
use Rattle.std.specs.Prelude.{min, not}
use Rattle.std.proofs.lemmas.Bool.{cases_lt}
use Rattle.std.proofs.lemmas.Nat.{mul-add-lt}
use Rattle.std.proofs.Math.Nat.{mod-lt, pow-le-pow_right}
use Rattle.std.proofs.Math.Pow.{field, high, low, mod-mod-pow, pow_mono, pow_pos, pow-add, shl_exact, shr-shr}
use Rattle.js_units.specs.Lanes.{IsWordOf, is_wide, lane_base, lane_count, lane_of, words_over}
use Rattle.js_units.proofs.PackedWords.{base_some, lane_past, narrow_unit, word_packed}
use Rattle.heap_read.specs.declared.source.HeldWord.{HeldWord}
use Rattle.heap_read.specs.Filling.{IsPlaced}
use Rattle.heap_read.specs.Shifted.{HoldsLanes, lane_bits}
use Rattle.heap_read.specs.Written.{HasAt, HoldsUnits, held_unit}
use Rattle.heap_read.proofs.Comparison.{unit_held_is}

pub power_is : (wide : Bool) (k : ℕ) → lane_base wide ^ k ≡ 2 ^ (lane_bits wide * k)
power_is true zero = refl
power_is false zero = refl
power_is true (suc k) = let e : suc k ≡ k + 1 = omega arith in
    let f : 16 * suc k ≡ 16 * k + 16 = omega arith in ap (λ (n : ℕ). 65536 ^ n) e ∙
    (pow-add 65536 k 1 ∙ (ap (λ (n : ℕ). n * 65536) (power_is true k) ∙ sym (ap (λ (n : ℕ). 2 ^ n) f ∙ pow-add 2 (16 * k) 16)))
power_is false (suc k) = let e : suc k ≡ k + 1 = omega arith in
    let f : 8 * suc k ≡ 8 * k + 8 = omega arith in ap (λ (n : ℕ). 256 ^ n) e ∙
    (pow-add 256 k 1 ∙ (ap (λ (n : ℕ). n * 256) (power_is false k) ∙ sym (ap (λ (n : ℕ). 2 ^ n) f ∙ pow-add 2 (8 * k) 8)))

pub lane_shown : (wide : Bool) (x k : ℕ) → lane_of wide x k ≡ x / 2 ^ (lane_bits wide * k) % 2 ^ lane_bits wide
unfolding lane_of
lane_shown true x k = ap (λ (n : ℕ). x / n % 65536) (power_is true k)
lane_shown false x k = ap (λ (n : ℕ). x / n % 256) (power_is false k)

bits_sum : (wide : Bool) (s k : ℕ) → lane_bits wide * s + lane_bits wide * k ≡ lane_bits wide * (s + k)
bits_sum true s k = omega arith
bits_sum false s k = omega arith

bits_split : (wide : Bool) (c k : ℕ) → k < c → lane_bits wide * c ≡ lane_bits wide * (c - k - 1) + lane_bits wide + lane_bits wide * k
bits_split true c k l = omega arith
bits_split false c k l = omega arith

-- the lanes of a word that is shifted, and of its lowest lanes
pub lane_shifted : (wide : Bool) (x s k : ℕ) → lane_of wide (x / 2 ^ (lane_bits wide * s)) k ≡ lane_of wide x (s + k)
lane_shifted wide x s k = let b = lane_bits wide in let e : b * s + b * k ≡ b * (s + k) = bits_sum wide s k in
    lane_shown wide (x / 2 ^ (b * s)) k ∙ (ap (λ (n : ℕ). n % 2 ^ b) (shr-shr x (b * s) (b * k) ∙ ap (λ (n : ℕ). x / 2 ^ n) e) ∙ sym (lane_shown wide x (s + k)))

pub lane_cut : (wide : Bool) (x c k : ℕ) → k < c → lane_of wide (x % 2 ^ (lane_bits wide * c)) k ≡ lane_of wide x k
lane_cut wide x c k l = let b = lane_bits wide in let m : ℕ = b * (c - k - 1) in let e : b * c ≡ m + b + b * k = bits_split wide c k l in
    lane_shown wide (x % 2 ^ (b * c)) k ∙ (ap (λ (n : ℕ). x % 2 ^ n / 2 ^ (b * k) % 2 ^ b) e
    ∙ (ap (λ (n : ℕ). n % 2 ^ b) (field x (m + b) (b * k)) ∙ (mod-mod-pow (x / 2 ^ (b * k)) m b ∙ sym (lane_shown wide x k))))

pub bits_fit : (wide : Bool) (k : ℕ) → k ≤ lane_count wide → lane_bits wide * k ≤ 64
bits_fit true k l = omega arith
bits_fit false k l = omega arith

pub bits_below : (wide : Bool) (k : ℕ) → k < lane_count wide → lane_bits wide * k < 64
bits_below true k l = omega arith
bits_below false k l = omega arith

pub word_fits : (wide : Bool) (k : ℕ) → k ≤ lane_count wide → lane_base wide ^ k ≤ 2 ^ 64
word_fits wide k l = subst (λ (n : ℕ). n ≤ 2 ^ 64) (sym (power_is wide k)) (pow_mono (bits_fit wide k l))

-- the lanes of a word from `low` on
pub cut_holds : (wide : Bool) (word low count r : ℕ) → r ≡ word / 2 ^ (lane_bits wide * low) % 2 ^ (lane_bits wide * count) → HoldsLanes wide r count (λ k. lane_of wide word (low + k))
cut_holds wide word low count r e = let b = lane_bits wide in record {
  small = subst (λ (n : ℕ). n < lane_base wide ^ count) (sym e) (subst (λ (n : ℕ). word / 2 ^ (b * low) % 2 ^ (b * count) < n)
      (sym (power_is wide count)) (mod-lt (word / 2 ^ (b * low)) (pow_pos (b * count))));
  each = λ k l. ap (λ (n : ℕ). lane_of wide n k) e ∙ (lane_cut wide (word / 2 ^ (b * low)) count k l ∙ lane_shifted wide word low k);
}

-- a word with another one above its lowest lanes
pub above_low : (wide : Bool) (x y c q : ℕ) → x < lane_base wide ^ c → q < c → lane_of wide (x + y * 2 ^ (lane_bits wide * c)) q ≡ lane_of wide x q
above_low wide x y c q s l = let n : ℕ = lane_bits wide * c in let small : x < 2 ^ n = subst (λ (m : ℕ). x < m) (power_is wide c) s in let e : x + y * 2 ^ n ≡ y * 2 ^ n + x = omega arith in
    sym (lane_cut wide (x + y * 2 ^ n) c q l) ∙ ap (λ (m : ℕ). lane_of wide m q) (ap (λ (m : ℕ). m % 2 ^ n) e ∙ low y n small)

pub above_high : (wide : Bool) (x y c q : ℕ) → x < lane_base wide ^ c → lane_of wide (x + y * 2 ^ (lane_bits wide * c)) (c + q) ≡ lane_of wide y q
above_high wide x y c q s = let n : ℕ = lane_bits wide * c in let small : x < 2 ^ n = subst (λ (m : ℕ). x < m) (power_is wide c) s in let e : x + y * 2 ^ n ≡ y * 2 ^ n + x = omega arith in
    sym (lane_shifted wide (x + y * 2 ^ n) c q) ∙ ap (λ (m : ℕ). lane_of wide m q) (ap (λ (m : ℕ). m / 2 ^ n) e ∙ high y n small)

pub above_small : (wide : Bool) (x y c m : ℕ) → x < lane_base wide ^ c → y < lane_base wide ^ m → x + y * 2 ^ (lane_bits wide * c) < lane_base wide ^ (c + m)
above_small wide x y c m s t = let n : ℕ = lane_bits wide * c in let small : x < 2 ^ n = subst (λ (k : ℕ). x < k) (power_is wide c) s in
    let sum : y * 2 ^ n + x < 2 ^ n * lane_base wide ^ m = mul-add-lt y (2 ^ n) x (lane_base wide ^ m) t small in
    subst (λ (k : ℕ). x + y * 2 ^ n < k) (ap (λ (k : ℕ). k * lane_base wide ^ m) (sym (power_is wide c)) ∙ sym (pow-add (lane_base wide) c m)) (omega arith)

-- nothing is shifted out
pub above_exact : (wide : Bool) (y c m : ℕ) → c + m ≤ lane_count wide → y < lane_base wide ^ m → (y * 2 ^ (lane_bits wide * c)) % 2 ^ 64 ≡ y * 2 ^ (lane_bits wide * c)
above_exact wide y c m l t = let b = lane_bits wide in let fit = bits_fit wide (c + m) l in let e : b * c + b * m ≡ b * (c + m) = bits_sum wide c m in
    shl_exact (b * m) (b * c) 64 (subst (λ (k : ℕ). y < k) (power_is wide m) t) (omega arith)

pub above_fits : (wide : Bool) (x y c m : ℕ) → c + m ≤ lane_count wide → x < lane_base wide ^ c → y < lane_base wide ^ m → x + y * 2 ^ (lane_bits wide * c) < 2 ^ 64
above_fits wide x y c m l s t = let a = above_small wide x y c m s t in let b = word_fits wide (c + m) l in omega arith

lane_none : (wide : Bool) (q : ℕ) → lane_of wide 0 q ≡ 0
unfolding lane_of
lane_none true q = omega arith
lane_none false q = omega arith

pub none_above : (wide : Bool) (x y c q : ℕ) → y ≡ 0 → x < lane_base wide ^ c → lane_of wide x (c + q) ≡ lane_of wide y q
none_above wide x y c q e s = lane_past wide c x (c + q) s (omega arith) ∙ sym (ap (λ (n : ℕ). lane_of wide n q) e ∙ lane_none wide q)

pub none_small : (wide : Bool) (x c m : ℕ) → x < lane_base wide ^ c → x < lane_base wide ^ (c + m)
none_small wide x c m s = let h = pow-le-pow_right (base_some wide) {i = c} {j = c + m} (omega arith) in omega arith

-- one-byte lanes as two-byte ones
wide_lane : (x k : ℕ) → k < 4 → x < 2 ^ 32 → lane_of true (x % 256 + x / 256 % 256 * 65536 + x / 65536 % 256 * 4294967296 + x / 16777216 * 281474976710656) k ≡ lane_of false x k
unfolding lane_of
wide_lane x zero l s = let e : (x % 256 + x / 256 % 256 * 65536 + x / 65536 % 256 * 4294967296 + x / 16777216 * 281474976710656) / 1 % 65536 ≡ x / 1 % 256 = omega arith in e
wide_lane x (suc zero) l s = let e : (x % 256 + x / 256 % 256 * 65536 + x / 65536 % 256 * 4294967296 + x / 16777216 * 281474976710656) / 65536 % 65536 ≡ x / 256 % 256 = omega arith in e
wide_lane x (suc (suc zero)) l s = let e : (x % 256 + x / 256 % 256 * 65536 + x / 65536 % 256 * 4294967296 + x / 16777216 * 281474976710656) / 4294967296 % 65536 ≡ x / 65536 % 256 = omega arith in e
wide_lane x (suc (suc (suc zero))) l s =
    let e : (x % 256 + x / 256 % 256 * 65536 + x / 65536 % 256 * 4294967296 + x / 16777216 * 281474976710656) / 281474976710656 % 65536 ≡
    x / 16777216 % 256 = omega arith in e
wide_lane x (suc (suc (suc (suc k)))) l s = absurd (omega arith)

wide_small : (x count : ℕ) → count ≤ 4 → x < 256 ^ count → x % 256 + x / 256 % 256 * 65536 + x / 65536 % 256 * 4294967296 + x / 16777216 * 281474976710656 < 65536 ^ count
wide_small x zero l s = omega arith
wide_small x (suc zero) l s = omega arith
wide_small x (suc (suc zero)) l s = omega arith
wide_small x (suc (suc (suc zero))) l s = omega arith
wide_small x (suc (suc (suc (suc zero)))) l s = omega arith
wide_small x (suc (suc (suc (suc (suc k))))) l s = absurd (omega arith)

pub widened_holds : (x count : ℕ) (unit : ℕ → ℕ) → x < 2 ^ 32 → count ≤ 4 → HoldsLanes false x count unit
    → HoldsLanes true (x % 256 + x / 256 % 256 * 65536 + x / 65536 % 256 * 4294967296 + x / 16777216 * 281474976710656) count unit
widened_holds x count unit s l h = record { small = wide_small x count l h.small; each = λ k m. wide_lane x k (omega arith) s ∙ h.each k m }

pub half_word : (count x : ℕ) → count ≤ 4 → x < 256 ^ count → x < 2 ^ 32
half_word count x l s = let h = pow-le-pow_right (base_some false) {i = count} {j = 4} l in omega arith

-- two-byte lanes as one-byte ones
narrow_lane : (x k : ℕ) → k < 4 → lane_of true x k < 256 → lane_of false (x % 256 + x / 65536 % 256 * 256 + x / 4294967296 % 256 * 65536 + x / 281474976710656 % 256 * 16777216) k ≡ lane_of true x k
unfolding lane_of
narrow_lane x zero l s = let t : x / 1 % 65536 < 256 = s in
    let e : (x % 256 + x / 65536 % 256 * 256 + x / 4294967296 % 256 * 65536 + x / 281474976710656 % 256 * 16777216) / 1 % 256 ≡ x / 1 % 65536 = omega arith in e
narrow_lane x (suc zero) l s = let t : x / 65536 % 65536 < 256 = s in
    let e : (x % 256 + x / 65536 % 256 * 256 + x / 4294967296 % 256 * 65536 + x / 281474976710656 % 256 * 16777216) / 256 % 256 ≡
    x / 65536 % 65536 = omega arith in e
narrow_lane x (suc (suc zero)) l s = let t : x / 4294967296 % 65536 < 256 = s in
    let e : (x % 256 + x / 65536 % 256 * 256 + x / 4294967296 % 256 * 65536 + x / 281474976710656 % 256 * 16777216) / 65536 % 256 ≡
    x / 4294967296 % 65536 = omega arith in e
narrow_lane x (suc (suc (suc zero))) l s = let t : x / 281474976710656 % 65536 < 256 = s in
    let e : (x % 256 + x / 65536 % 256 * 256 + x / 4294967296 % 256 * 65536 + x / 281474976710656 % 256 * 16777216) / 16777216 % 256 ≡
    x / 281474976710656 % 65536 = omega arith in e
narrow_lane x (suc (suc (suc (suc k)))) l s = absurd (omega arith)

narrow_small : (x count : ℕ) → count ≤ 4 → x < 65536 ^ count → x % 256 + x / 65536 % 256 * 256 + x / 4294967296 % 256 * 65536 + x / 281474976710656 % 256 * 16777216 < 256 ^ count
narrow_small x zero l s = omega arith
narrow_small x (suc zero) l s = omega arith
narrow_small x (suc (suc zero)) l s = omega arith
narrow_small x (suc (suc (suc zero))) l s = omega arith
narrow_small x (suc (suc (suc (suc zero)))) l s = omega arith
narrow_small x (suc (suc (suc (suc (suc k))))) l s = absurd (omega arith)

pub narrowed_holds : (x count : ℕ) (unit : ℕ → ℕ) → count ≤ 4 → ((k : ℕ) → k < count → unit k < 256) → HoldsLanes true x count unit
    → HoldsLanes false (x % 256 + x / 65536 % 256 * 256 + x / 4294967296 % 256 * 65536 + x / 281474976710656 % 256 * 16777216) count unit
narrowed_holds x count unit l f h = record {
  small = narrow_small x count l h.small;
  each = λ k m. narrow_lane x k (omega arith) (subst (λ (n : ℕ). n < 256) (sym (h.each k m)) (f k m)) ∙ h.each k m;
}

-- the higher bytes of four two-byte lanes
pub over_none : (x : ℕ) → x < 2 ^ 64 → ((k : ℕ) → k < 4 → lane_of true x k < 256) → x / 256 % 256 + x / 16777216 % 256 + x / 1099511627776 % 256 + x / 72057594037927936 ≡ 0
unfolding lane_of
over_none x s h = let a : x / 1 % 65536 < 256 = h 0 (omega arith) in let b : x / 65536 % 65536 < 256 = h 1 (omega arith) in
    let c : x / 4294967296 % 65536 < 256 = h 2 (omega arith) in let d : x / 281474976710656 % 65536 < 256 = h 3 (omega arith) in
    let a' : x / 256 % 256 ≡ 0 = omega (arith, a) in let b' : x / 16777216 % 256 ≡ 0 = omega (arith, b) in
    let c' : x / 1099511627776 % 256 ≡ 0 = omega (arith, c) in let d' : x / 72057594037927936 ≡ 0 = omega (arith, d, s) in
    omega (arith, a', b', c', d')

pub over_some : (x k : ℕ) → k < 4 → 256 ≤ lane_of true x k → 0 < x / 256 % 256 + x / 16777216 % 256 + x / 1099511627776 % 256 + x / 72057594037927936
unfolding lane_of
over_some x zero l h = let a : 256 ≤ x / 1 % 65536 = h in let b : 0 < x / 256 % 256 = omega (arith, a) in omega (arith, b)
over_some x (suc zero) l h = let a : 256 ≤ x / 65536 % 65536 = h in let b : 0 < x / 16777216 % 256 = omega (arith, a) in omega (arith, b)
over_some x (suc (suc zero)) l h = let a : 256 ≤ x / 4294967296 % 65536 = h in let b : 0 < x / 1099511627776 % 256 = omega (arith, a) in omega (arith, b)
over_some x (suc (suc (suc zero))) l h = let a : 256 ≤ x / 281474976710656 % 65536 = h in let b : 0 < x / 72057594037927936 = omega (arith, a) in omega (arith, b)
over_some x (suc (suc (suc (suc k)))) l h = absurd (omega arith)

-- a word whose lanes from `low` on are others
module _ (wide : Bool) (word part before behind upper r low count : ℕ) (room : low + count ≤ lane_count wide) where
  pub replaced_placed : ((q : ℕ) → q < low → lane_of wide before q ≡ lane_of wide word (0 + q)) → ((q : ℕ) → q < lane_count wide
      - (low + count) → lane_of wide behind q ≡ lane_of wide word (low + count + q))
      → ((q : ℕ) → q < count → lane_of wide upper q ≡ lane_of wide part q) → ((q : ℕ) → lane_of wide upper (count + q) ≡ lane_of wide behind q)
      → ((q : ℕ) → q < low → lane_of wide r q ≡ lane_of wide before q) → ((q : ℕ) → lane_of wide r (low + q) ≡ lane_of wide upper q)
      → IsPlaced wide word r low count (lane_of wide part)
  replaced_placed first last inner outer under over = record {
    inside = λ k l. over k ∙ inner k l;
    below = λ q l. let z : 0 + q ≡ q = omega arith in under q l ∙ (first q l ∙ ap (lane_of wide word) z);
    above = λ q l m. let j : ℕ = q - (low + count) in let a : q ≡ low + (count + j) = omega arith in let b : low + count + j ≡ q = omega arith in
        ap (lane_of wide r) a ∙ (over (count + j) ∙ (outer j ∙ (last j (omega arith) ∙ ap (lane_of wide word) b)));
  }

-- the word goes on over some units
pub lanes_on : (wide : Bool) (us : List ℕ) (first done more word part r : ℕ) (h : HeldWord) (i : ℕ) → i ≡ first + done → HoldsUnits us h → HasAt h i more
    → HoldsLanes wide word done (λ k. get_or us (first + k) 0) → HoldsLanes wide part more (λ k. held_unit h (i + k))
    → r < lane_base wide ^ (done + more) → ((q : ℕ) → q < done → lane_of wide r q ≡ lane_of wide word q) → ((q : ℕ) → lane_of wide r (done + q) ≡ lane_of wide part q)
    → HoldsLanes wide r (done + more) (λ k. get_or us (first + k) 0)
lanes_on wide us first done more word part r h i e holds at old new small below above = record {
  small = small;
  each = λ k l. let a = at.low in let b = at.high in ⊎_elim
      (λ (m : k < done). below k m ∙ old.each k m)
      (λ (m : done ≤ k). let j : ℕ = k - done in let f : k ≡ done + j = omega arith in let g : i + j ≡ first + k = omega arith in
      ap (lane_of wide r) f ∙ (above j ∙ (new.each j (omega arith) ∙ (unit_held_is us h (i + j) holds (omega arith) (omega arith) ∙ ap (λ (n : ℕ). get_or us n 0) g))))
      (cases_lt k done);
}

-- the same units by another name
pub holds_as : (wide : Bool) (x count : ℕ) (unit other : ℕ → ℕ) → HoldsLanes wide x count unit → ((k : ℕ) → k < count → unit k ≡ other k) → HoldsLanes wide x count other
holds_as wide x count unit other h same = record { small = h.small; each = λ k l. h.each k l ∙ same k l }

pub part_unit_is : (h : HeldWord) (i k : ℕ) → h.from ≤ i → lane_of h.wide h.word (h.lane + (i - h.from) + k) ≡ held_unit h (i + k)
part_unit_is h i k l = let e : h.lane + (i - h.from) + k ≡ h.lane + (i + k - h.from) = omega arith in ap (lane_of h.wide h.word) e

pub other_width : (a b c : Bool) → beq a b ≡ false → b ≡ c → a ≡ not c
other_width true b true n e = let m : beq true true ≡ false = subst (λ (x : Bool). beq true x ≡ false) e n in absurd (cc)
other_width true b false n e = refl
other_width false b true n e = refl
other_width false b false n e = let m : beq false false ≡ false = subst (λ (x : Bool). beq false x ≡ false) e n in absurd (cc)

pub same_width : (a b : Bool) → beq a b ≡ true → a ≡ b
same_width true true e = refl
same_width true false e = absurd (cc)
same_width false true e = absurd (cc)
same_width false false e = refl

pub four_most : (h : HeldWord) (i count : ℕ) → h.wide ≡ true → HasAt h i count → count ≤ 4
four_most h i count e at = let a : h.lane + h.count ≤ 4 = subst (λ (b : Bool). h.lane + h.count ≤ lane_count b) e at.lanes in let b = at.low in let c = at.high in omega arith

-- a unit over 255 is found
pub wide_by : (us : List ℕ) (b : Bool) → is_wide us ≡ b → (((q : ℕ) → get_or us q 0 < 256) → ⊥) → is_wide us ≡ true
wide_by us true e h = e
wide_by us false e h = absurd (h (λ q. narrow_unit us q e))

-- of a window, one word after the other
module _ (us : List ℕ) (h : HeldWord) (i x : ℕ) (holds : HoldsUnits us h) (low : h.from ≤ i) (high : i < h.from + h.count) (lanes : HoldsLanes
    true x (h.count - (i - h.from)) (λ k. held_unit h (i + k))) where
  unit_here : (k : ℕ) → k < h.count - (i - h.from) → lane_of true x k ≡ get_or us (i + k) 0
  unit_here k l = lanes.each k l ∙ unit_held_is us h (i + k) holds (omega arith) (omega arith)

  lane_by : (k : ℕ) → (k < h.count - (i - h.from)) ⊎ (h.count - (i - h.from) ≤ k) → ((q : ℕ) → get_or us q 0 < 256) → lane_of true x k < 256
  lane_by k (inl l) narrow = subst (λ (n : ℕ). n < 256) (sym (unit_here k l)) (narrow (i + k))
  lane_by k (inr l) narrow = subst (λ (n : ℕ). n < 256) (sym (lane_past true (h.count - (i - h.from)) x k lanes.small l)) (omega arith)

  pub some_over : (((k : ℕ) → k < 4 → lane_of true x k < 256) → ⊥) → is_wide us ≡ true
  some_over over = wide_by us (is_wide us) refl (λ narrow. over (λ k l. lane_by k (cases_lt k (h.count - (i - h.from))) narrow))

  pub none_over : ((k : ℕ) → k < 4 → 256 ≤ lane_of true x k → ⊥) → h.wide ≡ true → ((q : ℕ) → q < i → get_or us q 0 ≤ 255) → (q : ℕ) → q < i + (h.count - (i - h.from)) → get_or us q 0 ≤ 255
  none_over none wide before q l = let r : h.lane + h.count ≤ 4 = subst (λ (b : Bool). h.lane + h.count ≤ lane_count b) wide holds.lanes in ⊎_elim
      (λ (m : q < i). before q m)
      (λ (m : i ≤ q). let j : ℕ = q - i in let e : i + j ≡ q = omega arith in let is : lane_of true x j ≡ get_or us q 0 = unit_here j (omega arith) ∙ ap (λ (n : ℕ). get_or us n 0) e in
      let small = ⊎_elim (λ (a : lane_of true x j < 256). a) (λ (a : 256 ≤ lane_of true x j). absurd (none j (omega arith) a)) (cases_lt (lane_of true x j) 256) in omega (arith, is, small))
      (cases_lt q i)

pub placed_as : (wide : Bool) (before after low count : ℕ) (unit other : ℕ → ℕ) → IsPlaced wide before after
    low count unit → ((k : ℕ) → k < count → unit k ≡ other k) → IsPlaced wide before after low count other
placed_as wide before after low count unit other p same = record { inside = λ k l. p.inside k l ∙ same k l; below = p.below; above = p.above }

-- the lanes of one word of a list are all that there are for it
pub word_holds : (wide : Bool) (us : List ℕ) (at first count word n : ℕ) → length us ≡ n → first ≡ at * lane_count wide → first ≤ n → count ≡ min (lane_count wide) (n - first)
    → HoldsLanes wide word count (λ k. get_or us (first + k) 0) → IsWordOf wide us at word
word_holds wide us at first count word n long f le c h = let to : ℕ = min (length us) (first + lane_count wide) in let e : count ≡ to - first = omega (arith, long, c) in
    word_packed wide us at first to word f refl (subst (λ (m : ℕ). word < lane_base wide ^ m) e h.small) (λ q l. h.each q (subst (λ (m : ℕ). q < m) (sym e) l))

pub first_within : (wide : Bool) (n at : ℕ) → at < words_over wide n → at * lane_count wide ≤ n
first_within true n at l = omega arith
first_within false n at l = omega arith
