-- The lanes of a word beside units of a list: by a mask of those that differ, and one after the other.
use Rattle.std.proofs.Common.{◌≡◌, ℕ, zero, suc, ◌+◌, ◌-◌, ◌*◌, ◌/◌, ◌%◌, ◌^◌, ◌<◌, ◌≤◌, ⊎_elim, Bool, true, false, cond, eqb, List, [], ◌∷◌, length, map, get_or, refl, sym, subst, ap, ◌∙◌, arith}
use Rattle.std.specs.Prelude.{not}
use Rattle.std.specs.Bool.{MatchBool}
use Rattle.std.specs.Simd.Lanes.{chunk, mask_l, top, zip2}
use Rattle.std.proofs.Math.Nat.{div-div-eq-div-mul, pow-suc}
use Rattle.std.proofs.lemmas.Bool.{cases_eq, cases_lt, eq-eqb, eqb-false, eqb-true}
use Rattle.std.proofs.lemmas.Simd.{get_or-chunk, length-chunk, length-zip2, mask_l-mod, tops_compared}
use mir.Syntax.{Width}
use mir.Val.{bits, hbits}
use Rattle.js_units.specs.Lanes.{lane_base, lane_of}
use Rattle.heap_read.specs.declared.source.HeldWord.{HeldWord}
use Rattle.heap_read.specs.Written.{held_unit}
use Rattle.heap_read.proofs.ShiftedLanes.{part_unit_is}
use Rattle.heap_intern.specs.Packed.{AreLanes, HasOtherLane}

abbrev pub differ : ℕ → ℕ → Bool
differ x y = not (eqb x y)

same_first : (x y m : ℕ) (b : Bool) → eqb x y ≡ b → cond (not b) 1 0 + 2 * m ≡ 0 → x ≡ y
same_first x y m true e h = eqb-true x y e
same_first x y m false e h = absurd (omega (arith, h))

-- where the mask is 0, no lane differs
none_other : (xs ys : List ℕ) (k : ℕ) → mask_l (zip2 differ xs ys) ≡ 0 → k < length xs → k < length ys → get_or xs k 0 ≡ get_or ys k 0
none_other [] ys k e l m = absurd (omega arith)
none_other (x ∷ xs) [] k e l m = absurd (omega arith)
none_other (x ∷ xs) (y ∷ ys) zero e l m = same_first x y (mask_l (zip2 differ xs ys)) (eqb x y) refl e
none_other (x ∷ xs) (y ∷ ys) (suc k) e l m = none_other xs ys k (omega (arith, e)) (omega arith) (omega arith)

twice_none : (m : ℕ) → m ≡ 0 → 0 + 2 * m ≡ 0
twice_none m e = omega (arith, e)

-- else one does
some_other : (xs ys : List ℕ) → (mask_l (zip2 differ xs ys) ≡ 0 → ⊥) → (k : ℕ) × (k < length xs) × (get_or xs k 0 ≡ get_or ys k 0 → ⊥)
some_other [] ys h = absurd (h refl)
some_other (x ∷ xs) [] h = absurd (h refl)
some_other (x ∷ xs) (y ∷ ys) h = ⊎_elim
    (λ (same : x ≡ y). let t = some_other xs ys (λ m. h (ap (λ (b : Bool). cond (not b) 1 0 + 2 * mask_l (zip2 differ xs ys)) (eq-eqb x y same) ∙ twice_none (mask_l (zip2 differ xs ys)) m)) in
    (suc t.0, omega (arith, t.1), t.2))
    (λ (other : x ≡ y → ⊥). (zero, omega arith, other))
    (cases_eq x y)

mask_match : (P Q : Type 0) (m : ℕ) (b : Bool) → eqb m 0 ≡ b → (m ≡ 0 → P) → ((m ≡ 0 → ⊥) → Q) → MatchBool b P Q
mask_match P Q m true e f g = f (eqb-true m 0 e)
mask_match P Q m false e f g = g (eqb-false m 0 e)

-- the mask of two vectors that were compared, of the n lanes xs of a word and as many units of a list
pub mask_tells : (w : Width) (wide : Bool) (word : ℕ) (us xs : List ℕ) (at n : ℕ) → length xs ≡ n → n ≤ 64 → at + n ≤ length us → ((k : ℕ) → k < n → get_or xs k 0 ≡ lane_of wide word k)
    → MatchBool (eqb (mask_l (map (top (hbits w)) (zip2 (λ a b. cond (differ a b) (2 ^ bits w - 1) 0) xs (chunk at n us))) % 2 ^ 64) 0) (AreLanes wide word us at n) (HasOtherLane wide word us at n)
mask_tells w wide word us xs at n long most room lanes = let ys : List ℕ = chunk at n us in let long' : length ys ≡ n = length-chunk at n us room in
    let z = length-zip2 differ xs ys (long ∙ sym long') in
    let e : mask_l (map (top (hbits w)) (zip2 (λ a b. cond (differ a b) (2 ^ bits w - 1) 0) xs ys)) % 2 ^ 64 ≡ mask_l (zip2 differ xs ys) =
    ap (λ (ms : List Bool). mask_l ms % 2 ^ 64) (tops_compared w differ xs ys) ∙ mask_l-mod (zip2 differ xs ys) 64 (omega (arith, z, long)) in
    mask_match (AreLanes wide word us at n) (HasOtherLane wide word us at n) _ _ refl
    (λ none k l. sym (lanes k l) ∙ (none_other xs ys k (sym e ∙ none) (omega (arith, long)) (omega (arith, long')) ∙ get_or-chunk at n us k 0 l))
    (λ some. let t = some_other xs ys (λ m. some (e ∙ m)) in let l : t.0 < n = omega (arith, t.1, long) in
    (t.0, l, λ same. t.2 (lanes t.0 l ∙ (same ∙ sym (get_or-chunk at n us t.0 0 l)))))

match_as : (b : Bool) (P Q R S : Type 0) → (P → R) → (Q → S) → MatchBool b P Q → MatchBool b R S
match_as true P Q R S f g h = f h
match_as false P Q R S f g h = g h

-- of a held word whose lanes before unit i were shifted out
pub held_match : (h : HeldWord) (wide : Bool) (us : List ℕ) (x i count : ℕ) (b : Bool) → h.wide ≡ wide → h.from ≤ i → ((k : ℕ) → lane_of wide x k ≡ lane_of wide h.word (h.lane + (i - h.from) + k))
    → MatchBool b (AreLanes wide x us i count) (HasOtherLane wide x us i count)
    → MatchBool b ((k : ℕ) → k < count → held_unit h (i + k) ≡ get_or us (i + k) 0) ((k : ℕ) × (k < count) × (held_unit h (i + k) ≡ get_or us (i + k) 0 → ⊥))
held_match h wide us x i count b width low lanes = let is : (k : ℕ) → held_unit h (i + k) ≡ lane_of wide x k = λ k. sym (part_unit_is h i k low)
    ∙ (ap (λ (c : Bool). lane_of c h.word (h.lane + (i - h.from) + k)) width ∙ sym (lanes k)) in
    match_as b _ _ _ _ (λ same k l. is k ∙ same k l) (λ other. (other.0, other.1, λ e. other.2 (sym (is other.0) ∙ e)))

-- the lanes above one more
pub next_rest : (wide : Bool) (word rest base k : ℕ) → rest ≡ word / lane_base wide ^ k → base ≡ lane_base wide → rest / base ≡ word / lane_base wide ^ (k + 1)
next_rest wide word rest base k e b = let one : k + 1 ≡ suc k = omega arith in (λ i. e i / b i)
    ∙ (div-div-eq-div-mul word (lane_base wide ^ k) (lane_base wide) ∙ ap (λ (n : ℕ). word / n) (sym (ap (λ (n : ℕ). lane_base wide ^ n) one ∙ pow-suc (lane_base wide) k)))

-- the lowest of these lanes is the next one, and one more is as in the list
pub rest_lane : (wide : Bool) (word rest base k : ℕ) → rest ≡ word / lane_base wide ^ k → base ≡ lane_base wide → rest % base ≡ lane_of wide word k
unfolding lane_of
rest_lane wide word rest base k e b = λ i. e i % b i

pub lanes_on : (wide : Bool) (word : ℕ) (us : List ℕ) (at n : ℕ) → AreLanes wide word us at n → lane_of wide word n ≡ get_or us (at + n) 0 → AreLanes wide word us at (n + 1)
lanes_on wide word us at n same e k l = ⊎_elim
    (λ (m : k < n). same k m)
    (λ (m : n ≤ k). let is : n ≡ k = omega arith in subst (λ (q : ℕ). lane_of wide word q ≡ get_or us (at + q) 0) is e)
    (cases_lt k n)
