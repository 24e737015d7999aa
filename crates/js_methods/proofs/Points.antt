-- The units of code points.
use Rattle.std.proofs.Common.{◌≡◌, ℕ, ◌*◌, ◌≤◌, List, [], ◌∷◌, length, arith, length-append, Bool, true, false, subst, sym}
use Rattle.std.specs.Prelude.{nat_lt, pos, negsuc, if◌then◌else◌}
use Rattle.js_units.specs.Text.{utf16_of}
use Rattle.js_number.specs.declared.Num.{Num}
use Rattle.js_number.specs.declared.Num.TheVariants.{Int, NaN, PosInf, NegInf}
use Rattle.js_methods.specs.Building.{code_units, code_units_of}

by_bool : (b : Bool) (u v : List ℕ) → length u ≤ 2 → length v ≤ 2 → length (if b then u else v) ≤ 2
by_bool true u v h k = h
by_bool false u v h k = k

two_units : (n : ℕ) → length (utf16_of n) ≤ 2
two_units n = by_bool (nat_lt n 0x10000) _ _ (omega arith) (omega arith)

one_point : (n : Num) → length (code_units n) ≤ 2
one_point (Int (pos n)) = two_units n
one_point (Int (negsuc n)) = omega arith
one_point NaN = omega arith
one_point PosInf = omega arith
one_point NegInf = omega arith

-- each code point has at most two units
pub length-code_units_of : (points : List Num) → length (code_units_of points) ≤ 2 * length points
length-code_units_of [] = omega arith
length-code_units_of (x ∷ xs) = omega (arith, length-append (code_units x) (code_units_of xs), one_point x, length-code_units_of xs)

-- the code points that one call takes fit every store
pub bounded_units : (points : List Num) (u : List ℕ) (limit : ℕ) → u ≡ code_units_of points → length points ≤ 1048576 → 268435440 ≤ limit → length u ≤ limit
bounded_units points u limit e h k = let s : length u ≤ 2 * length points = subst (λ (v : List ℕ). length v ≤ 2 * length points) (sym e) (length-code_units_of points) in omega arith
