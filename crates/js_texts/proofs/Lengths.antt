-- What a new string takes.
use Rattle.std.proofs.Common.{arith, ◌≡◌, ℕ, ◌≤◌, List, length, ap, true, false, cond}
use Rattle.std.specs.Prelude.{nat_lt, if◌then◌else◌}
use Rattle.std.proofs.lemmas.Bool.Decides.{nat_tests}
use Rattle.js_store.specs.Rows.{flat_words}
use Rattle.js_texts.specs.Use.{made_ids, made_words}

not_over : (m n : ℕ) → n ≤ m → nat_lt m n ≡ false
not_over m n h = grind (arith, nat_tests)

-- units that are within the limit
pub made_is : (limit : ℕ) (u : List ℕ) → length u ≤ limit → made_words limit u ≡ flat_words u
made_is limit u h = ap (λ b. cond b 0 (flat_words u)) (not_over limit (length u) h)

pub made_id : (limit : ℕ) (u : List ℕ) → length u ≤ limit → made_ids limit u ≡ 1
made_id limit u h = ap (λ b. cond b 0 1) (not_over limit (length u) h)

-- never more than one
pub made_ids_most : (limit : ℕ) (u : List ℕ) → made_ids limit u ≤ 1
made_ids_most limit u = elim (nat_lt limit (length u)) as (λ v. (if v then 0 else 1) ≤ 1) [ true ↦ omega arith | false ↦ omega arith ]
