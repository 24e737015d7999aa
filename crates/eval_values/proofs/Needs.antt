-- What the rows of need cover.
use Rattle.std.proofs.Common.{arith, ◌≡◌, ℕ, zero, suc, ◌+◌, ◌<◌, ◌≤◌, List, length, refl, true, false, nat_lt, if◌then◌else◌}
use Rattle.js_store.specs.State.{State}
use Rattle.js_store.specs.Rows.{flat_words, wide_words}
use Rattle.js_store.specs.Faults.{StoreStep, NeverSlots}
use Rattle.js_texts.specs.Answers.{full_part}
use Rattle.js_store.specs.declared.faults.StoreFault.{StoreFault}
use Rattle.js_store.specs.declared.faults.StoreFault.TheVariants.{Full, Memory}
use Rattle.js_texts.specs.declared.faults.MethodFault.TheVariants.{Store as MethodStore}
use Rattle.js_store.proofs.Laws.{flat_words_most}
use Rattle.js_texts.specs.Use.{made_words}
use Rattle.eval_values.specs.Outcome.{Ledger}
use Rattle.eval_values.specs.Need.{some_parts}
use Rattle.eval_values.specs.Ran.{EndsInPart}
use Rattle.eval_values.proofs.Compose.{cut_of_step, cut_of_memory}
use Rattle.std.proofs.Common.{◌*◌, [], ◌∷◌}
use Rattle.js_store.specs.State.{text}
use Rattle.js_store.proofs.Laws.{settle_words_most}
use Rattle.js_texts.specs.Texts.{known_texts, settle_most}
use Rattle.eval_values.specs.Conversions.{list_units}

pub some_part : (p : ℕ) → 1 ≤ some_parts p
some_part zero = omega arith
some_part (suc p) = omega arith

pub made_most : (limit : ℕ) (r : List ℕ) → made_words limit r ≤ wide_words (length r)
made_most limit r = elim (nat_lt limit (length r)) as (λ v. (if v then 0 else flat_words r) ≤ wide_words (length r)) [
  | true ↦ omega arith
  | false ↦ flat_words_most r
]

pub made_none : (limit : ℕ) (r : List ℕ) → limit < length r → made_words limit r ≡ 0
made_none limit r l =
    let past : nat_lt limit (length r) ≡ true = grind (arith, l) in
    rw past refl

-- a method that was refused, or found no memory itself
pub cut_of_part : {F : Type 0} {a b : State F} {i w : ℕ} (f : StoreFault) (l : Ledger) → StoreStep a b (full_part (MethodStore f)) i w →
    b.history ≡ a.history → NeverSlots (full_part (MethodStore f)) → i ≤ l.ids → w ≤ l.words → EndsInPart a b f l
cut_of_part (Full r) l s h n p q = cut_of_step l s h n p q
cut_of_part Memory l s h n p q = cut_of_memory l s h p q

pub some_most : (p : ℕ) → p ≤ some_parts p
some_most zero = omega arith
some_most (suc p) = omega arith

-- settling strings takes a word for four units, and one more for each
pub settle_few : {F R : Type 0} (s : State F) (name : R → ℕ) (rs : List R) → 4 * settle_most s name rs ≤ list_units (known_texts s name rs) + 3 * length (known_texts s name rs)
settle_few s name [] = omega arith
settle_few s name (r ∷ rs) = omega (arith, settle_words_most (s.settled (name r)) (length (text s (name r))), settle_few s name rs)
