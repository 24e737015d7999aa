-- What a store of plain lists means, and what its parts owe one another.
use Rattle.std.specs.Prelude.{◌≡◌, ℕ, ◌<◌, ◌≤◌, true, false, List, [], length, map, All, Some, slice_get}
use Rattle.std.specs.Prelude.{slice_index, unwrap_or}
use Rattle.std.specs.Ordering.{nat_cmp}
use Rattle.std.specs.Cmp.Lexicographic.{slice_cmp}
use Rattle.std.specs.FinMap.{FinMap, get}
use Rattle.js_store.specs.declared.limit.Limit.{Limit}
use Rattle.js_store.specs.Limits.{limit_units}
use Rattle.js_store.specs.State.{State}

-- the units of a number
abbrev pub plain_units : List (List ℕ) → ℕ → List ℕ
plain_units strings n = unwrap_or (slice_get strings n) []

-- the units of each number that was answered, in order
abbrev pub history_of : List (List ℕ) → List ℕ → List (List ℕ × ℕ)
history_of strings answers = map (λ n. (plain_units strings n, n)) answers

-- the meaning of the strings and of the numbers that `intern` answered, with the limit
abbrev pub plain_state : List (List ℕ) → List ℕ → Limit → State (Unit {0})
plain_state strings answers limit = record {
  known = λ n. slice_get strings n;
  settled = λ n. true;
  shut = λ u. false;
  history = history_of strings answers;
  used_ids = 0;
  used_words = 0;
  low_ids = 0;
  low_words = 0;
  sizes = record { ids = 0; words = 0; slots = 0 };
  limit = limit_units limit;
  bounded = false;
  sure = false;
  frame = tt;
}

-- each list is short enough for a string, a unit is 16 bits wide and a number 32; the table names strings by
-- their units, and each number answered is the one that the table has for its units
pub record IsConsistent (strings : List (List ℕ)) (answers : List ℕ)
    (table : FinMap (slice_cmp nat_cmp) ℕ) : Type 0 where
  pub lengths : (n : ℕ) → length (plain_units strings n) ≤ 536870888
  pub ranges : (n : ℕ) → All (λ x. x < 65536) (plain_units strings n)
  pub count : length strings ≤ 4294967295
  pub found : (u : List ℕ) (n : ℕ) → get table u ≡ Some n → slice_get strings n ≡ Some u
  pub answered : (k : ℕ) → k < length answers
      → get table (plain_units strings (slice_index answers k)) ≡ Some (slice_index answers k)
