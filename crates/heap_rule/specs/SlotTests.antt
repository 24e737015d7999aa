-- What a view knows of the string in a slot, as tests: that its units are others than those that are looked
-- for.
use Rattle.std.specs.Prelude.{ℕ, zero, suc, ◌+◌, ◌/◌, ◌==◌, nat_eq, ◌&&◌, ◌||◌, not, Bool, true, false}
use Rattle.std.specs.Prelude.{List, slice_index, length, Option, Some, None}
use Rattle.std.specs.Cmp.Lexicographic.{pointwise}
use Rattle.std.specs.FinMap.{get}
use Rattle.js_units.specs.Lanes.{lane_count}
use Rattle.js_header.specs.declared.form.Form.{Form}
use Rattle.js_header.specs.declared.form.Form.TheVariants.{Unborn, Flat, Cons, Sliced, Thin}
use Rattle.heap_rule.specs.declared.view.View.{View}
use Rattle.heap_rule.specs.Contents.{lane_in}

-- there is a value, and it passes
abbrev pub passes : {X : Type 0} → (X → Bool) → Option X → Bool
passes test None = false
passes test (Some x) = test x

-- each number below n passes, and one of them does
abbrev pub all_below : (ℕ → Bool) → ℕ → Bool
all_below test zero = true
all_below test (suc n) = test n && all_below test n

-- one of the numbers below n passes
abbrev pub any_below : (ℕ → Bool) → ℕ → Bool
any_below test zero = false
any_below test (suc n) = test n || any_below test n

module _ (v : View) (us : List ℕ) where
  -- n is not the length of the list
  abbrev pub other_length : ℕ → Bool
  other_length n = not (n == length us)

  -- these are not the units of the list
  abbrev pub other_units : List ℕ → Bool
  other_units ws = not (pointwise nat_eq ws us)

  -- lane o of a Flat from `start` on is known to be another unit than that of the list
  abbrev pub other_lane : Bool → ℕ → ℕ → Bool
  other_lane wide start o = passes (λ x. not (lane_in (λ _. x) wide start o == slice_index us o))
      (get v.frozen (start + o / lane_count wide))

  -- a lane of the Flat is known to be another unit than that of the list; no other form shows that
  abbrev pub other_flat : Form → Bool
  other_flat Unborn = false
  other_flat (Flat wide start fixed) = any_below (other_lane wide start) (length us)
  other_flat (Cons wide left right) = false
  other_flat (Sliced wide parent offset) = false
  other_flat (Thin target) = false

  -- the string i is known not to have the units us: `Differs`, as a test
  unfoldable pub differs : ℕ → Bool
  differs i = passes other_length (get v.lengths i)
      || (passes other_units (get v.units i) || passes other_flat (get v.forms i))

  -- slot k is known to be used by such a string
  abbrev pub shut_at : ℕ → Bool
  shut_at k = passes differs (get v.slots k)

  -- all slots below n are
  unfoldable pub shut : ℕ → Bool
  shut n = all_below shut_at n
