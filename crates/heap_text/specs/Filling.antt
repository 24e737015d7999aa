-- Helpers: no public contract reaches these definitions.
-- The units of a string, and of the sides of a Cons.
use Rattle.std.specs.Prelude.{◌≡◌, ℕ, ◌-◌, ◌<◌, ◌++◌, Bool, List, [], length, unwrap_or}
use Rattle.std.specs.FinMap.{get}
use Rattle.js_header.specs.declared.form.Form.TheVariants.{Cons}
use Rattle.heap_rule.specs.declared.view.View.{View}
use Rattle.heap_rule.specs.Maps.{Has}

-- the units of a string, as the view has them
abbrev pub units_at : View → ℕ → List ℕ
units_at v i = unwrap_or (get v.units i) []

-- a call that loads forms of strings up to id and of such to which others forward:
-- what was seen as a Cons above id is so still
abbrev pub HoldsAbove : View → View → ℕ → Type 0
HoldsAbove v w id = (i : ℕ) (wide : Bool) (left right : ℕ) → id < i → Has v.forms i (Cons wide left right)
    → Has w.forms i (Cons wide left right)

-- the units us are ls, which are m, and then rs, which are the rest of n, and neither is empty
pub record IsBoth (us ls rs : List ℕ) (m n : ℕ) : Type 0 where
  pub both : us ≡ ls ++ rs
  pub left_count : length ls ≡ m
  pub right_count : length rs ≡ n - m
  pub left_some : 0 < m
  pub right_some : m < n
