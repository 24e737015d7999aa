-- The strings that a form names.
use Rattle.std.specs.Prelude.{◌≡◌, ℕ, ◌+◌, ◌≤◌}
use Rattle.js_header.specs.declared.form.Form.{Form}
use Rattle.js_header.specs.declared.form.Form.TheVariants.{Cons, Sliced, Thin}
use Rattle.heap_rule.specs.declared.view.View.{View}
use Rattle.heap_rule.specs.Loads.{added_loads}
use Rattle.heap_rule.specs.Views.{MayUse}

-- the string that a form names first is known: the left side of a Cons, the parent of a Sliced,
-- the target of a Thin
abbrev pub KnowsSide : View → Form → Type 0
KnowsSide v (Cons wide left right) = MayUse v left
KnowsSide v (Sliced wide parent offset) = MayUse v parent
KnowsSide v (Thin target) = MayUse v target
KnowsSide v _ = Unit {0}

-- how often the form of another string is loaded to find the words of one that is a Flat or a Thin:
-- that of a Thin's target is
abbrev pub target_loads : Form → ℕ
target_loads (Thin target) = 1
target_loads _ = 0

-- n forms were loaded in between; the count stops at the end of its type
abbrev pub LoadsForms : View → View → ℕ → Type 0
LoadsForms v w n = (l j : ℕ) → v.form_loads ≡ added_loads l j → w.form_loads ≡ added_loads l (j + n)

-- at most n forms were loaded in between
pub record LoadsFewForms (v w : View) (n : ℕ) : Type 0 where
  pub times : ℕ
  pub few : times ≤ n
  pub loads : LoadsForms v w times
