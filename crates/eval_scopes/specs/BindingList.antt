-- What the bindings of a block or of the top keep beside their list.
use Rattle.std.specs.Prelude.{ℕ, ◌≤◌, List, length, take}
use Rattle.eval_scopes.specs.declared.binding_list.Binding.{Binding}
use Rattle.eval_scopes.specs.Index.{binding_names, IsIndex}
use Rattle.eval_scopes.specs.Marks.{AreFirsts}

-- of all bindings the first so many are in use, and have this index and these first places
pub record IsBindingList {T : Type 0} (all : List (Binding T)) (used : ℕ) (first : List (ℕ × ℕ))
    (places : List ℕ) : Type 0 where
  pub within : used ≤ length all
  pub index : IsIndex first (binding_names (take used all))
  pub firsts : AreFirsts places (binding_names (take used all)) used
