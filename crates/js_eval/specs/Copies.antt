-- What a binding holds, whatever vector has the elements of an array.
use Rattle.std.specs.Prelude.{ℕ, List, Bool}
use Rattle.eval_scopes.specs.declared.binding_list.Binding.{Binding}
use Rattle.js_item.specs.declared.item.Item.{Item}
use Rattle.js_item.specs.Contents.{Content}
use Rattle.js_item.specs.Views.{content_of}

pub record BoundContent (R : Type 0) : Type 0 where
  pub name : List ℕ
  pub constant : Bool
  pub value : Content R

abbrev pub bound_content : {R : Type 0} → Binding (Item R) → BoundContent R
bound_content b = record { name = b.name; constant = b.constant; value = content_of b.value }
