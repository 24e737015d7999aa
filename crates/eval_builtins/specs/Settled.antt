-- Which strings a call of a built-in function has read: they are settled once it gave a value.
use Rattle.std.specs.Prelude.{ℕ, List, [], ◌∷◌}
use Rattle.js_store.specs.State.{State, IsSettled}
use Rattle.js_texts.specs.Texts.{AllSettled}
use Rattle.js_item.specs.declared.item.Item.{Item}
use Rattle.js_item.specs.declared.item.Item.TheVariants as item
use Rattle.js_item.specs.Views.{content_of}
use Rattle.js_object.specs.Settled.{SettledIn}
use Rattle.eval_tree.specs.declared.tree.Builtin.{Builtin}
use Rattle.eval_tree.specs.declared.tree.Builtin.TheVariants.{String, SymbolFor, Stringify, EncodeUri}
use Rattle.eval_tree.specs.declared.tree.Builtin.TheVariants.{EncodeUriComponent, DecodeUri}
use Rattle.eval_tree.specs.declared.tree.Builtin.TheVariants.{DecodeUriComponent}
use Rattle.eval_values.specs.Settled.{StringsSettled, OfFirst}

-- the strings of the first argument, at every level
abbrev pub FirstSettled : {F R : Type 0} → State F → (R → ℕ) → List (Item R) → Type 0
FirstSettled s name [] = Unit {0}
FirstSettled s name (v ∷ vs) = SettledIn s name (content_of v)

-- the key of a symbol that was made a string, and the elements of an array
abbrev pub ShownSettled : {F R : Type 0} → State F → (R → ℕ) → Item R → Type 0
ShownSettled s name (item.Symbol k) = IsSettled s (name k)
ShownSettled s name (item.List rs) = AllSettled s name rs.items
ShownSettled s name _ = Unit {0}

abbrev pub FirstShownSettled : {F R : Type 0} → State F → (R → ℕ) → List (Item R) → Type 0
FirstShownSettled s name [] = Unit {0}
FirstShownSettled s name (v ∷ vs) = ShownSettled s name v

-- what a function was given: `String` takes a string as it is
abbrev pub ArgumentsSettled : {F R : Type 0} → Builtin → State F → (R → ℕ) → List (Item R) → Type 0
ArgumentsSettled Stringify s name vs = FirstSettled s name vs
ArgumentsSettled String s name vs = FirstShownSettled s name vs
ArgumentsSettled SymbolFor s name vs = OfFirst (λ v. StringsSettled s name v) vs
ArgumentsSettled EncodeUri s name vs = OfFirst (λ v. StringsSettled s name v) vs
ArgumentsSettled EncodeUriComponent s name vs = OfFirst (λ v. StringsSettled s name v) vs
ArgumentsSettled DecodeUri s name vs = OfFirst (λ v. StringsSettled s name v) vs
ArgumentsSettled DecodeUriComponent s name vs = OfFirst (λ v. StringsSettled s name v) vs
ArgumentsSettled f s name vs = Unit {0}
