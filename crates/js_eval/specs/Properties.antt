-- Helpers: no public contract reaches these definitions.
-- One member of an object literal.
use Rattle.std.specs.Prelude.{ℕ, List, bytes_eq}
use Rattle.js_item.specs.Contents.{Fields}
use Rattle.js_item.specs.Puts.{put_by}
use Rattle.js_item.specs.Seen.{Val}
use Rattle.eval_tree.specs.Tree.{Entries}
use Rattle.eval_values.specs.Outcome.{Ledger, Out, cost}
use Rattle.eval_values.specs.Need.{nothing, parts}
use Rattle.js_eval.specs.Initializers.{members_in, key_units, interned_out}

-- what a literal needs, beside its values
abbrev pub literal_cost : Entries → Ledger
literal_cost members = cost (parts (members_in members) (key_units members))

-- a key is interned
abbrev pub key_interned : ℕ → List ℕ → Out (List ℕ)
key_interned limit key = interned_out limit nothing key

-- a property of the object gets a value, in its place where there is one of this key
-- ("CreateDataPropertyOrThrow")
abbrev pub with_property : List ℕ → Val → Fields (List ℕ) → Fields (List ℕ)
with_property key value fs = put_by (λ k. bytes_eq k key) key value fs
