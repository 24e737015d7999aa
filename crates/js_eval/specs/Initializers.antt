-- Object literals (ECMA-262, "Object Initializer").
use Rattle.std.specs.Prelude.{ℕ, suc, ◌+◌, List, length, nat_le, ◌&&◌, if◌then◌else◌}
use Rattle.eval_tree.specs.Tree.{Entries, no_entries, entry}
use Rattle.js_item.specs.Contents.{Fields, object, count}
use Rattle.js_item.specs.Fine.{depth}
use Rattle.js_item.specs.Seen.{Val}
use Rattle.eval_values.specs.declared.value.Kind.TheVariants.{RangeError}
use Rattle.eval_values.specs.Outcome.{Out, gave, free, refuses, interning, throwing}
use Rattle.eval_values.specs.Need.{Row, nothing}

-- how many members a literal has, and the units of its keys
abbrev pub members_in : Entries → ℕ
members_in no_entries = 0
members_in (entry key value rest) = members_in rest + 1

-- how many units the keys of a literal have together
abbrev pub key_units : Entries → ℕ
key_units no_entries = 0
key_units (entry key value rest) = length key + key_units rest

-- a literal or a key is interned, unless it is longer than a string may be
abbrev pub interned_out : ℕ → Row → List ℕ → Out (List ℕ)
interned_out limit row u =
    if nat_le (length u) limit then gave u (interning row u) else throwing nothing RangeError

-- the object, where it is nested at most 200 deep and has at most 65,536 members in all its levels
abbrev pub object_out : ℕ → Fields (List ℕ) → Out Val
object_out at fs =
    if nat_le (suc (depth fs)) 200 && nat_le (count fs) 65536 then gave (object fs) free else refuses at
