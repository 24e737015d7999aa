-- Helpers: no public contract reaches these definitions.
-- The members of an object literal where each pays its share of what the literal needs. The sum of these
-- shares is at most the row of the literal, so an evaluation of the members in this form is one in the form
-- of the meaning (`proofs/Paying.antt`).
use Rattle.std.specs.Prelude.{ℕ, ◌+◌, ◌*◌, List, [], ◌∷◌, length, nat_le, if◌then◌else◌, Result}
use Rattle.js_store.specs.State.{State, text as units_of}
use Rattle.eval_tree.specs.Tree.{ExprTree, Entries, no_entries, entry}
use Rattle.js_item.specs.Contents.{Fields}
use Rattle.js_item.specs.Fine.{strings_of, KeyFine, FineFields}
use Rattle.js_item.specs.Seen.{says, fields_mapped}
use Rattle.eval_values.specs.declared.value.Kind.TheVariants.{RangeError}
use Rattle.eval_values.specs.declared.value.Stop.{Stop}
use Rattle.eval_values.specs.Outcome.{Out, gave, ended, threw, free, bind}
use Rattle.eval_values.specs.Ran.{ComesTo}
use Rattle.js_eval.specs.Properties.{with_property}
use Rattle.js_eval.specs.Expression.{EvalContext, expr_out}

abbrev pub key_paid : ℕ → List ℕ → Out (List ℕ)
key_paid limit key =
    if nat_le (length key) limit
    then gave key (record { interned = key ∷ []; texts = []; ids = 4; words = 2 * length key + 8 })
    else ended (threw RangeError) free

-- a member behind those of an object
abbrev pub entry_paid : List ℕ → ExprTree → EvalContext → Fields (List ℕ) → Out (Fields (List ℕ))
entry_paid key value s fs =
    bind (key_paid s.limit key) (λ k. bind (expr_out value s) (λ v. gave (with_property k v fs) free))

abbrev pub entries_paid : Entries → EvalContext → Fields (List ℕ) → Out (Fields (List ℕ))
entries_paid no_entries s fs = gave fs free
entries_paid (entry key value rest) s fs = bind (entry_paid key value s fs) (λ gs. entries_paid rest s gs)

-- a key, and an object, of the code
abbrev pub GivesKey : {F R : Type 0} → (R → ℕ) → State F → State F → Result R Stop → Out (List ℕ) → Type 0
GivesKey name a b r o = ComesTo a b (λ s v. units_of s (name v)) (λ s v. KeyFine (strings_of s) (name v)) r o

abbrev pub Makes : {F R : Type 0} → (R → ℕ) → State F → State F → Result (Fields R) Stop
    → Out (Fields (List ℕ)) → Type 0
Makes name a b r o =
    ComesTo a b (λ s fs. fields_mapped (says s name) fs) (λ s fs. FineFields (strings_of s) name fs) r o
