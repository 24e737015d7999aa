-- What an expression means in a scope, by recursion over its tree.
use Rattle.std.specs.Prelude.{ℕ, List, [], ◌∷◌, slice_get, Bool, false, not, if◌then◌else◌, Option}
use Rattle.std.specs.Option.{option_map_or}
use Rattle.std.specs.Str.{bytes_eq}
use Rattle.js_item.specs.Puts.{put_by}
use Rattle.js_number.specs.declared.Num.TheVariants.{NaN, PosInf}
use Rattle.eval_tree.specs.declared.tree.Op.{Op}
use Rattle.eval_tree.specs.declared.tree.Op.TheVariants.{Or, And, Same, NotSame, Less, Greater, LessEq}
use Rattle.eval_tree.specs.declared.tree.Op.TheVariants.{GreaterEq, Plus, Minus}
use Rattle.eval_tree.specs.declared.tree.Method.{Method}
use Rattle.eval_tree.specs.Tree as tree
use Rattle.eval_tree.specs.Tree.{ExprTree, Links, no_links, link, StepList, no_steps, length_step}
use Rattle.eval_tree.specs.Tree.{description_step, call_step, index_step, property_step, Exprs, no_exprs}
use Rattle.eval_tree.specs.Tree.{expr, Entries, no_entries, entry, LinkTree, StepTree, of_length}
use Rattle.eval_tree.specs.Tree.{of_description, of_call, of_index, of_property}
use Rattle.eval_scopes.specs.Bindings.{Bound, Bindings, meant}
use Rattle.eval_values.specs.declared.value.Kind.TheVariants.{ReferenceError}
use Rattle.js_item.specs.Seen.{Val}
use Rattle.js_item.specs.Contents.{Fields, no_fields, undefined, null, bool, number}
use Rattle.eval_values.specs.Outcome.{Out, gave, after_ledger, bind, mapped, free, number_of, needing}
use Rattle.eval_values.specs.Outcome.{throwing, cost}
use Rattle.eval_values.specs.Need.{nothing, parts}
use Rattle.eval_values.specs.Conversions.{to_boolean}
use Rattle.eval_values.specs.Operators.{plus, difference_in, unary_out}
use Rattle.eval_values.specs.Comparing.{same_out, order_out, is_less, is_greater, is_at_most, is_at_least}
use Rattle.eval_members.specs.Places.{maybe_text}
use Rattle.eval_members.specs.Members.{length_property, description_of, present, called}
use Rattle.eval_members.specs.Indexing.{indexed}
use Rattle.eval_members.specs.Properties.{property_of}
use Rattle.eval_builtins.specs.Builtins.{built}
use Rattle.js_eval.specs.Initializers.{members_in, key_units, interned_out, object_out}

-- the literals, what names mean, and the greatest length of a string
pub record EvalContext : Type 0 where
  pub literals : List (List ℕ)
  pub bindings : Bindings Val
  pub limit : ℕ

-- reading what a name means ("GetBindingValue")
abbrev pub read_out : Option (Bound Val) → Out Val
read_out found = option_map_or (λ b. needing nothing b.value) found (throwing nothing ReferenceError)

-- whether the left side of an operator is its value, so that the right side isn't evaluated ("Binary Logical
-- Operators")
abbrev pub decides : Op → Val → Bool
decides Or v = to_boolean v
decides And v = not (to_boolean v)
decides _ v = false

-- the boolean that a test gives of an outcome's value
abbrev pub truth_of : {A : Type 0} → (A → Bool) → Out A → Out Val
truth_of holds o = bind o (λ x. gave (bool (holds x)) free)

-- an operator on the values of both sides; `||` and `&&` give the right one, where it is evaluated
abbrev pub operated : Op → ℕ → ℕ → Val → Val → Out Val
operated Same at limit v w = truth_of (λ b. b) (same_out at v w)
operated NotSame at limit v w = truth_of not (same_out at v w)
operated Less at limit v w = truth_of is_less (order_out at limit v w)
operated Greater at limit v w = truth_of is_greater (order_out at limit v w)
operated LessEq at limit v w = truth_of is_at_most (order_out at limit v w)
operated GreaterEq at limit v w = truth_of is_at_least (order_out at limit v w)
operated Plus at limit v w = plus at limit v w
operated Minus at limit v w = difference_in at v w
operated _ at limit v w = gave w free

abbrev mutual
  -- what an expression comes to in a scope ("Evaluation" of "Expression"): its value or its end, with what it
  -- needs
  pub expr_out : ExprTree → EvalContext → Out Val
  expr_out (tree.literal n) s = needing nothing (maybe_text (slice_get s.literals n))
  expr_out (tree.number n) s = needing nothing (number_of n)
  expr_out (tree.variable x) s = read_out (meant s.bindings x)
  expr_out tree.undefined s = needing nothing undefined
  expr_out tree.null s = needing nothing null
  expr_out (tree.bool b) s = needing nothing (bool b)
  expr_out tree.nan s = needing nothing (number NaN)
  expr_out tree.infinity s = needing nothing (number PosInf)
  expr_out (tree.unary at minus of) s = bind (expr_out of s) (λ v. unary_out minus at v)
  expr_out (tree.chain first rest) s = bind (expr_out first s) (λ v. links_out rest s v)
  expr_out (tree.conditional test first second) s =
      bind (expr_out test s) (λ v. if to_boolean v then expr_out first s else expr_out second s)
  expr_out (tree.post of steps) s = bind (expr_out of s) (λ v. steps_out steps s v)
  expr_out (tree.builtin at which args) s = bind (exprs_out args s) (λ vs. built which at s.limit vs)
  -- an object literal needs something for its members, beside their values
  expr_out (tree.object at members) s = after_ledger (cost (parts (members_in members) (key_units members)))
      (bind (entries_out members s no_fields) (λ fs. object_out at fs))

  -- the links of a chain, from the value on their left
  pub links_out : Links → EvalContext → Val → Out Val
  links_out no_links s v = gave v free
  links_out (link at op right rest) s v = bind (if decides op v then gave v free
      else bind (expr_out right s) (λ w. operated op at s.limit v w)) (λ x. links_out rest s x)

  -- the steps behind a value
  pub steps_out : StepList → EvalContext → Val → Out Val
  steps_out no_steps s v = gave v free
  steps_out (length_step rest) s v = bind (length_property v) (λ x. steps_out rest s x)
  steps_out (description_step rest) s v = bind (description_of v) (λ x. steps_out rest s x)
  steps_out (call_step at method args rest) s v = bind (bind (present v)
      (λ _. bind (exprs_out args s) (λ ws. called method at s.limit v ws))) (λ x. steps_out rest s x)
  steps_out (index_step at index rest) s v =
      bind (bind (expr_out index s) (λ i. indexed at s.limit v i)) (λ x. steps_out rest s x)
  steps_out (property_step at key rest) s v = bind (property_of at s.limit key v) (λ x. steps_out rest s x)

  -- the members of an object literal from left to right, behind those of an object
  -- ("PropertyDefinitionEvaluation")
  pub entries_out : Entries → EvalContext → Fields (List ℕ) → Out (Fields (List ℕ))
  entries_out no_entries s fs = gave fs free
  entries_out (entry key value rest) s fs = bind (interned_out s.limit nothing key)
      (λ k. bind (expr_out value s) (λ v. entries_out rest s (put_by (λ name. bytes_eq name k) k v fs)))

  -- expressions from left to right
  pub exprs_out : Exprs → EvalContext → Out (List Val)
  exprs_out no_exprs s = gave [] free
  exprs_out (expr first rest) s = bind (expr_out first s) (λ v. mapped (λ vs. v ∷ vs) (exprs_out rest s))

-- an operator on a value and what is on its right
abbrev pub linked : Op → ℕ → ℕ → Val → Out Val → Out Val
linked op at limit v right = if decides op v then gave v free else bind right (λ w. operated op at limit v w)

-- one link, and one step
abbrev pub link_out : LinkTree → EvalContext → Val → Out Val
link_out l s v = linked l.op l.at s.limit v (expr_out l.right s)

-- a call of a method on a value: TypeError on undefined and null, then the arguments from left to right, then
-- the method
abbrev pub call_out : ℕ → Method → Exprs → EvalContext → Val → Out Val
call_out at method args s v =
    bind (present v) (λ _. bind (exprs_out args s) (λ ws. called method at s.limit v ws))

-- an index behind a value: the expression in the brackets, then the element or property that it names
abbrev pub index_out : ℕ → ExprTree → EvalContext → Val → Out Val
index_out at index s v = bind (expr_out index s) (λ i. indexed at s.limit v i)

-- one step behind a value
abbrev pub step_out : StepTree → EvalContext → Val → Out Val
step_out of_length s v = length_property v
step_out of_description s v = description_of v
step_out (of_call at method args) s v = call_out at method args s v
step_out (of_index at index) s v = index_out at index s v
step_out (of_property at key) s v = property_of at s.limit key v
