-- The short ways: names and numbers at hand, an operator on two of them, and a test.
use Rattle.std.proofs.Common.{arith, ◌≡◌, ℕ, List, [], ◌∷◌, length, get_or, refl, ap, sym, subst, Bool, false, if◌then◌else◌, Option, Some, None, option_map, Ok}
use Rattle.std.specs.Prelude.{IfSome, MatchOption}
use denote.Bor.{Bor}
use Rattle.js_number.specs.declared.Num.{Num}
use Rattle.js_store.specs.State.{State}
use Rattle.js_store.proofs.Laws.{step_refl}
use Rattle.eval_tree.specs.declared.tree.Op.{Op}
use Rattle.eval_tree.specs.declared.tree.Link.{Link}
use Rattle.eval_tree.specs.Tree.{ExprTree, no_links, link, chain, expr_tree, links_tree}
use Rattle.js_item.specs.declared.item.Item.{Item}
use Rattle.js_item.specs.declared.item.Item.TheVariants.{Number, Bool as Boolean}
use Rattle.js_item.specs.Contents.{number}
use Rattle.js_item.specs.Seen.{Val, seen}
use Rattle.js_item.specs.Fine.{IsFine}
use Rattle.eval_values.specs.Outcome.{Out, gave, free, bind}
use Rattle.eval_values.specs.Conversions.{to_boolean}
use Rattle.eval_values.specs.Does.{GivesValue, GivesPlain}
use Rattle.eval_values.proofs.Compose.{ran_free}
use Rattle.eval_scopes.specs.Bindings.{Bound}
use Rattle.js_eval.specs.Expression.{EvalContext, decides, operated, read_out, expr_out, links_out}
use Rattle.js_eval.specs.Flows.{told}
use Rattle.js_eval.proofs.Copied.{ran_seen}
use Rattle.js_eval.proofs.Expressions.{does_bind, read_some}
use Rattle.js_eval.proofs.Statements.{test_holds}

-- one link alone
pub alone : (ls : List Link) (l : Link) → length ls ≡ 1 → l ≡ get_or ls 0 l → link l.at l.op (expr_tree l.right) no_links ≡ links_tree ls
alone [] l e p = absurd (omega (arith, e))
alone (m ∷ []) l e p = ap (λ (q : Link). link q.at q.op (expr_tree q.right) no_links) p
alone (m ∷ n ∷ ls) l e p = absurd (omega (arith, e))

module _ {F R : Type 0} (name : R → ℕ) (s : State F) where
  -- a value in its place
  name_at_hand : (o : Option (Bound Val)) (v : Item R) → option_map (λ b. b.value) o ≡ Some (seen s name v) → IsFine s name v → GivesValue name s s (Ok v) (read_out o)
  name_at_hand o v e h = subst (λ (q : Out Val). GivesValue name s s (Ok v) q) (sym (read_some o (seen s name v) e)) (record { is = refl; good = h; ran = ran_seen s name v h })

  pub looked : (r : Option (Bor (Item R))) (o : Option (Bound Val)) → MatchOption r (o ≡ None)
      (λ v. option_map (λ b. b.value) o ≡ Some (seen s name v.now)) → IfSome r (λ v. IsFine s name v.now) → IfSome r
      (λ v. GivesValue name s s (Ok v.now) (read_out o))
  looked None o e h = tt
  looked (Some v) o e h = name_at_hand o v.now e h

  -- an operator on two numbers
  of_numbers : (scope : EvalContext) (first right : ExprTree) (at : ℕ) (op : Op) (m n : Num) (v : Item R) → GivesValue {R = R} name s s
      (Ok (Number m)) (expr_out first scope) → GivesValue {R = R} name s s (Ok (Number n)) (expr_out right scope) → decides op (number m) ≡
      false → GivesValue name s s (Ok v) (operated op at scope.limit (number m) (number n)) → IsFine s name v → GivesValue name s s (Ok v)
      (expr_out (chain first (link at op right no_links)) scope)
  of_numbers scope first right at op m n v d e u f h =
      let both : GivesValue name s s (Ok v) (bind (expr_out right scope) (λ w. operated op at scope.limit (number m) w)) = does_bind name s
      s s (Number n) (Ok v) (expr_out right scope) (λ w. operated op at scope.limit (number m) w) e f in
      let one : GivesValue name s s (Ok v) (if decides op (number m) then gave (number m) free else bind (expr_out right scope) (λ w. operated op at scope.limit (number m) w)) =
      subst (λ (q : Bool). GivesValue name s s (Ok v) (if q then gave (number m) free else bind (expr_out right scope) (λ w. operated op at scope.limit (number m) w))) (sym u) both in
      does_bind name s s s (Number m) (Ok v) (expr_out first scope) (λ x. links_out (link at op right no_links) scope x) d
      (does_bind name s s s v (Ok v) (if decides op (number m) then gave (number m) free else bind (expr_out right scope)
      (λ w. operated op at scope.limit (number m) w)) (λ x. gave x free) one (record { is = refl; good = h; ran = ran_free s }))

  pub short_does : (scope : EvalContext) (first right : ExprTree) (at : ℕ) (op : Op) (m n : Num) (r : Option (Item R)) → GivesValue {R = R}
      name s s (Ok (Number m)) (expr_out first scope) → GivesValue {R = R} name s s (Ok (Number n))
      (expr_out right scope) → ((v : Val) → decides op v ≡ false) → ((place limit : ℕ) → IfSome r
      (λ v. GivesValue name s s (Ok v) (operated op place limit (number m) (number n)))) → IfSome r (λ v. IsFine s name v) → IfSome r
      (λ v. GivesValue name s s (Ok v) (expr_out (chain first (link at op right no_links)) scope))
  short_does scope first right at op m n None d e u f h = tt
  short_does scope first right at op m n (Some v) d e u f h = of_numbers scope first right at op m n v d e (u (number m)) (f at scope.limit) h

  -- a test whose value is at hand
  pub test_told : (b : Bool) (o : Out Val) → GivesValue {R = R} name s s (Ok (Boolean b)) o → GivesPlain s s (Ok b) (told to_boolean o)
  test_told b o d = test_holds name s s s (Boolean b) b o refl (step_refl s) refl d
