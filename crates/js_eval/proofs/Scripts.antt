-- A whole script: its literals, and then its statements.
use Rattle.std.proofs.Common.{◌≡◌, ℕ, List, [], ap, ◌∙◌, subst, Vec, Global, Result, Ok, Err}
use Rattle.js_store.specs.State.{State, Grows}
use Rattle.eval_tree.specs.Tree.{Tree}
use Rattle.js_texts.specs.Texts.{AllKnown, known_texts as texts_seen}
use Rattle.js_item.specs.declared.item.Item.{Item}
use Rattle.eval_values.specs.declared.value.Stop.{Stop}
use Rattle.js_item.specs.Seen.{Val}
use Rattle.eval_values.specs.Outcome.{each}
use Rattle.eval_values.specs.Does.{GivesTexts}
use Rattle.eval_scopes.specs.Bindings.{Bound, Bindings}
use Rattle.eval_scopes.specs.Seen.{bindings_of}
use Rattle.js_eval.specs.declared.context.Context.{Context}
use Rattle.js_eval.specs.Expression.{EvalContext}
use Rattle.js_eval.specs.Script.{with_top, stmts_flow, meaning}
use Rattle.js_eval.specs.Pieces.{literal_out}
use Rattle.js_eval.specs.Seen.{BoundsFine, bounds_seen, bindings_seen, scope_of}
use Rattle.js_eval.specs.Flows.{FollowsFlow, WentTop}
use Rattle.js_eval.proofs.Stays.{bounds_still}
use Rattle.js_eval.proofs.Flows.{value_went, value_halts, top_went}

module _ {F R : Type 0} (name : R → ℕ) (a b : State F) (x : List ℕ) (top : List (Bound (Item R))) (t : Tree) (g : Grows a b) (h : BoundsFine a name top) where
  pub script_went : (c : State F) (z : List ℕ) (k : Context R) (r : Result (Unit {0}) Stop) (bs : Bindings Val) → bindings_of
      k.scope ≡ record { blocks = []; top = top } → GivesTexts name a b (Ok k.literals) (each (literal_out a.limit) t.literals) → FollowsFlow
      b c x z r bs (stmts_flow t.body (scope_of b name k)) → WentTop a c x z r bs.top (meaning t (bounds_seen a name top) a.limit)
  script_went c z k r bs e d w =
      let begun : bindings_seen b name (bindings_of k.scope) ≡ with_top (bounds_seen a name top) = ap
      (λ (q : Bindings (Item R)). bindings_seen b name q) e ∙ ap with_top (bounds_still a b name g top h) in
      let same : scope_of b name k ≡ record { literals = texts_seen b name k.literals.items; bindings = with_top (bounds_seen a name top); limit = a.limit } = cc (begun, g.limit) in
      top_went a c x z r bs (meaning t (bounds_seen a name top) a.limit)
      (value_went a b c x z (λ s (v : Vec R Global). texts_seen s name v.items) (λ s (v : Vec R Global). AllKnown s name v.items) k.literals
      r (with_top (bounds_seen a name top)) bs (each (literal_out a.limit) t.literals)
      (λ ls. stmts_flow t.body (record { literals = ls; bindings = with_top (bounds_seen a name top); limit = a.limit })) d
      (subst (λ (q : EvalContext). FollowsFlow b c x z r bs (stmts_flow t.body q)) same w))

  pub script_halts : (n : Stop) → GivesTexts name a b (Err n) (each (literal_out a.limit) t.literals) → WentTop a b x x (Err n) (bounds_seen b name top) (meaning t (bounds_seen a name top) a.limit)
  script_halts n d =
      top_went a b x x (Err n) (with_top (bounds_seen b name top)) (meaning t (bounds_seen a name top) a.limit)
      (value_halts {V = Vec R Global} a b x (λ s (v : Vec R Global). texts_seen s name v.items)
      (λ s (v : Vec R Global). AllKnown s name v.items) n (with_top (bounds_seen a name top)) (with_top (bounds_seen b name top))
      (each (literal_out a.limit) t.literals) (λ ls. stmts_flow t.body
      (record { literals = ls; bindings = with_top (bounds_seen a name top); limit = a.limit })) (ap with_top (bounds_still a b name g top h)) d)
