-- Statements in a context: a value and then what is done with it, blocks, arms, and statements in order.
use Rattle.js_eval.specs.Pieces.{sum_of_both}
use Rattle.std.proofs.Common.{arith, ◌≡◌, ℕ, ◌+◌, ◌<◌, List, length, get_or, drop, map, refl, ap, sym, ◌∙◌, subst, Bool, true, false, if◌then◌else◌, None, Result, Ok, Err}
use Rattle.js_store.specs.State.{State, Grows}
use Rattle.js_store.specs.Faults.{StoreStep}
use Rattle.js_store.proofs.Laws.{grows_trans, has_still}
use Rattle.eval_tree.specs.declared.tree.Stmt.{Stmt}
use Rattle.eval_tree.specs.declared.tree.Arm.{Arm}
use Rattle.eval_tree.specs.declared.tree.Block.{Block}
use Rattle.js_number.specs.declared.Num.TheVariants.{Int}
use Rattle.std.specs.Prelude.{pos}
use Rattle.eval_tree.specs.Tree.{ArmTree, ExprTree, BlockTree, expr_tree, stmt_tree, stmts_tree, block_tree, arm_tree, arms}
use Rattle.eval_tree.proofs.Trees.{block_is, arm_is}
use Rattle.js_texts.proofs.Lists.{drop_at}
use Rattle.js_item.specs.declared.item.Item.{Item}
use Rattle.eval_values.specs.declared.value.Stop.{Stop}
use Rattle.eval_values.specs.declared.value.Stop.TheVariants.{Threw, Unsupported, Store}
use Rattle.js_item.specs.Seen.{Val, seen}
use Rattle.eval_values.specs.Outcome.{Ledger, Out, gave, ended, threw, unsupported, bind}
use Rattle.js_item.specs.Contents.{number}
use Rattle.eval_values.specs.Conversions.{to_boolean}
use Rattle.eval_values.specs.Operators.{plus}
use Rattle.js_item.specs.Fine.{IsFine}
use Rattle.eval_values.specs.Ran.{MeetsLedger}
use Rattle.eval_values.specs.Does.{GivesValue, GivesPlain}
use Rattle.eval_values.proofs.Compose.{did_bind, did_stop}
use Rattle.eval_values.proofs.Still.{seen_still}
use Rattle.eval_scopes.specs.Bindings.{Bindings, meant, entered, turned, outer}
use Rattle.js_eval.specs.declared.context.Context.{Context}
use Rattle.js_eval.specs.Expression.{EvalContext, read_out, expr_out}
use Rattle.js_eval.specs.Script.{Flow, on_value, with_bindings, stmt_flow, stmts_flow, block_flow, arms_flow, turn_flow}
use Rattle.js_eval.specs.Seen.{ContextFine, context_bindings, scope_of}
use Rattle.js_eval.specs.Flows.{FollowsFlow, told}
use Rattle.js_eval.proofs.Stays.{context_bindings_still, scope_still}
use Rattle.js_eval.proofs.Flows.{value_went, value_halts, left_went, went_on, went_halt}

-- an evaluation, and then a call that uses nothing
ran_then : {F : Type 0} {a b c : State F} {l : Ledger} → MeetsLedger a b l → StoreStep b c None 0 0 → c.history ≡ b.history → MeetsLedger a c l
ran_then r s h = record {
  grows = grows_trans r.grows s.grows;
  history = record { pairs = r.history.pairs; grown = h ∙ r.history.grown; same = r.history.same };
  texts = λ u k. let t = r.texts u k in (t.0, has_still s.grows t.0 u t.1);
  within_ids = let v = r.within_ids in let w = s.within_ids in omega arith;
  within_words = let v = r.within_words in let w = s.within_words in omega arith;
}

module _ {F R : Type 0} (name : R → ℕ) where
  -- a value, and then what is done with it in the same scope
  pub then_went : (a b c : State F) (x : List ℕ) (k : Context R) (v : Item R) (r : Result
      (Unit {0}) Stop) (cs : Bindings Val) (o : Out Val) (go : EvalContext → Val → Flow) → Grows a b → ContextFine a name k → GivesValue name
      a b (Ok v) o → FollowsFlow b c x x r cs (go (scope_of b name k) (seen b name v)) → FollowsFlow a c x x r cs
      (on_value o (context_bindings a name k) (λ w. go (scope_of a name k) w))
  then_went a b c x k v r cs o go g h d w =
      value_went a b c x x (λ s q. seen s name q) (λ s q. IsFine s name q) v r (context_bindings a name k) cs o (λ q. go (scope_of a name k) q) d
      (subst (λ (s : EvalContext). FollowsFlow b c x x r cs (go s (seen b name v))) (scope_still a b name g k h) w)

  pub then_halts : (a b : State F) (x : List ℕ) (k : Context R) (n : Stop) (o : Out Val) (go : Val → Flow) → Grows a b → ContextFine a name
      k → GivesValue name a b (Err n) o → FollowsFlow a b x x (Err n) (context_bindings b name k) (on_value o (context_bindings a name k) go)
  then_halts a b x k n o go g h d = value_halts {V = Item R} a b x (λ s q. seen s name q) (λ s q. IsFine s name q) n
      (context_bindings a name k) (context_bindings b name k) o go (context_bindings_still a b name g k h) d

  -- what a name means, then an expression, and then their sum
  pub sum_does : (a b c : State F) (at : ℕ) (x : List ℕ) (e : ExprTree) (k : Context R) (v w : Item R) (r : Result (Item R) Stop) → Grows a
      b → IsFine a name v → GivesValue name a a (Ok v) (read_out (meant (context_bindings a name k) x)) → GivesValue name a b (Ok w)
      (expr_out e (scope_of a name k)) → GivesValue name b c r (plus at b.limit (seen b name v) (seen b name w)) → GivesValue name a c r
      (sum_of_both at x e (scope_of a name k))
  sum_does a b c at x e k v w r g f d d' z =
      let one : GivesValue name b c r (plus at a.limit (seen b name v) (seen b name w)) = subst (λ (q : ℕ). GivesValue name b c r (plus at q (seen b name v) (seen b name w))) g.limit z in
      let two : GivesValue name b c r (plus at a.limit (seen a name v) (seen b name w)) = subst
      (λ (q : Val). GivesValue name b c r (plus at a.limit q (seen b name w))) (seen_still a b name g v f) one in
      did_bind a a c (λ s q. seen s name q) (λ s q. IsFine s name q) (λ s q. seen s name q) (λ s q. IsFine s name q) v r
      (read_out (meant (context_bindings a name k) x)) (λ p. bind (expr_out e (scope_of a name k)) (λ q. plus at a.limit p q)) d
      (did_bind a b c (λ s q. seen s name q) (λ s q. IsFine s name q) (λ s q. seen s name q) (λ s q. IsFine s name q) w r
      (expr_out e (scope_of a name k)) (λ q. plus at a.limit (seen a name v) q) d' two)

  pub sum_stops : (a b : State F) (at : ℕ) (x : List ℕ) (e : ExprTree) (k : Context R) (v : Item R) (n : Stop) → GivesValue name a a (Ok v)
      (read_out (meant (context_bindings a name k) x)) → GivesValue name a b (Err n) (expr_out e (scope_of a name k)) → GivesValue name a b
      (Err n) (sum_of_both at x e (scope_of a name k))
  sum_stops a b at x e k v n d d' =
      did_bind a a b (λ s q. seen s name q) (λ s q. IsFine s name q) (λ s q. seen s name q) (λ s q. IsFine s name q) v (Err n)
      (read_out (meant (context_bindings a name k) x)) (λ p. bind (expr_out e (scope_of a name k)) (λ q. plus at a.limit p q)) d
      (did_stop a b (λ s q. seen s name q) (λ s q. IsFine s name q) (λ s q. seen s name q) (λ s q. IsFine s name q) n (expr_out e (scope_of a name k)) (λ q. plus at a.limit (seen a name v) q) d')

  -- a test, of whose value the truth is told
  pub test_holds : (a b c : State F) (v : Item R) (t : Bool) (o : Out Val) → t ≡ to_boolean (seen b name v) → StoreStep b c None 0 0 →
      c.history ≡ b.history → GivesValue name a b (Ok v) o → GivesPlain a c (Ok t) (told to_boolean o)
  test_holds a b c v t (gave x l) e s h d = record {
    is = e ∙ ap to_boolean d.is;
    good = tt;
    ran = ran_then d.ran s h;
  }
  test_holds a b c v t (ended n l) e s h d = absurd d

  pub test_stops : (a b : State F) (n : Stop) (o : Out Val) → GivesValue name a b (Err n) o → GivesPlain {A = Bool} a b (Err n) (told to_boolean o)
  test_stops a b (Threw k) (gave x l) d = absurd d
  test_stops a b (Threw k) (ended (threw m) l) d = d
  test_stops a b (Threw k) (ended (unsupported m) l) d = absurd d
  test_stops a b (Unsupported k) (gave x l) d = absurd d
  test_stops a b (Unsupported k) (ended (threw m) l) d = absurd d
  test_stops a b (Unsupported k) (ended (unsupported m) l) d = d
  test_stops a b (Store f) (gave x l) d = d
  test_stops a b (Store f) (ended m l) d = d

-- a flow that looks at a value's truth alone
told_flow : (o : Out Val) (bs : Bindings Val) (f g : Flow) → on_value o bs (λ v. if to_boolean v then f else g) ≡ on_value (told to_boolean o) bs (λ t. if t then f else g)
told_flow (gave x l) bs f g = refl
told_flow (ended n l) bs f g = refl

module _ {F R : Type 0} (name : R → ℕ) where
  -- a block that was entered, ran, and was left
  pub block_went : (a b : State F) (x y : List ℕ) (block : Block) (k i : Context R) (r : Result (Unit {0}) Stop) (bs cs : Bindings Val) →
      i.literals ≡ k.literals → context_bindings a name i ≡ entered block.names (context_bindings a name k) → FollowsFlow a b x y r bs
      (stmts_flow (stmts_tree block.body.items) (scope_of a name i)) → cs ≡ outer bs → FollowsFlow a b x y r cs
      (block_flow (block_tree block) (scope_of a name k))
  block_went a b x y block k i r bs cs l e w o =
      let same : scope_of a name i ≡ with_bindings (scope_of a name k) (entered block.names (context_bindings a name k)) = cc (l, e) in
      subst (λ (q : BlockTree). FollowsFlow a b x y r cs (block_flow q (scope_of a name k))) (sym (block_is block))
      (left_went a b x y r bs cs (stmts_flow (stmts_tree block.body.items) (with_bindings (scope_of a name k) (entered block.names (context_bindings a name k)))) o
      (subst (λ (s : EvalContext). FollowsFlow a b x y r bs (stmts_flow (stmts_tree block.body.items) s)) same w))

  pub turn_went : (a b : State F) (x y : List ℕ) (n : List ℕ) (i : ℕ) (t : BlockTree)
      (k j : Context R) (v : Val) (r : Result (Unit {0}) Stop) (bs cs : Bindings Val) → j.literals ≡ k.literals → v ≡ number (Int (pos i)) →
      context_bindings a name j ≡ turned n v (context_bindings a name k) → FollowsFlow a b x y r bs (block_flow t (scope_of a name j)) → cs ≡
      outer bs → FollowsFlow a b x y r cs (turn_flow n t (scope_of a name k) i (context_bindings a name k))
  turn_went a b x y n i t k j v r bs cs l p e w o =
      let e' : context_bindings a name j ≡ turned n (number (Int (pos i))) (context_bindings a name k) = subst (λ (q : Val). context_bindings a name j ≡ turned n q (context_bindings a name k)) p e in
      let same : scope_of a name j ≡ with_bindings (scope_of a name k) (turned n (number (Int (pos i))) (context_bindings a name k)) = cc (l, e') in
      left_went a b x y r bs cs (block_flow t (with_bindings (scope_of a name k) (turned n (number (Int (pos i))) (context_bindings a name k)))) o
      (subst (λ (s : EvalContext). FollowsFlow a b x y r bs (block_flow t s)) same w)

  -- what a scope is for the statements after others, in a store that grew
  pub scope_after : (a b : State F) (k i : Context R) → Grows a b → ContextFine a name k → i.literals ≡ k.literals → scope_of b name i ≡ with_bindings (scope_of a name k) (context_bindings b name i)
  scope_after a b k i g h l =
      let s : scope_of b name k ≡ scope_of a name k = scope_still a b name g k h in
      let t : (scope_of b name k).literals ≡ (scope_of a name k).literals = ap (λ (q : EvalContext). q.literals) s in
      cc (l, t, g.limit)

  -- the next of the statements, and then those after it
  module _ (a b : State F) (x y : List ℕ) (ss : List Stmt) (i : ℕ) (s : Stmt) (k : Context R) (l : i < length ss) (p : s ≡ get_or ss i s) where
    pub body_turn : (c : State F) (z : List ℕ) (k' : Context R) (r : Result (Unit {0}) Stop) (cs : Bindings Val) → Grows a b → ContextFine a
        name k → k'.literals ≡ k.literals → FollowsFlow a b x y (Ok tt) (context_bindings b name k')
        (stmt_flow (stmt_tree s) (scope_of a name k)) → FollowsFlow b c y z r cs
        (stmts_flow (stmts_tree (drop (i + 1) ss)) (scope_of b name k')) → FollowsFlow a c x z r cs (stmts_flow (stmts_tree (drop i ss)) (scope_of a name k))
    body_turn c z k' r cs g h e d w =
        subst (λ (q : List Stmt). FollowsFlow a c x z r cs (stmts_flow (stmts_tree q) (scope_of a name k))) (sym (drop_at ss i s l p))
        (went_on a b c x y z r (context_bindings b name k') cs (stmt_flow (stmt_tree s) (scope_of a name k)) (λ q. stmts_flow (stmts_tree (drop (i + 1) ss)) (with_bindings (scope_of a name k) q)) d
        (subst (λ (q : EvalContext). FollowsFlow b c y z r cs (stmts_flow (stmts_tree (drop (i + 1) ss)) q)) (scope_after a b k k' g h e) w))

    pub body_halt : (n : Stop) (cs : Bindings Val) → FollowsFlow a b x y (Err n) cs (stmt_flow (stmt_tree s) (scope_of a name k)) →
        FollowsFlow a b x y (Err n) cs (stmts_flow (stmts_tree (drop i ss)) (scope_of a name k))
    body_halt n cs d =
        subst (λ (q : List Stmt). FollowsFlow a b x y (Err n) cs (stmts_flow (stmts_tree q) (scope_of a name k))) (sym (drop_at ss i s l p))
        (went_halt a b x y n cs (stmt_flow (stmt_tree s) (scope_of a name k)) (λ q. stmts_flow (stmts_tree (drop (i + 1) ss)) (with_bindings (scope_of a name k) q)) d)

  -- an arm, and then those after it; rest is what `else` leads to
  module _ (a b : State F) (x : List ℕ) (ls : List Arm) (i : ℕ) (m : Arm) (rest : EvalContext → Flow) (k : Context R) (l : i < length ls) (p : m ≡ get_or ls i m) where
    arms_at : (c : State F) (z : List ℕ) (r : Result (Unit {0}) Stop) (cs : Bindings Val) → FollowsFlow a c x z r cs
        (on_value (told to_boolean (expr_out (expr_tree m.test) (scope_of a name k))) (context_bindings a name k)
        (λ t. if t then block_flow (block_tree m.body) (scope_of a name k) else arms_flow (arms (map arm_tree (drop (i + 1) ls))) rest
        (scope_of a name k))) → FollowsFlow a c x z r cs (arms_flow (arms (map arm_tree (drop i ls))) rest (scope_of a name k))
    arms_at c z r cs w =
        let s : EvalContext = scope_of a name k in
        let taken : Flow = block_flow (block_tree m.body) s in
        let passed : Flow = arms_flow (arms (map arm_tree (drop (i + 1) ls))) rest s in
        subst (λ (q : List Arm). FollowsFlow a c x z r cs (arms_flow (arms (map arm_tree q)) rest s)) (sym (drop_at ls i m l p))
        (subst (λ (q : ArmTree). FollowsFlow a c x z r cs (on_value (expr_out q.test s) s.bindings (λ v. if to_boolean v then block_flow q.body s else passed))) (sym (arm_is m))
        (subst (λ (q : Flow). FollowsFlow a c x z r cs q) (sym (told_flow (expr_out (expr_tree m.test) s) s.bindings taken passed)) w))

    pub arms_turn : (c : State F) (z : List ℕ) (r : Result (Unit {0}) Stop) (cs : Bindings Val) (t : Bool) → t ≡ false → Grows a b →
        ContextFine a name k → GivesPlain a b (Ok t) (told to_boolean (expr_out (expr_tree m.test) (scope_of a name k))) → FollowsFlow b c x z
        r cs (arms_flow (arms (map arm_tree (drop (i + 1) ls))) rest (scope_of b name k)) → FollowsFlow a c x z r cs
        (arms_flow (arms (map arm_tree (drop i ls))) rest (scope_of a name k))
    arms_turn c z r cs t e g h d w =
        let s : EvalContext = scope_of a name k in
        let passed : Flow = arms_flow (arms (map arm_tree (drop (i + 1) ls))) rest s in
        let w' : FollowsFlow b c x z r cs passed = subst (λ (q : EvalContext). FollowsFlow b c x z r cs (arms_flow (arms (map arm_tree (drop (i + 1) ls))) rest q)) (scope_still a b name g k h) w in
        arms_at c z r cs
        (value_went a b c x z (λ o q. q) (λ o q. Unit {0}) t r (context_bindings a name k) cs
        (told to_boolean (expr_out (expr_tree m.test) s)) (λ q. if q then block_flow (block_tree m.body) s else passed) d
        (subst (λ (q : Bool). FollowsFlow b c x z r cs (if q then block_flow (block_tree m.body) s else passed)) (sym e) w'))

    pub arms_take : (c : State F) (z : List ℕ) (r : Result (Unit {0}) Stop) (cs : Bindings Val) (t : Bool) → t ≡ true → Grows a b →
        ContextFine a name k → GivesPlain a b (Ok t) (told to_boolean (expr_out (expr_tree m.test) (scope_of a name k))) → FollowsFlow b c x z
        r cs (block_flow (block_tree m.body) (scope_of b name k)) → FollowsFlow a c x z r cs
        (arms_flow (arms (map arm_tree (drop i ls))) rest (scope_of a name k))
    arms_take c z r cs t e g h d w =
        let s : EvalContext = scope_of a name k in
        let passed : Flow = arms_flow (arms (map arm_tree (drop (i + 1) ls))) rest s in
        let w' : FollowsFlow b c x z r cs (block_flow (block_tree m.body) s) = subst
        (λ (q : EvalContext). FollowsFlow b c x z r cs (block_flow (block_tree m.body) q)) (scope_still a b name g k h) w in
        arms_at c z r cs
        (value_went a b c x z (λ o q. q) (λ o q. Unit {0}) t r (context_bindings a name k) cs
        (told to_boolean (expr_out (expr_tree m.test) s)) (λ q. if q then block_flow (block_tree m.body) s else passed) d
        (subst (λ (q : Bool). FollowsFlow b c x z r cs (if q then block_flow (block_tree m.body) s else passed)) (sym e) w'))

    pub arms_halt : (n : Stop) → Grows a b → ContextFine a name k → GivesPlain {A = Bool} a b (Err n)
        (told to_boolean (expr_out (expr_tree m.test) (scope_of a name k))) → FollowsFlow a b x x (Err n) (context_bindings b name k)
        (arms_flow (arms (map arm_tree (drop i ls))) rest (scope_of a name k))
    arms_halt n g h d =
        let s : EvalContext = scope_of a name k in
        let passed : Flow = arms_flow (arms (map arm_tree (drop (i + 1) ls))) rest s in
        arms_at b x (Err n) (context_bindings b name k)
        (value_halts {V = Bool} a b x (λ o q. q) (λ o q. Unit {0}) n (context_bindings a name k) (context_bindings b name k)
        (told to_boolean (expr_out (expr_tree m.test) s)) (λ q. if q then block_flow (block_tree m.body) s else passed)
        (context_bindings_still a b name g k h) d)

  -- a turn in a store that grew since the first one
  pub turn_after : (a b c : State F) (x y : List ℕ) (n : List ℕ) (i : ℕ) (t : BlockTree)
      (k j : Context R) (r : Result (Unit {0}) Stop) (cs : Bindings Val) → Grows a b → ContextFine a name k → j.literals ≡ k.literals →
      FollowsFlow b c x y r cs (turn_flow n t (scope_of b name j) i (context_bindings b name j)) → FollowsFlow b c x y r cs
      (turn_flow n t (scope_of a name k) i (context_bindings b name j))
  turn_after a b c x y n i t k j r cs g h l w =
      subst (λ (s : EvalContext). FollowsFlow b c x y r cs (turn_flow n t s i (context_bindings b name j))) (scope_after a b k j g h l) w
