-- One lemma for each kind of expression, and for its early end.
use Rattle.std.proofs.Common.{arith, ◌≡◌, ℕ, List, [], ◌∷◌, refl, ap, ◌∙◌, sym, subst, ◌<◌, ◌+◌, length, get_or, drop, Bool, true, false, if◌then◌else◌, Option}
use Rattle.std.proofs.Common.{Some, None, option_map, Vec, Global, Result, Ok, Err}
use Rattle.std.specs.Prelude.{IfOk}
use Rattle.std.proofs.Math.ListN.{drop_of_length-le}
use Rattle.js_store.specs.State.{State, Grows}
use Rattle.js_store.specs.Faults.{StoreStep}
use Rattle.js_store.specs.declared.faults.StoreFault.TheVariants.{Memory}
use Rattle.js_store.proofs.Laws.{grows_trans, step_refl}
use Rattle.eval_tree.specs.declared.tree.Expr.{Expr}
use Rattle.eval_tree.specs.declared.tree.Link.{Link}
use Rattle.eval_tree.specs.declared.tree.PostStep.{PostStep}
use Rattle.eval_tree.specs.declared.tree.Method.{Method}
use Rattle.eval_tree.specs.declared.tree.Builtin.{Builtin}
use Rattle.eval_tree.specs.Tree.{ExprTree, chain, unary, conditional, post, builtin, Links, StepList, Exprs, LinkTree, StepTree, of_length, of_description}
use Rattle.eval_tree.specs.Tree.{of_call, of_index, of_property, with_step, expr_tree, link_tree, links_tree, step_tree, steps_tree, exprs_tree}
use Rattle.js_item.specs.declared.item.Item.{Item}
use Rattle.js_item.specs.declared.item.Item.TheVariants.{Undefined, Null, Bool as Boolean, Number, Text, Symbol, List as Listed, Object}
use Rattle.eval_values.specs.declared.value.Kind.TheVariants.{ReferenceError}
use Rattle.eval_values.specs.declared.value.Stop.{Stop}
use Rattle.eval_values.specs.declared.value.Stop.TheVariants.{Threw, Store}
use Rattle.eval_scopes.specs.Bindings.{Bound}
use Rattle.js_eval.specs.declared.context.Context.{Context}
use Rattle.eval_values.specs.Need.{nothing}
use Rattle.js_item.specs.Seen.{Val, seen}
use Rattle.eval_values.specs.Outcome.{Out, gave, free, bind, mapped, each, needing, number_of}
use Rattle.js_item.specs.Views.{content_of}
use Rattle.eval_values.specs.Operators.{unary_out}
use Rattle.eval_values.specs.Conversions.{to_boolean}
use Rattle.eval_members.specs.Members.{present, called}
use Rattle.eval_members.specs.Indexing.{indexed}
use Rattle.eval_members.specs.Properties.{property_of}
use Rattle.eval_builtins.specs.Builtins.{built}
use Rattle.js_eval.specs.Expression.{EvalContext, decides, operated, read_out, expr_out, links_out, link_out, steps_out, step_out, call_out, index_out, exprs_out}
use Rattle.js_item.specs.Fine.{IsFine}
use Rattle.eval_values.specs.Seen.{IsNumberWritten, all_seen, AllFine}
use Rattle.js_eval.specs.Seen.{ContextFine, scope_of}
use Rattle.eval_values.specs.Ran.{ComesTo}
use Rattle.eval_values.specs.Does.{GivesValue, GivesValues}
use Rattle.js_texts.proofs.Lists.{drop_at}
use Rattle.eval_values.proofs.Compose.{did_bind, did_stop, did_before, ran_free, ran_of_step, cut_of_memory}
use Rattle.eval_values.proofs.Each.{bind_same, each_behind, each_is}
use Rattle.eval_values.proofs.Still.{seen_still, fine_still}
use Rattle.js_eval.proofs.Stays.{scope_still}
use Rattle.eval_values.proofs.Copied.{seen_copy, fine_copy}
use Rattle.js_eval.proofs.Copied.{ran_seen}

-- a step in front of others
steps_step : (s : StepTree) (rest : StepList) (scope : EvalContext) (v : Val) → steps_out (with_step s rest) scope v ≡ bind (step_out s scope v) (λ x. steps_out rest scope x)
steps_step of_length rest scope v = refl
steps_step of_description rest scope v = refl
steps_step (of_call at method args) rest scope v = refl
steps_step (of_index at index) rest scope v = refl
steps_step (of_property at key) rest scope v = refl

-- expressions in order are the same evaluation of each
exprs_each : (es : List Expr) (s : EvalContext) → exprs_out (exprs_tree es) s ≡ each (λ e. expr_out (expr_tree e) s) es
exprs_each [] s = refl
exprs_each (e ∷ es) s = bind_same (expr_out (expr_tree e) s) _ _ (λ v. ap (λ o. mapped (λ vs. v ∷ vs) o) (exprs_each es s))

pub exprs_are : (es : List Expr) (s : EvalContext) → exprs_out (exprs_tree es) s ≡ each_behind (λ e. expr_out (expr_tree e) s) es []
exprs_are es s = exprs_each es s ∙ each_is (λ e. expr_out (expr_tree e) s) es

module _ {F R : Type 0} (name : R → ℕ) (a b : State F) where
  -- a value, and then what is done with it; or an early end
  pub does_bind : (c : State F) (v : Item R) (r : Result (Item R) Stop) (o : Out Val) (go : Val → Out Val) → GivesValue name a b (Ok v) o →
      GivesValue name b c r (go (seen b name v)) → GivesValue name a c r (bind o go)
  does_bind c v r o go d e = did_bind a b c (λ s w. seen s name w) (λ s w. IsFine s name w) (λ s w. seen s name w) (λ s w. IsFine s name w) v r o go d e

  pub does_stop : (n : Stop) (o : Out Val) (go : Val → Out Val) → GivesValue name a b (Err n) o → GivesValue name a b (Err n) (bind o go)
  does_stop n o go d = did_stop a b (λ s w. seen s name w) (λ s w. IsFine s name w) (λ s w. seen s name w) (λ s w. IsFine s name w) n o go d

  pub unary_does : (c : State F) (v : Item R) (r : Result (Item R) Stop) (at : ℕ) (minus : Bool) (t : ExprTree) (s : EvalContext) →
      GivesValue name a b (Ok v) (expr_out t s) → GivesValue name b c r (unary_out minus at (seen b name v)) → GivesValue name a c r
      (expr_out (unary at minus t) s)
  unary_does c v r at minus t s d e = does_bind c v r (expr_out t s) (λ w. unary_out minus at w) d e

  pub unary_stops : (n : Stop) (at : ℕ) (minus : Bool) (t : ExprTree) (s : EvalContext) → GivesValue name a b (Err n) (expr_out t s) → GivesValue name a b (Err n) (expr_out (unary at minus t) s)
  unary_stops n at minus t s d = does_stop n (expr_out t s) (λ w. unary_out minus at w) d

  pub chain_does : (c : State F) (v : Item R) (r : Result (Item R) Stop) (t : ExprTree) (ls : Links) (context : Context R) → Grows a b →
      ContextFine a name context → GivesValue name a b (Ok v) (expr_out t (scope_of a name context)) → GivesValue name b c r
      (links_out ls (scope_of b name context) (seen b name v)) → GivesValue name a c r (expr_out (chain t ls) (scope_of a name context))
  chain_does c v r t ls context g h d e =
      does_bind c v r (expr_out t (scope_of a name context)) (λ w. links_out ls (scope_of a name context) w) d
      (subst (λ (s : EvalContext). GivesValue name b c r (links_out ls s (seen b name v))) (scope_still a b name g context h) e)

  pub chain_stops : (n : Stop) (t : ExprTree) (ls : Links) (s : EvalContext) → GivesValue name a b (Err n) (expr_out t s) → GivesValue name a b (Err n) (expr_out (chain t ls) s)
  chain_stops n t ls s d = does_stop n (expr_out t s) (λ w. links_out ls s w) d

  pub post_does : (c : State F) (v : Item R) (r : Result (Item R) Stop) (t : ExprTree) (ss : StepList) (context : Context R) → Grows a b →
      ContextFine a name context → GivesValue name a b (Ok v) (expr_out t (scope_of a name context)) → GivesValue name b c r
      (steps_out ss (scope_of b name context) (seen b name v)) → GivesValue name a c r (expr_out (post t ss) (scope_of a name context))
  post_does c v r t ss context g h d e =
      does_bind c v r (expr_out t (scope_of a name context)) (λ w. steps_out ss (scope_of a name context) w) d
      (subst (λ (s : EvalContext). GivesValue name b c r (steps_out ss s (seen b name v))) (scope_still a b name g context h) e)

  pub post_stops : (n : Stop) (t : ExprTree) (ss : StepList) (s : EvalContext) → GivesValue name a b (Err n) (expr_out t s) → GivesValue name a b (Err n) (expr_out (post t ss) s)
  post_stops n t ss s d = does_stop n (expr_out t s) (λ w. steps_out ss s w) d

  pub builtin_does : (c : State F) (vs : Vec (Item R) Global) (r : Result
      (Item R) Stop) (at : ℕ) (which : Builtin) (es : Exprs) (context : Context R) → Grows a b → GivesValues name a b (Ok vs)
      (exprs_out es (scope_of a name context)) → GivesValue name b c r (built which at b.limit (all_seen b name vs.items)) → GivesValue name a
      c r (expr_out (builtin at which es) (scope_of a name context))
  builtin_does c vs r at which es context g d e = did_bind {V = Vec (Item R) Global} a b c (λ o w. all_seen o name w.items)
      (λ o w. AllFine o name w.items) (λ o w. seen o name w) (λ o w. IsFine o name w) vs r (exprs_out es (scope_of a name context))
      (λ ws. built which at a.limit ws) d
      (subst (λ (q : ℕ). GivesValue name b c r (built which at q (all_seen b name vs.items))) g.limit e)

  pub builtin_stops : (n : Stop) (at : ℕ) (which : Builtin) (es : Exprs) (s : EvalContext) → GivesValues name a b (Err n) (exprs_out es s) →
      GivesValue name a b (Err n) (expr_out (builtin at which es) s)
  builtin_stops n at which es s d = did_stop {V = Vec (Item R) Global} a b (λ o w. all_seen o name w.items) (λ o w. AllFine o name w.items)
      (λ o w. seen o name w) (λ o w. IsFine o name w) n (exprs_out es s) (λ ws. built which at s.limit ws) d

  -- the next of the links, and then those after it
  pub links_turn : (c : State F) (v w : Item R) (ls : List Link) (i : ℕ) (l : Link) (s : EvalContext) → i < length ls → l ≡ get_or ls i l →
      GivesValue name a b (Ok w) (link_out (link_tree l) s (seen a name v)) → (r : Result (Item R) Stop) → GivesValue name b c r
      (links_out (links_tree (drop (i + 1) ls)) s (seen b name w)) → GivesValue name a c r (links_out (links_tree (drop i ls)) s (seen a name v))
  links_turn c v w ls i l s h e d r f =
      subst (λ (q : List Link). GivesValue name a c r (links_out (links_tree q) s (seen a name v))) (sym (drop_at ls i l h e))
      (does_bind c w r (link_out (link_tree l) s (seen a name v)) (λ x. links_out (links_tree (drop (i + 1) ls)) s x) d f)

  pub links_halt : (v : Item R) (ls : List Link) (i : ℕ) (l : Link) (s : EvalContext) → i < length ls → l ≡ get_or ls i l → (n : Stop) →
      GivesValue name a b (Err n) (link_out (link_tree l) s (seen a name v)) → GivesValue name a b (Err n) (links_out (links_tree (drop i ls)) s (seen a name v))
  links_halt v ls i l s h e n d =
      subst (λ (q : List Link). GivesValue name a b (Err n) (links_out (links_tree q) s (seen a name v))) (sym (drop_at ls i l h e))
      (does_stop n (link_out (link_tree l) s (seen a name v)) (λ x. links_out (links_tree (drop (i + 1) ls)) s x) d)

  -- the next of the steps, and then those after it
  steps_front : (v : Item R) (ss : List PostStep) (i : ℕ) (t : PostStep) (s : EvalContext) → i < length ss → t ≡ get_or ss i t → steps_out
      (steps_tree (drop i ss)) s (seen a name v) ≡ bind (step_out (step_tree t) s (seen a name v)) (λ x. steps_out (steps_tree (drop (i + 1) ss)) s x)
  steps_front v ss i t s h e = ap (λ q. steps_out (steps_tree q) s (seen a name v)) (drop_at ss i t h e) ∙ steps_step (step_tree t) (steps_tree (drop (i + 1) ss)) s (seen a name v)

  pub steps_turn : (c : State F) (v w : Item R) (ss : List PostStep) (i : ℕ) (t : PostStep) (s : EvalContext) → i < length ss → t ≡ get_or
      ss i t → GivesValue name a b (Ok w) (step_out (step_tree t) s (seen a name v)) → (r : Result (Item R) Stop) → GivesValue name b c r
      (steps_out (steps_tree (drop (i + 1) ss)) s (seen b name w)) → GivesValue name a c r (steps_out (steps_tree (drop i ss)) s (seen a name v))
  steps_turn c v w ss i t s h e d r f =
      subst (λ (q : Out Val). GivesValue name a c r q) (sym (steps_front v ss i t s h e))
      (does_bind c w r (step_out (step_tree t) s (seen a name v)) (λ x. steps_out (steps_tree (drop (i + 1) ss)) s x) d f)

  pub steps_halt : (v : Item R) (ss : List PostStep) (i : ℕ) (t : PostStep) (s : EvalContext) → i < length ss → t ≡ get_or
      ss i t → (n : Stop) → GivesValue name a b (Err n) (step_out (step_tree t) s (seen a name v)) → GivesValue name a b (Err n)
      (steps_out (steps_tree (drop i ss)) s (seen a name v))
  steps_halt v ss i t s h e n d =
      subst (λ (q : Out Val). GivesValue name a b (Err n) q) (sym (steps_front v ss i t s h e))
      (does_stop n (step_out (step_tree t) s (seen a name v)) (λ x. steps_out (steps_tree (drop (i + 1) ss)) s x) d)

  -- one step alone
  pub one_does : (v : Item R) (ss : List PostStep) (t : PostStep) (s : EvalContext) → length ss ≡ 1 → t ≡ get_or ss 0 t → (r : Result
      (Item R) Stop) → IfOk r (λ w. IsFine b name w) → GivesValue name a b r (step_out (step_tree t) s (seen a name v)) → GivesValue name a b r
      (steps_out (steps_tree ss) s (seen a name v))
  one_does v ss t s l e (Ok w) h d =
      let one : 0 < length ss = omega (arith, l) in
      let past : drop 1 ss ≡ [] = drop_of_length-le ss {i = 1} (omega (arith, l)) in
      steps_turn b v w ss 0 t s one e d (Ok w)
      (subst (λ (q : List PostStep). GivesValue name b b (Ok w) (steps_out (steps_tree q) s (seen b name w))) (sym past)
      (record { is = refl; good = h; ran = ran_free b }))
  one_does v ss t s l e (Err n) h d = steps_halt v ss 0 t s (omega (arith, l)) e n d

  -- a property, where the greatest length is that of the scope
  pub property_step : (v : Val) (t : PostStep) (at : ℕ) (key : List ℕ) (limit : ℕ) (s : EvalContext) (r : Result (Item R) Stop) → step_tree t ≡
      of_property at key → limit ≡ s.limit → GivesValue name a b r (property_of at limit key v) → GivesValue name a b r (step_out (step_tree t) s v)
  property_step v t at key limit s r e l d =
      subst (λ (q : StepTree). GivesValue name a b r (step_out q s v)) (sym e)
      (subst (λ (q : ℕ). GivesValue name a b r (property_of at q key v)) l d)

  -- a call: a value that has members, the arguments, and the method
  pub call_does : (c : State F) (v : Item R) (vs : Vec (Item R) Global) (r : Result
      (Item R) Stop) (at : ℕ) (m : Method) (es : Exprs) (context : Context R) → Grows a b → IsFine a name v → ComesTo a a (λ _ u. u)
      (λ _ _. Unit {0}) (Ok tt) (present (seen a name v)) → GivesValues name a b (Ok vs) (exprs_out es (scope_of a name context)) → GivesValue
      name b c r (called m at b.limit (seen b name v) (all_seen b name vs.items)) → GivesValue name a c r
      (call_out at m es (scope_of a name context) (seen a name v))
  call_does c v vs r at m es context g h p d e =
      did_bind {V = Unit {0}} a a c (λ _ u. u) (λ _ _. Unit {0}) (λ s w. seen s name w) (λ s w. IsFine s name w) tt r
      (present (seen a name v)) (λ _. bind (exprs_out es (scope_of a name context)) (λ ws. called m at a.limit (seen a name v) ws)) p
      (did_bind {V = Vec (Item R) Global} a b c (λ s w. all_seen s name w.items) (λ s w. AllFine s name w.items) (λ s w. seen s name w)
      (λ s w. IsFine s name w) vs r (exprs_out es (scope_of a name context)) (λ ws. called m at a.limit (seen a name v) ws) d
      (subst (λ (q : ℕ × Val). GivesValue name b c r (called m at q.0 q.1 (all_seen b name vs.items))) {x = (
        b.limit,
        seen b name v,
      )} {y = (a.limit, seen a name v)} (cc (g.limit, seen_still a b name g v h)) e))

  pub call_stops : (v : Item R) (n : Stop) (at : ℕ) (m : Method) (es : Exprs) (context : Context R) → ComesTo a a (λ _ u. u)
      (λ _ _. Unit {0}) (Ok tt) (present (seen a name v)) → GivesValues name a b (Err n) (exprs_out es (scope_of a name context)) → GivesValue
      name a b (Err n) (call_out at m es (scope_of a name context) (seen a name v))
  call_stops v n at m es context p d =
      did_bind {V = Unit {0}} a a b (λ _ u. u) (λ _ _. Unit {0}) (λ s w. seen s name w) (λ s w. IsFine s name w) tt (Err n)
      (present (seen a name v)) (λ _. bind (exprs_out es (scope_of a name context)) (λ ws. called m at a.limit (seen a name v) ws)) p
      (did_stop {V = Vec (Item R) Global} a b (λ s w. all_seen s name w.items) (λ s w. AllFine s name w.items) (λ s w. seen s name w)
      (λ s w. IsFine s name w) n (exprs_out es (scope_of a name context)) (λ ws. called m at a.limit (seen a name v) ws) d)

  -- an index, and then the element
  pub index_does : (c : State F) (v i : Item R) (r : Result (Item R) Stop) (at : ℕ) (e : ExprTree) (context : Context R) → Grows a b →
      IsFine a name v → GivesValue name a b (Ok i) (expr_out e (scope_of a name context)) → GivesValue name b c r
      (indexed at b.limit (seen b name v) (seen b name i)) → GivesValue name a c r (index_out at e (scope_of a name context) (seen a name v))
  index_does c v i r at e context g h d k =
      does_bind c i r (expr_out e (scope_of a name context)) (λ w. indexed at a.limit (seen a name v) w) d
      (subst (λ (q : ℕ × Val). GivesValue name b c r (indexed at q.0 q.1 (seen b name i))) {x = (b.limit, seen b name v)} {y = (a.limit, seen a name v)} (cc (g.limit, seen_still a b name g v h)) k)

  pub index_stops : (v : Item R) (n : Stop) (at : ℕ) (e : ExprTree) (s : EvalContext) → GivesValue name a b (Err n) (expr_out e s) → GivesValue name a b (Err n) (index_out at e s (seen a name v))
  index_stops v n at e s d = does_stop n (expr_out e s) (λ w. indexed at s.limit (seen a name v) w) d

pub call_absent : {F R : Type 0} (name : R → ℕ) (a : State F) (v : Item R) (n : Stop) (at : ℕ) (m : Method) (es : Exprs) (s : EvalContext) → ComesTo {V = Unit {0}}
    a a (λ _ u. u) (λ _ _. Unit {0}) (Err n) (present (seen a name v)) → GivesValue name a a (Err n) (call_out at m es s (seen a name v))
call_absent name a v n at m es s d = did_stop {V = Unit {0}} a a (λ _ u. u) (λ _ _. Unit {0}) (λ o w. seen o name w)
    (λ o w. IsFine o name w) n (present (seen a name v)) (λ _. bind (exprs_out es s) (λ ws. called m at s.limit (seen a name v) ws)) d

-- a link: the left side alone, or the operator on both sides
module _ {F R : Type 0} (name : R → ℕ) (a b : State F) (left : Item R) (l : LinkTree) (step : StoreStep a b None 0 0) (history : b.history ≡ a.history) (fine : IsFine a name left) where
  pub link_decided : (s : EvalContext) → decides l.op (seen a name left) ≡ true → GivesValue name a b (Ok left) (link_out l s (seen a name left))
  link_decided s e =
      subst (λ (q : Bool). GivesValue name a b (Ok left) (if q then gave (seen a name left) free else bind (expr_out l.right s) (λ w. operated l.op l.at s.limit (seen a name left) w))) (sym e)
      (record { is = seen_still a b name step.grows left fine; good = fine_still a b name step.grows left fine; ran = ran_of_step 0 0 step history (omega arith) (omega arith) })

  link_after : (d : State F) (r : Result (Item R) Stop) (context : Context R) → ContextFine a name context → decides l.op (seen a name left)
      ≡ false → GivesValue name b d r (bind (expr_out l.right (scope_of b name context))
      (λ w. operated l.op l.at b.limit (seen b name left) w)) → GivesValue name a d r (link_out l (scope_of a name context) (seen a name left))
  link_after d r context h e k =
      let m : GivesValue name b d r (bind (expr_out l.right (scope_of a name context)) (λ w. operated l.op l.at a.limit (seen a name left) w)) =
      subst (λ (p : EvalContext × (ℕ × Val)). GivesValue name b d r (bind (expr_out l.right p.0) (λ w. operated l.op l.at p.1.0 p.1.1 w)))
      (cc (scope_still a b name step.grows context h, step.grows.limit, seen_still a b name step.grows left fine)) k in
      subst (λ (q : Bool). GivesValue name a d r (if q then gave (seen a name left) free else bind
      (expr_out l.right (scope_of a name context)) (λ w. operated l.op l.at a.limit (seen a name left) w))) (sym e)
      (did_before a b d (λ s w. seen s name w) (λ s w. IsFine s name w) r (bind (expr_out l.right (scope_of a name context)) (λ w. operated l.op l.at a.limit (seen a name left) w)) step history m)

  pub link_does : (c d : State F) (right : Item R) (r : Result (Item R) Stop) (context : Context R) → Grows b c → ContextFine a name context
      → decides l.op (seen a name left) ≡ false → GivesValue name b c (Ok right) (expr_out l.right (scope_of b name context)) → GivesValue
      name c d r (operated l.op l.at c.limit (seen c name left) (seen c name right)) → GivesValue name a d r
      (link_out l (scope_of a name context) (seen a name left))
  link_does c d right r context g h e k m =
      link_after d r context h e
      (does_bind name b c d right r (expr_out l.right (scope_of b name context)) (λ w. operated l.op l.at b.limit (seen b name left) w) k
      (subst (λ (p : ℕ × Val). GivesValue name c d r (operated l.op l.at p.0 p.1 (seen c name right))) (cc (g.limit, seen_still b c name g left (fine_still a b name step.grows left fine))) m))

  pub link_stops : (c : State F) (n : Stop) (context : Context R) → ContextFine a name context → decides l.op (seen a name left) ≡ false →
      GivesValue name b c (Err n) (expr_out l.right (scope_of b name context)) → GivesValue name a c (Err n)
      (link_out l (scope_of a name context) (seen a name left))
  link_stops c n context h e k =
      link_after c (Err n) context h e
      (does_stop name b c n (expr_out l.right (scope_of b name context)) (λ w. operated l.op l.at b.limit (seen b name left) w) k)

-- a condition, and then one of two expressions
module _ {F R : Type 0} (name : R → ℕ) (a b c d : State F) (v : Item R) (r : Result (Item R) Stop)
    (test first second : ExprTree) (context : Context R) (g : Grows a b) (step : StoreStep b
    c None 0 0) (history : c.history ≡ b.history) (h : ContextFine a name context) (k : GivesValue name a b (Ok v)
    (expr_out test (scope_of a name context))) where
  chosen : (u : ExprTree) → GivesValue name c d r (expr_out u (scope_of c name context)) → GivesValue name b d r (expr_out u (scope_of a name context))
  chosen u m =
      did_before b c d (λ s w. seen s name w) (λ s w. IsFine s name w) r (expr_out u (scope_of a name context)) step history
      (subst (λ (s : EvalContext). GivesValue name c d r (expr_out u s)) (scope_still a c name (grows_trans g step.grows) context h) m)

  whole : (q : Bool) → to_boolean (seen b name v) ≡ q → GivesValue name b d r
      (if q then expr_out first (scope_of a name context) else expr_out second (scope_of a name context)) → GivesValue name a d r
      (expr_out (conditional test first second) (scope_of a name context))
  whole q e m =
      does_bind name a b d v r (expr_out test (scope_of a name context)) (λ w. if to_boolean w then expr_out first (scope_of a name context) else expr_out second (scope_of a name context)) k
      (subst (λ (p : Bool). GivesValue name b d r (if p then expr_out first (scope_of a name context) else expr_out second (scope_of a name context))) (sym e) m)

  pub condition_holds : to_boolean (seen b name v) ≡ true → GivesValue name c d r (expr_out first (scope_of c name context)) → GivesValue
      name a d r (expr_out (conditional test first second) (scope_of a name context))
  condition_holds e m = whole true e (chosen first m)

  pub condition_fails : to_boolean (seen b name v) ≡ false → GivesValue name c d r (expr_out second (scope_of c name context)) → GivesValue
      name a d r (expr_out (conditional test first second) (scope_of a name context))
  condition_fails e m = whole false e (chosen second m)

pub condition_stops : {F R : Type 0} (name : R → ℕ) (a b : State F) (n : Stop) (test first second : ExprTree) (s : EvalContext) → GivesValue
    name a b (Err n) (expr_out test s) → GivesValue name a b (Err n) (expr_out (conditional test first second) s)
condition_stops name a b n test first second s d = does_stop name a b n (expr_out test s) (λ v. if to_boolean v then expr_out first s else expr_out second s) d

-- the steps behind a name
pub read_some : (o : Option (Bound Val)) (w : Val) → option_map (λ b. b.value) o ≡ Some w → read_out o ≡ needing nothing w
read_some None w e = cc
read_some (Some b) w e = let same : b.value ≡ w = cc in ap (λ q. needing nothing q) same

module _ {F R : Type 0} (name : R → ℕ) (a : State F) (o : Option (Bound Val)) where
  pub name_does : (b : State F) (v : Item R) (r : Result (Item R) Stop) (go : Val → Out Val) → option_map (λ b. b.value) o ≡ Some
      (seen a name v) → IsFine a name v → GivesValue name a b r (go (seen a name v)) → GivesValue name a b r (bind (read_out o) go)
  name_does b v r go e h k =
      let d : GivesValue name a a (Ok v) (read_out o) = subst (λ (q : Out Val). GivesValue name a a (Ok v) q)
      (sym (read_some o (seen a name v) e)) (record { is = refl; good = h; ran = ran_seen a name v h }) in
      does_bind name a a b v r (read_out o) go d k

  pub name_fails : (go : Val → Out Val) → o ≡ None → GivesValue name a a (Err (Threw ReferenceError)) (bind (read_out o) go)
  name_fails go e = subst (λ (q : Option (Bound Val)). GivesValue name a a (Err (Threw ReferenceError)) (bind (read_out q) go)) (sym e) (refl, ran_free a)

  -- a name alone, whose value was copied, or found no room
  pub name_copied : (v w : Item R) → option_map (λ b. b.value) o ≡ Some (seen a name v) → content_of w ≡ content_of v → IsFine a name v → GivesValue name a a (Ok w) (read_out o)
  name_copied v w e k h = subst (λ (q : Out Val). GivesValue name a a (Ok w) q) (sym (read_some o (seen a name v) e))
      (record { is = seen_copy a name w v k; good = fine_copy a name w v k h; ran = ran_seen a name v h })

-- a value as it is, and a number as it is written
pub seen_does : {F R : Type 0} (name : R → ℕ) (a : State F) (v : Item R) (w : Val) → seen a name v ≡ w → IsFine a name v → GivesValue name a a (Ok v) (needing nothing w)
seen_does name a v w e h = subst (λ (q : Val). GivesValue name a a (Ok v) (needing nothing q)) e (record { is = refl; good = h; ran = ran_seen a name v h })

pub written_does : {F R : Type 0} (name : R → ℕ) (a : State F) (v : Item R) (n : ℕ) → IsNumberWritten v n → GivesValue name a a (Ok v) (needing nothing (number_of n))
written_does name a Undefined n h = seen_does name a Undefined (number_of n) (sym h) tt
written_does name a (Number m) n h = seen_does name a (Number m) (number_of n) (sym h.0) h.1
written_does name a Null n h = absurd h
written_does name a (Boolean b) n h = absurd h
written_does name a (Text r) n h = absurd h
written_does name a (Symbol r) n h = absurd h
written_does name a (Listed v) n h = absurd h
written_does name a (Object fs) n h = absurd h

-- no step
module _ {F R : Type 0} (name : R → ℕ) (a : State F) (v : Item R) where
  pub copy_does : (w : Item R) → content_of w ≡ content_of v → IsFine a name v → GivesValue name a a (Ok w) (gave (seen a name v) free)
  copy_does w k h = record { is = seen_copy a name w v k; good = fine_copy a name w v k h; ran = ran_free a }

  pub copy_stops : GivesValue name a a (Err (Store Memory)) (gave (seen a name v) free)
  copy_stops = cut_of_memory free (step_refl a) refl (omega arith) (omega arith)
