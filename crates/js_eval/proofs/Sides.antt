-- One operator on two sides: its value, and what is told of it in a test.
use Rattle.std.specs.Prelude.{IfOk}
use Rattle.std.proofs.Common.{◌≡◌, ℕ, refl, sym, subst, Bool, false, if◌then◌else◌, Result, Ok, Err}
use Rattle.js_store.specs.State.{State, Grows}
use Rattle.js_store.proofs.Laws.{step_refl}
use Rattle.eval_tree.specs.Tree.{ExprTree, LinkTree, no_links, link, chain}
use Rattle.js_item.specs.declared.item.Item.{Item}
use Rattle.js_item.specs.declared.item.Item.TheVariants.{Bool as Boolean}
use Rattle.js_item.specs.Seen.{Val, seen}
use Rattle.js_item.specs.Fine.{IsFine}
use Rattle.eval_values.specs.declared.value.Stop.{Stop}
use Rattle.eval_values.specs.Outcome.{Ledger, Out, gave, ended, free, after_ledger, bind}
use Rattle.eval_values.specs.Conversions.{to_boolean}
use Rattle.eval_values.specs.Does.{GivesValue, GivesPlain}
use Rattle.eval_values.proofs.Compose.{did_bind, did_stop, ran_free}
use Rattle.eval_values.proofs.Still.{seen_still}
use Rattle.js_eval.specs.declared.context.Context.{Context}
use Rattle.js_eval.specs.Expression.{EvalContext, decides, operated, truth_of, expr_out, links_out, link_out}
use Rattle.js_eval.specs.Flows.{told}
use Rattle.js_eval.specs.Seen.{ContextFine, scope_of}
use Rattle.js_eval.proofs.Applied.{truth_does, truth_stops}
use Rattle.js_eval.proofs.Expressions.{does_bind, does_stop, chain_does}
use Rattle.js_eval.proofs.Statements.{test_holds, test_stops}
use Rattle.js_eval.proofs.Stays.{scope_still}

told_after : {A B : Type 0} (f : A → B) (l : Ledger) (o : Out A) → told f (after_ledger l o) ≡ after_ledger l (told f o)
told_after f l (gave x m) = refl
told_after f l (ended e m) = refl

told_bind : {X A B : Type 0} (f : A → B) (o : Out X) (go : X → Out A) → told f (bind o go) ≡ bind o (λ x. told f (go x))
told_bind f (gave x l) go = told_after f l (go x)
told_bind f (ended e l) go = refl

-- what is told of an evaluation is told of it where nothing is done with its value
alone_same : (o : Out Val) → bind (told to_boolean o) (λ t. gave t free) ≡ told to_boolean (bind o (λ x. gave x free))
alone_same (gave x l) = refl
alone_same (ended e l) = refl

alone_told : {F : Type 0} (a b : State F) (r : Result Bool Stop) (o : Out Val) → GivesPlain a b r (told to_boolean o) → GivesPlain a b r
    (told to_boolean (bind o (λ x. gave x free)))
alone_told a b (Ok t) o d = subst (λ (q : Out Bool). GivesPlain a b (Ok t) q) (alone_same o)
    (did_bind {V = Bool} {W = Bool} a b b (λ s v. v) (λ s v. Unit {0}) (λ s v. v) (λ s v. Unit {0}) t (Ok t) (told to_boolean o) (λ y. gave y free) d (record { is = refl; good = tt; ran = ran_free b }))
alone_told a b (Err n) o d = subst (λ (q : Out Bool). GivesPlain a b (Err n) q) (alone_same o)
    (did_stop {V = Bool} {W = Bool} a b (λ s v. v) (λ s v. Unit {0}) (λ s v. v) (λ s v. Unit {0}) n (told to_boolean o) (λ y. gave y free) d)

module _ {F R : Type 0} (name : R → ℕ) (a b : State F) where
  -- a value, and then what is told of what follows; or an early end
  test_bind : (c : State F) (v : Item R) (r : Result Bool Stop) (o : Out Val) (go : Val → Out Val) → GivesValue name a b (Ok v) o →
      GivesPlain b c r (told to_boolean (go (seen b name v))) → GivesPlain a c r (told to_boolean (bind o go))
  test_bind c v r o go d e = subst (λ (q : Out Bool). GivesPlain a c r q) (sym (told_bind to_boolean o go))
      (did_bind a b c (λ s w. seen s name w) (λ s w. IsFine s name w) (λ s w. w) (λ s w. Unit {0}) v r o (λ x. told to_boolean (go x)) d e)

  test_halt : (n : Stop) (o : Out Val) (go : Val → Out Val) → GivesValue name a b (Err n) o → GivesPlain {A = Bool} a b (Err n) (told to_boolean (bind o go))
  test_halt n o go d = test_stops name a b n (bind o go) (does_stop name a b n o go d)

  -- the first side, and then its link
  pub sides_do : (c : State F) (v : Item R) (r : Result Bool Stop) (first : ExprTree) (l : LinkTree) (context : Context R) → Grows a b →
      ContextFine a name context → GivesValue name a b (Ok v) (expr_out first (scope_of a name context)) → GivesPlain b c r
      (told to_boolean (link_out l (scope_of b name context) (seen b name v))) → GivesPlain a c r
      (told to_boolean (expr_out (chain first (link l.at l.op l.right no_links)) (scope_of a name context)))
  sides_do c v r first l context g h d e =
      test_bind c v r (expr_out first (scope_of a name context)) (λ w. links_out (link l.at l.op l.right no_links) (scope_of a name context) w) d
      (alone_told b c r (link_out l (scope_of a name context) (seen b name v))
      (subst (λ (s : EvalContext). GivesPlain b c r (told to_boolean (link_out l s (seen b name v)))) (scope_still a b name g context h) e))

  pub sides_stop : (n : Stop) (first : ExprTree) (l : LinkTree) (s : EvalContext) → GivesValue name a b (Err n) (expr_out first s) → GivesPlain
      {A = Bool} a b (Err n) (told to_boolean (expr_out (chain first (link l.at l.op l.right no_links)) s))
  sides_stop n first l s d = test_halt n (expr_out first s) (λ w. links_out (link l.at l.op l.right no_links) s w) d

  -- an operator that needs both sides
  undecided : (r : Result Bool Stop) (left : Item R) (l : LinkTree) (s : EvalContext) → ((x : Val) → decides l.op x ≡ false) → GivesPlain a b r
      (told to_boolean (bind (expr_out l.right s) (λ w. operated l.op l.at s.limit (seen a name left) w))) → GivesPlain a b r
      (told to_boolean (link_out l s (seen a name left)))
  undecided r left l s u e = subst (λ (q : Bool). GivesPlain a b r (told to_boolean (if q then gave (seen a name left) free else bind (expr_out l.right s) (λ w. operated l.op l.at s.limit (seen a name left) w))))
      (sym (u (seen a name left))) e

module _ {F R : Type 0} (name : R → ℕ) (a b : State F) where
  pub link_told : (c : State F) (left w : Item R) (r : Result Bool Stop) (l : LinkTree) (context : Context R) → Grows a b → IsFine a name left →
      ((x : Val) → decides l.op x ≡ false) → GivesValue name a b (Ok w) (expr_out l.right (scope_of a name context)) → GivesPlain b c r
      (told to_boolean (operated l.op l.at b.limit (seen b name left) (seen b name w))) → GivesPlain a c r
      (told to_boolean (link_out l (scope_of a name context) (seen a name left)))
  link_told c left w r l context g h u d e =
      undecided name a c r left l (scope_of a name context) u
      (test_bind name a b c w r (expr_out l.right (scope_of a name context)) (λ x. operated l.op l.at a.limit (seen a name left) x) d
      (subst (λ (p : ℕ × Val). GivesPlain b c r (told to_boolean (operated l.op l.at p.0 p.1 (seen b name w)))) {x = (
        b.limit,
        seen b name left,
      )} {y = (a.limit, seen a name left)} (cc (g.limit, seen_still a b name g left h)) e))

  pub link_untold : (left : Item R) (n : Stop) (l : LinkTree) (s : EvalContext) → ((x : Val) → decides l.op x ≡ false) → GivesValue name a b
      (Err n) (expr_out l.right s) → GivesPlain {A = Bool} a b (Err n) (told to_boolean (link_out l s (seen a name left)))
  link_untold left n l s u d =
      undecided name a b (Err n) left l s u
      (test_halt name a b n (expr_out l.right s) (λ w. operated l.op l.at s.limit (seen a name left) w) d)

  -- the boolean of a comparison
  pub truth_told : (holds : Bool → Bool) (o : Out Bool) (x t : Bool) → t ≡ holds x → GivesPlain a b (Ok x) o → GivesPlain a b (Ok t) (told to_boolean (truth_of holds o))
  truth_told holds o x t e d =
      test_holds name a b b (Boolean t) t (truth_of holds o) refl (step_refl b) refl (truth_does name a b holds o x t e d)

  pub truth_untold : (holds : Bool → Bool) (o : Out Bool) (n : Stop) → GivesPlain a b (Err n) o → GivesPlain {A = Bool} a b (Err n) (told to_boolean (truth_of holds o))
  truth_untold holds o n d = test_stops name a b n (truth_of holds o) (truth_stops name a b holds o n d)

  pub same_told : (r : Result Bool Stop) (o : Out Bool) → GivesPlain a b r o → GivesPlain a b r (told to_boolean (truth_of (λ q. q) o))
  same_told (Ok t) o d = truth_told (λ q. q) o t t refl d
  same_told (Err n) o d = truth_untold (λ q. q) o n d

  -- one link alone, as a value
  alone_value : (c : State F) (v : Item R) (r : Result (Item R) Stop) (l : LinkTree) (s : EvalContext) → IfOk r (λ w. IsFine c name w) →
      GivesValue name b c r (link_out l s (seen b name v)) → GivesValue name b c r (links_out (link l.at l.op l.right no_links) s (seen b name v))
  alone_value c v (Ok w) l s h e =
      does_bind name b c c w (Ok w) (link_out l s (seen b name v)) (λ x. gave x free) e (record { is = refl; good = h; ran = ran_free c })
  alone_value c v (Err n) l s h e = does_stop name b c n (link_out l s (seen b name v)) (λ x. gave x free) e

  pub sides_value : (c : State F) (v : Item R) (r : Result (Item R) Stop) (first : ExprTree) (l : LinkTree) (context : Context R) → Grows a b →
      ContextFine a name context → IfOk r (λ w. IsFine c name w) → GivesValue name a b (Ok v) (expr_out first (scope_of a name context)) →
      GivesValue name b c r (link_out l (scope_of b name context) (seen b name v)) → GivesValue name a c r
      (expr_out (chain first (link l.at l.op l.right no_links)) (scope_of a name context))
  sides_value c v r first l context g h f d e =
      chain_does name a b c v r first (link l.at l.op l.right no_links) context g h d (alone_value c v r l (scope_of b name context) f e)
