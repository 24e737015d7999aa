-- The line of a `print`.
use Rattle.js_eval.specs.Pieces.{printed}
use Rattle.eval_values.specs.RowNames.{parts_ids, parts_words}
use Rattle.std.proofs.Common.{arith, ◌≡◌, ℕ, ◌+◌, ◌≤◌, List, [], ◌∷◌, ◌++◌, length, refl, ap, sym, ◌∙◌, subst, Vec, Global, Result, Ok, Err, None}
use Rattle.std.proofs.lemmas.List.{append-nil}
use Rattle.js_store.specs.State.{State, Grows}
use Rattle.js_store.specs.Faults.{StoreStep, NeverSlots}
use Rattle.js_store.specs.declared.faults.StoreFault.{StoreFault}
use Rattle.eval_tree.specs.Tree.{Exprs, print}
use Rattle.js_texts.specs.Texts.{AllKnown, known_texts as texts_seen, full_only, settle_most}
use Rattle.js_json.specs.Printing.{line}
use Rattle.js_item.specs.declared.item.Item.{Item}
use Rattle.eval_values.specs.declared.value.Stop.{Stop}
use Rattle.eval_values.specs.declared.value.Stop.TheVariants.{Store}
use Rattle.js_item.specs.Seen.{Val}
use Rattle.eval_values.specs.Outcome.{free, gave, each, cost}
use Rattle.eval_values.specs.Need.{parts}
use Rattle.eval_values.specs.Conversions.{to_string, text_units, sum_over}
use Rattle.eval_values.specs.Seen.{all_seen, AllFine}
use Rattle.eval_values.specs.Does.{GivesValues, GivesTexts, string_words}
use Rattle.eval_values.proofs.Needs.{some_most}
use Rattle.eval_values.proofs.Compose.{ran_both, ran_free, ran_of_step, cut_more, cut_of_full}
use Rattle.eval_scopes.specs.Bindings.{Bindings}
use Rattle.js_eval.specs.declared.context.Context.{Context}
use Rattle.js_eval.specs.Expression.{exprs_out}
use Rattle.js_eval.specs.Script.{on_value, reached_units, line_out, stmt_flow}
use Rattle.js_eval.specs.Seen.{ContextFine, context_bindings, scope_of}
use Rattle.js_eval.specs.Flows.{FollowsFlow}
use Rattle.js_eval.proofs.Stays.{context_bindings_still}
use Rattle.js_eval.proofs.Flows.{bind_went, bind_halts, converting_went, converting_halts}

-- the need of a line covers the settling of its strings
string_words_most : (vs : List Val) → string_words vs ≤ sum_over text_units vs + length vs
string_words_most [] = omega arith
string_words_most (v ∷ vs) = omega (arith, string_words_most vs)

line_need : (vs : List Val) → string_words vs ≤ parts_words (length vs) (sum_over text_units vs)
line_need vs = omega (arith, string_words_most vs, some_most (length vs))

module _ {F : Type 0} (a b : State F) (x y : List ℕ) (bs : Bindings Val) (us : List (List ℕ)) (vs : List Val) (w : ℕ) where
  -- a line that was printed, and one that was not
  line_went : StoreStep a b None 0 w → b.history ≡ a.history → w ≤ string_words vs → y ≡ x ++ line us → FollowsFlow a b x y (Ok tt) bs
      (on_value (gave (line us) (cost (parts (length vs) (sum_over text_units vs)))) bs (λ l. printed l bs))
  line_went s h k e =
      let need = line_need vs in
      record {
        did = record {
          is = refl;
          good = tt;
          ran = ran_both (ran_of_step (parts_ids (length vs)) (parts_words (length vs) (sum_over text_units vs)) s h (omega arith) (omega (arith, need, k))) (ran_free b);
        };
        wrote = e ∙ ap (λ q. x ++ q) (sym (append-nil (line us)));
        leaves = refl;
      }

  line_halts : (f : StoreFault) → StoreStep a b (full_only f) 0 w → NeverSlots (full_only f) → b.history ≡ a.history → w ≤ string_words vs →
      y ≡ x → FollowsFlow a b x y (Err (Store f)) bs (on_value (gave (line us) (cost (parts (length vs) (sum_over text_units vs)))) bs (λ l. printed l bs))
  line_halts f s n h k e =
      let need = line_need vs in
      record {
        did = cut_more free (cut_of_full f (cost (parts (length vs) (sum_over text_units vs))) s h n (omega arith) (omega (arith, need, k)));
        wrote = record { done = []; left = line us ∷ []; split = refl; written = e ∙ sym (append-nil x) };
        leaves = tt;
      }

module _ {F R : Type 0} (name : R → ℕ) where
  module _ (a b : State F) (x : List ℕ) (vs : List (Item R)) (bs : Bindings Val) where
    -- the texts of values, and then their line
    pub values_went : (c : State F) (y : List ℕ) (us : Vec R Global) → GivesTexts name a b (Ok us)
        (each (to_string a.limit) (all_seen a name vs)) → StoreStep b c None 0 (settle_most b name us.items) → c.history ≡ b.history →
        settle_most b name us.items ≤ string_words (all_seen a name vs) → y ≡ x ++ line (texts_seen b name us.items) → FollowsFlow a c x y
        (Ok tt) bs (on_value (line_out a.limit (all_seen a name vs)) bs (λ l. printed l bs))
    values_went c y us d s h k e =
        converting_went (parts (length (all_seen a name vs)) (reached_units a.limit (all_seen a name vs))) a b c x y
        (λ o (v : Vec R Global). texts_seen o name v.items) (λ o (v : Vec R Global). AllKnown o name v.items) us (Ok tt) bs bs
        (each (to_string a.limit) (all_seen a name vs)) (λ ts. gave (line ts)
        (cost (parts (length (all_seen a name vs)) (sum_over text_units (all_seen a name vs))))) (λ l. printed l bs) d
        (line_went b c x y bs (texts_seen b name us.items) (all_seen a name vs) (settle_most b name us.items) s h k e)

    pub values_halt : (c : State F) (y : List ℕ) (us : Vec R Global) (f : StoreFault) → GivesTexts name a b (Ok us)
        (each (to_string a.limit) (all_seen a name vs)) → StoreStep b c (full_only f) 0 (settle_most b name us.items) → NeverSlots
        (full_only f) → c.history ≡ b.history → settle_most b name us.items ≤ string_words (all_seen a name vs) → y ≡ x → FollowsFlow a c x y
        (Err (Store f)) bs (on_value (line_out a.limit (all_seen a name vs)) bs (λ l. printed l bs))
    values_halt c y us f d s n h k e =
        converting_went (parts (length (all_seen a name vs)) (reached_units a.limit (all_seen a name vs))) a b c x y
        (λ o (v : Vec R Global). texts_seen o name v.items) (λ o (v : Vec R Global). AllKnown o name v.items) us (Err (Store f)) bs bs
        (each (to_string a.limit) (all_seen a name vs)) (λ ts. gave (line ts)
        (cost (parts (length (all_seen a name vs)) (sum_over text_units (all_seen a name vs))))) (λ l. printed l bs) d
        (line_halts b c x y bs (texts_seen b name us.items) (all_seen a name vs) (settle_most b name us.items) f s n h k e)

    pub texts_halt : (n : Stop) → GivesTexts name a b (Err n) (each (to_string a.limit) (all_seen a name vs)) → FollowsFlow a b x x (Err n)
        bs (on_value (line_out a.limit (all_seen a name vs)) bs (λ l. printed l bs))
    texts_halt n d =
        converting_halts {V = Vec R Global} (parts (length (all_seen a name vs)) (reached_units a.limit (all_seen a name vs))) a b x
        (λ o (v : Vec R Global). texts_seen o name v.items) (λ o (v : Vec R Global). AllKnown o name v.items) n bs bs
        (each (to_string a.limit) (all_seen a name vs)) (λ ts. gave (line ts)
        (cost (parts (length (all_seen a name vs)) (sum_over text_units (all_seen a name vs))))) (λ l. printed l bs) refl d

  -- the arguments of a `print`, and then their line
  module _ (a b : State F) (x : List ℕ) (es : Exprs) (k : Context R) (g : Grows a b) (h : ContextFine a name k) where
    pub print_went : (c : State F) (y : List ℕ) (vs : Vec (Item R) Global) (r : Result (Unit {0}) Stop) → Grows a c → GivesValues name a b
        (Ok vs) (exprs_out es (scope_of a name k)) → ((bs : Bindings Val) → FollowsFlow b c x y r bs
        (on_value (line_out b.limit (all_seen b name vs.items)) bs (λ l. printed l bs))) → FollowsFlow a c x y r (context_bindings c name k)
        (stmt_flow (print es) (scope_of a name k))
    print_went c y vs r i d w =
        let bs : Bindings Val = context_bindings a name k in
        let same : FollowsFlow b c x y r bs (on_value (line_out a.limit (all_seen b name vs.items)) bs (λ l. printed l bs)) = subst
        (λ (q : ℕ). FollowsFlow b c x y r bs (on_value (line_out q (all_seen b name vs.items)) bs (λ l. printed l bs))) g.limit (w bs) in
        subst (λ (cs : Bindings Val). FollowsFlow a c x y r cs (stmt_flow (print es) (scope_of a name k))) (sym (context_bindings_still a c name i k h))
        (bind_went a b c x y (λ o (v : Vec (Item R) Global). all_seen o name v.items)
        (λ o (v : Vec (Item R) Global). AllFine o name v.items) vs r bs bs (exprs_out es (scope_of a name k)) (λ ws. line_out a.limit ws)
        (λ l. printed l bs) d same)

    pub print_halt : (n : Stop) → GivesValues name a b (Err n) (exprs_out es (scope_of a name k)) → FollowsFlow a b x x (Err n) (context_bindings b name k) (stmt_flow (print es) (scope_of a name k))
    print_halt n d =
        bind_halts {V = Vec (Item R) Global} a b x (λ o (v : Vec (Item R) Global). all_seen o name v.items)
        (λ o (v : Vec (Item R) Global). AllFine o name v.items) n (context_bindings a name k) (context_bindings b name k)
        (exprs_out es (scope_of a name k)) (λ ws. line_out a.limit ws) (λ l. printed l (context_bindings a name k)) (context_bindings_still a b name g k h) d
