-- Object literals: a key, a value, a member that is put in, and the members one after another.
use Rattle.std.proofs.Common.{arith, ◌≡◌, ℕ, suc, ◌<◌, ◌+◌, List, length, get_or, drop, refl, ap, ◌∙◌, sym, subst, Bool, true, false, nat_le, Result, Ok, Err}
use Rattle.std.specs.Prelude.{◌&&◌, bytes_eq, None}
use Rattle.js_store.specs.State.{State, Grows, text}
use Rattle.js_store.specs.Faults.{StoreStep}
use Rattle.js_store.proofs.Laws.{text_still, grows_trans}
use Rattle.js_store.specs.declared.faults.StoreFault.TheVariants.{Memory}
use Rattle.js_texts.proofs.Lists.{drop_at}
use Rattle.eval_tree.specs.declared.tree.Expr.{Expr}
use Rattle.eval_tree.specs.Tree.{ExprTree, Entries, expr_tree, entries_tree}
use Rattle.eval_tree.specs.Tree as tree
use Rattle.js_item.specs.Contents.{Content, undefined, null, bool, number, text as texted, symbol, list, object, Fields, no_fields, field, count, count_in}
use Rattle.js_item.specs.declared.item.Item.{Item}
use Rattle.js_item.specs.declared.item.Item.TheVariants.{Object}
use Rattle.js_item.specs.Views.{content_of}
use Rattle.js_item.specs.Fine.{strings_of, KeyFine, FineFields, IsFine, Bounded, depth, depth_in}
use Rattle.js_item.specs.Puts.{put_by, names_key}
use Rattle.js_item.specs.Seen.{Val, says, content_mapped, fields_mapped, seen}
use Rattle.js_item.proofs.Still.{fine_put, fine_fields_still}
use Rattle.js_item.proofs.Values.{fields_mapped_still, mapped_put}
use Rattle.eval_values.specs.declared.value.Stop.{Stop}
use Rattle.eval_values.specs.declared.value.Stop.TheVariants.{Unsupported, Store}
use Rattle.eval_values.specs.Outcome.{Out, gave, free, bind}
use Rattle.eval_values.specs.Does.{GivesValue}
use Rattle.eval_values.proofs.Compose.{did_bind, did_stop, ran_free, ran_of_step, cut_of_memory}
use Rattle.js_eval.specs.declared.context.Context.{Context}
use Rattle.js_eval.specs.Seen.{ContextFine, scope_of}
use Rattle.js_eval.specs.Initializers.{object_out}
use Rattle.js_eval.specs.Properties.{with_property}
use Rattle.js_eval.specs.Expression.{EvalContext, expr_out}
use Rattle.js_eval.specs.Paid.{key_paid, entry_paid, entries_paid, GivesKey, Makes}
use Rattle.js_eval.proofs.Stays.{scope_still}
use Rattle.js_eval.proofs.Paying.{literal_paid}

-- units in the place of references change no depth and no count
mutual
  depth_in_mapped : {R Q : Type 0} (f : R → Q) (c : Content R) → depth_in (content_mapped f c) ≡ depth_in c
  depth_in_mapped f undefined = refl
  depth_in_mapped f null = refl
  depth_in_mapped f (bool b) = refl
  depth_in_mapped f (number n) = refl
  depth_in_mapped f (texted r) = refl
  depth_in_mapped f (symbol r) = refl
  depth_in_mapped f (list rs) = refl
  depth_in_mapped f (object fs) = ap suc (depth_mapped f fs)

  depth_mapped : {R Q : Type 0} (f : R → Q) (fs : Fields R) → depth (fields_mapped f fs) ≡ depth fs
  depth_mapped f no_fields = refl
  depth_mapped f (field key value rest) = rw (depth_in_mapped f value, depth_mapped f rest) refl

mutual
  count_in_mapped : {R Q : Type 0} (f : R → Q) (c : Content R) → count_in (content_mapped f c) ≡ count_in c
  count_in_mapped f undefined = refl
  count_in_mapped f null = refl
  count_in_mapped f (bool b) = refl
  count_in_mapped f (number n) = refl
  count_in_mapped f (texted r) = refl
  count_in_mapped f (symbol r) = refl
  count_in_mapped f (list rs) = refl
  count_in_mapped f (object fs) = count_mapped f fs

  count_mapped : {R Q : Type 0} (f : R → Q) (fs : Fields R) → count (fields_mapped f fs) ≡ count fs
  count_mapped f no_fields = refl
  count_mapped f (field key value rest) = rw (count_in_mapped f value, count_mapped f rest) refl

-- the test of an object's depth and members
both_true : (b c : Bool) → b ≡ true → c ≡ true → (b && c) ≡ true
both_true b c e f = rw (e, f) refl

fits_is : {R Q : Type 0} (f : R → Q) (fs : Fields R) → Bounded fs → (nat_le (suc (depth (fields_mapped f fs))) 200 && nat_le (count (fields_mapped f fs)) 65536) ≡ true
fits_is f fs h = both_true (nat_le (suc (depth (fields_mapped f fs))) 200) (nat_le (count (fields_mapped f fs)) 65536)
    (grind (arith, h.deep, depth_mapped f fs)) (grind (arith, h.many, count_mapped f fs))

one_false : (b c : Bool) → (b ≡ true → c ≡ true → ⊥) → (b && c) ≡ false
one_false true true h = absurd (h refl refl)
one_false true false h = refl
one_false false c h = refl

fits_not : {R Q : Type 0} (f : R → Q) (fs : Fields R) → (Bounded fs → ⊥) → (nat_le (suc (depth (fields_mapped f fs))) 200 && nat_le (count (fields_mapped f fs)) 65536) ≡ false
fits_not f fs h = one_false (nat_le (suc (depth (fields_mapped f fs))) 200) (nat_le (count (fields_mapped f fs)) 65536)
    (λ p q. h (record { deep = grind (arith, p, depth_mapped f fs); many = grind (arith, q, count_mapped f fs) }))

module _ {F R : Type 0} (name : R → ℕ) (a : State F) (at : ℕ) (fs : Fields R) where
  pub bounded_does : FineFields (strings_of a) name fs → Bounded fs → GivesValue name a a (Ok (Object fs)) (object_out at (fields_mapped (says a name) fs))
  bounded_does h k = rw (fits_is (says a name) fs k) (record { is = refl; good = (h, k); ran = ran_free a })

  pub bounded_stops : (Bounded fs → ⊥) → GivesValue {R = R} name a a (Err (Unsupported at)) (object_out at (fields_mapped (says a name) fs))
  bounded_stops k = rw (fits_not (says a name) fs k) (refl, ran_free a)

-- a member that was put in
module _ {F R : Type 0} (name : R → ℕ) (a b : State F) (fs : Fields R) (key : R) (v : Item R) (step : StoreStep a b None 0 0) (history : b.history ≡ a.history) where
  put_fine : FineFields (strings_of a) name fs → KeyFine (strings_of a) (name key) → IsFine a name v → FineFields (strings_of a) name (put_by (names_key a name key) key (content_of v) fs)
  put_fine h k l = fine_put (strings_of a) name key (content_of v) k l fs h

  pub put_does : (gs : Fields R) → FineFields (strings_of a) name fs → KeyFine (strings_of a) (name key) → IsFine a name v → gs ≡ put_by
      (names_key a name key) key (content_of v) fs → Makes name a b (Ok gs)
      (gave (with_property (text a (name key)) (seen a name v) (fields_mapped (says a name) fs)) free)
  put_does gs h k l e =
      let fine = put_fine h k l in
      let is : fields_mapped (says b name) gs ≡ with_property (text a (name key)) (seen a name v) (fields_mapped (says a name) fs) =
      ap (fields_mapped (says b name)) e
      ∙ (fields_mapped_still a b name step.grows (put_by (names_key a name key) key (content_of v) fs) fine
      ∙ mapped_put (says a name) (λ u. bytes_eq u (text a (name key))) key (content_of v) fs) in
      record {
        is = is;
        good = subst (λ (q : Fields R). FineFields (strings_of b) name q) (sym e) (fine_fields_still a b step.grows name (put_by (names_key a name key) key (content_of v) fs) fine);
        ran = ran_of_step 0 0 step history (omega arith) (omega arith);
      }

  pub put_stops : Makes {R = R} name a b (Err (Store Memory)) (gave (with_property (text a (name key)) (seen a name v) (fields_mapped (says a name) fs)) free)
  put_stops = cut_of_memory free step history (omega arith) (omega arith)

-- the same object
pub makes_same : {F R : Type 0} (name : R → ℕ) (a b : State F) (fs gs : Fields R) (o : Out (Fields (List ℕ))) → gs ≡ fs → Makes name a b (Ok fs) o → Makes name a b (Ok gs) o
makes_same {R = R} name a b fs gs o e m = subst (λ (q : Fields R). Makes name a b (Ok q) o) (sym e) m

-- a key, and then a value, and then a member of both; or an early end
module _ {F R : Type 0} (name : R → ℕ) (a b : State F) (key : List ℕ) (value : ExprTree) (context : Context R) (fs : Fields R) where
  abbrev made : List ℕ → Val → Out (Fields (List ℕ))
  made k v = gave (with_property k v (fields_mapped (says a name) fs)) free

  pub key_stops : (n : Stop) → GivesKey {R = R} name a b (Err n) (key_paid a.limit key) → Makes {R = R} name a b (Err n)
      (entry_paid key value (scope_of a name context) (fields_mapped (says a name) fs))
  key_stops n d = did_stop {V = R} a b (λ s q. text s (name q)) (λ s q. KeyFine (strings_of s) (name q))
      (λ s q. fields_mapped (says s name) q) (λ s q. FineFields (strings_of s) name q) n (key_paid a.limit key)
      (λ k. bind (expr_out value (scope_of a name context)) (λ v. made k v)) d

  module _ (k : R) (g : Grows a b) (h : ContextFine a name context) (given : GivesKey name a b (Ok k) (key_paid a.limit key)) where
    after_key : (d : State F) (r : Result (Fields R) Stop) → Makes name b d r
        (bind (expr_out value (scope_of b name context)) (λ v. made (text b (name k)) v)) → Makes name a d r
        (entry_paid key value (scope_of a name context) (fields_mapped (says a name) fs))
    after_key d r m =
        did_bind a b d (λ s q. text s (name q)) (λ s q. KeyFine (strings_of s) (name q)) (λ s q. fields_mapped (says s name) q)
        (λ s q. FineFields (strings_of s) name q) k r (key_paid a.limit key) (λ u. bind (expr_out value (scope_of a name context)) (λ v. made u v)) given
        (subst (λ (s : EvalContext). Makes name b d r (bind (expr_out value s) (λ v. made (text b (name k)) v))) (scope_still a b name g context h) m)

    pub value_stops : (c : State F) (n : Stop) → GivesValue name b c (Err n) (expr_out value (scope_of b name context)) → Makes {R = R} name
        a c (Err n) (entry_paid key value (scope_of a name context) (fields_mapped (says a name) fs))
    value_stops c n d = after_key c (Err n) (did_stop {V = Item R} b c (λ s q. seen s name q) (λ s q. IsFine s name q)
        (λ s q. fields_mapped (says s name) q) (λ s q. FineFields (strings_of s) name q) n (expr_out value (scope_of b name context))
        (λ v. made (text b (name k)) v) d)

    pub entry_does : (c d : State F) (v : Item R) (r : Result (Fields R) Stop) → Grows b c → FineFields (strings_of a) name fs → KeyFine
        (strings_of b) (name k) → GivesValue name b c (Ok v) (expr_out value (scope_of b name context)) → Makes name c d r
        (gave (with_property (text c (name k)) (seen c name v) (fields_mapped (says c name) fs)) free) → Makes name a d r
        (entry_paid key value (scope_of a name context) (fields_mapped (says a name) fs))
    entry_does c d v r f fine known e m =
        let same : fields_mapped (says c name) fs ≡ fields_mapped (says a name) fs = fields_mapped_still a c name (grows_trans g f) fs fine in
        let as_first : Makes name c d r (made (text b (name k)) (seen c name v)) = subst
        (λ (p : List ℕ × Fields (List ℕ)). Makes name c d r (gave (with_property p.0 (seen c name v) p.1) free)) {x = (
          text c (name k),
          fields_mapped (says c name) fs,
        )} {y = (text b (name k), fields_mapped (says a name) fs)} (cc (text_still f (name k) known.known, same)) m in
        after_key d r (did_bind b c d (λ s q. seen s name q) (λ s q. IsFine s name q) (λ s q. fields_mapped (says s name) q)
        (λ s q. FineFields (strings_of s) name q) v r (expr_out value (scope_of b name context)) (λ w. made (text b (name k)) w) e as_first)

-- one member, and then those after it
module _ {F R : Type 0} (name : R → ℕ) (a b : State F) (s : EvalContext) (fs : Fields R) (ms : List
    (List ℕ × Expr)) (i : ℕ) (m : List ℕ × Expr) (within : i < length ms) (there : m ≡ get_or ms i m) where
  pub entries_turn : (c : State F) (gs : Fields R) (r : Result (Fields R) Stop) → Makes name a b (Ok gs)
      (entry_paid m.0 (expr_tree m.1) s (fields_mapped (says a name) fs)) → Makes name b c r
      (entries_paid (entries_tree (drop (i + 1) ms)) s (fields_mapped (says b name) gs)) → Makes name a c r
      (entries_paid (entries_tree (drop i ms)) s (fields_mapped (says a name) fs))
  entries_turn c gs r d e =
      subst (λ (q : List (List ℕ × Expr)). Makes name a c r (entries_paid (entries_tree q) s (fields_mapped (says a name) fs))) (sym (drop_at ms i m within there))
      (did_bind a b c (λ o q. fields_mapped (says o name) q) (λ o q. FineFields (strings_of o) name q)
      (λ o q. fields_mapped (says o name) q) (λ o q. FineFields (strings_of o) name q) gs r
      (entry_paid m.0 (expr_tree m.1) s (fields_mapped (says a name) fs)) (λ q. entries_paid (entries_tree (drop (i + 1) ms)) s q) d e)

  pub entries_halt : (n : Stop) → Makes {R = R} name a b (Err n) (entry_paid m.0 (expr_tree m.1) s
      (fields_mapped (says a name) fs)) → Makes {R = R} name a b (Err n) (entries_paid (entries_tree (drop i ms)) s (fields_mapped (says a name) fs))
  entries_halt n d =
      subst (λ (q : List (List ℕ × Expr)). Makes {R = R} name a b (Err n) (entries_paid (entries_tree q) s (fields_mapped (says a name) fs))) (sym (drop_at ms i m within there))
      (did_stop {V = Fields R} a b (λ o q. fields_mapped (says o name) q) (λ o q. FineFields (strings_of o) name q)
      (λ o q. fields_mapped (says o name) q) (λ o q. FineFields (strings_of o) name q) n
      (entry_paid m.0 (expr_tree m.1) s (fields_mapped (says a name) fs)) (λ q. entries_paid (entries_tree (drop (i + 1) ms)) s q) d)

-- all members, and then the value
module _ {F R : Type 0} (name : R → ℕ) (a b : State F) (at : ℕ) (es : Entries) (s : EvalContext) where
  pub literal_does : (c : State F) (fs : Fields R) (r : Result (Item R) Stop) → Makes name a b (Ok fs) (entries_paid es s no_fields) →
      GivesValue name b c r (object_out at (fields_mapped (says b name) fs)) → GivesValue name a c r (expr_out (tree.object at es) s)
  literal_does c fs r d e = literal_paid a c (λ o q. seen o name q) (λ o q. IsFine o name q) at es s r
      (did_bind a b c (λ o q. fields_mapped (says o name) q) (λ o q. FineFields (strings_of o) name q) (λ o q. seen o name q)
      (λ o q. IsFine o name q) fs r (entries_paid es s no_fields) (λ q. object_out at q) d e)

  pub literal_stops : (n : Stop) → Makes {R = R} name a b (Err n) (entries_paid es s no_fields) → GivesValue {R = R} name a b (Err n) (expr_out (tree.object at es) s)
  literal_stops n d = literal_paid {V = Item R} a b (λ o q. seen o name q) (λ o q. IsFine o name q) at es s (Err n)
      (did_stop {V = Fields R} a b (λ o q. fields_mapped (says o name) q) (λ o q. FineFields (strings_of o) name q) (λ o q. seen o name q)
      (λ o q. IsFine o name q) n (entries_paid es s no_fields) (λ q. object_out at q) d)
