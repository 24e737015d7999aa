-- The shares of the members of an object literal come to no more than its row.
use Rattle.std.proofs.Common.{arith, ◌≡◌, ℕ, ◌+◌, ◌*◌, ◌≤◌, List, [], ◌∷◌, length, append_assoc, refl, ap, ◌∙◌, sym, subst, true, false, nat_le, if◌then◌else◌, Result, Ok, Err}
use Rattle.std.specs.Prelude.{Contains}
use Rattle.js_store.specs.State.{State, NamesUnits}
use Rattle.eval_tree.specs.Tree.{ExprTree, Entries, no_entries, entry}
use Rattle.js_item.specs.Contents.{Fields, no_fields}
use Rattle.js_item.specs.Seen.{Val}
use Rattle.js_store.specs.declared.faults.StoreFault.{StoreFault}
use Rattle.eval_values.specs.declared.value.Kind.TheVariants.{RangeError}
use Rattle.eval_values.specs.declared.value.Stop.{Stop}
use Rattle.eval_values.specs.declared.value.Stop.TheVariants.{Threw, Unsupported, Store}
use Rattle.eval_values.specs.Need.{Row, parts, ids_in, words_in}
use Rattle.eval_values.specs.Outcome.{Ledger, Out, gave, ended, threw, unsupported, free, both, cost, after_ledger, bind}
use Rattle.eval_values.specs.Ran.{InternsLists, InternsSome, MeetsLedger, EndsInPart, ComesTo}
use Rattle.eval_values.proofs.Needs.{some_most}
use Rattle.eval_values.proofs.Each.{bind_same}
use Rattle.js_eval.specs.Initializers.{members_in, key_units, object_out}
use Rattle.js_eval.specs.Properties.{key_interned, literal_cost, with_property}
use Rattle.js_eval.specs.Expression.{EvalContext, expr_out, entries_out}
use Rattle.js_eval.specs.Paid.{key_paid, entry_paid, entries_paid}

-- the same ledger, but for i ids and w words at most that it needs more
pub record Near (i w : ℕ) (l m : Ledger) : Type 0 where
  pub interned : l.interned ≡ m.interned
  pub texts : l.texts ≡ m.texts
  pub ids : l.ids ≤ m.ids + i
  pub words : l.words ≤ m.words + w

abbrev pub Paid : {A : Type 0} → ℕ → ℕ → Out A → Out A → Type 0
Paid i w (gave x l) (gave y m) = (x ≡ y) × Near i w l m
Paid i w (gave x l) (ended e m) = ⊥
Paid i w (ended e l) (gave y m) = ⊥
Paid i w (ended e l) (ended f m) = (e ≡ f) × Near i w l m

near_refl : (i w : ℕ) (l : Ledger) → Near i w l l
near_refl i w l = record { interned = refl; texts = refl; ids = omega arith; words = omega arith }

near_both : {i w j v : ℕ} {l m p q : Ledger} → Near i w l m → Near j v p q → Near (i + j) (w + v) (both l p) (both m q)
near_both {i} {w} {j} {v} {l} {m} {p} {q} h k = record {
  interned = cc (h.interned, k.interned);
  texts = cc (h.texts, k.texts);
  ids = omega (arith, h.ids, k.ids);
  words = omega (arith, h.words, k.words);
}

near_more : {i w j v : ℕ} {l m : Ledger} → Near i w l m → i ≤ j → w ≤ v → Near j v l m
near_more h p q = record { interned = h.interned; texts = h.texts; ids = omega (arith, h.ids, p); words = omega (arith, h.words, q) }

paid_more : {A : Type 0} (i w j v : ℕ) (o p : Out A) → Paid i w o p → i ≤ j → w ≤ v → Paid j v o p
paid_more i w j v (gave x l) (gave y m) h p q = (h.0, near_more h.1 p q)
paid_more i w j v (gave x l) (ended e m) h p q = absurd h
paid_more i w j v (ended e l) (gave y m) h p q = absurd h
paid_more i w j v (ended e l) (ended f m) h p q = (h.0, near_more h.1 p q)

paid_refl : {A : Type 0} (o : Out A) → Paid 0 0 o o
paid_refl (gave x l) = (refl, near_refl 0 0 l)
paid_refl (ended e l) = (refl, near_refl 0 0 l)

paid_after : {A : Type 0} (i w j v : ℕ) (l m : Ledger) (o p : Out A) → Near i w l m → Paid j v o p → Paid (i + j) (w + v) (after_ledger l o) (after_ledger m p)
paid_after i w j v l m (gave x n) (gave y q) h k = (k.0, near_both h k.1)
paid_after i w j v l m (gave x n) (ended e q) h k = absurd k
paid_after i w j v l m (ended e n) (gave y q) h k = absurd k
paid_after i w j v l m (ended e n) (ended f q) h k = (k.0, near_both h k.1)

paid_bind : {A B : Type 0} (i w j v : ℕ) (o p : Out A) (f g : A → Out B) → Paid i w o p → ((x : A) → Paid j v (f x) (g x)) → Paid (i + j) (w + v) (bind o f) (bind p g)
paid_bind i w j v (gave x l) (gave y m) f g h k = paid_after i w j v l m (f x) (g y) h.1 (subst (λ z. Paid j v (f x) (g z)) h.0 (k x))
paid_bind i w j v (gave x l) (ended e m) f g h k = absurd h
paid_bind i w j v (ended e l) (gave y m) f g h k = absurd h
paid_bind i w j v (ended e l) (ended e' m) f g h k = (h.0, near_more h.1 (omega arith) (omega arith))

-- evaluations in a row are the same however they are put together
ledger_same : (l m : Ledger) → l.interned ≡ m.interned → l.texts ≡ m.texts → l.ids ≡ m.ids → l.words ≡ m.words → l ≡ m
ledger_same l m a b c d = ap (λ (p : (List (List ℕ) × List (List ℕ)) × (ℕ × ℕ)). record { interned = p.0.0; texts = p.0.1; ids = p.1.0; words = p.1.1 }) (cc (a, b, c, d))

both_assoc : (l m n : Ledger) → both (both l m) n ≡ both l (both m n)
both_assoc l m n = ledger_same (both (both l m) n) (both l (both m n)) (append_assoc l.interned m.interned n.interned) (append_assoc l.texts m.texts n.texts) (omega arith) (omega arith)

after_free : {A : Type 0} (o : Out A) → after_ledger free o ≡ o
after_free (gave x m) = ap (λ l. gave x l) (ledger_same (both free m) m refl refl (omega arith) (omega arith))
after_free (ended e m) = ap (λ l. ended e l) (ledger_same (both free m) m refl refl (omega arith) (omega arith))

after_both : {A : Type 0} (l m : Ledger) (o : Out A) → after_ledger (both l m) o ≡ after_ledger l (after_ledger m o)
after_both l m (gave x n) = ap (λ k. gave x k) (both_assoc l m n)
after_both l m (ended e n) = ap (λ k. ended e k) (both_assoc l m n)

bind_after : {A B : Type 0} (l : Ledger) (o : Out A) (go : A → Out B) → bind (after_ledger l o) go ≡ after_ledger l (bind o go)
bind_after l (gave x m) go = after_both l m (go x)
bind_after l (ended e m) go = refl

bind_assoc : {A B C : Type 0} (o : Out A) (f : A → Out B) (g : B → Out C) → bind (bind o f) g ≡ bind o (λ x. bind (f x) g)
bind_assoc (gave x l) f g = bind_after l (f x) g
bind_assoc (ended e l) f g = refl

entry_bind : {B : Type 0} (key : List ℕ) (value : ExprTree) (s : EvalContext) (fs : Fields (List ℕ)) (go : Fields (List ℕ) → Out B) → bind
    (entry_paid key value s fs) go ≡ bind (key_paid s.limit key) (λ k. bind (expr_out value s) (λ v. go (with_property k v fs)))
entry_bind key value s fs go =
    bind_assoc (key_paid s.limit key) _ go
    ∙ bind_same (key_paid s.limit key) _ _ (λ k. bind_assoc (expr_out value s) _ go ∙ bind_same (expr_out value s) _ _ (λ v. after_free (go (with_property k v fs))))

-- a key and the members, each with its share
key_near : (limit : ℕ) (key : List ℕ) → Paid 4 (2 * length key + 8) (key_paid limit key) (key_interned limit key)
key_near limit key = elim (nat_le (length key) limit) as (λ t. Paid 4 (2 * length key + 8)
    (if t then gave key (record { interned = key ∷ []; texts = []; ids = 4; words = 2 * length key + 8 }) else ended (threw RangeError) free)
    (if t then gave key (record { interned = key ∷ []; texts = []; ids = 0; words = 0 }) else ended (threw RangeError) free)) [
      | true ↦ (refl, record { interned = refl; texts = refl; ids = omega arith; words = omega arith })
      | false ↦ (refl, near_refl 4 (2 * length key + 8) free)
    ]

entries_near : (es : Entries) (s : EvalContext) (fs : Fields (List ℕ)) → Paid (4 * members_in es) (2 * key_units es + 8 * members_in es) (entries_paid es s fs) (entries_out es s fs)
entries_near no_entries s fs = paid_refl (gave fs free)
entries_near (entry key value rest) s fs =
    let n = members_in rest in
    let t = key_units rest in
    let each : Paid (4 + (0 + 4 * n)) ((2 * length key + 8) + (0 + (2 * t + 8 * n)))
    (bind (key_paid s.limit key) (λ k. bind (expr_out value s) (λ v. entries_paid rest s (with_property k v fs)))) (entries_out (entry key value rest) s fs) =
    paid_bind 4 (2 * length key + 8) (0 + 4 * n) (0 + (2 * t + 8 * n)) (key_paid s.limit key) (key_interned s.limit key) _ _ (key_near s.limit key)
    (λ k. paid_bind 0 0 (4 * n) (2 * t + 8 * n) (expr_out value s) (expr_out value s) _ _ (paid_refl (expr_out value s)) (λ v. entries_near rest s (with_property k v fs))) in
    let whole = subst (λ o. Paid (4 + (0 + 4 * n)) ((2 * length key + 8) + (0 + (2 * t + 8 * n))) o
    (entries_out (entry key value rest) s fs)) (sym (entry_bind key value s fs (λ gs. entries_paid rest s gs))) each in
    paid_more (4 + (0 + 4 * n)) ((2 * length key + 8) + (0 + (2 * t + 8 * n))) (4 * members_in (entry key value rest))
    (2 * key_units (entry key value rest) + 8 * members_in (entry key value rest)) _ _ whole (omega arith) (omega arith)

-- what was done with a smaller need is done with a row in front that has the rest
module _ {F : Type 0} (a b : State F) (row : Row) {i w : ℕ} {l m : Ledger} (h : Near i w l m) (p : i ≤ ids_in row) (q : w ≤ words_in row) where
  ran_paid : MeetsLedger a b l → MeetsLedger a b (both (cost row) m)
  ran_paid r = record {
    grows = r.grows;
    history = subst (λ us. InternsLists a.history b.history us) h.interned r.history;
    texts = subst (λ us. (u : List ℕ) → Contains us u → (n : ℕ) × NamesUnits b n u) h.texts r.texts;
    within_ids = omega (arith, r.within_ids, h.ids, p);
    within_words = omega (arith, r.within_words, h.words, q);
  }

  cut_paid : (f : StoreFault) → EndsInPart a b f l → EndsInPart a b f (both (cost row) m)
  cut_paid f r = record {
    grows = r.grows;
    honest = r.honest;
    history = subst (λ us. InternsSome b f a.history us) h.interned r.history;
    within_ids = omega (arith, r.within_ids, h.ids, p);
    within_words = omega (arith, r.within_words, h.words, q);
  }

module _ {F V A : Type 0} (a b : State F) (see : State F → V → A) (fine : State F → V → Type 0) (row : Row) (i w : ℕ) (p : i ≤ ids_in row) (q : w ≤ words_in row) where
  pub did_paid : (r : Result V Stop) (o o' : Out A) → Paid i w o o' → ComesTo a b see fine r o → ComesTo a b see fine r (after_ledger (cost row) o')
  did_paid (Ok v) (gave x l) (gave y m) h d = record { is = d.is ∙ h.0; good = d.good; ran = ran_paid a b row h.1 p q d.ran }
  did_paid (Ok v) (gave x l) (ended f m) h d = absurd h
  did_paid (Ok v) (ended e l) o' h d = absurd d
  did_paid (Err (Threw k)) (gave x l) o' h d = absurd d
  did_paid (Err (Threw k)) (ended (threw n) l) (gave y m) h d = absurd h
  did_paid (Err (Threw k)) (ended (threw n) l) (ended (threw n') m) h d = let same : n ≡ n' = cc in (sym same ∙ d.0, ran_paid a b row h.1 p q d.1)
  did_paid (Err (Threw k)) (ended (threw n) l) (ended (unsupported n') m) h d = cc
  did_paid (Err (Threw k)) (ended (unsupported n) l) o' h d = absurd d
  did_paid (Err (Unsupported k)) (gave x l) o' h d = absurd d
  did_paid (Err (Unsupported k)) (ended (threw n) l) o' h d = absurd d
  did_paid (Err (Unsupported k)) (ended (unsupported n) l) (gave y m) h d = absurd h
  did_paid (Err (Unsupported k)) (ended (unsupported n) l) (ended (threw n') m) h d = cc
  did_paid (Err (Unsupported k)) (ended (unsupported n) l) (ended (unsupported n') m) h d = let same : n ≡ n' = cc in (sym same ∙ d.0, ran_paid a b row h.1 p q d.1)
  did_paid (Err (Store f)) (gave x l) (gave y m) h d = cut_paid a b row h.1 p q f d
  did_paid (Err (Store f)) (gave x l) (ended e m) h d = absurd h
  did_paid (Err (Store f)) (ended e l) (gave y m) h d = absurd h
  did_paid (Err (Store f)) (ended e l) (ended n m) h d = cut_paid a b row h.1 p q f d

-- an object literal whose members took their shares
pub literal_paid : {F V : Type 0} (a b : State F) (see : State F → V → Val) (fine : State F →
    V → Type 0) (at : ℕ) (es : Entries) (s : EvalContext) (r : Result V Stop) → ComesTo a b see fine r
    (bind (entries_paid es s no_fields) (λ fs. object_out at fs)) → ComesTo a b see fine r
    (after_ledger (literal_cost es) (bind (entries_out es s no_fields) (λ fs. object_out at fs)))
literal_paid a b see fine at es s r d =
    let n = members_in es in
    let t = key_units es in
    let near : Paid (4 * n + 0) ((2 * t + 8 * n) + 0) (bind (entries_paid es s no_fields) (λ fs. object_out at fs)) (bind (entries_out es s no_fields) (λ fs. object_out at fs)) =
    paid_bind (4 * n) (2 * t + 8 * n) 0 0 (entries_paid es s no_fields) (entries_out es s no_fields) _ _ (entries_near es s no_fields) (λ fs. paid_refl (object_out at fs)) in
    did_paid a b see fine (parts n t) (4 * n + 0) ((2 * t + 8 * n) + 0) (omega (arith, some_most n)) (omega (arith, some_most n)) r _ _ near d
