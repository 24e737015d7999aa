-- Calls of methods: an argument as a string, and then what is done with it.
use Rattle.eval_members.specs.Parts.{search_answer, one_joined}
use Rattle.std.proofs.Common.{arith, ◌≡◌, ℕ, ◌+◌, ◌≤◌, ◌<◌, List, subst, sym, length, get_or, drop, None, Result, Ok, Err}
use Rattle.js_store.specs.State.{State, Grows, IsKnown, text}
use Rattle.js_store.specs.Faults.{StoreStep}
use Rattle.js_store.proofs.Laws.{text_still}
use Rattle.js_item.specs.declared.item.Item.{Item}
use Rattle.eval_values.specs.declared.value.Stop.{Stop}
use Rattle.js_item.specs.Seen.{Val, seen}
use Rattle.eval_values.specs.Outcome.{Converted}
use Rattle.eval_values.specs.Need.{reads, joins}
use Rattle.eval_values.specs.Conversions.{to_string, all_units, first_text_units}
use Rattle.eval_values.specs.Arguments.{first_of}
use Rattle.eval_members.specs.Searching.{search_call}
use Rattle.eval_members.specs.Building.{joined_text, concat_call}
use Rattle.js_item.specs.Fine.{IsFine}
use Rattle.eval_values.specs.Seen.{all_seen, AllFine}
use Rattle.eval_values.specs.Does.{GivesValue, GivesText}
use Rattle.eval_values.proofs.Compose.{did_before, did_convert, did_fail}
use Rattle.eval_values.proofs.TextArguments.{text_then, text_stops, text_converts}
use Rattle.js_texts.proofs.Lists.{drop_at, every_at}
use Rattle.eval_values.proofs.Still.{seen_still, values_still}

module _ {F R : Type 0} (name : R → ℕ) where
  -- a string to look for, and then what it and a number give
  pub search_does : {N : Type 0} (a b c : State F) (s w : R) (r : Result (Item R) Stop)
      (m n : ℕ) (answer : List ℕ → List ℕ → N → Val) (v : Val) (q : Converted N) → Grows a b → IsKnown a (name s) → length (text b (name w)) ≤
      n + 40 → GivesText name a b (Ok w) (to_string a.limit v) → ((t : ℕ) → length (text b (name s)) + length (text b (name w)) ≤ t + 40 →
      GivesValue name b c r (search_answer t (answer (text b (name s)) (text b (name w))) q)) → GivesValue name a c r
      (search_call a.limit m (length (text a (name s)) + n) (answer (text a (name s))) v q)
  search_does a b c s w r m n answer v q g k h d f =
      let same : text b (name s) ≡ text a (name s) = text_still g (name s) k in
      let t : ℕ = length (text a (name s)) + n in
      let z : GivesValue name b c r (search_answer t (answer (text b (name s)) (text b (name w))) q) = f t (rw same (omega (arith, h))) in
      text_converts name (reads m) a b c w r (to_string a.limit v) (λ x. search_answer t (answer (text a (name s)) x) q) d
      (subst (λ (u : List ℕ). GivesValue name b c r (search_answer t (answer u (text b (name w))) q)) same z)

  -- the same after a call that used nothing
  pub search_after : {N : Type 0} (a b c : State F) (s : R) (vs : List (Item R)) (r : Result (Item R) Stop) (answer : List ℕ → List ℕ
      → N → Val) (q : Converted N) → StoreStep a b None 0 0 → b.history ≡ a.history → IsKnown a (name s) → AllFine a name vs → GivesValue name
      b c r (search_call b.limit (length (text b (name s)) + all_units (all_seen b name vs))
      (length (text b (name s)) + first_text_units (all_seen b name vs)) (answer (text b (name s))) (first_of (all_seen b name vs)) q) →
      GivesValue name a c r (search_call a.limit (length (text a (name s)) + all_units (all_seen a name vs))
      (length (text a (name s)) + first_text_units (all_seen a name vs)) (answer (text a (name s))) (first_of (all_seen a name vs)) q)
  search_after a b c s vs r answer q t h k f d =
      did_before a b c (λ o e. seen o name e) (λ o e. IsFine o name e) r
      (search_call a.limit (length (text a (name s)) + all_units (all_seen a name vs))
      (length (text a (name s)) + first_text_units (all_seen a name vs)) (answer (text a (name s))) (first_of (all_seen a name vs)) q) t h
      (subst (λ (p : ℕ × (List ℕ × List Val)). GivesValue name b c r (search_call p.0 (length p.1.0 + all_units p.1.1)
      (length p.1.0 + first_text_units p.1.1) (answer p.1.0) (first_of p.1.1) q)) {x = (
        b.limit,
        (text b (name s), all_seen b name vs),
      )} {y = (a.limit, (text a (name s), all_seen a name vs))}
      (cc (t.grows.limit, text_still t.grows (name s) k, values_still a b name t.grows vs f)) d)

  -- one more argument of `concat`
  pub join_does : (a b c : State F) (s w : R) (v : Item R) (r : Result R Stop) → Grows a b → IsKnown a (name s) → GivesText name a b (Ok w)
      (to_string a.limit (seen a name v)) → GivesText name b c r (joined_text b.limit (text b (name s)) (text b (name w))) → GivesText name a
      c r (one_joined a.limit (text a (name s)) (seen a name v))
  join_does a b c s w v r g k d f =
      did_convert joins a b c (λ o e. text o (name e)) (λ o e. IsKnown o (name e)) (λ o e. text o (name e)) (λ o e. IsKnown o (name e)) w r
      (to_string a.limit (seen a name v)) (λ x. joined_text a.limit (text a (name s)) x) d
      (subst (λ (p : ℕ × List ℕ). GivesText name b c r (joined_text p.0 p.1 (text b (name w)))) (cc (g.limit, text_still g (name s) k)) f)

  pub join_stops : (a b : State F) (s : R) (v : Item R) (n : Stop) → GivesText name a b (Err n) (to_string a.limit (seen a name v)) →
      GivesText name a b (Err n) (one_joined a.limit (text a (name s)) (seen a name v))
  join_stops a b s v n d = did_fail joins a b (λ o e. text o (name e)) (λ o e. IsKnown o (name e)) (λ o e. text o (name e))
      (λ o e. IsKnown o (name e)) n (to_string a.limit (seen a name v)) (λ x. joined_text a.limit (text a (name s)) x) d

  module _ (a b d : State F) (vs : List (Item R)) (i : ℕ) (v : Item R) (t : R) (g : Grows a b) (h : AllFine a name vs) (l : i < length vs) (p : v ≡ get_or vs i v) where
    same_value : seen b name v ≡ seen a name v
    same_value = seen_still a b name g v (every_at (λ w. IsFine a name w) vs i v h l p)

    -- the next of the arguments of `concat`, and then those after it
    pub concat_turn : (z : State F) (w : R) (r : Result (Item R) Stop) → GivesText name b d (Ok w)
        (one_joined b.limit (text b (name t)) (seen b name v)) → GivesValue name d z r
        (concat_call a.limit (text d (name w)) (all_seen a name (drop (i + 1) vs))) → GivesValue name b z r
        (concat_call a.limit (text b (name t)) (all_seen a name (drop i vs)))
    concat_turn z w r x y =
        let x' : GivesText name b d (Ok w) (one_joined a.limit (text b (name t)) (seen a name v)) = subst
        (λ (l : ℕ). GivesText name b d (Ok w) (one_joined l (text b (name t)) (seen a name v))) g.limit
        (subst (λ (q : Val). GivesText name b d (Ok w) (one_joined b.limit (text b (name t)) q)) same_value x) in
        subst (λ (q : List (Item R)). GivesValue name b z r (concat_call a.limit (text b (name t)) (all_seen a name q))) (sym (drop_at vs i v l p))
        (text_then name b d z w r (one_joined a.limit (text b (name t)) (seen a name v)) (λ u. concat_call a.limit u (all_seen a name (drop (i + 1) vs))) x' y)

    pub concat_halt : (n : Stop) → GivesText name b d (Err n) (one_joined b.limit (text b (name t)) (seen b name v)) → GivesValue name b d
        (Err n) (concat_call a.limit (text b (name t)) (all_seen a name (drop i vs)))
    concat_halt n x =
        let x' : GivesText name b d (Err n) (one_joined a.limit (text b (name t)) (seen a name v)) = subst
        (λ (l : ℕ). GivesText name b d (Err n) (one_joined l (text b (name t)) (seen a name v))) g.limit
        (subst (λ (q : Val). GivesText name b d (Err n) (one_joined b.limit (text b (name t)) q)) same_value x) in
        subst (λ (q : List (Item R)). GivesValue name b d (Err n) (concat_call a.limit (text b (name t)) (all_seen a name q))) (sym (drop_at vs i v l p))
        (text_stops name b d n (one_joined a.limit (text b (name t)) (seen a name v)) (λ u. concat_call a.limit u (all_seen a name (drop (i + 1) vs))) x')
