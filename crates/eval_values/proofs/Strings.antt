-- Values as strings.
use Rattle.std.proofs.Common.{arith, ◌≡◌, ℕ, ◌+◌, ◌≤◌, ◌<◌, List, [], ◌∷◌, ◌++◌, subst, length, get_or, drop, Result, Ok, Err}
use Rattle.js_store.specs.State.{State, Grows, IsKnown, text}
use Rattle.js_store.specs.Rows.{settle_words, wide_words}
use Rattle.js_store.proofs.Laws.{text_still, grows_trans}
use Rattle.js_item.specs.declared.item.Item.{Item}
use Rattle.eval_values.specs.declared.value.Stop.{Stop}
use Rattle.js_item.specs.Seen.{Val, seen}
use Rattle.eval_values.specs.Outcome.{bind}
use Rattle.eval_values.specs.Conversions.{to_string, text_units}
use Rattle.eval_values.specs.Operators.{concatenated, joined_strings}
use Rattle.js_texts.proofs.Lists.{every_at, drop_at, settle_still}
use Rattle.js_texts.specs.Texts.{AllKnown, settle_most}
use Rattle.js_item.specs.Fine.{IsFine}
use Rattle.eval_values.specs.Seen.{all_seen, AllFine}
use Rattle.eval_values.specs.Does.{GivesValue, GivesText, string_words}
use Rattle.eval_values.proofs.Compose.{did_bind, did_stop}
use Rattle.eval_values.proofs.Still.{seen_still}

module _ {F R : Type 0} (name : R → ℕ) where
  -- what is meant of a value stays while the store grows
  text_meant : (a b c : State F) (v : Item R) (r : Result R Stop) → Grows a b → IsFine a name v → GivesText name b c r
      (to_string b.limit (seen b name v)) → GivesText name b c r (to_string a.limit (seen a name v))
  text_meant a b c v r g h d =
      subst (λ (l : ℕ). GivesText name b c r (to_string l (seen a name v))) g.limit
      (subst (λ (o : Val). GivesText name b c r (to_string b.limit o)) (seen_still a b name g v h) d)

  settle_push : (s : State F) (rs : List R) (r : R) → settle_most s name (rs ++ r ∷ []) ≡ settle_most s name rs + settle_words (s.settled (name r)) (length (text s (name r)))
  settle_push s [] r = omega arith
  settle_push s (q ∷ rs) r = omega (arith, settle_push s rs r)

  -- one more text, whose value is the next one
  pub settle_turn : (a b c : State F) (rs : List R) (r : R) (vs : List (Item R)) (i : ℕ) (v : Item R) (n : ℕ) → Grows a b → Grows b c →
      AllFine a name vs → AllKnown b name rs → i < length vs → v ≡ get_or vs i v → settle_most b name rs + string_words
      (all_seen a name (drop i vs)) ≤ n → settle_words (c.settled (name r)) (length (text c (name r))) ≤ wide_words
      (text_units (seen b name v)) → settle_most c name (rs ++ r ∷ []) + string_words (all_seen a name (drop (i + 1) vs)) ≤ n
  settle_turn a b c rs r vs i v n f g w h l p k m =
      let split : drop i vs ≡ v ∷ drop (i + 1) vs = drop_at vs i v l p in
      let k' : settle_most b name rs + (wide_words (text_units (seen a name v)) + string_words (all_seen a name (drop (i + 1) vs))) ≤ n = rw split at k in
      let same : seen b name v ≡ seen a name v = seen_still a b name f v (every_at (λ q. IsFine a name q) vs i v w l p) in
      let m' : settle_words (c.settled (name r)) (length (text c (name r))) ≤ wide_words (text_units (seen a name v)) = subst
      (λ (o : Val). settle_words (c.settled (name r)) (length (text c (name r))) ≤ wide_words (text_units o)) same m in
      omega (arith, settle_push c rs r, settle_still name b c rs g h, k', m')

  -- both sides as strings, and then their concatenation
  pub texts_join : (a b c d : State F) (v w : Item R) (s t : R) (r : Result (Item R) Stop) → Grows a b → Grows b c → IsFine a name w →
      IsKnown b (name s) → GivesText name a b (Ok s) (to_string a.limit (seen a name v)) → GivesText name b c (Ok t)
      (to_string b.limit (seen b name w)) → GivesValue name c d r (concatenated c.limit (text c (name s)) (text c (name t))) → GivesValue name
      a d r (joined_strings a.limit (seen a name v) (seen a name w))
  texts_join a b c d v w s t r g h f k x y z =
      let still : text c (name s) ≡ text b (name s) = text_still h (name s) k in
      let y' : GivesText name b c (Ok t) (to_string a.limit (seen a name w)) = text_meant a b c w (Ok t) g f y in
      let z' : GivesValue name c d r (concatenated a.limit (text b (name s)) (text c (name t))) = subst
      (λ (o : ℕ × List ℕ). GivesValue name c d r (concatenated o.0 o.1 (text c (name t)))) (cc ((grows_trans g h).limit, still)) z in
      did_bind a b d (λ o e. text o (name e)) (λ o e. IsKnown o (name e)) (λ o e. seen o name e) (λ o e. IsFine o name e) s r
      (to_string a.limit (seen a name v)) (λ l. bind (to_string a.limit (seen a name w)) (λ m. concatenated a.limit l m)) x
      (did_bind b c d (λ o e. text o (name e)) (λ o e. IsKnown o (name e)) (λ o e. seen o name e) (λ o e. IsFine o name e) t r
      (to_string a.limit (seen a name w)) (λ m. concatenated a.limit (text b (name s)) m) y' z')

  pub first_stops : (a b : State F) (v w : Item R) (n : Stop) → GivesText name a b (Err n) (to_string a.limit (seen a name v)) → GivesValue
      name a b (Err n) (joined_strings a.limit (seen a name v) (seen a name w))
  first_stops a b v w n x = did_stop a b (λ o e. text o (name e)) (λ o e. IsKnown o (name e)) (λ o e. seen o name e)
      (λ o e. IsFine o name e) n (to_string a.limit (seen a name v)) (λ l. bind (to_string a.limit (seen a name w)) (λ m. concatenated a.limit l m)) x

  pub second_stops : (a b c : State F) (v w : Item R) (s : R) (n : Stop) → Grows a b → IsFine a name w → GivesText name a b (Ok s)
      (to_string a.limit (seen a name v)) → GivesText name b c (Err n) (to_string b.limit (seen b name w)) → GivesValue name a c (Err n)
      (joined_strings a.limit (seen a name v) (seen a name w))
  second_stops a b c v w s n g f x y =
      let y' : GivesText name b c (Err n) (to_string a.limit (seen a name w)) = text_meant a b c w (Err n) g f y in
      did_bind a b c (λ o e. text o (name e)) (λ o e. IsKnown o (name e)) (λ o e. seen o name e) (λ o e. IsFine o name e) s (Err n)
      (to_string a.limit (seen a name v)) (λ l. bind (to_string a.limit (seen a name w)) (λ m. concatenated a.limit l m)) x
      (did_stop b c (λ o e. text o (name e)) (λ o e. IsKnown o (name e)) (λ o e. seen o name e) (λ o e. IsFine o name e) n
      (to_string a.limit (seen a name w)) (λ m. concatenated a.limit (text b (name s)) m) y')

  -- what is meant of a value, in the state in which a list of values was begun
  pub text_as_first : (a b c : State F) (vs : List (Item R)) (i : ℕ) (v : Item R) (r : Result R Stop) → Grows a b → AllFine a name vs → i <
      length vs → v ≡ get_or vs i v → GivesText name b c r (to_string b.limit (seen b name v)) → GivesText name b c r (to_string a.limit (seen a name v))
  text_as_first a b c vs i v r g h l p d = text_meant a b c v r g (every_at (λ w. IsFine a name w) vs i v h l p) d
