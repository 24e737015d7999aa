-- Matches replaced: both arguments as strings, and then what they give.
use Rattle.eval_members.specs.Parts.{replacement}
use Rattle.std.proofs.Common.{arith, ◌≡◌, ℕ, ◌+◌, ◌≤◌, List, length, subst, Result, Ok, Err}
use Rattle.js_store.specs.State.{State, Grows, IsKnown, text}
use Rattle.js_store.proofs.Laws.{text_still, grows_trans}
use Rattle.js_item.specs.declared.item.Item.{Item}
use Rattle.eval_values.specs.declared.value.Stop.{Stop}
use Rattle.js_item.specs.Seen.{Val, seen}
use Rattle.eval_values.specs.Outcome.{converting}
use Rattle.eval_values.specs.Need.{reads}
use Rattle.eval_values.specs.Conversions.{to_string, text_units}
use Rattle.eval_members.specs.Replacing.{replace_call}
use Rattle.js_item.specs.Fine.{IsFine}
use Rattle.eval_values.specs.Does.{GivesValue, GivesText}
use Rattle.eval_values.proofs.TextArguments.{text_converts, text_fails}
use Rattle.eval_values.proofs.Still.{seen_still}

module _ {F R : Type 0} (name : R → ℕ) (o m t : ℕ) (count : List ℕ → List ℕ → ℕ) (replaced : List ℕ → List ℕ → List ℕ → List ℕ) (a b c : State F) (s : R) (v w : Item R) where
  pub searched_stops : (n : Stop) → GivesText name a b (Err n) (to_string a.limit (seen a name v)) → GivesValue name a b (Err n)
      (replace_call a.limit o m t (count (text a (name s))) (replaced (text a (name s))) (seen a name v) (seen a name w))
  searched_stops n d = text_fails name (reads o) a b n (to_string a.limit (seen a name v))
      (λ x. converting (reads m) (to_string a.limit (seen a name w)) (λ y. replacement a.limit t (count (text a (name s)) x) (replaced (text a (name s)) x y))) d

  module _ (g : Grows a b) (f : IsFine a name w) (x : R) (d : GivesText name a b (Ok x) (to_string a.limit (seen a name v))) where
    pub template_stops : (n : Stop) → GivesText name b c (Err n) (to_string b.limit (seen b name w)) → GivesValue name a c (Err n)
        (replace_call a.limit o m t (count (text a (name s))) (replaced (text a (name s))) (seen a name v) (seen a name w))
    template_stops n e =
        let same : seen b name w ≡ seen a name w = seen_still a b name g w f in
        let e0 : GivesText name b c (Err n) (to_string b.limit (seen a name w)) = subst (λ (q : Val). GivesText name b c (Err n) (to_string b.limit q)) same e in
        let e' : GivesText name b c (Err n) (to_string a.limit (seen a name w)) = subst (λ (q : ℕ). GivesText name b c (Err n) (to_string q (seen a name w))) g.limit e0 in
        text_converts name (reads o) a b c x (Err n) (to_string a.limit (seen a name v))
        (λ q. converting (reads m) (to_string a.limit (seen a name w))
        (λ y. replacement a.limit t (count (text a (name s)) q) (replaced (text a (name s)) q y))) d
        (text_fails name (reads m) b c n (to_string a.limit (seen a name w))
        (λ y. replacement a.limit t (count (text a (name s)) (text b (name x))) (replaced (text a (name s)) (text b (name x)) y)) e')

    -- both as strings, and then the string with its matches replaced
    pub replace_does : (z : State F) (y : R) (r : Result (Item R) Stop) → Grows b c → IsKnown a (name s) → IsKnown b (name x) → length
        (text b (name x)) ≤ text_units (seen a name v) + 40 → length (text c (name y)) ≤ text_units (seen b name w) + 40 → length
        (text a (name s)) + (text_units (seen a name v) + text_units (seen a name w)) ≤ t → GivesText name b c (Ok y)
        (to_string b.limit (seen b name w)) → ((u : ℕ) → length (text c (name s)) + (length (text c (name x)) + length (text c (name y))) ≤ u
        + 80 → GivesValue name c z r (replacement c.limit u (count (text c (name s)) (text c (name x)))
        (replaced (text c (name s)) (text c (name x)) (text c (name y))))) → GivesValue name a z r
        (replace_call a.limit o m t (count (text a (name s))) (replaced (text a (name s))) (seen a name v) (seen a name w))
    replace_does z y r h k l fits n' within e i =
        let same : seen b name w ≡ seen a name w = seen_still a b name g w f in
        let near : length (text c (name y)) ≤ text_units (seen a name w) + 40 = subst (λ (q : Val). length (text c (name y)) ≤ text_units q + 40) same n' in
        let e0 : GivesText name b c (Ok y) (to_string b.limit (seen a name w)) = subst (λ (q : Val). GivesText name b c (Ok y) (to_string b.limit q)) same e in
        let e' : GivesText name b c (Ok y) (to_string a.limit (seen a name w)) = subst (λ (q : ℕ). GivesText name b c (Ok y) (to_string q (seen a name w))) g.limit e0 in
        let s_still : text c (name s) ≡ text a (name s) = text_still (grows_trans g h) (name s) k in
        let x_still : text c (name x) ≡ text b (name x) = text_still h (name x) l in
        let first : GivesValue name c z r (replacement c.limit t (count (text c (name s)) (text c (name x)))
        (replaced (text c (name s)) (text c (name x)) (text c (name y)))) = i t (rw (s_still, x_still) (omega (arith, fits, near, within))) in
        let second : GivesValue name c z r (replacement a.limit t (count (text a (name s)) (text c (name x)))
        (replaced (text a (name s)) (text c (name x)) (text c (name y)))) = subst
        (λ (q : ℕ × List ℕ). GivesValue name c z r (replacement q.0 t (count q.1 (text c (name x)))
        (replaced q.1 (text c (name x)) (text c (name y))))) (cc ((grows_trans g h).limit, s_still)) first in
        let third : GivesValue name c z r (replacement a.limit t (count (text a (name s)) (text b (name x)))
        (replaced (text a (name s)) (text b (name x)) (text c (name y)))) = subst
        (λ (q : List ℕ). GivesValue name c z r (replacement a.limit t (count (text a (name s)) q)
        (replaced (text a (name s)) q (text c (name y))))) x_still second in
        text_converts name (reads o) a b z x r (to_string a.limit (seen a name v))
        (λ q. converting (reads m) (to_string a.limit (seen a name w))
        (λ p. replacement a.limit t (count (text a (name s)) q) (replaced (text a (name s)) q p))) d
        (text_converts name (reads m) b c z y r (to_string a.limit (seen a name w))
        (λ p. replacement a.limit t (count (text a (name s)) (text b (name x))) (replaced (text a (name s)) (text b (name x)) p)) e' third)
