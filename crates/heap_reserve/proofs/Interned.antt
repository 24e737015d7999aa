-- Interning with what is kept: what is offered, and what is left.
use Rattle.std.proofs.Common.{◌≡◌, ℕ, ◌+◌, ◌<◌, ◌≤◌, ⊎_elim, Bool, true, false, List, [], ◌∷◌, get_or, ap, sym, subst, ◌∙◌, arith, Result, Ok, Err}
use Rattle.js_units.specs.Lanes.{words_over}
use Rattle.heap_rule.specs.declared.view.View.{View}
use Rattle.heap_rule.specs.Maps.{Has, HasKey}
use Rattle.heap_rule.specs.Paths.{Calls}
use Rattle.heap_rule.proofs.MapLemmas.{remove_other}
use Rattle.heap_intern.specs.declared.table.faults.TableFull.{TableFull}
use Rattle.heap_intern.specs.declared.table.faults.TableFull.TheVariants.{Ids, Words, Slots}
use Rattle.heap_intern.specs.declared.table.given.Given.{Given}
use Rattle.heap_intern.specs.Answers.{HeaderPlan, IsInternAnswer, UsesNothing}
use Rattle.heap_intern.specs.Goes.{AddsCalls}
use Rattle.heap_intern.specs.Taking.{HasGiven, IsKeyAnswer, without_given}
use Rattle.heap_text.specs.Texts.{KeepsOwn, KeepsOwnBut}
use Rattle.heap_text.proofs.Owned.{without_other}
use Rattle.heap_reserve.specs.declared.reserve.Reserve.{Reserve}
use Rattle.heap_reserve.specs.Interning.{IsOffered}
use Rattle.heap_reserve.specs.Reserves.{HasEnough, IsReserve, IsTakenFrom, kept_ids}

-- a narrow copy takes the fewest words, and a wide one the most
pub words_least : (wide : Bool) (n : ℕ) → words_over false n ≤ words_over wide n
words_least true n = omega arith
words_least false n = omega arith

pub words_most : (wide : Bool) (n : ℕ) → words_over wide n ≤ words_over true n
words_most true n = omega arith
words_most false n = omega arith

pub offered_given : (v : View) (r : Reserve) (n : ℕ) (p : Given) → IsReserve v r → HasEnough r n → IsOffered r n p → HasGiven v n p
offered_given v r n p h enough o = record {
  id = subst (HasKey v.own_ids) (sym o.id) (h.ids 0 0 enough.0);
  words = λ q l. let first = o.first (omega (arith, l)) in let same : r.start + q ≡ p.start + q = omega (arith, first) in
      subst (λ (c : ℕ). Has v.own_words c 0) same (h.words (r.start + q) (omega arith) (let fits = enough.1 in omega (arith, l, fits)));
  none = o.none;
}

pub same_used : (v w : View) → UsesNothing v w → w.used ≡ v.used
same_used v w n = λ i. record { ids = n.0 i; words = n.1 i }

-- what a call leaves that takes nothing
adds_own : (v w : View) (calls : Calls) → AddsCalls v w calls → KeepsOwn v w
adds_own v w calls g = record { ids = g.own_ids; words = g.own_words }

pub settled_own : (v w : View) (us : List ℕ) (r : Result ℕ TableFull) → IsKeyAnswer v w us r → KeepsOwn v w
settled_own v w us (Ok i) h = adds_own v w ((us, i) ∷ []) h.0
settled_own v w us (Err (Slots n)) h = adds_own v w [] h.0
settled_own v w us (Err (Ids f)) h = absurd h
settled_own v w us (Err (Words f)) h = absurd h

pub answer_own : (v w : View) (us : List ℕ) (plan : HeaderPlan) (r : Result ℕ TableFull) → IsInternAnswer v w us plan r → KeepsOwn v w
answer_own v w us plan (Ok i) h = adds_own v w ((us, i) ∷ []) h.0
answer_own v w us plan (Err f) h = adds_own v w [] h.0

-- and one that takes what was given
given_own : (v w : View) (n : ℕ) (p : Given) (start : ℕ) → (0 < n → p.start ≡ start) → KeepsOwn (without_given v n p) w → KeepsOwnBut v w p.id start n
given_own v w n p start first k = record {
  ids = λ i m ne h. k.ids i m (remove_other v.own_ids p.id i ne ∙ h);
  words = λ c x side h. k.words c x (without_other v.own_words p.start n c x
      (λ q l e. let same = first (omega (arith, l)) in ⊎_elim (λ (low : c < start). omega (arith, low, e, same)) (λ (high : start + n ≤ c). omega (arith, high, e, same, l)) side) h);
}

pub taken_from : (v w : View) (r s : Reserve) (us : List ℕ) (p : Given) (i n m : ℕ) (answer : Result ℕ TableFull) → HasEnough r n → IsOffered r n p
    → IsKeyAnswer (without_given v n p) w us answer → UsesNothing v w → m ≡ n
    → kept_ids r ≡ i ∷ kept_ids s → (s.start ≡ r.start + m) × (s.end ≡ r.end) → IsTakenFrom v w r s p.id n
taken_from v w r s us p i n m answer enough o h nothing e ids run = let is : i ≡ p.id = sym (ap (λ (l : List ℕ). get_or l 0 0) ids) ∙ sym o.id in
    let some = enough.0 in let fits = enough.1 in let at = run.0 in record {
      had_id = λ l. (subst (λ (j : ℕ). kept_ids r ≡ j ∷ kept_ids s) is ids, nothing.0);
      new_id = λ none. absurd (omega (arith, some, none));
      had_words = λ l. (omega (arith, at, e), run.1, nothing.1, given_own v w n p r.start o.first (settled_own (without_given v n p) w us answer h));
      new_words = λ more. absurd (omega (arith, fits, more));
    }
