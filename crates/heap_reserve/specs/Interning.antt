-- What interning answers with pieces that are kept in advance.
use Rattle.std.specs.Prelude.{◌≡◌, ◌⊎◌, ℕ, ◌<◌, List, slice_index, Result, IsOk}
use Rattle.heap_rule.specs.declared.view.View.{View}
use Rattle.heap_rule.specs.Maps.{Has}
use Rattle.heap_intern.specs.declared.table.faults.TableFull.{TableFull}
use Rattle.heap_intern.specs.declared.table.given.Given.{Given}
use Rattle.heap_intern.specs.Answers.{HeaderPlan, IsInternAnswer, StandsInSlot, UsesNothing}
use Rattle.heap_intern.specs.Taking.{IsGivenTaken, IsKeyAnswer}
use Rattle.heap_reserve.specs.declared.reserve.Reserve.{Reserve}
use Rattle.heap_reserve.specs.Reserves.{HasEnough, IsTakenFrom, kept_ids}

-- the first id of the reserve, and the first of n of its words, 0 where these are none
pub record IsOffered (r : Reserve) (n : ℕ) (p : Given) : Type 0 where
  pub id : p.id ≡ slice_index (kept_ids r) 0
  pub first : 0 < n → p.start ≡ r.start
  pub none : n ≡ 0 → p.start ≡ 0

-- The units us, for which a header is made by the plan.
module _ (v w : View) (r s : Reserve) (us : List ℕ) (plan : HeaderPlan) (answer : Result ℕ TableFull) where
  -- The first id of the reserve became the header, over the first of its words where the plan needs some, and
  -- left it with them, for a slot that was found free. It is the answer, or, where the claim of a slot was
  -- lost, another one is.
  pub record IsKeyTaken : Type 0 where
    pub given : Given
    pub offered : IsOffered r plan.words given
    pub interned : IsGivenTaken v w us plan given answer
    pub taken : IsTakenFrom v w r s given.id plan.words

  -- Interning with a reserve that has an id and the words. Where the string is in the table, or no slot is
  -- free, the reserve stays. No counter is touched.
  pub record InternsByReserve : Type 0 where
    pub ways : ((s ≡ r) × IsKeyAnswer v w us answer) ⊎ IsKeyTaken
    pub used : w.used ≡ v.used

  -- Interning the units: with the reserve, where it has enough; else it stays, and what is needed is claimed.
  -- Whoever has seen the string at its place is answered, and uses nothing and takes nothing.
  pub record InternsKept : Type 0 where
    pub enough : HasEnough r plan.words → InternsByReserve
    pub claimed : (HasEnough r plan.words → ⊥) → (s ≡ r) × IsInternAnswer v w us plan answer
    pub again : (i : ℕ) → Has v.units i us → StandsInSlot v us i → IsOk answer × UsesNothing v w × (s ≡ r)

  -- Interning that goes on from an opening for the units: with the reserve, where it has enough; else it
  -- stays, and what is needed is claimed.
  pub record InternsAt : Type 0 where
    pub enough : HasEnough r plan.words → IsKeyTaken
    pub claimed : (HasEnough r plan.words → ⊥) → (s ≡ r) × IsInternAnswer v w us plan answer
