-- What the string table answers to an agent that has claimed an id and content words for a new string.
use Rattle.std.specs.Prelude.{◌≡◌, ℕ, ◌+◌, ◌<◌, true, List, [], ◌∷◌, unwrap_or, Option, Some, None}
use Rattle.std.specs.Prelude.{Result, Ok, Err, IsTrue}
use Rattle.std.specs.FinMap.{remove}
use Rattle.js_header.specs.declared.form.Form.TheVariants.{Flat}
use Rattle.heap_rule.specs.declared.view.View.{View}
use Rattle.heap_rule.specs.Maps.{Has, HasKey, without_run}
use Rattle.heap_rule.specs.SlotTests.{shut}
use Rattle.heap_intern.specs.declared.table.faults.TableFull.{TableFull}
use Rattle.heap_intern.specs.declared.table.faults.TableFull.TheVariants.{Slots}
use Rattle.heap_intern.specs.declared.table.given.Given.{Given}
use Rattle.heap_intern.specs.Answers.{HeaderPlan, IsFixed, IsInternAnswer, IsOpenAt, StandsInSlot, UsesNothing}
use Rattle.heap_intern.specs.Goes.{AddsCalls}

-- The id is the agent's own, and so are n content words, from the first one on; each is still 0, so no string
-- has it. Where they are none, the first one is 0.
pub record HasGiven (v : View) (n : ℕ) (p : Given) : Type 0 where
  pub id : HasKey v.own_ids p.id
  pub words : (q : ℕ) → q < n → Has v.own_words (p.start + q) 0
  pub none : n ≡ 0 → p.start ≡ 0

-- the same view, but the id and the n words are not the agent's own
abbrev pub without_given : View → ℕ → Given → View
without_given v n p = record v {
  own_ids = remove v.own_ids p.id;
  own_words = without_run v.own_words p.start n;
}

-- The answer is a fixed Flat of these units that is in a slot, and the history has one call more; or every
-- slot is known to be used by a string that differs.
abbrev pub IsKeyAnswer : View → View → List ℕ → Result ℕ TableFull → Type 0
IsKeyAnswer v w us (Ok i) = AddsCalls v w ((us, i) ∷ []) × IsFixed w us i × StandsInSlot w us i
IsKeyAnswer v w us (Err (Slots n)) = AddsCalls v w [] × (n ≡ w.sizes.slots) × IsTrue (shut w us w.sizes.slots)
IsKeyAnswer v w us (Err _) = ⊥

-- What was given was taken: a slot was found free behind slots with strings that differ, and the id became
-- the header that the plan says, over the words that were given, or over words that are there already. It is
-- the answer, or another one is, where the claim of a slot was lost. All else that was the agent's own is so
-- still.
pub record IsGivenTaken (v w : View) (us : List ℕ) (plan : HeaderPlan) (p : Given) (r : Result ℕ TableFull)
    : Type 0 where
  pub settled : IsKeyAnswer (without_given v plan.words p) w us r
  pub form : Has w.forms p.id (Flat plan.wide (unwrap_or plan.start p.start) true)
  pub units : Has w.units p.id us
  pub opened : IsOpenAt v w us

-- the header was made of what was given, if anything was; else by claims
abbrev pub AnswersAt : View → View → List ℕ → HeaderPlan → Option Given → Result ℕ TableFull → Type 0
AnswersAt v w us plan None r = IsInternAnswer v w us plan r
AnswersAt v w us plan (Some p) r = IsGivenTaken v w us plan p r × UsesNothing v w
