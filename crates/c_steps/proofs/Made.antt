-- What making a string reports.
use Rattle.std.proofs.Common.{◌≡◌, ◌≢◌, ℕ, List, refl, sym, subst, arith, Option, Some, Result, Ok, Err, IfOk}
use Rattle.heap_rule.specs.Maps.{Has}
use Rattle.heap_rule.specs.Views.{IsSeenSettled}
use Rattle.heap_read.specs.declared.string.JsStr.{JsStr}
use Rattle.heap_text.specs.declared.faults.TextFull.{TextFull}
use Rattle.heap_text.specs.declared.faults.TextFull.TheVariants.{Ids, Words}
use Rattle.heap_agents.specs.declared.held.Held.{Held}
use Rattle.heap_agents.specs.Held.{MarksMade, SpendsReserve, view_by}
use Rattle.agent_makes.specs.Spending.{MakesRenewing}
use Rattle.c_steps.specs.declared.answer.JsAnswer.{JsAnswer}
use Rattle.c_steps.specs.Given.{MakesString}
use Rattle.c_steps.specs.Reports.{DONE, NO_MEMORY, text_answer, text_report}

refused : (f : TextFull) → (text_report f).status ≡ DONE → ⊥
refused (Ids f) e = omega (arith, e)
refused (Words f) e = omega (arith, e)

had_memory : (f : TextFull) → (text_report f).status ≢ NO_MEMORY
had_memory (Ids f) e = omega (arith, e)
had_memory (Words f) e = omega (arith, e)

module _ (x y : Held) (spends : SpendsReserve x y) where
  makes_as : (us : List ℕ) (t : Result JsStr TextFull) → MarksMade x y t → IfOk t (λ s. Has (view_by y).units s.id us) → IfOk t (λ s. IsSeenSettled (view_by y) s.id)
      → MakesRenewing x y us t → MakesString (Some x) (Some y) us (text_answer t)
  makes_as us (Ok s) marked units settled made = record {
    goes = spends;
    memory = λ e. omega (arith, e);
    whole = λ e. refl;
    marked = λ e. marked.known;
    units = λ e. units;
    settled = λ e. settled;
    made = (Ok s, refl, made);
  }
  makes_as us (Err f) marked units settled made = record {
    goes = spends;
    memory = had_memory f;
    whole = λ e. absurd (refused f e);
    marked = λ e. absurd (refused f e);
    units = λ e. absurd (refused f e);
    settled = λ e. absurd (refused f e);
    made = (Err f, refl, made);
  }

  pub makes : (o p : Option Held) (r : JsAnswer) (us : List ℕ) (t : Result JsStr TextFull) → o ≡ Some x → p ≡ Some y → r ≡ text_answer t → MarksMade x y t
      → IfOk t (λ s. Has (view_by y).units s.id us) → IfOk t (λ s. IsSeenSettled (view_by y) s.id) → MakesRenewing x y us t → MakesString o p us r
  makes o p r us t own left report marked units settled made = subst (λ (a : Option Held). MakesString a p us r) (sym own) (subst (λ (a : Option Held). MakesString (Some x) a us r) (sym left)
      (subst (λ (a : JsAnswer). MakesString (Some x) (Some y) us a) (sym report) (makes_as us t marked units settled made)))
