-- What interning a string reports.
use Rattle.std.proofs.Common.{◌≡◌, ℕ, List, refl, sym, subst, arith, Option, Some, Result, Ok, Err, IfOk}
use Rattle.heap_rule.specs.Maps.{Has}
use Rattle.heap_table.specs.Known.{KeepsKnown}
use Rattle.heap_intern.specs.declared.table.faults.TableFull.{TableFull}
use Rattle.heap_intern.specs.declared.table.faults.TableFull.TheVariants.{Ids, Words, Slots}
use Rattle.heap_intern.specs.Answers.{IsForwarded}
use Rattle.heap_agents.specs.declared.held.Held.{Held}
use Rattle.heap_agents.specs.Held.{IsSame, StaysMarked, view_by}
use Rattle.heap_agents.specs.Interned.{KeepsCalls}
use Rattle.agent_keys.specs.Keys.{InternsByPlan, MarksAnswer}
use Rattle.c_steps.specs.declared.answer.JsAnswer.{JsAnswer}
use Rattle.jsstr_c.specs.Made.{InternsString}
use Rattle.c_steps.specs.Reports.{DONE, table_answer, table_report}

refused : (f : TableFull) → (table_report f).status ≡ DONE → ⊥
refused (Ids f) e = omega (arith, e)
refused (Words f) e = omega (arith, e)
refused (Slots n) e = omega (arith, e)

module _ (x y : Held) (s : ℕ) (same : IsSame x y) (marks : StaysMarked x y) (known : KeepsKnown (view_by x) (view_by y)) (calls : KeepsCalls (view_by x) (view_by y)) where
  enters_as : (t : Result ℕ TableFull) → MarksAnswer x y t → ((us : List ℕ) → Has (view_by x).units s us → InternsByPlan x y s us t)
      → IfOk t (λ i. IsForwarded (view_by y) s i) → InternsString (Some x) (Some y) s (table_answer t)
  enters_as (Ok i) marked interns forwards = record {
    same = same;
    stays = marks;
    marked = λ e. marked;
    unmarked = λ ne. absurd (ne refl);
    known = known;
    calls = calls;
    interned = λ us h. (Ok i, refl, interns us h);
    forwards = λ e. forwards;
  }
  enters_as (Err f) marked interns forwards = record {
    same = same;
    stays = marks;
    marked = λ e. absurd (refused f e);
    unmarked = λ ne. marked;
    known = known;
    calls = calls;
    interned = λ us h. (Err f, refl, interns us h);
    forwards = λ e. absurd (refused f e);
  }

  pub enters : (o p : Option Held) (r : JsAnswer) (t : Result ℕ TableFull) → o ≡ Some x → p ≡ Some y → r ≡ table_answer t → MarksAnswer x y t
      → ((us : List ℕ) → Has (view_by x).units s us → InternsByPlan x y s us t)
      → IfOk t (λ i. IsForwarded (view_by y) s i) → InternsString o p s r
  enters o p r t own left report marked interns forwards = subst (λ (a : Option Held). InternsString a p s r) (sym own) (subst (λ (a : Option Held). InternsString (Some x) a s r) (sym left)
      (subst (λ (a : JsAnswer). InternsString (Some x) (Some y) s a) (sym report) (enters_as t marked interns forwards)))
