-- What a page's call comes to.
use Rattle.std.specs.Prelude.{◌≡◌, ◌⊎◌, ℕ, ◌<◌, List, [], ◌∷◌, length, None}
use Rattle.eval_tree.specs.Tree.{Tree}
use Rattle.heap_rule.specs.Layout.{IsLawfulSize}
use Rattle.heap_table.specs.Agents.{view_of}
use Rattle.heap_table.specs.Closing.{IsClosed}
use Rattle.js_eval.specs.declared.ending.End.TheVariants as end
use Rattle.js_parse.specs.declared.fault.Role.TheVariants.{Main}
use Rattle.js_parse.specs.declared.fault.ParseFault.{ParseFault}
use Rattle.js_parse.specs.Faults.{fault_report}
use Rattle.js_parse.specs.declared.fault.ParseFault.TheVariants.{Memory}
use Rattle.js_parse.specs.Spells.{Refused, Spells}
use Rattle.run_program.specs.declared.job.Outcome.{Outcome}
use Rattle.run_here.specs.declared.here.Here.{Here}
use Rattle.run_here.specs.Here.{IsHere}
use Rattle.jsstr_web.specs.declared.answer.WebEnd.{WebEnd}
use Rattle.jsstr_web.specs.declared.answer.WebOptions.{WebOptions}
use Rattle.jsstr_web.specs.Statements.{count_of, shortened}
use Rattle.jsstr_web.specs.Told.{BeginsWith, fault_told, limit_for, plain, size_given, told}

-- the bytes that the first of some scripts printed
abbrev pub lines_in : List Outcome → List ℕ
lines_in [] = []
lines_in (o ∷ os) = o.lines

-- how the first of some scripts ended
abbrev pub first_end : List Outcome → ℕ → WebEnd
first_end [] statements = told end.Memory statements 0
first_end (o ∷ os) statements = told o.end statements (length o.lines)

-- A script was run with these options: the bytes begin with its lines, the end is reported, and the words are
-- those of its heap, in which the agent that ran it has its view. Or no heap has the sizes, or memory ran out
-- before anything was run; then nothing is written.
pub data IsWebRun (o : WebOptions) (script : Tree) (before after old new : List ℕ)
    (end : WebEnd) : Type 0 where
  ran : (here : Here) → IsHere (size_given o) (limit_for o) None (shortened o.statements script) here
      → BeginsWith (lines_in here.ran.scripts.items) before after
      → end ≡ first_end here.ran.scripts.items (count_of script)
      → IsClosed (size_given o) (view_of here.ran.kept.agent) new
      → IsWebRun o script before after old new end
  no_size : ¬ (IsLawfulSize (size_given o)) → end ≡ plain 9 → after ≡ before → new ≡ old
      → IsWebRun o script before after old new end
  no_memory : end ≡ plain 10 → after ≡ before → new ≡ old → IsWebRun o script before after old new end

-- The text is too long, or it spells a script that is run, or it is refused, or memory runs out.
pub data Answers (o : WebOptions) (text : List ℕ) (before after old new : List ℕ)
    (end : WebEnd) : Type 0 where
  too_long : 1048576 < length text → end ≡ plain 8 → after ≡ before → new ≡ old
      → Answers o text before after old new end
  runs : (script : Tree) → Spells Main [] text script → IsWebRun o script before after old new end
      → Answers o text before after old new end
  refused : (fault : ParseFault) → (fault ≡ Memory) ⊎ Refused Main [] text fault
      → end ≡ fault_told fault → BeginsWith (fault_report fault).1 before after → new ≡ old
      → Answers o text before after old new end
