-- Helpers: no public contract reaches these definitions.
-- What the parts of a call answer in the code, and what that reports.
use Rattle.std.specs.Prelude.{◌≡◌, ◌≤◌, ◌++◌, ⊤, ℕ, codes, List, Option, None, Some, length, map}
use Rattle.js_eval.specs.declared.ending.End.{End}
use Rattle.run_program.specs.declared.job.Outcome.{Outcome}
use Rattle.run_program.specs.declared.ran.Ran.{Ran}
use Rattle.run_program.specs.declared.ran.Setup.{Setup}
use Rattle.run_program.specs.Kept.{HeapKept}
use Rattle.run_program.specs.Ran.{IsRan}
use Rattle.eval_tree.specs.Tree.{Tree}
use Rattle.run_sources.specs.Spelling.{Spell, FirstRefused}
use Rattle.run_sources.specs.Texts.{Named}
use Rattle.run_sources.specs.declared.sources.SourceText.{SourceText}
use Rattle.run_sources.specs.declared.sources.Sources.{Sources}
use Rattle.run_sources.specs.declared.stop.ScriptsFault.{ScriptsFault}
use Rattle.run_sources.specs.declared.stop.ScriptsFault.TheVariants as stop
use Rattle.run_sources.specs.Program.{FileName, Program}
use Rattle.js_run.specs.Cause.{names_in}
use Rattle.js_run.specs.Verdict.{Verdict, Refused, NoMemory, WasRun, report_of, kept_of, refused_line}
use Rattle.js_run.specs.Verdict.{memory_line}
use Rattle.js_io.specs.Report.{IsEnd, Sinks, Report, Refusal}

-- the line of a file that can't be read
abbrev pub unread_line : FileName → List ℕ
unread_line name = name ++ codes ": cannot be read\n"

-- the line of a file that is too large
abbrev pub large_line : FileName → List ℕ
large_line name = name ++ codes ": larger than 1048576 bytes\n"

abbrev pub stop_report : ScriptsFault → Report
stop_report (stop.NotRead name) = Refusal 3 (unread_line name.now)
stop_report (stop.TooLarge name) = Refusal 3 (large_line name.now)
stop_report (stop.Refused name fault) = Refusal 4 (refused_line name.now fault)
stop_report stop.NoMemory = Refusal 6 memory_line

abbrev pub source_names : List SourceText → List FileName
source_names sources = map (λ s. s.name.now) sources

abbrev pub outcome_ends : List Outcome → List End
outcome_ends outcomes = map (λ o. o.end) outcomes

-- there is an outcome of the prelude exactly where there is a prelude
abbrev pub SamePrelude : Option SourceText → Option Outcome → Type 0
SamePrelude None None = ⊤
SamePrelude (Some source) (Some outcome) = ⊤
SamePrelude None (Some outcome) = ⊥
SamePrelude (Some source) None = ⊥

-- each file that was run has a name
pub record HasNames (sources : Sources) (ran : Ran) : Type 0 where
  pub prelude : SamePrelude sources.prelude ran.prelude
  pub scripts : length ran.scripts.items ≤ length sources.scripts.items

-- files of these names are what the sources spell, and were run so
pub record AreRunSo (setup : Setup) (sources : Program Named) (names : Program FileName) (ran : Ran) : Type
    0 where
  pub named : names ≡ names_in sources
  pub trees : Program Tree
  pub spell : Spell sources trees
  pub program : IsRan setup trees.prelude trees.scripts ran

-- what may become of sources that are run so
abbrev pub HasCauseOf : Setup → Program Named → Verdict → Type 0
HasCauseOf setup sources (Refused name fault) = FirstRefused sources name fault
HasCauseOf setup sources NoMemory = ⊤
HasCauseOf setup sources (WasRun names ran) = AreRunSo setup sources names ran
HasCauseOf setup sources _ = ⊥

-- a call that ended so came to a verdict of this kind, what was written is what is reported of it, and what
-- is kept is what is there
pub record Becomes (Why : Verdict → Type 0) (code : ℕ) (left : Option HeapKept) (old new : Sinks) : Type 0
  where
    pub verdict : Verdict
    pub cause : Why verdict
    pub ending : IsEnd (report_of verdict) code old new
    pub kept : left ≡ kept_of verdict
