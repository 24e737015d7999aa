-- Each status by itself: when it comes, what was written then, and what is kept. All of it follows from the
-- outcome.
use Rattle.std.specs.Prelude.{◌≡◌, ◌⊎◌, ◌↔◌, ℕ, ◌-◌, ◌^◌, ◌≤◌, ◌<◌, List, [], ◌∷◌, ◌++◌, length, Option, None}
use Rattle.std.specs.Prelude.{Some}
use Rattle.run_sources.specs.Texts.{Named}
use Rattle.js_io.specs.declared.files.TheConstants.{FILE_MAX}
use Rattle.js_parse.specs.declared.fault.ParseFault.{ParseFault}
use Rattle.eval_tree.specs.Tree.{Tree}
use Rattle.js_texts.specs.Texts.{Every}
use Rattle.js_store.specs.State.{State}
use Rattle.js_store.specs.declared.faults.FullReport.{FullReport}
use Rattle.js_eval.specs.declared.ending.End.TheVariants.{Done, Full, Memory}
use Rattle.js_eval.specs.Script.{Flow}
use Rattle.run_program.specs.Jobs.{RunFile, Broken}
use Rattle.run_program.specs.Fits.{Fits}
use Rattle.run_program.specs.Tells.{RanOut}
use Rattle.run_command.specs.Words.{Request, request_of}
use Rattle.run_sources.specs.Program.{FileName, Program, in_order}
use Rattle.run_sources.specs.Reading.{IsQuiet}
use Rattle.run_sources.specs.Spelling.{Spell, FirstRefused}
use Rattle.run_program.specs.declared.ran.Ran.{Ran}
use Rattle.run_program.specs.Ran.{IsRan, setup_sizes, state_kept}
use Rattle.js_run.specs.Asked.{AreTexts, names_of, setup_of}
use Rattle.js_run.specs.Meant.{all_flows, status_meant, out_meant, ends_meant}
use Rattle.js_run.specs.Verdict.{WasRun, Refused, report_of, status_of, ends_of, out_of, err_of}
use Rattle.js_run.specs.Verdict.{memory_line, end_lines, Verdict, NotRead, TooLarge}
use Rattle.js_run.specs.Moment.{Call}
use Rattle.js_run.specs.Cause.{IsRun, names_in, HasCause}
use Rattle.js_io.specs.Report.{TakesAll, IsTold, IsCutAtOut, IsCutAtErr, IsEnd, Printed, Refusal}

-- no fault was counted, and the count isn't the last value of its counter
abbrev pub NoFault : ℕ → ℕ → Type 0
NoFault before after = (after ≤ before) × (after ≡ 2 ^ 64 - 1 → ⊥)

-- Out of memory before anything was run: out received nothing, err its line or a prefix of it, nothing is
-- kept, and no read failed. This is the one free answer.
pub record IsWant (c : Call) : Type 0 where
  pub told : IsTold 6 memory_line c.code c.old.sinks c.new.sinks
  pub kept : c.kept ≡ None
  pub quiet : IsQuiet c.old.files c.new.files

-- ---- 3

-- the contents of the files of these names are reported
abbrev pub AreTold : (FileName → Option (List ℕ)) → List FileName → Type 0
AreTold held names = Every (λ name. (bytes : List ℕ) × (held name ≡ Some bytes)) names

-- a file wasn't read, the one that is blamed: its read failed, or it is too large. All before it were read.
abbrev pub IsFileFault : Call → Type 0
IsFileFault c = HasCause c (NotRead c.new.files.blamed) ⊎ HasCause c (TooLarge c.new.files.blamed)

-- no read failed, and a file is reported to have more bytes than a file may have
pub record IsToldLarge (c : Call) : Type 0 where
  pub request : Request
  pub lawful : request_of c.words ≡ Some request
  pub before : List FileName
  pub name : FileName
  pub after : List FileName
  pub split : in_order (names_of request.asked) ≡ before ++ name ∷ after
  pub bytes : List ℕ
  pub is : c.old.files.held name ≡ Some bytes
  pub larger : FILE_MAX < length bytes
  pub calm : NoFault c.old.files.faults c.new.files.faults

-- ---- 4

-- all files were read or the sources were generated, and one of them is the first that spells no script
abbrev pub IsNoScript : Call → Type 0
IsNoScript c = (name : FileName) × (fault : ParseFault) × HasCause c (Refused name fault)

-- the arguments are valid, all files are reported and not too large, and no read failed; the sources
pub record AreGiven (c : Call) : Type 0 where
  pub request : Request
  pub lawful : request_of c.words ≡ Some request
  pub sources : Program Named
  pub texts : AreTexts request.asked c.old.files.held sources
  pub told : AreTold c.old.files.held (in_order (names_of request.asked))
  pub calm : NoFault c.old.files.faults c.new.files.faults

-- one of the sources is the first that spells no script
pub record IsToldRefused (c : Call) : Type 0 where
  pub given : AreGiven c
  pub name : FileName
  pub fault : ParseFault
  pub first : FirstRefused given.sources name fault

-- ---- 2, 3 and 4

-- the statuses of what isn't run, unless memory runs out
abbrev pub HasRefusalStatus : ℕ → Type 0
HasRefusalStatus code = (code ≡ 2) ⊎ ((code ≡ 3) ⊎ (code ≡ 4))

-- A verdict that has its cause is a refusal of this status, by a line: out received nothing, and err the
-- line; or, where a write to err failed, a prefix of it. Nothing is kept.
pub record IsRefusalTold (c : Call) : Type 0 where
  pub verdict : Verdict
  pub cause : HasCause c verdict
  pub line : List ℕ
  pub is : report_of verdict ≡ Refusal c.code line
  pub told : IsTold c.code line c.code c.old.sinks c.new.sinks
  pub kept : c.kept ≡ None

-- ---- 0, 1, 5, 6 and 7

-- A program was run on the heap that is kept: all files were read or the sources were generated, and they
-- spell it. What each file's end and lines are by its meaning, and what the heap holds, is in `came`.
pub record HasRun (c : Call) : Type 0 where
  pub names : Program FileName
  pub ran : Ran
  pub came : IsRun c names ran
  pub kept : c.kept ≡ Some ran.kept

-- The program was run, the status is that of the first file that didn't end Done, and all was written: out
-- received exactly what the scripts printed, with the line `interned N` where it is asked for, and err the
-- lines of the files that didn't end Done.
pub record HasPrinted (c : Call) (status : ℕ) : Type 0 where
  pub run : HasRun c
  pub ends : status_of (ends_of run.ran) ≡ status
  pub out : TakesAll c.old.sinks.out c.new.sinks.out (out_of run.ran)
  pub err : TakesAll c.old.sinks.err c.new.sinks.err (err_of run.names run.ran)

-- the same where every file ended Done, which is status 0: all as it is meant, and err received nothing
pub record PrintsAll (c : Call) : Type 0 where
  pub prints : HasPrinted c 0
  pub meant : status_meant prints.run.came.read.request prints.run.came.trees ≡ 0
  pub out : TakesAll c.old.sinks.out c.new.sinks.out
      (out_meant prints.run.came.read.request prints.run.came.trees prints.run.ran.interned)
  pub err : TakesAll c.old.sinks.err c.new.sinks.err []

-- the same where the first file that didn't end Done threw or is unsupported: it is also the first that isn't
-- meant to end Done
pub record PrintsEarly (c : Call) : Type 0 where
  pub prints : HasPrinted c 1
  pub meant : status_meant prints.run.came.read.request prints.run.came.trees ≡ 1

-- the first of some files that didn't end Done ended Full, where what it reports had run out
pub record FirstFull {F : Type 0} (s : State F) (means : List Flow) (files : List RunFile) : Type 0 where
  pub before : List RunFile
  pub file : RunFile
  pub after : List RunFile
  pub split : files ≡ before ++ file ∷ after
  pub done : Every (λ f. f.outcome.end ≡ Done) before
  pub report : FullReport
  pub full : file.outcome.end ≡ Full report
  pub broken : Broken (RanOut s means file report) file.mean file.outcome.lines file.part

-- the same where the first file that didn't end Done ended Full: the heap was full, and the stated needs
-- didn't fit
pub record PrintsFull (c : Call) : Type 0 where
  pub prints : HasPrinted c 5
  pub full : FirstFull (state_kept (setup_of prints.run.came.read.request) prints.run.ran.kept)
      (all_flows prints.run.came.read.request prints.run.came.trees) prints.run.came.program.files

-- the program was run, and a write failed: one to out after a prefix of what it prints, and err received
-- nothing; or one to err
pub record IsCutShort (c : Call) : Type 0 where
  pub run : HasRun c
  pub cut : IsCutAtOut (out_of run.ran) c.code c.old.sinks c.new.sinks
      ⊎ IsCutAtErr (out_of run.ran) (err_of run.names run.ran) c.code c.old.sinks c.new.sinks

-- ---- honest files

-- the arguments are valid, all files are reported and not too large, no read failed, and the sources spell a
-- program
pub record IsHonest (c : Call) : Type 0 where
  pub given : AreGiven c
  pub trees : Program Tree
  pub spell : Spell given.sources trees

-- The program was run, and all was written, or a write failed. Where the stated needs fit the heap and memory
-- ran out for no file, what is reported is what is meant.
pub record IsRanTo (c : Call) (honest : IsHonest c) : Type 0 where
  pub ran : Ran
  pub program : IsRan (setup_of honest.given.request) honest.trees.prelude honest.trees.scripts ran
  pub end : IsEnd (report_of (WasRun (names_in honest.given.sources) ran)) c.code c.old.sinks c.new.sinks
  pub kept : c.kept ≡ Some ran.kept
  pub complete : Fits (setup_sizes (setup_of honest.given.request))
      (all_flows honest.given.request honest.trees)
      → Every (λ e. e ≡ Memory → ⊥) (ends_of ran)
      → report_of (WasRun (names_in honest.given.sources) ran)
      ≡ Printed (status_meant honest.given.request honest.trees)
      (out_meant honest.given.request honest.trees ran.interned)
      (end_lines (in_order (names_in honest.given.sources))
      (ends_meant (all_flows honest.given.request honest.trees)))

-- ---- all of it

-- each status, where memory didn't run out before anything was run
pub record HasRows (c : Call) : Type 0 where
  -- 2 comes exactly where the arguments aren't valid
  pub words : (c.code ≡ 2) ↔ (request_of c.words ≡ None)
  -- with 3 a file wasn't read; with every other status no read failed
  pub read : c.code ≡ 3 → IsFileFault c
  pub quiet : (c.code ≡ 3 → ⊥) → IsQuiet c.old.files c.new.files
  pub large : IsToldLarge c → c.code ≡ 3
  -- with 4 a source is no script
  pub script : c.code ≡ 4 → IsNoScript c
  pub no_script : IsToldRefused c → c.code ≡ 4
  -- what 2, 3 and 4 write
  pub told : HasRefusalStatus c.code → IsRefusalTold c
  -- with 6 memory ran out while the first file ran that didn't end Done
  pub memory : c.code ≡ 6 → HasPrinted c 6
  -- what the others write
  pub print : c.code ≡ 0 → PrintsAll c
  pub early : c.code ≡ 1 → PrintsEarly c
  pub full : c.code ≡ 5 → PrintsFull c
  pub write : c.code ≡ 7 → IsCutShort c
  pub honest : (honest : IsHonest c) → IsRanTo c honest

-- memory ran out before anything was run, or each status has its row
abbrev pub EachStatus : Call → Type 0
EachStatus c = IsWant c ⊎ HasRows c
