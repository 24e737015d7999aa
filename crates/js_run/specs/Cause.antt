-- Why a call has its verdict. With every verdict but that a file can't be read or is too large, no read
-- failed or found too large a file.
use Rattle.std.specs.Prelude.{◌≡◌, None, Some, map, option_map}
use Rattle.run_sources.specs.Texts.{Named}
use Rattle.eval_tree.specs.Tree.{Tree}
use Rattle.run_command.specs.Words.{Request, request_of}
use Rattle.run_sources.specs.Program.{FileName, Program, in_order}
use Rattle.run_sources.specs.Reading.{IsQuiet, IsUnread, IsLarge}
use Rattle.run_sources.specs.Spelling.{Spell, FirstRefused}
use Rattle.run_program.specs.declared.ran.Ran.{Ran}
use Rattle.run_program.specs.Ran.{IsRan}
use Rattle.js_run.specs.Asked.{AreTexts, names_of, setup_of}
use Rattle.js_run.specs.Moment.{Call}
use Rattle.js_run.specs.Verdict.{Verdict, BadWords, NotRead, TooLarge, Refused, NoMemory, WasRun}

-- the names of these sources
abbrev pub names_in : Program Named → Program FileName
names_in sources =
    record { prelude = option_map (λ s. s.name) sources.prelude; scripts = map (λ s. s.name) sources.scripts }

-- the arguments are valid, and these are the files, all of which were read, or the sources that were
-- generated
pub record WereRead (c : Call) : Type 0 where
  pub request : Request
  pub lawful : request_of c.words ≡ Some request
  pub sources : Program Named
  pub texts : AreTexts request.asked c.old.files.held sources
  pub quiet : IsQuiet c.old.files c.new.files

-- files of these names were read or generated, spell a program, and were run
pub record IsRun (c : Call) (names : Program FileName) (ran : Ran) : Type 0 where
  pub read : WereRead c
  pub named : names ≡ names_in read.sources
  pub trees : Program Tree
  pub spell : Spell read.sources trees
  pub program : IsRan (setup_of read.request) trees.prelude trees.scripts ran

-- the verdict has its cause
abbrev pub HasCause : Call → Verdict → Type 0
HasCause c BadWords = (request_of c.words ≡ None) × IsQuiet c.old.files c.new.files
HasCause c NoMemory = IsQuiet c.old.files c.new.files
HasCause c (NotRead name) = (request : Request) × (request_of c.words ≡ Some request)
    × IsUnread c.old.files c.new.files (in_order (names_of request.asked)) name
HasCause c (TooLarge name) = (request : Request) × (request_of c.words ≡ Some request)
    × IsLarge c.old.files c.new.files (in_order (names_of request.asked)) name
HasCause c (Refused name fault) = (read : WereRead c) × FirstRefused read.sources name fault
HasCause c (WasRun names ran) = IsRun c names ran
