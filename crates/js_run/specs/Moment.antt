-- The files and both sinks at one moment, and a call between two moments.
use Rattle.std.specs.Prelude.{ℕ, List, Option}
use Rattle.js_io.specs.FilesState.{FilesState}
use Rattle.js_io.specs.SinkState.{SinkState}
use Rattle.js_io.specs.Report.{Sinks, sinks}
use Rattle.run_program.specs.Kept.{HeapKept}
use Rattle.js_run.specs.declared.status.Status.{Status}

-- the files and the sinks before a call, or after it
pub record Moment : Type 0 where
  pub files : FilesState
  pub sinks : Sinks

-- a moment of these files and sinks
abbrev pub moment : FilesState → SinkState → SinkState → Moment
moment files out err = record { files = files; sinks = sinks out err }

-- a call: the words of the command line, the status and what is kept, and the moments before and after it
pub record Call : Type 0 where
  pub words : List (List ℕ)
  pub code : ℕ
  pub kept : Option HeapKept
  pub old : Moment
  pub new : Moment

-- the call that ended so
abbrev pub call : List (List ℕ) → Status → Moment → Moment → Call
call words status old new =
    record { words = words; code = status.code; kept = status.kept; old = old; new = new }
