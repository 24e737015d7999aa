-- What is reported of a call: its status, and what two sinks receive.
use Rattle.std.specs.Prelude.{◌≡◌, ◌⊎◌, ℕ, ◌≤◌, List, []}
use Rattle.js_io.specs.Counts.{next_count}
use Rattle.js_io.specs.SinkState.{SinkState, TakesBytes, TakesPrefix}

-- what both sinks have received, and how many of their writes failed
pub record Sinks : Type 0 where
  pub out : SinkState
  pub err : SinkState

abbrev pub sinks : SinkState → SinkState → Sinks
sinks out err = record { out = out; err = err }

-- what is reported of a call
pub data Report : Type 0 where
  -- nothing was run: a status, and a line for err
  Refusal : (status : ℕ) (line : List ℕ) → Report
  -- a status, the bytes for out and those for err
  Printed : (status : ℕ) (written : List ℕ) (told : List ℕ) → Report

-- the sink received all of these bytes, and no write failed
pub record TakesAll (old new : SinkState) (bytes : List ℕ) : Type 0 where
  pub took : TakesBytes old new bytes
  pub calm : new.faults ≡ old.faults

-- the sink received a prefix of these bytes, and then a write failed, the last one
pub record TakesUntil (old new : SinkState) (bytes : List ℕ) : Type 0 where
  pub took : TakesPrefix old new bytes
  pub once : new.faults ≡ next_count old.faults
  pub counted : old.faults ≤ new.faults

-- nothing was run: out receives nothing, a line is reported, and a write that fails there changes no status
pub record IsTold (wanted : ℕ) (line : List ℕ) (code : ℕ) (old new : Sinks) : Type 0 where
  pub status : code ≡ wanted
  pub silent : TakesAll old.out new.out []
  pub told : TakesAll old.err new.err line ⊎ TakesUntil old.err new.err line

-- everything was written
pub record IsAllWritten (wanted : ℕ) (written told : List ℕ) (code : ℕ) (old new : Sinks) : Type 0 where
  pub status : code ≡ wanted
  pub out : TakesAll old.out new.out written
  pub err : TakesAll old.err new.err told

-- a write to out failed, and nothing more was written
pub record IsCutAtOut (written : List ℕ) (code : ℕ) (old new : Sinks) : Type 0 where
  pub status : code ≡ 7
  pub out : TakesUntil old.out new.out written
  pub err : TakesAll old.err new.err []

-- out received everything, a write to err failed, and nothing more was written
pub record IsCutAtErr (written told : List ℕ) (code : ℕ) (old new : Sinks) : Type 0 where
  pub status : code ≡ 7
  pub out : TakesAll old.out new.out written
  pub err : TakesUntil old.err new.err told

-- the status and the sinks are those of the report; where a write failed, what was written ends there, and
-- the status of a run is 7
abbrev pub IsEnd : Report → ℕ → Sinks → Sinks → Type 0
IsEnd (Refusal status line) code old new = IsTold status line code old new
IsEnd (Printed status written told) code old new = IsAllWritten status written told code old new
    ⊎ (IsCutAtOut written code old new ⊎ IsCutAtErr written told code old new)
