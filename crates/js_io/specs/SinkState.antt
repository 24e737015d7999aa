-- What a sink has received, and how often a write to it failed.
use Rattle.std.specs.Prelude.{◌≡◌, ℕ, ◌≤◌, List, ◌∷◌, ◌++◌, None, Some, Result, OnOk, OnErr}
use Rattle.std.specs.declared.option.Option.{Option}
use Rattle.std.specs.Io.KnownBytes.{Appends}
use Rattle.js_io.specs.Counts.{next_count}

-- a sink at one moment: all bytes that it received where they are reported, and how many writes failed
pub record SinkState : Type 0 where
  pub taken : Option (List ℕ)
  pub faults : ℕ

-- a sink that reports what it received
abbrev pub told_sink : List ℕ → ℕ → SinkState
told_sink bytes faults = record { taken = Some bytes; faults = faults }

-- a sink that reports nothing of it
abbrev pub untold_sink : ℕ → SinkState
untold_sink faults = record { taken = None; faults = faults }

-- the whole is the prefix and at least one byte more
abbrev pub IsProperPrefix : List ℕ → List ℕ → Type 0
IsProperPrefix prefix whole = (byte : ℕ) × (rest : List ℕ) × (whole ≡ prefix ++ byte ∷ rest)

-- the sink received these bytes
abbrev pub TakesBytes : SinkState → SinkState → List ℕ → Type 0
TakesBytes old new bytes = Appends old.taken new.taken bytes

-- the sink received a prefix of these bytes, and not all of them
abbrev pub TakesPrefix : SinkState → SinkState → List ℕ → Type 0
TakesPrefix old new bytes = (prefix : List ℕ) × IsProperPrefix prefix bytes × TakesBytes old new prefix

-- at Ok the sink received all of the bytes and no write failed; at Err it received a prefix of them, and the
-- one write of what was left failed. The count of faults never falls.
pub record WritesAll {E : Type 0} (result : Result Unit E) (old new : SinkState)
    (bytes : List ℕ) : Type 0 where
  pub all : OnOk result (TakesBytes old new bytes)
  pub calm : OnOk result (new.faults ≡ old.faults)
  pub prefix : OnErr result (TakesPrefix old new bytes)
  pub once : OnErr result (new.faults ≡ next_count old.faults)
  pub counted : old.faults ≤ new.faults
