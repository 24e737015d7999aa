-- What the code's sources, scripts and refusals are in these terms.
use Rattle.std.specs.Prelude.{◌≡◌, ◌≤◌, ⊤, ℕ, List, [], Option, None, Some, length, map, option_map}
use Rattle.std.specs.Borrow.{Bor}
use Rattle.std.specs.List.{All}
use Rattle.run_sources.specs.Texts.{Named}
use Rattle.js_io.specs.Counts.{next_count}
use Rattle.js_io.specs.FilesState.{FilesState, IsTooLarge}
use Rattle.js_io.specs.declared.files.TheConstants.{FILE_MAX}
use Rattle.js_parse.specs.declared.fault.Role.{Role}
use Rattle.js_parse.specs.declared.fault.Role.TheVariants as role
use Rattle.js_parse.specs.Spells as script
use Rattle.eval_tree.specs.Tree.{Tree, tree_of}
use Rattle.run_sources.specs.declared.sources.SourceText.{SourceText}
use Rattle.run_sources.specs.declared.sources.Sources.{Sources}
use Rattle.run_sources.specs.declared.sources.Scripts.{Scripts}
use Rattle.run_sources.specs.declared.stop.ScriptsFault.{ScriptsFault}
use Rattle.run_sources.specs.declared.stop.ScriptsFault.TheVariants as stop
use Rattle.run_sources.specs.Program.{FileName, Program}
use Rattle.run_sources.specs.Reading.{IsQuiet, IsUnread, IsLarge}
use Rattle.run_sources.specs.Spelling.{FirstAmong, FirstRefused}

-- the names of a prelude or none and of scripts
abbrev pub names_for : Option (Bor (List ℕ)) → List (Bor (List ℕ)) → Program FileName
names_for prelude scripts =
    record { prelude = option_map (λ n. n.now) prelude; scripts = map (λ n. n.now) scripts }

abbrev pub source_for : SourceText → Named
source_for source = record { name = source.name.now; text = source.bytes.items }

abbrev pub sources_for : Sources → Program Named
sources_for sources =
    record { prelude = option_map source_for sources.prelude; scripts = map source_for sources.scripts.items }

abbrev pub trees_for : Scripts → Program Tree
trees_for scripts =
    record { prelude = option_map tree_of scripts.prelude; scripts = map tree_of scripts.scripts.items }

-- a source that isn't too long to be parsed
abbrev pub IsShort : Named → Type 0
IsShort source = length source.text ≤ FILE_MAX

abbrev pub IsPreludeShort : Option Named → Type 0
IsPreludeShort None = ⊤
IsPreludeShort (Some source) = IsShort source

pub record AreShort (sources : Program Named) : Type 0 where
  pub prelude : IsPreludeShort sources.prelude
  pub scripts : All IsShort sources.scripts

-- the reads before this one were quiet and this one was not; or memory ran out
abbrev pub RefusesFile : FilesState → FilesState → List FileName → ScriptsFault → Type 0
RefusesFile old new names (stop.NotRead name) = IsUnread old new names name.now
RefusesFile old new names (stop.TooLarge name) = IsLarge old new names name.now
RefusesFile old new names stop.NoMemory = IsQuiet old new
RefusesFile old new names _ = ⊥

-- the first source that is no script, for this fault; or memory ran out
abbrev pub RefusesScript : Program Named → ScriptsFault → Type 0
RefusesScript sources (stop.Refused name fault) = FirstRefused sources name.now fault
RefusesScript sources stop.NoMemory = ⊤
RefusesScript sources _ = ⊥

-- ---- of parts. No public contract cites these.

-- this read failed or found too large a file, and no other did; or memory ran out
abbrev pub RefusesRead : FilesState → FilesState → FileName → ScriptsFault → Type 0
RefusesRead old new name (stop.NotRead blamed) = (blamed.now ≡ name) × (new.faults ≡ next_count old.faults)
    × (new.oversize ≡ old.oversize) × (new.blamed ≡ name)
RefusesRead old new name (stop.TooLarge blamed) = (blamed.now ≡ name) × (new.faults ≡ old.faults)
    × IsTooLarge (old.held name) old.oversize new.oversize × (new.blamed ≡ name)
RefusesRead old new name stop.NoMemory = IsQuiet old new
RefusesRead old new name _ = ⊥

-- there is a prelude, and its read was refused
abbrev pub RefusesPrelude : FilesState → FilesState → Option FileName → ScriptsFault → Type 0
RefusesPrelude old new None s = ⊥
RefusesPrelude old new (Some name) s = RefusesRead old new name s

-- the source is no script, for this fault; or memory ran out
abbrev pub RefusesText : Role → List (List ℕ) → Named → ScriptsFault → Type 0
RefusesText r outer source (stop.Refused refused fault) =
    (refused.now ≡ source.name) × script.Refused r outer source.text fault
RefusesText r outer source stop.NoMemory = ⊤
RefusesText r outer source _ = ⊥

-- there is a prelude, and it is refused
abbrev pub RefusesPreludeText : Option Named → ScriptsFault → Type 0
RefusesPreludeText None s = ⊥
RefusesPreludeText (Some source) s = RefusesText role.Prelude [] source s

-- the first of the scripts that is none, or out of memory
abbrev pub RefusesAmong : List (List ℕ) → List Named → ScriptsFault → Type 0
RefusesAmong outer sources (stop.Refused name fault) = FirstAmong outer name.now fault sources
RefusesAmong outer sources stop.NoMemory = ⊤
RefusesAmong outer sources _ = ⊥
