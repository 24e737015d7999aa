-- Which files were read, and which one was not. With every answer but that a file can't be read or is too
-- large, no read failed or found too large a file.
use Rattle.std.specs.Prelude.{◌≡◌, ◌≤◌, ⊤, ℕ, List, [], ◌∷◌, ◌++◌, length, Option, None, Some}
use Rattle.run_sources.specs.Texts.{Named}
use Rattle.js_io.specs.Counts.{next_count}
use Rattle.js_io.specs.FilesState.{IsToldAs, IsTooLarge, FilesState}
use Rattle.js_io.specs.declared.files.TheConstants.{FILE_MAX}
use Rattle.run_sources.specs.Program.{FileName, Program}

-- the files are as they were, as far as they are reported, and no count fell
pub record KeepsFiles (old new : FilesState) : Type 0 where
  pub held : (name : FileName) → new.held name ≡ old.held name
  pub faults : old.faults ≤ new.faults
  pub oversize : old.oversize ≤ new.oversize

-- no read failed or found too large a file: both counts, and the blamed name, are as they were
pub record IsQuiet (old new : FilesState) : Type 0 where
  pub calm : new.faults ≡ old.faults
  pub not_large : new.oversize ≡ old.oversize
  pub unblamed : new.blamed ≡ old.blamed

-- the file of this name has these bytes, as far as files are reported. It is not too large: this is what
-- keeps a reported file that is too large from passing for one that was read.
pub record IsSourceRead (held : FileName → Option (List ℕ)) (name : FileName) (source : Named) : Type 0 where
  pub named : source.name ≡ name
  pub tells : IsToldAs (held name) source.text
  pub small : length source.text ≤ FILE_MAX

-- files of these names have these bytes, in order
pub data Read (held : FileName → Option (List ℕ)) : List FileName → List Named → Type 0 where
  none : Read held [] []
  next : (name : FileName) (names : List FileName) (source : Named) (sources : List Named)
      → IsSourceRead held name source → Read held names sources → Read held (name ∷ names) (source ∷ sources)

-- the prelude's file, if there is one
abbrev pub IsPreludeRead : (FileName → Option (List ℕ)) → Option FileName → Option Named → Type 0
IsPreludeRead held None None = ⊤
IsPreludeRead held (Some name) (Some source) = IsSourceRead held name source
IsPreludeRead held _ _ = ⊥

-- all files
pub record AreRead (held : FileName → Option (List ℕ)) (names : Program FileName)
    (sources : Program Named) : Type 0 where
  pub prelude : IsPreludeRead held names.prelude sources.prelude
  pub scripts : Read held names.scripts sources.scripts

-- the files before the one of this name were read
pub record ReadUpTo (held : FileName → Option (List ℕ)) (names : List FileName) (name : FileName) : Type
    0 where
  pub before : List FileName
  pub after : List FileName
  pub sources : List Named
  pub split : names ≡ before ++ name ∷ after
  pub read : Read held before sources

-- one read failed, that of the file of this name, and none found too large a file; all files before it were
-- read
pub record IsUnread (old new : FilesState) (names : List FileName) (name : FileName) : Type 0 where
  pub up_to : ReadUpTo old.held names name
  pub once : new.faults ≡ next_count old.faults
  pub not_large : new.oversize ≡ old.oversize
  pub blames : new.blamed ≡ name

-- no read failed, the file of this name is too large, and all files before it were read
pub record IsLarge (old new : FilesState) (names : List FileName) (name : FileName) : Type 0 where
  pub up_to : ReadUpTo old.held names name
  pub calm : new.faults ≡ old.faults
  pub larger : IsTooLarge (old.held name) old.oversize new.oversize
  pub blames : new.blamed ≡ name
