-- Which sources spell which scripts, and which one is the first that spells none.
use Rattle.std.specs.Prelude.{◌≡◌, ⊤, ℕ, List, [], ◌∷◌, Option, None, Some}
use Rattle.run_sources.specs.Texts.{Named}
use Rattle.js_parse.specs.declared.fault.Role.TheVariants as role
use Rattle.js_parse.specs.declared.fault.ParseFault.{ParseFault}
use Rattle.js_parse.specs.Spells as script
use Rattle.eval_tree.specs.Tree.{Tree}
use Rattle.run_sources.specs.Program.{FileName, Program, outer_of}

-- the prelude's source spells this prelude; without one there is no tree
abbrev pub SpellsPrelude : Option Named → Option Tree → Type 0
SpellsPrelude None None = ⊤
SpellsPrelude (Some source) (Some tree) = script.Spells role.Prelude [] source.text tree
SpellsPrelude _ _ = ⊥

-- after a prelude that declares the outer names, the sources spell these scripts, in order
pub data AllSpell (outer : List (List ℕ)) : List Named → List Tree → Type 0 where
  none : AllSpell outer [] []
  next : (source : Named) (sources : List Named) (tree : Tree) (trees : List Tree)
      → script.Spells role.Main outer source.text tree → AllSpell outer sources trees
      → AllSpell outer (source ∷ sources) (tree ∷ trees)

-- all sources spell these trees: the scripts after the names that the prelude declares
pub record Spell (sources : Program Named) (trees : Program Tree) : Type 0 where
  pub prelude : SpellsPrelude sources.prelude trees.prelude
  pub scripts : AllSpell (outer_of trees.prelude) sources.scripts trees.scripts

-- after a prelude that declares the outer names, the first of the sources that spells no script is that of
-- this name, for this fault
pub data FirstAmong (outer : List (List ℕ)) (name : FileName) (fault : ParseFault) : List Named → Type 0 where
  here : (source : Named) (sources : List Named) → source.name ≡ name
      → script.Refused role.Main outer source.text fault → FirstAmong outer name fault (source ∷ sources)
  later : (source : Named) (sources : List Named) (tree : Tree)
      → script.Spells role.Main outer source.text tree
      → FirstAmong outer name fault sources → FirstAmong outer name fault (source ∷ sources)

-- the first of all sources that spells no prelude or script, the prelude before the scripts, is that of this
-- name, for this fault
pub data FirstRefused (sources : Program Named) (name : FileName) (fault : ParseFault) : Type 0 where
  of_prelude : (source : Named) → sources.prelude ≡ Some source → source.name ≡ name
      → script.Refused role.Prelude [] source.text fault → FirstRefused sources name fault
  of_script : (prelude : Option Tree) → SpellsPrelude sources.prelude prelude
      → FirstAmong (outer_of prelude) name fault sources.scripts → FirstRefused sources name fault
