-- A prelude or none, and scripts: by the names of their files, by their bytes, or by their trees.
use Rattle.std.specs.Prelude.{ℕ, List, [], ◌∷◌, ◌++◌, Option, None, Some, option_to_list}
use Rattle.run_sources.specs.Texts.{Named}
use Rattle.std.specs.Option.{option_map_or}
use Rattle.eval_tree.specs.Tree.{Tree}

-- an argument that names a file, by its bytes
abbrev pub FileName : Type 0
FileName = List ℕ

-- a prelude or none, and scripts in the order of the arguments
pub record Program (T : Type 0) : Type 0 where
  pub prelude : Option T
  pub scripts : List T

-- the prelude, if there is one, and then the scripts
abbrev pub in_order : {T : Type 0} → Program T → List T
in_order program = option_to_list program.prelude ++ program.scripts

-- sources of which the first is the prelude
abbrev pub program_from : List Named → Program Named
program_from [] = record { prelude = None; scripts = [] }
program_from (prelude ∷ scripts) = record { prelude = Some prelude; scripts = scripts }

-- the names that the prelude declares at its top; none without a prelude
abbrev pub outer_of : Option Tree → List (List ℕ)
outer_of prelude = option_map_or (λ tree. tree.top) prelude []
