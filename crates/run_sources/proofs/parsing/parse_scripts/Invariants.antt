use Rattle.std.proofs.Common.{map, take}
use Rattle.eval_tree.specs.Tree.{tree_of}
use Rattle.run_sources.specs.Answers.{source_for}
use Rattle.run_sources.specs.Spelling.{AllSpell}
use Rattle.run_sources.proofs.parsing.parse_scripts.Given as goal

-- the texts so far spell these scripts
abbrev pub invariant-loop-source : goal.invariant-loop-source
invariant-loop-source l = record {
  spell : AllSpell l.outer (map source_for (take l.source-index l.sources)) (map tree_of l.scripts.items);
}
