use Rattle.std.proofs.Common.{◌≡◌, map, take}
use Rattle.run_sources.specs.Texts.{named_for}
use Rattle.run_sources.specs.Answers.{source_for}
use Rattle.run_sources.proofs.making.made_scripts.Given as goal

abbrev pub invariant-loop-text : goal.invariant-loop-text
invariant-loop-text l = record {
  made : map source_for l.sources.items ≡ map named_for (take l.text-index l.texts);
}
