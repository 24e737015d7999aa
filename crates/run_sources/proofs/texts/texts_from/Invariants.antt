use Rattle.std.proofs.Common.{◌≡◌, ◌∷◌, ◌*◌, codes, map}
use Rattle.run_sources.specs.Draws.{state_after, list_up_to}
use Rattle.run_sources.specs.Texts.{before, named_for, named_script, prelude}
use Rattle.run_sources.proofs.texts.texts_from.Given as goal

abbrev pub invariant-loop-j : goal.invariant-loop-j
invariant-loop-j l = record {
  texts : map named_for l.texts.items ≡ (record { name = codes "gen-prelude"; text = prelude l.fn.n }) ∷ list_up_to (named_script l.fn.n) l.j;
  state : l.draws.state ≡ state_after (128 * l.j) (before l.fn.n 16);
}
