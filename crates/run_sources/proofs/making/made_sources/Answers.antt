use Rattle.std.proofs.Common.{rules, ◌<◌, length, map, subst}
use Rattle.run_sources.specs.Texts.{named_for}
use Rattle.run_sources.specs.Answers.{AreShort, source_for}
use Rattle.run_sources.proofs.Stages.{small_short}
use Rattle.run_sources.proofs.Turns.{begun}
use Rattle.run_sources.proofs.making.made_sources.Goals as goal

pub returns-clause-short : goal.returns-clause-short
returns-clause-short c =
    let texts = c.args.texts.now in
    let some : 0 < length c.args.texts.now = search rules in
    let made = begun texts c.index-texts-0.result (source_for c.in_ok-prelude.prelude) (map source_for c.in_ok-scripts.scripts.items) some
    c.index-texts-0.is c.in_ok-prelude.ensures c.in_ok-scripts.ensures in
    subst AreShort made (small_short (map named_for texts) c.requires)
