use Rattle.std.proofs.Common.{ap, ◌∙◌}
use Rattle.js_store.specs.State.{text}
use Rattle.js_store.proofs.Laws.{text_still}
use Rattle.js_methods.specs.Testing.{all_paired}
use Rattle.js_methods.proofs.Pairs.{is_kept}
use Rattle.js_methods.proofs.testing.is_well_formed.Goals as goal

pub returns-clause-unchanged : goal.returns-clause-unchanged
returns-clause-unchanged g c =
    let same = text_still c.settle.ensures.uses.step.grows (g.S.Strings.number c.args.s) c.requires.known in
    is_kept (text (g.S.Strings.state c.args.store.now) (g.S.Strings.number c.args.s)) c.has_pairs_alone.result (c.has_pairs_alone.ensures.value ∙ ap all_paired same)
