use Rattle.std.proofs.Common.{◌∙◌}
use Rattle.heap_core_views.proofs.FrozenWords.{load_by}
use Rattle.heap_core_views.proofs.learning.may_load_word.Goals as goal

pub returns : goal.returns
returns c = load_by c.args.view.now c.args.at c.contains_key.result c.contains_key-2.result c.is_spanned.result c.if-contains_key.false
    c.if-contains_key-2.false (λ h. c.contains_key.ensures ∙ h) (λ h. c.contains_key-2.ensures ∙ h) c.is_spanned.ensures
