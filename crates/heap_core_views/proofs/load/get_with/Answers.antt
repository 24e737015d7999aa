use Rattle.std.proofs.Common.{◌∙◌, ap, sym}
use Rattle.std.specs.FinMap.{get, insert}
use Rattle.heap_rule.proofs.MapLemmas.{insert_same, insert_other}
use Rattle.heap_core_views.proofs.load.get_with.Goals as goal

pub returns-then-key-at : goal.returns-then-key-at
returns-then-key-at g c = sym (ap (get (insert c.args.map.now c.args.at c.args.value)) c.if-key-at.true ∙ insert_same c.args.map.now c.args.at c.args.value)

pub returns : goal.returns
returns g c = c.get_copy.ensures ∙ sym (insert_other c.args.map.now c.args.at c.args.key c.args.value c.if-key-at.false)
