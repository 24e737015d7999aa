use Rattle.std.proofs.Common.{◌∙◌, ap, sym, rules}
use Rattle.std.proofs.lemmas.Map.Iter.{rest_more}
use Rattle.std.specs.Map.Iter.{deref_pair}
use Rattle.std.specs.Option.{option_copied}
use Rattle.heap_rule.specs.Learning.{by_thin}
use Rattle.heap_core_views.proofs.Searches.{seek_start, seek_next}
use Rattle.heap_core_views.proofs.learning.by_thins.Goals as goal

pub loop-other-init : goal.loop-other-init
loop-other-init c = seek_start (by_thin c.args.view.now c.args.id) c.args.view.now.forms c.into_iter-other-iterator.result (search rules) c.iter-other-items.ensures.found

pub loop-other-preserved : goal.loop-other-preserved
loop-other-preserved c = seek_next (by_thin c.args.view.now c.args.id) c.args.view.now.forms c.loop-other.other-iterator c.next.new.self
    c.in-Some.other.now c.in-Some.form.now (rest_more deref_pair c.loop-other.other-iterator c.next.new.self c.next.result
    (c.in-Some.other, c.in-Some.form) c.in-Some.is c.next.ensures.steps)
    (sym c.by_thin.ensures ∙ ap option_copied c.in_default.is) c.loop-other.invariant
