use Rattle.std.proofs.Common.{◌∙◌, ap, length}
use Rattle.heap_rule.proofs.CallLists.{continues_by}
use Rattle.heap_rule.proofs.maps.History.continues.Goals as goal

pub returns : goal.returns
returns c = continues_by c.args.self.now c.args.later.now c.args.front.now c.as_slice.result.now c.as_slice-2.result.now
    (length c.as_slice-3.result.now) c.begins_with.result (c.as_slice.ensures.value ∙ c.later.view_is)
    (c.as_slice-2.ensures.value ∙ c.front.view_is) (ap length (c.as_slice-3.ensures.value ∙ c.self.view_is)) c.requires c.begins_with.ensures
