use Rattle.eval_scopes.proofs.Places.{put_is}
use Rattle.eval_scopes.proofs.binding_list.set_value.Goals as goal

pub returns : goal.returns
returns g c = put_is c.args.bound.now.items c.args.index c.args.value c.index_mut.result.now c.requires c.index_mut.ensures.value
