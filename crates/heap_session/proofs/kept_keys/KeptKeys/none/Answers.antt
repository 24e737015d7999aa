use Rattle.heap_intern.proofs.KeptKeys.{keys_none}
use Rattle.heap_session.proofs.kept_keys.KeptKeys.none.Goals as goal

pub returns : goal.returns
returns c v = keys_none v 64 c.none.result c.none.ensures
