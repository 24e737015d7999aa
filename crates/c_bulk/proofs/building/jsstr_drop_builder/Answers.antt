use Rattle.c_steps.proofs.Texts.{is_some}
use Rattle.c_bulk.proofs.building.jsstr_drop_builder.Goals as goal

pub take-requires : goal.take-requires
take-requires c = let it = c.args.text.now in is_some it.at.value it.live it.len c.requires c.if-text-eq0.false
