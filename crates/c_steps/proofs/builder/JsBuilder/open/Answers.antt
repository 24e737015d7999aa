use Rattle.c_steps.proofs.Texts.{is_some}
use Rattle.c_steps.proofs.builder.JsBuilder.open.Goals as goal

pub take-requires : goal.take-requires
take-requires c = let it = c.args.self.now in is_some it.at.value it.live it.len c.requires c.if-self-eq0.false
