use Rattle.c_steps.proofs.Texts.{is_some}
use Rattle.c_steps.proofs.builder.JsBuilder.spend.Goals as goal

pub take-text-requires : goal.take-text-requires
take-text-requires c = let it = c.args.self.now in is_some it.at.value it.live it.len c.requires.text c.if-self-eq0.false
