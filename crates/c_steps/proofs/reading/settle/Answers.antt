use Rattle.std.proofs.Common.{Some, ap, refl}
use Rattle.c_steps.specs.declared.answer.JsAnswer.{JsAnswer}
use Rattle.c_steps.proofs.Settled.{held_refuses, held_settles, never_done}
use Rattle.c_steps.proofs.reading.settle.Goals as goal

pub returns-in-Ok-clause-settles : goal.returns-in-Ok-clause-settles
returns-in-Ok-clause-settles c = let i = c.in-Ok.ensures in record {
  told = c.of_text.ensures.told;
  done = λ e. (
    c.of_text.ensures.value,
    held_settles c.args.agent.now.at.value (Some c.settle-answer.new.agent) c.held.result.now c.settle-answer.new.agent c.args.s
        c.held.ensures.value refl i.leaves tt i.marked i.settles,
  );
  refused = λ n. absurd (n (ap (λ (a : JsAnswer). a.status) c.of_text.ensures.value));
}

pub returns-in-Err-clause-settles : goal.returns-in-Err-clause-settles
returns-in-Err-clause-settles c = let i = c.in-Err.ensures in let told = c.of_text-in-Err in record {
  told = told.ensures.told;
  done = λ e. absurd (never_done c.in-Err.full told.result told.ensures.value e);
  refused = λ n. held_refuses c.args.agent.now.at.value (Some c.settle-answer.new.agent) c.held.result.now c.settle-answer.new.agent c.args.s
      c.held.ensures.value refl i.leaves c.in-Err.full told.result told.ensures.value c.requires.known i.marked i.settles;
}
