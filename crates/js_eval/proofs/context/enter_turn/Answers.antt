use Rattle.std.proofs.Common.{ap}
use Rattle.eval_scopes.specs.Seen.{bindings_of}
use Rattle.js_eval.specs.Seen.{bindings_seen}
use Rattle.js_eval.proofs.Kept.{turned_fine}
use Rattle.js_eval.proofs.context.enter_turn.Goals as goal

pub returns-in-Ok-clause-context : goal.returns-in-Ok-clause-context
returns-in-Ok-clause-context g c = record {
  literals = c.requires.context.literals;
  bindings = rw c.in-Ok.ensures.entered (turned_fine (g.S.Strings.state c.args._store.now) g.S.Strings.number c.args.name.now c.args.value
      (bindings_of c.args.context.now.scope) c.requires.value c.requires.context.bindings);
}

pub returns-in-Ok-clause-entered : goal.returns-in-Ok-clause-entered
returns-in-Ok-clause-entered g c = ap (λ q. bindings_seen (g.S.Strings.state c.args._store.now) g.S.Strings.number q) c.in-Ok.ensures.entered

pub returns-in-Err-clause-context : goal.returns-in-Err-clause-context
returns-in-Err-clause-context g c = record {
  literals = c.requires.context.literals;
  bindings = rw c.in-Err.ensures.refused c.requires.context.bindings;
}
