use Rattle.eval_scopes.specs.Bindings.{meant}
use Rattle.js_eval.specs.Seen.{context_bindings}
use Rattle.js_eval.proofs.AtHand.{looked}
use Rattle.js_eval.proofs.Leaves.{tree_of_variable}
use Rattle.js_eval.proofs.short.at_hand.Goals as goal

pub returns-in-Variable-clause-did : goal.returns-in-Variable-clause-did
returns-in-Variable-clause-did g c =
    let s = g.S.Strings.state c.args.store.now in
    let number = g.S.Strings.number in
    rw (c.in-Variable.is, tree_of_variable c.in-Variable.name)
    (looked number s c.look_up.result (meant (context_bindings s number c.args.context.now) c.in-Variable.name) c.look_up.ensures.meant c.look_up.ensures.fine)
