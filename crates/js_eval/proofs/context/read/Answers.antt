use Rattle.eval_scopes.specs.Seen.{bound_of, bindings_of}
use Rattle.eval_values.proofs.Copied.{fine_copy}
use Rattle.js_eval.proofs.Names.{found_value, read_one, unread}
use Rattle.js_eval.proofs.context.read.Goals as goal

pub returns-in_ok-copy-in-Some-clause-fine : goal.returns-in_ok-copy-in-Some-clause-fine
returns-in_ok-copy-in-Some-clause-fine g c =
    let s = g.S.Strings.state c.args._store.now in
    let b = bound_of c.in-Some.binding.now in
    fine_copy s g.S.Strings.number c.in_ok-copy-in-Some.field-0 b.value c.in_ok-copy-in-Some.ensures (found_value s g.S.Strings.number (bindings_of c.args.context.now.scope) c.args.name.now b c.in-Some.ensures c.requires.bindings)

pub returns-in_ok-copy-in-Some-clause-did : goal.returns-in_ok-copy-in-Some-clause-did
returns-in_ok-copy-in-Some-clause-did g c =
    let s = g.S.Strings.state c.args._store.now in
    let b = bound_of c.in-Some.binding.now in
    let bs = bindings_of c.args.context.now.scope in
    read_one s g.S.Strings.number bs c.args.name.now b c.in_ok-copy-in-Some.field-0 c.in-Some.ensures
    (found_value s g.S.Strings.number bs c.args.name.now b c.in-Some.ensures c.requires.bindings) c.in_ok-copy-in-Some.ensures

pub returns-in-None-clause-did : goal.returns-in-None-clause-did
returns-in-None-clause-did g c = unread (g.S.Strings.state c.args._store.now) g.S.Strings.number (bindings_of c.args.context.now.scope) c.args.name.now c.in-None.ensures
