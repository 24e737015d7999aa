use Rattle.std.proofs.Common.{rules, length}
use Rattle.js_store.specs.State.{text}
use Rattle.js_search.proofs.Lexical.{run_then}
use Rattle.js_search.proofs.order.compare_run.Goals as goal

pub returns-clause-order : goal.returns-clause-order
returns-clause-order g c =
    let u = text (g.S.Strings.state c.args.store.now) (g.S.Strings.number c.args.a) in
    let v = text (g.S.Strings.state c.args.store.now) (g.S.Strings.number c.args.b) in
    let t = run_then u v c.args.from (length c.args.left.now) c.requires.left_long c.requires.right_long in
    search rules
