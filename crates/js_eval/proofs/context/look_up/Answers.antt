use Rattle.std.proofs.Common.{ap, Option, option_map}
use Rattle.js_item.specs.Seen.{Val}
use Rattle.eval_scopes.specs.Bindings.{Bound}
use Rattle.eval_scopes.specs.Seen.{bound_of, bindings_of}
use Rattle.js_eval.proofs.Names.{found_value, meant_none, meant_some}
use Rattle.js_eval.proofs.context.look_up.Goals as goal

pub returns-in-Some-clause-fine : goal.returns-in-Some-clause-fine
returns-in-Some-clause-fine g c =
    found_value (g.S.Strings.state c.args._store.now) g.S.Strings.number (bindings_of c.args.context.now.scope) c.args.name.now (bound_of c.in-Some.binding.now) c.in-Some.ensures c.requires.bindings

pub returns-in-Some-clause-meant : goal.returns-in-Some-clause-meant
returns-in-Some-clause-meant g c =
    ap (λ (o : Option (Bound Val)). option_map (λ b. b.value) o)
    (meant_some (g.S.Strings.state c.args._store.now) g.S.Strings.number (bindings_of c.args.context.now.scope) c.args.name.now (bound_of c.in-Some.binding.now) c.in-Some.ensures)

pub returns-in-None-clause-meant : goal.returns-in-None-clause-meant
returns-in-None-clause-meant g c =
    meant_none (g.S.Strings.state c.args._store.now) g.S.Strings.number (bindings_of c.args.context.now.scope) c.args.name.now c.in-None.ensures
