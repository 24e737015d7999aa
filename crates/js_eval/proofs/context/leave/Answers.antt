use Rattle.std.proofs.Common.{ap, sym, ◌∙◌}
use Rattle.eval_scopes.specs.Seen.{bindings_of}
use Rattle.js_item.specs.Seen.{seen}
use Rattle.js_eval.specs.Seen.{bindings_seen}
use Rattle.js_eval.proofs.Kept.{outer_fine}
use Rattle.js_eval.proofs.Mapped.{outer_by}
use Rattle.js_eval.proofs.context.leave.Goals as goal

pub returns-clause-context : goal.returns-clause-context
returns-clause-context g c = record {
  literals = c.requires.literals;
  bindings = rw c.leave.ensures (outer_fine (g.S.Strings.state c.args._store.now) g.S.Strings.number (bindings_of c.args.context.now.scope) c.requires.bindings);
}

pub returns-clause-left : goal.returns-clause-left
returns-clause-left g c =
    let s = g.S.Strings.state c.args._store.now in
    ap (λ q. bindings_seen s g.S.Strings.number q) c.leave.ensures ∙ sym (outer_by (λ v. seen s g.S.Strings.number v) (bindings_of c.args.context.now.scope))
