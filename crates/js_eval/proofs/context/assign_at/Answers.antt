use Rattle.std.proofs.Common.{◌∙◌, sym}
use Rattle.eval_scopes.specs.Seen.{bound_of, bindings_of}
use Rattle.js_item.specs.Seen.{seen}
use Rattle.js_eval.proofs.Within.{put_at_fine}
use Rattle.js_eval.proofs.Assigned.{constant_kept, assign_done}
use Rattle.js_eval.proofs.context.assign_at.Goals as goal

pub returns-then-at-clause-went : goal.returns-then-at-clause-went
returns-then-at-clause-went g c = λ n p x.
    let s = g.S.Strings.state c.args._store.now in
    constant_kept s g.S.Strings.number x (bindings_of c.args.context.now.scope) n (bound_of c.at.result.now) (seen s g.S.Strings.number c.args.value) (p.reads ∙ sym c.at.ensures) c.if-at.true

pub returns-clause-context : goal.returns-clause-context
returns-clause-context g c =
    let s = g.S.Strings.state c.args._store.now in
    record {
      literals = c.requires.context.literals;
      bindings = rw c.set.ensures (put_at_fine s g.S.Strings.number c.args.context.now.scope c.args.place c.args.value c.requires.value c.requires.context.bindings);
    }

pub returns-clause-went : goal.returns-clause-went
returns-clause-went g c = λ n p x.
    let s = g.S.Strings.state c.args._store.now in
    assign_done s g.S.Strings.number x (bindings_of c.args.context.now.scope) (bindings_of c.set.new.self) n (bound_of c.at.result.now)
    c.args.value (p.reads ∙ sym c.at.ensures) c.if-at.false (c.set.ensures ∙ sym (p.writes c.args.value))
