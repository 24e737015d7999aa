use Rattle.std.proofs.Common.{◌≡◌, ◌∙◌, [], ap}
use Rattle.std.proofs.lemmas.Result.{err_from_is_err_and}
use Rattle.js_store.proofs.Laws.{grows_trans}
use Rattle.eval_tree.specs.Tree.{tree_of}
use Rattle.eval_scopes.specs.Seen.{bounds_of, blocks_of}
use Rattle.js_eval.specs.Seen.{context_bindings}
use Rattle.js_eval.proofs.Stays.{bounds_fine_still}
use Rattle.js_eval.proofs.Scripts.{script_went, script_halts}
use Rattle.js_eval.proofs.script.run.Goals as goal

pub returns-in_err-literals-clause-went : goal.returns-in_err-literals-clause-went
returns-in_err-literals-clause-went g c =
    let state = g.S.Strings.state in
    let p = err_from_is_err_and c.from_residual.result c.from_residual.ensures.1 in
    let e = c.deref.ensures.value in
    let d = c.in_err-literals.ensures.did in
    rw (p.1, p.2) (script_halts g.S.Strings.number (state c.args.store.now) (state c.intern_literals.new.store) c.args.lines.now
    (bounds_of c.args.env.now) (tree_of c.args.script.now) c.in_err-literals.ensures.grows c.requires c.in_err-literals.field-0.0 (rw e at d))

pub returns-in_err-literals-clause-env : goal.returns-in_err-literals-clause-env
returns-in_err-literals-clause-env g c =
    bounds_fine_still (g.S.Strings.state c.args.store.now) (g.S.Strings.state c.intern_literals.new.store) g.S.Strings.number c.in_err-literals.ensures.grows (bounds_of c.args.env.now) c.requires

pub statements-result-requires : goal.statements-result-requires
statements-result-requires g c =
    let kept = bounds_fine_still (g.S.Strings.state c.args.store.now) (g.S.Strings.state c.intern_literals.new.store) g.S.Strings.number
    c.in_ok-literals.ensures.grows (bounds_of c.args.env.now) c.requires in
    record { literals = c.in_ok-literals.ensures.known; bindings = record { blocks = rw c.new.ensures tt; top = rw (c.replace.ensures.value, c.env.view_is) kept } }

pub returns-clause-grows : goal.returns-clause-grows
returns-clause-grows g c = grows_trans c.in_ok-literals.ensures.grows c.statements-result.ensures.grows

pub returns-clause-went : goal.returns-clause-went
returns-clause-went g c =
    let state = g.S.Strings.state in
    let number = g.S.Strings.number in
    let e = c.deref.ensures.value in
    let q = c.deref-2.ensures.value in
    let d = c.in_ok-literals.ensures.did in
    let r = c.statements-result in
    let w = r.ensures.went in
    let none : blocks_of c.new.result ≡ [] = c.new.ensures in
    let begun : record { blocks = blocks_of c.new.result; top = bounds_of c.replace.result } ≡ record {
      blocks = [];
      top = bounds_of c.args.env.now;
    } = cc (none, ap bounds_of (c.replace.ensures.value ∙ c.env.view_is)) in
    script_went number (state c.args.store.now) (state c.intern_literals.new.store) c.args.lines.now (bounds_of c.args.env.now)
    (tree_of c.args.script.now) c.in_ok-literals.ensures.grows c.requires (state r.new.store) r.new.lines
    (record { literals = c.in_ok-literals.literals; scope = record { blocks = c.new.result; top = c.replace.result }; spare = c.new-4.result }) r.result
    (context_bindings (state r.new.store) number r.new.context) begun (rw e at d) (rw q at w)
