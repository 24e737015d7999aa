use Rattle.std.proofs.Common.{◌≤◌, length}
use Rattle.std.proofs.lemmas.List.{length-map}
use Rattle.std.proofs.lemmas.Result.{err_from_is_err_and}
use Rattle.js_item.specs.Seen.{seen}
use Rattle.eval_values.specs.Seen.{all_seen}
use Rattle.eval_builtins.proofs.Numbers.{codes_stops, codes_does}
use Rattle.eval_builtins.proofs.codes.from_codes.Goals as goal

pub returns-in_err-numbers-clause-did : goal.returns-in_err-numbers-clause-did
returns-in_err-numbers-clause-did g c =
    let number = g.S.Strings.number in
    let a = g.S.Strings.state c.args.store.now in
    let vs = all_seen a number c.args.args.now in
    let room : length vs ≤ 1048576 = rw (length-map c.args.args.now (λ v. seen a number v)) c.if-args-gt1048576.false in
    let p = err_from_is_err_and c.from_residual.result c.from_residual.ensures.1 in
    rw (p.1, p.2) (codes_stops number a c.args.which c.args.at vs (g.S.Strings.state c.numbers.new.store) c.in_err-numbers.field-0.0 room c.in_err-numbers.ensures.did)

pub returns-clause-did : goal.returns-clause-did
returns-clause-did g c =
    let number = g.S.Strings.number in
    let a = g.S.Strings.state c.args.store.now in
    let vs = all_seen a number c.args.args.now in
    let room : length vs ≤ 1048576 = rw (length-map c.args.args.now (λ v. seen a number v)) c.if-args-gt1048576.false in
    let e = c.deref.ensures.value in
    let d = c.make.ensures.did vs in
    codes_does number a c.args.which c.args.at vs (g.S.Strings.state c.numbers.new.store) (g.S.Strings.state c.make.new.store)
    c.in_ok-numbers.numbers c.make.result room c.in_ok-numbers.ensures.did (rw e at d)
