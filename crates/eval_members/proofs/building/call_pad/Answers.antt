use Rattle.std.proofs.Common.{◌+◌, length}
use Rattle.std.proofs.lemmas.Result.{err_from_is_err_and}
use Rattle.js_number.specs.Arith.{length_of}
use Rattle.js_store.specs.State.{text}
use Rattle.js_item.specs.Fine.{IsFine}
use Rattle.js_item.specs.Seen.{seen}
use Rattle.eval_values.specs.Arguments.{first_of, second_of}
use Rattle.eval_values.specs.Conversions.{string_units, to_number}
use Rattle.eval_values.specs.Need.{pads}
use Rattle.eval_values.specs.Seen.{all_seen}
use Rattle.eval_values.proofs.Converts.{refused}
use Rattle.eval_members.specs.Methods.{padded_of}
use Rattle.eval_members.specs.Building.{padded}
use Rattle.eval_members.proofs.building.call_pad.Goals as goal

pub returns-in_err-n-clause-did : goal.returns-in_err-n-clause-did
returns-in_err-n-clause-did g c =
    let state = g.S.Strings.state in
    let number = g.S.Strings.number in
    let a = state c.args.store.now in
    let b = state c.first_number.new.store in
    let u = text a (number c.args.s) in
    let vs = all_seen a number c.args.args.now in
    let f = second_of vs in
    let e = c.in_err-n.ensures in
    let p = err_from_is_err_and c.from_residual.result c.from_residual.ensures.1 in
    rw (p.1, p.2) (refused a b (λ s v. seen s number v) (λ s v. IsFine s number v) (pads (length u + string_units f)) e.uses.step e.uses.history
    (to_number c.args.at (first_of vs)) (λ k. padded a.limit (padded_of c.args.pad u) u (length_of k) f) c.in_err-n.field-0.0 e.value)

pub returns-clause-did : goal.returns-clause-did
returns-clause-did g c =
    let e = c.in_ok-n.ensures in
    let d = c.pad_to.ensures.did in
    rw (← e.value, ← c.to_length.ensures.value, ← e.same) d

pub returns-clause-filler_settled : goal.returns-clause-filler_settled
returns-clause-filler_settled g c =
    let e = c.in_ok-n.ensures in
    let d = c.pad_to.ensures.filler_settled in
    rw (← e.value, ← c.to_length.ensures.value, ← e.same) d
