use Rattle.std.specs.Prelude.{OnOk}
use Rattle.std.proofs.Common.{arith, ◌≡◌, ◌≤◌, ◌<◌, ◌-◌, ℕ, List, length, subst}
use Rattle.js_store.specs.State.{text}
use Rattle.js_store.proofs.Laws.{text_still}
use Rattle.js_item.specs.Seen.{Val}
use Rattle.eval_values.specs.Arguments.{second_of, second_units}
use Rattle.eval_values.specs.Seen.{all_seen}
use Rattle.eval_members.specs.Methods.{padded_of}
use Rattle.eval_members.proofs.Pads.{pads_itself, pads_more}
use Rattle.eval_values.proofs.Still.{values_fine_still, values_still}
use Rattle.eval_values.proofs.Settled.{on_ok_always}
use Rattle.eval_members.specs.Methods.{FillerSettled}
use Rattle.eval_members.proofs.Fillers.{none_missing}
use Rattle.eval_members.proofs.building.pad_to.Goals as goal

pub returns-then-max-from-clause-did : goal.returns-then-max-from-clause-did
returns-then-max-from-clause-did g c =
    let state = g.S.Strings.state in
    let number = g.S.Strings.number in
    let a = state c.args.store.now in
    let e = c.len-len.ensures in
    let l : c.args.max ≤ length (text a (number c.args.s)) = omega (arith, c.if-max-from.true, c.from.ensures, e.value) in
    pads_itself number a (state c.len-len.new.self) (state c.itself.new.store) (padded_of c.args.pad) c.args.s c.args.max
    (second_of (all_seen a number c.args.args.now)) c.itself.result e.uses.step e.uses.history c.requires.known l c.itself.ensures.did

pub fill-requires-clause-args : goal.fill-requires-clause-args
fill-requires-clause-args g c =
    values_fine_still (g.S.Strings.state c.args.store.now) (g.S.Strings.state c.len-len.new.self) g.S.Strings.number c.len-len.ensures.uses.step.grows c.args.args.now c.requires.args

pub returns-else-max-from-clause-did : goal.returns-else-max-from-clause-did
returns-else-max-from-clause-did g c =
    let state = g.S.Strings.state in
    let number = g.S.Strings.number in
    let a = state c.args.store.now in
    let e = c.len-len.ensures in
    let l : length (text a (number c.args.s)) < c.args.max = omega (arith, c.if-max-from.false, c.from.ensures, e.value) in
    pads_more number a (state c.len-len.new.self) (state c.fill.new.store) (padded_of c.args.pad) c.args.s c.args.max c.args.args.now
    c.fill.result e.uses.step e.uses.history c.requires.known c.requires.args l c.fill.ensures.did

pub returns-then-max-from-clause-filler_settled : goal.returns-then-max-from-clause-filler_settled
returns-then-max-from-clause-filler_settled g c =
    let state = g.S.Strings.state in
    let number = g.S.Strings.number in
    let a = state c.args.store.now in
    let d = state c.itself.new.store in
    let n = c.args.max - length (text a (number c.args.s)) in
    let m = second_units (all_seen a number c.args.args.now) in
    let none : n ≡ 0 = omega (arith, c.if-max-from.true, c.from.ensures, c.len-len.ensures.value) in
    on_ok_always c.itself.result (FillerSettled d number n m c.args.args.now) (none_missing d number n m c.args.args.now none)

pub returns-else-max-from-clause-filler_settled : goal.returns-else-max-from-clause-filler_settled
returns-else-max-from-clause-filler_settled g c =
    let state = g.S.Strings.state in
    let number = g.S.Strings.number in
    let a = state c.args.store.now in
    let b = state c.len-len.new.self in
    let d = state c.fill.new.store in
    let vs = c.args.args.now in
    let grows = c.len-len.ensures.uses.step.grows in
    let one = subst (λ (u : List ℕ). OnOk c.fill.result (FillerSettled d number (c.args.max - length u)
    (second_units (all_seen b number vs)) vs)) (text_still grows (number c.args.s) c.requires.known) c.fill.ensures.filler_settled in
    subst (λ (o : List Val). OnOk c.fill.result (FillerSettled d number (c.args.max - length (text a (number c.args.s))) (second_units o) vs)) (values_still a b number grows vs c.requires.args) one
