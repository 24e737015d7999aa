use Rattle.std.specs.Prelude.{OnOk}
use Rattle.std.proofs.Common.{ℕ, ◌-◌, List, length, subst, sym, ◌∙◌}
use Rattle.js_store.specs.State.{IsSettled, text}
use Rattle.js_store.proofs.Laws.{text_still}
use Rattle.js_methods.specs.Building.{CutsFiller}
use Rattle.std.proofs.lemmas.Result.{err_from_is_err_and}
use Rattle.eval_values.specs.Arguments.{second_of, second_units}
use Rattle.eval_values.specs.Seen.{all_seen}
use Rattle.eval_members.specs.Methods.{padded_of}
use Rattle.eval_members.proofs.Pads.{fills_text, fill_stops}
use Rattle.eval_values.proofs.Settled.{on_ok_always}
use Rattle.eval_members.specs.Methods.{FillerSettled}
use Rattle.eval_members.proofs.Fillers.{no_filler, filler_read}
use Rattle.eval_members.proofs.building.fill.Goals as goal

pub returns-clause-did : goal.returns-clause-did
returns-clause-did g c =
    let state = g.S.Strings.state in
    let e = c.in_ok-w.ensures in
    let m = c.second_is_missing.ensures in
    let f = c.if-second_is_missing.false in
    fills_text g.S.Strings.number (state c.args.store.now) (state c.second_text.new.store) (state c.pad_with.new.store)
    (padded_of c.args.pad) c.args.s c.args.max (second_of (all_seen (state c.args.store.now) g.S.Strings.number c.args.args.now))
    c.in_ok-w.w c.pad_with.result e.grows c.requires.known (rw (← m) f) e.did c.pad_with.ensures.did

pub returns-in_err-w-clause-did : goal.returns-in_err-w-clause-did
returns-in_err-w-clause-did g c =
    let state = g.S.Strings.state in
    let number = g.S.Strings.number in
    let a = state c.args.store.now in
    let p = err_from_is_err_and c.from_residual.result c.from_residual.ensures.1 in
    let m = c.second_is_missing.ensures in
    let f = c.if-second_is_missing.false in
    rw (p.1, p.2) (fill_stops number a (state c.second_text.new.store) (state c.second_text.new.store) (padded_of c.args.pad) c.args.s
    c.args.max (second_of (all_seen a number c.args.args.now)) c.in_err-w.field-0.0 (rw (← m) f) c.in_err-w.ensures.did)

pub returns-clause-filler_settled : goal.returns-clause-filler_settled
returns-clause-filler_settled g c =
    let state = g.S.Strings.state in
    let number = g.S.Strings.number in
    let a = state c.args.store.now in
    let b = state c.second_text.new.store in
    let d = state c.pad_with.new.store in
    let e = c.in_ok-w.ensures in
    let f = c.pad_with.ensures in
    let cut = subst (λ (u : List ℕ). CutsFiller (c.args.max - length u) (length (text b (number c.in_ok-w.w))) → OnOk c.pad_with.result
    (IsSettled d (number c.in_ok-w.w))) (text_still e.grows (number c.args.s) c.requires.known) f.filler_settled in
    filler_read number a b d f.grows c.in_ok-w.w (c.args.max - length (text a (number c.args.s))) c.pad_with.result cut c.args.args.now e.did e.own

pub returns-then-second_is_missing-clause-filler_settled : goal.returns-then-second_is_missing-clause-filler_settled
returns-then-second_is_missing-clause-filler_settled g c =
    let state = g.S.Strings.state in
    let number = g.S.Strings.number in
    let a = state c.args.store.now in
    let d = state c.pad_with_space.new.store in
    let n = c.args.max - length (text a (number c.args.s)) in
    let m = second_units (all_seen a number c.args.args.now) in
    on_ok_always c.pad_with_space.result (FillerSettled d number n m c.args.args.now) (no_filler a d number n m c.args.args.now (sym c.second_is_missing.ensures ∙ c.if-second_is_missing.true))
