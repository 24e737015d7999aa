use Rattle.std.proofs.Common.{sym, ◌∙◌}
use Rattle.eval_values.specs.Seen.{all_seen}
use Rattle.eval_members.proofs.Elements.{commas_do, join_does, join_fails}
use Rattle.std.proofs.lemmas.Result.{err_from_is_err_and, on_ok_weaker}
use Rattle.eval_values.specs.Settled.{OfFirst, StringsSettled}
use Rattle.eval_values.proofs.Settled.{first_read, missing_read, on_ok_always}
use Rattle.eval_members.proofs.splitting.call_join.Goals as goal

pub returns-clause-did : goal.returns-clause-did
returns-clause-did g c =
    let state = g.S.Strings.state in
    let number = g.S.Strings.number in
    let a = state c.args.store.now in
    let e = c.in_ok-sep.ensures in
    let m = c.first_is_missing.ensures in
    let f = c.if-first_is_missing.false in
    join_does number a (state c.first_text.new.store) (state c.join_with.new.store) c.args.list.now (all_seen a number c.args.args.now)
    c.in_ok-sep.sep c.join_with.result e.grows c.requires.known (rw (← m) f) e.short e.did c.join_with.ensures.did

pub returns-clause-separator_settled : goal.returns-clause-separator_settled
returns-clause-separator_settled g c =
    let state = g.S.Strings.state in
    let number = g.S.Strings.number in
    let e = c.join_with.ensures in
    on_ok_weaker c.join_with.result (λ h. first_read number (state c.first_text.new.store) (state c.join_with.new.store) e.grows
    c.args.args.now (number c.in_ok-sep.sep) c.in_ok-sep.ensures.own h) e.separator_settled

pub returns-then-first_is_missing-clause-separator_settled : goal.returns-then-first_is_missing-clause-separator_settled
returns-then-first_is_missing-clause-separator_settled g c =
    let state = g.S.Strings.state in
    let number = g.S.Strings.number in
    let d = state c.join_with_commas.new.store in
    on_ok_always c.join_with_commas.result (OfFirst (λ v. StringsSettled d number v) c.args.args.now)
    (missing_read (state c.args.store.now) d number c.args.args.now (sym c.first_is_missing.ensures ∙ c.if-first_is_missing.true))

pub returns-in_err-sep-clause-did : goal.returns-in_err-sep-clause-did
returns-in_err-sep-clause-did g c =
    let state = g.S.Strings.state in
    let number = g.S.Strings.number in
    let a = state c.args.store.now in
    let m = c.first_is_missing.ensures in
    let f = c.if-first_is_missing.false in
    let vs = all_seen a number c.args.args.now in
    let p = err_from_is_err_and c.from_residual.result c.from_residual.ensures.1 in
    rw (p.1, p.2) (join_fails number a (state c.first_text.new.store) c.args.list.now vs _ (rw (← m) f) c.in_err-sep.ensures.did)

pub returns-then-first_is_missing-clause-did : goal.returns-then-first_is_missing-clause-did
returns-then-first_is_missing-clause-did g c =
    let state = g.S.Strings.state in
    let number = g.S.Strings.number in
    let a = state c.args.store.now in
    let e = c.join_with_commas.ensures in
    let missing = sym c.first_is_missing.ensures ∙ c.if-first_is_missing.true in
    let vs = all_seen a number c.args.args.now in
    commas_do number a (state c.join_with_commas.new.store) c.args.list.now vs c.join_with_commas.result missing e.did
