use Rattle.std.proofs.Common.{sym, ◌∙◌}
use Rattle.eval_values.specs.Seen.{all_seen}
use Rattle.eval_members.proofs.Parts.{split_does}
use Rattle.std.proofs.lemmas.Result.{on_ok_weaker}
use Rattle.eval_values.specs.Settled.{OfFirst, StringsSettled}
use Rattle.eval_values.proofs.Settled.{first_read, missing_read, on_ok_always}
use Rattle.eval_members.proofs.splitting.split_most.Goals as goal

pub returns-clause-did : goal.returns-clause-did
returns-clause-did g c =
    let state = g.S.Strings.state in
    let number = g.S.Strings.number in
    let a = state c.args.store.now in
    let e = c.in_ok-sep.ensures in
    let m = c.first_is_missing.ensures in
    let f = c.if-first_is_missing.false in
    split_does number a (state c.first_text.new.store) (state c.split_by.new.store) c.args.s c.in_ok-sep.sep c.args.most
    (all_seen a number c.args.args.now) c.split_by.result e.grows c.requires.known (rw (← m) f) e.short e.did c.split_by.ensures.did

pub returns-clause-separator_settled : goal.returns-clause-separator_settled
returns-clause-separator_settled g c =
    let state = g.S.Strings.state in
    let number = g.S.Strings.number in
    let e = c.split_by.ensures in
    on_ok_weaker c.split_by.result (λ h. first_read number (state c.first_text.new.store) (state c.split_by.new.store) e.grows
    c.args.args.now (number c.in_ok-sep.sep) c.in_ok-sep.ensures.own h) e.separator_settled

pub returns-then-first_is_missing-clause-separator_settled : goal.returns-then-first_is_missing-clause-separator_settled
returns-then-first_is_missing-clause-separator_settled g c =
    let state = g.S.Strings.state in
    let number = g.S.Strings.number in
    let d = state c.keep_whole.new.store in
    on_ok_always c.keep_whole.result (OfFirst (λ v. StringsSettled d number v) c.args.args.now)
    (missing_read (state c.args.store.now) d number c.args.args.now (sym c.first_is_missing.ensures ∙ c.if-first_is_missing.true))
