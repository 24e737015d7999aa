use Rattle.std.proofs.lemmas.Result.{err_from_is_err_and}
use Rattle.eval_members.specs.Methods.{replaced_of, match_count}
use Rattle.eval_members.proofs.Replacements.{searched_stops, template_stops, replace_does}
use Rattle.js_store.proofs.Laws.{grows_trans}
use Rattle.eval_values.proofs.Still.{fine_still}
use Rattle.std.proofs.lemmas.Result.{on_ok_weaker}
use Rattle.eval_values.proofs.Settled.{strings_read}
use Rattle.eval_members.proofs.replacing.replace_values.Goals as goal

pub returns-in_err-w-clause-did : goal.returns-in_err-w-clause-did
returns-in_err-w-clause-did g c = λ o m t k.
    let state = g.S.Strings.state in
    let p = err_from_is_err_and c.from_residual.result c.from_residual.ensures.1 in
    rw (p.1, p.2) (searched_stops g.S.Strings.number o m t (match_count c.args.replace) (replaced_of c.args.replace)
    (state c.args.store.now) (state c.to_text.new.store) (state c.to_text.new.store) c.args.s c.args.searched.now c.args.template.now
    c.in_err-w.field-0.0 c.in_err-w.ensures.did)

pub returns-in_err-by-clause-did : goal.returns-in_err-by-clause-did
returns-in_err-by-clause-did g c = λ o m t k.
    let state = g.S.Strings.state in
    let p = err_from_is_err_and c.from_residual-in_err-by.result c.from_residual-in_err-by.ensures.1 in
    let e = c.in_ok-w.ensures in
    rw (p.1, p.2) (template_stops g.S.Strings.number o m t (match_count c.args.replace) (replaced_of c.args.replace)
    (state c.args.store.now) (state c.to_text.new.store) (state c.to_text-2.new.store) c.args.s c.args.searched.now c.args.template.now
    e.grows c.requires.template c.in_ok-w.w e.did c.in_err-by.field-0.0 c.in_err-by.ensures.did)

pub returns-clause-did : goal.returns-clause-did
returns-clause-did g c = λ o m t k.
    let state = g.S.Strings.state in
    let e = c.in_ok-w.ensures in
    let f = c.in_ok-by.ensures in
    replace_does g.S.Strings.number o m t (match_count c.args.replace) (replaced_of c.args.replace) (state c.args.store.now)
    (state c.to_text.new.store) (state c.to_text-2.new.store) c.args.s c.args.searched.now c.args.template.now e.grows c.requires.template
    c.in_ok-w.w e.did (state c.give_replaced.new.store) c.in_ok-by.by c.give_replaced.result f.grows c.requires.known e.known e.short
    f.short k f.did c.give_replaced.ensures.did

pub to_text-requires-2 : goal.to_text-requires-2
to_text-requires-2 g c = fine_still (g.S.Strings.state c.args.store.now) (g.S.Strings.state c.to_text.new.store) g.S.Strings.number c.in_ok-w.ensures.grows c.args.template.now c.requires.template

pub returns-clause-grows : goal.returns-clause-grows
returns-clause-grows g c = grows_trans c.in_ok-w.ensures.grows (grows_trans c.in_ok-by.ensures.grows c.give_replaced.ensures.grows)

pub returns-clause-searched_settled : goal.returns-clause-searched_settled
returns-clause-searched_settled g c =
    let state = g.S.Strings.state in
    let number = g.S.Strings.number in
    let e = c.give_replaced.ensures in
    on_ok_weaker c.give_replaced.result (λ h. strings_read number (state c.to_text.new.store) (state c.give_replaced.new.store)
    (grows_trans c.in_ok-by.ensures.grows e.grows) c.args.searched.now (number c.in_ok-w.w) c.in_ok-w.ensures.own h) e.needle_settled

pub returns-clause-template_settled : goal.returns-clause-template_settled
returns-clause-template_settled g c =
    let state = g.S.Strings.state in
    let number = g.S.Strings.number in
    let e = c.give_replaced.ensures in
    on_ok_weaker c.give_replaced.result (λ h. strings_read number (state c.to_text-2.new.store) (state c.give_replaced.new.store) e.grows
    c.args.template.now (number c.in_ok-by.by) c.in_ok-by.ensures.own h) e.template_settled
