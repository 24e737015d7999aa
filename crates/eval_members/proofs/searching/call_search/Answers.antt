use Rattle.eval_members.specs.Parts.{search_answer}
use Rattle.std.proofs.Common.{length, ◌+◌, Err}
use Rattle.std.proofs.lemmas.Result.{err_from_is_err_and}
use Rattle.js_store.specs.State.{text}
use Rattle.js_store.proofs.Laws.{known_still, grows_trans}
use Rattle.eval_values.specs.Conversions.{to_string, all_units, first_text_units}
use Rattle.eval_values.specs.Need.{reads}
use Rattle.eval_values.specs.Arguments.{first_of}
use Rattle.eval_values.specs.Stops.{converted_of}
use Rattle.eval_members.specs.Methods.{search_of}
use Rattle.eval_values.specs.Seen.{all_seen}
use Rattle.eval_values.proofs.TextArguments.{text_fails}
use Rattle.eval_values.proofs.Still.{values_fine_still}
use Rattle.eval_members.proofs.Calls.{search_does, search_after}
use Rattle.std.proofs.lemmas.Result.{on_ok_weaker}
use Rattle.eval_values.proofs.Settled.{first_read}
use Rattle.eval_members.proofs.searching.call_search.Goals as goal

pub returns-in_err-w-clause-did : goal.returns-in_err-w-clause-did
returns-in_err-w-clause-did g c =
    let state = g.S.Strings.state in
    let number = g.S.Strings.number in
    let b = state c.second_number-place.new.store in
    let o = c.second_number-place.ensures in
    let vs = all_seen b number c.args.args.now in
    let u = text b (number c.args.s) in
    let v = c.second_number-place.ensures.value in
    let p = err_from_is_err_and c.from_residual.result c.from_residual.ensures.1 in
    rw (p.1, p.2, ← v) (search_after number (state c.args.store.now) b (state c.first_text.new.store) c.args.s c.args.args.now
    (Err c.in_err-w.field-0.0) (search_of c.args.search) (converted_of c.second_number-place.result) o.uses.step o.uses.history
    c.requires.known c.requires.args (text_fails number (reads (length u + all_units vs)) b (state c.first_text.new.store)
    c.in_err-w.field-0.0 (to_string b.limit (first_of vs)) (λ x. search_answer (length u + first_text_units vs)
    (search_of c.args.search u x) (converted_of c.second_number-place.result)) c.in_err-w.ensures.did))

pub returns-clause-did : goal.returns-clause-did
returns-clause-did g c =
    let state = g.S.Strings.state in
    let number = g.S.Strings.number in
    let b = state c.second_number-place.new.store in
    let o = c.second_number-place.ensures in
    let vs = all_seen b number c.args.args.now in
    let v = c.second_number-place.ensures.value in
    let e = c.in_ok-w.ensures in
    rw (← v) (search_after number (state c.args.store.now) b (state c.find.new.store) c.args.s c.args.args.now c.find.result
    (search_of c.args.search) (converted_of c.second_number-place.result) o.uses.step o.uses.history c.requires.known c.requires.args
    (search_does number b (state c.first_text.new.store) (state c.find.new.store) c.args.s c.in_ok-w.w c.find.result
    (length (text b (number c.args.s)) + all_units vs) (first_text_units vs) (search_of c.args.search) (first_of vs)
    (converted_of c.second_number-place.result) e.grows (known_still o.uses.step.grows (number c.args.s) c.requires.known) e.short e.did c.find.ensures.did))

pub first_text-requires : goal.first_text-requires
first_text-requires g c = values_fine_still (g.S.Strings.state c.args.store.now) (g.S.Strings.state c.second_number-place.new.store)
    g.S.Strings.number c.second_number-place.ensures.uses.step.grows c.args.args.now c.requires.args

pub returns-clause-grows : goal.returns-clause-grows
returns-clause-grows g c = grows_trans c.second_number-place.ensures.uses.step.grows (grows_trans c.in_ok-w.ensures.grows c.find.ensures.grows)

pub returns-clause-needle_settled : goal.returns-clause-needle_settled
returns-clause-needle_settled g c =
    let state = g.S.Strings.state in
    let number = g.S.Strings.number in
    let e = c.find.ensures in
    on_ok_weaker c.find.result (λ h. first_read number (state c.first_text.new.store) (state c.find.new.store) e.grows c.args.args.now (number c.in_ok-w.w) c.in_ok-w.ensures.own h) e.needle_settled
