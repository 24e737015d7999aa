use Rattle.std.proofs.lemmas.Result.{err_from_is_err_and}
use Rattle.js_eval.proofs.Printing.{values_went, values_halt, texts_halt}
use Rattle.js_eval.proofs.script.print_values.Goals as goal

pub returns-in-Ok-clause-went : goal.returns-in-Ok-clause-went
returns-in-Ok-clause-went g c = λ bs.
    let state = g.S.Strings.state in
    let t = c.in_ok-texts.ensures in
    let d = c.deref.ensures.value in
    let e = c.in-Ok.ensures in
    let s = e.uses.step in
    let l = e.added in
    values_went g.S.Strings.number (state c.args.store.now) (state c.texts.new.store) c.args.lines.now c.args.values.now bs
    (state c.print_line.new.store) c.print_line.new.self c.in_ok-texts.texts t.did (rw d at s) e.uses.history t.settles (rw d at l)

pub returns-clause-went : goal.returns-clause-went
returns-clause-went g c = λ bs.
    let state = g.S.Strings.state in
    let t = c.in_ok-texts.ensures in
    let d = c.deref.ensures.value in
    let e = c.in-Err.ensures in
    let s = e.uses.step in
    (values_halt g.S.Strings.number (state c.args.store.now) (state c.texts.new.store) c.args.lines.now c.args.values.now bs
    (state c.print_line.new.store) c.print_line.new.self c.in_ok-texts.texts c.in-Err.fault t.did (rw d at s) e.uses.no_slots e.uses.history
    t.settles e.unchanged)

pub returns-in_err-texts-clause-went : goal.returns-in_err-texts-clause-went
returns-in_err-texts-clause-went g c = λ bs.
    let state = g.S.Strings.state in
    let p = err_from_is_err_and c.from_residual.result c.from_residual.ensures.1 in
    rw (p.1, p.2) (texts_halt g.S.Strings.number (state c.args.store.now) (state c.texts.new.store) c.args.lines.now c.args.values.now bs c.in_err-texts.field-0.0 c.in_err-texts.ensures.did)
