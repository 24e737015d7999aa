use Rattle.eval_values.specs.RowNames.{parts_words}
use Rattle.std.proofs.Common.{arith, ◌+◌, ◌≤◌, length, ℕ}
use Rattle.std.proofs.lemmas.Result.{err_from_is_err_and}
use Rattle.js_store.specs.State.{State, text}
use Rattle.js_store.proofs.Laws.{settle_words_most}
use Rattle.js_texts.specs.Use.{settling}
use Rattle.eval_members.specs.Methods.{replaced_of, match_count}
use Rattle.eval_values.proofs.Needs.{some_part}
use Rattle.eval_members.proofs.Made.{parts_stops}
use Rattle.eval_members.proofs.replacing.give_replaced.Goals as goal

settling_fits : {F : Type 0} (a : State F) (p s w u t : ℕ) → length (text a s) + (length (text a w) + length (text a u)) ≤ t + 80 → settling a s + settling a w + settling a u ≤ parts_words p t
settling_fits a p s w u t k = omega (
  arith,
  k,
  some_part p,
  settle_words_most (a.settled s) (length (text a s)),
  settle_words_most
      (a.settled w) (length (text a w)),
  settle_words_most (a.settled u) (length (text a u)),
)

pub returns-in_err-r-clause-did : goal.returns-in_err-r-clause-did
returns-in_err-r-clause-did g c = λ t k.
    let number = g.S.Strings.number in
    let a = g.S.Strings.state c.args.store.now in
    let u = text a (number c.args.s) in
    let w = text a (number c.args.w) in
    let by = text a (number c.args.template) in
    let e = c.in_err-r.ensures in
    let p = err_from_is_err_and c.from_residual.result c.from_residual.ensures.1 in
    rw (p.1, p.2) (parts_stops a.limit t (match_count c.args.replace u w) 1
    (settling a (number c.args.s) + settling a (number c.args.w) + settling a (number c.args.template)) (replaced_of c.args.replace u w by)
    e.uses.history (omega arith) (settling_fits a (match_count c.args.replace u w) (number c.args.s) (number c.args.w)
    (number c.args.template) t k) number c.in_err-r.field-0.0 e.throws e.uses.step e.uses.no_slots)
