use Rattle.std.proofs.Common.{refl}
use Rattle.jsstr_c.proofs.Entering.{enters}
use Rattle.jsstr_c.proofs.table.jsstr_intern_unchecked.Goals as goal

pub returns-clause-enters : goal.returns-clause-enters
returns-clause-enters c = let call = c.intern-answer in let e = call.ensures in
    enters c.held.result.now call.new.agent c.args.s e.same e.marks e.known e.calls _ _ _ call.result
    c.held.ensures.value refl c.of_table.ensures.value e.marked e.interns e.forwards
