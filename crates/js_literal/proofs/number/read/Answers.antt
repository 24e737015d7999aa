use Rattle.std.proofs.Common.{sym}
use Rattle.std.specs.Str.{chars}
use Rattle.js_literal.specs.Number.{NumberFaultOf}
use Rattle.js_literal.specs.NumberReader.{number_kind}
use Rattle.js_literal.proofs.NumberLaws.{number_fits, number_stands, number_fails}
use Rattle.js_literal.proofs.number.read.Goals as goal

pub overflow_sub-result : goal.overflow_sub-result
overflow_sub-result c = number_fits c.args.text.now c.args.at (chars c.from.result.now) (chars c.in-Ok.rest.now) c.in-Ok.value
    c.byte_len.result c.utf8.text c.from.ensures c.in-Ok.ensures (sym c.byte_len.ensures)

pub returns-in-Ok-clause-ok : goal.returns-in-Ok-clause-ok
returns-in-Ok-clause-ok c = number_stands c.args.text.now c.args.at (chars c.from.result.now) (chars c.in-Ok.rest.now) c.in-Ok.value
    c.byte_len.result c.utf8.text c.requires.number c.from.ensures c.in-Ok.ensures (sym c.byte_len.ensures)

pub returns-in-Err-clause-err : goal.returns-in-Err-clause-err
returns-in-Err-clause-err c =
    let k = number_kind c.in-Err.refusal in
    let t : NumberFaultOf c.args.text.now c.args.at c.placed.result = rw c.placed.ensures
    (number_fails c.args.text.now c.args.at (chars c.from.result.now) k c.utf8.text c.requires.number c.from.ensures c.in-Err.ensures) in
    t
