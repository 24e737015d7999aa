use Rattle.std.proofs.Common.{inr}
use Rattle.std.specs.Str.{chars}
use Rattle.js_literal.specs.Reader.{kind_of}
use Rattle.js_literal.specs.Literal.{LiteralFaultOf}
use Rattle.js_literal.proofs.Laws.{closed_ends_at, closed_literal, broken_ends_at, broken_literal}
use Rattle.js_literal.proofs.string.literal.Goals as goal

pub overflow_sub-result : goal.overflow_sub-result
overflow_sub-result c =
    let h = c.in-Ok.ensures.ok in
    (closed_ends_at c.args.text.now c.args.at (c.open-quote.result.0) (chars c.open-quote.result.1.now) c.in-Ok.units (h.0) c.in-Ok.left c.utf8.text c.open-quote.ensures.starts (h.1) (h.2)).0

pub returns-in-Ok-clause-ok : goal.returns-in-Ok-clause-ok
returns-in-Ok-clause-ok c =
    let h = c.in-Ok.ensures.ok in
    closed_literal c.args.text.now c.args.at (c.open-quote.result.0) (chars c.open-quote.result.1.now) c.in-Ok.units (h.0) c.in-Ok.left
    c.utf8.text c.open-quote.ensures.starts c.open-quote.ensures.quote (h.1) (h.2)

pub overflow_sub-text : goal.overflow_sub-text
overflow_sub-text c =
    let h = rw c.in-Err-Broken.field-0-is at c.in-Err-Broken.ensures.err in
    (broken_ends_at c.args.text.now c.args.at (c.open-quote.result.0) (chars c.open-quote.result.1.now) (kind_of c.in-Err-Broken.refusal)
    (h.0) c.in-Err-Broken.left c.utf8.text c.open-quote.ensures.starts (h.1) (h.2)).0

pub returns-in-Err-Broken-clause-err : goal.returns-in-Err-Broken-clause-err
returns-in-Err-Broken-clause-err c =
    let h = rw c.in-Err-Broken.field-0-is at c.in-Err-Broken.ensures.err in
    let f = broken_literal c.args.text.now c.args.at (c.open-quote.result.0) (chars c.open-quote.result.1.now)
    (kind_of c.in-Err-Broken.refusal) (h.0) c.in-Err-Broken.left c.utf8.text c.open-quote.ensures.starts c.open-quote.ensures.quote (h.1) (h.2) in
    let t : LiteralFaultOf c.args.text.now c.args.at c.placed.result = rw c.placed.ensures f in
    inr t
