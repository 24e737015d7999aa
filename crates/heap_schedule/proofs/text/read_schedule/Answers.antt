use Rattle.std.proofs.Common.{rules, ◌≡◌, ◌<◌, length, map, Some, None, Err, sym, take, subst}
use Rattle.heap_schedule.specs.Fields.{GivesReading, fields_between}
use Rattle.heap_schedule.specs.Lines.{turn_named}
use Rattle.heap_schedule.specs.Text.{lines_from, making_in, schedule_of, turns}
use Rattle.heap_schedule.proofs.Turns.{first_bad, first_made, first_open, lines_stop, lines_whole}
use Rattle.heap_schedule.proofs.text.read_schedule.Goals as goal

pub returns-then-end-text : goal.returns-then-end-text
returns-then-end-text c = first_open c.args.text.now c.piece_len-end.result (sym c.piece_len-end.ensures.value) (search rules)

pub returns-in-Ok-read_lines : goal.returns-in-Ok-read_lines
returns-in-Ok-read_lines c =
    let n = c.piece_len-end.result in
    let made : making_in (take n c.args.text.now) ≡ Some c.in-Ok.making = c.in-Ok.ensures.read in
    let less : n < length c.args.text.now = search rules in
    lines_whole (schedule_of c.args.text.now) c.in-Ok.making (lines_from 2 (fields_between 10 c.behind.result.now)) (map turn_named c.in-Ok-read_lines.lines.items)
    (first_made c.args.text.now c.behind.result.now n c.in-Ok.making (sym c.piece_len-end.ensures.value) less c.behind.ensures.rest made) c.in-Ok-read_lines.ensures

pub returns-in-Err-read_lines : goal.returns-in-Err-read_lines
returns-in-Err-read_lines c =
    let n = c.piece_len-end.result in
    let made : making_in (take n c.args.text.now) ≡ Some c.in-Ok.making = c.in-Ok.ensures.read in
    let less : n < length c.args.text.now = search rules in
    lines_stop (schedule_of c.args.text.now) c.in-Ok.making (lines_from 2 (fields_between 10 c.behind.result.now)) c.in-Err-read_lines.stop
    (first_made c.args.text.now c.behind.result.now n c.in-Ok.making (sym c.piece_len-end.ensures.value) less c.behind.ensures.rest made) c.in-Err-read_lines.ensures

pub returns-in-Refused : goal.returns-in-Refused
returns-in-Refused c =
    let n = c.piece_len-end.result in
    let none : making_in (take n c.args.text.now) ≡ None =
    subst (λ s. GivesReading (λ m. m) (Err s) (making_in (take n c.args.text.now))) c.in-Refused.is c.in-Err.ensures.read in
    let less : n < length c.args.text.now = search rules in
    first_bad c.args.text.now n (sym c.piece_len-end.ensures.value) less none
