use Rattle.std.proofs.Common.{rules, ◌≡◌, ◌<◌, ◌+◌, ◌∙◌, arith, ap, length, map, List, [], ◌∷◌, ◌++◌, Some, None, Err, sym, take, subst}
use Rattle.heap_schedule.specs.Fields.{GivesReading}
use Rattle.heap_schedule.specs.Lines.{turn_named}
use Rattle.heap_schedule.specs.Text.{refused, turn_in}
use Rattle.heap_schedule.proofs.Turns.{lines_bad, lines_end, lines_more, lines_open}
use Rattle.heap_schedule.proofs.text.read_lines.Goals as goal

pub returns-then-end-rest : goal.returns-then-end-rest
returns-then-end-rest c =
    let some : 0 < length c.lines.rest.now = search rules in
    let k : length c.lines.lines.items ≡ c.len.result = search rules in
    sym c.lines.invariant ∙ lines_open (map turn_named c.lines.lines.items) (length c.lines.lines.items + 2) c.lines.rest.now c.piece_len-end.result
    (sym c.piece_len-end.ensures.value) (search rules) some ∙ ap (λ n. refused (n + 2)) k

pub returns-in-Refused : goal.returns-in-Refused
returns-in-Refused c =
    let n = c.piece_len-end.result in
    let is : turn_in (take n c.lines.rest.now) ≡ None =
    subst (λ s. GivesReading turn_named (Err s) (turn_in (take n c.lines.rest.now))) c.in-Refused.is c.in-Err.ensures in
    let less : n < length c.lines.rest.now = search rules in
    let k : length c.lines.lines.items ≡ c.len-in-Refused.result = search rules in
    sym c.lines.invariant ∙ lines_bad (map turn_named c.lines.lines.items) (length c.lines.lines.items + 2) c.lines.rest.now n
    (sym c.piece_len-end.ensures.value) less is ∙ ap (λ n. refused (n + 2)) k

pub lines-preserved : goal.lines-preserved
lines-preserved c =
    let n = c.piece_len-end.result in
    let is : turn_in (take n c.lines.rest.now) ≡ Some (turn_named c.in-Ok.line) = search rules in
    let added : c.push.new.self.items ≡ c.lines.lines.items ++ c.in-Ok.line ∷ [] = search rules in
    let less : n < length c.lines.rest.now = search rules in
    lines_more c.lines.lines.items c.push.new.self.items c.in-Ok.line c.lines.rest.now c.behind-rest.result.now n
    (sym c.piece_len-end.ensures.value) less c.behind-rest.ensures.rest is added ∙ c.lines.invariant
