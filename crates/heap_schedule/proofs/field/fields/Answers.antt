use Rattle.std.proofs.Common.{rules, ◌≡◌, ◌<◌, ◌∙◌, arith, length, List, [], ◌∷◌, ◌++◌, Some, None, sym, take}
use Rattle.std.specs.List.{prefix_len}
use Rattle.heap_schedule.specs.Fields.{differs, field_of}
use Rattle.heap_schedule.proofs.Pieces.{fields_bad, fields_last, fields_more}
use Rattle.heap_schedule.proofs.field.fields.Goals as goal

pub returns-in-None : goal.returns-in-None
returns-in-None c =
    let n = c.piece_len-end.result in
    let is : field_of (take n c.fields.rest.now) ≡ None = search rules in
    sym c.fields.invariant ∙ fields_bad c.fields.fields.items c.fields.rest.now n (sym c.piece_len-end.ensures.value) c.piece_len-end.ensures.within is

pub returns-then-end-rest : goal.returns-then-end-rest
returns-then-end-rest c =
    let n = c.piece_len-end.result in
    let is : field_of (take n c.fields.rest.now) ≡ Some c.in-Some.field = search rules in
    let added : c.push.new.self.items ≡ c.fields.fields.items ++ c.in-Some.field ∷ [] = search rules in
    sym c.fields.invariant ∙ fields_last c.fields.fields.items c.push.new.self.items c.in-Some.field c.fields.rest.now n
    (sym c.piece_len-end.ensures.value) (search rules) is added

pub fields-preserved : goal.fields-preserved
fields-preserved c =
    let n = c.piece_len-end.result in
    let is : field_of (take n c.fields.rest.now) ≡ Some c.in-Some.field = search rules in
    let added : c.push.new.self.items ≡ c.fields.fields.items ++ c.in-Some.field ∷ [] = search rules in
    let less : n < length c.fields.rest.now = search rules in
    fields_more c.fields.fields.items c.push.new.self.items c.in-Some.field c.fields.rest.now c.behind-rest.result.now n
    (sym c.piece_len-end.ensures.value) less c.behind-rest.ensures.rest is added ∙ c.fields.invariant
