use Rattle.eval_values.specs.Within.{within}
use Rattle.eval_values.specs.RowNames.{parts_ids, parts_words}
use Rattle.std.proofs.Common.{arith, ℕ, List, ◌+◌, ◌*◌, sym, subst, length, Ok, Err}
use Rattle.std.proofs.lemmas.Result.{err_from_is_err_and}
use Rattle.js_texts.specs.Use.{made_words}
use Rattle.js_texts.proofs.Lengths.{made_ids_most}
use Rattle.js_item.specs.Seen.{says, fields_mapped}
use Rattle.js_object.specs.Use.{settle_fields}
use Rattle.js_object.specs.Json.{json_of}
use Rattle.js_item.specs.Fine.{strings_of}
use Rattle.js_object.proofs.Readable.{fine_fields_readable}
use Rattle.js_object.proofs.Seen.{json_mapped}
use Rattle.js_item.specs.declared.item.Item.TheVariants.{Text}
use Rattle.eval_values.specs.Stops.{stop_of}
use Rattle.eval_values.specs.Does.{GivesValue}
use Rattle.eval_values.proofs.Limited.{within_given, within_ends}
use Rattle.eval_builtins.specs.Quoting.{field_units, field_parts}
use Rattle.eval_builtins.proofs.Objects.{stringify_use}
use Rattle.eval_builtins.proofs.quoting.give_object.Goals as goal

pub returns-clause-did : goal.returns-clause-did
returns-clause-did g c =
    let state = g.S.Strings.state in
    let number = g.S.Strings.number in
    let a = state c.args.store.now in
    let fs = c.args.object.now in
    let gs = fields_mapped (says a number) fs in
    let u = json_of (says a number) fs in
    let e = c.in_ok-r.ensures in
    subst (λ (w : List ℕ). GivesValue number a (state c.stringify.new.store) (Ok (Text c.in_ok-r.r))
    (within a.limit (parts_ids (field_parts gs)) (λ n. parts_words (field_parts gs) (field_units gs + n)) w))
    (sym (json_mapped (says a number) fs)) (within_given number a (state c.stringify.new.store) {k = 2 * settle_fields a number fs +
    made_words a.limit u} a.limit (parts_ids (field_parts gs)) (λ n. parts_words (field_parts gs) (field_units gs + n)) u c.in_ok-r.r
    e.value e.throws e.uses.step e.uses.history (omega (arith, made_ids_most a.limit u)) (stringify_use a number fs c.requires.fine a.limit (length u)))

pub returns-in_err-r-clause-did : goal.returns-in_err-r-clause-did
returns-in_err-r-clause-did g c =
    let state = g.S.Strings.state in
    let number = g.S.Strings.number in
    let a = state c.args.store.now in
    let fs = c.args.object.now in
    let gs = fields_mapped (says a number) fs in
    let u = json_of (says a number) fs in
    let e = c.in_err-r.ensures in
    let p = err_from_is_err_and c.from_residual.result c.from_residual.ensures.1 in
    rw (p.1, p.2) (subst (λ (w : List ℕ). GivesValue number a (state c.stringify.new.store) (Err (stop_of c.in_err-r.field-0.0))
    (within a.limit (parts_ids (field_parts gs)) (λ n. parts_words (field_parts gs) (field_units gs + n)) w))
    (sym (json_mapped (says a number) fs)) (within_ends number a (state c.stringify.new.store) {k = 2 * settle_fields a number fs +
    made_words a.limit u} a.limit (parts_ids (field_parts gs)) (λ n. parts_words (field_parts gs) (field_units gs + n)) u
    c.in_err-r.field-0.0 e.throws e.uses.step e.uses.history e.uses.no_slots (omega (arith, made_ids_most a.limit u))
    (stringify_use a number fs c.requires.fine a.limit (length u)) (stringify_use a number fs c.requires.fine a.limit 0)))

pub stringify-requires-clause-readable : goal.stringify-requires-clause-readable
stringify-requires-clause-readable g c = fine_fields_readable (strings_of (g.S.Strings.state c.args.store.now)) g.S.Strings.number c.args.object.now c.requires.fine
