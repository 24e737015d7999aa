use Rattle.std.proofs.Common.{rules, ◌≡◌, ◌<◌, ◌^◌, ◌≢◌, ◌∙◌, Ok, ap, sym, subst}
use Rattle.std.specs.Prelude.{decimal}
use Rattle.std.specs.Str.{IsUtf8}
use Rattle.std.proofs.lemmas.Fmt.{IsAscii-decimal, parse-decimal}
use Rattle.std.proofs.lemmas.Str.{IsUtf8-from_ascii}
use Rattle.heap_schedule.proofs.Numbers.{number_none, number_some}
use Rattle.heap_schedule.proofs.field.number_of.Goals as goal

pub returns-in-Err : goal.returns-in-Err
returns-in-Err c = sym (number_none c.args.bytes.now (λ n h e.
    c.in-Err.ensures.cases.0 (subst IsUtf8 (sym e) (IsUtf8-from_ascii (decimal n) (IsAscii-decimal n h)))))

pub returns-in-Err-parse : goal.returns-in-Err-parse
returns-in-Err-parse c = sym (number_none c.args.bytes.now (λ n h e.
    let ok : c.parse.result ≡ Ok n = parse-decimal 64 n c.in-Ok.text.now c.parse.result h h (c.in-Ok.ensures.cases.0 ∙ e) c.parse.ensures.value.0 in
    let no = c.in-Err-parse.is in
    cc))

pub returns-then-eq : goal.returns-then-eq
returns-then-eq c =
    let same : c.format.result.now ≡ c.in-Ok.text.now = search rules in
    let below : c.in-Ok-parse.number < 2 ^ 64 = search rules in
    sym (number_some c.args.bytes.now c.in-Ok-parse.number below (sym c.in-Ok.ensures.cases.0 ∙ sym same ∙ c.format.ensures.text))

pub returns : goal.returns
returns c =
    let differ : c.format.result.now ≢ c.in-Ok.text.now = search rules in
    sym (number_none c.args.bytes.now (λ n h e.
    let ok : c.parse.result ≡ Ok n = parse-decimal 64 n c.in-Ok.text.now c.parse.result h h (c.in-Ok.ensures.cases.0 ∙ e) c.parse.ensures.value.0 in
    let is = c.in-Ok-parse.is in
    let one : c.in-Ok-parse.number ≡ n = cc in
    differ (c.format.ensures.text ∙ ap decimal one ∙ sym e ∙ sym c.in-Ok.ensures.cases.0)))
