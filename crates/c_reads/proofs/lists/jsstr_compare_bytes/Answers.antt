use Rattle.std.proofs.Common.{◌≡◌, ◌∙◌, ap, inl, inr, subst, sym, Option}
use Rattle.heap_bytes.specs.Spellings.{spelling_units}
use Rattle.heap_build.specs.Spelled.{IsSpelling}
use Rattle.heap_agents.specs.declared.held.Held.{Held}
use Rattle.c_steps.specs.declared.encoding.TextEncoding.{TextEncoding}
use Rattle.c_steps.specs.declared.answer.JsOrder.{JsOrder}
use Rattle.c_steps.specs.Encodings.{spells_in}
use Rattle.c_steps.specs.Lists.{ComparesSpelled, OrdersUnits}
use Rattle.c_steps.specs.Reports.{no_order}
use Rattle.c_steps.proofs.Decoded.{not_all}
use Rattle.c_reads.proofs.lists.jsstr_compare_bytes.Goals as goal

pub returns-in-Ok-clause-compares : goal.returns-in-Ok-clause-compares
returns-in-Ok-clause-compares c told = let call = c.order_spelled in let us = spelling_units c.in-Ok.spelled in
    let same = subst (λ (x : Option Held). OrdersUnits x call.new.agent.at.value c.args.s us call.result) c.knows.ensures.same call.ensures.compares in
    subst (λ (e : TextEncoding). ComparesSpelled (spells_in e) c.args.agent.now.at.value call.new.agent.at.value c.args.bytes.now call.result.status (call.result ≡ no_order call.result.status) (λ vs. OrdersUnits c.args.agent.now.at.value call.new.agent.at.value c.args.s vs call.result))
    c.encoding_by.ensures (inr (us, c.in-Ok.ensures.1, same))

pub returns-in-Err-clause-compares : goal.returns-in-Err-clause-compares
returns-in-Err-clause-compares c told = let is = c.without_order-in-Err.ensures in let e = ap (λ (x : JsOrder). x.status) is in
    let none = subst (λ (e : TextEncoding). ¬ (IsSpelling (spells_in e) c.args.bytes.now)) c.encoding_by.ensures (not_all (spells_in c.encoding_by.result) c.args.bytes.now c.in-Err.field-0 c.in-Err.ensures) in
    inl (none, e, is ∙ ap no_order (sym e), c.knows.ensures.same)
