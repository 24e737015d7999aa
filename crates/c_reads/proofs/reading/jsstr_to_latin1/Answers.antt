use Rattle.std.proofs.Common.{◌∙◌, ap, sym, arith}
use Rattle.std.proofs.Common.{refl}
use Rattle.c_steps.specs.declared.bytes.JsBytes.{JsBytes}
use Rattle.c_steps.specs.Bytes.{no_bytes}
use Rattle.c_steps.proofs.Stages.{goes_on, stops}
use Rattle.c_reads.proofs.reading.jsstr_to_latin1.Goals as goal

pub returns-then-settled-ne-DONE-clause-reads : goal.returns-then-settled-ne-DONE-clause-reads
returns-then-settled-ne-DONE-clause-reads c = let first = c.settle_known-settled in let is = c.without_bytes.ensures in let e = ap (λ (x : JsBytes). x.status) is in
    stops c.args.agent.now.at.value first.new.agent.at.value c.args.s first.result first.ensures.settles _ _ _ e c.if-settled-ne-DONE.true ((is ∙ ap no_bytes (sym e), refl))

pub returns-clause-reads : goal.returns-clause-reads
returns-clause-reads c = let first = c.settle_known-settled in let two = c.write_latin1 in let n = c.if-settled-ne-DONE.false in
    goes_on c.args.agent.now.at.value first.new.agent.at.value c.args.s first.result first.ensures.settles two.new.agent.at.value _ _ _
    (omega (arith, n)) two.ensures.looks (two.ensures.told) (two.ensures.words)
    (two.ensures.given)
