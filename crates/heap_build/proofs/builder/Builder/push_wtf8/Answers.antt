use Rattle.std.proofs.Common.{◌∙◌, sym}
use Rattle.heap_bytes.specs.declared.encoding.Encoding.TheVariants.{Wtf8}
use Rattle.heap_build.proofs.Surrogates.{units_spelled}
use Rattle.heap_build.proofs.builder.Builder.push_wtf8.Goals as goal

pub returns-clause-one : goal.returns-clause-one
returns-clause-one c = λ us vs a b. (units_spelled Wtf8 c.args.bytes.now us a).1 ∙ sym (units_spelled Wtf8 c.args.bytes.now vs b).1
