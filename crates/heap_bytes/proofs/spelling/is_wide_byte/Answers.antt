use Rattle.std.proofs.Common.{sym, arith}
use Rattle.js_units.proofs.PackedWords.{none_wide}
use Rattle.heap_bytes.proofs.spelling.is_wide_byte.Goals as goal

pub returns : goal.returns
returns c = sym (none_wide c.args._bytes.now (λ q l. let f = c.type_inv._bytes q in omega (arith, f)))
