use Rattle.std.proofs.Common.{◌≤◌, ap, sym, length, subst, arith}
use Rattle.heap_rule.specs.Layout.{MAX}
use Rattle.heap_bytes.specs.declared.spelling.Spelling.{Spelling}
use Rattle.heap_bytes.specs.Spellings.{IsReadable, spelling_units}
use Rattle.heap_bytes.proofs.spelling.Spelling.len.Goals as goal

pub overflow_cast-result : goal.overflow_cast-result
overflow_cast-result c = let h = subst (λ (s : Spelling). length (spelling_units s) ≤ MAX) c.in-Latin1.is c.requires.short in omega arith

pub returns-in-Latin1 : goal.returns-in-Latin1
returns-in-Latin1 c = ap (λ (s : Spelling). length (spelling_units s)) (sym c.in-Latin1.is)

pub returns-in-Points : goal.returns-in-Points
returns-in-Points c = rw c.in-Points.is (subst IsReadable c.in-Points.is c.requires.read).1
