use Rattle.std.proofs.Common.{arith}
use Rattle.heap_bytes.proofs.Reading.{none_left}
use Rattle.heap_bytes.proofs.PointBytes.{by_size}
use Rattle.heap_bytes.proofs.decoding.split_point.Goals as goal

pub returns-then-is_empty : goal.returns-then-is_empty
returns-then-is_empty c = λ d rest small e. let z = none_left c.args.bytes.now c.is_empty.result c.is_empty.ensures c.if-is_empty.true in
    by_size d rest c.args.bytes.now {G = ⊥} e (λ h. omega (arith, z, h.1)) (λ h. omega (arith, z, h.2)) (λ h. omega (arith, z, h.2)) (λ h. omega (arith, z, h.1))

pub returns-then-first-lt194 : goal.returns-then-first-lt194
returns-then-first-lt194 c = λ d rest small e. let l = c.if-first-lt128.false in let h = c.if-first-lt194.true in
    by_size d rest c.args.bytes.now {G = ⊥} e (λ k. omega (arith, k.0, k.2, l)) (λ k. omega (arith, k.0, k.3, h)) (λ k. omega (arith, k.3, h)) (λ k. omega (arith, k.2, h))

pub returns : goal.returns
returns c = λ d rest small e. let l = c.if-first-lt245.false in
    by_size d rest c.args.bytes.now {G = ⊥} e (λ k. omega (arith, k.0, k.2, l)) (λ k. omega (arith, k.1, k.3, l)) (λ k. omega (arith, k.1, k.3, l)) (λ k. omega (arith, small, k.2, l))
