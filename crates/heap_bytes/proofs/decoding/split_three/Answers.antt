use Rattle.std.proofs.Common.{arith}
use Rattle.heap_bytes.proofs.PointBytes.{by_size, spells_three}
use Rattle.heap_bytes.proofs.decoding.split_three.Goals as goal
use Rattle.heap_bytes.proofs.decoding.split_three.Goals.{then-bytes-lt3-via-then-bytes-lt3, then-bytes-lt3-via-else-bytes-lt3+then-not-continues}
use Rattle.heap_bytes.proofs.decoding.split_three.Goals.{then-bytes-lt3-via-else-bytes-lt3+else-not-continues+then-not-continues-2}

pub returns-then-bytes-lt3 : goal.returns-then-bytes-lt3
returns-then-bytes-lt3 c = λ d rest small e. let low = c.requires.first.0 in let high = c.requires.first.1 in
    by_size d rest c.args.bytes.now {G = ⊥} e (λ h. omega (arith, h.0, h.2)) (λ h. omega (arith, h.1, h.3))
    (λ h. elim c.then-bytes-lt3.branch [
      | then-bytes-lt3-via-then-bytes-lt3 w ↦ omega (arith, h.2, w.if-bytes-lt3.true)
      | then-bytes-lt3-via-else-bytes-lt3+then-not-continues w ↦ w.continues.ensures.outside w.if-not-continues.true (omega (arith, h.4), omega (arith, h.4))
      | then-bytes-lt3-via-else-bytes-lt3+else-not-continues+then-not-continues-2 w ↦ w.continues-else-not-continues.ensures.outside w.if-not-continues-2.true (omega (arith, h.5), omega (arith, h.5))
    ])
    (λ h. omega (arith, h.0, h.2))

pub returns-then-front-lt32 : goal.returns-then-front-lt32
returns-then-front-lt32 c = λ d rest small e. let low = c.requires.first.0 in let high = c.requires.first.1 in
    by_size d rest c.args.bytes.now {G = ⊥} e (λ h. omega (arith, h.0, h.2)) (λ h. omega (arith, h.1, h.3))
    (λ h. omega (arith, h.0, h.3, h.4, c.from.ensures, c.from-2.ensures, c.if-front-lt32.true))
    (λ h. omega (arith, h.0, h.2))

pub returns : goal.returns
returns c = let second = c.continues.ensures.within c.if-not-continues.false in let third = c.continues-else-not-continues.ensures.within c.if-not-continues-2.false in
    let low = c.requires.first.0 in let high = c.requires.first.1 in
    let a = c.from.ensures in let b = c.from-2.ensures in let d = c.from-3.ensures in (
      omega (arith, a, b, d, high, second.1, third.1),
      spells_three c.args.bytes.now _ (omega (arith, c.if-bytes-lt3.false)) low high second.0 second.1 third.0 third.1 (omega (arith, a, b, c.if-front-lt32.false)) (omega (arith, a, b, d)),
    )
