use Rattle.std.proofs.Common.{arith}
use Rattle.heap_bytes.proofs.PointBytes.{by_size, spells_four}
use Rattle.heap_bytes.proofs.decoding.split_four.Goals as goal
use Rattle.heap_bytes.proofs.decoding.split_four.Goals.{then-bytes-lt4-via-then-bytes-lt4, then-bytes-lt4-via-else-bytes-lt4+then-not-continues}
use Rattle.heap_bytes.proofs.decoding.split_four.Goals.{then-bytes-lt4-via-else-bytes-lt4+else-not-continues+then-not-continues-2}
use Rattle.heap_bytes.proofs.decoding.split_four.Goals.{then-bytes-lt4-via-else-bytes-lt4+else-not-continues+else-not-continues-2+then-not-continues-3}
use Rattle.heap_bytes.proofs.decoding.split_four.Goals.{then-front-lt16-via-then-front-lt16, then-front-lt16-via-else-front-lt16+then-front-ge272}

pub returns-then-bytes-lt4 : goal.returns-then-bytes-lt4
returns-then-bytes-lt4 c = λ d rest small e. let low = c.requires.first.0 in
    by_size d rest c.args.bytes.now {G = ⊥} e (λ h. omega (arith, h.0, h.2)) (λ h. omega (arith, h.1, h.3)) (λ h. omega (arith, h.1, h.3))
    (λ h. elim c.then-bytes-lt4.branch [
      | then-bytes-lt4-via-then-bytes-lt4 w ↦ omega (arith, h.1, w.if-bytes-lt4.true)
      | then-bytes-lt4-via-else-bytes-lt4+then-not-continues w ↦ w.continues.ensures.outside w.if-not-continues.true (omega (arith, h.3), omega (arith, h.3))
      | then-bytes-lt4-via-else-bytes-lt4+else-not-continues+then-not-continues-2 w ↦ w.continues-else-not-continues.ensures.outside w.if-not-continues-2.true (omega (arith, h.4), omega (arith, h.4))
      | then-bytes-lt4-via-else-bytes-lt4+else-not-continues+else-not-continues-2+then-not-continues-3 w ↦
          w.continues-else-not-continues-2.ensures.outside w.if-not-continues-3.true (omega (arith, h.5), omega (arith, h.5))
    ])

pub returns-then-front-lt16 : goal.returns-then-front-lt16
returns-then-front-lt16 c = λ d rest small e. let low = c.requires.first.0 in let a = c.from.ensures in let b = c.from-2.ensures in
    by_size d rest c.args.bytes.now {G = ⊥} e (λ h. omega (arith, h.0, h.2)) (λ h. omega (arith, h.1, h.3)) (λ h. omega (arith, h.1, h.3))
    (λ h. elim c.then-front-lt16.branch [
      | then-front-lt16-via-then-front-lt16 w ↦ omega (arith, h.0, h.2, h.3, a, b, w.if-front-lt16.true)
      | then-front-lt16-via-else-front-lt16+then-front-ge272 w ↦ omega (arith, small, h.2, h.3, a, b, w.if-front-ge272.true)
    ])

pub returns : goal.returns
returns c = let second = c.continues.ensures.within c.if-not-continues.false in let third = c.continues-else-not-continues.ensures.within c.if-not-continues-2.false in
    let last = c.continues-else-not-continues-2.ensures.within c.if-not-continues-3.false in let low = c.requires.first.0 in
    let a = c.from.ensures in let b = c.from-2.ensures in let d = c.from-3.ensures in let f = c.from-4.ensures in (
      omega (arith, a, b, d, f, c.if-front-ge272.false, third.1, last.1),
      spells_four c.args.bytes.now _ (omega (arith, c.if-bytes-lt4.false)) low second.0 second.1 third.0 third.1 last.0 last.1 (omega (arith, a, b, c.if-front-lt16.false)) (omega (arith, a, b, d, f)),
    )
