use Rattle.std.proofs.Common.{arith}
use Rattle.heap_bytes.proofs.PointBytes.{by_size, spells_two}
use Rattle.heap_bytes.proofs.decoding.split_two.Goals as goal
use Rattle.heap_bytes.proofs.decoding.split_two.Goals.{then-bytes-lt2-via-then-bytes-lt2, then-bytes-lt2-via-else-bytes-lt2+then-not-continues}

pub returns-then-bytes-lt2 : goal.returns-then-bytes-lt2
returns-then-bytes-lt2 c = λ d rest small e. let low = c.requires.first.0 in let high = c.requires.first.1 in
    by_size d rest c.args.bytes.now {G = ⊥} e (λ h. omega (arith, h.0, h.2))
    (λ h. elim c.then-bytes-lt2.branch [
      | then-bytes-lt2-via-then-bytes-lt2 w ↦ omega (arith, h.2, w.if-bytes-lt2.true)
      | then-bytes-lt2-via-else-bytes-lt2+then-not-continues w ↦ w.continues.ensures.outside w.if-not-continues.true (omega (arith, h.4), omega (arith, h.4))
    ])
    (λ h. omega (arith, h.0, h.3)) (λ h. omega (arith, h.0, h.2))

pub returns : goal.returns
returns c = let second = c.continues.ensures.within c.if-not-continues.false in let low = c.requires.first.0 in let high = c.requires.first.1 in
    let first = c.from.ensures in let next = c.from-2.ensures in (
      omega (arith, first, next, high, second.1),
      spells_two c.args.bytes.now _ (omega (arith, c.if-bytes-lt2.false)) low high second.0 second.1 (omega (arith, first, next)),
    )
