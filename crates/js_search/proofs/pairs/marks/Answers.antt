use Rattle.std.proofs.Common.{◌≡◌, ◌+◌, ◌<◌, eqb, subst, sym, arith}
use Rattle.std.specs.Prelude.{◌↔◌, slice_index}
use Rattle.std.specs.Int.{bit_at}
use Rattle.std.proofs.lemmas.Simd.{bitmask_splat}
use mir.Syntax.{w16}
use Rattle.js_search.proofs.Marks.{eight, eight_long, eight_marks}
use Rattle.js_search.proofs.pairs.marks.Goals as goal

pub returns : goal.returns
returns c k =
    let us = c.args.units.now in
    let e = bitmask_splat w16 eqb (eight us c.args.at) 8 c.args.unit (eight_long us c.args.at c.requires) (omega arith) in
    subst (λ m. (bit_at m k ≡ 1) ↔ ((k < 8) × (slice_index us (c.args.at + k) ≡ c.args.unit))) (sym e) (eight_marks us c.args.at c.requires c.args.unit k)
