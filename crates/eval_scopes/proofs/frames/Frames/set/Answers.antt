use Rattle.std.proofs.Common.{arith, ◌≡◌, List, map, reverse, take, subst, sym}
use Rattle.eval_scopes.specs.declared.frames.Frame.{Frame as CodeFrame}
use Rattle.eval_scopes.specs.Seen.{frame_of, outsides_of, with_hollows, stacked, put_in, InBlock}
use Rattle.eval_scopes.proofs.Stacked.{in_taken, put_in_stack}
use Rattle.eval_scopes.proofs.frames.Frames.set.Goals as goal

pub set_in_block-requires : goal.set_in_block-requires
set_in_block-requires g c =
    in_taken c.self.inside.entered c.self.inside.all.items c.args.block c.args.index
    (subst (λ (q : List (CodeFrame g.row.T.Denot)). InBlock q c.args.block c.args.index) (sym c.self.view_is) c.requires)

pub returns : goal.returns
returns g c =
    let old = c.self.inside.all.items in
    let new = c.set_in_block.new.blocks.items in
    let n = c.self.inside.entered in
    subst (λ (q : List (CodeFrame g.row.T.Denot)). stacked (take n new) ≡ with_hollows (outsides_of q) (reverse (put_in (map frame_of q) c.args.block c.args.index c.args.value))) c.self.view_is
    (put_in_stack n old new c.args.block c.args.index c.args.value c.set_in_block.ensures.put c.set_in_block.ensures.outsides)

pub invariant_of-self : goal.invariant_of-self
invariant_of-self g c =
    let h = c.self.invariant in
    let e = c.set_in_block.ensures in
    record { within = omega (arith, h.within, e.as_many); starts = e.starts c.self.inside.starts.counts c.self.inside.entered h.starts }
