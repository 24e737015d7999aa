use Rattle.std.proofs.Common.{arith, ◌≡◌, ◌<◌, ◌-◌, suc, length, ap, sym, ◌∙◌, subst}
use Rattle.eval_scopes.specs.Seen.{bounds_of}
use Rattle.eval_scopes.proofs.Hollows.{look_blocks}
use Rattle.eval_scopes.proofs.Places.{Sought, sought_on, sought_unset, block_place, top_place, no_place}
use Rattle.eval_scopes.proofs.Walks.{sought_from}
use Rattle.eval_scopes.proofs.scope.Scope.walk.Goals as goal

pub loop-block-init : goal.loop-block-init
loop-block-init g c = sought_from c.args.self.now.blocks.frames (bounds_of c.args.self.now.top) c.args.name.now c.args.start c.requires.within c.requires.past

pub returns-in-Some : goal.returns-in-Some
returns-in-Some g c =
    let k = c.loop-block.block - 1 in
    block_place c.args.self.now c.args.name.now c.loop-block.block k c.in-Some.index c.index-frames-block.result (omega arith)
    (omega (arith, ap length c.frames-frames.ensures)) (rw c.frames-frames.ensures at c.index-frames-block.is) c.loop-block.invariant c.in-Some.ensures

pub returns-then-declares : goal.returns-then-declares
returns-then-declares g c =
    let k = c.loop-block.block - 1 in
    let fs = c.args.self.now.blocks.frames in
    let top = bounds_of c.args.self.now.top in
    let e : c.loop-block.block ≡ suc k = omega arith in
    let l : k < length fs = omega (arith, ap length c.frames-frames.ensures) in
    look_blocks c.args.self.now.blocks top c.args.name.now ∙ sought_unset fs top c.args.name.now k c.index-frames-block.result l
    (rw c.frames-frames.ensures at c.index-frames-block.is) (subst (λ q. Sought fs top c.args.name.now q) e c.loop-block.invariant)
    c.in_default.ensures (sym c.declares.ensures ∙ c.if-declares.true)

pub loop-block-preserved : goal.loop-block-preserved
loop-block-preserved g c =
    let k = c.loop-block.block - 1 in
    let fs = c.args.self.now.blocks.frames in
    let top = bounds_of c.args.self.now.top in
    let e : c.loop-block.block ≡ suc k = omega arith in
    let l : k < length fs = omega (arith, ap length c.frames-frames.ensures) in
    sought_on fs top c.args.name.now k c.index-frames-block.result l (rw c.frames-frames.ensures at c.index-frames-block.is)
    (subst (λ q. Sought fs top c.args.name.now q) e c.loop-block.invariant) c.in_default.ensures (sym c.declares.ensures ∙ c.if-declares.false)

pub returns-in-Some-position : goal.returns-in-Some-position
returns-in-Some-position g c =
    top_place c.args.self.now c.args.name.now c.loop-block.block c.in-Some-position.index (omega arith) c.loop-block.invariant c.in-Some-position.ensures

pub returns-in-None : goal.returns-in-None
returns-in-None g c =
    no_place c.args.self.now c.args.name.now c.loop-block.block (omega arith) c.loop-block.invariant c.in-None.ensures
