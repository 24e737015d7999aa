use Rattle.std.proofs.Common.{◌≡◌, ◌∙◌, List, ap, subst, get_or, length, sym, arith}
use Rattle.eval_scopes.specs.declared.frames.Frame.{Frame as CodeFrame}
use Rattle.eval_scopes.proofs.Places.{in_block, at_block, bound_get, got_block}
use Rattle.eval_scopes.proofs.scope.Scope.at.Goals as goal

pub bounds-frames-block : goal.bounds-frames-block
bounds-frames-block g c =
    let h = rw c.in-Block.is at c.requires in
    omega (arith, ap length c.frames.ensures, in_block c.args.self.now.blocks.frames c.in-Block.block c.in-Block.index h)

pub offset_bounds-frames-block : goal.offset_bounds-frames-block
offset_bounds-frames-block g c =
    let h = rw c.in-Block.is at c.requires in
    omega (arith, ap length c.frames.ensures, in_block c.args.self.now.blocks.frames c.in-Block.block c.in-Block.index h)

pub bounds-list-index-in-Block : goal.bounds-list-index-in-Block
bounds-list-index-in-Block g c =
    let h = rw c.in-Block.is at c.requires in
    let f = c.index-frames-block.result in
    let p = subst (λ (q : List (CodeFrame g.row.T.Denot)). f ≡ get_or q c.in-Block.block f) c.frames.ensures c.index-frames-block.is in
    let e = c.list-in-Block.ensures ∙ ap (λ (q : CodeFrame g.row.T.Denot). q.bound) (sym c.index-frames-block.is) in
    omega (arith, ap length e, at_block c.args.self.now.blocks.frames c.in-Block.block c.in-Block.index f h p)

pub offset_bounds-list-index-in-Block : goal.offset_bounds-list-index-in-Block
offset_bounds-list-index-in-Block g c =
    let h = rw c.in-Block.is at c.requires in
    let f = c.index-frames-block.result in
    let p = subst (λ (q : List (CodeFrame g.row.T.Denot)). f ≡ get_or q c.in-Block.block f) c.frames.ensures c.index-frames-block.is in
    let e = c.list-in-Block.ensures ∙ ap (λ (q : CodeFrame g.row.T.Denot). q.bound) (sym c.index-frames-block.is) in
    omega (arith, ap length e, at_block c.args.self.now.blocks.frames c.in-Block.block c.in-Block.index f h p)

pub returns-in-Top : goal.returns-in-Top
returns-in-Top g c =
    let h = rw c.in-Top.is at c.requires in
    rw (c.in-Top.is) (sym (bound_get c.args.self.now.top c.in-Top.index c.index-list-index.result h (rw c.list.ensures at c.index-list-index.is)))

pub returns-in-Block : goal.returns-in-Block
returns-in-Block g c =
    let h = rw c.in-Block.is at c.requires in
    let f = c.index-frames-block.result in
    let p = subst (λ (q : List (CodeFrame g.row.T.Denot)). f ≡ get_or q c.in-Block.block f) c.frames.ensures c.index-frames-block.is in
    let e = c.list-in-Block.ensures ∙ ap (λ (q : CodeFrame g.row.T.Denot). q.bound) (sym c.index-frames-block.is) in
    rw (c.in-Block.is) (got_block c.args.self.now.blocks.frames c.in-Block.block c.in-Block.index f c.index-list-index-in-Block.result h p (rw e at c.index-list-index-in-Block.is))
