use Rattle.std.proofs.Common.{arith, ◌-◌, subst, sym}
use Rattle.eval_scopes.specs.declared.frames.Frame.{Frame as CodeFrame}
use Rattle.eval_scopes.specs.Seen.{bounds_of, IsAt}
use Rattle.eval_scopes.proofs.Places.{block_place, top_place}
use Rattle.eval_scopes.proofs.Walks.{sought_from}
use Rattle.eval_scopes.proofs.scope.Scope.place_before.Goals as goal

pub returns-in-Some : goal.returns-in-Some
returns-in-Some g c =
    let s = c.args.self.now in
    let x = c.args.name.now in
    top_place s x c.args.start c.in-Some.index (omega arith) (sought_from s.blocks.frames (bounds_of s.top) x c.args.start c.requires.within c.requires.past) c.in-Some.ensures

pub returns-in-Some-at_first : goal.returns-in-Some-at_first
returns-in-Some-at_first g c =
    let s = c.args.self.now in
    let x = c.args.name.now in
    block_place s x c.args.start (c.args.start - 1) c.in-Some-at_first.index c.index-frames-block.result (omega arith)
    (omega (arith, c.requires.within)) (rw c.frames.ensures at c.index-frames-block.is)
    (sought_from s.blocks.frames (bounds_of s.top) x c.args.start c.requires.within c.requires.past)
    (subst (λ (f : CodeFrame g.row.T.Denot). IsAt (bounds_of f.bound) x c.in-Some-at_first.index) (sym c.index-frames-block.is) c.in-Some-at_first.ensures)
