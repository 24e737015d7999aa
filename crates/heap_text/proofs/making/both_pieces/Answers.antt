use Rattle.std.proofs.Common.{◌++◌, ◌∙◌, arith}
use Rattle.heap_rule.specs.declared.view.View.{View}
use Rattle.heap_rule.proofs.MapLemmas.{key_of}
use Rattle.heap_text.proofs.Leading.{short_solid}
use Rattle.heap_text.proofs.Linking.{side_kept}
use Rattle.heap_read.proofs.Loaded.{reads_trans}
use Rattle.heap_text.proofs.Pieces.{whole_is, whole_shows}
use Rattle.heap_read.proofs.Showing.{window_kept}
use Rattle.heap_text.proofs.making.both_pieces.Goals as goal

pub side_forms-left-requires : goal.side_forms-left-requires
side_forms-left-requires g c = let v : View = c.args.reader.now.agent.seat.me.0 in
    let k = c.requires.known in record { known = (key_of v.units c.args.a.id k.0 k.2, key_of v.units c.args.b.id k.1 k.3) }

-- the left side
pub solid_window-front-requires-clause-known : goal.solid_window-front-requires-clause-known
solid_window-front-requires-clause-known g c =
    let k = c.requires.known in key_of c.side_forms-left.new.reader.agent.seat.me.0.units c.args.a.id k.0
    (c.side_forms-left.ensures.reads.view.known.units c.args.a.id k.0 k.2)

pub solid_window-front-requires-clause-solid : goal.solid_window-front-requires-clause-solid
solid_window-front-requires-clause-solid g c = let k = c.requires.known in let e = c.side_forms-left.ensures in
    short_solid c.side_forms-left.new.reader.agent.seat.me.0 c.side_forms-left.new.reader.belongs.5 c.args.a.id c.side_forms-left.result.0
    k.0 e.born.0 e.seen.0 (e.reads.view.known.units c.args.a.id k.0 k.2) (omega (arith, k.5, k.6, c.requires.short))

-- the right side
pub solid_window-back-requires-clause-known : goal.solid_window-back-requires-clause-known
solid_window-back-requires-clause-known g c =
    let k = c.requires.known in key_of c.solid_window-front.new.self.agent.seat.me.0.units c.args.b.id k.1
    (c.solid_window-front.ensures.reads.view.known.units c.args.b.id k.1 (c.side_forms-left.ensures.reads.view.known.units c.args.b.id k.1 k.3))

pub solid_window-back-requires-clause-seen : goal.solid_window-back-requires-clause-seen
solid_window-back-requires-clause-seen g c = c.solid_window-front.ensures.held c.args.b.id c.side_forms-left.result.1 c.side_forms-left.ensures.seen.1

pub solid_window-back-requires-clause-solid : goal.solid_window-back-requires-clause-solid
solid_window-back-requires-clause-solid g c = let k = c.requires.known in let e = c.side_forms-left.ensures in
    short_solid c.side_forms-left.new.reader.agent.seat.me.0 c.side_forms-left.new.reader.belongs.5 c.args.b.id c.side_forms-left.result.1
    k.1 e.born.1 e.seen.1 (e.reads.view.known.units c.args.b.id k.1 k.3) (omega (arith, k.4, k.6, c.requires.short))

pub solid_window-back-requires-clause-side : goal.solid_window-back-requires-clause-side
solid_window-back-requires-clause-side g c = side_kept c.side_forms-left.new.reader.agent.seat.me.0
    c.solid_window-front.new.self.agent.seat.me.0 c.solid_window-front.ensures.reads.view.known c.side_forms-left.result.1 c.side_forms-left.ensures.sides.1

pub returns-clause-reads : goal.returns-clause-reads
returns-clause-reads g c = let v : View = c.args.reader.now.agent.seat.me.0 in
    let w2 : View = c.side_forms-left.new.reader.agent.seat.me.0 in let w3 : View = c.solid_window-front.new.self.agent.seat.me.0 in
    let w4 : View = c.solid_window-back.new.self.agent.seat.me.0 in
    record {
      heap = c.solid_window-back.ensures.reads.heap ∙ (c.solid_window-front.ensures.reads.heap ∙ c.side_forms-left.ensures.reads.heap);
      view = reads_trans v w3 w4 (reads_trans v w2 w3 c.side_forms-left.ensures.reads.view c.solid_window-front.ensures.reads.view) c.solid_window-back.ensures.reads.view;
    }

pub returns-clause-shows : goal.returns-clause-shows
returns-clause-shows g c = let v : View = c.args.reader.now.agent.seat.me.0 in let k = c.requires.known in
    let w2 : View = c.side_forms-left.new.reader.agent.seat.me.0 in let w3 : View = c.solid_window-front.new.self.agent.seat.me.0 in
    let w4 : View = c.solid_window-back.new.self.agent.seat.me.0 in
    let r2 = c.side_forms-left.ensures.reads.view in
    let r3 = reads_trans v w2 w3 r2 c.solid_window-front.ensures.reads.view in let r4 = reads_trans v w3 w4 r3 c.solid_window-back.ensures.reads.view in
    let a = c.solid_window-front.ensures.shows k.0 (r2.known.units c.args.a.id k.0 k.2) in let b = c.solid_window-back.ensures.shows k.1 (r3.known.units c.args.b.id k.1 k.3) in (
      whole_shows w4 c.args.a k.0 (r4.known.units c.args.a.id k.0 k.2) c.solid_window-front.result a.1
          (window_kept w3 w4 c.solid_window-back.ensures.held c.solid_window-front.result k.0 c.solid_window-back.ensures.reads.view.known a.0),
      whole_shows w4 c.args.b k.1 (r4.known.units c.args.b.id k.1 k.3) c.solid_window-back.result b.1 b.0,
    )

pub returns-clause-units : goal.returns-clause-units
returns-clause-units g c us vs h k = let v : View = c.args.reader.now.agent.seat.me.0 in
    let w2 : View = c.side_forms-left.new.reader.agent.seat.me.0 in let w3 : View = c.solid_window-front.new.self.agent.seat.me.0 in
    let w4 : View = c.solid_window-back.new.self.agent.seat.me.0 in
    let r2 = c.side_forms-left.ensures.reads.view in
    let r3 = reads_trans v w2 w3 r2 c.solid_window-front.ensures.reads.view in let r4 = reads_trans v w3 w4 r3 c.solid_window-back.ensures.reads.view in
    let a = c.solid_window-front.ensures.shows us (r2.known.units c.args.a.id us h) in let b = c.solid_window-back.ensures.shows vs (r3.known.units c.args.b.id vs k) in
    (λ i. whole_is w4 c.args.a us (r4.known.units c.args.a.id us h) c.solid_window-front.result a.1 i ++ whole_is w4 c.args.b vs (r4.known.units c.args.b.id vs k) c.solid_window-back.result b.1 i)
