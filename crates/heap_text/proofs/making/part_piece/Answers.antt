use Rattle.std.proofs.Common.{◌+◌, length, arith}
use Rattle.js_header.specs.declared.form.Form.TheVariants.{Flat}
use Rattle.heap_rule.specs.declared.view.View.{View}
use Rattle.heap_rule.proofs.MapLemmas.{key_of}
use Rattle.heap_rule.proofs.Possible.{possible_long}
use Rattle.heap_text.proofs.Pieces.{part_shows, piece_is, piece_shows}
use Rattle.heap_text.proofs.making.part_piece.Goals as goal

pub window_on-window-requires-clause-known : goal.window_on-window-requires-clause-known
window_on-window-requires-clause-known g c = let t = c.requires.within in key_of c.args.reader.now.agent.seat.me.0.units c.args.s.id t.0 t.1

pub overflow_add-part : goal.overflow_add-part
overflow_add-part g c = let w : View = c.window_on-window.new.self.agent.seat.me.0 in let t = c.requires.within in let a = c.window_on-window.ensures.shows t.0 t.1 in
    let b = possible_long w c.window_on-window.new.self.belongs.5 a.0.id (a.0.before + length a.0.whole)
    (Flat c.window_on-window.result.wide c.window_on-window.result.start a.0.fixed) a.0.form a.0.length_known in
    let m = a.0.within in let p = a.0.place in let n = a.1 in let room = t.2 in omega arith

pub returns-clause-shows : goal.returns-clause-shows
returns-clause-shows g c = let w : View = c.window_on-window.new.self.agent.seat.me.0 in let t = c.requires.within in let us = t.0 in
    let known = c.window_on-window.ensures.reads.view.known.units c.args.s.id us t.1 in let a = c.window_on-window.ensures.shows us t.1 in
    piece_shows w c.args.s us known c.args.from _ (part_shows w c.args.s us known c.window_on-window.result c.args.from c.args.n a.1 t.2 a.0)

pub returns-clause-units : goal.returns-clause-units
returns-clause-units g c us h = let w : View = c.window_on-window.new.self.agent.seat.me.0 in let known = c.window_on-window.ensures.reads.view.known.units c.args.s.id us h in
    piece_is w c.args.s us known c.args.from (record {
      wide = c.window_on-window.result.wide;
      start = c.window_on-window.result.start;
      offset = c.window_on-window.result.offset + c.args.from;
      len = c.args.n;
    })
