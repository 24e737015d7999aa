use Rattle.std.proofs.Common.{◌+◌, ◌⊎◌, subst, sym, arith}
use Rattle.heap_rule.specs.declared.view.View.{View}
use Rattle.heap_rule.specs.Maps.{HasKey}
use Rattle.heap_read.proofs.Holding.{shows_on}
use Rattle.heap_read.proofs.Loaded.{has_loaded, reads_word}
use Rattle.heap_read.proofs.Showing.{forms_held, place_small, window_kept, word_small}
use Rattle.heap_read.proofs.reader.Reader.word_with.Goals as goal

pub overflow_add-w : goal.overflow_add-w
overflow_add-w g c = let a = place_small c.args.self.now.agent.seat.me.0 c.args.w c.args.i c.args.self.now.belongs.5 c.requires.frozen c.requires.within in omega arith

pub overflow_add-w-2 : goal.overflow_add-w-2
overflow_add-w-2 g c = rw c.word_and_lane-at.ensures.0 (let a = word_small c.args.self.now.agent.seat.me.0 c.args.w c.args.i
    c.args.self.now.belongs.5 c.requires.frozen c.requires.within in omega arith)

pub returns-clause-word : goal.returns-clause-word
returns-clause-word g c us h = let w = c.args.w in let v : View = c.args.self.now.agent.seat.me.0 in let x : View = c.load_word.new.self.seat.me.0 in let e = c.load_word.ensures in
    let at = c.word_and_lane-at.result.0 in
    let has : HasKey x.own_words (w.start + at) ⊎ HasKey x.frozen (w.start + at) = subst
    (λ (y : View). HasKey y.own_words (w.start + at) ⊎ HasKey y.frozen (w.start + at)) (sym e.view) (has_loaded v (w.start + at) c.load_word.result) in
    shows_on x w us c.args.i at c.load_word.result e.belongs.5 (window_kept v x (forms_held v x e.forms) w us e.known h) c.requires.within c.word_and_lane-at.ensures.0 has e.shown

pub returns-clause-reads : goal.returns-clause-reads
returns-clause-reads g c = let e = c.load_word.ensures in record { heap = cc; view = reads_word c.args.self.now.agent.seat.me.0 c.load_word.new.self.seat.me.0 _ c.load_word.result e.known e.view }
