use Rattle.std.proofs.Common.{◌+◌, refl, arith}
use Rattle.std.proofs.lemmas.Bool.{leb-true}
use Rattle.heap_read.proofs.Fronts.{count_some}
use Rattle.heap_read.proofs.Showing.{window_frozen}
use Rattle.heap_read.proofs.WindowLemmas.{none_in_word_on}
use Rattle.heap_read.proofs.reader.Reader.lacks_in_word.Goals as goal

pub word_from-word-requires-clause-frozen : goal.word_from-word-requires-clause-frozen
word_from-word-requires-clause-frozen g c = window_frozen c.args.self.now.agent.seat.me.0 c.args.w c.requires.window.0 c.requires.window.1

pub word_from-word-requires-clause-within : goal.word_from-word-requires-clause-within
word_from-word-requires-clause-within g c = let some = count_some c.args.w.wide in let within = c.requires.within in omega arith

pub first_from-requires : goal.first_from-requires
first_from-requires g c = let some = count_some c.args.w.wide in omega arith

pub returns-clause-none : goal.returns-clause-none
returns-clause-none g c t us window k l e =
    let within = c.requires.within in
    let past = leb-true c.lanes.result c.first_from.result t in
    let size = c.lanes.ensures in
    let i = c.args.i in
    none_in_word_on c.args.w us i c.word_from-word.result 0 (c.word_from-word.ensures.word us window) (omega arith) refl
    c.args.unit c.first_from.result c.first_from.ensures.none (i + k) (omega arith) (omega arith) (omega arith) (omega arith) e
