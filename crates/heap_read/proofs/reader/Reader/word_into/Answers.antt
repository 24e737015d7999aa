use Rattle.std.proofs.Common.{◌∙◌, refl, arith}
use Rattle.heap_read.proofs.Fronts.{count_some}
use Rattle.heap_read.proofs.Showing.{window_frozen}
use Rattle.heap_read.proofs.WindowLemmas.{whole_on}
use Rattle.heap_read.proofs.reader.Reader.word_into.Goals as goal

pub word_from-word-requires-clause-frozen : goal.word_from-word-requires-clause-frozen
word_from-word-requires-clause-frozen g c = window_frozen c.args.self.now.agent.seat.me.0 c.args.w c.requires.window.0 c.requires.window.1

pub word_from-word-requires-clause-within : goal.word_from-word-requires-clause-within
word_from-word-requires-clause-within g c = let some = count_some c.args.w.wide in let within = c.requires.within in omega arith

pub returns-clause-inside : goal.returns-clause-inside
returns-clause-inside g c us window k l = let within = c.requires.within in
    c.put_word.ensures.inside k l ∙ whole_on c.args.w us c.args.i c.word_from-word.result c.args.w.wide refl (c.word_from-word.ensures.word us window) c.requires.at.lowest k l (omega arith)
