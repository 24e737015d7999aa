use Rattle.heap_rule.specs.declared.view.View.{View}
use Rattle.heap_table.specs.Agents.{size_of}
use Rattle.std.proofs.Common.{refl, arith}
use Rattle.heap_reserve.proofs.Gathered.{words_forms, words_found, words_go, words_missed, words_none, words_there}
use Rattle.heap_reserve.proofs.reserve.Reserve.find_words.Goals as goal

pub returns-clause-found : goal.returns-clause-found
returns-clause-found g c = let e = c.claim_words.ensures in
    words_found c.args.reader.now.agent.seat.me.0 c.claim_words.new.self.seat.me.0 c.args.self.now c.args.words (size_of (g.H.HeapRef.reached c.args.reader.now.heap)).words
    (omega (arith, c.words_left.ensures, c.if-words-words_left.false)) c.claim_words.result e.view e.above_own
