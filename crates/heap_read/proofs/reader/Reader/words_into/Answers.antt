use Rattle.std.proofs.Common.{◌∙◌, ◌+◌, arith, refl, get_or-set_other}
use Rattle.heap_rule.specs.declared.view.View.{View}
use Rattle.heap_read.proofs.Loaded.{reads_trans}
use Rattle.heap_read.proofs.Showing.{window_length}
use Rattle.heap_read.proofs.WindowLemmas.{forms_trans, frozen_later, window_later}
use Rattle.heap_read.proofs.WordsOf.{word_shows, words_more}
use Rattle.heap_read.proofs.reader.Reader.words_into.Goals as goal

pub word_number-word-requires-clause-frozen : goal.word_number-word-requires-clause-frozen
word_number-word-requires-clause-frozen g c = let v : View = c.args.self.now.agent.seat.me.0 in let u : View = c.loop-k.self.agent.seat.me.0 in let s = c.loop-k.invariant in
    frozen_later v u c.args.w c.requires.window.0 s.reads s.forms c.requires.window.1

pub loop-k-preserved : goal.loop-k-preserved
loop-k-preserved g c =
    let v : View = c.args.self.now.agent.seat.me.0 in
    let u : View = c.loop-k.self.agent.seat.me.0 in
    let x : View = c.word_number-word.new.self.agent.seat.me.0 in
    let s = c.loop-k.invariant in
    let e = c.word_number-word.ensures in
    let w = c.args.w in
    let k = c.loop-k.k in
    record {
      same = λ us window.
          let shows = e.word us (window_later v u w us s.reads s.forms window) in
          let long = window_length v w us window in
          words_more w.wide _ us c.args.at k c.word_number-word.result c.loop-k.into (omega arith) (s.same us window)
          (λ i l a. word_shows w us (c.args.at + k) _ c.word_number-word.result refl shows i (omega arith) a);
      rest = λ j l. get_or-set_other c.loop-k.into k j c.word_number-word.result 0 (λ d. omega arith) ∙ s.rest j (omega arith);
      heap = e.reads.heap ∙ s.heap;
      reads = reads_trans v u x s.reads e.reads.view;
      forms = forms_trans v u x s.forms e.forms;
    }

pub returns-clause-words : goal.returns-clause-words
returns-clause-words g c us window = record { each = λ i l low high. (c.loop-k.invariant.same us window).each i l low (omega arith) }
