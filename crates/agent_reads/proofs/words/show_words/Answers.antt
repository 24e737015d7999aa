use Rattle.std.proofs.Common.{arith}
use Rattle.heap_rule.proofs.MapLemmas.{has_key}
use Rattle.heap_table.specs.Agents.{view_of}
use Rattle.heap_read.proofs.Loaded.{reads_trans}
use Rattle.heap_read.proofs.WindowLemmas.{window_later, window_short}
use Rattle.agent_reads.proofs.words.show_words.Goals as goal

pub shown_in-shown-requires : goal.shown_in-shown-requires
shown_in-shown-requires g c =
    let made = c.window-window in
    let u = has_key (view_of c.args.text.now.reader.agent).units c.args.s.id c.requires.known in
    window_short (view_of made.new.self.reader.agent) made.result u.0 made.new.self.reader.belongs.5 (made.ensures.shows u.0 u.1).0

pub words_in-requires-clause-window : goal.words_in-requires-clause-window
words_in-requires-clause-window g c =
    let u = has_key (view_of c.args.text.now.reader.agent).units c.args.s.id c.requires.known in
    (u.0, (c.window-window.ensures.shows u.0 u.1).0)

pub returns-clause-reads : goal.returns-clause-reads
returns-clause-reads g c = reads_trans _ _ _ c.window-window.ensures.reads c.words_in.ensures.reads

pub returns-clause-there : goal.returns-clause-there
returns-clause-there g c us h =
    let made = c.window-window in
    let read = c.words_in in
    let shows = made.ensures.shows us h in
    record {
      each = λ l.
          let there = c.shown_in-shown.ensures.there (omega (arith, shows.1)) in
          (made.result, window_later (view_of made.new.self.reader.agent) (view_of read.new.self.reader.agent) made.result us read.ensures.reads read.ensures.forms shows.0, there.0, there.1);
    }
