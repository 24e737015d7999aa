use Rattle.std.proofs.Common.{◌+◌, ◌/◌, ◌⊎◌, ◌≡◌, ℕ, ◌∙◌, ap, refl, subst, sym}
use Rattle.js_units.specs.Lanes.{lane_count}
use Rattle.heap_rule.specs.declared.view.View.{View}
use Rattle.heap_rule.specs.Maps.{HasKey}
use Rattle.heap_rule.specs.Views.{shown_word}
use Rattle.heap_read.proofs.Holding.{shows_on}
use Rattle.heap_read.proofs.Loaded.{has_loaded, reads_word}
use Rattle.heap_read.proofs.Showing.{forms_held, window_kept}
use Rattle.heap_read.proofs.reader.Reader.word_from.Goals as goal

pub returns-clause-word : goal.returns-clause-word
returns-clause-word g c us h = let w = c.args.w in let v : View = c.args.self.now.agent.seat.me.0 in let x : View = c.load_word_from.new.self.seat.me.0 in let e = c.load_word_from.ensures in
    let at = (w.offset + c.args.i) / lane_count w.wide in
    let is : c.args.at ≡ w.start + at = c.requires.at in
    let has : HasKey x.own_words c.args.at ⊎ HasKey x.frozen c.args.at = subst
    (λ (y : View). HasKey y.own_words c.args.at ⊎ HasKey y.frozen c.args.at) (sym e.view) (has_loaded v c.args.at c.load_word_from.result) in
    shows_on x w us c.args.i at c.load_word_from.result e.belongs.5 (window_kept v x (forms_held v x e.forms) w us e.known h) c.requires.within refl
    (subst (λ (q : ℕ). HasKey x.own_words q ⊎ HasKey x.frozen q) is has) (e.shown ∙ ap (shown_word x) is)

pub returns-clause-reads : goal.returns-clause-reads
returns-clause-reads g c = let e = c.load_word_from.ensures in record {
  heap = cc;
  view = reads_word c.args.self.now.agent.seat.me.0 c.load_word_from.new.self.seat.me.0 _ c.load_word_from.result e.known e.view;
}
