use Rattle.std.proofs.Common.{◌≡◌, ◌∙◌, ℕ, ◌+◌, ◌-◌, ◌*◌, ◌/◌, ◌%◌, ◌^◌, ◌<◌, ◌⊎◌, refl, ap, subst, sym, arith}
use Rattle.js_units.specs.Lanes.{lane_count}
use Rattle.heap_rule.specs.declared.view.View.{View}
use Rattle.heap_rule.specs.Maps.{HasKey}
use Rattle.heap_rule.specs.Views.{shown_word}
use Rattle.heap_read.proofs.Holding.{shows_on}
use Rattle.heap_read.proofs.Loaded.{has_loaded, reads_word}
use Rattle.heap_read.proofs.Showing.{forms_held, window_kept, word_small}
use Rattle.heap_read.proofs.WordsOf.{first_number, first_within}
use Rattle.heap_read.proofs.reader.Reader.word_number.Goals as goal

pub overflow_add-w : goal.overflow_add-w
overflow_add-w g c =
    let w = c.args.w in
    let v : View = c.args.self.now.agent.seat.me.0 in
    let i = c.args.j * lane_count w.wide - w.offset % lane_count w.wide in
    let same : w.start + c.args.first + c.args.j ≡ w.start + (w.offset + i) / lane_count w.wide = first_number w.wide w.start w.offset c.args.j c.args.first c.requires.first in
    let small : w.start + (w.offset + i) / lane_count w.wide < 2 ^ 29 = word_small v w i c.args.self.now.belongs.5 c.requires.frozen
    (first_within w.wide c.args.j w.offset w.len c.requires.some c.requires.within) in
    omega arith

pub overflow_add-w-2 : goal.overflow_add-w-2
overflow_add-w-2 g c =
    let w = c.args.w in
    let v : View = c.args.self.now.agent.seat.me.0 in
    let i = c.args.j * lane_count w.wide - w.offset % lane_count w.wide in
    let same : w.start + c.args.first + c.args.j ≡ w.start + (w.offset + i) / lane_count w.wide = first_number w.wide w.start w.offset c.args.j c.args.first c.requires.first in
    let small : w.start + (w.offset + i) / lane_count w.wide < 2 ^ 29 = word_small v w i c.args.self.now.belongs.5 c.requires.frozen
    (first_within w.wide c.args.j w.offset w.len c.requires.some c.requires.within) in
    omega arith

pub returns-clause-word : goal.returns-clause-word
returns-clause-word g c us h =
    let w = c.args.w in
    let v : View = c.args.self.now.agent.seat.me.0 in
    let x : View = c.load_word.new.self.seat.me.0 in
    let e = c.load_word.ensures in
    let at = w.start + c.args.first + c.args.j in
    let i = c.args.j * lane_count w.wide - w.offset % lane_count w.wide in
    let same : at ≡ w.start + (w.offset + i) / lane_count w.wide = first_number w.wide w.start w.offset c.args.j c.args.first c.requires.first in
    let has : HasKey x.own_words at ⊎ HasKey x.frozen at = subst (λ (y : View). HasKey y.own_words at ⊎ HasKey y.frozen at) (sym e.view) (has_loaded v at c.load_word.result) in
    shows_on x w us i ((w.offset + i) / lane_count w.wide) c.load_word.result e.belongs.5 (window_kept v x (forms_held v x e.forms) w us e.known h)
    (first_within w.wide c.args.j w.offset w.len c.requires.some c.requires.within) refl
    (subst (λ (q : ℕ). HasKey x.own_words q ⊎ HasKey x.frozen q) same has) (e.shown ∙ ap (shown_word x) same)

pub returns-clause-reads : goal.returns-clause-reads
returns-clause-reads g c = let e = c.load_word.ensures in record { heap = cc; view = reads_word c.args.self.now.agent.seat.me.0 c.load_word.new.self.seat.me.0 _ c.load_word.result e.known e.view }
