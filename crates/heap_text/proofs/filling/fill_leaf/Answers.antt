use Rattle.std.proofs.Common.{◌∙◌, ◌<◌, ℕ, List, length, get_or, ap, subst, sym}
use Rattle.heap_rule.specs.declared.view.View.{View}
use Rattle.heap_read.specs.Filling.{IsFilled, own_word}
use Rattle.heap_text.specs.Filling.{units_at}
use Rattle.heap_text.proofs.Pieces.{whole_is, whole_shows}
use Rattle.heap_text.proofs.Sides.{units_there}
use Rattle.heap_text.proofs.filling.fill_leaf.Goals as goal

pub copy_lanes-requires-clause-shows : goal.copy_lanes-requires-clause-shows
copy_lanes-requires-clause-shows g c = let v : View = c.args.reader.now.agent.seat.me.0 in let i = c.args.of.id in
    whole_shows v c.args.of (units_at v i) (units_there v i c.requires.known) c.args.window (c.requires.whole ∙ sym c.requires.count) c.requires.shows

pub copy_lanes-requires-clause-count : goal.copy_lanes-requires-clause-count
copy_lanes-requires-clause-count g c = let v : View = c.args.reader.now.agent.seat.me.0 in let i = c.args.of.id in
    ap length (whole_is v c.args.of (units_at v i) (units_there v i c.requires.known) c.args.window (c.requires.whole ∙ sym c.requires.count)) ∙ c.requires.count

pub copy_lanes-requires-clause-fits : goal.copy_lanes-requires-clause-fits
copy_lanes-requires-clause-fits g c n k l = let v : View = c.args.reader.now.agent.seat.me.0 in let i = c.args.of.id in
    subst (λ (xs : List ℕ). get_or xs k 0 < 256) (sym (whole_is v c.args.of (units_at v i) (units_there v i c.requires.known) c.args.window
    (c.requires.whole ∙ sym c.requires.count))) (c.requires.fits n k l)

pub returns-clause-filled : goal.returns-clause-filled
returns-clause-filled g c = let v : View = c.args.reader.now.agent.seat.me.0 in let x : View = c.copy_lanes.new.self.agent.seat.me.0 in let i = c.args.of.id in let to = c.args.to in
    subst (λ (xs : List ℕ). IsFilled to.wide to.start (own_word v.own_words) (own_word x.own_words) c.args.at c.args.n (λ k. get_or xs k 0))
    (whole_is v c.args.of (units_at v i) (units_there v i c.requires.known) c.args.window (c.requires.whole ∙ sym c.requires.count)) c.copy_lanes.ensures.filled
