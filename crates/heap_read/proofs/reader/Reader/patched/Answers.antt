use Rattle.std.proofs.Common.{◌≡◌, ◌∙◌, ℕ, ap, refl, subst, sym}
use Rattle.std.specs.FinMap.{FinMap}
use Rattle.std.specs.Ordering.{nat_cmp}
use Rattle.js_units.specs.Lanes.{lane_of}
use Rattle.heap_rule.specs.declared.view.View.{View}
use Rattle.heap_rule.specs.Maps.{HasKey}
use Rattle.heap_read.specs.Filling.{IsPlaced, own_word}
use Rattle.heap_read.proofs.Loaded.{reads_refl, reads_word}
use Rattle.heap_read.proofs.Placing.{whole_placed}
use Rattle.heap_read.proofs.Storing.{shown_own}
use Rattle.heap_read.proofs.reader.Reader.patched.Goals as goal

pub returns-then-count-lanes-clause-reads : goal.returns-then-count-lanes-clause-reads
returns-then-count-lanes-clause-reads g c = record { heap = refl; view = reads_refl c.args.self.now.agent.seat.me.0 }

pub returns-then-count-lanes-clause-placed : goal.returns-then-count-lanes-clause-placed
returns-then-count-lanes-clause-placed g c = whole_placed c.args.wide (own_word c.args.self.now.agent.seat.me.0.own_words c.args.at) c.args.part c.args.low c.args.count
    (lane_of c.args.wide c.args.part) (c.if-count-lanes.true ∙ c.lanes.ensures) c.requires.room (λ k l. refl)

pub returns-clause-placed : goal.returns-clause-placed
returns-clause-placed g c = let v : View = c.args.self.now.agent.seat.me.0 in let w : View = c.load_word-word.new.self.seat.me.0 in let at = c.args.at in
    let e = c.load_word-word.ensures in let x = c.load_word-word.result in let r = reads_word v w at x e.known e.view in
    let own : HasKey w.own_words at = subst (λ (m : FinMap nat_cmp ℕ). HasKey m at) (sym r.own_words) c.requires.own in
    let word : x ≡ own_word v.own_words at = e.shown ∙ (shown_own w at own ∙ ap (λ (m : FinMap nat_cmp ℕ). own_word m at) r.own_words) in
    subst (λ (n : ℕ). IsPlaced c.args.wide n c.replaced.result c.args.low c.args.count (lane_of c.args.wide c.args.part)) word c.replaced.ensures
