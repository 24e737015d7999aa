use Rattle.std.proofs.Common.{◌+◌, ◌<◌, ◌/◌, ⊎_elim, ℕ, List, length, subst, arith}
use Rattle.js_units.specs.Lanes.{lane_count, words_over}
use Rattle.heap_rule.specs.declared.view.View.{View}
use Rattle.heap_rule.specs.Maps.{Has, HasKey}
use Rattle.heap_rule.proofs.MapLemmas.{key_of}
use Rattle.heap_read.specs.Reads.{KeepsFrom}
use Rattle.heap_read.specs.Written.{AreWords}
use Rattle.heap_read.proofs.Placing.{unit_inside}
use Rattle.heap_bytes.specs.Spellings.{spelling_units}
use Rattle.heap_bytes.proofs.Runs.{filled_words}
use Rattle.heap_bytes.proofs.writing.spell_at.Goals as goal

pub fill_spelled-requires-clause-own : goal.fill_spelled-requires-clause-own
fill_spelled-requires-clause-own g c o l = let v : View = c.args.reader.now.agent.seat.me.0 in let wide = c.args.wide in let place : ℕ = c.args.start + o / lane_count wide in
    let long = c.requires.count in key_of v.own_words place 0 (c.requires.own (o / lane_count wide) (unit_inside wide c.args.n o (omega (arith, l, long))))

pub returns-clause-written : goal.returns-clause-written
returns-clause-written g c = let v : View = c.args.reader.now.agent.seat.me.0 in let x : View = c.fill_spelled.new.reader.agent.seat.me.0 in
    let f = c.fill_spelled.ensures in let us : List ℕ = spelling_units c.args.source.now in let wide = c.args.wide in let start = c.args.start in
    let none : (q : ℕ) → q < words_over wide (length us) → Has v.own_words (start + q) 0 = λ q l. c.requires.own q (subst (λ (n : ℕ). q < words_over wide n) c.requires.count l) in
    let own : (q : ℕ) → q < words_over wide (length us) → HasKey x.own_words (start + q) = λ q l. f.writes.view.own_words (start + q) (key_of v.own_words (start + q) 0 (none q l)) in
    subst (λ (n : ℕ). AreWords x wide start us (words_over wide n)) c.requires.count (filled_words v.own_words x wide start us f.filled none own)

pub returns-clause-others : goal.returns-clause-others
returns-clause-others g c q y side h = let v : View = c.args.reader.now.agent.seat.me.0 in
    let x : View = c.fill_spelled.new.reader.agent.seat.me.0 in let f = c.fill_spelled.ensures in
    let us : List ℕ = spelling_units c.args.source.now in let wide = c.args.wide in let start = c.args.start in
    let above : KeepsFrom (start + words_over wide c.args.n) v x = subst (λ (n : ℕ). KeepsFrom (start + words_over wide n) v x) c.requires.count f.above in
    ⊎_elim (λ low. f.below q y low h) (λ high. above q y high h) side
