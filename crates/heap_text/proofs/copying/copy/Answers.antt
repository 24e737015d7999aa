use Rattle.std.proofs.Common.{◌≡◌, ◌+◌, ◌<◌, ◌∙◌, ℕ, Bool, false, List, length, ap, subst, sym}
use Rattle.js_header.specs.declared.form.Form.TheVariants.{Flat}
use Rattle.heap_rule.specs.declared.view.View.{View}
use Rattle.heap_rule.specs.declared.size.Counter.TheVariants.{Ids}
use Rattle.heap_rule.specs.declared.size.Counters.{Counters}
use Rattle.heap_rule.specs.Maps.{Has, HasKey}
use Rattle.heap_rule.proofs.MapLemmas.{insert_same, key_of}
use Rattle.heap_read.specs.Sources.{source_units}
use Rattle.heap_text.specs.declared.faults.TextFull.TheVariants as fault
use Rattle.heap_text.specs.Texts.{IsSpared, UsesExactly}
use Rattle.js_units.specs.Lanes.{words_over}
use Rattle.heap_text.proofs.Pieces.{spared_ids, spared_words}
use Rattle.heap_read.specs.Written.{IsWritten}
use Rattle.heap_text.proofs.Owned.{own_born, own_full, own_reads, own_trans, own_written}
use Rattle.heap_text.proofs.Bearing.{written_claimed}
use Rattle.heap_read.proofs.Going.{continues_full_ids, continues_ids, continues_reads, continues_trans}
use Rattle.heap_text.proofs.copying.copy.Goals as goal

pub returns-in-Err-claim_id-clause-continues : goal.returns-in-Err-claim_id-clause-continues
returns-in-Err-claim_id-clause-continues g c = let v : View = c.args.reader.now.agent.seat.me.0 in
    let u : View = c.has_wide-wide.new.self.agent.seat.me.0 in let w : View = c.write.new.self.agent.seat.me.0 in
    let x : View = c.claim_id.new.self.seat.me.0 in
    record {
      heap = c.write.ensures.continues.heap ∙ c.has_wide-wide.ensures.reads.heap;
      view = continues_trans v u x (continues_reads v u c.has_wide-wide.ensures.reads.view)
          (continues_trans u w x c.write.ensures.continues.view (continues_full_ids w x c.in-Err-claim_id.full.at
          c.in-Err-claim_id.ensures.refused.0 c.claim_id.ensures.low));
    }

pub bear_flat-requires-clause-own : goal.bear_flat-requires-clause-own
bear_flat-requires-clause-own g c = let w : View = c.write.new.self.agent.seat.me.0 in let id = c.in-Ok-claim_id.id in
    subst (λ (y : View). HasKey y.own_ids id) (sym c.in-Ok-claim_id.ensures.view) (key_of _ id 0 (insert_same w.own_ids id 0))

pub bear_flat-requires-clause-written : goal.bear_flat-requires-clause-written
bear_flat-requires-clause-written g c = let v : View = c.args.reader.now.agent.seat.me.0 in let w : View = c.write.new.self.agent.seat.me.0 in
    let id = c.in-Ok-claim_id.id in let wide = c.has_wide-wide.result in let start = c.in-Ok.start in let us : List ℕ = source_units v c.args.source.now in
    let here : IsWritten w wide start us = subst (λ (xs : List ℕ). IsWritten w wide start xs) c.has_wide-wide.ensures.listed c.in-Ok.ensures.ok.0 in
    (us, subst (λ (a : View). IsWritten a wide start us) (sym c.in-Ok-claim_id.ensures.view) (written_claimed w id wide start us here), c.requires.count)

pub returns-clause-continues : goal.returns-clause-continues
returns-clause-continues g c = let v : View = c.args.reader.now.agent.seat.me.0 in
    let u : View = c.has_wide-wide.new.self.agent.seat.me.0 in let w : View = c.write.new.self.agent.seat.me.0 in let x : View = c.claim_id.new.self.seat.me.0 in
    let z : View = c.bear_flat.new.reader.agent.seat.me.0 in
    record {
      heap = c.bear_flat.ensures.continues.heap ∙ (c.write.ensures.continues.heap ∙ c.has_wide-wide.ensures.reads.heap);
      view = continues_trans v u z (continues_reads v u c.has_wide-wide.ensures.reads.view) (continues_trans u w z c.write.ensures.continues.view
          (continues_trans w x z (continues_ids w x c.in-Ok-claim_id.id 1 c.in-Ok-claim_id.ensures.view c.claim_id.ensures.low) c.bear_flat.ensures.continues.view));
    }

pub returns-clause-units : goal.returns-clause-units
returns-clause-units g c = let v : View = c.args.reader.now.agent.seat.me.0 in let w : View = c.write.new.self.agent.seat.me.0 in let x : View = c.claim_id.new.self.seat.me.0 in
    let id = c.in-Ok-claim_id.id in let wide = c.has_wide-wide.result in let start = c.in-Ok.start in let us : List ℕ = source_units v c.args.source.now in
    let here : IsWritten w wide start us = subst (λ (xs : List ℕ). IsWritten w wide start xs) c.has_wide-wide.ensures.listed c.in-Ok.ensures.ok.0 in
    let there : IsWritten x wide start us = subst (λ (a : View). IsWritten a wide start us) (sym c.in-Ok-claim_id.ensures.view) (written_claimed w id wide start us here) in
    c.bear_flat.ensures.units us there c.requires.count

pub returns-clause-form : goal.returns-clause-form
returns-clause-form g c = let id = c.in-Ok-claim_id.id in let start = c.in-Ok.start in
    (start, subst (λ (b : Bool). Has c.bear_flat.new.reader.agent.seat.me.0.forms id (Flat b start false)) c.has_wide-wide.ensures.wide c.bear_flat.ensures.form)

pub returns-clause-used : goal.returns-clause-used
returns-clause-used g c = let v : View = c.args.reader.now.agent.seat.me.0 in let z : View = c.bear_flat.new.reader.agent.seat.me.0 in
    let n = c.args.n in let wide = c.has_wide-wide.result in let reads = c.has_wide-wide.ensures.reads.view.used in let e = c.in-Ok-claim_id.ensures.view in
    let ids : z.used.ids ≡ v.used.ids + 1 = ap (λ (m : Counters). m.ids) c.bear_flat.ensures.used ∙
    (ap (λ (a : View). a.used.ids) e ∙ ap (λ (m : ℕ). m + 1) (c.write.ensures.ids ∙ ap (λ (m : Counters). m.ids) reads)) in
    let words : z.used.words ≡ v.used.words + words_over wide n = ap (λ (m : Counters). m.words) c.bear_flat.ensures.used ∙
    (ap (λ (a : View). a.used.words) e ∙ (c.in-Ok.ensures.ok.1 ∙ ap (λ (m : Counters). m.words + words_over wide n) reads)) in
    subst (λ (b : Bool). UsesExactly v z 1 (words_over b n)) c.has_wide-wide.ensures.wide (ids, words)

pub returns-in-Err-clause-spared : goal.returns-in-Err-clause-spared
returns-in-Err-clause-spared g c = let v : View = c.args.reader.now.agent.seat.me.0 in
    let u : View = c.has_wide-wide.new.self.agent.seat.me.0 in let w : View = c.write.new.self.agent.seat.me.0 in let e = c.write.ensures in
    let f = c.in-Err.ensures.refused in
    let n = c.args.n in subst (λ (wide : Bool). IsSpared v w (words_over wide n) (fault.Words c.in-Err.full)) c.has_wide-wide.ensures.wide
    (spared_words v u w (words_over c.has_wide-wide.result n) _ c.in-Err.full c.has_wide-wide.ensures.reads.view f.0 e.ids f.2 e.own_ids e.own_words)

pub returns-in-Err-claim_id-clause-spared : goal.returns-in-Err-claim_id-clause-spared
returns-in-Err-claim_id-clause-spared g c = let v : View = c.args.reader.now.agent.seat.me.0 in
    let u : View = c.has_wide-wide.new.self.agent.seat.me.0 in let w : View = c.write.new.self.agent.seat.me.0 in let x : View = c.claim_id.new.self.seat.me.0 in
    let e = c.write.ensures in let f = c.in-Err-claim_id.ensures.refused in let ok = c.in-Ok.ensures.ok in let n = c.args.n in
    let wide = c.has_wide-wide.result in let us : List ℕ = source_units u c.args.source.now in
    let long : length us ≡ n = ap length c.has_wide-wide.ensures.listed ∙ c.requires.count in
    let own : (q : ℕ) → q < words_over wide n → HasKey w.own_words (c.in-Ok.start + q) = λ q l. let t = ok.0.words.each q
    (subst (λ (m : ℕ). q < words_over wide m) (sym long) l) in key_of w.own_words (c.in-Ok.start + q) t.0 t.1 in
    subst (λ (b : Bool). IsSpared v x (words_over b n) (fault.Ids c.in-Err-claim_id.full)) c.has_wide-wide.ensures.wide
    (spared_ids v u w x c.in-Ok.start (words_over wide n) c.in-Err-claim_id.full.at c.in-Err-claim_id.full
    c.has_wide-wide.ensures.reads.view f.0 e.ids ok.1 e.own_ids e.own_words own c.in-Ok.ensures.fresh)

pub returns-in-Err-clause-continues : goal.returns-in-Err-clause-continues
returns-in-Err-clause-continues g c = let v : View = c.args.reader.now.agent.seat.me.0 in
    let u : View = c.has_wide-wide.new.self.agent.seat.me.0 in record {
      heap = c.write.ensures.continues.heap ∙ c.has_wide-wide.ensures.reads.heap;
      view = continues_trans v u c.write.new.self.agent.seat.me.0 (continues_reads v u c.has_wide-wide.ensures.reads.view) c.write.ensures.continues.view;
    }

pub returns-in-Err-clause-own : goal.returns-in-Err-clause-own
returns-in-Err-clause-own g c = let v : View = c.args.reader.now.agent.seat.me.0 in let u : View = c.has_wide-wide.new.self.agent.seat.me.0 in let w : View = c.write.new.self.agent.seat.me.0 in
    own_trans v u w (own_reads v u c.has_wide-wide.ensures.reads.view) (own_written u w c.write.ensures.own_ids c.write.ensures.stays)

pub returns-in-Err-claim_id-clause-own : goal.returns-in-Err-claim_id-clause-own
returns-in-Err-claim_id-clause-own g c = let v : View = c.args.reader.now.agent.seat.me.0 in
    let u : View = c.has_wide-wide.new.self.agent.seat.me.0 in let w : View = c.write.new.self.agent.seat.me.0 in
    own_full v w c.claim_id.new.self.seat.me.0 Ids c.in-Err-claim_id.full.at c.in-Err-claim_id.ensures.refused.0
    (own_trans v u w (own_reads v u c.has_wide-wide.ensures.reads.view) (own_written u w c.write.ensures.own_ids c.write.ensures.stays))

pub returns-clause-own : goal.returns-clause-own
returns-clause-own g c = let v : View = c.args.reader.now.agent.seat.me.0 in let u : View = c.has_wide-wide.new.self.agent.seat.me.0 in
    let w : View = c.write.new.self.agent.seat.me.0 in let x : View = c.claim_id.new.self.seat.me.0 in let z : View = c.bear_flat.new.reader.agent.seat.me.0 in
    own_trans v u z (own_reads v u c.has_wide-wide.ensures.reads.view)
    (own_born u w x z c.in-Ok-claim_id.id c.in-Ok.start (words_over c.has_wide-wide.result c.args.n)
    (own_written u w c.write.ensures.own_ids c.write.ensures.stays) c.in-Ok-claim_id.ensures.view c.in-Ok-claim_id.ensures.above_own
    c.bear_flat.ensures.own c.in-Ok.ensures.fresh)
