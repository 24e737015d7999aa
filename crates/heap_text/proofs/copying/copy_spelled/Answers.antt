use Rattle.std.proofs.Common.{◌≡◌, ◌+◌, ◌<◌, ◌∙◌, ℕ, Bool, false, List, length, ap, subst, sym}
use Rattle.js_header.specs.declared.form.Form.TheVariants.{Flat}
use Rattle.heap_rule.specs.declared.view.View.{View}
use Rattle.heap_rule.specs.declared.size.Counter.TheVariants.{Ids}
use Rattle.heap_rule.specs.declared.size.Counters.{Counters}
use Rattle.heap_rule.specs.Maps.{Has, HasKey}
use Rattle.heap_rule.proofs.MapLemmas.{insert_same, key_of}
use Rattle.heap_bytes.specs.Spellings.{spelling_units}
use Rattle.heap_text.specs.declared.faults.TextFull.TheVariants as fault
use Rattle.heap_text.specs.Texts.{IsSpared, UsesExactly}
use Rattle.js_units.specs.Lanes.{is_wide, words_over}
use Rattle.heap_text.proofs.Pieces.{spared_ids, spared_words}
use Rattle.heap_read.specs.Written.{IsWritten}
use Rattle.heap_text.proofs.Owned.{own_born, own_full, own_written}
use Rattle.heap_text.proofs.Bearing.{written_claimed}
use Rattle.heap_read.proofs.Going.{continues_full_ids, continues_ids, continues_trans}
use Rattle.heap_read.proofs.Loaded.{reads_refl}
use Rattle.heap_text.proofs.copying.copy_spelled.Goals as goal

pub returns-in-Err-claim_id-clause-continues : goal.returns-in-Err-claim_id-clause-continues
returns-in-Err-claim_id-clause-continues g c = let v : View = c.args.reader.now.agent.seat.me.0 in
    let w : View = c.write_spelled.new.reader.agent.seat.me.0 in let x : View = c.claim_id.new.self.seat.me.0 in
    record {
      heap = c.write_spelled.ensures.continues.heap;
      view = continues_trans v w x c.write_spelled.ensures.continues.view
          (continues_full_ids w x c.in-Err-claim_id.full.at c.in-Err-claim_id.ensures.refused.0 c.claim_id.ensures.low);
    }

pub bear_flat-requires-clause-own : goal.bear_flat-requires-clause-own
bear_flat-requires-clause-own g c = let w : View = c.write_spelled.new.reader.agent.seat.me.0 in let id = c.in-Ok-claim_id.id in
    subst (λ (y : View). HasKey y.own_ids id) (sym c.in-Ok-claim_id.ensures.view) (key_of _ id 0 (insert_same w.own_ids id 0))

pub bear_flat-requires-clause-written : goal.bear_flat-requires-clause-written
bear_flat-requires-clause-written g c = let w : View = c.write_spelled.new.reader.agent.seat.me.0 in let id = c.in-Ok-claim_id.id in
    let wide = c.is_wide-wide.result in let start = c.in-Ok.start in let us : List ℕ = spelling_units c.args.source.now in
    (us, subst (λ (a : View). IsWritten a wide start us) (sym c.in-Ok-claim_id.ensures.view) (written_claimed w id wide start us c.in-Ok.ensures.ok.0), sym c.len-n.ensures)

pub returns-clause-continues : goal.returns-clause-continues
returns-clause-continues g c = let v : View = c.args.reader.now.agent.seat.me.0 in
    let w : View = c.write_spelled.new.reader.agent.seat.me.0 in let x : View = c.claim_id.new.self.seat.me.0 in
    let z : View = c.bear_flat.new.reader.agent.seat.me.0 in
    record {
      heap = c.bear_flat.ensures.continues.heap ∙ c.write_spelled.ensures.continues.heap;
      view = continues_trans v w z c.write_spelled.ensures.continues.view
          (continues_trans w x z (continues_ids w x c.in-Ok-claim_id.id 1 c.in-Ok-claim_id.ensures.view c.claim_id.ensures.low) c.bear_flat.ensures.continues.view);
    }

pub returns-clause-units : goal.returns-clause-units
returns-clause-units g c = let w : View = c.write_spelled.new.reader.agent.seat.me.0 in let x : View = c.claim_id.new.self.seat.me.0 in
    let id = c.in-Ok-claim_id.id in let wide = c.is_wide-wide.result in let start = c.in-Ok.start in let us : List ℕ = spelling_units c.args.source.now in
    let there : IsWritten x wide start us = subst (λ (a : View). IsWritten a wide start us) (sym c.in-Ok-claim_id.ensures.view) (written_claimed w id wide start us c.in-Ok.ensures.ok.0) in
    c.bear_flat.ensures.units us there (sym c.len-n.ensures)

pub returns-clause-form : goal.returns-clause-form
returns-clause-form g c = let id = c.in-Ok-claim_id.id in let start = c.in-Ok.start in
    (start, subst (λ (b : Bool). Has c.bear_flat.new.reader.agent.seat.me.0.forms id (Flat b start false)) c.is_wide-wide.ensures c.bear_flat.ensures.form)

pub returns-clause-used : goal.returns-clause-used
returns-clause-used g c = let v : View = c.args.reader.now.agent.seat.me.0 in let z : View = c.bear_flat.new.reader.agent.seat.me.0 in
    let n = c.len-n.result in let wide = c.is_wide-wide.result in let us : List ℕ = spelling_units c.args.source.now in let e = c.in-Ok-claim_id.ensures.view in
    let long : words_over wide n ≡ words_over (is_wide us) (length us) = (λ j. words_over (c.is_wide-wide.ensures j) (c.len-n.ensures j)) in
    let ids : z.used.ids ≡ v.used.ids + 1 = ap (λ (m : Counters). m.ids) c.bear_flat.ensures.used ∙ (ap (λ (a : View). a.used.ids) e ∙ ap (λ (m : ℕ). m + 1) c.write_spelled.ensures.ids) in
    let words : z.used.words ≡ v.used.words + words_over wide n = ap (λ (m : Counters). m.words) c.bear_flat.ensures.used ∙ (ap (λ (a : View). a.used.words) e ∙ c.in-Ok.ensures.ok.1) in
    subst (UsesExactly v z 1) long (ids, words)

pub returns-in-Err-clause-spared : goal.returns-in-Err-clause-spared
returns-in-Err-clause-spared g c = let v : View = c.args.reader.now.agent.seat.me.0 in
    let w : View = c.write_spelled.new.reader.agent.seat.me.0 in let e = c.write_spelled.ensures in let f = c.in-Err.ensures.refused in
    let wide = c.is_wide-wide.result in let n = c.len-n.result in let us : List ℕ = spelling_units c.args.source.now in
    let words : words_over wide n ≡ words_over (is_wide us) (length us) = (λ j. words_over (c.is_wide-wide.ensures j) (c.len-n.ensures j)) in
    subst (λ (m : ℕ). IsSpared v w m (fault.Words c.in-Err.full)) words (spared_words v v w (words_over wide n) _ c.in-Err.full (reads_refl v) f.0 e.ids f.2 e.own_ids e.own_words)

pub returns-in-Err-claim_id-clause-spared : goal.returns-in-Err-claim_id-clause-spared
returns-in-Err-claim_id-clause-spared g c = let v : View = c.args.reader.now.agent.seat.me.0 in
    let w : View = c.write_spelled.new.reader.agent.seat.me.0 in let x : View = c.claim_id.new.self.seat.me.0 in
    let e = c.write_spelled.ensures in let f = c.in-Err-claim_id.ensures.refused in let ok = c.in-Ok.ensures.ok in let n = c.len-n.result in
    let wide = c.is_wide-wide.result in let us : List ℕ = spelling_units c.args.source.now in
    let long : length us ≡ n = sym c.len-n.ensures in let words : words_over wide n ≡ words_over (is_wide us) (length us) = (λ j. words_over (c.is_wide-wide.ensures j) (c.len-n.ensures j)) in
    let own : (q : ℕ) → q < words_over wide n → HasKey w.own_words (c.in-Ok.start + q) = λ q l. let t = ok.0.words.each q
    (subst (λ (m : ℕ). q < words_over wide m) (sym long) l) in key_of w.own_words (c.in-Ok.start + q) t.0 t.1 in
    subst (λ (m : ℕ). IsSpared v x m (fault.Ids c.in-Err-claim_id.full)) words
    (spared_ids v v w x c.in-Ok.start (words_over wide n) c.in-Err-claim_id.full.at c.in-Err-claim_id.full (reads_refl v) f.0 e.ids ok.1 e.own_ids e.own_words own c.in-Ok.ensures.fresh)

pub returns-in-Err-clause-own : goal.returns-in-Err-clause-own
returns-in-Err-clause-own g c = let v : View = c.args.reader.now.agent.seat.me.0 in
    let w : View = c.write_spelled.new.reader.agent.seat.me.0 in own_written v w c.write_spelled.ensures.own_ids c.write_spelled.ensures.stays

pub returns-in-Err-claim_id-clause-own : goal.returns-in-Err-claim_id-clause-own
returns-in-Err-claim_id-clause-own g c = let v : View = c.args.reader.now.agent.seat.me.0 in let w : View = c.write_spelled.new.reader.agent.seat.me.0 in
    own_full v w c.claim_id.new.self.seat.me.0 Ids c.in-Err-claim_id.full.at c.in-Err-claim_id.ensures.refused.0 (own_written v w c.write_spelled.ensures.own_ids c.write_spelled.ensures.stays)

pub returns-clause-own : goal.returns-clause-own
returns-clause-own g c = let v : View = c.args.reader.now.agent.seat.me.0 in let w : View = c.write_spelled.new.reader.agent.seat.me.0 in
    let x : View = c.claim_id.new.self.seat.me.0 in let z : View = c.bear_flat.new.reader.agent.seat.me.0 in
    own_born v w x z c.in-Ok-claim_id.id c.in-Ok.start (words_over c.is_wide-wide.result c.len-n.result)
    (own_written v w c.write_spelled.ensures.own_ids c.write_spelled.ensures.stays) c.in-Ok-claim_id.ensures.view
    c.in-Ok-claim_id.ensures.above_own c.bear_flat.ensures.own c.in-Ok.ensures.fresh
