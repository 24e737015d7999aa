use Rattle.std.proofs.lemmas.Result.{err_from_is_err_and}
use Rattle.std.proofs.Common.{◌≡◌, ◌+◌, ◌∙◌, ◌<◌, ◌≤◌, arith, inl, inr, ℕ, Bool, false, List, length, refl, ap, subst, sym}
use Rattle.std.specs.FinMap.{FinMap}
use Rattle.std.specs.Ordering.{nat_cmp}
use Rattle.js_header.specs.declared.form.Form.TheVariants.{Flat}
use Rattle.js_units.specs.Lanes.{is_wide, words_over}
use Rattle.heap_rule.specs.declared.size.HeapSize.{HeapSize}
use Rattle.heap_rule.specs.declared.view.View.{View}
use Rattle.heap_rule.specs.Maps.{Has, HasKey}
use Rattle.heap_rule.proofs.MapLemmas.{key_of}
use Rattle.heap_table.specs.Agents.{size_of}
use Rattle.heap_read.specs.Reads.{Continues, KeepsBeside}
use Rattle.heap_read.specs.Sources.{source_units}
use Rattle.heap_read.specs.Written.{AreWords, IsWritten}
use Rattle.heap_read.proofs.Going.{continues_reads, continues_trans}
use Rattle.heap_read.proofs.Listing.{listed_same, shows_kept}
use Rattle.heap_read.proofs.Showing.{forms_held}
use Rattle.heap_read.proofs.Storing.{continues_writes}
use Rattle.heap_text.specs.Texts.{KeepsOwn, KeepsOwnBut}
use Rattle.heap_text.proofs.Owned.{own_reads, own_trans}
use Rattle.heap_reserve.specs.Making.{words_holding}
use Rattle.heap_reserve.specs.Reserves.{IsReserve, IsTakenFrom, IsTakingRefused, words_kept}
use Rattle.heap_reserve.proofs.Kept.{all_written, copy_taken, refused_after, reserve_kept, reserve_taken, taken_after}
use Rattle.heap_reserve.proofs.reserve.Reserve.copy.Goals as goal

pub gather-requires : goal.gather-requires
gather-requires g c = let v : View = c.args.reader.now.agent.seat.me.0 in let u : View = c.has_wide-wide.new.self.agent.seat.me.0 in
    record { reserve = reserve_kept v u c.args.self.now (own_reads v u c.has_wide-wide.ensures.reads.view) c.requires.reserve }

pub write_at-requires-clause-shows : goal.write_at-requires-clause-shows
write_at-requires-clause-shows g c = let u : View = c.has_wide-wide.new.self.agent.seat.me.0 in let y : View = c.gather.new.reader.agent.seat.me.0 in
    shows_kept u y c.args.source.now c.gather.ensures.continues.view.known (forms_held u y c.gather.ensures.forms.0) c.has_wide-wide.ensures.shows

pub write_at-requires-clause-count : goal.write_at-requires-clause-count
write_at-requires-clause-count g c = let u : View = c.has_wide-wide.new.self.agent.seat.me.0 in let y : View = c.gather.new.reader.agent.seat.me.0 in
    ap length (listed_same u y c.args.source.now c.gather.ensures.continues.view.known c.has_wide-wide.ensures.shows ∙ c.has_wide-wide.ensures.listed) ∙ c.requires.count

pub write_at-requires-clause-wide : goal.write_at-requires-clause-wide
write_at-requires-clause-wide g c = let u : View = c.has_wide-wide.new.self.agent.seat.me.0 in let y : View = c.gather.new.reader.agent.seat.me.0 in
    c.has_wide-wide.ensures.wide ∙ ap is_wide (sym (listed_same u y c.args.source.now c.gather.ensures.continues.view.known c.has_wide-wide.ensures.shows ∙ c.has_wide-wide.ensures.listed))

pub write_at-requires-clause-own : goal.write_at-requires-clause-own
write_at-requires-clause-own g c q l = let y : View = c.gather.new.reader.agent.seat.me.0 in let start = c.in_ok-given.given.start in
    key_of y.own_words (start + q) 0 (c.in_ok-given.ensures.found.there q (omega (arith, l, c.words_for.ensures)))

pub bear_flat-requires-clause-own : goal.bear_flat-requires-clause-own
bear_flat-requires-clause-own g c = subst (λ (m : FinMap nat_cmp ℕ). HasKey m c.in_ok-given.given.id) (sym c.write_at.ensures.writes.view.own_ids) c.in_ok-given.ensures.found.own_id

pub bear_flat-requires-clause-written : goal.bear_flat-requires-clause-written
bear_flat-requires-clause-written g c = let v : View = c.args.reader.now.agent.seat.me.0 in let u : View = c.has_wide-wide.new.self.agent.seat.me.0 in let y : View = c.gather.new.reader.agent.seat.me.0 in
    let p : View = c.write_at.new.self.agent.seat.me.0 in let wide = c.has_wide-wide.result in let start = c.in_ok-given.given.start in let n = c.args.n in
    let us : List ℕ = source_units v c.args.source.now in
    let listed : source_units y c.args.source.now ≡ us = listed_same u y c.args.source.now c.gather.ensures.continues.view.known c.has_wide-wide.ensures.shows ∙ c.has_wide-wide.ensures.listed in
    let here : AreWords p wide start us (words_over wide n) = subst (λ (xs : List ℕ). AreWords p wide start xs (words_over wide n)) listed c.write_at.ensures.written in
    (us, all_written p c.write_at.new.self.belongs.5 wide start c.words_for.result n us c.words_for.ensures c.requires.count here c.in_ok-given.ensures.found.none, c.requires.count)

pub returns-clause-continues : goal.returns-clause-continues
returns-clause-continues g c = let v : View = c.args.reader.now.agent.seat.me.0 in
    let u : View = c.has_wide-wide.new.self.agent.seat.me.0 in let y : View = c.gather.new.reader.agent.seat.me.0 in let p : View = c.write_at.new.self.agent.seat.me.0 in
    let z : View = c.bear_flat.new.reader.agent.seat.me.0 in
    record {
      heap = c.bear_flat.ensures.continues.heap ∙ (c.write_at.ensures.writes.heap ∙ (c.gather.ensures.continues.heap ∙ c.has_wide-wide.ensures.reads.heap));
      view = continues_trans v u z (continues_reads v u c.has_wide-wide.ensures.reads.view)
          (continues_trans u y z c.gather.ensures.continues.view (continues_trans y p z (continues_writes y p c.write_at.ensures.writes.view) c.bear_flat.ensures.continues.view));
    }

pub returns-clause-reserve : goal.returns-clause-reserve
returns-clause-reserve g c = let v : View = c.args.reader.now.agent.seat.me.0 in let u : View = c.has_wide-wide.new.self.agent.seat.me.0 in let y : View = c.gather.new.reader.agent.seat.me.0 in
    let p : View = c.write_at.new.self.agent.seat.me.0 in let z : View = c.bear_flat.new.reader.agent.seat.me.0 in
    let r = c.args.self.now in let s = c.gather.new.self in let id = c.in_ok-given.given.id in let start = c.in_ok-given.given.start in
    let words = c.words_for.result in let long = c.words_for.ensures in
    let taken : IsTakenFrom u z r s id words = copy_taken u y p z r s id start words c.in_ok-given.ensures.found c.write_at.ensures.writes.view
    (subst (λ (m : ℕ). KeepsBeside start m y p) (sym long) c.write_at.ensures.others) c.bear_flat.ensures.used
    (subst (KeepsOwnBut p z id start) (sym long) c.bear_flat.ensures.own) in
    reserve_taken v z r s id words c.requires.reserve (taken_after v u z r s id words c.has_wide-wide.ensures.reads.view taken)

pub returns-clause-made : goal.returns-clause-made
returns-clause-made g c = let v : View = c.args.reader.now.agent.seat.me.0 in let u : View = c.has_wide-wide.new.self.agent.seat.me.0 in let y : View = c.gather.new.reader.agent.seat.me.0 in
    let p : View = c.write_at.new.self.agent.seat.me.0 in let z : View = c.bear_flat.new.reader.agent.seat.me.0 in
    let r = c.args.self.now in let s = c.gather.new.self in let id = c.in_ok-given.given.id in let start = c.in_ok-given.given.start in
    let words = c.words_for.result in let long = c.words_for.ensures in
    let wide = c.has_wide-wide.result in let n = c.args.n in
    let us : List ℕ = source_units v c.args.source.now in
    let listed : source_units y c.args.source.now ≡ us = listed_same u y c.args.source.now c.gather.ensures.continues.view.known c.has_wide-wide.ensures.shows ∙ c.has_wide-wide.ensures.listed in
    let taken : IsTakenFrom u z r s id words = copy_taken u y p z r s id start words c.in_ok-given.ensures.found c.write_at.ensures.writes.view
    (subst (λ (m : ℕ). KeepsBeside start m y p) (sym long) c.write_at.ensures.others) c.bear_flat.ensures.used
    (subst (KeepsOwnBut p z id start) (sym long) c.bear_flat.ensures.own) in
    let all : words ≡ words_holding us = long ∙ (λ j. words_over (c.has_wide-wide.ensures.wide j) (sym c.requires.count j)) in
    let here : AreWords p wide start us (words_over wide n) = subst (λ (xs : List ℕ). AreWords p wide start xs (words_over wide n)) listed c.write_at.ensures.written in
    let there : IsWritten p wide start us = all_written p c.write_at.new.self.belongs.5 wide start words n us long c.requires.count here c.in_ok-given.ensures.found.none in inl (
      record { id = id },
      refl,
      record {
        units = c.bear_flat.ensures.units us there c.requires.count;
        form = (
          start,
          subst (λ (b : Bool). Has z.forms id (Flat b start false)) c.has_wide-wide.ensures.wide c.bear_flat.ensures.form,
          subst (λ (m : ℕ). 0 < m → m ≤ words_kept r → start ≡ r.start) all c.in_ok-given.ensures.found.first,
        );
        taken = subst (IsTakenFrom v z r s id) all (taken_after v u z r s id words c.has_wide-wide.ensures.reads.view taken);
      },
    )

pub returns-in_err-given-clause-continues : goal.returns-in_err-given-clause-continues
returns-in_err-given-clause-continues g c = let v : View = c.args.reader.now.agent.seat.me.0 in let u : View = c.has_wide-wide.new.self.agent.seat.me.0 in record {
  heap = c.gather.ensures.continues.heap ∙ c.has_wide-wide.ensures.reads.heap;
  view = continues_trans v u c.gather.new.reader.agent.seat.me.0 (continues_reads v u c.has_wide-wide.ensures.reads.view) c.gather.ensures.continues.view;
}

pub returns-in_err-given-clause-made : goal.returns-in_err-given-clause-made
returns-in_err-given-clause-made g c = let v : View = c.args.reader.now.agent.seat.me.0 in let u : View = c.has_wide-wide.new.self.agent.seat.me.0 in let w : View = c.gather.new.reader.agent.seat.me.0 in
    let r = c.args.self.now in let s = c.gather.new.self in let us : List ℕ = source_units v c.args.source.now in let words = c.words_for.result in
    let all : words ≡ words_holding us = c.words_for.ensures ∙ (λ j. words_over (c.has_wide-wide.ensures.wide j) (sym c.requires.count j)) in
    let same : size_of (g.H.HeapRef.reached c.has_wide-wide.new.self.heap) ≡ size_of (g.H.HeapRef.reached c.args.reader.now.heap) = ap (λ y. size_of (g.H.HeapRef.reached y)) c.has_wide-wide.ensures.reads.heap in
    let f = c.in_err-given.field-0.0 in let p = err_from_is_err_and c.from_residual.result c.from_residual.ensures.1 in rw (p.1, p.2) (inr (
      f,
      refl,
      subst (λ (m : ℕ). IsTakingRefused v w (size_of (g.H.HeapRef.reached c.args.reader.now.heap)) r s m f) all
          (refused_after v u w (size_of (g.H.HeapRef.reached c.args.reader.now.heap)) r s words f c.has_wide-wide.ensures.reads.view
          (subst (λ (z : HeapSize). IsTakingRefused u w z r s words f) same c.in_err-given.ensures.refused)),
    ))
