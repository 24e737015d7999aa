use Rattle.std.proofs.lemmas.Result.{err_from_is_err_and}
use Rattle.std.proofs.Common.{◌≡◌, ◌∙◌, ◌<◌, ◌≤◌, inl, inr, ℕ, Bool, false, List, refl, subst, sym, arith}
use Rattle.std.specs.FinMap.{FinMap}
use Rattle.std.specs.Ordering.{nat_cmp}
use Rattle.js_header.specs.declared.form.Form.TheVariants.{Flat}
use Rattle.js_units.specs.Lanes.{words_over}
use Rattle.heap_rule.specs.declared.view.View.{View}
use Rattle.heap_rule.specs.Maps.{Has, HasKey}
use Rattle.heap_table.specs.Agents.{size_of}
use Rattle.heap_read.specs.Reads.{KeepsBeside}
use Rattle.heap_read.specs.Written.{IsWritten}
use Rattle.heap_read.proofs.Going.{continues_trans}
use Rattle.heap_read.proofs.Storing.{continues_writes}
use Rattle.heap_bytes.specs.Spellings.{spelling_units}
use Rattle.heap_text.specs.Texts.{KeepsOwnBut}
use Rattle.heap_reserve.specs.Making.{words_holding}
use Rattle.heap_reserve.specs.Reserves.{IsTakenFrom, IsTakingRefused, words_kept}
use Rattle.heap_reserve.proofs.Kept.{all_written, copy_taken, reserve_taken}
use Rattle.heap_reserve.proofs.reserve.Reserve.spell.Goals as goal

pub spell_at-requires-clause-own : goal.spell_at-requires-clause-own
spell_at-requires-clause-own g c q l = c.in_ok-given.ensures.found.there q (omega (arith, l, c.words_for.ensures))

pub bear_flat-requires-clause-own : goal.bear_flat-requires-clause-own
bear_flat-requires-clause-own g c = subst (λ (m : FinMap nat_cmp ℕ). HasKey m c.in_ok-given.given.id) (sym c.spell_at.ensures.writes.view.own_ids) c.in_ok-given.ensures.found.own_id

pub bear_flat-requires-clause-written : goal.bear_flat-requires-clause-written
bear_flat-requires-clause-written g c = let p : View = c.spell_at.new.reader.agent.seat.me.0 in let us : List ℕ = spelling_units c.args.source.now in (
  us,
  all_written p c.spell_at.new.reader.belongs.5 c.is_wide-wide.result c.in_ok-given.given.start c.words_for.result c.len-n.result us
      c.words_for.ensures (sym c.len-n.ensures) c.spell_at.ensures.written c.in_ok-given.ensures.found.none,
  sym c.len-n.ensures,
)

pub returns-clause-continues : goal.returns-clause-continues
returns-clause-continues g c = let v : View = c.args.reader.now.agent.seat.me.0 in let y : View = c.gather.new.reader.agent.seat.me.0 in let p : View = c.spell_at.new.reader.agent.seat.me.0 in
    let z : View = c.bear_flat.new.reader.agent.seat.me.0 in
    record {
      heap = c.bear_flat.ensures.continues.heap ∙ (c.spell_at.ensures.writes.heap ∙ c.gather.ensures.continues.heap);
      view = continues_trans v y z c.gather.ensures.continues.view (continues_trans y p z (continues_writes y p c.spell_at.ensures.writes.view) c.bear_flat.ensures.continues.view);
    }

pub returns-clause-reserve : goal.returns-clause-reserve
returns-clause-reserve g c = let v : View = c.args.reader.now.agent.seat.me.0 in let y : View = c.gather.new.reader.agent.seat.me.0 in let p : View = c.spell_at.new.reader.agent.seat.me.0 in
    let z : View = c.bear_flat.new.reader.agent.seat.me.0 in
    let r = c.args.self.now in let s = c.gather.new.self in let id = c.in_ok-given.given.id in let start = c.in_ok-given.given.start in
    let words = c.words_for.result in let long = c.words_for.ensures in
    reserve_taken v z r s id words c.requires.reserve (copy_taken v y p z r s id start words c.in_ok-given.ensures.found c.spell_at.ensures.writes.view
    (subst (λ (m : ℕ). KeepsBeside start m y p) (sym long) c.spell_at.ensures.others) c.bear_flat.ensures.used
    (subst (KeepsOwnBut p z id start) (sym long) c.bear_flat.ensures.own))

pub returns-clause-made : goal.returns-clause-made
returns-clause-made g c = let v : View = c.args.reader.now.agent.seat.me.0 in let y : View = c.gather.new.reader.agent.seat.me.0 in let p : View = c.spell_at.new.reader.agent.seat.me.0 in
    let z : View = c.bear_flat.new.reader.agent.seat.me.0 in
    let r = c.args.self.now in let s = c.gather.new.self in let id = c.in_ok-given.given.id in let start = c.in_ok-given.given.start in
    let words = c.words_for.result in let long = c.words_for.ensures in
    let wide = c.is_wide-wide.result in let n = c.len-n.result in
    let us : List ℕ = spelling_units c.args.source.now in
    let taken : IsTakenFrom v z r s id words = copy_taken v y p z r s id start words c.in_ok-given.ensures.found c.spell_at.ensures.writes.view
    (subst (λ (m : ℕ). KeepsBeside start m y p) (sym long) c.spell_at.ensures.others) c.bear_flat.ensures.used
    (subst (KeepsOwnBut p z id start) (sym long) c.bear_flat.ensures.own) in
    let all : words ≡ words_holding us = long ∙ (λ j. words_over (c.is_wide-wide.ensures j) (c.len-n.ensures j)) in
    let there : IsWritten p wide start us = all_written p c.spell_at.new.reader.belongs.5 wide start words n us long (sym c.len-n.ensures) c.spell_at.ensures.written c.in_ok-given.ensures.found.none in inl (
      record { id = id },
      refl,
      record {
        units = c.bear_flat.ensures.units us there (sym c.len-n.ensures);
        form = (
          start,
          subst (λ (b : Bool). Has z.forms id (Flat b start false)) c.is_wide-wide.ensures c.bear_flat.ensures.form,
          subst (λ (m : ℕ). 0 < m → m ≤ words_kept r → start ≡ r.start) all c.in_ok-given.ensures.found.first,
        );
        taken = subst (IsTakenFrom v z r s id) all taken;
      },
    )

pub returns-in_err-given-clause-made : goal.returns-in_err-given-clause-made
returns-in_err-given-clause-made g c = let v : View = c.args.reader.now.agent.seat.me.0 in let w : View = c.gather.new.reader.agent.seat.me.0 in
    let us : List ℕ = spelling_units c.args.source.now in let f = c.in_err-given.field-0.0 in let p = err_from_is_err_and c.from_residual.result c.from_residual.ensures.1 in
    let all : c.words_for.result ≡ words_holding us = c.words_for.ensures ∙ (λ j. words_over (c.is_wide-wide.ensures j) (c.len-n.ensures j)) in rw (p.1, p.2) (inr (
      f,
      refl,
      subst (λ (m : ℕ). IsTakingRefused v w (size_of (g.H.HeapRef.reached c.args.reader.now.heap)) c.args.self.now c.gather.new.self m f) all c.in_err-given.ensures.refused,
    ))
