use Rattle.std.proofs.Common.{◌≡◌, ◌≤◌, ◌<◌, ◌+◌, ◌∙◌, ℕ, List, length, inl, ap, subst, sym, arith, Some}
use Rattle.std.specs.FinMap.{FinMap}
use Rattle.std.specs.Ordering.{nat_cmp}
use Rattle.js_header.specs.declared.form.Form.{Form}
use Rattle.js_header.specs.declared.form.Form.TheVariants.{Sliced}
use Rattle.heap_rule.specs.declared.view.View.{View}
use Rattle.heap_rule.specs.Births.{born, part, stored_length}
use Rattle.heap_rule.specs.Maps.{Has, HasKey}
use Rattle.heap_rule.proofs.MapLemmas.{key_of}
use Rattle.heap_rule.proofs.Possible.{possible_short}
use Rattle.heap_table.specs.Known.{KeepsKnown}
use Rattle.heap_text.specs.Joins.{offset_of}
use Rattle.heap_read.specs.Reads.{Continues}
use Rattle.heap_text.specs.Texts.{KeepsOwnBut}
use Rattle.heap_text.proofs.Owned.{but_part, own_reads}
use Rattle.heap_text.proofs.Cutting.{born_sliced, continues_part, cut_parent, may_part, narrow_part, offset_small, parent_below, part_units, sliced_other, told_part}
use Rattle.heap_read.proofs.Going.{continues_length, continues_reads, continues_trans, known_length}
use Rattle.heap_text.proofs.Linking.{narrow_side, wide_kept}
use Rattle.heap_read.proofs.Loaded.{known_trans, reads_trans}
use Rattle.heap_text.proofs.making.link_part_to.Goals as goal

pub form_now-whole-requires : goal.form_now-whole-requires
form_now-whole-requires g c = let t = c.requires.within in record { known = inl (key_of c.args.reader.now.agent.seat.me.0.units c.args.s.id t.0 t.1) }

pub overflow_add-offset : goal.overflow_add-offset
overflow_add-offset g c = let t = c.requires.within in
    let b = possible_short c.args.reader.now.agent.seat.me.0 c.args.reader.now.belongs.5 c.args.s.id t.0 t.1 in
    let o = offset_small c.form_now-whole.result c.form_now-whole.ensures.range in
    let room = t.2 in omega (arith, b, o, room, c.offset_of.ensures)

pub store_length-requires-clause-may : goal.store_length-requires-clause-may
store_length-requires-clause-may g c = let v : View = c.args.reader.now.agent.seat.me.0 in
    let u0 : View = c.form_now-whole.new.self.agent.seat.me.0 in let u : View = c.is_wide_side-wide.new.reader.agent.seat.me.0 in let t = c.requires.within in
    let reads = reads_trans v u0 u c.form_now-whole.ensures.reads.view c.is_wide_side-wide.ensures.reads.view in
    let b = possible_short v c.args.reader.now.belongs.5 c.args.s.id t.0 t.1 in let room = t.2 in
    (subst (λ (m : FinMap nat_cmp ℕ). HasKey m c.args.id) (sym reads.own_ids) c.requires.own, omega (arith, b, room))

pub birth-requires-clause-fits : goal.birth-requires-clause-fits
birth-requires-clause-fits g c = let v : View = c.args.reader.now.agent.seat.me.0 in
    let u0 : View = c.form_now-whole.new.self.agent.seat.me.0 in let u : View = c.is_wide_side-wide.new.reader.agent.seat.me.0 in
    let reads = reads_trans v u0 u c.form_now-whole.ensures.reads.view c.is_wide_side-wide.ensures.reads.view in let s = c.args.s.id in
    let from = c.args.from in let n = c.args.n in let whole = c.form_now-whole.result in
    let y : View = c.store_length.new.self.seat.me.0 in let id = c.args.id in let seen = c.is_wide_side-wide.ensures.held s whole c.form_now-whole.ensures.seen in
    let at : c.offset_of.result + from ≡ offset_of whole + from = ap (λ (o : ℕ). o + from) c.offset_of.ensures in
    let leaf = c.form_now-whole.ensures.settled c.requires.settled in
    let t = c.requires.within in let us = t.0 in let units : Has u.units s us = reads.known.units s us t.1 in
    let told = told_part u s from n us units t.2 c.is_wide_side-wide.new.reader.belongs.5 whole seen in
    let narrow = narrow_side u c.is_wide_side-wide.new.reader.belongs.5 s whole c.is_wide_side-wide.result us c.form_now-whole.ensures.born seen units c.is_wide_side-wide.ensures.wide in
    let less : c.parent_of-parent.result < id = subst (λ (q : ℕ). q < id) (sym c.parent_of-parent.ensures) (parent_below u c.is_wide_side-wide.new.reader.belongs.5 s whole id seen c.requires.above) in
    may_part u y id s from n c.parent_of-parent.result (c.offset_of.result + from) c.is_wide_side-wide.result whole (part from n us)
    c.store_length.ensures.view c.parent_of-parent.ensures at told less c.requires.long (cut_parent u s whole seen leaf)
    (narrow_part c.is_wide_side-wide.result from n us narrow)

pub returns-clause-continues : goal.returns-clause-continues
returns-clause-continues g c = let v : View = c.args.reader.now.agent.seat.me.0 in
    let u0 : View = c.form_now-whole.new.self.agent.seat.me.0 in let u : View = c.is_wide_side-wide.new.reader.agent.seat.me.0 in
    let reads = reads_trans v u0 u c.form_now-whole.ensures.reads.view c.is_wide_side-wide.ensures.reads.view in
    let y : View = c.store_length.new.self.seat.me.0 in let z : View = c.birth.new.self.seat.me.0 in let id = c.args.id in
    record {
      heap = c.is_wide_side-wide.ensures.reads.heap ∙ c.form_now-whole.ensures.reads.heap;
      view = continues_trans v u z (continues_reads v u reads)
          (continues_trans u y z (subst (Continues u) (sym c.store_length.ensures.view) (continues_length u id c.args.n))
          (subst (Continues y) (sym c.birth.ensures.view) (continues_part y id c.is_wide_side-wide.result c.parent_of-parent.result
          (c.offset_of.result + c.args.from) (subst (KeepsKnown y) c.birth.ensures.view c.birth.ensures.known))));
    }

pub returns-clause-used : goal.returns-clause-used
returns-clause-used g c = let v : View = c.args.reader.now.agent.seat.me.0 in let u0 : View = c.form_now-whole.new.self.agent.seat.me.0 in
    let u : View = c.is_wide_side-wide.new.reader.agent.seat.me.0 in
    let reads = reads_trans v u0 u c.form_now-whole.ensures.reads.view c.is_wide_side-wide.ensures.reads.view in
    ap (λ (w : View). w.used) c.birth.ensures.view ∙ (ap (λ (w : View). w.used) c.store_length.ensures.view ∙ reads.used)

pub returns-clause-units : goal.returns-clause-units
returns-clause-units g c us h = let v : View = c.args.reader.now.agent.seat.me.0 in
    let u0 : View = c.form_now-whole.new.self.agent.seat.me.0 in let u : View = c.is_wide_side-wide.new.reader.agent.seat.me.0 in
    let reads = reads_trans v u0 u c.form_now-whole.ensures.reads.view c.is_wide_side-wide.ensures.reads.view in let s = c.args.s.id in
    let from = c.args.from in let n = c.args.n in let whole = c.form_now-whole.result in
    let y : View = c.store_length.new.self.seat.me.0 in let id = c.args.id in let seen = c.is_wide_side-wide.ensures.held s whole c.form_now-whole.ensures.seen in
    let at : c.offset_of.result + from ≡ offset_of whole + from = ap (λ (o : ℕ). o + from) c.offset_of.ensures in
    let t = c.requires.within in let same_units : t.0 ≡ us = (let both : Some t.0 ≡ Some us = sym t.1 ∙ h in cc) in
    let room : from + n ≤ length us = subst (λ (xs : List ℕ). from + n ≤ length xs) same_units t.2 in
    let units : Has u.units s us = reads.known.units s us h in let told = told_part u s from n us units room c.is_wide_side-wide.new.reader.belongs.5 whole seen in
    subst (λ (w : View). Has w.units id (part from n us)) (sym c.birth.ensures.view)
    (part_units u y id s from n c.parent_of-parent.result (c.offset_of.result + from) c.is_wide_side-wide.result whole (part from n us)
    c.store_length.ensures.view c.parent_of-parent.ensures at told)

pub returns-clause-part : goal.returns-clause-part
returns-clause-part g c = let u : View = c.is_wide_side-wide.new.reader.agent.seat.me.0 in let y : View = c.store_length.new.self.seat.me.0 in let z : View = c.birth.new.self.seat.me.0 in
    let s = c.args.s.id in let from = c.args.from in let n = c.args.n in let whole = c.form_now-whole.result in let id = c.args.id in
    let seen = c.is_wide_side-wide.ensures.held s whole c.form_now-whole.ensures.seen in
    let is : y ≡ stored_length u id n = c.store_length.ensures.view in let bear = c.birth.ensures.view in
    let at : c.offset_of.result + from ≡ offset_of whole + from = ap (λ (o : ℕ). o + from) c.offset_of.ensures in
    let wide = c.is_wide_side-wide.result in let parent : ℕ = c.parent_of-parent.result in let offset : ℕ = c.offset_of.result + from in
    let later : KeepsKnown u z = known_trans u y z (subst (KeepsKnown u) (sym is) (known_length u id n)) c.birth.ensures.known in (
      whole,
      wide,
      subst (λ (w : View). Has w.forms s whole) (sym bear) (sliced_other y id s wide parent offset whole c.requires.above (subst (λ (w : View). Has w.forms s whole) (sym is) seen)),
      wide_kept u z later whole wide c.is_wide_side-wide.ensures.wide,
      subst (λ (f : Form). Has z.forms id f) (λ i. Sliced wide (c.parent_of-parent.ensures i) (at i))
          (subst (λ (w : View). Has w.forms id (Sliced wide parent offset)) (sym bear) (born_sliced y id wide parent offset)),
    )

pub returns-clause-own : goal.returns-clause-own
returns-clause-own g c = let v : View = c.args.reader.now.agent.seat.me.0 in let u0 : View = c.form_now-whole.new.self.agent.seat.me.0 in
    let u : View = c.is_wide_side-wide.new.reader.agent.seat.me.0 in
    let reads = reads_trans v u0 u c.form_now-whole.ensures.reads.view c.is_wide_side-wide.ensures.reads.view in let id = c.args.id in let n = c.args.n in
    let wide = c.is_wide_side-wide.result in let parent : ℕ = c.parent_of-parent.result in let offset : ℕ = c.offset_of.result + c.args.from in
    subst (λ (a : View). KeepsOwnBut v a id 0 0) (sym c.birth.ensures.view)
    (subst (λ (a : View). KeepsOwnBut v (born a id (Sliced wide parent offset)) id 0 0) (sym c.store_length.ensures.view)
    (but_part v u id n (own_reads v u reads) wide parent offset))
