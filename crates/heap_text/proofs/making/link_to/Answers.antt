use Rattle.std.proofs.Common.{◌≡◌, ◌++◌, ◌∙◌, ℕ, Bool, ap, subst, sym}
use Rattle.std.specs.FinMap.{FinMap}
use Rattle.std.specs.Ordering.{nat_cmp}
use Rattle.js_header.specs.declared.form.Form.TheVariants.{Cons}
use Rattle.heap_rule.specs.declared.view.View.{View}
use Rattle.heap_rule.specs.Births.{born, stored_length}
use Rattle.heap_rule.specs.Forms.{IsNarrow}
use Rattle.heap_rule.specs.Maps.{Has, HasKey}
use Rattle.heap_rule.proofs.MapLemmas.{insert_same, key_of}
use Rattle.heap_table.specs.Known.{KeepsKnown}
use Rattle.heap_read.specs.Reads.{Continues}
use Rattle.heap_read.proofs.Going.{continues_length, continues_reads, continues_trans, known_length}
use Rattle.heap_text.specs.Texts.{KeepsOwnBut}
use Rattle.heap_text.proofs.Owned.{but_rope, own_reads}
use Rattle.heap_text.proofs.Linking.{born_cons, born_other, born_rope, continues_rope, narrow_both, narrow_side, side_kept, wide_kept}
use Rattle.heap_read.proofs.Loaded.{known_trans, reads_trans}
use Rattle.heap_text.proofs.making.link_to.Goals as goal

pub side_forms-front-requires : goal.side_forms-front-requires
side_forms-front-requires g c = let v : View = c.args.reader.now.agent.seat.me.0 in
    let k = c.requires.known in record { known = (key_of v.units c.args.a.id k.0 k.2, key_of v.units c.args.b.id k.1 k.3) }

pub is_wide_side-right-requires-clause-seen : goal.is_wide_side-right-requires-clause-seen
is_wide_side-right-requires-clause-seen g c = c.is_wide_side-left.ensures.held c.args.b.id c.side_forms-front.result.1 c.side_forms-front.ensures.seen.1

pub is_wide_side-right-requires-clause-side : goal.is_wide_side-right-requires-clause-side
is_wide_side-right-requires-clause-side g c = side_kept c.side_forms-front.new.reader.agent.seat.me.0
    c.is_wide_side-left.new.reader.agent.seat.me.0 c.is_wide_side-left.ensures.reads.view.known c.side_forms-front.result.1 c.side_forms-front.ensures.sides.1

pub store_length-requires-clause-may : goal.store_length-requires-clause-may
store_length-requires-clause-may g c = let v : View = c.args.reader.now.agent.seat.me.0 in
    let u0 : View = c.side_forms-front.new.reader.agent.seat.me.0 in let u1 : View = c.is_wide_side-left.new.reader.agent.seat.me.0 in
    let u : View = c.is_wide_side-right.new.reader.agent.seat.me.0 in
    let reads = reads_trans v u1 u (reads_trans v u0 u1 c.side_forms-front.ensures.reads.view c.is_wide_side-left.ensures.reads.view) c.is_wide_side-right.ensures.reads.view in
    (subst (λ (m : FinMap nat_cmp ℕ). HasKey m c.args.id) (sym reads.own_ids) c.requires.own, c.requires.long.1)

pub birth-requires-clause-fits : goal.birth-requires-clause-fits
birth-requires-clause-fits g c = let v : View = c.args.reader.now.agent.seat.me.0 in
    let u0 : View = c.side_forms-front.new.reader.agent.seat.me.0 in let u1 : View = c.is_wide_side-left.new.reader.agent.seat.me.0 in
    let u : View = c.is_wide_side-right.new.reader.agent.seat.me.0 in
    let reads = reads_trans v u1 u (reads_trans v u0 u1 c.side_forms-front.ensures.reads.view
    c.is_wide_side-left.ensures.reads.view) c.is_wide_side-right.ensures.reads.view in let y : View = c.store_length.new.self.seat.me.0 in
    let k = c.requires.known in let e = c.side_forms-front.ensures in let id = c.args.id in let n = c.args.n in let a = c.args.a.id in let b = c.args.b.id in
    let is : y ≡ stored_length u id n = c.store_length.ensures.view in
    let left : Has u.units a k.0 = reads.known.units a k.0 k.2 in let right : Has u.units b k.1 = reads.known.units b k.1 k.3 in
    let own : Has y.own_ids id n = subst (λ (w : View). Has w.own_ids id n) (sym is) (insert_same u.own_ids id n) in
    let front = c.side_forms-front.result.0 in let back = c.side_forms-front.result.1 in let l = c.is_wide_side-left in let r = c.is_wide_side-right in
    let narrow : IsNarrow c.is_either-wide.result (k.0 ++ k.1) = subst (λ (w : Bool). IsNarrow w (k.0 ++ k.1)) (sym c.is_either-wide.ensures)
    (narrow_both l.result r.result k.0 k.1
    (narrow_side u c.is_wide_side-right.new.reader.belongs.5 a front l.result k.0 e.born.0
    (r.ensures.held a front (l.ensures.held a front e.seen.0)) left (wide_kept u1 u r.ensures.reads.view.known front l.result l.ensures.wide))
    (narrow_side u c.is_wide_side-right.new.reader.belongs.5 b back r.result k.1 e.born.1 (r.ensures.held b back (l.ensures.held b back e.seen.1)) right r.ensures.wide)) in (
      n,
      own,
      (
        c.requires.above.0,
        c.requires.above.1,
        c.requires.long.0,
        (
          k.0,
          k.1,
          subst (λ (w : View). Has w.units a k.0) (sym is) left,
          subst (λ (w : View). Has w.units b k.1) (sym is) right,
          k.4,
          k.5,
          k.6,
          narrow,
        ),
      ),
    )

pub returns-clause-continues : goal.returns-clause-continues
returns-clause-continues g c = let v : View = c.args.reader.now.agent.seat.me.0 in
    let u0 : View = c.side_forms-front.new.reader.agent.seat.me.0 in let u1 : View = c.is_wide_side-left.new.reader.agent.seat.me.0 in
    let u : View = c.is_wide_side-right.new.reader.agent.seat.me.0 in
    let reads = reads_trans v u1 u (reads_trans v u0 u1 c.side_forms-front.ensures.reads.view
    c.is_wide_side-left.ensures.reads.view) c.is_wide_side-right.ensures.reads.view in let y : View = c.store_length.new.self.seat.me.0 in
    let z : View = c.birth.new.self.seat.me.0 in
    let id = c.args.id in let n = c.args.n in
    record {
      heap = c.is_wide_side-right.ensures.reads.heap ∙ (c.is_wide_side-left.ensures.reads.heap ∙ c.side_forms-front.ensures.reads.heap);
      view = continues_trans v u z (continues_reads v u reads)
          (continues_trans u y z (subst (Continues u) (sym c.store_length.ensures.view) (continues_length u id n))
          (subst (Continues y) (sym c.birth.ensures.view) (continues_rope y id c.is_either-wide.result c.args.a.id c.args.b.id (subst (KeepsKnown y) c.birth.ensures.view c.birth.ensures.known))));
    }

pub returns-clause-used : goal.returns-clause-used
returns-clause-used g c = let v : View = c.args.reader.now.agent.seat.me.0 in
    let u0 : View = c.side_forms-front.new.reader.agent.seat.me.0 in let u1 : View = c.is_wide_side-left.new.reader.agent.seat.me.0 in
    let u : View = c.is_wide_side-right.new.reader.agent.seat.me.0 in
    let reads = reads_trans v u1 u (reads_trans v u0 u1 c.side_forms-front.ensures.reads.view c.is_wide_side-left.ensures.reads.view) c.is_wide_side-right.ensures.reads.view in
    ap (λ (w : View). w.used) c.birth.ensures.view ∙ (ap (λ (w : View). w.used) c.store_length.ensures.view ∙ reads.used)

pub returns-clause-units : goal.returns-clause-units
returns-clause-units g c us vs h k = let v : View = c.args.reader.now.agent.seat.me.0 in
    let u0 : View = c.side_forms-front.new.reader.agent.seat.me.0 in let u1 : View = c.is_wide_side-left.new.reader.agent.seat.me.0 in
    let u : View = c.is_wide_side-right.new.reader.agent.seat.me.0 in
    let reads = reads_trans v u1 u (reads_trans v u0 u1 c.side_forms-front.ensures.reads.view
    c.is_wide_side-left.ensures.reads.view) c.is_wide_side-right.ensures.reads.view in let y : View = c.store_length.new.self.seat.me.0 in
    let id = c.args.id in let n = c.args.n in let a = c.args.a.id in let b = c.args.b.id in let is : y ≡ stored_length u id n = c.store_length.ensures.view in
    subst (λ (w : View). Has w.units id (us ++ vs)) (sym c.birth.ensures.view)
    (born_rope y id n c.is_either-wide.result a b us vs (subst (λ (w : View). Has w.units a us) (sym is) (reads.known.units a us h))
    (subst (λ (w : View). Has w.units b vs) (sym is) (reads.known.units b vs k)))

pub returns-clause-rope : goal.returns-clause-rope
returns-clause-rope g c = let u1 : View = c.is_wide_side-left.new.reader.agent.seat.me.0 in
    let u : View = c.is_wide_side-right.new.reader.agent.seat.me.0 in let y : View = c.store_length.new.self.seat.me.0 in
    let z : View = c.birth.new.self.seat.me.0 in
    let e = c.side_forms-front.ensures in let id = c.args.id in let n = c.args.n in let wide = c.is_either-wide.result in
    let a = c.args.a.id in let b = c.args.b.id in let front = c.side_forms-front.result.0 in let back = c.side_forms-front.result.1 in
    let is : y ≡ stored_length u id n = c.store_length.ensures.view in let bear = c.birth.ensures.view in let l = c.is_wide_side-left in let r = c.is_wide_side-right in
    let later : KeepsKnown u z = known_trans u y z (subst (KeepsKnown u) (sym is) (known_length u id n)) c.birth.ensures.known in (
      front,
      back,
      l.result,
      r.result,
      subst (λ (w : View). Has w.forms a front) (sym bear) (born_other y id a wide a b front c.requires.above.0
          (subst (λ (w : View). Has w.forms a front) (sym is) (r.ensures.held a front (l.ensures.held a front e.seen.0)))),
      subst (λ (w : View). Has w.forms b back) (sym bear) (born_other y id b wide a b back c.requires.above.1
          (subst (λ (w : View). Has w.forms b back) (sym is) (r.ensures.held b back (l.ensures.held b back e.seen.1)))),
      wide_kept u z later front l.result (wide_kept u1 u r.ensures.reads.view.known front l.result l.ensures.wide),
      wide_kept u z later back r.result r.ensures.wide,
      subst (λ (q : Bool). Has z.forms id (Cons q a b)) c.is_either-wide.ensures (subst (λ (w : View). Has w.forms id (Cons wide a b)) (sym bear) (born_cons y id wide a b)),
    )

pub returns-clause-own : goal.returns-clause-own
returns-clause-own g c = let v : View = c.args.reader.now.agent.seat.me.0 in
    let u0 : View = c.side_forms-front.new.reader.agent.seat.me.0 in let u1 : View = c.is_wide_side-left.new.reader.agent.seat.me.0 in
    let u : View = c.is_wide_side-right.new.reader.agent.seat.me.0 in
    let reads = reads_trans v u1 u (reads_trans v u0 u1 c.side_forms-front.ensures.reads.view c.is_wide_side-left.ensures.reads.view) c.is_wide_side-right.ensures.reads.view in
    let id = c.args.id in let n = c.args.n in let f = Cons c.is_either-wide.result c.args.a.id c.args.b.id in
    subst (λ (a : View). KeepsOwnBut v a id 0 0) (sym c.birth.ensures.view)
    (subst (λ (a : View). KeepsOwnBut v (born a id f) id 0 0) (sym c.store_length.ensures.view)
    (but_rope v u id n (own_reads v u reads) c.is_either-wide.result c.args.a.id c.args.b.id))
