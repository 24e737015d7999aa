use Rattle.std.proofs.Common.{ℕ, ◌+◌, ◌-◌, ◌/◌, ◌<◌, List, length, get_or, refl, ap, sym, subst, ◌∙◌, arith}
use Rattle.std.specs.FinMap.{FinMap}
use Rattle.std.specs.Ordering.{nat_cmp}
use Rattle.js_units.specs.Lanes.{lane_count}
use Rattle.js_header.specs.declared.form.Form.{Form}
use Rattle.js_header.specs.declared.form.Form.TheVariants.{Cons}
use Rattle.heap_rule.specs.declared.view.View.{View}
use Rattle.heap_rule.specs.Maps.{Has, HasKey}
use Rattle.heap_read.specs.Filling.{IsFilled, own_word}
use Rattle.heap_text.specs.Filling.{units_at}
use Rattle.heap_read.specs.Sides.{KnowsSide}
use Rattle.heap_text.proofs.Progress.{left_fits, right_fits}
use Rattle.heap_read.specs.Windows.{IsWindow}
use Rattle.heap_text.proofs.Sides.{units_there}
use Rattle.heap_read.proofs.Solids.{no_cons}
use Rattle.heap_read.proofs.Storing.{below_reads, writes_reads, writes_refl, writes_trans}
use Rattle.heap_text.proofs.Turning.{both_here, same_half, turn_both, turn_left, turn_right, units_kept}
use Rattle.heap_read.proofs.Loaded.{key_kept}
use Rattle.heap_text.proofs.filling.+fill.Goals as goal

pub loop-left-init : goal.loop-left-init
loop-left-init g t c = let v : View = c.args.reader.now.agent.seat.me.0 in record {
  heap = refl;
  writes = writes_refl v;
  below = λ q y l h. h;
  above = λ i b l r less h. h;
  lower = omega arith;
  known = c.requires.known;
  filling = record {
    count = c.requires.count;
    some = c.requires.some;
    within = omega arith;
    fewer = omega arith;
    fits = c.requires.fits;
    rest = λ after h. h;
  };
  behind = omega arith;
  loads = λ k l. omega arith;
  more = omega arith;
  steps = omega arith;
}

-- a leaf
pub leaf_window-window-requires-clause-known : goal.leaf_window-window-requires-clause-known
leaf_window-window-requires-clause-known g t c = let v : View = c.args.reader.now.agent.seat.me.0 in
    let uu : View = c.loop-left.reader.agent.seat.me.0 in let ff : View = c.form_now-form.new.self.agent.seat.me.0 in
    let wide = c.args.to.wide in let start : ℕ = c.args.to.start in let id : ℕ = c.loop-left.id in let at : ℕ = c.loop-left.at in
    let n : ℕ = c.loop-left.n in let i = c.loop-left.invariant in let e = c.form_now-form.ensures in let fil = i.filling in
    key_kept uu ff id e.reads.view.known i.known

pub leaf_window-window-requires-clause-leaf : goal.leaf_window-window-requires-clause-leaf
leaf_window-window-requires-clause-leaf g t c = no_cons c.form_now-form.result c.in_default.not-Cons

pub fill_leaf-requires-clause-known : goal.fill_leaf-requires-clause-known
fill_leaf-requires-clause-known g t c = let v : View = c.args.reader.now.agent.seat.me.0 in
    let uu : View = c.loop-left.reader.agent.seat.me.0 in let ff : View = c.form_now-form.new.self.agent.seat.me.0 in
    let wide = c.args.to.wide in let start : ℕ = c.args.to.start in let id : ℕ = c.loop-left.id in let at : ℕ = c.loop-left.at in
    let n : ℕ = c.loop-left.n in let i = c.loop-left.invariant in let e = c.form_now-form.ensures in let fil = i.filling in
    let gg : View = c.leaf_window-window.new.reader.agent.seat.me.0 in let w = c.leaf_window-window.ensures in
    key_kept ff gg id w.reads.view.known (key_kept uu ff id e.reads.view.known i.known)

pub fill_leaf-requires-clause-shows : goal.fill_leaf-requires-clause-shows
fill_leaf-requires-clause-shows g t c = let v : View = c.args.reader.now.agent.seat.me.0 in
    let uu : View = c.loop-left.reader.agent.seat.me.0 in let ff : View = c.form_now-form.new.self.agent.seat.me.0 in
    let wide = c.args.to.wide in let start : ℕ = c.args.to.start in let id : ℕ = c.loop-left.id in let at : ℕ = c.loop-left.at in
    let n : ℕ = c.loop-left.n in let i = c.loop-left.invariant in let e = c.form_now-form.ensures in let fil = i.filling in
    let gg : View = c.leaf_window-window.new.reader.agent.seat.me.0 in let w = c.leaf_window-window.ensures in
    let key = key_kept uu ff id e.reads.view.known i.known in
    subst (IsWindow gg c.leaf_window-window.result) (sym (units_kept ff gg id w.reads.view.known key)) (w.shows (units_at ff id) (units_there ff id key)).0

pub fill_leaf-requires-clause-whole : goal.fill_leaf-requires-clause-whole
fill_leaf-requires-clause-whole g t c = let v : View = c.args.reader.now.agent.seat.me.0 in
    let uu : View = c.loop-left.reader.agent.seat.me.0 in let ff : View = c.form_now-form.new.self.agent.seat.me.0 in
    let wide = c.args.to.wide in let start : ℕ = c.args.to.start in let id : ℕ = c.loop-left.id in let at : ℕ = c.loop-left.at in
    let n : ℕ = c.loop-left.n in let i = c.loop-left.invariant in let e = c.form_now-form.ensures in let fil = i.filling in
    let gg : View = c.leaf_window-window.new.reader.agent.seat.me.0 in let w = c.leaf_window-window.ensures in
    let key = key_kept uu ff id e.reads.view.known i.known in
    (w.shows (units_at ff id) (units_there ff id key)).1 ∙ (ap length (units_kept uu ff id e.reads.view.known i.known) ∙ fil.count)

pub fill_leaf-requires-clause-count : goal.fill_leaf-requires-clause-count
fill_leaf-requires-clause-count g t c = let v : View = c.args.reader.now.agent.seat.me.0 in
    let uu : View = c.loop-left.reader.agent.seat.me.0 in let ff : View = c.form_now-form.new.self.agent.seat.me.0 in
    let wide = c.args.to.wide in let start : ℕ = c.args.to.start in let id : ℕ = c.loop-left.id in let at : ℕ = c.loop-left.at in
    let n : ℕ = c.loop-left.n in let i = c.loop-left.invariant in let e = c.form_now-form.ensures in let fil = i.filling in
    let gg : View = c.leaf_window-window.new.reader.agent.seat.me.0 in let w = c.leaf_window-window.ensures in
    let key = key_kept uu ff id e.reads.view.known i.known in
    ap length (units_kept ff gg id w.reads.view.known key ∙ units_kept uu ff id e.reads.view.known i.known) ∙ fil.count

pub fill_leaf-requires-clause-short : goal.fill_leaf-requires-clause-short
fill_leaf-requires-clause-short g t c = let v : View = c.args.reader.now.agent.seat.me.0 in
    let uu : View = c.loop-left.reader.agent.seat.me.0 in let ff : View = c.form_now-form.new.self.agent.seat.me.0 in
    let wide = c.args.to.wide in let start : ℕ = c.args.to.start in let id : ℕ = c.loop-left.id in let at : ℕ = c.loop-left.at in
    let n : ℕ = c.loop-left.n in let i = c.loop-left.invariant in let e = c.form_now-form.ensures in let fil = i.filling in
    let gg : View = c.leaf_window-window.new.reader.agent.seat.me.0 in let w = c.leaf_window-window.ensures in
    omega (arith, fil.within, c.requires.short)

pub fill_leaf-requires-clause-own : goal.fill_leaf-requires-clause-own
fill_leaf-requires-clause-own g t c o l k = let v : View = c.args.reader.now.agent.seat.me.0 in
    let uu : View = c.loop-left.reader.agent.seat.me.0 in let ff : View = c.form_now-form.new.self.agent.seat.me.0 in
    let wide = c.args.to.wide in let start : ℕ = c.args.to.start in let id : ℕ = c.loop-left.id in let at : ℕ = c.loop-left.at in
    let n : ℕ = c.loop-left.n in let i = c.loop-left.invariant in let e = c.form_now-form.ensures in let fil = i.filling in
    let gg : View = c.leaf_window-window.new.reader.agent.seat.me.0 in let w = c.leaf_window-window.ensures in
    subst (λ (x : FinMap nat_cmp ℕ). HasKey x (start + o / lane_count wide)) (sym (w.reads.view.own_words ∙ e.reads.view.own_words))
    (i.writes.own_words (start + o / lane_count wide) (c.requires.own o (omega (arith, i.behind, l)) (omega (arith, k, fil.within))))

pub fill_leaf-requires-clause-fits : goal.fill_leaf-requires-clause-fits
fill_leaf-requires-clause-fits g t c b k l = let v : View = c.args.reader.now.agent.seat.me.0 in
    let uu : View = c.loop-left.reader.agent.seat.me.0 in let ff : View = c.form_now-form.new.self.agent.seat.me.0 in
    let wide = c.args.to.wide in let start : ℕ = c.args.to.start in let id : ℕ = c.loop-left.id in let at : ℕ = c.loop-left.at in
    let n : ℕ = c.loop-left.n in let i = c.loop-left.invariant in let e = c.form_now-form.ensures in let fil = i.filling in
    let gg : View = c.leaf_window-window.new.reader.agent.seat.me.0 in let w = c.leaf_window-window.ensures in
    let key = key_kept uu ff id e.reads.view.known i.known in
    subst (λ (us : List ℕ). get_or us k 0 < 256) (sym (units_kept ff gg id w.reads.view.known key ∙ units_kept uu ff id e.reads.view.known i.known)) (fil.fits b k l)

pub returns-in_default-clause-writes : goal.returns-in_default-clause-writes
returns-in_default-clause-writes g t c = let v : View = c.args.reader.now.agent.seat.me.0 in
    let uu : View = c.loop-left.reader.agent.seat.me.0 in let ff : View = c.form_now-form.new.self.agent.seat.me.0 in
    let wide = c.args.to.wide in let start : ℕ = c.args.to.start in let id : ℕ = c.loop-left.id in let at : ℕ = c.loop-left.at in
    let n : ℕ = c.loop-left.n in let i = c.loop-left.invariant in let e = c.form_now-form.ensures in let fil = i.filling in
    let gg : View = c.leaf_window-window.new.reader.agent.seat.me.0 in let w = c.leaf_window-window.ensures in
    let x : View = c.fill_leaf.new.reader.agent.seat.me.0 in
    record {
      heap = cc;
      view = writes_trans v uu x i.writes (writes_trans uu ff x (writes_reads uu ff e.reads.view)
          (writes_trans ff gg x (writes_reads ff gg w.reads.view) c.fill_leaf.ensures.writes.view));
    }

pub returns-in_default-clause-above : goal.returns-in_default-clause-above
returns-in_default-clause-above g t c q b l r less h = let v : View = c.args.reader.now.agent.seat.me.0 in
    let uu : View = c.loop-left.reader.agent.seat.me.0 in let ff : View = c.form_now-form.new.self.agent.seat.me.0 in
    let wide = c.args.to.wide in let start : ℕ = c.args.to.start in let id : ℕ = c.loop-left.id in let at : ℕ = c.loop-left.at in
    let n : ℕ = c.loop-left.n in let i = c.loop-left.invariant in let e = c.form_now-form.ensures in let fil = i.filling in
    let gg : View = c.leaf_window-window.new.reader.agent.seat.me.0 in let w = c.leaf_window-window.ensures in
    subst (λ (m : FinMap nat_cmp Form). Has m q (Cons b l r)) (sym c.fill_leaf.ensures.forms.0)
    (w.above q b l r (omega (arith, less, i.lower)) (e.others q (λ is. absurd (omega (arith, is, less, i.lower))) ∙ i.above q b l r less h))

pub returns-in_default-clause-filled : goal.returns-in_default-clause-filled
returns-in_default-clause-filled g t c = let v : View = c.args.reader.now.agent.seat.me.0 in
    let uu : View = c.loop-left.reader.agent.seat.me.0 in let ff : View = c.form_now-form.new.self.agent.seat.me.0 in
    let wide = c.args.to.wide in let start : ℕ = c.args.to.start in let id : ℕ = c.loop-left.id in let at : ℕ = c.loop-left.at in
    let n : ℕ = c.loop-left.n in let i = c.loop-left.invariant in let e = c.form_now-form.ensures in let fil = i.filling in
    let gg : View = c.leaf_window-window.new.reader.agent.seat.me.0 in let w = c.leaf_window-window.ensures in
    let x : View = c.fill_leaf.new.reader.agent.seat.me.0 in let key = key_kept uu ff id e.reads.view.known i.known in
    fil.rest (own_word x.own_words) (subst (λ (m : FinMap nat_cmp ℕ). IsFilled wide start (own_word m) (own_word x.own_words) at n
    (λ k. get_or (units_at uu id) k 0)) (w.reads.view.own_words ∙ e.reads.view.own_words)
    (subst (λ (us : List ℕ). IsFilled wide start (own_word gg.own_words) (own_word x.own_words) at n (λ k. get_or us k 0))
    (units_kept ff gg id w.reads.view.known key ∙ units_kept uu ff id e.reads.view.known i.known) c.fill_leaf.ensures.filled))

pub returns-in_default-clause-loads : goal.returns-in_default-clause-loads
returns-in_default-clause-loads g t c = let v : View = c.args.reader.now.agent.seat.me.0 in
    let uu : View = c.loop-left.reader.agent.seat.me.0 in let ff : View = c.form_now-form.new.self.agent.seat.me.0 in
    let wide = c.args.to.wide in let start : ℕ = c.args.to.start in let id : ℕ = c.loop-left.id in let at : ℕ = c.loop-left.at in
    let n : ℕ = c.loop-left.n in let i = c.loop-left.invariant in let e = c.form_now-form.ensures in let fil = i.filling in
    let gg : View = c.leaf_window-window.new.reader.agent.seat.me.0 in let w = c.leaf_window-window.ensures in
    let q : ℕ = c.leaf_window-window.new.steps - c.loop-left.steps in let some : 0 < q = omega (arith, c.tick.ensures, w.more) in
    let told = w.loads uu.form_loads 1 e.loads in omega (arith, c.fill_leaf.ensures.forms.1, told, w.more, i.loads q some, i.more, c.tick.ensures)

-- a Cons
pub left_length-m-requires-clause-known : goal.left_length-m-requires-clause-known
left_length-m-requires-clause-known g t c = let v : View = c.args.reader.now.agent.seat.me.0 in
    let uu : View = c.loop-left.reader.agent.seat.me.0 in let ff : View = c.form_now-form.new.self.agent.seat.me.0 in
    let wide = c.args.to.wide in let start : ℕ = c.args.to.start in let id : ℕ = c.loop-left.id in let at : ℕ = c.loop-left.at in
    let n : ℕ = c.loop-left.n in let i = c.loop-left.invariant in let e = c.form_now-form.ensures in let fil = i.filling in
    key_kept uu ff id e.reads.view.known i.known

pub left_length-m-requires-clause-cons : goal.left_length-m-requires-clause-cons
left_length-m-requires-clause-cons g t c = let v : View = c.args.reader.now.agent.seat.me.0 in
    let uu : View = c.loop-left.reader.agent.seat.me.0 in let ff : View = c.form_now-form.new.self.agent.seat.me.0 in
    let wide = c.args.to.wide in let start : ℕ = c.args.to.start in let id : ℕ = c.loop-left.id in let at : ℕ = c.loop-left.at in
    let n : ℕ = c.loop-left.n in let i = c.loop-left.invariant in let e = c.form_now-form.ensures in let fil = i.filling in
    (c.in-Cons.wide, subst (λ (x : Form). Has ff.forms id x) c.in-Cons.is e.seen)

pub left_length-m-requires-clause-met : goal.left_length-m-requires-clause-met
left_length-m-requires-clause-met g t c = let v : View = c.args.reader.now.agent.seat.me.0 in
    let uu : View = c.loop-left.reader.agent.seat.me.0 in let ff : View = c.form_now-form.new.self.agent.seat.me.0 in
    let wide = c.args.to.wide in let start : ℕ = c.args.to.start in let id : ℕ = c.loop-left.id in let at : ℕ = c.loop-left.at in
    let n : ℕ = c.loop-left.n in let i = c.loop-left.invariant in let e = c.form_now-form.ensures in let fil = i.filling in
    subst (KnowsSide ff) c.in-Cons.is e.side

pub overflow_sub-n : goal.overflow_sub-n
overflow_sub-n g t c = let v : View = c.args.reader.now.agent.seat.me.0 in let uu : View = c.loop-left.reader.agent.seat.me.0 in let ff : View = c.form_now-form.new.self.agent.seat.me.0 in
    let wide = c.args.to.wide in let start : ℕ = c.args.to.start in let id : ℕ = c.loop-left.id in let at : ℕ = c.loop-left.at in
    let n : ℕ = c.loop-left.n in let i = c.loop-left.invariant in let e = c.form_now-form.ensures in let fil = i.filling in
    let gg : View = c.left_length-m.new.reader.agent.seat.me.0 in let left : ℕ = c.in-Cons.left in let right : ℕ = c.in-Cons.right in
    let m : ℕ = c.left_length-m.result in let d = c.left_length-m.ensures in
    let both = both_here wide start (own_word v.own_words) c.args.at c.args.n (units_at v c.args.id) at n uu ff gg gg id left right m e.reads.view i.known fil d.sides in let ds = d.sides in
    omega (arith, both.right_some)

pub overflow_sub-n-else-m-n : goal.overflow_sub-n-else-m-n
overflow_sub-n-else-m-n g t c = let v : View = c.args.reader.now.agent.seat.me.0 in let uu : View = c.loop-left.reader.agent.seat.me.0 in let ff : View = c.form_now-form.new.self.agent.seat.me.0 in
    let wide = c.args.to.wide in let start : ℕ = c.args.to.start in let id : ℕ = c.loop-left.id in let at : ℕ = c.loop-left.at in
    let n : ℕ = c.loop-left.n in let i = c.loop-left.invariant in let e = c.form_now-form.ensures in let fil = i.filling in
    let gg : View = c.left_length-m.new.reader.agent.seat.me.0 in let left : ℕ = c.in-Cons.left in let right : ℕ = c.in-Cons.right in
    let m : ℕ = c.left_length-m.result in let d = c.left_length-m.ensures in
    let both = both_here wide start (own_word v.own_words) c.args.at c.args.n (units_at v c.args.id) at n uu ff gg gg id left right m e.reads.view i.known fil d.sides in let ds = d.sides in
    omega (arith, both.right_some)

pub loop-left-smaller : goal.loop-left-smaller
loop-left-smaller g t c = let v : View = c.args.reader.now.agent.seat.me.0 in let uu : View = c.loop-left.reader.agent.seat.me.0 in let ff : View = c.form_now-form.new.self.agent.seat.me.0 in
    let wide = c.args.to.wide in let start : ℕ = c.args.to.start in let id : ℕ = c.loop-left.id in let at : ℕ = c.loop-left.at in
    let n : ℕ = c.loop-left.n in let i = c.loop-left.invariant in let e = c.form_now-form.ensures in let fil = i.filling in
    let gg : View = c.left_length-m.new.reader.agent.seat.me.0 in let left : ℕ = c.in-Cons.left in let right : ℕ = c.in-Cons.right in
    let m : ℕ = c.left_length-m.result in let d = c.left_length-m.ensures in
    let both = both_here wide start (own_word v.own_words) c.args.at c.args.n (units_at v c.args.id) at n uu ff gg gg id left right m e.reads.view i.known fil d.sides in let ds = d.sides in
    omega (arith, both.right_some)

pub fill-requires : goal.fill-requires
fill-requires g t c κs within = let v : View = c.args.reader.now.agent.seat.me.0 in let uu : View = c.loop-left.reader.agent.seat.me.0 in let ff : View = c.form_now-form.new.self.agent.seat.me.0 in
    let wide = c.args.to.wide in let start : ℕ = c.args.to.start in let id : ℕ = c.loop-left.id in let at : ℕ = c.loop-left.at in
    let n : ℕ = c.loop-left.n in let i = c.loop-left.invariant in let e = c.form_now-form.ensures in let fil = i.filling in
    let gg : View = c.left_length-m.new.reader.agent.seat.me.0 in let left : ℕ = c.in-Cons.left in let right : ℕ = c.in-Cons.right in
    let m : ℕ = c.left_length-m.result in let d = c.left_length-m.ensures in
    let both = both_here wide start (own_word v.own_words) c.args.at c.args.n (units_at v c.args.id) at n uu ff gg gg id left right m e.reads.view i.known fil d.sides in let ds = d.sides in (
      omega (arith, fil.fewer, both.right_some),
      (
        within.0,
        (
          within.1,
          (
            d.known.0,
            (
              both.left_count,
              (
                both.left_some,
                (
                  omega (arith, c.requires.short, fil.within, both.right_some),
                  (
                    (λ o l k. subst (λ (x : FinMap nat_cmp ℕ). HasKey x (start + o / lane_count wide))
                        (sym (d.reads.view.own_words ∙ e.reads.view.own_words))
                        (i.writes.own_words (start + o / lane_count wide) (c.requires.own o (omega (arith, i.behind, l))
                        (omega (arith, k, fil.within, both.left_some, both.right_some))))),
                    left_fits wide (units_at uu id) (units_at gg left) (units_at gg right) m n both fil.fits,
                  ),
                ),
              ),
            ),
          ),
        ),
      ),
    )

pub fill-requires-else-m-n : goal.fill-requires-else-m-n
fill-requires-else-m-n g t c κs within = let v : View = c.args.reader.now.agent.seat.me.0 in
    let uu : View = c.loop-left.reader.agent.seat.me.0 in let ff : View = c.form_now-form.new.self.agent.seat.me.0 in
    let wide = c.args.to.wide in let start : ℕ = c.args.to.start in let id : ℕ = c.loop-left.id in let at : ℕ = c.loop-left.at in
    let n : ℕ = c.loop-left.n in let i = c.loop-left.invariant in let e = c.form_now-form.ensures in let fil = i.filling in
    let gg : View = c.left_length-m.new.reader.agent.seat.me.0 in let left : ℕ = c.in-Cons.left in let right : ℕ = c.in-Cons.right in
    let m : ℕ = c.left_length-m.result in let d = c.left_length-m.ensures in
    let both = both_here wide start (own_word v.own_words) c.args.at c.args.n (units_at v c.args.id) at n uu ff gg gg id left right m e.reads.view i.known fil d.sides in let ds = d.sides in (
      omega (arith, fil.fewer, both.left_some, both.right_some),
      (
        within.0,
        (
          within.1,
          (
            d.known.1,
            (
              both.right_count,
              (
                omega (arith, both.right_some),
                (
                  omega (arith, c.requires.short, fil.within, both.right_some),
                  (
                    (λ o l k. subst (λ (x : FinMap nat_cmp ℕ). HasKey x (start + o / lane_count wide))
                        (sym (d.reads.view.own_words ∙ e.reads.view.own_words))
                        (i.writes.own_words (start + o / lane_count wide) (c.requires.own o (omega (arith, i.behind, l))
                        (omega (arith, k, fil.within, both.left_some, both.right_some))))),
                    right_fits wide (units_at uu id) (units_at gg left) (units_at gg right) m n both fil.fits,
                  ),
                ),
              ),
            ),
          ),
        ),
      ),
    )

pub loop-left-preserved-then-m-n : goal.loop-left-preserved-then-m-n
loop-left-preserved-then-m-n g t c = let v : View = c.args.reader.now.agent.seat.me.0 in
    let uu : View = c.loop-left.reader.agent.seat.me.0 in let ff : View = c.form_now-form.new.self.agent.seat.me.0 in
    let wide = c.args.to.wide in let start : ℕ = c.args.to.start in let id : ℕ = c.loop-left.id in let at : ℕ = c.loop-left.at in
    let n : ℕ = c.loop-left.n in let i = c.loop-left.invariant in let e = c.form_now-form.ensures in let fil = i.filling in
    let gg : View = c.left_length-m.new.reader.agent.seat.me.0 in let left : ℕ = c.in-Cons.left in let right : ℕ = c.in-Cons.right in
    let m : ℕ = c.left_length-m.result in let d = c.left_length-m.ensures in
    let both = both_here wide start (own_word v.own_words) c.args.at c.args.n (units_at v c.args.id) at n uu ff gg gg id left right m e.reads.view i.known fil d.sides in let ds = d.sides in
    let hh : View = c.fill.new.reader.agent.seat.me.0 in let r = c.fill.ensures in record {
      heap = r.writes.heap ∙ (d.reads.heap ∙ (e.reads.heap ∙ i.heap));
      writes = writes_trans v uu hh i.writes (writes_trans uu gg hh (writes_trans uu ff gg (writes_reads uu ff e.reads.view) (writes_reads ff gg d.reads.view)) r.writes.view);
      below = λ q y l h. r.below q y l (below_reads start ff gg d.reads.view q y l (below_reads start uu ff e.reads.view q y l (i.below q y l h)));
      above = λ q b l o less h. r.above q b l o (omega (arith, less, i.lower, d.below.0, d.below.1))
          (subst (λ (m : FinMap nat_cmp Form). Has m q (Cons b l o)) (sym d.forms.0)
          (e.others q (λ is. absurd (omega (arith, is, less, i.lower))) ∙ i.above q b l o less h));
      lower = omega (arith, i.lower, d.below.0, d.below.1);
      known = key_kept gg hh right r.writes.view.known d.known.1;
      filling = turn_left wide start (own_word v.own_words) c.args.at c.args.n (units_at v c.args.id) at n uu ff gg hh id left right m
          e.reads.view d.reads.view d.known.1 r.writes.view.known fil both r.filled;
      behind = omega (arith, i.behind);
      loads = λ k l. let q : ℕ = c.fill.new.steps - c.loop-left.steps + k in
          let some : 0 < q = omega arith in omega (arith, r.loads, r.more, e.loads, d.forms.1, i.loads q some, i.more, c.tick.ensures);
      more = omega (arith, r.more, i.more, c.tick.ensures);
      steps = omega (arith, r.steps, c.tick.ensures, i.steps, both.right_some);
    }

pub loop-left-preserved : goal.loop-left-preserved
loop-left-preserved g t c = let v : View = c.args.reader.now.agent.seat.me.0 in let uu : View = c.loop-left.reader.agent.seat.me.0 in let ff : View = c.form_now-form.new.self.agent.seat.me.0 in
    let wide = c.args.to.wide in let start : ℕ = c.args.to.start in let id : ℕ = c.loop-left.id in let at : ℕ = c.loop-left.at in
    let n : ℕ = c.loop-left.n in let i = c.loop-left.invariant in let e = c.form_now-form.ensures in let fil = i.filling in
    let gg : View = c.left_length-m.new.reader.agent.seat.me.0 in let left : ℕ = c.in-Cons.left in let right : ℕ = c.in-Cons.right in
    let m : ℕ = c.left_length-m.result in let d = c.left_length-m.ensures in
    let both = both_here wide start (own_word v.own_words) c.args.at c.args.n (units_at v c.args.id) at n uu ff gg gg id left right m e.reads.view i.known fil d.sides in let ds = d.sides in
    let hh : View = c.fill-else-m-n.new.reader.agent.seat.me.0 in let r = c.fill-else-m-n.ensures in record {
      heap = r.writes.heap ∙ (d.reads.heap ∙ (e.reads.heap ∙ i.heap));
      writes = writes_trans v uu hh i.writes (writes_trans uu gg hh (writes_trans uu ff gg (writes_reads uu ff e.reads.view) (writes_reads ff gg d.reads.view)) r.writes.view);
      below = λ q y l h. r.below q y l (below_reads start ff gg d.reads.view q y l (below_reads start uu ff e.reads.view q y l (i.below q y l h)));
      above = λ q b l o less h. r.above q b l o (omega (arith, less, i.lower, d.below.0, d.below.1))
          (subst (λ (m : FinMap nat_cmp Form). Has m q (Cons b l o)) (sym d.forms.0)
          (e.others q (λ is. absurd (omega (arith, is, less, i.lower))) ∙ i.above q b l o less h));
      lower = omega (arith, i.lower, d.below.0, d.below.1);
      known = key_kept gg hh left r.writes.view.known d.known.0;
      filling = turn_right wide start (own_word v.own_words) c.args.at c.args.n (units_at v c.args.id) at n uu ff gg hh id left right m
          e.reads.view d.reads.view d.known.0 r.writes.view.known fil both r.filled;
      behind = omega (arith, i.behind);
      loads = λ k l. let q : ℕ = c.fill-else-m-n.new.steps - c.loop-left.steps + k in
          let some : 0 < q = omega arith in omega (arith, r.loads, r.more, e.loads, d.forms.1, i.loads q some, i.more, c.tick.ensures);
      more = omega (arith, r.more, i.more, c.tick.ensures);
      steps = omega (arith, r.steps, c.tick.ensures, i.steps, both.right_some);
    }

pub returns-in_default-clause-below : goal.returns-in_default-clause-below
returns-in_default-clause-below g t c q y l h = let uu : View = c.loop-left.reader.agent.seat.me.0 in
    let ff : View = c.form_now-form.new.self.agent.seat.me.0 in let gg : View = c.leaf_window-window.new.reader.agent.seat.me.0 in
    let start : ℕ = c.args.to.start in
    c.fill_leaf.ensures.below q y l (below_reads start ff gg c.leaf_window-window.ensures.reads.view q y l
    (below_reads start uu ff c.form_now-form.ensures.reads.view q y l (c.loop-left.invariant.below q y l h)))

-- a Cons of one string twice
pub fill_again-requires-clause-short : goal.fill_again-requires-clause-short
fill_again-requires-clause-short g t c = let v : View = c.args.reader.now.agent.seat.me.0 in let uu : View = c.loop-left.reader.agent.seat.me.0 in let ff : View = c.form_now-form.new.self.agent.seat.me.0 in
    let wide = c.args.to.wide in let start : ℕ = c.args.to.start in let id : ℕ = c.loop-left.id in let at : ℕ = c.loop-left.at in
    let n : ℕ = c.loop-left.n in let i = c.loop-left.invariant in let e = c.form_now-form.ensures in let fil = i.filling in
    let gg : View = c.left_length-m.new.reader.agent.seat.me.0 in let left : ℕ = c.in-Cons.left in let right : ℕ = c.in-Cons.right in
    let m : ℕ = c.left_length-m.result in let d = c.left_length-m.ensures in
    let both = both_here wide start (own_word v.own_words) c.args.at c.args.n (units_at v c.args.id) at n uu ff gg gg id left right m e.reads.view i.known fil d.sides in
    let hh : View = c.fill.new.reader.agent.seat.me.0 in let r = c.fill.ensures in
    let half = same_half wide start (own_word v.own_words) c.args.at c.args.n (units_at v c.args.id) at n uu ff gg hh id left right m both c.if-left-right.true in
    omega (arith, half, fil.within, c.requires.short)

pub fill_again-requires-clause-own : goal.fill_again-requires-clause-own
fill_again-requires-clause-own g t c o l k = let v : View = c.args.reader.now.agent.seat.me.0 in let uu : View = c.loop-left.reader.agent.seat.me.0 in let ff : View = c.form_now-form.new.self.agent.seat.me.0 in
    let wide = c.args.to.wide in let start : ℕ = c.args.to.start in let id : ℕ = c.loop-left.id in let at : ℕ = c.loop-left.at in
    let n : ℕ = c.loop-left.n in let i = c.loop-left.invariant in let e = c.form_now-form.ensures in let fil = i.filling in
    let gg : View = c.left_length-m.new.reader.agent.seat.me.0 in let left : ℕ = c.in-Cons.left in let right : ℕ = c.in-Cons.right in
    let m : ℕ = c.left_length-m.result in let d = c.left_length-m.ensures in
    let both = both_here wide start (own_word v.own_words) c.args.at c.args.n (units_at v c.args.id) at n uu ff gg gg id left right m e.reads.view i.known fil d.sides in
    let hh : View = c.fill.new.reader.agent.seat.me.0 in let r = c.fill.ensures in
    let half = same_half wide start (own_word v.own_words) c.args.at c.args.n (units_at v c.args.id) at n uu ff gg hh id left right m both c.if-left-right.true in
    r.writes.view.own_words (start + o / lane_count wide) (subst (λ (x : FinMap nat_cmp ℕ). HasKey x (start + o / lane_count wide))
    (sym (d.reads.view.own_words ∙ e.reads.view.own_words))
    (i.writes.own_words (start + o / lane_count wide) (c.requires.own o (omega (arith, i.behind, l)) (omega (arith, k, half, fil.within)))))

pub fill_again-requires-clause-held : goal.fill_again-requires-clause-held
fill_again-requires-clause-held g t c k l = let v : View = c.args.reader.now.agent.seat.me.0 in let uu : View = c.loop-left.reader.agent.seat.me.0 in let ff : View = c.form_now-form.new.self.agent.seat.me.0 in
    let wide = c.args.to.wide in let start : ℕ = c.args.to.start in let id : ℕ = c.loop-left.id in let at : ℕ = c.loop-left.at in
    let n : ℕ = c.loop-left.n in let i = c.loop-left.invariant in let e = c.form_now-form.ensures in let fil = i.filling in
    let gg : View = c.left_length-m.new.reader.agent.seat.me.0 in let left : ℕ = c.in-Cons.left in let right : ℕ = c.in-Cons.right in
    let m : ℕ = c.left_length-m.result in let d = c.left_length-m.ensures in
    let both = both_here wide start (own_word v.own_words) c.args.at c.args.n (units_at v c.args.id) at n uu ff gg gg id left right m e.reads.view i.known fil d.sides in
    let hh : View = c.fill.new.reader.agent.seat.me.0 in let r = c.fill.ensures in
    r.filled.inside k l ∙ ap (λ (xs : List ℕ). get_or xs k 0) (sym (units_kept gg hh left r.writes.view.known d.known.0))

pub returns-then-left-right-clause-writes : goal.returns-then-left-right-clause-writes
returns-then-left-right-clause-writes g t c = let v : View = c.args.reader.now.agent.seat.me.0 in let uu : View = c.loop-left.reader.agent.seat.me.0 in let ff : View = c.form_now-form.new.self.agent.seat.me.0 in
    let wide = c.args.to.wide in let start : ℕ = c.args.to.start in let id : ℕ = c.loop-left.id in let at : ℕ = c.loop-left.at in
    let n : ℕ = c.loop-left.n in let i = c.loop-left.invariant in let e = c.form_now-form.ensures in let fil = i.filling in
    let gg : View = c.left_length-m.new.reader.agent.seat.me.0 in let left : ℕ = c.in-Cons.left in let right : ℕ = c.in-Cons.right in
    let m : ℕ = c.left_length-m.result in let d = c.left_length-m.ensures in
    let both = both_here wide start (own_word v.own_words) c.args.at c.args.n (units_at v c.args.id) at n uu ff gg gg id left right m e.reads.view i.known fil d.sides in
    let hh : View = c.fill.new.reader.agent.seat.me.0 in let r = c.fill.ensures in
    let x : View = c.fill_again.new.reader.agent.seat.me.0 in record {
      heap = c.fill_again.ensures.writes.heap ∙ (r.writes.heap ∙ (d.reads.heap ∙ (e.reads.heap ∙ i.heap)));
      view = writes_trans v uu x i.writes (writes_trans uu gg x (writes_trans uu ff gg (writes_reads uu ff e.reads.view) (writes_reads ff gg d.reads.view))
          (writes_trans gg hh x r.writes.view c.fill_again.ensures.writes.view));
    }

pub returns-then-left-right-clause-below : goal.returns-then-left-right-clause-below
returns-then-left-right-clause-below g t c q y l h = let v : View = c.args.reader.now.agent.seat.me.0 in let uu : View = c.loop-left.reader.agent.seat.me.0 in let ff : View = c.form_now-form.new.self.agent.seat.me.0 in
    let wide = c.args.to.wide in let start : ℕ = c.args.to.start in let id : ℕ = c.loop-left.id in let at : ℕ = c.loop-left.at in
    let n : ℕ = c.loop-left.n in let i = c.loop-left.invariant in let e = c.form_now-form.ensures in let fil = i.filling in
    let gg : View = c.left_length-m.new.reader.agent.seat.me.0 in let left : ℕ = c.in-Cons.left in let right : ℕ = c.in-Cons.right in
    let m : ℕ = c.left_length-m.result in let d = c.left_length-m.ensures in
    let both = both_here wide start (own_word v.own_words) c.args.at c.args.n (units_at v c.args.id) at n uu ff gg gg id left right m e.reads.view i.known fil d.sides in
    let hh : View = c.fill.new.reader.agent.seat.me.0 in let r = c.fill.ensures in
    c.fill_again.ensures.below q y l (r.below q y l (below_reads start ff gg d.reads.view q y l (below_reads start uu ff e.reads.view q y l (i.below q y l h))))

pub returns-then-left-right-clause-above : goal.returns-then-left-right-clause-above
returns-then-left-right-clause-above g t c q b l o less h = let v : View = c.args.reader.now.agent.seat.me.0 in let uu : View = c.loop-left.reader.agent.seat.me.0 in let ff : View = c.form_now-form.new.self.agent.seat.me.0 in
    let wide = c.args.to.wide in let start : ℕ = c.args.to.start in let id : ℕ = c.loop-left.id in let at : ℕ = c.loop-left.at in
    let n : ℕ = c.loop-left.n in let i = c.loop-left.invariant in let e = c.form_now-form.ensures in let fil = i.filling in
    let gg : View = c.left_length-m.new.reader.agent.seat.me.0 in let left : ℕ = c.in-Cons.left in let right : ℕ = c.in-Cons.right in
    let m : ℕ = c.left_length-m.result in let d = c.left_length-m.ensures in
    let both = both_here wide start (own_word v.own_words) c.args.at c.args.n (units_at v c.args.id) at n uu ff gg gg id left right m e.reads.view i.known fil d.sides in
    let hh : View = c.fill.new.reader.agent.seat.me.0 in let r = c.fill.ensures in
    subst (λ (m : FinMap nat_cmp Form). Has m q (Cons b l o)) (sym c.fill_again.ensures.forms.0) (r.above q b l o (omega (arith, less, i.lower, d.below.0, d.below.1))
    (subst (λ (m : FinMap nat_cmp Form). Has m q (Cons b l o)) (sym d.forms.0)
    (e.others q (λ is. absurd (omega (arith, is, less, i.lower))) ∙ i.above q b l o less h)))

pub returns-then-left-right-clause-filled : goal.returns-then-left-right-clause-filled
returns-then-left-right-clause-filled g t c = let v : View = c.args.reader.now.agent.seat.me.0 in let uu : View = c.loop-left.reader.agent.seat.me.0 in let ff : View = c.form_now-form.new.self.agent.seat.me.0 in
    let wide = c.args.to.wide in let start : ℕ = c.args.to.start in let id : ℕ = c.loop-left.id in let at : ℕ = c.loop-left.at in
    let n : ℕ = c.loop-left.n in let i = c.loop-left.invariant in let e = c.form_now-form.ensures in let fil = i.filling in
    let gg : View = c.left_length-m.new.reader.agent.seat.me.0 in let left : ℕ = c.in-Cons.left in let right : ℕ = c.in-Cons.right in
    let m : ℕ = c.left_length-m.result in let d = c.left_length-m.ensures in
    let both = both_here wide start (own_word v.own_words) c.args.at c.args.n (units_at v c.args.id) at n uu ff gg gg id left right m e.reads.view i.known fil d.sides in
    let hh : View = c.fill.new.reader.agent.seat.me.0 in let r = c.fill.ensures in
    turn_both wide start (own_word v.own_words) c.args.at c.args.n (units_at v c.args.id) at n uu ff gg hh id left right m c.fill_again.new.reader.agent.seat.me.0
    e.reads.view d.reads.view d.known.1 r.writes.view.known fil both r.filled c.if-left-right.true c.fill_again.ensures.filled

pub returns-then-left-right-clause-loads : goal.returns-then-left-right-clause-loads
returns-then-left-right-clause-loads g t c = let v : View = c.args.reader.now.agent.seat.me.0 in let uu : View = c.loop-left.reader.agent.seat.me.0 in let ff : View = c.form_now-form.new.self.agent.seat.me.0 in
    let wide = c.args.to.wide in let start : ℕ = c.args.to.start in let id : ℕ = c.loop-left.id in let at : ℕ = c.loop-left.at in
    let n : ℕ = c.loop-left.n in let i = c.loop-left.invariant in let e = c.form_now-form.ensures in let fil = i.filling in
    let gg : View = c.left_length-m.new.reader.agent.seat.me.0 in let left : ℕ = c.in-Cons.left in let right : ℕ = c.in-Cons.right in
    let m : ℕ = c.left_length-m.result in let d = c.left_length-m.ensures in
    let both = both_here wide start (own_word v.own_words) c.args.at c.args.n (units_at v c.args.id) at n uu ff gg gg id left right m e.reads.view i.known fil d.sides in
    let hh : View = c.fill.new.reader.agent.seat.me.0 in let r = c.fill.ensures in
    let q : ℕ = c.fill.new.steps - c.loop-left.steps in let some : 0 < q = omega (arith, r.more, c.tick.ensures) in
    omega (arith, c.fill_again.ensures.forms.1, r.loads, r.more, e.loads, d.forms.1, i.loads q some, i.more, c.tick.ensures)

pub returns-then-left-right-clause-steps : goal.returns-then-left-right-clause-steps
returns-then-left-right-clause-steps g t c = let v : View = c.args.reader.now.agent.seat.me.0 in let uu : View = c.loop-left.reader.agent.seat.me.0 in let ff : View = c.form_now-form.new.self.agent.seat.me.0 in
    let wide = c.args.to.wide in let start : ℕ = c.args.to.start in let id : ℕ = c.loop-left.id in let at : ℕ = c.loop-left.at in
    let n : ℕ = c.loop-left.n in let i = c.loop-left.invariant in let e = c.form_now-form.ensures in let fil = i.filling in
    let gg : View = c.left_length-m.new.reader.agent.seat.me.0 in let left : ℕ = c.in-Cons.left in let right : ℕ = c.in-Cons.right in
    let m : ℕ = c.left_length-m.result in let d = c.left_length-m.ensures in
    let both = both_here wide start (own_word v.own_words) c.args.at c.args.n (units_at v c.args.id) at n uu ff gg gg id left right m e.reads.view i.known fil d.sides in
    let hh : View = c.fill.new.reader.agent.seat.me.0 in let r = c.fill.ensures in
    omega (arith, r.steps, c.tick.ensures, i.steps, both.right_some)
