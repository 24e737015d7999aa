-- The string that is looked for: what is said of it stays, its window shows its units, and what a comparison with a string in a slot tells.
use Rattle.std.proofs.Common.{◌≡◌, ℕ, ◌+◌, ◌*◌, ◌/◌, ◌<◌, inl, inr, ⊎_elim, Bool, true, false, List, [], length, get_or, sym, refl, ap, ◌∙◌, subst, arith, Option, Some}
use Rattle.std.specs.Bool.{MatchBool}
use Rattle.std.specs.Prelude.{unwrap_or}
use Rattle.std.specs.FinMap.{get}
use Rattle.std.proofs.lemmas.Grind.{same_number_lists}
use Rattle.std.proofs.lemmas.List.{take_all}
use Rattle.js_units.specs.Lanes.{lane_count, words_over}
use Rattle.js_header.specs.declared.form.Form.{Form}
use Rattle.js_header.specs.declared.form.Form.TheVariants.{Flat, Sliced, Thin}
use Rattle.heap_rule.specs.declared.view.View.{View}
use Rattle.heap_rule.specs.Births.{part}
use Rattle.heap_rule.specs.Forms.{IsCons, IsSliced}
use Rattle.heap_rule.specs.Maps.{Has, HasKey}
use Rattle.heap_rule.specs.Slots.{Differs}
use Rattle.heap_rule.specs.Sound.{IsPossible}
use Rattle.heap_rule.specs.Views.{HasLength, shown_word}
use Rattle.heap_rule.proofs.MapLemmas.{has_key, key_of}
use Rattle.heap_rule.proofs.Possible.{possible_lane, possible_length}
use Rattle.heap_rule.proofs.UnitLemmas.{lane_same}
use Rattle.heap_table.specs.Known.{KeepsKnown}
use Rattle.heap_read.specs.declared.string.Window.{Window}
use Rattle.heap_read.specs.Frozen.{AreFrozen, HasLane, HasOther, HasUnits, IsFixedWindow, IsLearned}
use Rattle.heap_read.specs.Reads.{HoldsForms}
use Rattle.heap_read.specs.Sources.{ShowsPiece}
use Rattle.heap_read.specs.Windows.{IsWindow, IsWindowOf, StandsFor}
use Rattle.heap_read.proofs.Freezing.{word_kept}
use Rattle.heap_read.proofs.Leading.{thin_length}
use Rattle.heap_read.proofs.Showing.{leads_kept, length_kept, stands_for_kept}
use Rattle.heap_intern.specs.declared.table.sought.Sought.{Sought}
use Rattle.heap_intern.specs.Seeking.{IsSought}
use Rattle.heap_intern.proofs.Possibly.{shown_frozen}

-- an id has one form
pub one_form : (v : View) (i : ℕ) (f g : Form) → Has v.forms i f → Has v.forms i g → f ≡ g
one_form v i f g a b = let e : Some f ≡ Some g = sym a ∙ b in cc

module _ (v w : View) (k : KeepsKnown v w) where
  pub frozen_kept : (t : Window) → AreFrozen v t → AreFrozen w t
  frozen_kept t h = record { each = λ q l. word_kept v w k (t.start + (t.offset + q) / lane_count t.wide) (h.each q l) }

  pub sought_kept : HoldsForms v w → (s : Sought) → IsSought v s → IsSought w s
  sought_kept forms s h = record {
    own = forms s.id s.form h.own;
    settled = h.settled;
    flat = h.flat;
    fixed = h.fixed;
    leads = leads_kept v w forms s.id h.flat s.window.offset h.leads;
    form = forms h.flat (Flat s.window.wide s.window.start h.fixed) h.form;
    measured = h.measured;
    same = stands_for_kept v w forms s.id h.measured h.same;
    long = k.lengths h.measured s.window.len h.long;
    there = length_kept v w forms k h.flat (s.window.offset + s.window.len) h.there;
    whole = h.whole;
  }

-- the window on all its units, behind the header that was loaded
pub sought_of : (v : View) (s : Sought) → Has v.forms s.id s.form → (IsCons s.form → ⊥) → IsWindowOf v s.id s.window → IsSought v s
sought_of v s own settled o = let t : Window = s.window in record {
  own = own;
  settled = settled;
  flat = o.led.id;
  fixed = o.led.fixed;
  leads = ⊎_elim
      (λ (a : StandsFor v s.id o.led.id × (o.by ≡ o.led.id) × (t.offset ≡ 0)). inl (a.0, a.2))
      (λ (a : (narrow : Bool) × (parent : ℕ) × Has v.forms s.id (Sliced narrow parent t.offset) × StandsFor v parent o.led.id × (o.by ≡ s.id)). inr (a.0, a.1, a.2, a.3))
      o.led.way;
  form = o.led.form;
  measured = o.by;
  same = ⊎_elim
      (λ (a : StandsFor v s.id o.led.id × (o.by ≡ o.led.id) × (t.offset ≡ 0)). subst (λ (i : ℕ). StandsFor v s.id i) (sym a.1) a.0)
      (λ (a : (narrow : Bool) × (parent : ℕ) × Has v.forms s.id (Sliced narrow parent t.offset) × StandsFor v parent o.led.id × (o.by ≡ s.id)). inl (sym a.4))
      o.led.way;
  long = o.long;
  there = ⊎_elim
      (λ (a : StandsFor v s.id o.led.id × (o.by ≡ o.led.id) × (t.offset ≡ 0)). let none = a.2 in let plain : t.len ≡ t.offset + t.len = omega arith in
      inl (subst (λ (m : ℕ). Has v.lengths o.led.id m) plain (subst (λ (i : ℕ). Has v.lengths i t.len) a.1 o.long)))
      (λ (a : (narrow : Bool) × (parent : ℕ) × Has v.forms s.id (Sliced narrow parent t.offset) × StandsFor v parent o.led.id × (o.by ≡ s.id)).
      inr (s.id, a.0, a.1, t.offset, t.len, a.2, subst (λ (i : ℕ). Has v.lengths i t.len) a.4 o.long, refl, a.3))
      o.led.way;
  whole = λ never. ⊎_elim
      (λ (a : StandsFor v s.id o.led.id × (o.by ≡ o.led.id) × (t.offset ≡ 0)). (a.1, a.2))
      (λ (a : (narrow : Bool) × (parent : ℕ) × Has v.forms s.id (Sliced narrow parent t.offset) × StandsFor v parent o.led.id × (o.by ≡ s.id)).
      absurd (never (subst IsSliced (one_form v s.id (Sliced a.0 a.1 t.offset) s.form a.2 own) tt)))
      o.led.way;
}

pub sought_length : (v : View) → IsPossible v → (s : Sought) (us : List ℕ) → IsSought v s → Has v.units s.id us → s.window.len ≡ length us
sought_length v p s us h u = ⊎_elim
    (λ (e : s.id ≡ h.measured). possible_length v p h.measured s.window.len us (subst (λ (i : ℕ). Has v.units i us) e u) h.long)
    (λ (t : Has v.forms s.id (Thin h.measured)). thin_length v p s.id h.measured s.window.len us t u h.long) h.same

-- its window shows its units, also as the source of a copy
module _ (v : View) (p : IsPossible v) (s : Sought) (us : List ℕ) (h : IsSought v s) (u : Has v.units s.id us) where
  pub sought_window : IsWindow v s.window us
  sought_window = let n = sought_length v p s us h u in record {
    of = s.id;
    whole = us;
    known = u;
    id = h.flat;
    before = s.window.offset;
    leads = h.leads;
    fixed = h.fixed;
    form = h.form;
    length_known = subst (λ (m : ℕ). HasLength v h.flat (s.window.offset + m)) n h.there;
    from = 0;
    place = omega arith;
    within = omega arith;
    shows = sym (take_all s.window.len us (omega arith));
  }

  pub source_is : part 0 s.window.len (unwrap_or (get v.units s.id) []) ≡ us
  source_is = let n = sought_length v p s us h u in ap (λ (o : Option (List ℕ)). part 0 s.window.len (unwrap_or o [])) u ∙ take_all s.window.len us (omega arith)

  pub source_shows : ShowsPiece v (record { of = record { id = s.id }; from = 0; window = s.window })
  source_shows = (key_of v.units s.id us u, subst (IsWindow v s.window) (sym source_is) sought_window)

-- the first lane of a word
first_lane : (wide : Bool) (n q : ℕ) → q < words_over wide n → (q * lane_count wide < n) × (q * lane_count wide / lane_count wide ≡ q)
first_lane true n q l = (omega arith, omega arith)
first_lane false n q l = (omega arith, omega arith)

-- where all units of a window on the whole of its words were loaded, all its words are frozen
pub words_frozen : (v : View) (t : Window) → t.offset ≡ 0 → AreFrozen v t → (q : ℕ) → q < words_over t.wide t.len → HasKey v.frozen (t.start + q)
words_frozen v t none h q l = let f = first_lane t.wide t.len q l in let o : ℕ = q * lane_count t.wide in let plain : t.offset + o ≡ o = omega arith in
    subst (λ (c : ℕ). HasKey v.frozen (t.start + c)) f.1 (subst (λ (x : ℕ). HasKey v.frozen (t.start + x / lane_count t.wide)) plain (h.each o f.0))

-- a lane of a frozen word is the unit, of a string whose units are known
lane_is : (w : View) → IsPossible w → (i : ℕ) (wide : Bool) (start : ℕ) (fixed : Bool) (us : List ℕ) (o unit : ℕ) → Has w.forms i (Flat wide start fixed) → Has w.units i us → o < length us
    → HasLane w wide start o unit → unit ≡ get_or us o 0
lane_is w p i wide start fixed us o unit f u l h = let c : ℕ = start + o / lane_count wide in
    h.lane ∙ (lane_same (λ _. h.word) (shown_word w) wide start o (sym (shown_frozen w p c h.word h.frozen))
    ∙ possible_lane w p i wide start fixed us o f u l (inr (key_of w.frozen c h.word h.frozen)))

-- a fixed Flat whose lanes are those units has them, and one with another lane differs
module _ (w : View) (i : ℕ) (t : Window) (us : List ℕ) (h : IsFixedWindow w i t) where
  plain_lane : (o unit : ℕ) → HasLane w t.wide t.start (t.offset + o) unit → HasLane w t.wide t.start o unit
  plain_lane o unit lane = let none = h.whole in let plain : t.offset + o ≡ o = omega arith in subst (λ (x : ℕ). HasLane w t.wide t.start x unit) plain lane

  pub has_units : IsPossible w → IsLearned w → t.len ≡ length us → HasUnits w t us → Has w.units i us
  has_units p learned long same = let lanes : (o : ℕ) → o < length us → HasLane w t.wide t.start o (get_or us o 0) = (λ o l. plain_lane o (get_or us o 0) (same.each o l)) in
      let all : AreFrozen w t = record {
        each = λ o l. let l' : o < length us = omega arith in
            let r = same.each o l' in key_of w.frozen (t.start + (t.offset + o) / lane_count t.wide) r.word r.frozen;
      } in
      let u = has_key w.units i (learned.each i t.wide t.start true t.len h.form h.long (words_frozen w t h.whole all)) in let n : t.len ≡ length u.0 = possible_length w p i t.len u.0 u.1 h.long in
      u.1 ∙ ap Some (same_number_lists u.0 us (sym n ∙ long) (λ k l. let l' : k < length us = omega arith in sym (lane_is w p i t.wide t.start true u.0 k (get_or us k 0) h.form u.1 l (lanes k l'))))

  pub has_other : HasOther w t us → Differs w us i
  has_other d = let lane = plain_lane d.at d.unit d.lane in inr (inr (t.wide, t.start, true, d.at, lane.word, h.form, d.inside, lane.frozen, λ e. d.other (lane.lane ∙ e)))

  pub same_or_differs : IsPossible w → IsLearned w → (b : Bool) → t.len ≡ length us → MatchBool b (HasUnits w t us) (HasOther w t us) → MatchBool b (Has w.units i us) (Differs w us i)
  same_or_differs p learned true long m = has_units p learned long m
  same_or_differs p learned false long m = has_other m

pub fixed_later : (v w : View) → KeepsKnown v w → (i : ℕ) (t : Window) → IsFixedWindow v i t → IsFixedWindow w i t
fixed_later v w k i t h = record { form = k.flats i t.wide t.start h.form; long = k.lengths i t.len h.long; whole = h.whole }
