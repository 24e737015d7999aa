-- The birth of a fixed Flat over the words of a string.
use Rattle.std.proofs.Common.{◌≡◌, ◌≢◌, ℕ, zero, suc, ◌+◌, ◌-◌, ◌*◌, ◌/◌, ◌^◌, ◌<◌, ◌≤◌, inl, inr, Bool, true, false, List, [], length, get_or, sym, refl, ap}
use Rattle.std.proofs.Common.{◌∙◌, subst, arith, append-nil, Option, Some}
use Rattle.std.specs.Prelude.{unwrap_or}
use Rattle.std.proofs.lemmas.Grind.{same_number_lists}
use Rattle.std.proofs.lemmas.List.{get_or_past}
use mathlib.Core.Logic.{dite}
use native.Mathlib.Decide.{dec_le}
use Rattle.std.specs.FinMap.{FinMap, get, remove}
use Rattle.std.specs.Ordering.{nat_cmp}
use Rattle.js_units.specs.Lanes.{lane_count, words_over}
use Rattle.js_header.specs.declared.form.Form.{Form}
use Rattle.js_header.specs.declared.form.Form.TheVariants.{Unborn, Flat, Cons, Sliced, Thin}
use Rattle.heap_rule.specs.declared.view.View.{View}
use Rattle.heap_rule.specs.declared.size.Counter.TheVariants.{Ids}
use Rattle.heap_rule.specs.Births.{MayBear, born, stored_length, units_for}
use Rattle.heap_rule.specs.Claims.{loaded_counter, won_claim}
use Rattle.heap_rule.specs.Contents.{lane_in, span}
use Rattle.heap_rule.specs.Forms.{IsSliced}
use Rattle.heap_rule.specs.Maps.{Has, HasKey, without_run}
use Rattle.heap_rule.specs.Sound.{IsPossible}
use Rattle.heap_rule.specs.Views.{shown_word}
use Rattle.heap_rule.proofs.Birth.{length_span}
use Rattle.heap_rule.proofs.MapLemmas.{insert_other, insert_same, key_of, remove_other}
use Rattle.heap_rule.proofs.Possible.{possible_frozen, possible_lawful, possible_short, possible_unit, span_lane}
use Rattle.heap_rule.proofs.UnitLemmas.{lane_word}
use Rattle.heap_table.specs.Known.{KeepsKnown}
use Rattle.heap_intern.specs.declared.table.sought.Sought.{Sought}
use Rattle.heap_intern.specs.Goes.{AddsCalls}
use Rattle.heap_intern.specs.Headers.{IsFlat, MayBeOver}
use Rattle.heap_read.proofs.Loaded.{known_trans}
use Rattle.heap_intern.proofs.Possibly.{possible_unborn, possible_zeros}
use Rattle.heap_intern.proofs.Seeking.{sought_length}
use Rattle.heap_read.specs.Reads.{HoldsForms}
use Rattle.heap_intern.specs.Seeking.{IsSought}

-- a run that is taken away leaves the other keys
pub without_keeps : (m : FinMap nat_cmp ℕ) (k n q x : ℕ) → ((p : ℕ) → p < n → q ≡ k + p → ⊥) → Has m q x → Has (without_run m k n) q x
without_keeps m k zero q x never h = h
without_keeps m k (suc n) q x never h = without_keeps (remove m k) (suc k) n q x (λ p l e. never (suc p) (omega arith) (omega arith))
    (remove_other m k q (λ e. never 0 (omega arith) (omega arith)) ∙ h)

known_ids : (v : View) (id : ℕ) → KeepsKnown v (won_claim v Ids id 1)
known_ids v id = record { units = λ i us h. h; lengths = λ i n h. h; flats = λ i wide start h. h; thins = λ i t h. h; settled = λ i h. h; frozen = λ c x h. h; known = λ i h. h; slots = λ k i h. h }

pub known_length : (v : View) (i n : ℕ) → KeepsKnown v (stored_length v i n)
known_length v i n = record {
  units = λ i us h. h;
  lengths = λ i n h. h;
  flats = λ i wide start h. h;
  thins = λ i t h. h;
  settled = λ i h. h;
  frozen = λ c x h. h;
  known = λ i h. h;
  slots = λ k i h. h;
}

known_full : (v : View) (at : ℕ) → KeepsKnown v (loaded_counter v Ids at)
known_full v at = record { units = λ i us h. h; lengths = λ i n h. h; flats = λ i wide start h. h; thins = λ i t h. h; settled = λ i h. h; frozen = λ c x h. h; known = λ i h. h; slots = λ k i h. h }

-- no id was left
pub goes_full : (v w : View) (at : ℕ) → w ≡ loaded_counter v Ids at → v.low.ids ≤ w.low.ids → AddsCalls v w []
goes_full v w at e l = let l' : v.low.ids ≤ at = subst (λ (u : View). v.low.ids ≤ u.low.ids) e l in subst (λ (u : View). AddsCalls v u []) (sym e) record {
  known = known_full v at;
  own_ids = λ i n h. h;
  own_words = λ c x h. h;
  sizes = refl;
  agents = refl;
  live = refl;
  share = refl;
  ids_used = omega arith;
  words_used = omega arith;
  ids_low = l';
  words_low = omega arith;
  seen = refl;
  mine = sym (append-nil v.mine);
}

lane_there : (wide : Bool) (n o : ℕ) → o < n → o < words_over wide n * lane_count wide
lane_there true n o l = omega arith
lane_there false n o l = omega arith

-- an id is claimed, its length is stored, and it is born over these words
module _ (v : View) (wide : Bool) (start n : ℕ) (us : List ℕ) (h : MayBeOver v wide start n us) (id : ℕ) where
  abbrev ready : View
  ready = stored_length (won_claim v Ids id 1) id n

  pub header_fits : MayBear ready id (Flat wide start true)
  header_fits = (n, insert_same (won_claim v Ids id 1).own_ids id n, (h.small, h.words, (λ o lo hi. let long = h.long in h.lanes o hi ∙ get_or_past us o 0 (omega arith)), h.empty))

  -- it has the units
  pub shown_span : span (shown_word v) wide start 0 n ≡ us
  shown_span = let long = h.long in let m = length_span (shown_word v) wide start 0 n in same_number_lists (span (shown_word v) wide start 0 n) us (omega arith)
      (λ k l. let l' : k < n = omega arith in let plain : 0 + k ≡ k = omega arith in
      span_lane (shown_word v) wide start 0 n k l' ∙ (ap (λ (o : ℕ). lane_in (shown_word v) wide start o) plain ∙ h.lanes k (lane_there wide n k l')))

  pub header_fixed : (w : View) → w ≡ born ready id (Flat wide start true) → IsFlat w wide start us id
  header_fixed w e = let f = Flat wide start true in subst (λ (u : View). IsFlat u wide start us id) (sym e) (
    insert_same ready.forms id f,
    insert_same ready.units id (units_for ready (unwrap_or (get ready.own_ids id) 0) f)
        ∙ (ap (λ (o : Option ℕ). Some (span (shown_word v) wide start 0 (unwrap_or o 0))) (insert_same (won_claim v Ids id 1).own_ids id n) ∙ ap Some shown_span),
  )

  born_by : (a : View) → ((c : ℕ) → start ≤ c → c < start + words_over wide n → HasKey a.own_words c → ⊥) → (m : ℕ) → unwrap_or
      (get ready.own_ids id) 0 ≡ m → (c x : ℕ) → m ≡ n → Has a.own_words c x → Has v.own_words c x
      → Has (born ready id (Flat wide start true)).own_words c x
  born_by a never m e c x is own h' = subst (λ (l : ℕ). Has (without_run v.own_words start (words_over wide l)) c x) (sym (e ∙ is))
      (without_keeps v.own_words start (words_over wide n) c x (λ q l e'. let e'' : c ≡ start + q = e' in never c (omega arith) (omega arith) (key_of a.own_words c x own)) h')

  -- for an earlier view that has none of the words as its own
  pub goes_born : (a w : View) → AddsCalls a v [] → ((c : ℕ) → start ≤ c → c < start + words_over wide n → HasKey a.own_words c → ⊥) → w ≡
      born ready id (Flat wide start true) → ((i : ℕ) → HasKey v.own_ids i → i < id) → v.low.ids ≤ id + 1
      → KeepsKnown ready w → AddsCalls a w []
  goes_born a w g never e above low k = let f = Flat wide start true in let z : View = born ready id f in let k' : KeepsKnown ready z = subst (KeepsKnown ready) e k in
      let p = g.ids_used in let q = g.words_used in let l = g.ids_low in let m = g.words_low in subst (λ (u : View). AddsCalls a u []) (sym e) record {
        known = known_trans a v z g.known (known_trans v (won_claim v Ids id 1) z (known_ids v id) (known_trans (won_claim v Ids id 1) ready z (known_length (won_claim v Ids id 1) id n) k'));
        own_ids = λ i m' h'. let t = g.own_ids i m' h' in let b = above i (key_of v.own_ids i m' t) in let ne : i ≢ id = (λ e'. omega arith) in
            remove_other ready.own_ids id i ne ∙ (insert_other (won_claim v Ids id 1).own_ids id i n ne ∙ (insert_other v.own_ids id i 0 ne ∙ t));
        own_words = λ c x h'. born_by a never (unwrap_or (get ready.own_ids id) 0) refl c x
            (ap (λ (o : Option ℕ). unwrap_or o 0) (insert_same (won_claim v Ids id 1).own_ids id n)) h' (g.own_words c x h');
        sizes = g.sizes;
        agents = g.agents;
        live = g.live;
        share = g.share;
        ids_used = omega arith;
        words_used = omega arith;
        ids_low = omega arith;
        words_low = omega arith;
        seen = g.seen;
        mine = g.mine;
      }

-- no form that the view has changes, since an own id has none
pub forms_born : (v x w : View) (id n : ℕ) (wide : Bool) (start : ℕ) → IsPossible x → x ≡ won_claim v Ids id 1 → w ≡ born
    (stored_length (won_claim v Ids id 1) id n) id (Flat wide start true) → HoldsForms v w
forms_born v x w id n wide start p e b i g h = let own : HasKey x.own_ids id = subst (λ (u : View). HasKey u.own_ids id) (sym e) (key_of _ id 0 (insert_same v.own_ids id 0)) in
    let ne : i ≢ id = (λ d. possible_unborn x p i g (subst (HasKey x.own_ids) (sym d) own) (subst (λ (u : View). Has u.forms i g) (sym e) h)) in
    ap (λ (u : View). get u.forms i) b ∙ (insert_other v.forms id i (Flat wide start true) ne ∙ h)

some_word : (wide : Bool) (n c : ℕ) → c < words_over wide n → 0 < n
some_word true n c l = omega arith
some_word false n c l = omega arith

some_lane : (wide : Bool) (n o : ℕ) → o < words_over wide n * lane_count wide → 0 < n
some_lane true n o l = omega arith
some_lane false n o l = omega arith

-- the words of a string that has them for itself
module _ (v : View) (p : IsPossible v) (s : Sought) (h : IsSought v s) (whole : IsSliced s.form → ⊥) (all : (q : ℕ) → q < words_over
    s.window.wide s.window.len → HasKey v.frozen (s.window.start + q)) (first : ℕ) (none : s.window.len ≡ 0 → first ≡ 0) (some : 0 <
    s.window.len → first ≡ s.window.start) where
  small_by : (n : ℕ) → s.window.len ≡ n → first < 2 ^ 29
  small_by zero e = let z = none e in omega arith
  small_by (suc n) e = let l : 0 < s.window.len = omega arith in let is = some l in
      let m : 0 / lane_count s.window.wide < words_over s.window.wide s.window.len = lane_word s.window.wide 0 s.window.len l in
      let a = possible_frozen v p (s.window.start + 0 / lane_count s.window.wide) (inl (all (0 / lane_count s.window.wide) m)) in let b = (possible_lawful v p).3 in omega arith

  pub frozen_word : (c : ℕ) → first ≤ c → c < first + words_over s.window.wide s.window.len → HasKey v.frozen c
  frozen_word c lo hi = let l : c - first < words_over s.window.wide s.window.len = omega arith in
      let is = some (some_word s.window.wide s.window.len (c - first) l) in let e : s.window.start + (c - first) ≡ c = omega arith in
      subst (HasKey v.frozen) e (all (c - first) l)

  module _ (us : List ℕ) (u : Has v.units s.id us) where
    unit_shown : (o : ℕ) → o < length us → o < s.window.len → lane_in (shown_word v) s.window.wide s.window.start o ≡ get_or us o 0
    unit_shown o l l' = let w = (h.whole whole).1 in let plain : s.window.offset + o ≡ o = omega arith in
        subst (λ (x : ℕ). lane_in (shown_word v) s.window.wide s.window.start x ≡ get_or us o 0) plain
        (possible_unit v p s.id h.flat s.window.offset s.window.wide s.window.start h.fixed us o h.leads h.form u l
        (inr (subst (λ (x : ℕ). HasKey v.frozen (s.window.start + x / lane_count s.window.wide)) (sym plain)
        (all (o / lane_count s.window.wide) (lane_word s.window.wide o s.window.len l')))))

    lane_shown : (o : ℕ) → o < words_over s.window.wide s.window.len * lane_count s.window.wide → lane_in (shown_word v) s.window.wide s.window.start o ≡ get_or us o 0
    lane_shown o l = let long = sought_length v p s us h u in dite (dec_le s.window.len o)
        (λ past. possible_zeros v p h.flat s.window.wide s.window.start h.fixed s.window.len h.form
        (subst (λ (i : ℕ). Has v.lengths i s.window.len) (h.whole whole).0 h.long) all o past l ∙ sym (get_or_past us o 0 (omega arith)))
        (λ inside. unit_shown o (omega arith) (omega arith))

    pub plain_over : MayBeOver v s.window.wide first s.window.len us
    plain_over = let long = sought_length v p s us h u in let most = possible_short v p s.id us u in record {
      small = small_by s.window.len refl;
      long = long;
      short = omega arith;
      words = λ c lo hi. inr (frozen_word c lo hi);
      lanes = λ o l. subst (λ (c : ℕ). lane_in (shown_word v) s.window.wide c o ≡ get_or us o 0) (sym (some (some_lane s.window.wide s.window.len o l))) (lane_shown o l);
      empty = none;
    }

-- a header that is no part of another string
pub no_part : (f : Form) → ((wide : Bool) (parent offset : ℕ) → f ≡ Sliced wide parent offset → ⊥) → IsSliced f → ⊥
no_part (Sliced wide parent offset) never h = never wide parent offset refl
no_part Unborn never h = h
no_part (Flat wide start fixed) never h = h
no_part (Cons wide left right) never h = h
no_part (Thin t) never h = h
