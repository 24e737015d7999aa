-- What each call on a text or on the string table is as a step of a store.
use Rattle.std.proofs.Common.{◌≡◌, ◌∙◌, ℕ, zero, suc, ◌+◌, ◌-◌, ◌<◌, ◌≤◌, ◌⊎◌, ⊎_elim, inl, inr, Bool, true, false, List, [], ◌++◌, drop, length, length-drop}
use Rattle.std.proofs.Common.{length-take-le, sym, refl, ap, subst, arith, Some, None, Result, Ok, Err}
use Rattle.std.proofs.lemmas.List.{length-append}
use mathlib.Core.Logic.{dite}
use native.Mathlib.Decide.{ℕ_discrete, dec_le}
use Rattle.js_units.specs.Lanes.{words_over}
use Rattle.atomic_table.specs.Seated.{TableId}
use Rattle.js_store.specs.Faults.{Honest, IsConcatFault as JoinTold, NeverSlots, SlotsShut, StoreStep, concat_part}
use Rattle.js_store.specs.Rows.{cut_ids, cut_words, flat_words, join_ids, join_words, settle_words, wide_words}
use Rattle.heap_rule.specs.declared.size.Counters.{Counters}
use Rattle.heap_rule.specs.declared.size.HeapSize.{HeapSize}
use Rattle.heap_rule.specs.declared.view.View.{View}
use Rattle.heap_rule.specs.Births.{part}
use Rattle.heap_rule.specs.Paths.{Calls}
use Rattle.heap_rule.specs.Sound.{IsPossible}
use Rattle.heap_rule.specs.Views.{IsSeenSettled}
use Rattle.heap_table.specs.declared.claims.CounterFull.{CounterFull}
use Rattle.std.specs.FinMap.{get}
use Rattle.heap_intern.specs.declared.table.faults.TableFull.{TableFull}
use Rattle.heap_intern.specs.declared.table.faults.TableFull.TheVariants as table
use Rattle.heap_intern.specs.Answers.{HasLeft, IsPlan, IsInternRefused, HeaderPlan, UsesNothing}
use Rattle.heap_intern.specs.Goes.{AddsCalls}
use Rattle.js_header.specs.declared.form.Form.{Form}
use Rattle.heap_rule.specs.Forms.{IsLater}
use Rattle.heap_rule.proofs.Carried.{latest}
use Rattle.heap_intern.proofs.Planning.{makes_after, plan_words}
use Rattle.heap_text.specs.declared.faults.JoinFault.{JoinFault}
use Rattle.heap_text.specs.declared.faults.JoinFault.TheVariants as join
use Rattle.heap_text.specs.declared.faults.TextFull.{TextFull}
use Rattle.heap_text.specs.declared.faults.TextFull.TheVariants as text
use Rattle.heap_read.specs.declared.string.JsStr.{JsStr}
use Rattle.heap_text.specs.Joins.{IsCut, IsJoined}
use Rattle.heap_text.specs.Settling.{IsBitOf, IsFlattened, IsNoRoom, IsSeenLater, IsSettling}
use Rattle.heap_read.specs.Reads.{Continues, OnlyLoads}
use Rattle.heap_text.specs.Texts.{IsSpared, LacksRoom, UsesExactly}
use Rattle.js_units.specs.Lanes as texts
use Rattle.heap_session.specs.Counted.{FoundFree}
use Rattle.heap_session.specs.Faults.{fault_in_join, fault_in_table, fault_in_text}
use Rattle.heap_session.specs.Sessions.{state_by}
use Rattle.heap_session.specs.Settled.{is_settled}
use Rattle.heap_session.proofs.Rows.{cut_ids_one, cut_words_copy, few_words, join_ids_one, join_words_copy, wide_same, words_most}
use Rattle.heap_session.proofs.States.{grows_continues, grows_goes, step_most, step_reads, test_settled}

-- a refusal of a text
pub never_slots : (f : TextFull) → NeverSlots (Some (fault_in_text f))
never_slots (text.Ids f) = tt
never_slots (text.Words f) = tt

pub never_join : (f : JoinFault) → NeverSlots (concat_part (fault_in_join f))
never_join (join.TooLong x y) = tt
never_join (join.Full full) = never_slots full

pub shut_text : (w : View) (l : ℕ) (t : TableId) (f : TextFull) (us : List ℕ) → SlotsShut (state_by w l t) (Some (fault_in_text f)) us
shut_text w l t (text.Ids f) us = tt
shut_text w l t (text.Words f) us = tt

honest_text : (w : View) (l : ℕ) (t : TableId) (words : ℕ) (f : TextFull) → LacksRoom w w.sizes words f → Honest (state_by w l t) (Some (fault_in_text f))
honest_text w l t words (text.Ids f) h = let a = h.0.0 in let b = h.0.1 in let c = h.0.2 in (record { can_fill = refl; past_end = omega arith; end_is = b; at_is = sym h.1 }, a)
honest_text w l t words (text.Words f) h = let a = h.0.0 in let b = h.0.1 in let c = h.0.2 in record { can_fill = refl; past_end = omega arith; end_is = b; at_is = sym h.1 }

-- sizes are those of the heap
pub told_here : (w : View) (z : HeapSize) (words : ℕ) (f : TextFull) → w.sizes ≡ z → LacksRoom w z words f → LacksRoom w w.sizes words f
told_here w z words f e h = subst (λ (y : HeapSize). LacksRoom w y words f) (sym e) h

pub step_refused : (v w : View) (l : ℕ) (t : TableId) (words most : ℕ) (f : TextFull) → words ≤ most → IsPossible v → Continues v w → LacksRoom w
    w.sizes words f → IsSpared v w words f → StoreStep (state_by v l t) (state_by w l t) (Some (fault_in_text f)) 1 most
step_refused v w l t words most (text.Ids f) le p c h s = let a = h.0.0 in let b = s.used_ids in
    let d = s.used_words in record {
      grows = grows_continues v w l t p c;
      honest = honest_text w l t words (text.Ids f) h;
      within_ids = omega arith;
      within_words = omega arith;
    }
step_refused v w l t words most (text.Words f) le p c h s = let b = s.used_ids in
    let d = s.used_words in record {
      grows = grows_continues v w l t p c;
      honest = honest_text w l t words (text.Words f) h;
      within_ids = omega arith;
      within_words = omega arith;
    }

pub step_used : (v w : View) (l : ℕ) (t : TableId) (ids words i n : ℕ) → ids ≤ i → words ≤ n → IsPossible v → Continues v w → UsesExactly v
    w ids words → StoreStep (state_by v l t) (state_by w l t) None i n
step_used v w l t ids words i n a b p c u = let x = u.0 in let y = u.1 in record { grows = grows_continues v w l t p c; honest = tt; within_ids = omega arith; within_words = omega arith }

pub flat_is : (us : List ℕ) → words_over (texts.is_wide us) (length us) ≡ flat_words us
flat_is us = ap (λ (b : Bool). words_over b (length us)) (wide_same us)

-- nothing was used
nothing_used : (v w : View) (l : ℕ) (t : TableId) (i n : ℕ) → IsPossible v → Continues v w → w.used ≡ v.used → StoreStep (state_by v l t) (state_by w l t) None i n
nothing_used v w l t i n p c u = let x = ap (λ (c : Counters). c.ids) u in
    let y = ap (λ (c : Counters). c.words) u in record { grows = grows_continues v w l t p c; honest = tt; within_ids = omega arith; within_words = omega arith }

-- a concatenation
module _ (v w : View) (l : ℕ) (t : TableId) (a b : JsStr) (us vs : List ℕ) (p : IsPossible v) (c : Continues v w) (most : ℕ) where
  abbrev m : ℕ
  m = length us

  abbrev n : ℕ
  n = length vs

  abbrev copied_words : ℕ
  copied_words = words_over (texts.is_wide (us ++ vs)) (length (us ++ vs))

  copy_most : 0 < m → 0 < n → m + n < 13 → copied_words ≤ join_words m n
  copy_most a b l = subst (λ (k : ℕ). copied_words ≤ k) (sym (join_words_copy m n a b l))
      (subst (λ (k : ℕ). words_over (texts.is_wide (us ++ vs)) k ≤ 3) (sym (length-append us vs)) (few_words (texts.is_wide (us ++ vs)) (m + n) l))

  -- what is no fault of length has at most so many units
  pub joined_fits : (s : JsStr) → IsJoined v w w.sizes most a b us vs (Ok s) → m + n ≤ most
  joined_fits s j = dite (dec_le (m + n) most) (λ le. le) (λ more. let bad : Ok s ≡ Err (join.TooLong m n) = (j.long (omega arith)).0 in absurd (cc))

  full_fits : (full : TextFull) → IsJoined v w w.sizes most a b us vs (Err (join.Full full)) → m + n ≤ most
  full_fits full j = dite (dec_le (m + n) most) (λ le. le) (λ more. let bad : Err (join.Full full) ≡ Err (join.TooLong m n) = (j.long (omega arith)).0 in absurd (cc))

  ok_by : (s : JsStr) (i k : ℕ) → m ≡ i → n ≡ k → m + n ≤ most → IsJoined v w w.sizes most a b us vs (Ok s) → StoreStep (state_by v l t) (state_by w l t) None (join_ids m n) (join_words m n)
  ok_by s zero k e f le j = let q = j.left_empty le e in nothing_used v w l t (join_ids m n) (join_words m n) p c q.2.1
  ok_by s (suc i) zero e f le j = let q = j.right_empty le (omega arith) f in nothing_used v w l t (join_ids m n) (join_words m n) p c q.2.1
  ok_by s (suc i) (suc k) e f le j = let x : 0 < m = omega arith in let y : 0 < n = omega arith in dite (dec_le 13 (m + n))
      (λ long. ⊎_elim
      (λ q. step_used v w l t 1 0 (join_ids m n) (join_words m n) (let d = join_ids_one m n x y in omega arith) (omega arith) p c q.2.2)
      (λ q. let bad : Ok s ≡ Err (join.Full q.0) = q.1 in absurd (cc))
      (j.rope le x y long))
      (λ never. let short : m + n < 13 = omega arith in ⊎_elim
      (λ q. step_used v w l t 1 copied_words (join_ids m n) (join_words m n) (let d = join_ids_one m n x y in omega arith) (copy_most x y short) p c q.2.2)
      (λ q. let bad : Ok s ≡ Err (join.Full q.0) = q.1 in absurd (cc))
      (j.short le x y short))

  pub joined_ok : (s : JsStr) → IsJoined v w w.sizes most a b us vs (Ok s) → StoreStep (state_by v l t) (state_by w l t) None (join_ids m n) (join_words m n)
  joined_ok s j = ok_by s m n refl refl (joined_fits s j) j

  err_by : (full : TextFull) (i k : ℕ) → m ≡ i → n ≡ k → m + n ≤ most → IsJoined v w w.sizes most a b us vs (Err (join.Full full)) →
      StoreStep (state_by v l t) (state_by w l t) (Some (fault_in_text full)) (join_ids m n) (join_words m n)
  err_by full zero k e f le j = let q = j.left_empty le e in let bad : Err (join.Full full) ≡ Ok q.0 = q.1 in absurd (cc)
  err_by full (suc i) zero e f le j = let q = j.right_empty le (omega arith) f in let bad : Err (join.Full full) ≡ Ok q.0 = q.1 in absurd (cc)
  err_by full (suc i) (suc k) e f le j = let x : 0 < m = omega arith in let y : 0 < n = omega arith in dite (dec_le 13 (m + n))
      (λ long. ⊎_elim
      (λ q. let bad : Err (join.Full full) ≡ Ok q.0 = q.1 in absurd (cc))
      (λ q. let same : Err (join.Full full) ≡ Err (join.Full q.0) = q.1 in let is : q.0 ≡ full = cc in
      subst (λ (one : ℕ). StoreStep (state_by v l t) (state_by w l t) (Some (fault_in_text full)) one (join_words m n)) (sym (join_ids_one m n x y))
      (step_refused v w l t 0 (join_words m n) full (omega arith) p c (subst (LacksRoom w w.sizes 0) is q.2.1) (subst (IsSpared v w 0) is q.2.2)))
      (j.rope le x y long))
      (λ never. let short : m + n < 13 = omega arith in ⊎_elim
      (λ q. let bad : Err (join.Full full) ≡ Ok q.0 = q.1 in absurd (cc))
      (λ q. let same : Err (join.Full full) ≡ Err (join.Full q.0) = q.1 in let is : q.0 ≡ full = cc in
      subst (λ (one : ℕ). StoreStep (state_by v l t) (state_by w l t) (Some (fault_in_text full)) one (join_words m n)) (sym (join_ids_one m n x y))
      (step_refused v w l t copied_words (join_words m n) full (copy_most x y short) p c (subst (LacksRoom w w.sizes copied_words) is q.2.0) (subst (IsSpared v w copied_words) is q.2.1)))
      (j.short le x y short))

  -- a fault of length tells both lengths, which are longer together
  joined_short : (x y : ℕ) → m + n ≤ most → IsJoined v w w.sizes most a b us vs (Err (join.TooLong x y)) → ⊥
  joined_short x y le j = short_by m n refl refl
    where
      short_by : (i k : ℕ) → m ≡ i → n ≡ k → ⊥
      short_by zero k e f = let q = j.left_empty le e in let bad : Err (join.TooLong x y) ≡ Ok q.0 = q.1 in cc
      short_by (suc i) zero e f = let q = j.right_empty le (omega arith) f in let bad : Err (join.TooLong x y) ≡ Ok q.0 = q.1 in cc
      short_by (suc i) (suc k) e f = dite (dec_le 13 (m + n))
          (λ long. ⊎_elim (λ q. let bad : Err (join.TooLong x y) ≡ Ok q.0 = q.1 in cc)
          (λ q. let bad : Err (join.TooLong x y) ≡ Err (join.Full q.0) = q.1 in cc) (j.rope le (omega arith) (omega arith) long))
          (λ never. ⊎_elim (λ q. let bad : Err (join.TooLong x y) ≡ Ok q.0 = q.1 in cc)
          (λ q. let bad : Err (join.TooLong x y) ≡ Err (join.Full q.0) = q.1 in cc) (j.short le (omega arith) (omega arith) (omega arith)))

  joined_long : (x y : ℕ) → IsJoined v w w.sizes most a b us vs (Err (join.TooLong x y)) → (most < m + n) × (x ≡ m) × (y ≡ n) × (w.used ≡ v.used)
  joined_long x y j = dite (dec_le (m + n) most) (λ le. absurd (joined_short x y le j))
      (λ more. let o = j.long (omega arith) in let same : Err (join.TooLong x y) ≡ Err (join.TooLong m n) = o.0 in (omega arith, cc, cc, o.1))

  -- any fault of it
  pub joined_step : (f : JoinFault) → IsJoined v w w.sizes most a b us vs (Err f) → StoreStep (state_by v l t) (state_by w l t) (concat_part (fault_in_join f)) (join_ids m n) (join_words m n)
  joined_step (join.TooLong x y) j = nothing_used v w l t (join_ids m n) (join_words m n) p c (joined_long x y j).3
  joined_step (join.Full full) j = err_by full m n refl refl (full_fits full j) j

  pub joined_told : (f : JoinFault) → IsJoined v w w.sizes most a b us vs (Err f) → JoinTold (fault_in_join f) most m n
  joined_told (join.TooLong x y) j = let o = joined_long x y j in (o.0, o.1, o.2)
  joined_told (join.Full (text.Ids f)) j = full_fits (text.Ids f) j
  joined_told (join.Full (text.Words f)) j = full_fits (text.Words f) j

-- what a text answers is over the sizes of its heap and within its limit
pub joined_in : (v w : View) (z : HeapSize) (k most : ℕ) (a b : JsStr) (us vs : List ℕ) (r : Result JsStr JoinFault) → w.sizes ≡ z → k ≡
    most → IsJoined v w z k a b us vs r → IsJoined v w w.sizes most a b us vs r
joined_in v w z k most a b us vs r sizes same h = subst (λ (y : HeapSize). IsJoined v w y most a b us vs r) (sym sizes) (subst (λ (n : ℕ). IsJoined v w z n a b us vs r) same h)

-- settling a string with the units us
module _ (v w : View) (l : ℕ) (t : TableId) (i : ℕ) (us : List ℕ) (p : IsPossible v) (c : Continues v w) where
  settled_by : (b : Bool) → (b ≡ true → OnlyLoads v w) → IsSettling v w i us → StoreStep (state_by v l t) (state_by w l t) None 0 (settle_words b (length us))
  settled_by true again h = step_reads v w l t p (again refl)
  settled_by false again h = ⊎_elim
      (λ (r : OnlyLoads v w). step_most v w l t 0 (wide_words (length us)) p r)
      (λ (q : (wide : Bool) × IsBitOf v i wide × IsFlattened v w i us wide). let words = words_most q.0 (length us) in step_used v w l t 0
      (words_over q.0 (length us)) 0 (wide_words (length us)) (omega arith) words p c q.2.used) h

  pub settled_step : (IsSeenSettled v i → OnlyLoads v w) → IsSettling v w i us → StoreStep (state_by v l t) (state_by w l t) None 0 (settle_words (is_settled (get v.forms i)) (length us))
  settled_step again h = settled_by (is_settled (get v.forms i)) (λ e. again (test_settled v i e)) h

  words_refused : (words most : ℕ) (full : CounterFull) → words ≤ most → LacksRoom w w.sizes words (text.Words full) → IsSpared v w words
      (text.Words full) → StoreStep (state_by v l t) (state_by w l t) (Some (fault_in_text (text.Words full))) 0 most
  words_refused words most full le h s = let b = s.used_ids in
      let d = s.used_words in record {
        grows = grows_continues v w l t p c;
        honest = honest_text w l t words (text.Words full) h;
        within_ids = omega arith;
        within_words = omega arith;
      }

  refused_by : (f : TextFull) (b : Bool) → (b ≡ true → ⊥) → (wide : Bool) × IsBitOf v i wide × IsNoRoom v w w.sizes us f wide → StoreStep
      (state_by v l t) (state_by w l t) (Some (fault_in_text f)) 0 (settle_words b (length us))
  refused_by f true never h = absurd (never refl)
  refused_by f false never h = let n : ℕ = words_over h.0 (length us) in let r = h.2 in let is = r.words.1 in
      subst (λ (g : TextFull). StoreStep (state_by v l t) (state_by w l t) (Some (fault_in_text g)) 0 (wide_words (length us))) (sym is)
      (words_refused n (wide_words (length us)) r.words.0 (words_most h.0 (length us)) (subst (LacksRoom w w.sizes n) is r.told) (subst (IsSpared v w n) is r.spared))

  -- refused for words, where it wasn't settled
  pub settle_refused : (f : TextFull) → (IsSeenSettled v i → ⊥) → (wide : Bool) × IsBitOf v i wide × IsNoRoom v w w.sizes us f wide →
      StoreStep (state_by v l t) (state_by w l t) (Some (fault_in_text f)) 0 (settle_words (is_settled (get v.forms i)) (length us))
  settle_refused f never h = refused_by f (is_settled (get v.forms i)) (λ e. never (test_settled v i e)) h

-- a part
module _ (v w : View) (l : ℕ) (t : TableId) (s : JsStr) (us : List ℕ) (from to : ℕ) (p : IsPossible v) (c : Continues v w) (order : from ≤ to) (within : to ≤ length us) where
  abbrev cut : List ℕ
  cut = part from (to - from) us

  abbrev cut_size : ℕ
  cut_size = words_over (texts.is_wide cut) (length cut)

  -- the words of a short part
  cut_most : to - from < 13 → cut_size ≤ 3
  cut_most short = subst (λ (k : ℕ). words_over (texts.is_wide cut) k ≤ 3) (sym (part_length from (to - from) us (omega arith))) (few_words (texts.is_wide cut) (to - from) short)
    where
      part_length : (o n : ℕ) (xs : List ℕ) → o + n ≤ length xs → length (part o n xs) ≡ n
      part_length o n xs le = let d = length-drop o xs in length-take-le n (drop o xs) (omega arith)

  other : (from ≡ 0 → to ≡ length us → ⊥) → (0 < from) ⊎ (to < length us)
  other never = dite (ℕ_discrete from 0) (λ e. inr (less never e)) (λ ne. inl (omega arith))
    where
      less : (from ≡ 0 → to ≡ length us → ⊥) → from ≡ 0 → to < length us
      less never e = dite (ℕ_discrete to (length us)) (λ f. absurd (never e f)) (λ ne. omega arith)

  whole_ok : (r : JsStr) → from ≡ 0 → to ≡ length us → IsCut v w w.sizes s from to us (Ok r) → StoreStep (state_by v l t) (state_by w l t)
      None (cut_ids from to (length us)) (cut_words from to (length us))
  whole_ok r e f j = let q = j.whole e f in nothing_used v w l t (cut_ids from to (length us)) (cut_words from to (length us)) p c q.2.1

  part_ok : (r : JsStr) → (from ≡ 0 → to ≡ length us → ⊥) → IsCut v w w.sizes s from to us (Ok r) → StoreStep (state_by v l t)
      (state_by w l t) None (cut_ids from to (length us)) (cut_words from to (length us))
  part_ok r never j = dite (dec_le 13 (to - from))
      (λ long. ⊎_elim
      (λ q. step_used v w l t 1 0 (cut_ids from to (length us)) (cut_words from to (length us)) (let d = cut_ids_one from to (length us) never in omega arith) (omega arith) p c q.2.2)
      (λ q. let bad : Ok r ≡ Err q.0 = q.1 in absurd (cc))
      (j.long (other never) long))
      (λ many. let short : to - from < 13 = omega arith in ⊎_elim
      (λ q. step_used v w l t 1 cut_size (cut_ids from to (length us)) (cut_words from to (length us))
      (let d = cut_ids_one from to (length us) never in omega arith) (let d = cut_words_copy from to (length us) never short in
      let g = cut_most short in omega arith) p c q.2.2)
      (λ q. let bad : Ok r ≡ Err q.0 = q.1 in absurd (cc))
      (j.short (other never) short))

  pub cut_ok : (r : JsStr) → IsCut v w w.sizes s from to us (Ok r) → StoreStep (state_by v l t) (state_by w l t) None (cut_ids from to (length us)) (cut_words from to (length us))
  cut_ok r j = dite (ℕ_discrete from 0) (λ e. dite (ℕ_discrete to (length us)) (λ f. whole_ok r e f j) (λ ne. part_ok r (λ _ f. ne f) j)) (λ ne. part_ok r (λ e _. ne e) j)

  whole_err : (full : TextFull) → from ≡ 0 → to ≡ length us → IsCut v w w.sizes s from to us (Err full) → ⊥
  whole_err full e f j = let q = j.whole e f in let bad : Err full ≡ Ok q.0 = q.1 in cc

  refused_part : (full f : TextFull) (n : ℕ) → f ≡ full → (from ≡ 0 → to ≡ length us → ⊥) → n ≤ cut_words from to (length us) → LacksRoom w w.sizes n f → IsSpared v w n f
      → StoreStep (state_by v l t) (state_by w l t) (Some (fault_in_text full)) (cut_ids from to (length us)) (cut_words from to (length us))
  refused_part full f n is never le told spared = subst (λ (one : ℕ). StoreStep (state_by v l t) (state_by w l t)
      (Some (fault_in_text full)) one (cut_words from to (length us))) (sym (cut_ids_one from to (length us) never))
      (step_refused v w l t n (cut_words from to (length us)) full le p c (subst (LacksRoom w w.sizes n) is told) (subst (IsSpared v w n) is spared))

  part_err : (full : TextFull) → (from ≡ 0 → to ≡ length us → ⊥) → IsCut v w w.sizes s from to us (Err full) → StoreStep (state_by v l t)
      (state_by w l t) (Some (fault_in_text full)) (cut_ids from to (length us)) (cut_words from to (length us))
  part_err full never j = dite (dec_le 13 (to - from))
      (λ long. ⊎_elim
      (λ q. let bad : Err full ≡ Ok q.0 = q.1 in absurd (cc))
      (λ q. let same : Err full ≡ Err q.0 = q.1 in let is : q.0 ≡ full = cc in refused_part full q.0 0 is never (omega arith) q.2.1 q.2.2)
      (j.long (other never) long))
      (λ many. let short : to - from < 13 = omega arith in ⊎_elim
      (λ q. let bad : Err full ≡ Ok q.0 = q.1 in absurd (cc))
      (λ q. let same : Err full ≡ Err q.0 = q.1 in
      let is : q.0 ≡ full = cc in refused_part full q.0 cut_size is never (let d = cut_words_copy from to (length us) never short in
      let g = cut_most short in omega arith) q.2.0 q.2.1)
      (j.short (other never) short))

  pub cut_err : (full : TextFull) → IsCut v w w.sizes s from to us (Err full) → StoreStep (state_by v l t) (state_by w l t)
      (Some (fault_in_text full)) (cut_ids from to (length us)) (cut_words from to (length us))
  cut_err full j = dite (ℕ_discrete from 0) (λ e. dite (ℕ_discrete to (length us)) (λ f. absurd (whole_err full e f j)) (λ ne. part_err full (λ _ f. ne f) j)) (λ ne. part_err full (λ e _. ne e) j)

-- interning
honest_table : (v w : View) (us : List ℕ) (plan : HeaderPlan) (l : ℕ) (t : TableId) (f : TableFull) → IsInternRefused v w us plan f → Honest (state_by w l t) (Some (fault_in_table f))
honest_table v w us plan l t (table.Ids f) h = let full = h.2 in let a = full.0 in let b = full.1 in
    let c = full.2 in (record { can_fill = refl; past_end = omega arith; end_is = b; at_is = sym h.3 }, a)
honest_table v w us plan l t (table.Words f) h = let full = h.2 in let a = full.0 in let b = full.1 in let c = full.2 in record { can_fill = refl; past_end = omega arith; end_is = b; at_is = sym h.3 }
honest_table v w us plan l t (table.Slots n) h = (refl, h.0)

left_most : (v w : View) (us : List ℕ) (plan : HeaderPlan) → HasLeft v w us plan → (w.used.ids ≤ v.used.ids + 1) × (w.used.words ≤ v.used.words + plan.words)
left_most v w us plan h = ⊎_elim (λ t. let e = t.0 in let d = t.1 in (omega arith, omega arith)) (λ t. let e = t.1 in let d = t.2 in (omega arith, omega arith)) h

-- the words of a header are at most those of a copy
pub header_most : (v w : View) (id : ℕ) (us : List ℕ) (plan : HeaderPlan) → IsPlan v w id us plan → plan.words ≤ wide_words (length us)
header_most v w id us plan h = ⊎_elim (λ e. omega arith) (λ t. let e = t.0 in let m = words_most (texts.is_wide us) (length us) in omega arith) (plan_words v w id us plan h)

pub interned_err : (v w : View) (us : List ℕ) (plan : HeaderPlan) (l : ℕ) (t : TableId) (f : TableFull) (most : ℕ) → plan.words ≤ most →
    IsPossible v → AddsCalls v w [] → IsInternRefused v w us plan f → StoreStep (state_by v l t) (state_by w l t) (Some (fault_in_table f)) 1 most
interned_err v w us plan l t (table.Ids f) most le p g h = let a = h.0 in let b = h.2.0 in
    let c = h.1 in record {
      grows = grows_goes v w [] l t p g;
      honest = honest_table v w us plan l t (table.Ids f) h;
      within_ids = omega arith;
      within_words = omega arith;
    }
interned_err v w us plan l t (table.Words f) most le p g h = let a = h.0 in let b = h.2.0 in
    let c = h.1 in record {
      grows = grows_goes v w [] l t p g;
      honest = honest_table v w us plan l t (table.Words f) h;
      within_ids = omega arith;
      within_words = omega arith;
    }
interned_err v w us plan l t (table.Slots n) most le p g h = let a = left_most v w us plan h.2 in let b = a.0 in
    let c = a.1 in record {
      grows = grows_goes v w [] l t p g;
      honest = honest_table v w us plan l t (table.Slots n) h;
      within_ids = omega arith;
      within_words = omega arith;
    }

pub interned_shut : (v w : View) (us : List ℕ) (plan : HeaderPlan) (l : ℕ) (t : TableId) (f : TableFull) → IsInternRefused v w us plan f → SlotsShut (state_by w l t) (Some (fault_in_table f)) us
interned_shut v w us plan l t (table.Ids f) h = tt
interned_shut v w us plan l t (table.Words f) h = tt
interned_shut v w us plan l t (table.Slots n) h = h.1

pub interned_ok : (v w : View) (l : ℕ) (t : TableId) (calls : Calls) (words most : ℕ) → words ≤ most → IsPossible v → AddsCalls v w calls →
    w.used.ids ≤ v.used.ids + 1 → w.used.words ≤ v.used.words + words → StoreStep (state_by v l t) (state_by w l t) None 1 most
interned_ok v w l t calls words most le p g u c = record { grows = grows_goes v w calls l t p g; honest = tt; within_ids = omega arith; within_words = omega arith }

-- the plan after a load that left the string settled
pub planned_then : (v x w : View) (id : ℕ) (us : List ℕ) (plan : HeaderPlan) → IsSeenLater v x id → UsesNothing v x → IsPlan x w id us plan → IsPlan v w id us plan
planned_then v x w id us plan later none h = (h.0, λ g seen. let t = later g seen in onward g t.0 h.0 t.2 (h.1 t.0 t.1), h.2, makes_after v x w h.0 none h.3)
  where
    onward : (f g k : Form) → (f ≡ g) ⊎ IsLater f g → (g ≡ k) ⊎ IsLater g k → (f ≡ k) ⊎ IsLater f k
    onward f g k a b = ⊎_elim
        (λ (e : f ≡ g). ⊎_elim (λ (d : g ≡ k). inl (e ∙ d)) (λ (l : IsLater g k). inr (subst (λ (y : Form). IsLater y k) (sym e) l)) b)
        (λ (l : IsLater f g). ⊎_elim (λ (d : g ≡ k). inr (subst (λ (y : Form). IsLater f y) d l)) (λ (m : IsLater g k). inr (latest f g k l m)) b)
        a

-- the slot that was found free
pub interned_free : (v w : View) (us : List ℕ) (plan : HeaderPlan) (x : View) (f : TableFull) → IsInternRefused v w us plan f → FoundFree x w us (Some (fault_in_table f))
interned_free v w us plan x (table.Ids f) h = h.4
interned_free v w us plan x (table.Words f) h = inl h.4
interned_free v w us plan x (table.Slots n) h = tt

-- no slot was loaded
pub settle_free : (v w : View) (us : List ℕ) (wide : Bool) (f : TextFull) → IsNoRoom v w w.sizes us f wide → w.slot_loads ≡ v.slot_loads → FoundFree v w us (Some (fault_in_text f))
settle_free v w us wide f h e =
    let is = h.words.1 in subst (λ (g : TextFull). FoundFree v w us (Some (fault_in_text g))) (sym is)
    (inr (e, wide, subst (λ (g : TextFull). IsNoRoom v w w.sizes us g wide) is h))
