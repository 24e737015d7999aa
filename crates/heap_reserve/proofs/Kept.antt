-- What is kept stays kept, and what is taken leaves the rest.
use Rattle.std.proofs.Common.{◌≡◌, ◌≢◌, ℕ, zero, suc, ◌+◌, ◌-◌, ◌^◌, ◌<◌, ◌≤◌, ⊎_elim, ◌⊎◌, inl, inr, Bool, true, false, List, [], ◌∷◌, ◌++◌, length, get_or, append-nil, refl, ap, sym, subst, ◌∙◌, arith}
use Rattle.std.specs.Prelude.{All, Result, Ok, Err, OnOk, IfErr, IfOk}
use Rattle.std.proofs.lemmas.List.{append_assoc, length-append}
use Rattle.std.proofs.lemmas.List.Elements.{All-push}
use mathlib.Core.Logic.{dite}
use native.Mathlib.Decide.{ℕ_discrete, dec_le}
use Rattle.std.specs.FinMap.{FinMap, insert}
use Rattle.std.specs.Ordering.{nat_cmp}
use Rattle.js_units.specs.Lanes.{words_over}
use Rattle.heap_rule.specs.declared.size.HeapSize.{HeapSize}
use Rattle.heap_rule.specs.declared.view.View.{View}
use Rattle.heap_rule.specs.declared.size.Counters.{Counters}
use Rattle.heap_rule.specs.Maps.{Has, HasKey, with_run}
use Rattle.heap_rule.specs.Sound.{IsPossible}
use Rattle.heap_rule.specs.declared.size.Counter.TheVariants.{Ids, Words}
use Rattle.heap_rule.specs.Claims.{loaded_counter, won_claim}
use Rattle.heap_table.specs.declared.claims.CounterFull.{CounterFull}
use Rattle.heap_table.specs.Full.{IsFull}
use Rattle.heap_rule.proofs.MapLemmas.{has_key, insert_same, key_of}
use Rattle.heap_rule.proofs.Possible.{possible_lawful}
use Rattle.heap_rule.proofs.Steps.{possible_within}
use Rattle.heap_read.specs.Reads.{Continues, KeepsBeside, KeepsForms, OnlyLoads, WritesOwnWords}
use Rattle.heap_read.proofs.Going.{continues_full_ids, continues_full_words, continues_ids, continues_words, run_below, run_kept}
use Rattle.heap_read.proofs.Loaded.{reads_refl}
use Rattle.heap_bytes.proofs.Runs.{run_zero}
use Rattle.heap_read.specs.Written.{AreWords, IsWritten}
use Rattle.heap_text.specs.Texts.{KeepsOwn, KeepsOwnBut}
use Rattle.heap_text.proofs.Owned.{own_full, own_reads, own_refl, own_trans}
use Rattle.heap_text.proofs.Pieces.{spared_after, spared_ids, spared_words}
use Rattle.heap_text.specs.declared.faults.TextFull.{TextFull}
use Rattle.heap_text.specs.declared.faults.TextFull.TheVariants as full
use Rattle.heap_reserve.specs.declared.faults.ReserveFault.{ReserveFault}
use Rattle.heap_reserve.specs.declared.faults.ReserveFault.TheVariants.{Memory, Full}
use Rattle.heap_reserve.specs.declared.reserve.Reserve.{Reserve}
use Rattle.heap_reserve.specs.Claims.{IsClaimAnswer, IsIdRefused}
use Rattle.heap_reserve.specs.Trying.{FindsBoth, FindsId, FindsWords, ids_from}
use Rattle.heap_reserve.specs.Reserves.{IsAscending, IsClaimed, IsGrown, IsReserve, IsTakenFrom, IsTakingRefused, TakesOverReserve, kept_ids, words_kept}

-- any call that leaves the agent what it owns leaves it what it keeps
pub reserve_kept : (v w : View) (r : Reserve) → KeepsOwn v w → IsReserve v r → IsReserve w r
reserve_kept v w r kept h = record {
  ids = λ k d l. let i : ℕ = get_or (kept_ids r) k d in let t = has_key v.own_ids i (h.ids k d l) in key_of w.own_ids i t.0 (kept.ids i t.0 t.1);
  ascending = h.ascending;
  ordered = h.ordered;
  words = λ c low high. kept.words c 0 (h.words c low high);
}

-- and so does a claim
pub own_claimed_ids : (v x : View) (first n : ℕ) → x ≡ won_claim v Ids first n → ((i : ℕ) → HasKey v.own_ids i → i < first) → KeepsOwn v x
own_claimed_ids v x first n e above = subst (KeepsOwn v) (sym e) (record {
  ids = λ i k h. run_below v.own_ids first n i 0 k (above i (key_of v.own_ids i k h)) h;
  words = λ c y h. h;
})

pub own_claimed_words : (v w : View) (start want : ℕ) → w ≡ won_claim v Words start want → ((c : ℕ) → HasKey v.own_words c → c < start) → KeepsOwn v w
own_claimed_words v w start want e above = subst (KeepsOwn v) (sym e) (record {
  ids = λ i n h. h;
  words = λ c y h. run_below v.own_words start want c 0 y (above c (key_of v.own_words c y h)) h;
})

-- what is behind the first id is another id
behind : (i : ℕ) (is : List ℕ) → IsAscending (i ∷ is) → All (λ j. j ≢ i) is
behind i is h = λ k d l e. let less = h.0 k d l in omega (arith, less, e)

rest_ids : (v : View) (i : ℕ) (is : List ℕ) → All (λ j. HasKey v.own_ids j) (i ∷ is) → All (λ j. HasKey v.own_ids j) is
rest_ids v i is h = λ k d l. h (suc k) d (omega arith)

-- the ids that are left are own still
ids_left : (v w : View) (r s : Reserve) (id n : ℕ) → IsReserve v r → IsTakenFrom v w r s id n → ((i k : ℕ) → i ≢ id → Has v.own_ids i k → Has w.own_ids i k)
    → All (λ i. HasKey w.own_ids i) (kept_ids s) × IsAscending (kept_ids s)
ids_left v w r s id n h t keeps = dite (ℕ_discrete (length (kept_ids r)) 0)
    (λ none. let e = (t.new_id none).0 in let few : length (kept_ids s) ≡ length (kept_ids r) = ap (λ (is : List ℕ). length is) e in
    ((λ k d l. absurd (omega (arith, l, few, none))), subst IsAscending (sym e) h.ascending))
    (λ some. let e = (t.had_id (omega (arith, some))).0 in let up : IsAscending (id ∷ kept_ids s) = subst IsAscending e h.ascending in
    let own : All (λ j. HasKey v.own_ids j) (kept_ids s) = rest_ids v id (kept_ids s) (subst (λ (is : List ℕ). All (λ j. HasKey v.own_ids j) is) e h.ids) in
    ((λ k d l. let i : ℕ = get_or (kept_ids s) k d in let m = has_key v.own_ids i (own k d l) in key_of w.own_ids i m.0 (keeps i m.0 (behind id (kept_ids s) up k d l) m.1)), up.1))

-- the rest stays kept when something is taken
pub reserve_taken : (v w : View) (r s : Reserve) (id n : ℕ) → IsReserve v r → IsTakenFrom v w r s id n → IsReserve w s
reserve_taken v w r s id n h t = dite (dec_le n (words_kept r))
    (λ fits. let e = t.had_words fits in let start = e.0 in let end = e.1 in let up = h.ordered in let but = e.3 in let ids = ids_left v w r s id n h t but.ids in record {
      ids = ids.0;
      ascending = ids.1;
      ordered = omega (arith, start, end, up, fits);
      words = λ c low high. let from : r.start + n ≤ c = omega (arith, low, start) in but.words c 0 (inr from) (h.words c (omega (arith, from)) (omega (arith, high, end)));
    })
    (λ less. let e = t.new_words (omega (arith, less)) in let start = e.0 in let end = e.1 in let up = h.ordered in let but = e.3 in let ids = ids_left v w r s id n h t but.ids in record {
      ids = ids.0;
      ascending = ids.1;
      ordered = omega (arith, start, end, up);
      words = λ c low high. but.words c 0 (inr (omega arith)) (h.words c (omega (arith, low, start)) (omega (arith, high, end)));
    })

-- words that are written are those of a flat string
none_written : (wide : Bool) (n : ℕ) → n ≡ 0 → words_over wide n ≡ 0
none_written true n e = omega (arith, e)
none_written false n e = omega (arith, e)

pub all_written : (p : View) → IsPossible p → (wide : Bool) (start words n : ℕ) (us : List ℕ) → words ≡ words_over wide n → length us ≡ n →
    AreWords p wide start us (words_over wide n) → (words ≡ 0 → start ≡ 0) → IsWritten p wide start us
all_written p possible wide start words n us e long h empty = record {
  small = dite (ℕ_discrete words 0) (λ none. let z = empty none in omega (arith, z)) (λ some. there (omega (arith, some, e)));
  words = subst (λ (m : ℕ). AreWords p wide start us (words_over wide m)) (sym long) h;
  empty = λ none. empty (e ∙ none_written wide n (sym long ∙ none));
}
  where
    there : 0 < words_over wide n → start < 2 ^ 29
    there l = let t = h.each 0 l in let a = (possible_within p possible).words (start + 0) (key_of p.own_words (start + 0) t.0 t.1) in let b = (possible_lawful p possible).3 in omega (arith, a, b)

-- a flat string was made of what was found for it
pub copy_taken : (v u p z : View) (r s : Reserve) (id start n : ℕ) → FindsBoth v u r s n id start → WritesOwnWords u p → KeepsBeside start n u p → z.used ≡ p.used
    → KeepsOwnBut p z id start n → IsTakenFrom v z r s id n
copy_taken v u p z r s id start n f write beside used but = let e : z.used ≡ u.used = used ∙ write.used in
    let ids : z.used.ids ≡ u.used.ids = ap (λ (k : Counters). k.ids) e in let words : z.used.words ≡ u.used.words = ap (λ (k : Counters). k.words) e in record {
      had_id = λ some. let t = f.had_id some in (t.0, ids ∙ t.1);
      new_id = λ none. let t = f.new_id none in (t.0, ids ∙ t.1);
      had_words = λ fits. let t = f.had_words fits in (t.0, t.1, words ∙ t.2, record { ids = all_ids; words = λ c x side h. all_words c x (apart fits c side) h });
      new_words = λ more. let t = f.new_words more in (t.0, t.1, words ∙ t.2, record { ids = all_ids; words = λ c x side h. all_words c x (away more c x h) h });
    }
  where
    all_ids : (i k : ℕ) → i ≢ id → Has v.own_ids i k → Has z.own_ids i k
    all_ids i k ne h = but.ids i k ne (subst (λ (m : FinMap nat_cmp ℕ). Has m i k) (sym write.own_ids) (f.own.ids i k h))

    all_words : (c x : ℕ) → (c < start) ⊎ (start + n ≤ c) → Has v.own_words c x → Has z.own_words c x
    all_words c x side h = but.words c x side (beside c x side (f.own.words c x h))

    apart : n ≤ words_kept r → (c : ℕ) → (c < r.start) ⊎ (r.start + n ≤ c) → (c < start) ⊎ (start + n ≤ c)
    apart fits c side = dite (ℕ_discrete n 0)
        (λ none. dite (dec_le start c) (λ l. inr (omega (arith, none, l))) (λ l. inl (omega (arith, l))))
        (λ some. let same = f.first (omega (arith, some)) fits in ⊎_elim (λ low. inl (omega (arith, low, same))) (λ high. inr (omega (arith, high, same))) side)

    away : words_kept r < n → (c x : ℕ) → Has v.own_words c x → (c < start) ⊎ (start + n ≤ c)
    away more c x h = dite (dec_le (start + n) c) (λ l. inr l)
        (λ l. dite (dec_le start c)
        (λ m. let e : start + (c - start) ≡ c = omega (arith, m) in absurd (f.fresh more (c - start) (omega (arith, l, m)) (subst (HasKey v.own_words) (sym e) (key_of v.own_words c x h))))
        (λ m. inl (omega (arith, m))))

-- and one that needs no word
pub id_taken : (v z : View) (r s : Reserve) (id : ℕ) → z.used ≡ v.used → KeepsOwnBut v z id 0 0 → kept_ids r ≡ id ∷ kept_ids s → (s.start ≡ r.start) × (s.end ≡ r.end) → IsTakenFrom v z r s id 0
id_taken v z r s id used but ids run = let e = run.0 in let a : z.used.ids ≡ v.used.ids = ap (λ (k : Counters). k.ids) used in let b : z.used.words ≡ v.used.words = ap (λ (k : Counters). k.words) used in record {
  had_id = λ some. (ids, a);
  new_id = λ none. let one : length (kept_ids r) ≡ suc (length (kept_ids s)) = ap (λ (is : List ℕ). length is) ids in absurd (omega (arith, none, one));
  had_words = λ fits. (omega (arith, e), run.1, b, record { ids = but.ids; words = λ c x side h. but.words c x (inr (omega arith)) h });
  new_words = λ more. absurd (omega (arith, more));
}

-- what was taken after loads, from before them
but_after : (v u w : View) (id start n : ℕ) → OnlyLoads v u → KeepsOwnBut u w id start n → KeepsOwnBut v w id start n
but_after v u w id start n read k = let kept = own_reads v u read in record { ids = λ i m ne h. k.ids i m ne (kept.ids i m h); words = λ c x side h. k.words c x side (kept.words c x h) }

pub taken_after : (v u w : View) (r s : Reserve) (id n : ℕ) → OnlyLoads v u → IsTakenFrom u w r s id n → IsTakenFrom v w r s id n
taken_after v u w r s id n read t = let a : u.used.ids ≡ v.used.ids = ap (λ (k : Counters). k.ids) read.used in let b : u.used.words ≡ v.used.words = ap (λ (k : Counters). k.words) read.used in record {
  had_id = λ some. let e = t.had_id some in (e.0, e.1 ∙ a);
  new_id = λ none. let e = t.new_id none in (e.0, e.1 ∙ ap (λ (k : ℕ). k + 1) a);
  had_words = λ fits. let e = t.had_words fits in (e.0, e.1, e.2 ∙ b, but_after v u w id r.start n read e.3);
  new_words = λ more. let e = t.new_words more in (e.0, e.1, e.2 ∙ ap (λ (k : ℕ). k + n) b, but_after v u w id 0 0 read e.3);
}

pub refused_after : (v u w : View) (z : HeapSize) (r s : Reserve) (n : ℕ) (f : TextFull) → OnlyLoads v u → IsTakingRefused u w z r s n f → IsTakingRefused v w z r s n f
refused_after v u w z r s n f read h = record {
  missing = h.missing;
  room = h.room;
  stays = h.stays;
  own = own_trans v u w (own_reads v u read) h.own;
  spared = λ more. spared_after v u w n n f read refl (h.spared more);
  nothing = λ fits. spared_after v u w 0 0 f read refl (h.nothing fits);
}

-- Claims.
pub ascending_push : (is : List ℕ) (x : ℕ) → IsAscending is → All (λ i. i < x) is → IsAscending (is ++ x ∷ [])
ascending_push [] x h l = (λ k d m. absurd (omega arith), tt)
ascending_push (i ∷ is) x h l = (All-push (λ j. i < j) is x h.0 (l 0 0 (omega arith)), ascending_push is x h.1 (λ k d m. l (suc k) d (omega arith)))

-- ids that were claimed at once
pub more_ids : (first n : ℕ) → ids_from first (suc n) ≡ ids_from first n ++ (first + n) ∷ []
more_ids first zero = let e : first ≡ first + 0 = omega arith in λ j. e j ∷ []
more_ids first (suc n) = let e : suc first + n ≡ first + suc n = omega arith in
    ap (λ (is : List ℕ). first ∷ is) (more_ids (suc first) n) ∙ (λ j. first ∷ (ids_from (suc first) n ++ e j ∷ []))

pub count_ids : (first n : ℕ) → length (ids_from first n) ≡ n
count_ids first zero = refl
count_ids first (suc n) = λ j. suc (count_ids (suc first) n j)

own_more : (m : FinMap nat_cmp ℕ) (first : ℕ) (is : List ℕ) → All (λ i. HasKey m i) is → All (λ i. HasKey (insert m first 0) i) (is ++ first ∷ [])
own_more m first is h = All-push (λ i. HasKey (insert m first 0) i) is first
    (λ k d l. run_kept m first 1 (get_or is k d) 0 (h k d l)) (key_of (insert m first 0) first 0 (insert_same m first 0))

own_ids_from : (m : FinMap nat_cmp ℕ) (first n : ℕ) (is : List ℕ) → All (λ i. HasKey m i) is → All (λ i. HasKey (with_run m first n 0) i) (is ++ ids_from first n)
own_ids_from m first zero is h = subst (All (λ i. HasKey m i)) (sym (append-nil is)) h
own_ids_from m first (suc n) is h = let m' : FinMap nat_cmp ℕ = insert m first 0 in
    subst (All (λ i. HasKey (with_run m' (suc first) n 0) i)) (append_assoc is (first ∷ []) (ids_from (suc first) n))
    (own_ids_from m' (suc first) n (is ++ first ∷ []) (own_more m first is h))

ascending_from : (first n : ℕ) (is : List ℕ) → IsAscending is → All (λ i. i < first) is → IsAscending (is ++ ids_from first n)
ascending_from first zero is h l = subst IsAscending (sym (append-nil is)) h
ascending_from first (suc n) is h l = subst IsAscending (append_assoc is (first ∷ []) (ids_from (suc first) n))
    (ascending_from (suc first) n (is ++ first ∷ []) (ascending_push is first h l)
    (All-push (λ i. i < suc first) is first (λ k d m. let less = l k d m in omega (arith, less)) (omega arith)))

-- they come last
pub reserve_pushed : (v x : View) (r s : Reserve) (first n : ℕ) → x ≡ won_claim v Ids first n → ((i : ℕ) → HasKey v.own_ids i → i < first) → IsReserve
    v r → kept_ids s ≡ kept_ids r ++ ids_from first n → s.start ≡ r.start → s.end ≡ r.end → IsReserve x s
reserve_pushed v x r s first n e above h ids start end = let up = h.ordered in let kept = reserve_kept v x r (own_claimed_ids v x first n e above) h in
    record {
      ids = subst (λ (is : List ℕ). All (λ i. HasKey x.own_ids i) is) (sym ids)
          (subst (λ (y : View). All (λ i. HasKey y.own_ids i) (kept_ids r ++ ids_from first n)) (sym e) (own_ids_from v.own_ids first n (kept_ids r) h.ids));
      ascending = subst IsAscending (sym ids) (ascending_from first n (kept_ids r) h.ascending (λ k d l. above (get_or (kept_ids r) k d) (h.ids k d l)));
      ordered = omega (arith, up, start, end);
      words = λ c low high. kept.words c (omega (arith, low, start)) (omega (arith, high, end));
    }

-- and they are what was claimed
pub claimed_ids : (v x : View) (r s : Reserve) (first n : ℕ) → x ≡ won_claim v Ids first n → kept_ids s ≡ kept_ids r ++ ids_from first n → s.start ≡ r.start → s.end ≡ r.end → IsClaimed v x r s n 0
claimed_ids v x r s first n e ids start end = record {
  used = subst (λ (y : View). (y.used.ids ≡ v.used.ids + n) × (y.used.words ≡ v.used.words + 0)) (sym e) (refl, omega arith);
  added = (ids_from first n, ids, count_ids first n);
  run = inl (start, omega (arith, end));
}

-- words that were claimed are the run, or the end of it
pub reserve_grown : (v w : View) (r s : Reserve) (start want : ℕ) → w ≡ won_claim v
    Words start want → ((c : ℕ) → HasKey v.own_words c → c < start) → IsReserve v r → kept_ids s ≡ kept_ids r → s.end ≡ start + want
    → (start ≡ r.end → s.start ≡ r.start) → ((start ≡ r.end → ⊥) → s.start ≡ start) → IsReserve w s
reserve_grown v w r s start want e above h ids end behind other = let kept = reserve_kept v w r (own_claimed_words v w start want e above) h in let up = h.ordered in record {
  ids = subst (λ (is : List ℕ). All (λ i. HasKey w.own_ids i) is) (sym ids) kept.ids;
  ascending = subst IsAscending (sym ids) h.ascending;
  ordered = dite (ℕ_discrete start r.end) (λ same. let b = behind same in omega (arith, b, end, up, same)) (λ ne. let b = other ne in omega (arith, b, end));
  words = λ c low high. dite (dec_le start c)
      (λ l. let back : start + (c - start) ≡ c = omega (arith, l) in subst (λ (q : ℕ). Has w.own_words q 0) back
      (subst (λ (y : View). Has y.own_words (start + (c - start)) 0) (sym e) (run_zero v.own_words start want (c - start) (omega (arith, l, high, end)))))
      (λ l. dite (ℕ_discrete start r.end) (λ same. let b = behind same in kept.words c (omega (arith, low, b)) (omega (arith, l, same))) (λ ne. let b = other ne in absurd (omega (arith, b, low, l))));
}

pub grown_claimed : (v w : View) (r s : Reserve) (start want : ℕ) → 0 < want → w ≡ won_claim v Words start want → ((c : ℕ) → HasKey v.own_words c → c < start) → kept_ids s ≡ kept_ids r
    → s.end ≡ start + want → (start ≡ r.end → s.start ≡ r.start) → ((start ≡ r.end → ⊥) → s.start ≡ start) → IsClaimed v w r s 0 want
grown_claimed v w r s start want some e above ids end behind other = record {
  used = subst (λ (y : View). (y.used.ids ≡ v.used.ids + 0) × (y.used.words ≡ v.used.words + want)) (sym e) (omega arith, refl);
  added = ([], ids ∙ sym (append-nil (kept_ids r)), refl);
  run = dite (ℕ_discrete start r.end)
      (λ same. let b = behind same in inl (b, omega (arith, end, same)))
      (λ ne. let b = other ne in inr (some, (λ d. ne (sym b ∙ d)), omega (arith, end, b), (λ c low high k. let l = above c k in omega (arith, l, low, b))));
}

pub claimed_none : (v w : View) (r s : Reserve) → w.used ≡ v.used → kept_ids s ≡ kept_ids r → s.start ≡ r.start → s.end ≡ r.end → IsClaimed v w r s 0 0
claimed_none v w r s used ids start end = let i : w.used.ids ≡ v.used.ids = ap (λ (n : Counters). n.ids) used in let q : w.used.words ≡ v.used.words = ap (λ (n : Counters). n.words) used in record {
  used = (omega (arith, i), omega (arith, q));
  added = ([], ids ∙ sym (append-nil (kept_ids r)), refl);
  run = inl (start, omega (arith, end));
}

-- the run is as before where no word was claimed
same_run : (v : View) (r s : Reserve) → IsGrown v r s 0 → (s.start ≡ r.start) × (s.end ≡ r.end)
same_run v r s g = ⊎_elim (λ c. (c.0, let e = c.1 in omega (arith, e))) (λ c. let l = c.0 in absurd (omega (arith, l))) g

pub claimed_then : (v w x : View) (r s t : Reserve) (i k words : ℕ) → IsClaimed v w r s i words → IsClaimed w x s t k 0 → IsClaimed v x r t (i + k) words
claimed_then v w x r s t i k words a b = let a0 = a.used.0 in let a1 = a.used.1 in let b0 = b.used.0 in let b1 = b.used.1 in let same = same_run w s t b.run in record {
  used = (omega (arith, a0, b0), omega (arith, a1, b1));
  added = (
    a.added.0 ++ b.added.0,
    b.added.1 ∙ (ap (λ (is : List ℕ). is ++ b.added.0) a.added.1 ∙ append_assoc (kept_ids r) a.added.0 b.added.0),
    length-append a.added.0 b.added.0 ∙ (λ j. a.added.2 j + b.added.2 j),
  );
  run = subst (λ (n : ℕ). ((n ≡ r.start) × (t.end ≡ r.end + words)) ⊎ ((0 < words) × (n ≢ r.end) × (t.end ≡ n + words) × ((c : ℕ) → n ≤ c → c < t.end → HasKey v.own_words c → ⊥))) (sym same.0)
      (subst (λ (n : ℕ). ((s.start ≡ r.start) × (n ≡ r.end + words)) ⊎ ((0 < words) × (s.start ≢ r.end) × (n ≡ s.start + words) × ((c : ℕ) → s.start ≤ c → c < n → HasKey v.own_words c → ⊥)))
      (sym same.1) a.run);
}

-- the list got room for more
pub claimed_still : (v w : View) (r s t : Reserve) (ids words : ℕ) → IsClaimed v w r s ids words → kept_ids t ≡ kept_ids s → (t.start ≡ s.start) × (t.end ≡ s.end) → IsClaimed v w r t ids words
claimed_still v w r s t ids words a e run = let plain : ids + 0 ≡ ids = omega arith in
    subst (λ (n : ℕ). IsClaimed v w r t n words) plain (claimed_then v w w r s t ids 0 words a (claimed_none w w s t refl e run.0 run.1))

pub reserve_still : (v : View) (s t : Reserve) → kept_ids t ≡ kept_ids s → (t.start ≡ s.start) × (t.end ≡ s.end) → IsReserve v s → IsReserve v t
reserve_still v s t e run h = let start = run.0 in let end = run.1 in let up = h.ordered in record {
  ids = subst (λ (is : List ℕ). All (λ i. HasKey v.own_ids i) is) (sym e) h.ids;
  ascending = subst IsAscending (sym e) h.ascending;
  ordered = omega (arith, start, end, up);
  words = λ c low high. h.words c (omega (arith, low, start)) (omega (arith, high, end));
}

-- ids after words
claimed_behind : (v w x : View) (r s t : Reserve) (k words : ℕ) → IsClaimed v w r s 0 words → IsClaimed w x s t k 0 → IsClaimed v x r t k words
claimed_behind v w x r s t k words a b = let plain : 0 + k ≡ k = omega arith in subst (λ (n : ℕ). IsClaimed v x r t n words) plain (claimed_then v w x r s t 0 k words a b)

-- a refusal after ids that were claimed
pub refused_then : (v w x : View) (z : HeapSize) (r s t : Reserve) (k ids : ℕ) (f : ReserveFault) → k < ids → IsClaimed v w r s k 0 → IsIdRefused w x z s t 1 0 f → IsIdRefused v x z r t ids 0 f
refused_then v w x z r s t k ids Memory l a h = let j = h.0 in let some = h.1 in let m = h.2 in (k + j, omega (arith, some), omega (arith, l, m), claimed_then v w x r s t k j 0 a h.3)
refused_then v w x z r s t k ids (Full (full.Ids f)) l a h = let j = h.2.0 in let m = h.2.1 in (h.0, h.1, (k + j, omega (arith, l, m), claimed_then v w x r s t k j 0 a h.2.2))
refused_then v w x z r s t k ids (Full (full.Words f)) l a h = absurd h

-- a refusal after words that were claimed
pub refused_behind : (v w x : View) (z : HeapSize) (r s t : Reserve) (ids words : ℕ) (f : ReserveFault) → IsClaimed v w r s 0 words → IsIdRefused w x z s t ids 0 f → IsIdRefused v x z r t ids words f
refused_behind v w x z r s t ids words Memory a h = (h.0, h.1, h.2, claimed_behind v w x r s t h.0 words a h.3)
refused_behind v w x z r s t ids words (Full (full.Ids f)) a h = (h.0, h.1, (h.2.0, h.2.1, claimed_behind v w x r s t h.2.0 words a h.2.2))
refused_behind v w x z r s t ids words (Full (full.Words f)) a h = absurd h

-- the answer of both
pub claim_answer : (v w x : View) (z : HeapSize) (r s t : Reserve) (ids words : ℕ) (answer : Result (Unit {0}) ReserveFault) → IsClaimed v w
    r s 0 words → OnOk answer (IsClaimed w x s t ids 0) → IfErr answer (λ f. IsIdRefused w x z s t ids 0 f)
    → IsClaimAnswer v x z r t ids words answer
claim_answer v w x z r s t ids words (Ok u) a ok err = claimed_behind v w x r s t ids words a ok
claim_answer v w x z r s t ids words (Err Memory) a ok err = inr (refused_behind v w x z r s t ids words Memory a err)
claim_answer v w x z r s t ids words (Err (Full (full.Ids f))) a ok err = refused_behind v w x z r s t ids words (Full (full.Ids f)) a err
claim_answer v w x z r s t ids words (Err (Full (full.Words f))) a ok err = absurd err

-- the same from before the list got room
claimed_roomy : (v w : View) (r q t : Reserve) (ids words : ℕ) → kept_ids q ≡ kept_ids r → (q.start ≡ r.start) × (q.end ≡ r.end) → IsClaimed v w q t ids words → IsClaimed v w r t ids words
claimed_roomy v w r q t ids words e run a = record {
  used = a.used;
  added = (a.added.0, a.added.1 ∙ ap (λ (is : List ℕ). is ++ a.added.0) e, a.added.2);
  run = subst (λ (n : ℕ). ((t.start ≡ n) × (t.end ≡ r.end + words)) ⊎ ((0 < words) × (t.start ≢ r.end) × (t.end ≡ t.start + words) × ((c : ℕ) → t.start ≤ c → c < t.end → HasKey v.own_words c → ⊥))) run.0
      (subst (λ (n : ℕ). ((t.start ≡ q.start) × (t.end ≡ n + words)) ⊎ ((0 < words) × (t.start ≢ n) × (t.end ≡ t.start + words) × ((c : ℕ) → t.start ≤ c → c < t.end → HasKey v.own_words c → ⊥))) run.1 a.run);
}

pub claim_roomy : (v w : View) (z : HeapSize) (r q t : Reserve) (ids words : ℕ) (answer : Result (Unit {0}) ReserveFault) → kept_ids q ≡ kept_ids r → (q.start ≡ r.start) × (q.end ≡ r.end)
    → IsClaimAnswer v w z q t ids words answer → IsClaimAnswer v w z r t ids words answer
claim_roomy v w z r q t ids words (Ok u) e run a = claimed_roomy v w r q t ids words e run a
claim_roomy v w z r q t ids words (Err Memory) e run a = ⊎_elim (λ c. inl (claimed_roomy v w r q t 0 0 e run c))
    (λ c. inr (c.0, c.1, c.2, claimed_roomy v w r q t c.0 words e run c.3)) a
claim_roomy v w z r q t ids words (Err (Full (full.Ids f))) e run a = (a.0, a.1, (a.2.0, a.2.1, claimed_roomy v w r q t a.2.0 words e run a.2.2))
claim_roomy v w z r q t ids words (Err (Full (full.Words f))) e run a = (a.0, a.1, claimed_roomy v w r q t 0 0 e run a.2)

-- what is taken over is kept, where both reserves are
pub reserve_over : (v : View) (r s t : Reserve) → TakesOverReserve r s t → IsReserve v r → IsReserve v s → IsReserve v t
reserve_over v r s t h own other = let ids : All (λ i. HasKey v.own_ids i) (kept_ids t) × IsAscending (kept_ids t) = dite (ℕ_discrete (length (kept_ids r)) 0)
    (λ none. let e = h.other_ids none in (subst (λ (is : List ℕ). All (λ i. HasKey v.own_ids i) is) (sym e) other.ids, subst IsAscending (sym e) other.ascending))
    (λ some. let e = h.ids (omega (arith, some)) in (subst (λ (is : List ℕ). All (λ i. HasKey v.own_ids i) is) (sym e) own.ids, subst IsAscending (sym e) own.ascending)) in
    let run : (t.start ≤ t.end) × ((c : ℕ) → t.start ≤ c → c < t.end → Has v.own_words c 0) = dite (ℕ_discrete (words_kept r) 0)
    (λ none. let e = h.other_words none in let up = other.ordered in
    (omega (arith, e.0, e.1, up), λ c low high. other.words c (omega (arith, low, e.0)) (omega (arith, high, e.1))))
    (λ some. let e = h.words (omega (arith, some)) in let up = own.ordered in
    (omega (arith, e.0, e.1, up), λ c low high. own.words c (omega (arith, low, e.0)) (omega (arith, high, e.1)))) in record {
      ids = ids.0;
      ascending = ids.1;
      ordered = run.0;
      words = run.1;
    }

-- the first ids that are claimed, or none
pub claimed_first : (v w : View) (z : HeapSize) (r s : Reserve) (ids : ℕ) (f : ReserveFault) → 0 < ids → IsIdRefused v w z r s 1 0 f → IsIdRefused v w z r s ids 0 f
claimed_first v w z r s ids f some h = refused_then v v w z r r s 0 ids f some (claimed_none v v r r refl refl refl refl) h

-- numbers that ascend from `low` on, and stay below n, are at most n - low
ascending_few : (low n : ℕ) (is : List ℕ) → IsAscending is → All (λ i. low ≤ i) is → All (λ i. i < n) is → low ≤ n → length is + low ≤ n
ascending_few low n [] up from below le = omega (arith, le)
ascending_few low n (i ∷ is) up from below le = let f = from 0 0 (omega arith) in let b = below 0 0 (omega arith) in
    let rest = ascending_few (suc i) n is up.1 (λ k d l. let m = up.0 k d l in omega (arith, m)) (λ k d l. below (suc k) d (omega arith)) (omega (arith, b)) in omega (arith, rest, f)

-- so a reserve has no more ids than the heap
pub ids_few : (v : View) (r : Reserve) (n : ℕ) → IsReserve v r → ((i : ℕ) → HasKey v.own_ids i → i < n) → length (kept_ids r) ≤ n
ids_few v r n h below = let few = ascending_few 0 n (kept_ids r) h.ascending (λ k d l. omega arith) (λ k d l. below (get_or (kept_ids r) k d) (h.ids k d l)) (omega arith) in omega (arith, few)
