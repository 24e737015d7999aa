-- What a new string needs is found in the reserve, or claimed; or a claim is refused.
use Rattle.std.proofs.Common.{◌≡◌, ℕ, ◌+◌, ◌-◌, ◌<◌, ◌≤◌, List, ◌∷◌, length, get_or, refl, ap, sym, subst, ◌∙◌, arith}
use Rattle.std.specs.Prelude.{Result, Ok, Err, IfOk, IfErr}
use Rattle.std.specs.FinMap.{FinMap}
use Rattle.std.specs.Ordering.{nat_cmp}
use Rattle.heap_rule.specs.declared.size.HeapSize.{HeapSize}
use Rattle.heap_rule.specs.declared.view.View.{View}
use Rattle.heap_rule.specs.Maps.{Has, HasKey}
use Rattle.heap_rule.specs.declared.size.Counter.TheVariants.{Ids, Words}
use Rattle.heap_rule.specs.Claims.{loaded_counter, won_claim}
use Rattle.heap_rule.proofs.MapLemmas.{has_key, insert_same, key_of}
use Rattle.heap_table.specs.declared.claims.CounterFull.{CounterFull}
use Rattle.heap_table.specs.Full.{IsFull}
use Rattle.heap_read.specs.Reads.{Continues, KeepsForms}
use Rattle.heap_read.proofs.Going.{continues_full_ids, continues_full_words, continues_ids, continues_words}
use Rattle.heap_read.proofs.Loaded.{reads_refl}
use Rattle.heap_bytes.proofs.Runs.{run_zero}
use Rattle.heap_text.proofs.Owned.{own_full, own_refl, own_trans}
use Rattle.heap_text.proofs.Pieces.{spared_ids, spared_words}
use Rattle.heap_text.specs.declared.faults.TextFull.TheVariants as full
use Rattle.heap_reserve.specs.declared.reserve.Reserve.{Reserve}
use Rattle.heap_reserve.specs.Reserves.{IsReserve, IsTakingRefused, kept_ids, words_kept}
use Rattle.heap_reserve.specs.Trying.{FindsBoth, FindsId, FindsWords}
use Rattle.heap_reserve.proofs.Kept.{own_claimed_ids, own_claimed_words}

-- content words
pub words_none : (v : View) (r : Reserve) (n : ℕ) → n ≡ 0 → FindsWords v v r n 0
words_none v r n none = record {
  enough = λ fits. refl;
  claimed = λ more. absurd (omega (arith, more, none));
  ids = refl;
  own_ids = refl;
  own = own_refl v;
  there = λ q l. absurd (omega (arith, l, none));
  none = λ e. refl;
  first = λ some fits. absurd (omega (arith, some, none));
  fresh = λ more q l k. absurd (omega (arith, l, none));
}

pub words_there : (v : View) (r : Reserve) (n : ℕ) → IsReserve v r → (n ≡ 0 → ⊥) → n ≤ words_kept r → FindsWords v v r n r.start
words_there v r n h some fits = record {
  enough = λ e. refl;
  claimed = λ more. absurd (omega (arith, more, fits));
  ids = refl;
  own_ids = refl;
  own = own_refl v;
  there = λ q l. h.words (r.start + q) (omega arith) (omega (arith, l, fits));
  none = λ e. absurd (some e);
  first = λ m e. refl;
  fresh = λ more q l k. absurd (omega (arith, more, fits));
}

pub words_claimed : (v w : View) (r : Reserve) (n start : ℕ) → words_kept r < n → w ≡ won_claim v Words start n → ((c : ℕ) → HasKey v.own_words c → c < start) → FindsWords v w r n start
words_claimed v w r n start more e above = record {
  enough = λ fits. absurd (omega (arith, more, fits));
  claimed = λ m. ap (λ (y : View). y.used.words) e;
  ids = ap (λ (y : View). y.used.ids) e;
  own_ids = ap (λ (y : View). y.own_ids) e;
  own = own_claimed_words v w start n e above;
  there = λ q l. subst (λ (y : View). Has y.own_words (start + q) 0) (sym e) (run_zero v.own_words start n q l);
  none = λ none. absurd (omega (arith, more, none));
  first = λ some fits. absurd (omega (arith, more, fits));
  fresh = λ m q l k. let low = above (start + q) k in omega (arith, low);
}

-- the answer of a claim, as the finding of content words
module _ (v w : View) (r : Reserve) (n all : ℕ) (more : words_kept r < n) where
  pub words_found : (t : Result ℕ CounterFull) → IfOk t (λ at. w ≡ won_claim v Words at n) → IfOk t (λ at. (c : ℕ) → HasKey v.own_words c → c < at) → IfOk t (λ at. FindsWords v w r n at)
  words_found (Ok at) e above = words_claimed v w r n at more e above
  words_found (Err f) e above = tt

  pub words_missed : (t : Result ℕ CounterFull) → IfErr t (λ f. (w ≡ loaded_counter v Words f.at) × IsFull f n all)
      → IfErr t (λ f. (words_kept r < n) × IsFull f n all × (w ≡ loaded_counter v Words f.at))
  words_missed (Ok at) h = tt
  words_missed (Err f) h = (more, h.1, h.0)

pub words_go : (v w : View) (n all : ℕ) (t : Result ℕ CounterFull) → IfOk t (λ at. w ≡ won_claim v Words at n) → IfErr t (λ f. (w ≡ loaded_counter v Words f.at) × IsFull f n all)
    → v.low.words ≤ w.low.words → Continues v w
words_go v w n all (Ok at) e h low = continues_words v w at n e low
words_go v w n all (Err f) e h low = continues_full_words v w f.at h.0 low

pub words_forms : (v w : View) (n all : ℕ) (t : Result ℕ CounterFull) → IfOk t (λ at. w ≡ won_claim v Words at n) → IfErr t (λ f. (w ≡ loaded_counter v Words f.at) × IsFull f n all) → KeepsForms v w
words_forms v w n all (Ok at) e h = (ap (λ (y : View). y.forms) e, ap (λ (y : View). y.form_loads) e)
words_forms v w n all (Err f) e h = (ap (λ (y : View). y.forms) h.0, ap (λ (y : View). y.form_loads) h.0)

-- an id
pub id_there : (v : View) (r s : Reserve) (id : ℕ) → IsReserve v r → kept_ids r ≡ id ∷ kept_ids s → (s.start ≡ r.start) × (s.end ≡ r.end) → FindsId v v r s id
id_there v r s id h ids run = let one : length (kept_ids r) ≡ length (id ∷ kept_ids s) = ap (λ (is : List ℕ). length is) ids in record {
  enough = λ some. (ids, refl);
  claimed = λ none. absurd (omega (arith, none, one));
  run = run;
  words = (refl, refl);
  own = own_refl v;
  there = subst (HasKey v.own_ids) (ap (λ (is : List ℕ). get_or is 0 0) ids) (h.ids 0 0 (omega (arith, one)));
}

pub id_claimed : (v w : View) (r : Reserve) (id : ℕ) → length (kept_ids r) ≡ 0 → w ≡ won_claim v Ids id 1 → ((i : ℕ) → HasKey v.own_ids i → i < id) → FindsId v w r r id
id_claimed v w r id none e above = record {
  enough = λ some. absurd (omega (arith, some, none));
  claimed = λ m. (refl, ap (λ (y : View). y.used.ids) e);
  run = (refl, refl);
  words = (ap (λ (y : View). y.used.words) e, ap (λ (y : View). y.own_words) e);
  own = own_claimed_ids v w id 1 e above;
  there = subst (λ (y : View). HasKey y.own_ids id) (sym e) (key_of _ id 0 (insert_same v.own_ids id 0));
}

-- the answer of a claim, as the finding of an id
module _ (v w : View) (r : Reserve) (all : ℕ) (none : length (kept_ids r) ≡ 0) where
  pub id_found : (t : Result ℕ CounterFull) → IfOk t (λ i. w ≡ won_claim v Ids i 1) → IfOk t (λ j. (i : ℕ) → HasKey v.own_ids i → i < j) → IfOk t (λ i. FindsId v w r r i)
  id_found (Ok i) e above = id_claimed v w r i none e above
  id_found (Err f) e above = tt

  pub id_missed : (t : Result ℕ CounterFull) → IfErr t (λ f. (w ≡ loaded_counter v Ids f.at) × IsFull f 1 all)
      → IfErr t (λ f. (length (kept_ids r) ≡ 0) × IsFull f 1 all × (w ≡ loaded_counter v Ids f.at) × (r ≡ r))
  id_missed (Ok i) h = tt
  id_missed (Err f) h = (none, h.1, h.0, refl)

pub id_goes : (v w : View) (all : ℕ) (t : Result ℕ CounterFull) → IfOk t (λ i. w ≡ won_claim v Ids i 1) → IfErr t (λ f. (w ≡ loaded_counter v Ids f.at) × IsFull f 1 all)
    → v.low.ids ≤ w.low.ids → Continues v w
id_goes v w all (Ok i) e h low = continues_ids v w i 1 e low
id_goes v w all (Err f) e h low = continues_full_ids v w f.at h.0 low

pub id_forms : (v w : View) (all : ℕ) (t : Result ℕ CounterFull) → IfOk t (λ i. w ≡ won_claim v Ids i 1) → IfErr t (λ f. (w ≡ loaded_counter v Ids f.at) × IsFull f 1 all) → KeepsForms v w
id_forms v w all (Ok i) e h = (ap (λ (y : View). y.forms) e, ap (λ (y : View). y.form_loads) e)
id_forms v w all (Err f) e h = (ap (λ (y : View). y.forms) h.0, ap (λ (y : View). y.form_loads) h.0)

-- both
pub both_found : (v u w : View) (r q s : Reserve) (n id start : ℕ) → FindsWords v u r n start → FindsId u w r q id → kept_ids s ≡ kept_ids q
    → (n ≤ words_kept q → (s.start ≡ q.start + n) × (s.end ≡ q.end)) → (words_kept q < n → (s.start ≡ q.start) × (s.end ≡ q.end)) → FindsBoth v w r s n id start
both_found v u w r q s n id start a b ids enough less = let from = b.run.0 in let to = b.run.1 in record {
  had_id = λ some. let t = b.enough some in (t.0 ∙ ap (λ (is : List ℕ). id ∷ is) (sym ids), t.1 ∙ a.ids);
  new_id = λ none. let t = b.claimed none in (ids ∙ t.0, t.1 ∙ ap (λ (k : ℕ). k + 1) a.ids);
  had_words = λ fits. let t = enough (omega (arith, fits, from, to)) in (t.0 ∙ ap (λ (k : ℕ). k + n) from, t.1 ∙ to, b.words.0 ∙ a.enough fits);
  new_words = λ more. let t = less (omega (arith, more, from, to)) in (t.0 ∙ from, t.1 ∙ to, b.words.0 ∙ a.claimed more);
  own = own_trans v u w a.own b.own;
  own_id = b.there;
  there = λ k l. subst (λ (m : FinMap nat_cmp ℕ). Has m (start + k) 0) (sym b.words.1) (a.there k l);
  none = a.none;
  first = a.first;
  fresh = a.fresh;
}

-- no such claim is met
pub words_refused : (v w : View) (z : HeapSize) (r : Reserve) (n : ℕ) (f : CounterFull) → words_kept r < n → IsFull f n z.words → w ≡ loaded_counter v Words f.at
    → IsTakingRefused v w z r r n (full.Words f)
words_refused v w z r n f less is e = record {
  missing = less;
  room = (is, ap (λ (y : View). y.low.words) e);
  stays = refl;
  own = own_full v v w Words f.at e (own_refl v);
  spared = λ more. spared_words v v w n z.words f (reads_refl v) is (ap (λ (y : View). y.used.ids) e) (ap (λ (y : View). y.used.words) e) (ap (λ (y : View). y.own_ids) e)
      (λ c k. subst (λ (y : View). HasKey y.own_words c) (sym e) k);
  nothing = λ fits. absurd (omega (arith, fits, less));
}

pub id_refused : (v u w : View) (z : HeapSize) (r s : Reserve) (n start : ℕ) (f : CounterFull) → FindsWords v u r n start → length (kept_ids r) ≡ 0 → IsFull f 1 z.ids
    → w ≡ loaded_counter u Ids f.at → s ≡ r → IsTakingRefused v w z r s n (full.Ids f)
id_refused v u w z r s n start f found none is e same = record {
  missing = none;
  room = (is, ap (λ (y : View). y.low.ids) e);
  stays = same;
  own = own_full v u w Ids f.at e found.own;
  spared = λ more. spared_ids v v u w start n f.at f (reads_refl v) e found.ids (found.claimed more) found.own_ids keys
      (λ q l. key_of u.own_words (start + q) 0 (found.there q l)) (found.fresh more);
  nothing = λ fits. let words = found.enough fits in spared_ids v v u w 0 0 f.at f (reads_refl v) e found.ids (omega (arith, words)) found.own_ids keys
      (λ q l. absurd (omega (arith, l))) (λ q l k. absurd (omega (arith, l)));
}
  where
    keys : (c : ℕ) → HasKey v.own_words c → HasKey u.own_words c
    keys c k = let t = has_key v.own_words c k in key_of u.own_words c t.0 (found.own.words c t.0 t.1)
