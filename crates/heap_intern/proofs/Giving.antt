-- What was claimed before becomes a fixed Flat, and a call that takes it leaves all else.
use Rattle.std.proofs.Common.{◌≡◌, ◌≢◌, ℕ, ◌+◌, ◌<◌, ◌≤◌, ⊎_elim, Bool, true, false, ◌^◌, List, [], ◌∷◌, length, sym, refl, ap, ◌∙◌, subst, arith, append-nil, Option, Some, None, Result, Ok, Err}
use Rattle.std.specs.Prelude.{unwrap_or}
use mathlib.Core.Logic.{dite}
use native.Mathlib.Decide.{ℕ_discrete}
use Rattle.std.proofs.lemmas.List.{get_or_past}
use Rattle.std.specs.FinMap.{FinMap, get}
use Rattle.std.specs.Ordering.{nat_cmp}
use Rattle.js_units.specs.Lanes.{is_wide, words_over}
use Rattle.js_header.specs.declared.form.Form.TheVariants.{Flat}
use Rattle.heap_rule.specs.declared.view.View.{View}
use Rattle.heap_rule.specs.declared.size.HeapSize.{HeapSize}
use Rattle.heap_rule.specs.declared.size.Counters.{Counters}
use Rattle.heap_rule.specs.Births.{MayBear, born, stored_length, units_for}
use Rattle.heap_rule.specs.Contents.{span}
use Rattle.heap_rule.specs.Maps.{Has, HasKey, without_run}
use Rattle.heap_rule.specs.Paths.{path_slot, rank}
use Rattle.heap_rule.specs.Slots.{IsShutAt}
use Rattle.heap_rule.specs.Sound.{IsPossible}
use Rattle.heap_rule.specs.Views.{shown_word}
use Rattle.heap_rule.proofs.Birth.{has_without}
use Rattle.heap_rule.proofs.MapLemmas.{has_key, has_remove, insert_other, insert_same, key_of, remove_other}
use Rattle.heap_rule.proofs.Paths.{place_rank, rank_inside, ranks_next}
use Rattle.heap_rule.proofs.Possible.{possible_lawful}
use Rattle.heap_rule.proofs.Steps.{possible_within}
use Rattle.heap_table.specs.Known.{KeepsKnown}
use Rattle.heap_read.proofs.Loaded.{known_trans}
use Rattle.heap_read.specs.Reads.{HoldsForms, KeepsBeside, WritesOwnWords}
use Rattle.heap_read.specs.Written.{AreWords, IsWritten}
use Rattle.heap_intern.specs.declared.table.faults.TableFull.{TableFull}
use Rattle.heap_intern.specs.declared.table.faults.TableFull.TheVariants.{Ids, Words, Slots}
use Rattle.heap_intern.specs.declared.table.given.Given.{Given}
use Rattle.heap_intern.specs.Answers.{IsBehind, IsFixed, IsOpenAt, words_of_copy}
use Rattle.heap_intern.specs.Goes.{AddsCalls}
use Rattle.heap_intern.specs.Hashes.{AreHashes, IsNotedApart}
use Rattle.heap_intern.specs.Headers.{IsFlat, MayBeOver}
use Rattle.heap_intern.specs.declared.table.key.Key.{Key}
use Rattle.heap_intern.specs.declared.table.key.Key.TheVariants.{Units, Spelled}
use Rattle.heap_rule.specs.Layout.{MAX}
use Rattle.heap_intern.specs.Keys.{IsKey, units_of_key}
use Rattle.heap_intern.specs.SlotLoads.{loads_at}
use Rattle.heap_intern.specs.Taking.{HasGiven, IsKeyAnswer, without_given}
use Rattle.heap_intern.specs.Visits.{IsPassed, IsPlace, LoadsOne}
use Rattle.heap_intern.proofs.Bearing.{known_length, shown_span, without_keeps}
use Rattle.heap_intern.proofs.Going.{goes_self, goes_trans}
use Rattle.heap_intern.proofs.Hashes.{note_of}
use Rattle.heap_intern.proofs.Loading.{on_most}
use Rattle.heap_intern.proofs.Possibly.{possible_unborn}
use Rattle.heap_intern.proofs.Visiting.{behind_kept, none_before, shut_kept}

-- Words are written, and an own id is born over them.

-- a view without what was given, and one that writes to it
pub goes_written : (v p : View) (n : ℕ) (x : Given) → WritesOwnWords v p → KeepsBeside x.start n v p → AddsCalls (without_given v n x) p []
goes_written v p n x w beside = let k = w.known in record {
  known = record { units = k.units; lengths = k.lengths; flats = k.flats; thins = k.thins; settled = k.settled; frozen = k.frozen; known = k.known; slots = k.slots };
  own_ids = λ i m h. subst (λ (o : FinMap nat_cmp ℕ). Has o i m) (sym w.own_ids) (has_remove v.own_ids x.id i m h).1;
  own_words = λ c y h. let t = has_without v.own_words x.start n c y h in beside c y t.0 t.1;
  sizes = w.sizes;
  agents = w.agents;
  live = w.live;
  share = w.share;
  ids_used = low w.used (λ (n : Counters). n.ids);
  words_used = low w.used (λ (n : Counters). n.words);
  ids_low = low w.low (λ (n : Counters). n.ids);
  words_low = low w.low (λ (n : Counters). n.words);
  seen = w.seen;
  mine = w.mine ∙ sym (append-nil v.mine);
}
  where
    low : {m n : Counters} → n ≡ m → (f : Counters → ℕ) → f m ≤ f n
    low {m} {n} e f = subst (λ (q : Counters). f m ≤ f q) (sym e) (omega arith)

pub none_given : (v : View) (n : ℕ) (x : Given) → HasKey (without_given v n x).own_ids x.id → ⊥
none_given v n x h = let t = has_key (without_given v n x).own_ids x.id h in (has_remove v.own_ids x.id x.id t.0 t.1).0 refl

pub no_words_given : (v : View) (m : ℕ) (x : Given) (n : ℕ) → n ≡ m → (c : ℕ) → x.start ≤ c → c < x.start + n → HasKey (without_given v m x).own_words c → ⊥
no_words_given v m x n e c lo hi h = let t = has_key (without_given v m x).own_words c h in let s = has_without v.own_words x.start m c t.0 t.1 in
    ⊎_elim (λ (l : c < x.start). omega (arith, l, lo)) (λ (l : x.start + m ≤ c). omega (arith, l, hi, e)) s.0

-- a view without what was given knows what the view knows, and owns the rest
pub own_without : (v : View) (n : ℕ) (x : Given) (c : ℕ) → HasKey (without_given v n x).own_words c → HasKey v.own_words c
own_without v n x c h = let t = has_key (without_given v n x).own_words c h in key_of v.own_words c t.0 (has_without v.own_words x.start n c t.0 t.1).1

pub goes_without : (v : View) (n : ℕ) (x : Given) → AddsCalls (without_given v n x) v []
goes_without v n x = let k = (goes_self v).known in record {
  known = record { units = k.units; lengths = k.lengths; flats = k.flats; thins = k.thins; settled = k.settled; frozen = k.frozen; known = k.known; slots = k.slots };
  own_ids = λ i m h. (has_remove v.own_ids x.id i m h).1;
  own_words = λ c y h. (has_without v.own_words x.start n c y h).1;
  sizes = refl;
  agents = refl;
  live = refl;
  share = refl;
  ids_used = omega arith;
  words_used = omega arith;
  ids_low = omega arith;
  words_low = omega arith;
  seen = refl;
  mine = sym (append-nil v.mine);
}

-- The length of an own id is stored, and it is born over these words.
module _ (v : View) (wide : Bool) (start n : ℕ) (us : List ℕ) (h : MayBeOver v wide start n us) (id : ℕ) where
  abbrev ready : View
  ready = stored_length v id n

  long_ready : unwrap_or (get ready.own_ids id) 0 ≡ n
  long_ready = ap (λ (o : Option ℕ). unwrap_or o 0) (insert_same v.own_ids id n)

  pub given_fits : MayBear ready id (Flat wide start true)
  given_fits = (n, insert_same v.own_ids id n, (h.small, h.words, (λ o lo hi. let long = h.long in h.lanes o hi ∙ get_or_past us o 0 (omega arith)), h.empty))

  pub given_flat : (w : View) → w ≡ born ready id (Flat wide start true) → IsFlat w wide start us id
  given_flat w e = let f = Flat wide start true in subst (λ (u : View). IsFlat u wide start us id) (sym e) (
    insert_same ready.forms id f,
    insert_same ready.units id (units_for ready (unwrap_or (get ready.own_ids id) 0) f)
        ∙ (ap (λ (m : ℕ). Some (span (shown_word v) wide start 0 m)) long_ready ∙ ap Some (shown_span v wide start n us h id)),
  )

  pub given_forms : IsPossible v → HasKey v.own_ids id → (w : View) → w ≡ born ready id (Flat wide start true) → HoldsForms v w
  given_forms p own w e i f has = let ne : i ≢ id = (λ d. possible_unborn v p i f (subst (HasKey v.own_ids) (sym d) own) has) in
      ap (λ (u : View). get u.forms i) e ∙ (insert_other v.forms id i (Flat wide start true) ne ∙ has)

  kept_words : (a : View) → ((c : ℕ) → start ≤ c → c < start + words_over wide n → HasKey a.own_words c → ⊥) → (m : ℕ) → m ≡ n → (c x : ℕ) → Has a.own_words c x → Has v.own_words c x
      → Has (without_run v.own_words start (words_over wide m)) c x
  kept_words a never m e c x own has = subst (λ (l : ℕ). Has (without_run v.own_words start (words_over wide l)) c x) (sym e)
      (without_keeps v.own_words start (words_over wide n) c x (λ q l d. never c (omega (arith, d)) (omega (arith, d, l)) (key_of a.own_words c x own)) has)

  -- for an earlier view that has neither as its own
  pub given_goes : (a w : View) → AddsCalls a v [] → (HasKey a.own_ids id → ⊥) → ((c : ℕ) → start ≤ c → c < start + words_over wide n → HasKey a.own_words c → ⊥) →
      w ≡ born ready id (Flat wide start true) → KeepsKnown ready w → AddsCalls a w []
  given_goes a w g lacks never e k = let f = Flat wide start true in let z : View = born ready id f in let k' : KeepsKnown ready z = subst (KeepsKnown ready) e k in
      subst (λ (u : View). AddsCalls a u []) (sym e) record {
        known = known_trans a v z g.known (known_trans v ready z (known_length v id n) k');
        own_ids = λ i m has. let ne : i ≢ id = (λ d. lacks (subst (HasKey a.own_ids) d (key_of a.own_ids i m has))) in
            remove_other ready.own_ids id i ne ∙ (insert_other v.own_ids id i n ne ∙ g.own_ids i m has);
        own_words = λ c x has. kept_words a never (unwrap_or (get ready.own_ids id) 0) long_ready c x has (g.own_words c x has);
        sizes = g.sizes;
        agents = g.agents;
        live = g.live;
        share = g.share;
        ids_used = g.ids_used;
        words_used = g.words_used;
        ids_low = g.ids_low;
        words_low = g.words_low;
        seen = g.seen;
        mine = g.mine;
      }

-- a header over the words
pub flat_fixed : (w : View) (wide : Bool) (start : ℕ) (us : List ℕ) (id : ℕ) → IsFlat w wide start us id → IsFixed w us id
flat_fixed w wide start us id h = ((wide, start, h.0), h.1)

-- What is settled.
pub settled_after : (a v w : View) (us : List ℕ) (r : Result ℕ TableFull) → AddsCalls a v [] → IsKeyAnswer v w us r → IsKeyAnswer a w us r
settled_after a v w us (Ok i) g h = (goes_trans a v w [] ((us, i) ∷ []) g h.0, h.1, h.2)
settled_after a v w us (Err (Slots m)) g h = (goes_trans a v w [] [] g h.0, h.1, h.2)
settled_after a v w us (Err (Ids f)) g h = absurd h
settled_after a v w us (Err (Words f)) g h = absurd h

pub settled_known : (v w : View) (us : List ℕ) (r : Result ℕ TableFull) → IsKeyAnswer v w us r → KeepsKnown v w × (w.sizes ≡ v.sizes)
settled_known v w us (Ok i) h = (h.0.known, h.0.sizes)
settled_known v w us (Err (Slots m)) h = (h.0.known, h.0.sizes)
settled_known v w us (Err (Ids f)) h = absurd h
settled_known v w us (Err (Words f)) h = absurd h

-- what was known of a view without what was given is known of the view
pub given_known : (v w : View) (n : ℕ) (x : Given) → KeepsKnown (without_given v n x) w → KeepsKnown v w
given_known v w n x k = record { units = k.units; lengths = k.lengths; flats = k.flats; thins = k.thins; settled = k.settled; frozen = k.frozen; known = k.known; slots = k.slots }

-- loads before it
module _ (v u : View) (n : ℕ) (x : Given) (l : AddsCalls v u []) where
  pub given_later : HasGiven v n x → HasGiven u n x
  given_later h = record {
    id = let t = has_key v.own_ids x.id h.id in key_of u.own_ids x.id t.0 (l.own_ids x.id t.0 t.1);
    words = λ q m. l.own_words (x.start + q) 0 (h.words q m);
    none = h.none;
  }

  pub without_later : AddsCalls (without_given v n x) (without_given u n x) []
  without_later = let k = l.known in record {
    known = record { units = k.units; lengths = k.lengths; flats = k.flats; thins = k.thins; settled = k.settled; frozen = k.frozen; known = k.known; slots = k.slots };
    own_ids = λ i m h. let t = has_remove v.own_ids x.id i m h in remove_other u.own_ids x.id i t.0 ∙ l.own_ids i m t.1;
    own_words = λ c y h. let t = has_without v.own_words x.start n c y h in
        without_keeps u.own_words x.start n c y
        (λ q m d. ⊎_elim (λ (a : c < x.start). omega (arith, a, d)) (λ (a : x.start + n ≤ c). omega (arith, a, d, m)) t.0) (l.own_words c y t.1);
    sizes = l.sizes;
    agents = l.agents;
    live = l.live;
    share = l.share;
    ids_used = l.ids_used;
    words_used = l.words_used;
    ids_low = l.ids_low;
    words_low = l.words_low;
    seen = l.seen;
    mine = l.mine;
  }

-- A slot that was found free.
pub place_is_behind : (v : View) (us : List ℕ) (k r : ℕ) → IsPlace v us k r → IsBehind v us k
place_is_behind v us k r p j l m = p.passed j l (subst (λ (n : ℕ). rank us v.sizes.slots j < n) p.at m)

pub place_open : (v u w : View) (us : List ℕ) (k r : ℕ) → KeepsKnown v u → IsPossible u → KeepsKnown u w → w.sizes ≡ u.sizes → IsPlace u us k r → get u.slots k ≡ None → IsOpenAt v w us
place_open v u w us k r known p later z here free = (
  k,
  subst (λ (y : HeapSize). k < y.slots) (sym z) here.inside,
  none_before v u known k free,
  behind_kept u w p later us z k (place_is_behind u us k r here),
)

-- it isn't noted with another hash
pub free_near : (u : View) (hashes : List ℕ) (k mark : ℕ) → AreHashes u hashes → get u.slots k ≡ None → IsNotedApart hashes k mark → ⊥
free_near u hashes k mark h free apart = let x = note_of u k _ (h k apart.0) in let bad : None ≡ Some x.target = sym free ∙ x.stands in cc

-- and it is passed once a string that differs is found there
pub place_passed : (v y : View) (us : List ℕ) (k r : ℕ) → IsPossible v → KeepsKnown v y → y.sizes ≡ v.sizes → IsPlace v us k r → IsShutAt y us k → IsPassed y us (r + 1)
place_passed v y us k r p known z here shut = subst (λ (s : HeapSize). (j : ℕ) → j < s.slots → rank us s.slots j < r + 1 → IsShutAt y us j) (sym z)
    (ranks_next (IsShutAt y us) us v.sizes.slots r (λ j l m. shut_kept v y p known us j (here.passed j l m))
    (subst (IsShutAt y us) (sym (place_rank us v.sizes.slots k here.inside) ∙ ap (path_slot us v.sizes.slots) here.at) shut))

pub place_kept : (v w : View) (us : List ℕ) (k r : ℕ) → IsPossible v → KeepsKnown v w → w.sizes ≡ v.sizes → IsPlace v us k r → IsPlace w us k r
place_kept v w us k r p known z here = record {
  inside = subst (λ (y : HeapSize). k < y.slots) (sym z) here.inside;
  at = subst (λ (y : HeapSize). rank us y.slots k ≡ r) (sym z) here.at;
  passed = subst (λ (y : HeapSize). (j : ℕ) → j < y.slots → rank us y.slots j < r → IsShutAt w us j) (sym z) (λ j l m. shut_kept v w p known us j (here.passed j l m));
}

-- the next rank is within the table
pub place_next : (v : View) (us : List ℕ) (k r : ℕ) → IsPlace v us k r → r + 1 ≤ v.sizes.slots
place_next v us k r p = let l = rank_inside us v.sizes.slots k p.inside in let e = p.at in omega (arith, l, e)

-- Loads of one slot.
pub one_few : (v w : View) (k most before after : ℕ) → LoadsOne v w k most before after → (j m : ℕ) → most ≤ m → loads_at w j ≤ loads_at v j + m
one_few v w k most before after h j m l = dite (ℕ_discrete j k)
    (λ e. subst (λ (i : ℕ). loads_at w i ≤ loads_at v i + m) (sym e) (let c = h.here in let d = on_most (loads_at v k) h.times in let f = h.few in omega (arith, c, d, f, l)))
    (λ ne. let c = h.others j ne in omega (arith, c))

-- a claim of slot k, and the probe behind it
pub place_once : (v y w : View) (us : List ℕ) (k r most before after : ℕ) → y.sizes ≡ v.sizes → LoadsOne v y k most before after → most ≤ 1
    → ((j : ℕ) → rank us y.sizes.slots j < r + 1 → loads_at w j ≡ loads_at y j) → (j : ℕ) → rank us v.sizes.slots j ≤ r → loads_at w j ≤ loads_at v j + 1
place_once v y w us k r most before after z h small same j l = let m : rank us v.sizes.slots j < r + 1 = omega (arith, l) in
    let e = same j (subst (λ (s : HeapSize). rank us s.slots j < r + 1) (sym z) m) in let f = one_few v y k most before after h j 1 small in omega (arith, e, f)

-- Words that were written hold the units.
none_written : (wide : Bool) (n : ℕ) → n ≡ 0 → words_over wide n ≡ 0
none_written true n e = omega (arith, e)
none_written false n e = omega (arith, e)

pub given_written : (p : View) → IsPossible p → (us : List ℕ) (x : Given) (wide : Bool) (n : ℕ) → n ≡ length us → wide ≡ is_wide us → AreWords p wide x.start us (words_over wide n)
    → (words_of_copy us ≡ 0 → x.start ≡ 0) → IsWritten p wide x.start us
given_written p possible us x wide n long is h none = record {
  small = dite (ℕ_discrete (words_over wide n) 0) (λ z. let e = none (sym same ∙ z) in omega (arith, e)) (λ some. there (omega (arith, some)));
  words = subst (λ (m : ℕ). AreWords p wide x.start us (words_over wide m)) long h;
  empty = λ z. none (none_written (is_wide us) (length us) z);
}
  where
    same : words_over wide n ≡ words_of_copy us
    same = λ j. words_over (is j) (long j)

    there : 0 < words_over wide n → x.start < 2 ^ 29
    there l = let t = h.each 0 l in let a = (possible_within p possible).words (x.start + 0) (key_of p.own_words (x.start + 0) t.0 t.1) in let b = (possible_lawful p possible).3 in omega (arith, a, b)

pub key_short : (k : Key) → IsKey k → length (units_of_key k) ≤ MAX
key_short (Units xs) h = h
key_short (Spelled s) h = h.1

-- the answer has the units
pub settled_units : (v w : View) (us : List ℕ) (i : ℕ) → IsKeyAnswer v w us (Ok i) → Has w.units i us
settled_units v w us i h = h.1.1
