-- Hashes that are noted for slots: what a note says, what keeps it, which slots are passed by notes, and what noting an answer leaves.
use Rattle.std.proofs.Common.{◌≡◌, ℕ, zero, suc, ◌+◌, ◌-◌, ◌%◌, ◌<◌, ◌≤◌, ◌⊎◌, inl, inr, ⊎_elim, List, [], sym, refl, ap, ◌∙◌, subst, arith, Option, Some, None}
use Rattle.std.specs.Prelude.{length, max, slice_index, unwrap_or}
use Rattle.std.specs.FinMap.{FinMap, get}
use Rattle.std.specs.Ordering.{nat_cmp}
use Rattle.std.proofs.lemmas.Bool.{cases_lt}
use Rattle.std.proofs.Math.Nat.{mod-eq_of_lt, add-mod_right}
use Rattle.js_units.specs.Lanes.{hash_of}
use Rattle.heap_rule.specs.declared.view.View.{View}
use Rattle.heap_rule.specs.Maps.{Has, HasKey}
use Rattle.heap_rule.specs.Paths.{path_slot}
use Rattle.heap_rule.specs.Slots.{IsShutAt}
use Rattle.heap_rule.specs.Sound.{IsPossible}
use Rattle.heap_rule.proofs.MapLemmas.{has_key, key_of}
use Rattle.heap_rule.proofs.Paths.{Below, ranks_next}
use Rattle.heap_table.specs.Known.{KeepsKnown}
use Rattle.heap_intern.specs.declared.table.wanted.Wanted.{Wanted}
use Rattle.heap_intern.specs.Hashes.{AreHashes, IsHashed, IsNotedApart, NotesHash, noted_hash}
use Rattle.heap_intern.specs.SlotLoads.{loads_at}
use Rattle.heap_intern.specs.Visits.{LoadsOne, Walking}
use Rattle.heap_intern.proofs.Adopting.{one_slot, one_units}
use Rattle.heap_intern.proofs.Visiting.{Probing}

-- what a note says, with its witnesses
pub record IsNote (v : View) (k h : ℕ) : Type 0 where
  pub target : ℕ
  pub units : List ℕ
  pub stands : Has v.slots k target
  pub here : Has v.units target units
  pub is : h ≡ noted_hash units

pub note_of : (v : View) (k h : ℕ) → IsHashed v k h → IsNote v k h
note_of v k h x = let t = has_key v.slots k x.0 in let y = x.1 t.0 t.1 in let u = has_key v.units t.0 y.0 in
    record { target = t.0; units = u.0; stands = t.1; here = u.1; is = y.1 u.0 u.1 }

pub hashed_by : (v : View) (k h : ℕ) → IsNote v k h → IsHashed v k h
hashed_by v k h x = (
  key_of v.slots k x.target x.stands,
  λ t at. let e : Some x.target ≡ Some t = sym x.stands ∙ at in let same : x.target ≡ t = cc in
      subst (λ (i : ℕ). HasKey v.units i × ((us : List ℕ) → Has v.units i us → h ≡ noted_hash us)) same
      (key_of v.units x.target x.units x.here, λ us own. x.is ∙ ap noted_hash (one_units v x.target x.units us x.here own)),
)

-- the mark that the code compares with
pub mark_is : (hash mark : ℕ) (us : List ℕ) → mark ≡ max hash 1 → hash ≡ hash_of us → mark ≡ noted_hash us
mark_is hash mark us e is = e ∙ ap (λ (h : ℕ). max h 1) is

-- nothing is noted where there is no room
pub no_hashes : (v : View) → AreHashes v []
no_hashes v k some = absurd (omega arith)

-- what is known stays known, so a note stays right
pub hashes_kept : (v w : View) → KeepsKnown v w → (hashes : List ℕ) → AreHashes v hashes → AreHashes w hashes
hashes_kept v w known hashes h k some = let x = note_of v k (slice_index hashes k) (h k some) in hashed_by w k (slice_index hashes k)
    record { target = x.target; units = x.units; stands = known.slots k x.target x.stands; here = known.units x.target x.units x.here; is = x.is }

-- the answer's slot is noted
pub hashes_with : (w : View) (hashes later : List ℕ) (slot mark : ℕ) → ((k : ℕ) → (slice_index later k ≡ slice_index hashes k) ⊎
    ((k ≡ slot) × (slice_index later k ≡ mark))) → AreHashes w hashes → IsNote w slot mark → AreHashes w later
hashes_with w hashes later slot mark only h x k some = ⊎_elim
    (λ (e : slice_index later k ≡ slice_index hashes k). subst (IsHashed w k) (sym e) (h k (subst (λ (n : ℕ). 0 < n) e some)))
    (λ (t : (k ≡ slot) × (slice_index later k ≡ mark)). subst (IsHashed w k) (sym t.1) (subst (λ (i : ℕ). IsHashed w i mark) (sym t.0) (hashed_by w slot mark x)))
    (only k)

-- a slot that is noted with another hash is used by a string that differs
pub shut_by : (v : View) (hashes us : List ℕ) (k mark : ℕ) → AreHashes v hashes → mark ≡ noted_hash us → IsNotedApart hashes k mark → IsShutAt v us k
shut_by v hashes us k mark h is apart = let x = note_of v k (slice_index hashes k) (h k apart.0) in
    (x.target, x.stands, inr (inl (x.units, x.here, λ e. apart.1 (x.is ∙ (ap noted_hash e ∙ sym is)))))

-- ranks that are passed
ranks_more : (P : ℕ → Type 0) (u : List ℕ) (n r m : ℕ) → Below P u n r → ((j : ℕ) → r ≤ j → j < r + m → P (path_slot u n j)) → Below P u n (r + m)
ranks_more P u n r zero b h = let e : r ≡ r + 0 = omega arith in subst (Below P u n) e b
ranks_more P u n r (suc m) b h = let e : r + m + 1 ≡ r + suc m = omega arith in subst (Below P u n) e
    (ranks_next P u n (r + m) (ranks_more P u n r m b (λ j l s. h j l (omega arith))) (h (r + m) (omega arith) (omega arith)))

-- the walk goes on to a later rank, where each slot between is noted with another hash
module _ (a v : View) (want : Wanted) (us : List ℕ) (hashes : List ℕ) (n h mark r q : ℕ) (slots : n ≡ a.sizes.slots)
    (hash : h ≡ hash_of us) (is : mark ≡ noted_hash us) (noted : AreHashes v hashes) (reach : r ≤ q)
    (apart : (j : ℕ) → r ≤ j → j < q → IsNotedApart hashes ((h % n + j) % n) mark) where
  passed_at : (j : ℕ) → r ≤ j → j < q → IsShutAt v us (path_slot us a.sizes.slots j)
  passed_at j l s = subst (λ (y : ℕ). IsShutAt v us ((y % a.sizes.slots + j) % a.sizes.slots)) hash
      (subst (λ (m : ℕ). IsShutAt v us ((h % m + j) % m)) slots (shut_by v hashes us ((h % n + j) % n) mark noted is (apart j l s)))

  pub probing_on : Probing a v want us r → Probing a v want us q
  probing_on p = let e : r + (q - r) ≡ q = omega arith in record {
    looks = p.looks;
    forms = p.forms;
    wanted = p.wanted;
    passed = subst (Below (IsShutAt v us) us a.sizes.slots) e
        (ranks_more (IsShutAt v us) us a.sizes.slots r (q - r) p.passed (λ j l s. passed_at j l (omega arith)));
  }

-- and loads none of them
pub walking_on : (a v : View) (us : List ℕ) (r q before now : ℕ) → r ≤ q → Walking a v us r before now → Walking a v us q before now
walking_on a v us r q before now reach p = record {
  sizes = p.sizes;
  times = p.times;
  each = p.each;
  once = p.once;
  ahead = λ k l. p.ahead k (omega arith);
  inside = p.inside;
  sum = p.sum;
}

-- a visit of a slot that isn't noted with another hash
pub apart_on : (a v w : View) (hashes : List ℕ) (slot place mark most before after : ℕ) → slot ≡ place → (IsNotedApart hashes place mark → ⊥) → LoadsOne v w slot most before after →
    ((k : ℕ) → IsNotedApart hashes k mark → loads_at v k ≡ loads_at a k) → (k : ℕ) → IsNotedApart hashes k mark → loads_at w k ≡ loads_at a k
apart_on a v w hashes slot place mark most before after lies never h none k apart =
    h.others k (λ e. never (subst (λ (i : ℕ). IsNotedApart hashes i mark) (e ∙ lies) apart)) ∙ none k apart

-- the slot of the answer is noted after the walk
module _ (v w : View) (p : IsPossible w) (us : List ℕ) (hashes later : List ℕ) (hash : ℕ) (is : hash ≡ hash_of us) (known : KeepsKnown v w) (right : AreHashes v hashes)
    (apart : (k : ℕ) → IsNotedApart hashes k (max hash 1) → loads_at w k ≡ loads_at v k) where
  apart_for : (k : ℕ) → IsNotedApart hashes k (noted_hash us) → loads_at w k ≡ loads_at v k
  apart_for k h = apart k (subst (λ (x : ℕ). IsNotedApart hashes k (max x 1)) (sym is) h)

  pub notes_none : NotesHash v w us None hashes hashes
  notes_none = record {
    right = hashes_kept v w known hashes right;
    room = refl;
    kept = λ k some. some;
    noted = λ i k e. let bad : None ≡ Some i = e in absurd (cc);
    passed = apart_for;
  }

  pub notes_answer : (slot id mark : ℕ) → mark ≡ max hash 1 → Has w.slots slot id → Has w.units id us → length later ≡ length hashes → ((k : ℕ) → (slice_index later k ≡ slice_index hashes k) ⊎
      ((k ≡ slot) × (slice_index later k ≡ mark))) → (slot < length hashes → slice_index later slot ≡ mark) → NotesHash v w us (Some id) hashes later
  notes_answer slot id mark e at here room only there = record {
    right = hashes_with w hashes later slot mark only (hashes_kept v w known hashes right)
        record { target = id; units = us; stands = at; here = here; is = mark_is hash mark us e is };
    room = room;
    kept = λ k some. ⊎_elim
        (λ (x : slice_index later k ≡ slice_index hashes k). subst (λ (n : ℕ). 0 < n) (sym x) some)
        (λ (x : (k ≡ slot) × (slice_index later k ≡ mark)). let y : slice_index later k ≡ max hash 1 = x.1 ∙ e in omega arith)
        (only k);
    noted = λ i k same has inside. let j : id ≡ i = (let s : Some id ≡ Some i = same in cc) in
        let one : slot ≡ k = one_slot w p slot k id at (subst (Has w.slots k) (sym j) has) in
        let y : slice_index later slot ≡ max hash 1 = there (subst (λ (n : ℕ). n < length hashes) (sym one) inside) ∙ e in
        subst (λ (n : ℕ). 0 < slice_index later n) one (omega arith);
    passed = apart_for;
  }

-- loads of other words before it
pub notes_from : (u v w : View) (us : List ℕ) (answer : Option ℕ) (hashes later : List ℕ) → v.slot_loads ≡ u.slot_loads → NotesHash v w us answer hashes later → NotesHash u w us answer hashes later
notes_from u v w us answer hashes later e h = record {
  right = h.right;
  room = h.room;
  kept = h.kept;
  noted = h.noted;
  passed = λ k apart. h.passed k apart ∙ ap (λ (m : FinMap nat_cmp ℕ). unwrap_or (get m k) 0) e;
}

pub notes_none_then : (v w x : View) (us hashes : List ℕ) → KeepsKnown w x → x.slot_loads ≡ w.slot_loads → NotesHash v w us None hashes hashes → NotesHash v x us None hashes hashes
notes_none_then v w x us hashes known e h = record {
  right = hashes_kept w x known hashes h.right;
  room = h.room;
  kept = h.kept;
  noted = λ i k same. let bad : None ≡ Some i = same in absurd (cc);
  passed = λ k apart. ap (λ (m : FinMap nat_cmp ℕ). unwrap_or (get m k) 0) e ∙ h.passed k apart;
}

-- and a step behind it that loads no slot
pub notes_then : (v w x : View) → IsPossible x → (us : List ℕ) (id slot : ℕ) (hashes later : List ℕ) → Has w.slots slot id → KeepsKnown w x → x.slot_loads ≡ w.slot_loads →
    NotesHash v w us (Some id) hashes later → NotesHash v x us (Some id) hashes later
notes_then v w x p us id slot hashes later at known e h = record {
  right = hashes_kept w x known later h.right;
  room = h.room;
  kept = h.kept;
  noted = λ i k same has inside. let j : id ≡ i = (let s : Some id ≡ Some i = same in cc) in
      let one : slot ≡ k = one_slot x p slot k id (known.slots slot id at) (subst (Has x.slots k) (sym j) has) in
      h.noted i k same (subst (Has w.slots k) j (subst (λ (n : ℕ). Has w.slots n id) one at)) inside;
  passed = λ k apart. ap (λ (m : FinMap nat_cmp ℕ). unwrap_or (get m k) 0) e ∙ h.passed k apart;
}

-- the slots of ranks, before the end of the table and behind it
pub wrap_none : (start j n : ℕ) → start + j < n → (start + j) % n ≡ start + j
wrap_none start j n l = mod-eq_of_lt l

pub wrap_over : (start j n x : ℕ) → start + j ≡ x + n → x < n → (start + j) % n ≡ x
wrap_over start j n x e l = ap (λ (y : ℕ). y % n) e ∙ (add-mod_right x n ∙ mod-eq_of_lt l)

module _ (hashes : List ℕ) (start n mark r m : ℕ) where
  pub apart_under : start + r + m ≤ n → ((i : ℕ) → i < m → IsNotedApart hashes (start + r + i) mark) → (j : ℕ) → r ≤ j → j < r + m → IsNotedApart hashes ((start + j) % n) mark
  apart_under within apart j l s = let at : start + r + (j - r) ≡ start + j = omega arith in let e = wrap_none start j n (omega arith) in
      subst (λ (k : ℕ). IsNotedApart hashes k mark) (at ∙ sym e) (apart (j - r) (omega arith))

  pub apart_over : (from : ℕ) → start < n → start + r ≡ from + n → from + m ≤ start → ((i : ℕ) → i < m → IsNotedApart hashes (from + i) mark)
      → (j : ℕ) → r ≤ j → j < r + m → IsNotedApart hashes ((start + j) % n) mark
  apart_over from small place within apart j l s = let at : start + j ≡ from + (j - r) + n = omega arith in let e = wrap_over start j n (from + (j - r)) at (omega arith) in
      subst (λ (k : ℕ). IsNotedApart hashes k mark) (sym e) (apart (j - r) (omega arith))

-- slots up to one, and some from it on
pub apart_both : (hashes : List ℕ) (from mid b mark : ℕ) → from ≤ mid → ((i : ℕ) → from + i < mid → IsNotedApart hashes (from + i) mark)
    → ((i : ℕ) → i < b → IsNotedApart hashes (mid + i) mark) → (i : ℕ) → from + i < mid + b → IsNotedApart hashes (from + i) mark
apart_both hashes from mid b mark reach f g i l = ⊎_elim (λ (s : from + i < mid). f i s)
    (λ (s : mid ≤ from + i). let e : mid + (from + i - mid) ≡ from + i = omega arith in subst (λ (k : ℕ). IsNotedApart hashes k mark) e (g (from + i - mid) (omega arith)))
    (cases_lt (from + i) mid)

pub near_under : (hashes : List ℕ) (start n mark r m : ℕ) → start + r + m < n → (IsNotedApart hashes (start + r + m) mark → ⊥) → IsNotedApart hashes ((start + (r + m)) % n) mark → ⊥
near_under hashes start n mark r m l near h = let e = wrap_none start (r + m) n (omega arith) in let at : start + (r + m) ≡ start + r + m = omega arith in
    near (subst (λ (k : ℕ). IsNotedApart hashes k mark) (e ∙ at) h)
