-- What is marked, over a call on strings and over a search.
use Rattle.std.proofs.Common.{ap, ◌∙◌, ◌≡◌, ℕ, List, ◌++◌, ◌-◌, ◌<◌, ◌^◌, length, subst, sym, inl, ⊎_elim, ◌⊎◌, ◌↔◌, [], arith, Option, None, Some}
use Rattle.std.specs.Prelude.{slice_index}
use Rattle.std.specs.List.{Contains}
use Rattle.std.proofs.lemmas.List.Elements.{Contains-append_cases, Contains-append_left, Contains-append_right}
use Rattle.heap_rule.specs.Agents.{MayJoin, left_after_split, right_after_split}
use Rattle.heap_rule.specs.declared.size.HeapSize.{HeapSize}
use Rattle.heap_rule.specs.declared.view.View.{View}
use Rattle.heap_rule.specs.Maps.{Has, HasKey}
use Rattle.heap_rule.specs.Paths.{Calls}
use Rattle.heap_rule.specs.Views.{history}
use Rattle.heap_rule.proofs.MapLemmas.{has_key, key_of}
use Rattle.heap_rule.proofs.Possible.{possible_lawful}
use Rattle.heap_rule.proofs.Steps.{possible_within}
use Rattle.heap_table.specs.Agents.{size_of, view_of}
use Rattle.heap_rule.specs.Claims.{loaded_counter}
use Rattle.heap_rule.specs.declared.size.Counter.TheVariants.{Ids, Words}
use Rattle.heap_rule.specs.Sound.{IsPossible}
use Rattle.heap_table.specs.Known.{HasAllOf, KeepsKnown}
use Rattle.std.specs.Arc.{arc_value}
use Rattle.heap_read.specs.Reads.{Continues, OnlyLoads}
use Rattle.heap_read.proofs.Going.{continues_reads}
use Rattle.heap_text.specs.Keeping.{KeepsText}
use Rattle.heap_intern.specs.Hashes.{AreHashes, IsHashed}
use Rattle.heap_text.specs.Texts.{KeepsOwn}
use Rattle.heap_text.proofs.Owned.{own_reads}
use Rattle.heap_reserve.specs.declared.reserve.Reserve.{Reserve}
use Rattle.heap_reserve.specs.Reserves.{IsReserve, kept_ids}
use Rattle.heap_reserve.proofs.Kept.{ids_few, reserve_kept}
use Rattle.heap_intern.proofs.Going.{left_known}
use Rattle.heap_intern.specs.KeptKeys.{AreKeptKeys}
use Rattle.heap_intern.specs.Seats.{AreSeats, IsSeated}
use Rattle.heap_ids.specs.declared.ids.IdSet.{IdSet}
use Rattle.heap_notes.specs.declared.seats.Seats.{Seats}
use Rattle.heap_ids.specs.Sets.{Covers, IsIn}
use Rattle.heap_agents.specs.declared.held.Held.{Held}
use Rattle.heap_agents.specs.Held.{IsHeld, IsMarked, IsSame, KeepsMarks, LeavesStrings, SpendsReserve, share_by, held_size, view_by}
use Rattle.heap_agents.specs.Interned.{KeepsCalls}
use Rattle.heap_notes.specs.Noted.{AreNoted}
use Rattle.heap_agents.specs.Shared.{IsSameText, IsThere, SharedText, heap_of, share_if, size_if, view_if}
use Rattle.heap_agents.proofs.Calls.{continued}
use Rattle.heap_notes.proofs.NotesStay.{keys_empty, notes_kept}

-- what is known and which calls are known stay, so what was marked still may be
marked_still : (v w : View) (known interned : IdSet) (ids : ℕ) → IsMarked v known interned ids
    → ((i : ℕ) (us : List ℕ) → Has v.units i us → Has w.units i us) → KeepsCalls v w → IsMarked w known interned ids
marked_still v w known interned ids m units calls = record {
  known = λ i h. let u = has_key v.units i (m.known i h) in key_of w.units i u.0 (units i u.0 u.1);
  both = m.both;
  calls = λ i h. let u = m.calls i h in (u.0, calls.calls u.0 i u.1);
  calls_below = m.calls_below;
  room = m.room;
  calls_room = m.calls_room;
}

pub same_ids : (x y : Option SharedText) → IsSameText x y → (size_if x).ids ≡ (size_if y).ids
same_ids None y s = absurd s
same_ids (Some a) None s = absurd s
same_ids (Some a) (Some b) s = λ i. (size_of (sym s.0 i)).ids

pub same_trans : (x y z : Option SharedText) → IsSameText x y → IsSameText y z → IsSameText x z
same_trans None y z a b = absurd a
same_trans (Some r) None z a b = absurd a
same_trans (Some r) (Some s) None a b = absurd b
same_trans (Some r) (Some s) (Some t) a b = (b.0 ∙ a.0, b.1 ∙ a.1)

pub kept_marks : (x : Held) (y : Option SharedText) → KeepsMarks x (record x { text = y })
kept_marks x y = record { known = λ i h. h; interned = λ i h. h; number = λ i. x.number; giver = λ i. x.giver; reserve = λ i. x.reserve; blocks = λ i. x.blocks }

module _ (x : Held) (y : Option SharedText) (held : IsHeld x) (there : IsThere y) (same : IsSameText x.text y)
    (units : (i : ℕ) (us : List ℕ) → Has (view_by x).units i us → Has (view_if y).units i us) (calls : KeepsCalls (view_by x) (view_if y)) (agents : (view_if y).agents ≡ (view_by x).agents) where
  marked_on : IsMarked (view_if y) x.known x.interned (size_if y).ids
  marked_on = subst (λ (n : ℕ). IsMarked (view_if y) x.known x.interned n) (same_ids x.text y same)
      (marked_still (view_by x) (view_if y) x.known x.interned (held_size x).ids held.marked units calls)

  -- also where other slots are noted
  pub noted : (seats : Seats) → AreNoted (view_if y) seats → KeepsOwn (view_by x) (view_if y) → IsHeld (record x { text = y; seats = seats })
  noted seats right keeps = record {
    there = there;
    agents = held.agents ∙ sym agents;
    marked = marked_on;
    noted = right;
    reserved = reserve_kept (view_by x) (view_if y) x.reserve keeps held.reserved;
  }

  pub still : AreNoted (view_if y) x.seats → KeepsOwn (view_by x) (view_if y) → IsHeld (record x { text = y })
  still right keeps = noted x.seats right keeps

  -- also where something was taken from the reserve
  pub noted_spent : (seats : Seats) (r : Reserve) → AreNoted (view_if y) seats → IsReserve (view_if y) r → IsHeld (record x { text = y; seats = seats; reserve = r })
  noted_spent seats r right reserved = record { there = there; agents = held.agents ∙ sym agents; marked = marked_on; noted = right; reserved = reserved }

  -- and where something was taken from the reserve, or added to it
  pub spent_on : (r : Reserve) → AreNoted (view_if y) x.seats → IsReserve (view_if y) r → IsHeld (record x { text = y; reserve = r })
  spent_on r right reserved = record { there = there; agents = held.agents ∙ sym agents; marked = marked_on; noted = right; reserved = reserved }

pub possible_in : (t : Option SharedText) → IsThere t → IsPossible (view_if t)
possible_in None there = absurd there
possible_in (Some t) there = t.reader.belongs.5

sizes_in : (t : Option SharedText) → IsThere t → (view_if t).sizes ≡ size_if t
sizes_in None there = absurd there
sizes_in (Some t) there = t.reader.belongs.1

pub same_sizes : (x y : Option SharedText) → IsSameText x y → size_if y ≡ size_if x
same_sizes None y s = absurd s
same_sizes (Some a) None s = absurd s
same_sizes (Some a) (Some b) s = λ i. size_of (s.0 i)

-- what is known stays known, so what was noted is right still
pub seats_still : (x : Held) (y : Option SharedText) → IsHeld x → IsThere y → IsSameText x.text y → KeepsKnown (view_by x) (view_if y) → AreNoted (view_if y) x.seats
seats_still x y held there same known = notes_kept (view_by x) (view_if y) (possible_in x.text held.there) known
    (sizes_in y there ∙ (same_sizes x.text y same ∙ sym (sizes_in x.text held.there))) x.seats held.noted

-- where none is noted, none is wrong
pub none_noted : (v : View) (s : Seats) → s.slots.items ≡ [] → s.hashes.items ≡ [] → s.keys.items ≡ [] → AreNoted v s
none_noted v s e d k = (
  λ i some. let none : slice_index s.slots.items i ≡ 0 = ap (λ (m : List ℕ). slice_index m i) e in absurd (omega arith),
  λ i some. let none : slice_index s.hashes.items i ≡ 0 = ap (λ (m : List ℕ). slice_index m i) d in absurd (omega arith),
  subst (AreKeptKeys v) (sym k) (keys_empty v),
)

-- where each place has what it had, what is noted is as right
pub same_seats : (v : View) (l m : List ℕ) → ((i : ℕ) → slice_index m i ≡ slice_index l i) → AreSeats v l → AreSeats v m
same_seats v l m e h s some = subst (λ (n : ℕ). IsSeated v s (n - 1)) (sym (e s)) (h s (subst (λ (n : ℕ). 0 < n) (e s) some))

pub same_hashes : (v : View) (l m : List ℕ) → ((k : ℕ) → slice_index m k ≡ slice_index l k) → AreHashes v l → AreHashes v m
same_hashes v l m e h k some = subst (IsHashed v k) (sym (e k)) (h k (subst (λ (n : ℕ). 0 < n) (e k) some))

pub counted_own : (v : View) (ids words : ℕ) → KeepsOwn v (loaded_counter (loaded_counter v Ids ids) Words words)
counted_own v ids words = record { ids = λ i n h. h; words = λ c x h. h }

-- what a call does from the view of the text t to that of the text u, it does from what a handle with t knows to what one with u knows
module _ (x : Held) (t u : SharedText) (own : x.text ≡ Some t) (P : View → View → Type 0) (p : P (view_of t.reader.agent) (view_of u.reader.agent)) where
  pub told : P (view_by x) (view_of u.reader.agent)
  told = subst (λ (o : Option SharedText). P (view_if o) (view_of u.reader.agent)) (sym own) p

  pub told_by : (y : Held) → y.text ≡ Some u → P (view_by x) (view_by y)
  told_by y is = subst (λ (o : Option SharedText). P (view_by x) (view_if o)) (sym is) told

-- after a call that leaves the text u of the text t
module _ (x : Held) (t u : SharedText) (own : x.text ≡ Some t) (heap : heap_of u ≡ heap_of t) (limit : u.limit ≡ t.limit) where
  pub same_text : IsSameText x.text (Some u)
  same_text = subst (λ (o : Option SharedText). IsSameText o (Some u)) (sym own) (heap, limit)

  pub held_on : IsHeld x → KeepsKnown (view_of t.reader.agent) (view_of u.reader.agent) → KeepsCalls (view_of t.reader.agent) (view_of u.reader.agent)
      → (view_of u.reader.agent).agents ≡ (view_of t.reader.agent).agents → KeepsOwn (view_of t.reader.agent) (view_of u.reader.agent) → IsHeld (record x { text = Some u })
  held_on held known calls agents keeps = still x (Some u) held tt same_text
      (λ i us h. known.units i us (subst (λ (o : Option SharedText). Has (view_if o).units i us) own h))
      (record { calls = λ us i h. calls.calls us i (subst (λ (o : Option SharedText). Contains (history (view_if o)) (us, i)) own h) })
      (agents ∙ sym (ap (λ (o : Option SharedText). (view_if o).agents) own))
      (seats_still x (Some u) held tt same_text (told x t u own KeepsKnown known)) (told x t u own KeepsOwn keeps)

  -- the same where the reserve has become r
  pub held_spending : (r : Reserve) → IsHeld x → KeepsKnown (view_of t.reader.agent) (view_of u.reader.agent) → KeepsCalls (view_of t.reader.agent) (view_of u.reader.agent)
      → (view_of u.reader.agent).agents ≡ (view_of t.reader.agent).agents → IsReserve (view_of u.reader.agent) r → IsHeld (record x { text = Some u; reserve = r })
  held_spending r held known calls agents reserved = spent_on x (Some u) held tt same_text
      (λ i us h. known.units i us (subst (λ (o : Option SharedText). Has (view_if o).units i us) own h))
      (record { calls = λ us i h. calls.calls us i (subst (λ (o : Option SharedText). Contains (history (view_if o)) (us, i)) own h) })
      (agents ∙ sym (ap (λ (o : Option SharedText). (view_if o).agents) own)) r
      (seats_still x (Some u) held tt same_text (told x t u own KeepsKnown known)) reserved

  -- the same where the view has become w
  pub held_counted : (w : View) → IsHeld x → view_of u.reader.agent ≡ w → KeepsKnown (view_of t.reader.agent) w
      → ((us : List ℕ) (i : ℕ) → Contains (history (view_of t.reader.agent)) (us, i) → Contains (history w) (us, i)) → w.agents ≡ (view_of t.reader.agent).agents
      → KeepsOwn (view_of t.reader.agent) w → IsHeld (record x { text = Some u })
  held_counted w held e known calls agents keeps = still x (Some u) held tt same_text
      (λ i us h. subst (λ (z : View). Has z.units i us) (sym e) (known.units i us (subst (λ (o : Option SharedText). Has (view_if o).units i us) own h)))
      (record { calls = λ us i h. subst (λ (z : View). Contains (history z) (us, i)) (sym e) (calls us i (subst (λ (o : Option SharedText). Contains (history (view_if o)) (us, i)) own h)) })
      (ap (λ (z : View). z.agents) e ∙ (agents ∙ sym (ap (λ (o : Option SharedText). (view_if o).agents) own)))
      (seats_still x (Some u) held tt same_text (told x t u own KeepsKnown (subst (KeepsKnown (view_of t.reader.agent)) (sym e) known)))
      (told x t u own KeepsOwn (subst (KeepsOwn (view_of t.reader.agent)) (sym e) keeps))

-- a call on strings, by which the text t became the text u, with the marks left alone
pub leaves_on : (x : Held) (t u : SharedText) → x.text ≡ Some t → IsHeld x → KeepsText t u → Continues (view_of t.reader.agent) (view_of u.reader.agent)
    → KeepsOwn (view_of t.reader.agent) (view_of u.reader.agent) → LeavesStrings x (record x { text = Some u })
leaves_on x t u own held kept c keeps = let heap = ap arc_value kept.heap in record {
  held = held_on x t u own heap kept.limit held c.known (continued (view_of t.reader.agent) (view_of u.reader.agent) c) c.agents keeps;
  same = same_text x t u own heap kept.limit;
  continues = told x t u own Continues c;
  marks = kept_marks x (Some u);
}

pub leaves_reads : (x : Held) (t u : SharedText) → x.text ≡ Some t → IsHeld x → KeepsText t u
    → OnlyLoads (view_of t.reader.agent) (view_of u.reader.agent) → LeavesStrings x (record x { text = Some u })
leaves_reads x t u own held kept reads = leaves_on x t u own held kept (continues_reads (view_of t.reader.agent) (view_of u.reader.agent) reads)
    (own_reads (view_of t.reader.agent) (view_of u.reader.agent) reads)

-- and one by which the reserve became r
pub spends_on : (x : Held) (t u : SharedText) → x.text ≡ Some t → IsHeld x → KeepsText t u → Continues (view_of t.reader.agent) (view_of u.reader.agent)
    → (r : Reserve) → IsReserve (view_of u.reader.agent) r → SpendsReserve x (record x { text = Some u; reserve = r })
spends_on x t u own held kept c r reserved = let heap = ap arc_value kept.heap in record {
  held = held_spending x t u own heap kept.limit r held c.known (continued (view_of t.reader.agent) (view_of u.reader.agent) c) c.agents reserved;
  same = same_text x t u own heap kept.limit;
  continues = told x t u own Continues c;
  marks = record { known = λ i h. h; interned = λ i h. h; number = λ i. x.number; giver = λ i. x.giver; blocks = λ i. x.blocks };
}

-- an id that is known has its place in a set of marks
below_in : (t : Option SharedText) → IsThere t → (i : ℕ) → HasKey (view_if t).units i → i < (size_if t).ids
below_in None there i k = absurd there
below_in (Some t) there i k = let of = t.reader.belongs in subst (λ (z : HeapSize). i < z.ids) of.1 ((possible_within (view_of t.reader.agent) of.5).known i (inl k))

pub below : (x : Held) → IsHeld x → (i : ℕ) → HasKey (view_by x).units i → i < (held_size x).ids
below x held i k = below_in x.text held.there i k

-- a string that is made of known ones is known
pub joined_known : (v w : View) (a b s : ℕ) → HasKey v.units a × HasKey v.units b
    → ((us vs : List ℕ) → Has v.units a us → Has v.units b vs → Has w.units s (us ++ vs)) → HasKey w.units s
joined_known v w a b s k f = let u = has_key v.units a k.0 in let t = has_key v.units b k.1 in key_of w.units s (u.0 ++ t.0) (f u.0 t.0 u.1 t.1)

pub has_own : (v w : View) → HasAllOf v w → KeepsOwn v w
has_own v w h = record { ids = h.own_ids; words = h.own_words }

-- what another agent had marked may be used by the one that takes it over
taken_over : (v b w : View) → MayJoin v b → history w ≡ history v ++ b.mine → (u : List ℕ) (i : ℕ) → Contains (history b) (u, i) → Contains (history w) (u, i)
taken_over v b w may h u i c = subst (λ (m : Calls). Contains m (u, i)) (sym h) (⊎_elim
    (λ (a : Contains b.seen (u, i)). Contains-append_left (history v) b.mine (u, i) (subst (λ (m : Calls). Contains m (u, i)) (sym may.2.1) (Contains-append_left b.seen may.2.0 (u, i) a)))
    (λ (a : Contains b.mine (u, i)). Contains-append_right (history v) b.mine (u, i) a)
    (Contains-append_cases b.seen b.mine (u, i) c))

stays : (v b w : View) → history w ≡ history v ++ b.mine → (u : List ℕ) (i : ℕ) → Contains (history v) (u, i) → Contains (history w) (u, i)
stays v b w h u i c = subst (λ (m : Calls). Contains m (u, i)) (sym h) (Contains-append_left (history v) b.mine (u, i) c)

module _ (x o : Held) (y : Option SharedText) (held : IsHeld x) (theirs : IsHeld o) (there : IsThere y) (same : IsSameText x.text y) (beside : IsSame x o) (may : MayJoin (view_by x) (view_by o))
    (ours : KeepsKnown (view_by x) (view_if y)) (others : KeepsKnown (view_by o) (view_if y)) (calls : history (view_if y) ≡ history (view_by x) ++ (view_by o).mine)
    (known interned : IdSet) (room : (n : ℕ) → Covers x.known n → Covers known n) (only : (i : ℕ) → IsIn known i → IsIn x.known i ⊎ IsIn o.known i)
    (calls_room : (n : ℕ) → Covers x.interned n → Covers interned n) (only_calls : (i : ℕ) → IsIn interned i → IsIn x.interned i ⊎ IsIn o.interned i) where
  pub joined_held : (view_if y).agents ≡ (view_by x).agents → ((i : ℕ) → IsIn x.known i → IsIn known i) → ((i : ℕ) → IsIn o.known i → IsIn
      known i) → (r : Reserve) → IsReserve (view_if y) r → IsHeld (record x { text = y; known = known; interned = interned; reserve = r })
  joined_held agents ours_in theirs_in r reserved = record {
    there = there;
    agents = held.agents ∙ sym agents;
    marked = subst (λ (n : ℕ). IsMarked (view_if y) known interned n) (same_ids x.text y same) (record {
      known = λ i h. ⊎_elim
          (λ (a : IsIn x.known i). let u = has_key (view_by x).units i (held.marked.known i a) in key_of (view_if y).units i u.0 (ours.units i u.0 u.1))
          (λ (a : IsIn o.known i). let u = has_key (view_by o).units i (theirs.marked.known i a) in key_of (view_if y).units i u.0 (others.units i u.0 u.1)) (only i h);
      both = λ i h. ⊎_elim (λ (a : IsIn x.interned i). ours_in i (held.marked.both i a)) (λ (a : IsIn o.interned i). theirs_in i (theirs.marked.both i a)) (only_calls i h);
      calls = λ i h. ⊎_elim
          (λ (a : IsIn x.interned i). let u = held.marked.calls i a in (u.0, stays (view_by x) (view_by o) (view_if y) calls u.0 i u.1))
          (λ (a : IsIn o.interned i). let u = theirs.marked.calls i a in (u.0, taken_over (view_by x) (view_by o) (view_if y) may calls u.0 i u.1)) (only_calls i h);
      calls_below = λ i h. ⊎_elim (λ (a : IsIn x.interned i). held.marked.calls_below i a)
          (λ (a : IsIn o.interned i). subst (λ (n : ℕ). i < n) (sym (same_ids x.text o.text beside)) (theirs.marked.calls_below i a)) (only_calls i h);
      room = room (held_size x).ids held.marked.room;
      calls_room = calls_room (held_size x).ids held.marked.calls_room;
    });
    noted = seats_still x y held there same ours;
    reserved = reserved;
  }

-- what another agent may use is among what was added
pub added_here : (x o : Held) → IsHeld x → IsHeld o → IsSame x o → (known : IdSet) → ((n i : ℕ) → Covers x.known n → i < n → IsIn o.known i → IsIn known i) → (i : ℕ) → IsIn o.known i → IsIn known i
added_here x o held theirs beside known there i h =
    there (held_size x).ids i held.marked.room (subst (λ (n : ℕ). i < n) (sym (same_ids x.text o.text beside)) (below o theirs i (theirs.marked.known i h))) h

-- what a split leaves to both
module _ (x : Held) (y : Option SharedText) (give : ℕ) (held : IsHeld x) (there : IsThere y) (same : IsSameText x.text y) where
  pub left_held : view_if y ≡ left_after_split (view_by x) give → IsHeld (record x { text = y })
  left_held e = still x y held there same (λ i us h. subst (λ (v : View). Has v.units i us) (sym e) h)
      (record { calls = λ u i h. subst (λ (v : View). Contains (history v) (u, i)) (sym e) h }) (ap (λ (v : View). v.agents) e)
      (seats_still x y held there same (subst (KeepsKnown (view_by x)) (sym e) (left_known (view_by x) give)))
      (subst (KeepsOwn (view_by x)) (sym e) (record { ids = λ i n h. h; words = λ c n h. h }))

  pub right_held : view_if y ≡ right_after_split (view_by x) give → (o z : Held) → ((i : ℕ) → IsIn o.known i ↔ IsIn x.known i) → ((i : ℕ) → IsIn o.interned i ↔ IsIn x.interned i)
      → ((n : ℕ) → Covers x.known n → Covers o.known n) → ((n : ℕ) → Covers x.interned n → Covers o.interned n) → z.text ≡ y → z.agents ≡
      x.agents → z.known ≡ o.known → z.interned ≡ o.interned → z.seats.slots.items ≡ []
      → z.seats.hashes.items ≡ [] → z.seats.keys.items ≡ [] → ((v : View) → IsReserve v z.reserve) → IsHeld z × IsSame x z
  right_held e o z known interned room calls_room member agents marks calls seats hashes keys reserved = (
    record {
      there = subst (λ (m : Option SharedText). IsThere m) (sym member) there;
      agents = agents ∙ (held.agents ∙ sym (ap (λ (m : Option SharedText). (view_if m).agents) member ∙ ap (λ (v : View). v.agents) e));
      marked = subst (λ (m : Option SharedText). IsMarked (view_if m) z.known z.interned (size_if m).ids) (sym member)
          (subst (λ (s : IdSet). IsMarked (view_if y) s z.interned (size_if y).ids) (sym marks) (subst (λ (s : IdSet). IsMarked (view_if y) o.known s (size_if y).ids) (sym calls)
          (subst (λ (n : ℕ). IsMarked (view_if y) o.known o.interned n) (same_ids x.text y same) (record {
            known = λ i h. subst (λ (v : View). HasKey v.units i) (sym e) (held.marked.known i ((known i).0 h));
            both = λ i h. (known i).1 (held.marked.both i ((interned i).0 h));
            calls = λ i h. let u = held.marked.calls i ((interned i).0 h) in
                (u.0, subst (λ (v : View). Contains (history v) (u.0, i)) (sym e) (Contains-append_left (history (view_by x)) [] (u.0, i) u.1));
            calls_below = λ i h. held.marked.calls_below i ((interned i).0 h);
            room = room (held_size x).ids held.marked.room;
            calls_room = calls_room (held_size x).ids held.marked.calls_room;
          }))));
      noted = none_noted (view_by z) z.seats seats hashes keys;
      reserved = reserved (view_by z);
    },
    subst (λ (m : Option SharedText). IsSameText x.text m) (sym member) same,
  )

-- an answer of the string table, marked as both
pub interned_held : (x : Held) (i : ℕ) (known interned : IdSet) → IsHeld x → HasKey (view_by x).units i → (u : List ℕ) × Contains (history (view_by x)) (u, i)
    → ((n : ℕ) → Covers x.known n → Covers known n) → ((j : ℕ) → IsIn known j → (j ≡ i) ⊎ IsIn x.known j) → IsIn known i → ((j : ℕ) → IsIn x.known j → IsIn known j)
    → ((n : ℕ) → Covers x.interned n → Covers interned n) → ((j : ℕ) → IsIn interned j → (j ≡ i) ⊎ IsIn x.interned j) → IsHeld (record x { known = known; interned = interned })
interned_held x i known interned held key call room only here kept calls_room only_calls = record {
  there = held.there;
  agents = held.agents;
  marked = record {
    known = λ j h. ⊎_elim (λ (e : j ≡ i). subst (λ (k : ℕ). HasKey (view_by x).units k) (sym e) key) (λ (a : IsIn x.known j). held.marked.known j a) (only j h);
    both = λ j h. ⊎_elim (λ (e : j ≡ i). subst (IsIn known) (sym e) here) (λ (a : IsIn x.interned j). kept j (held.marked.both j a)) (only_calls j h);
    calls = λ j h. ⊎_elim (λ (e : j ≡ i). subst (λ (k : ℕ). (u : List ℕ) × Contains (history (view_by x)) (u, k)) (sym e) call) (λ (a : IsIn x.interned j). held.marked.calls j a) (only_calls j h);
    calls_below = λ j h. ⊎_elim (λ (e : j ≡ i). subst (λ (k : ℕ). k < (held_size x).ids) (sym e) (below x held i key)) (λ (a : IsIn x.interned j). held.marked.calls_below j a) (only_calls j h);
    room = room (held_size x).ids held.marked.room;
    calls_room = calls_room (held_size x).ids held.marked.calls_room;
  };
  noted = held.noted;
  reserved = held.reserved;
}

share_in_view : (t : Option SharedText) → IsThere t → (view_if t).share ≡ share_if t
share_in_view None there = absurd there
share_in_view (Some t) there = t.reader.belongs.4

pub share_is : (x : Held) → IsHeld x → (view_by x).share ≡ share_by x
share_is x held = share_in_view x.text held.there

-- how many ids are in reserve fits a number of C
ids_in_reserve : (t : Option SharedText) (r : Reserve) → IsThere t → IsReserve (view_if t) r → length (kept_ids r) < 2 ^ 32
ids_in_reserve None r there h = absurd there
ids_in_reserve (Some t) r there h = let v : View = view_of t.reader.agent in let p = t.reader.belongs.5 in let few = ids_few v r v.sizes.ids h (possible_within v p).ids in
    let law = possible_lawful v p in let most = law.1 in omega (arith, few, most)

pub ids_fit : (x : Held) → IsHeld x → length (kept_ids x.reserve) < 2 ^ 32
ids_fit x held = ids_in_reserve x.text x.reserve held.there held.reserved
