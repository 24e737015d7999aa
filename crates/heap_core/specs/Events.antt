-- The machine: where each event may come, and what it does. An event is one atomic step of one agent on one
-- word, but for the making of the heap.
use Rattle.std.specs.Prelude.{◌≡◌, ◌≢◌, ℕ, ◌+◌, ◌<◌, ◌≤◌, ◌⊎◌, ◌==◌, Bool, true, false, if◌then◌else◌, List}
use Rattle.std.specs.Prelude.{[], ◌∷◌, ◌++◌, slice_index, slice_index_or, slice_set, replicate, Option}
use Rattle.std.specs.Prelude.{Result, Ok, Err}
use Rattle.js_units.specs.declared.units.NoMemory.{NoMemory}
use Rattle.js_header.specs.Form.{word_of}
use Rattle.js_header.specs.declared.form.Form as form
use Rattle.js_header.specs.declared.form.Form.TheVariants as header
use Rattle.heap_rule.specs.declared.view.View.{View}
use Rattle.heap_rule.specs.declared.size.HeapSize.{HeapSize}
use Rattle.heap_core.specs.declared.event.Refusal.{Refusal}
use Rattle.heap_core.specs.declared.event.Refusal.TheVariants.{NotEnabled, Memory}
use Rattle.heap_core.specs.declared.event.Event.{Event}
use Rattle.heap_core.specs.declared.event.Event.TheVariants.{Make, Split, Join, LoadCounter, Claim}
use Rattle.heap_core.specs.declared.event.Event.TheVariants.{StoreWord, StoreLength, Birth, LoadHeader}
use Rattle.heap_core.specs.declared.event.Event.TheVariants.{LoadWord, Flatten, Thin, LoadSlot, TakeSlot}
use Rattle.heap_rule.specs.Layout.{IsLawfulSize, counter_at, slot_at, form_at, length_at, content_at}
use Rattle.heap_rule.specs.Layout.{word_count, IsBorn}
use Rattle.heap_rule.specs.Contents.{units_of}
use Rattle.heap_rule.specs.Maps.{Has, HasKey}
use Rattle.heap_rule.specs.HeaderMoves.{MayFlatten, flattened, MayThin, thinned}
use Rattle.heap_rule.specs.Sound.{At, IsSound, AreLegal}
use Rattle.heap_core.specs.Core.{Core}
use Rattle.heap_rule.specs.Claims.{loaded_counter, MayClaim, claimed}
use Rattle.heap_rule.specs.Births.{stored_word, MayStoreLength, stored_length, MayBear, born}
use Rattle.heap_rule.specs.Views.{MayUse}
use Rattle.heap_rule.specs.Learning.{learned, MayLearn}
use Rattle.heap_rule.specs.Loads.{loaded_form, loaded_length, MayLoadWord, loaded_word}
use Rattle.heap_rule.specs.Slots.{MayEnter, loaded_slot, MayTakeSlot, took_slot}
use Rattle.heap_rule.specs.Agents.{first_view, spent, left_after_split, right_after_split, MayJoin}
use Rattle.heap_rule.specs.Agents.{joined_view}

-- the rule holds of the machine
abbrev pub IsSoundCore : Core → Type 0
IsSoundCore s = IsSound s.size s.agents s.words s.views

-- the machine has no words and no views: nothing was made yet
abbrev pub HasNoHeap : Core → Type 0
HasNoHeap s = (s.words ≡ []) × (s.views ≡ [])

-- what every machine meets: it has no heap yet, or the rule holds
abbrev pub IsCore : Core → Type 0
IsCore s = HasNoHeap s ⊎ IsSoundCore s

-- the view with this number is there, is live and has the property
abbrev pub LiveIn : List View → ℕ → (View → Type 0) → Type 0
LiveIn vs j P = (v : View) × At vs j v × (v.live ≡ true) × P v

-- the view j of the machine is live and has the property
abbrev pub LiveAt : Core → ℕ → (View → Type 0) → Type 0
LiveAt s j P = LiveIn s.views j P

-- the view j of the machine; a spent one where there is none
abbrev pub view_at : Core → ℕ → View
view_at s j = slice_index_or s.views j spent

-- the word p becomes n
abbrev pub stored : Core → ℕ → ℕ → Core
stored s p n = record s { words = slice_set s.words p n }

-- the word p becomes n, and the view j becomes w
abbrev pub moved : Core → ℕ → ℕ → ℕ → View → Core
moved s p n j w = record s { words = slice_set s.words p n; views = slice_set s.views j w }

-- what a compare-exchange of the word p from `old` to `new` leaves there
abbrev pub exchanged : Core → ℕ → ℕ → ℕ → ℕ
exchanged s p old new = if slice_index s.words p == old then new else slice_index s.words p

-- a load, which changes no word
abbrev pub looked : Core → ℕ → View → Core
looked s j w = record s { views = slice_set s.views j w }

-- a header word: the place of the length or of the form
abbrev pub header_at : HeapSize → ℕ → Bool → ℕ
header_at z i true = length_at z i
header_at z i false = form_at z i

module _ (s : Core) where
  -- splitting: `give` of the share goes to a new agent, whose view is at the end
  abbrev pub CanSplit : ℕ → ℕ → Type 0
  CanSplit j give = LiveAt s j (λ v. (1 ≤ give) × (give < v.share))

  -- the machine after the split
  abbrev pub after_split : ℕ → ℕ → Core
  after_split j give = record s {
    views = slice_set s.views j (left_after_split (view_at s j) give)
        ++ right_after_split (view_at s j) give ∷ [];
  }

  -- joining: the other agent is spent
  abbrev pub CanJoin : ℕ → ℕ → Type 0
  CanJoin j other = (j ≢ other) × LiveAt s j (λ v. LiveAt s other (λ b. MayJoin v b))

  -- the machine after the join
  abbrev pub after_join : ℕ → ℕ → Core
  after_join j other = record s
      { views = slice_set (slice_set s.views j (joined_view (view_at s j) (view_at s other))) other spent }

  -- the view after a load of a header word
  abbrev pub header_seen : ℕ → ℕ → Bool → View
  header_seen j i true = loaded_length (view_at s j) i (slice_index s.words (length_at s.size i))
  header_seen j i false = loaded_form (view_at s j) i (slice_index s.words (form_at s.size i))

  -- loading a header word of a known string; each pair that the event names is justified by the view
  -- afterwards
  abbrev pub CanLoadHeader : ℕ → ℕ → Bool → List ℕ → Type 0
  CanLoadHeader j i len names = LiveAt s j (λ v. MayUse v i) × MayLearn (header_seen j i len) names

  -- the machine after the load of a header word
  abbrev pub after_load_header : ℕ → ℕ → Bool → List ℕ → Core
  after_load_header j i len names = looked s j (learned (header_seen j i len) names)

  -- loading a content word
  abbrev pub CanLoadWord : ℕ → ℕ → List ℕ → Type 0
  CanLoadWord j c names = LiveAt s j (λ v. MayLoadWord v c
      × MayLearn (loaded_word v c (slice_index s.words (content_at s.size c))) names)

  -- the machine after the load of a content word
  abbrev pub after_load_word : ℕ → ℕ → List ℕ → Core
  after_load_word j c names =
      looked s j (learned (loaded_word (view_at s j) c (slice_index s.words (content_at s.size c))) names)

  -- a compare-exchange of the header of the string i that the view may make where it meets P, from `old` to
  -- `new`; F is what it makes of the view
  abbrev pub CanMove : ℕ → ℕ → (View → Type 0) → (View → ℕ → View) → List ℕ → Type 0
  CanMove j i P F names =
      LiveAt s j (λ v. P v × MayLearn (F v (slice_index s.words (form_at s.size i))) names)

  -- the machine after that compare-exchange: it leaves the new word where the old one was, and any other as
  -- it is
  abbrev pub after_move : ℕ → ℕ → form.Form → form.Form → (View → ℕ → View) → List ℕ → Core
  after_move j i old new F names =
      moved s (form_at s.size i) (exchanged s (form_at s.size i) (word_of old) (word_of new)) j
      (learned (F (view_at s j) (slice_index s.words (form_at s.size i))) names)

  -- flattening
  abbrev pub CanFlatten : ℕ → ℕ → form.Form → form.Form → List ℕ → Type 0
  CanFlatten j i old new names =
      CanMove j i (λ v. MayFlatten v i old new) (λ v x. flattened v i old new x) names

  -- the machine after flattening
  abbrev pub after_flatten : ℕ → ℕ → form.Form → form.Form → List ℕ → Core
  after_flatten j i old new names = after_move j i old new (λ v x. flattened v i old new x) names

  -- thinning
  abbrev pub CanThinTo : ℕ → ℕ → form.Form → ℕ → List ℕ → Type 0
  CanThinTo j i old t names = CanMove j i (λ v. MayThin v i old t) (λ v x. thinned v i old t x) names

  -- the machine after thinning
  abbrev pub after_thin : ℕ → ℕ → form.Form → ℕ → List ℕ → Core
  after_thin j i old t names = after_move j i old (header.Thin t) (λ v x. thinned v i old t x) names

  -- loading a slot of the table
  abbrev pub CanLoadSlot : ℕ → ℕ → Option (List ℕ) → List ℕ → Type 0
  CanLoadSlot j k entry names = LiveAt s j (λ v. (k < v.sizes.slots) × MayEnter v k entry
      × MayLearn (loaded_slot v k entry (slice_index s.words (slot_at s.size k))) names)

  -- the machine after the load of a slot
  abbrev pub after_load_slot : ℕ → ℕ → Option (List ℕ) → List ℕ → Core
  after_load_slot j k entry names =
      looked s j (learned (loaded_slot (view_at s j) k entry (slice_index s.words (slot_at s.size k))) names)

  -- claiming a slot of the table
  abbrev pub CanTakeSlot : ℕ → ℕ → ℕ → List ℕ → Type 0
  CanTakeSlot j k i names = LiveAt s j (λ v. MayTakeSlot v k i
      × MayLearn (took_slot v k i (slice_index s.words (slot_at s.size k))) names)

  -- the machine after the compare-exchange of a slot from 0 to an id plus 1
  abbrev pub after_take_slot : ℕ → ℕ → ℕ → List ℕ → Core
  after_take_slot j k i names = moved s (slot_at s.size k) (exchanged s (slot_at s.size k) 0 (i + 1)) j
      (learned (took_slot (view_at s j) k i (slice_index s.words (slot_at s.size k))) names)

-- where an event may come: a making where there is no view yet, every other where its view is live and its
-- kind's condition holds
abbrev pub Enabled : Core → Event → Type 0
Enabled s (Make z agents) = (s.views ≡ []) × IsLawfulSize z × (1 ≤ agents) × (agents ≤ 64)
Enabled s (Split j give) = CanSplit s j give
Enabled s (Join j other) = CanJoin s j other
Enabled s (LoadCounter j k) = LiveAt s j (λ v. Unit {0})
Enabled s (Claim j k at want) = LiveAt s j (λ v. MayClaim v k at want)
Enabled s (StoreWord j c n) = LiveAt s j (λ v. HasKey v.own_words c)
Enabled s (StoreLength j i n) = LiveAt s j (λ v. MayStoreLength v i n)
Enabled s (Birth j i f) = LiveAt s j (λ v. MayBear v i f)
Enabled s (LoadHeader j i len names) = CanLoadHeader s j i len names.items
Enabled s (LoadWord j c names) = CanLoadWord s j c names.items
Enabled s (Flatten j i old new names) = CanFlatten s j i old new names.items
Enabled s (Thin j i old t names) = CanThinTo s j i old t names.items
Enabled s (LoadSlot j k entry names) = CanLoadSlot s j k entry names.items
Enabled s (TakeSlot j k i names) = CanTakeSlot s j k i names.items

-- the machine after an event
abbrev pub after : Core → Event → Core
after s (Make z agents) =
    record { size = z; agents = agents; words = replicate (word_count z) 0; views = first_view z agents ∷ [] }
after s (Split j give) = after_split s j give
after s (Join j other) = after_join s j other
after s (LoadCounter j k) = looked s j (loaded_counter (view_at s j) k (slice_index s.words (counter_at k)))
after s (Claim j k at want) = moved s (counter_at k) (exchanged s (counter_at k) at (at + want)) j
    (claimed (view_at s j) k at want (slice_index s.words (counter_at k)))
after s (StoreWord j c n) = moved s (content_at s.size c) n j (stored_word (view_at s j) c n)
after s (StoreLength j i n) = moved s (length_at s.size i) n j (stored_length (view_at s j) i n)
after s (Birth j i f) = moved s (form_at s.size i) (word_of f) j (born (view_at s j) i f)
after s (LoadHeader j i len names) = after_load_header s j i len names.items
after s (LoadWord j c names) = after_load_word s j c names.items
after s (Flatten j i old new names) = after_flatten s j i old new names.items
after s (Thin j i old t names) = after_thin s j i old t names.items
after s (LoadSlot j k entry names) = after_load_slot s j k entry names.items
after s (TakeSlot j k i names) = after_take_slot s j k i names.items

-- the word that an event finds, which is the one that was there before it: for splitting and joining the
-- number in word 0; a making finds none, and its answer is 0
abbrev pub event_place : HeapSize → Event → ℕ
event_place z (LoadCounter j k) = counter_at k
event_place z (Claim j k at want) = counter_at k
event_place z (StoreWord j c n) = content_at z c
event_place z (StoreLength j i n) = length_at z i
event_place z (Birth j i f) = form_at z i
event_place z (LoadHeader j i len names) = header_at z i len
event_place z (LoadWord j c names) = content_at z c
event_place z (Flatten j i old new names) = form_at z i
event_place z (Thin j i old t names) = form_at z i
event_place z (LoadSlot j k entry names) = slot_at z k
event_place z (TakeSlot j k i names) = slot_at z k
event_place z _ = 0

-- the word that was there before the event, and 0 for a making
abbrev pub found : Core → Event → ℕ
found s (Make z agents) = 0
found s e = slice_index s.words (event_place s.size e)

-- an event was applied: on success it was enabled, the machine is the one after it, and the answer is the
-- word found; on a refusal nothing changed
abbrev pub Applied : Core → Event → Core → Result ℕ Refusal → Type 0
Applied s e t (Ok x) = Enabled s e × (t ≡ after s e) × (x ≡ found s e)
Applied s e t (Err NotEnabled) = (Enabled s e → ⊥) × (t ≡ s)
Applied s e t (Err Memory) = t ≡ s

-- an event that is enabled was made: on success the machine is `a`, and the answer is the word `x`; without
-- memory nothing changed
abbrev pub Became : Core → Core → ℕ → Core → Result ℕ NoMemory → Type 0
Became s a x t (Ok y) = (t ≡ a) × (y ≡ x)
Became s a x t (Err e) = t ≡ s

-- an event that is enabled was made, or memory ran out and nothing changed
abbrev pub Made : Core → Event → Core → Result ℕ NoMemory → Type 0
Made s e t r = Became s (after s e) (found s e) t r

-- every born id stays born and keeps its units
abbrev pub KeepsUnits : Core → Core → Type 0
KeepsUnits s t = (i : ℕ) → IsBorn s.size s.words i
    → IsBorn t.size t.words i × (units_of t.size t.words i ≡ units_of s.size s.words i)

-- the rule holds afterwards, and every born id has kept its units
abbrev pub Kept : Core → Core → Type 0
Kept s t = IsSoundCore t × KeepsUnits s t

-- the id of a birth is born afterwards
abbrev pub BornBy : Event → Core → Type 0
BornBy (Birth j i f) t = IsBorn t.size t.words i
BornBy e t = Unit {0}

-- the units that a view has of the string that it saw in a slot
abbrev pub HasEntry : Core → ℕ → ℕ → List ℕ → Type 0
HasEntry s j k us = (v : View) × (i : ℕ) × At s.views j v × Has v.slots k i × Has v.units i us

-- a list of events, one after the other, each enabled in its turn
abbrev pub run : List Event → Core → Core
run [] s = s
run (e ∷ es) s = run es (after s e)

-- each event may come where those before it have led
abbrev pub AreEnabled : List Event → Core → Type 0
AreEnabled [] s = Unit {0}
AreEnabled (e ∷ es) s = Enabled s e × AreEnabled es (after s e)

-- From a machine that meets the rule, every such list leads to one that does, and every born id keeps its
-- units.
-- From a machine without a heap every such list but the empty one does, since it begins with a making.
abbrev pub RunsAreSound : Type 0
RunsAreSound = (s : Core) (es : List Event) → IsSoundCore s → AreEnabled es s → IsSoundCore (run es s)

-- from a machine without a heap, every list that isn't empty leads to one that meets the rule
abbrev pub MadeRunsAreSound : Type 0
MadeRunsAreSound = (s : Core) (e : Event) (es : List Event) → HasNoHeap s → AreEnabled (e ∷ es) s
    → IsSoundCore (run (e ∷ es) s)

-- from every machine, every such list keeps each born id born, with its units
abbrev pub RunsKeepUnits : Type 0
RunsKeepUnits = (s : Core) (es : List Event) → IsCore s → AreEnabled es s → KeepsUnits s (run es s)

-- whatever was played, all histories together give each list of units one id and each id one list
abbrev pub RunsAreLegal : Type 0
RunsAreLegal = (s : Core) (es : List Event) → IsCore s → AreEnabled es s → AreLegal (run es s).views
