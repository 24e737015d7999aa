-- What each step of the table reports to its caller. A step is given as the number of its word and two
-- operands; so each says what it did for every counter, id or place that spells that number, and a caller
-- puts in its own.
use Rattle.std.specs.Prelude.{Some, None, Option, Bool, ◌≡◌, ℕ, ◌+◌, ◌^◌, ◌<◌, ◌≤◌, ◌⊎◌, List, Contains}
use Rattle.atomic_table.specs.Table.{Step, Me}
use Rattle.js_header.specs.Form.{IsInRange, form_of, word_of}
use Rattle.js_header.specs.declared.form.Form.{Form}
use Rattle.js_header.specs.declared.form.Form.TheVariants.{Unborn, Sliced, Thin}
use Rattle.heap_rule.specs.declared.view.View.{View}
use Rattle.heap_rule.specs.declared.size.Counter.{Counter}
use Rattle.heap_rule.specs.declared.size.Counter.TheVariants.{Ids, Words}
use Rattle.heap_rule.specs.Layout.{counter_at, end_of, content_at, form_at, length_at, slot_at, MAX}
use Rattle.heap_rule.specs.Layout.{counter_value}
use Rattle.heap_rule.specs.Maps.{Has, HasKey}
use Rattle.heap_rule.specs.Forms.{IsLater, IsSolidForm}
use Rattle.heap_rule.specs.Views.{MayUse, IsSeenSettled, shown_word}
use Rattle.heap_rule.specs.Claims.{loaded_counter, claimed}
use Rattle.heap_rule.specs.Births.{stored_word, stored_length, born}
use Rattle.heap_rule.specs.Loads.{loaded_form, loaded_length, loaded_word}
use Rattle.heap_rule.specs.Slots.{entry_in, loaded_slot, took_slot}
use Rattle.heap_rule.specs.Learning.{learned_all}
use Rattle.heap_rule.specs.Agents.{noted}
use Rattle.heap_rule.specs.HeaderMoves.{flattened, thinned}
use Rattle.heap_rule.specs.Sound.{IsPossible}
use Rattle.heap_table.specs.Known.{KeepsKnown}

-- a seat: its view, and the slots that it holds, of which there are none
abbrev pub AgentSeat : Type 0
AgentSeat = Me (Unit {0}) View

-- what the rule says of a counter that is found: it is no less than what was read before and than what the
-- agent claimed, and lies within its end; an id to come is above every known one and every own one, a content
-- word to come above every own one, and an agent that holds the whole share claimed all of it
pub record FoundCounter (v : View) (k : Counter) (x : ℕ) : Type 0 where
  pub grown : counter_value v.low k ≤ x
  pub used : counter_value v.used k ≤ x
  pub within : x ≤ end_of v.sizes k
  pub above : k ≡ Ids → (i : ℕ) → MayUse v i → i < x
  pub own_ids : k ≡ Ids → (i : ℕ) → HasKey v.own_ids i → i < x
  pub own_words : k ≡ Words → (c : ℕ) → HasKey v.own_words c → c < x
  pub whole : v.share ≡ v.agents → x ≡ counter_value v.used k

-- What the rule says of the word of a slot that is found: a used slot has one of the heap's ids; what the
-- view has there is found again; and an agent that holds the whole share has every used slot in a call of its
-- own.
pub record FoundSlot (v : View) (k x : ℕ) : Type 0 where
  pub within : (i : ℕ) → x ≡ i + 1 → i < v.sizes.ids
  pub again : (i : ℕ) → Has v.slots k i → x ≡ i + 1
  pub whole : v.share ≡ v.agents → (i : ℕ) → x ≡ i + 1 → (u : List ℕ) × Contains v.mine (u, i)

-- What the rule says of the word of a header that is found: its form is the one that the view has, or a later
-- one; and a Sliced that the view has is cut from a Flat or a Thin.
pub record FoundForm (v : View) (i x : ℕ) : Type 0 where
  pub later : (f now : Form) → Has v.forms i f → form_of x ≡ Some now → (f ≡ now) ⊎ IsLater f now
  pub solid : (j : ℕ) (wide : Bool) (offset : ℕ) → Has v.forms j (Sliced wide i offset)
      → IsSolidForm (form_of x)

-- what each step of one agent leaves as it is, and that the new view is in a sound state
pub record StaysSound (me me' : AgentSeat) : Type 0 where
  pub slots : me'.1 ≡ me.1
  pub sizes : me'.0.sizes ≡ me.0.sizes
  pub live : me'.0.live ≡ me.0.live
  pub share : me'.0.share ≡ me.0.share
  pub possible : IsPossible me'.0

-- the load of a counter
abbrev pub LoadedCounter : Step (Unit {0}) → AgentSeat → ℕ → AgentSeat → Type 0
LoadedCounter st me x me' = StaysSound me me'
    × ((k : Counter) → st.word ≡ counter_at k → (me'.0 ≡ loaded_counter me.0 k x) × FoundCounter me.0 k x)

-- the compare-exchange of a counter, from a number to one that is greater by what is requested
abbrev pub IsClaim : Step (Unit {0}) → AgentSeat → ℕ → AgentSeat → Type 0
IsClaim st me x me' = StaysSound me me'
    × ((k : Counter) (want : ℕ) → st.word ≡ counter_at k → st.second ≡ st.first + want
    → (me'.0 ≡ claimed me.0 k st.first want x) × FoundCounter me.0 k x)

-- the store of an own content word
abbrev pub StoredWord : Step (Unit {0}) → AgentSeat → ℕ → AgentSeat → Type 0
StoredWord st me x me' =
    StaysSound me me' × ((c : ℕ) → st.word ≡ content_at me.0.sizes c → me'.0 ≡ stored_word me.0 c st.first)

-- the store of the length of an own id
abbrev pub StoredLength : Step (Unit {0}) → AgentSeat → ℕ → AgentSeat → Type 0
StoredLength st me x me' =
    StaysSound me me' × ((i : ℕ) → st.word ≡ length_at me.0.sizes i → me'.0 ≡ stored_length me.0 i st.first)

-- the store of the form word of an own id, by which it is born
abbrev pub GaveBirth : Step (Unit {0}) → AgentSeat → ℕ → AgentSeat → Type 0
GaveBirth st me x me' = StaysSound me me' × KeepsKnown me.0 me'.0
    × ((i : ℕ) (f : Form) → st.word ≡ form_at me.0.sizes i
    → st.first ≡ word_of f → IsInRange f → me'.0 ≡ born me.0 i f)

-- the load of a form word: the word that is found is that of a form, and the string is born
abbrev pub LoadedForm : Step (Unit {0}) → AgentSeat → ℕ → AgentSeat → Type 0
LoadedForm st me x me' = StaysSound me me' × KeepsKnown me.0 me'.0
    × ((f : Form) × (form_of x ≡ Some f) × (f ≡ Unborn → ⊥))
    × ((i : ℕ) → st.word ≡ form_at me.0.sizes i
    → (me'.0 ≡ learned_all (loaded_form me.0 i x)) × FoundForm me.0 i x)

-- the load of a length word: the length is at most the greatest one
abbrev pub LoadedLength : Step (Unit {0}) → AgentSeat → ℕ → AgentSeat → Type 0
LoadedLength st me x me' = StaysSound me me' × KeepsKnown me.0 me'.0 × (x ≤ MAX) × (me'.0.forms ≡ me.0.forms)
    × ((i : ℕ) → st.word ≡ length_at me.0.sizes i → me'.0 ≡ learned_all (loaded_length me.0 i x))

-- the load of a content word: the view has afterwards what was found
abbrev pub LoadedWord : Step (Unit {0}) → AgentSeat → ℕ → AgentSeat → Type 0
LoadedWord st me x me' = StaysSound me me' × KeepsKnown me.0 me'.0 × (me'.0.forms ≡ me.0.forms)
    × ((c : ℕ) → st.word ≡ content_at me.0.sizes c
    → (me'.0 ≡ learned_all (loaded_word me.0 c x)) × (x ≡ shown_word me'.0 c))

-- the compare-exchange of a form word to that of a Flat: the string is settled afterwards, whoever settled it
abbrev pub FlattenedForm : Step (Unit {0}) → AgentSeat → ℕ → AgentSeat → Type 0
FlattenedForm st me x me' = StaysSound me me' × KeepsKnown me.0 me'.0
    × ((i : ℕ) (old new : Form) → st.word ≡ form_at me.0.sizes i
    → st.first ≡ word_of old → st.second ≡ word_of new → IsInRange old → IsInRange new
    → (me'.0 ≡ learned_all (flattened me.0 i old new x)) × IsSeenSettled me'.0 i)

-- the compare-exchange of a form word to that of a Thin: the string forwards to t afterwards, whoever did it
abbrev pub ThinnedForm : Step (Unit {0}) → AgentSeat → ℕ → AgentSeat → Type 0
ThinnedForm st me x me' = StaysSound me me' × KeepsKnown me.0 me'.0
    × ((i t : ℕ) (old : Form) → st.word ≡ form_at me.0.sizes i
    → st.first ≡ word_of old → st.second ≡ word_of (Thin t) → IsInRange old → t < 2 ^ 29
    → (me'.0 ≡ learned_all (thinned me.0 i old t x)) × Has me'.0.forms i (Thin t))

-- a load of a slot, with the entry that the view has for the history
abbrev pub SawSlot : (View → ℕ → Option (List ℕ)) → Step (Unit {0}) → AgentSeat → ℕ → AgentSeat → Type 0
SawSlot entry st me x me' = StaysSound me me' × KeepsKnown me.0 me'.0 × (me'.0.forms ≡ me.0.forms)
    × ((k : ℕ) → st.word ≡ slot_at me.0.sizes k
    → (me'.0 ≡ learned_all (loaded_slot me.0 k (entry me.0 k) x)) × FoundSlot me.0 k x)

-- a load of a slot that enters no call in the history
abbrev pub LoadedSlot : Step (Unit {0}) → AgentSeat → ℕ → AgentSeat → Type 0
LoadedSlot = SawSlot (λ v k. None)

-- a load of a slot that enters a call in the history, with the units that the view has of the string there
abbrev pub EnteredSlot : Step (Unit {0}) → AgentSeat → ℕ → AgentSeat → Type 0
EnteredSlot = SawSlot entry_in

-- the compare-exchange of a slot from 0 to the word of an id
abbrev pub TookSlot : Step (Unit {0}) → AgentSeat → ℕ → AgentSeat → Type 0
TookSlot st me x me' = StaysSound me me' × KeepsKnown me.0 me'.0 × (me'.0.forms ≡ me.0.forms)
    × ((k i : ℕ) → st.word ≡ slot_at me.0.sizes k → st.second ≡ i + 1
    → (me'.0 ≡ learned_all (took_slot me.0 k i x)) × FoundSlot me.0 k x)

-- a note of the share that a running split is about to give
abbrev pub Noted : Step (Unit {0}) → AgentSeat → ℕ → AgentSeat → Type 0
Noted st me x me' = StaysSound me me' × (me'.0 ≡ noted me.0 st.first)

-- a step that changes nothing, and shows that the share is at most 64
abbrev pub Looked : Step (Unit {0}) → AgentSeat → ℕ → AgentSeat → Type 0
Looked st me x me' = StaysSound me me' × (me'.0 ≡ me.0) × (me.0.share ≤ 64)
