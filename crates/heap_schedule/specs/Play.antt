-- Playing: where the event of a line may come, what it does to the machine, and which word it finds.
use Rattle.std.specs.Prelude.{◌≡◌, ⊤, None, Result, Ok, Err, ℕ, ◌≤◌, List, [], ◌∷◌, drop, length, replicate}
use Rattle.std.specs.Prelude.{slice_index, take, Option, IsSome, option_and_then}
use Rattle.std.specs.FinMap.{get}
use Rattle.heap_rule.specs.Agents.{first_view}
use Rattle.heap_rule.specs.Layout.{content_at, form_at, slot_at, word_count}
use Rattle.heap_core.specs.declared.event.Event.{Event}
use Rattle.heap_core.specs.declared.event.Refusal.{Refusal}
use Rattle.heap_core.specs.declared.event.Refusal.TheVariants.{NotEnabled, Memory}
use Rattle.heap_core.specs.Core.{Core}
use Rattle.heap_core.specs.Events.{IsSoundCore, CanFlatten, CanLoadHeader, CanLoadSlot, CanLoadWord}
use Rattle.heap_core.specs.Events.{CanTakeSlot, CanThinTo, Enabled, after, after_flatten, after_load_header}
use Rattle.heap_core.specs.Events.{after_load_slot, after_load_word, after_take_slot, after_thin, found}
use Rattle.heap_core.specs.Events.{header_at, view_at}
use Rattle.heap_schedule.specs.declared.line.Making.{Making}
use Rattle.heap_schedule.specs.Lines.{Turn, plain, loads_header, loads_word, flattens, thins, loads_slot}
use Rattle.heap_schedule.specs.Lines.{takes_slot, enters, turn_of}

-- the units that the view has of the string that it saw in the slot
abbrev pub slot_units : Core → ℕ → ℕ → Option (List ℕ)
slot_units s j k = option_and_then (λ i. get (view_at s j).units i) (get (view_at s j).slots k)

abbrev pub CanPlay : Core → Turn → Type 0
CanPlay s (plain e) = Enabled s e
CanPlay s (loads_header j i len names) = CanLoadHeader s j i len names
CanPlay s (loads_word j c names) = CanLoadWord s j c names
CanPlay s (flattens j i old new names) = CanFlatten s j i old new names
CanPlay s (thins j i old t names) = CanThinTo s j i old t names
CanPlay s (loads_slot j k entry names) = CanLoadSlot s j k entry names
CanPlay s (takes_slot j k i names) = CanTakeSlot s j k i names
CanPlay s (enters j k names) = IsSome (slot_units s j k) × CanLoadSlot s j k (slot_units s j k) names

-- the machine after it
abbrev pub played : Core → Turn → Core
played s (plain e) = after s e
played s (loads_header j i len names) = after_load_header s j i len names
played s (loads_word j c names) = after_load_word s j c names
played s (flattens j i old new names) = after_flatten s j i old new names
played s (thins j i old t names) = after_thin s j i old t names
played s (loads_slot j k entry names) = after_load_slot s j k entry names
played s (takes_slot j k i names) = after_take_slot s j k i names
played s (enters j k names) = after_load_slot s j k (slot_units s j k) names

-- the word that was there before it
abbrev pub word_for : Core → Turn → ℕ
word_for s (plain e) = found s e
word_for s (loads_header j i len names) = slice_index s.words (header_at s.size i len)
word_for s (loads_word j c names) = slice_index s.words (content_at s.size c)
word_for s (flattens j i old new names) = slice_index s.words (form_at s.size i)
word_for s (thins j i old t names) = slice_index s.words (form_at s.size i)
word_for s (loads_slot j k entry names) = slice_index s.words (slot_at s.size k)
word_for s (takes_slot j k i names) = slice_index s.words (slot_at s.size k)
word_for s (enters j k names) = slice_index s.words (slot_at s.size k)

-- lines, one after the other: each may be played in its turn, what they lead to, and the words that they find
abbrev pub CanPlayAll : List Turn → Core → Type 0
CanPlayAll [] s = Unit {0}
CanPlayAll (t ∷ ts) s = CanPlay s t × CanPlayAll ts (played s t)

abbrev pub all_played : List Turn → Core → Core
all_played [] s = s
all_played (t ∷ ts) s = all_played ts (played s t)

abbrev pub words_for : List Turn → Core → List ℕ
words_for [] s = []
words_for (t ∷ ts) s = word_for s t ∷ words_for ts (played s t)

-- there is no further line, or the next one may not be played
abbrev pub IsOver : Core → List Turn → Type 0
IsOver s [] = Unit {0}
IsOver s (t ∷ ts) = CanPlay s t → ⊥

-- the first n lines are played, and then it is over
pub record EndsAfter (ts : List Turn) (s : Core) (n : ℕ) : Type 0 where
  pub within : n ≤ length ts
  pub play : CanPlayAll (take n ts) s
  pub over : IsOver (all_played (take n ts) s) (drop n ts)

-- the machine that the first line makes
abbrev pub machine_made : Making → Core
machine_made m = record {
  size = m.size;
  agents = m.agents;
  words = replicate (word_count m.size) 0;
  views = first_view m.size m.agents ∷ [];
}

-- an event that loads the slot with that entry, or why there is none
abbrev pub IsEntering : Core → ℕ → ℕ → List ℕ → Result Event Refusal → Type 0
IsEntering s j k names (Ok e) = IsSome (slot_units s j k)
    × (turn_of e ≡ loads_slot j k (slot_units s j k) names)
IsEntering s j k names (Err NotEnabled) = slot_units s j k ≡ None
IsEntering s j k names (Err Memory) = ⊤

-- what playing a line answers, and what it leads to
abbrev pub IsPlayed : Core → Turn → Core → Result ℕ Refusal → Type 0
IsPlayed s l t (Ok x) = CanPlay s l × (t ≡ played s l) × (x ≡ word_for s l) × IsSoundCore t
IsPlayed s l t (Err NotEnabled) = (CanPlay s l → ⊥) × (t ≡ s)
IsPlayed s l t (Err Memory) = t ≡ s
