-- Which kind of step on a word each event is: an event does to the machine what its kind does to the word and
-- to the agent's view.
use Rattle.std.specs.Prelude.{◌≡◌, ℕ, true, false, if◌then◌else◌, List, [], slice_index, slice_set, Option}
use Rattle.std.specs.Prelude.{Some, None, IfSome}
use Rattle.heap_rule.specs.declared.view.View.{View}
use Rattle.heap_rule.specs.Learning.{learned}
use Rattle.heap_rule.specs.Kinds.{StepKind, load_counter, claim, store_word, store_length, birth, load_form}
use Rattle.heap_rule.specs.Kinds.{load_length, load_word, flatten, thin, load_slot, take_slot, MayCome}
use Rattle.heap_rule.specs.Kinds.{place_of, access_of, word_left, view_after, learns}
use Rattle.heap_core.specs.declared.event.Event.{Event}
use Rattle.heap_core.specs.declared.event.Event.TheVariants.{Make, Split, Join, LoadCounter, Claim}
use Rattle.heap_core.specs.declared.event.Event.TheVariants.{StoreWord, StoreLength, Birth, LoadHeader}
use Rattle.heap_core.specs.declared.event.Event.TheVariants.{LoadWord, Flatten, Thin, LoadSlot, TakeSlot}
use Rattle.heap_core.specs.Core.{Core, core}
use Rattle.heap_core.specs.Events.{LiveAt, Enabled, after}

-- making, splitting and joining are no steps on a word
abbrev pub kind_of : Event → Option StepKind
kind_of (LoadCounter j k) = Some (load_counter k)
kind_of (Claim j k at want) = Some (claim k at want)
kind_of (StoreWord j c n) = Some (store_word c n)
kind_of (StoreLength j i n) = Some (store_length i n)
kind_of (Birth j i f) = Some (birth i f)
kind_of (LoadHeader j i true names) = Some (load_length i)
kind_of (LoadHeader j i false names) = Some (load_form i)
kind_of (LoadWord j c names) = Some (load_word c)
kind_of (Flatten j i old new names) = Some (flatten i old new)
kind_of (Thin j i old t names) = Some (thin i old t)
kind_of (LoadSlot j k entry names) = Some (load_slot k entry)
kind_of (TakeSlot j k i names) = Some (take_slot k i)
kind_of _ = None

-- the number of its view, and the ids of which it learns the units
abbrev pub agent_of : Event → ℕ
agent_of (Split j give) = j
agent_of (Join j other) = j
agent_of (LoadCounter j k) = j
agent_of (Claim j k at want) = j
agent_of (StoreWord j c n) = j
agent_of (StoreLength j i n) = j
agent_of (Birth j i f) = j
agent_of (LoadHeader j i len names) = j
agent_of (LoadWord j c names) = j
agent_of (Flatten j i old new names) = j
agent_of (Thin j i old t names) = j
agent_of (LoadSlot j k entry names) = j
agent_of (TakeSlot j k i names) = j
agent_of (Make z agents) = 0

-- the ids of which an event learns the units
abbrev pub learned_ids : Event → List ℕ
learned_ids (LoadHeader j i len names) = names.items
learned_ids (LoadWord j c names) = names.items
learned_ids (Flatten j i old new names) = names.items
learned_ids (Thin j i old t names) = names.items
learned_ids (LoadSlot j k entry names) = names.items
learned_ids (TakeSlot j k i names) = names.items
learned_ids _ = []

-- a step of this kind by the view j, which learns the units of the named ids where its kind learns
abbrev pub stepped : Core → ℕ → View → StepKind → List ℕ → Core
stepped s j v k names = core s.size s.agents
    (slice_set s.words (place_of s.size k)
    (word_left (access_of k) (slice_index s.words (place_of s.size k))))
    (slice_set s.views j
    (if learns k then learned (view_after v k (slice_index s.words (place_of s.size k))) names
    else view_after v k (slice_index s.words (place_of s.size k))))

-- each enabled event on a word is a step of its kind by a live view, at which the kind may come
abbrev pub EventsAreSteps : Type 0
EventsAreSteps = (s : Core) (e : Event) → Enabled s e → IfSome (kind_of e)
    (λ k. LiveAt s (agent_of e) (λ v. MayCome v k × (after s e ≡ stepped s (agent_of e) v k (learned_ids e))))
