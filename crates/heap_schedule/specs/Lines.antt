-- The lines of a schedule, by their fields. A line names an event of the machine, as plain data.
use Rattle.std.specs.Prelude.{◌≡◌, ⊤, ℕ, ◌+◌, ◌-◌, ◌^◌, min, Bool, true, false, ◌&&◌, ◌==◌, nat_le, nat_lt}
use Rattle.std.specs.Prelude.{if◌then◌else◌, List, [], ◌∷◌, drop, length, slice_index_or, Option, None}
use Rattle.std.specs.Prelude.{Some, Result, option_map}
use Rattle.std.proofs.Common.{Vec, Global}
use Rattle.js_header.specs.Form.{form_of}
use Rattle.js_header.specs.declared.form.Form.{Form}
use Rattle.heap_rule.specs.declared.size.HeapSize.{HeapSize}
use Rattle.heap_rule.specs.declared.size.Counter.{Counter}
use Rattle.heap_rule.specs.declared.size.Counter.TheVariants as counter
use Rattle.heap_core.specs.declared.event.Event.{Event}
use Rattle.heap_core.specs.declared.event.Event.TheVariants as event
use Rattle.heap_schedule.specs.declared.field.Keyword.{Keyword}
use Rattle.heap_schedule.specs.declared.field.Keyword.TheVariants as keyword
use Rattle.heap_schedule.specs.declared.field.Field.{Field}
use Rattle.heap_schedule.specs.declared.field.Field.TheVariants as field
use Rattle.heap_schedule.specs.declared.field.LineFault.{LineFault}
use Rattle.heap_schedule.specs.declared.line.Line.{Line}
use Rattle.heap_schedule.specs.declared.line.Line.TheVariants as line
use Rattle.heap_schedule.specs.declared.line.Making.{Making}
use Rattle.heap_schedule.specs.Fields.{GivesReading}

-- What a line names: an event that learns nothing; or one that learns, with the ids that it learns of.
pub data Turn : Type 0 where
  plain : Event → Turn
  loads_header : ℕ → ℕ → Bool → List ℕ → Turn
  loads_word : ℕ → ℕ → List ℕ → Turn
  flattens : ℕ → ℕ → Form → Form → List ℕ → Turn
  thins : ℕ → ℕ → Form → ℕ → List ℕ → Turn
  loads_slot : ℕ → ℕ → Option (List ℕ) → List ℕ → Turn
  takes_slot : ℕ → ℕ → ℕ → List ℕ → Turn
  -- a load of a slot whose entry is what the view knows of the string that it saw there
  enters : ℕ → ℕ → List ℕ → Turn

abbrev pub turn_of : Event → Turn
turn_of (event.LoadHeader j i len names) = loads_header j i len names.items
turn_of (event.LoadWord j c names) = loads_word j c names.items
turn_of (event.Flatten j i old new names) = flattens j i old new names.items
turn_of (event.Thin j i old t names) = thins j i old t names.items
turn_of (event.LoadSlot j k entry names) = loads_slot j k entry names.items
turn_of (event.TakeSlot j k i names) = takes_slot j k i names.items
turn_of e = plain e

abbrev pub turn_named : Line → Turn
turn_named (line.Event e) = turn_of e
turn_named (line.Enter j k names) = enters j k names.items

-- ---- fields

abbrev pub field_number : Field → Option ℕ
field_number (field.Number n) = Some n
field_number (field.Keyword w) = None

-- The number of a view, an id, a content word or a slot, or a count of such. All of these are below 2^32 - 1,
-- so a greater number, which names nothing, is read as that one.
abbrev pub field_place : Field → Option ℕ
field_place (field.Number n) = Some (if nat_lt n 4294967295 then n else 4294967295)
field_place (field.Keyword w) = None

abbrev pub counter_by : Keyword → Option Counter
counter_by keyword.Ids = Some counter.Ids
counter_by keyword.Words = Some counter.Words
counter_by _ = None

abbrev pub counter_in : Field → Option Counter
counter_in (field.Keyword w) = counter_by w
counter_in (field.Number n) = None

-- a number that is the word of a form
abbrev pub form_in : Field → Option Form
form_in (field.Number n) = form_of n
form_in (field.Keyword w) = None

abbrev pub is_word_learn : Keyword → Bool
is_word_learn keyword.Learn = true
is_word_learn _ = false

abbrev pub is_learn : Field → Bool
is_learn (field.Keyword w) = is_word_learn w
is_learn (field.Number n) = false

abbrev pub is_word_enter : Keyword → Bool
is_word_enter keyword.Enter = true
is_word_enter _ = false

abbrev pub is_entering : Field → Bool
is_entering (field.Keyword w) = is_word_enter w
is_entering (field.Number n) = false

abbrev pub is_word_heap : Keyword → Bool
is_word_heap keyword.Heap = true
is_word_heap _ = false

abbrev pub is_heap : Field → Bool
is_heap (field.Keyword w) = is_word_heap w
is_heap (field.Number n) = false

abbrev pub field_at : List Field → ℕ → Field
field_at fs k = slice_index_or fs k (field.Number 0)

-- ` learn I`, any number of times
abbrev pub name_before : Bool → Option ℕ → Option (List ℕ) → Option (List ℕ)
name_before true (Some i) (Some is) = Some (i ∷ is)
name_before true (Some i) None = None
name_before true None is = None
name_before false i is = None

abbrev pub field_names : List Field → Option (List ℕ)
field_names [] = Some []
field_names (f ∷ []) = None
field_names (f ∷ g ∷ fs) = name_before (is_learn f) (field_place g) (field_names fs)

-- ---- lines

abbrev pub of_two : {A B R : Type 0} → (A → B → R) → Option A → Option B → Option R
of_two f (Some a) (Some b) = Some (f a b)
of_two f _ _ = None

abbrev pub of_three : {A B C R : Type 0} → (A → B → C → R) → Option A → Option B → Option C → Option R
of_three f (Some a) (Some b) (Some c) = Some (f a b c)
of_three f _ _ _ = None

abbrev pub of_four : {A B C D R : Type 0} → (A → B → C → D → R) → Option A → Option B → Option C
    → Option D → Option R
of_four f (Some a) (Some b) (Some c) (Some d) = Some (f a b c d)
of_four f _ _ _ _ = None

abbrev pub of_five : {A B C D E R : Type 0} → (A → B → C → D → E → R)
    → Option A → Option B → Option C → Option D → Option E → Option R
of_five f (Some a) (Some b) (Some c) (Some d) (Some e) = Some (f a b c d e)
of_five f _ _ _ _ _ = None

module _ (fs : List Field) where
  -- the field at a place, read so
  abbrev pub place_at : ℕ → Option ℕ
  place_at k = field_place (field_at fs k)

  abbrev pub field_form : ℕ → Option Form
  field_form k = form_in (field_at fs k)

  abbrev pub field_counter : ℕ → Option Counter
  field_counter k = counter_in (field_at fs k)

  -- what is learned, from a place to the end
  abbrev pub names_from : ℕ → Option (List ℕ)
  names_from k = field_names (drop k fs)

  abbrev pub exactly : ℕ → Option Turn → Option Turn
  exactly n turn = if length fs == n then turn else None

  abbrev pub at_least : ℕ → Option Turn → Option Turn
  at_least n turn = if nat_le n (length fs) then turn else None

  -- `split V GIVE`
  abbrev pub split_line_of : Option Turn
  split_line_of = exactly 3 (of_two (λ j give. plain (event.Split j give)) (place_at 1) (place_at 2))

  -- `join V B`
  abbrev pub join_line_of : Option Turn
  join_line_of = exactly 3 (of_two (λ j other. plain (event.Join j other)) (place_at 1) (place_at 2))

  -- `counter V ids, counter V words`
  abbrev pub counter_line_of : Option Turn
  counter_line_of = exactly 3 (of_two (λ j k. plain (event.LoadCounter j k)) (place_at 1) (field_counter 2))

  -- `claim V ids AT WANT, claim V words AT WANT`
  abbrev pub claim_line_of : Option Turn
  claim_line_of = exactly 5 (of_four (λ j k at want. plain (event.Claim j k at want)) (place_at 1)
      (field_counter 2) (place_at 3) (place_at 4))

  -- `store V C WORD`
  abbrev pub store_line_of : Option Turn
  store_line_of = exactly 4 (of_three (λ j c n. plain (event.StoreWord j c n)) (place_at 1) (place_at 2)
      (field_number (field_at fs 3)))

  -- `length V I N`
  abbrev pub length_line_of : Option Turn
  length_line_of =
      exactly 4 (of_three (λ j i n. plain (event.StoreLength j i n)) (place_at 1) (place_at 2) (place_at 3))

  -- `birth V I FORM`
  abbrev pub birth_line_of : Option Turn
  birth_line_of =
      exactly 4 (of_three (λ j i f. plain (event.Birth j i f)) (place_at 1) (place_at 2) (field_form 3))

  -- `form V I`
  abbrev pub form_line_of : Option Turn
  form_line_of = at_least 3
      (of_three (λ j i names. loads_header j i false names) (place_at 1) (place_at 2) (names_from 3))

  -- `len V I`
  abbrev pub len_line_of : Option Turn
  len_line_of = at_least 3
      (of_three (λ j i names. loads_header j i true names) (place_at 1) (place_at 2) (names_from 3))

  -- `word V C`
  abbrev pub word_line_of : Option Turn
  word_line_of =
      at_least 3 (of_three (λ j c names. loads_word j c names) (place_at 1) (place_at 2) (names_from 3))

  -- `flatten V I OLD NEW`
  abbrev pub flatten_line_of : Option Turn
  flatten_line_of = at_least 5 (of_five (λ j i old new names. flattens j i old new names) (place_at 1)
      (place_at 2) (field_form 3) (field_form 4) (names_from 5))

  -- `thin V I OLD TARGET`
  abbrev pub thin_line_of : Option Turn
  thin_line_of = at_least 5 (of_five (λ j i old t names. thins j i old t names) (place_at 1) (place_at 2)
      (field_form 3) (place_at 4) (names_from 5))

  -- `take V K I`
  abbrev pub take_line_of : Option Turn
  take_line_of = at_least 4
      (of_four (λ j k i names. takes_slot j k i names) (place_at 1) (place_at 2) (place_at 3) (names_from 4))

  abbrev pub is_enter : Bool
  is_enter = nat_le 4 (length fs) && is_entering (field_at fs 3)

  -- `slot V K`, `slot V K enter`
  abbrev pub slot_line_of : Option Turn
  slot_line_of = at_least 3 (if is_enter
      then of_three (λ j k names. enters j k names) (place_at 1) (place_at 2) (names_from 4)
      else of_three (λ j k names. loads_slot j k None names) (place_at 1) (place_at 2) (names_from 3))

abbrev pub line_by : Keyword → List Field → Option Turn
line_by keyword.Split fs = split_line_of fs
line_by keyword.Join fs = join_line_of fs
line_by keyword.Counter fs = counter_line_of fs
line_by keyword.Claim fs = claim_line_of fs
line_by keyword.Store fs = store_line_of fs
line_by keyword.Length fs = length_line_of fs
line_by keyword.Birth fs = birth_line_of fs
line_by keyword.Form fs = form_line_of fs
line_by keyword.Len fs = len_line_of fs
line_by keyword.Word fs = word_line_of fs
line_by keyword.Flatten fs = flatten_line_of fs
line_by keyword.Thin fs = thin_line_of fs
line_by keyword.Slot fs = slot_line_of fs
line_by keyword.Take fs = take_line_of fs
line_by _ fs = None

abbrev pub line_after : Field → List Field → Option Turn
line_after (field.Keyword w) fs = line_by w fs
line_after (field.Number n) fs = None

-- a line behind the first
abbrev pub line_of : List Field → Option Turn
line_of [] = None
line_of (f ∷ fs) = line_after f (f ∷ fs)

-- ---- the first line

abbrev pub is_lawful : HeapSize → Bool
is_lawful z =
    (nat_le 1 z.ids && nat_le 1 z.words) && (nat_le 1 z.slots && nat_le (z.ids + z.words + z.slots) 16384)

-- a heap with at most 16,384 ids, content words and slots together, for 1 to 64 agents
abbrev pub is_small : Making → Bool
is_small m = is_lawful m.size && (nat_le 1 m.agents && nat_le m.agents 64)

abbrev pub if_small : Making → Option Making
if_small m = if is_small m then Some m else None

abbrev pub checked : Option Making → Option Making
checked None = None
checked (Some m) = if_small m

-- `heap I W S A`
abbrev pub making_of : List Field → Option Making
making_of fs = if (length fs == 5) && is_heap (field_at fs 0)
    then checked (of_four (λ ids words slots agents. record
    { size = record { ids = ids; words = words; slots = slots }; agents = agents })
    (place_at fs 1) (place_at fs 2) (place_at fs 3) (place_at fs 4))
    else None

-- ---- results

abbrev pub GivesLine : Result Line LineFault → Option Turn → Type 0
GivesLine r wanted = GivesReading turn_named r wanted

abbrev pub GivesNames : Result (Vec ℕ Global) LineFault → Option (List ℕ) → Type 0
GivesNames r wanted = GivesReading (λ names. names.items) r wanted
