-- The words of a heap: which sizes it may have, and at which place of its one list of words each of them
-- lies.
use Rattle.std.specs.Prelude.{◌≢◌, ℕ, ◌+◌, ◌*◌, ◌^◌, ◌<◌, ◌≤◌, List, slice_index}
use Rattle.heap_rule.specs.declared.size.HeapSize.{HeapSize}
use Rattle.heap_rule.specs.declared.size.Counter.{Counter}
use Rattle.heap_rule.specs.declared.size.Counter.TheVariants.{Ids, Words}
use Rattle.heap_rule.specs.declared.size.Counters.{Counters}

-- the greatest length of a string, V8's String::kMaxLength on 64-bit machines: 2^29 - 24
abbrev pub MAX : ℕ
MAX = 536870888

-- each size is in 1 to 2^29 - 1, and together they are at most 2^29
abbrev pub IsLawfulSize : HeapSize → Type 0
IsLawfulSize z = (1 ≤ z.ids) × (z.ids < 2 ^ 29) × (1 ≤ z.words) × (z.words < 2 ^ 29) × (1 ≤ z.slots)
    × (z.slots < 2 ^ 29) × (z.ids + z.words + z.slots ≤ 2 ^ 29)

-- one number for each of the two counters
abbrev pub counter_value : Counters → Counter → ℕ
counter_value n Ids = n.ids
counter_value n Words = n.words

-- the counters with another number for one of the two
abbrev pub with_count : Counters → Counter → ℕ → Counters
with_count n Ids x = record n { ids = x }
with_count n Words x = record n { words = x }

-- where a counter ends
abbrev pub end_of : HeapSize → Counter → ℕ
end_of z Ids = z.ids
end_of z Words = z.words

-- the places: the two counters, then the slots of the string table, then two words for each id, then the
-- content words
abbrev pub counter_at : Counter → ℕ
counter_at Ids = 0
counter_at Words = 1

-- the place of slot k of the string table
abbrev pub slot_at : HeapSize → ℕ → ℕ
slot_at z k = 2 + k

-- the place of the form word of id i
abbrev pub form_at : HeapSize → ℕ → ℕ
form_at z i = 2 + z.slots + 2 * i

-- the place of the length word of id i
abbrev pub length_at : HeapSize → ℕ → ℕ
length_at z i = 3 + z.slots + 2 * i

-- the place of content word c
abbrev pub content_at : HeapSize → ℕ → ℕ
content_at z c = 2 + z.slots + 2 * z.ids + c

-- how many words the heap has
abbrev pub word_count : HeapSize → ℕ
word_count z = 2 + z.slots + 2 * z.ids + z.words

-- the words W at these places
abbrev pub next_id : List ℕ → ℕ
next_id W = slice_index W 0

-- the counter of content words: the first one that nobody has claimed
abbrev pub next_word : List ℕ → ℕ
next_word W = slice_index W 1

module _ (z : HeapSize) (W : List ℕ) where
  -- the word of slot k
  abbrev pub slot : ℕ → ℕ
  slot k = slice_index W (slot_at z k)

  -- the form word of id i
  abbrev pub form : ℕ → ℕ
  form i = slice_index W (form_at z i)

  -- the length word of id i
  abbrev pub length_word : ℕ → ℕ
  length_word i = slice_index W (length_at z i)

  -- content word c
  abbrev pub content : ℕ → ℕ
  content c = slice_index W (content_at z c)

  -- an id names a string once its form word is not 0
  abbrev pub IsBorn : ℕ → Type 0
  IsBorn i = (i < z.ids) × (form i ≢ 0)
