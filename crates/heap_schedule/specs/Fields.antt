-- The fields of a line: words and numbers, with one space between two of them.
use Rattle.std.specs.Prelude.{◌≡◌, ⊤, ℕ, ◌^◌, Bool, not, ◌&&◌, ◌==◌, nat_lt, if◌then◌else◌, List, [], ◌∷◌}
use Rattle.std.specs.Prelude.{Option, None, Some, Result, Ok, Err, codes, decimal, option_map, bytes_eq}
use Rattle.std.proofs.Common.{Vec, Global}
use Rattle.std.specs.Str.Parse.{digits_value}
use Rattle.heap_schedule.specs.declared.field.Keyword.{Keyword}
use Rattle.heap_schedule.specs.declared.field.Keyword.TheVariants as keyword
use Rattle.heap_schedule.specs.declared.field.Field.{Field}
use Rattle.heap_schedule.specs.declared.field.Field.TheVariants as field
use Rattle.heap_schedule.specs.declared.field.LineFault.{LineFault}
use Rattle.heap_schedule.specs.declared.field.LineFault.TheVariants.{Refused, Memory}

-- The pieces of a text between its separators: one more than there are separators.
abbrev pub onto_first : ℕ → List (List ℕ) → List (List ℕ)
onto_first c [] = (c ∷ []) ∷ []
onto_first c (p ∷ ps) = (c ∷ p) ∷ ps

abbrev pub fields_between : ℕ → List ℕ → List (List ℕ)
fields_between separator [] = [] ∷ []
fields_between separator (c ∷ cs) = if c == separator then [] ∷ fields_between separator cs
    else onto_first c (fields_between separator cs)

abbrev pub differs : ℕ → ℕ → Bool
differs separator c = not (c == separator)

-- A word, spelled in lower case.
abbrev pub shared_keyword : List ℕ → Option Keyword
shared_keyword bs = if bytes_eq bs (codes "heap") then Some keyword.Heap else (
    if bytes_eq bs (codes "split") then Some keyword.Split else (
    if bytes_eq bs (codes "join") then Some keyword.Join else (
    if bytes_eq bs (codes "counter") then Some keyword.Counter else (
    if bytes_eq bs (codes "claim") then Some keyword.Claim else (
    if bytes_eq bs (codes "ids") then Some keyword.Ids else (
    if bytes_eq bs (codes "words") then Some keyword.Words else (
    None)))))))

abbrev pub own_keyword : List ℕ → Option Keyword
own_keyword bs = if bytes_eq bs (codes "store") then Some keyword.Store else (
    if bytes_eq bs (codes "length") then Some keyword.Length else (
    if bytes_eq bs (codes "birth") then Some keyword.Birth else (
    if bytes_eq bs (codes "form") then Some keyword.Form else (
    if bytes_eq bs (codes "len") then Some keyword.Len else (
    if bytes_eq bs (codes "word") then Some keyword.Word else (
    None))))))

abbrev pub slot_keyword : List ℕ → Option Keyword
slot_keyword bs = if bytes_eq bs (codes "flatten") then Some keyword.Flatten else (
    if bytes_eq bs (codes "thin") then Some keyword.Thin else (
    if bytes_eq bs (codes "slot") then Some keyword.Slot else (
    if bytes_eq bs (codes "take") then Some keyword.Take else (
    if bytes_eq bs (codes "enter") then Some keyword.Enter else (
    if bytes_eq bs (codes "learn") then Some keyword.Learn else (
    None))))))

abbrev pub first_keyword : Option Keyword → Option Keyword → Option Keyword
first_keyword None other = other
first_keyword (Some word) other = Some word

abbrev pub schedule_keyword : List ℕ → Option Keyword
schedule_keyword bs = first_keyword (shared_keyword bs) (first_keyword (own_keyword bs) (slot_keyword bs))

-- A number below 2^64, by its decimal digits: no sign, no zero in front, and nothing else.
abbrev pub decimal_number : List ℕ → Option ℕ
decimal_number bs = if nat_lt (digits_value 10 bs) (2 ^ 64) && bytes_eq bs (decimal (digits_value 10 bs))
    then Some (digits_value 10 bs) else None

abbrev pub field_by : Option Keyword → Option ℕ → Option Field
field_by (Some word) number = Some (field.Keyword word)
field_by None (Some number) = Some (field.Number number)
field_by None None = None

abbrev pub field_of : List ℕ → Option Field
field_of bs = field_by (schedule_keyword bs) (decimal_number bs)

-- all of them, or none where one isn't there
abbrev pub in_front : {A : Type 0} → Option A → Option (List A) → Option (List A)
in_front (Some x) (Some xs) = Some (x ∷ xs)
in_front (Some x) None = None
in_front None xs = None

abbrev pub all_fields : List (List ℕ) → Option (List Field)
all_fields [] = Some []
all_fields (p ∷ ps) = in_front (field_of p) (all_fields ps)

-- the space
abbrev pub line_fields : List ℕ → Option (List Field)
line_fields line = all_fields (fields_between 32 line)

-- A result of reading is what there is to be read; it is a refusal where nothing is.
abbrev pub GivesReading : {A B : Type 0} → (A → B) → Result A LineFault → Option B → Type 0
GivesReading f (Ok a) wanted = wanted ≡ Some (f a)
GivesReading f (Err Refused) wanted = wanted ≡ None
GivesReading f (Err Memory) wanted = ⊤

abbrev pub GivesAll : Result (Vec Field Global) LineFault → Option (List Field) → Type 0
GivesAll r wanted = GivesReading (λ fields. fields.items) r wanted
