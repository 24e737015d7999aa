-- What a URI function answers.
use Rattle.std.specs.Prelude.{◌≡◌, ℕ, ◌<◌, ◌≤◌, length, Option, Some, None, Result, Ok, Err}
use Rattle.js_store.specs.State.{State, NamesUnits}
use Rattle.js_store.specs.declared.faults.StoreFault.{StoreFault}
use Rattle.js_store.specs.declared.faults.StoreFault.TheVariants.{Full, Memory}
use Rattle.js_texts.specs.Use.{made_words}
use Rattle.js_texts.specs.declared.faults.Cause.TheVariants.{TooLong as Length}
use Rattle.js_uri.specs.declared.faults.UriFault.{UriFault}
use Rattle.js_uri.specs.declared.faults.UriFault.TheVariants.{Malformed, RangeError, Store}
use Rattle.js_uri.specs.Outcome.{UriOutcome}

-- the number denotes the list of the outcome, so there is one
abbrev pub HasUriOutcome : {F : Type 0} → State F → ℕ → UriOutcome → Type 0
HasUriOutcome s n (Ok us) = NamesUnits s n us
HasUriOutcome s n (Err at) = ⊥

-- a fault other than the store's: Malformed exactly where the units are, with the place; and RangeError
-- exactly where the list is longer than the limit, with its length
abbrev pub IsThrown : UriFault → ℕ → UriOutcome → Type 0
IsThrown (Malformed at) limit (Ok us) = ⊥
IsThrown (Malformed at) limit (Err place) = at ≡ place
IsThrown (RangeError c) limit (Ok us) = (limit < length us) × (c ≡ Length (length us))
IsThrown (RangeError c) limit (Err place) = ⊥
IsThrown (Store f) limit r = Unit {0}

abbrev pub IsUriWithin : ℕ → UriOutcome → Type 0
IsUriWithin limit (Ok us) = length us ≤ limit
IsUriWithin limit (Err at) = ⊥

abbrev pub ThrowsUriError : {R : Type 0} → Result R UriFault → ℕ → UriOutcome → Type 0
ThrowsUriError (Ok r) limit o = IsUriWithin limit o
ThrowsUriError (Err f) limit o = IsThrown f limit o

-- the report of a call that may find no memory itself: its own lack of memory says nothing of the store
abbrev pub uri_full_part : UriFault → Option StoreFault
uri_full_part (Malformed at) = None
uri_full_part (RangeError c) = None
uri_full_part (Store (Full r)) = Some (Full r)
uri_full_part (Store Memory) = None

abbrev pub uri_full_of : {R : Type 0} → Result R UriFault → Option StoreFault
uri_full_of (Ok r) = None
uri_full_of (Err f) = uri_full_part f

-- the words of a new string of the list; nothing is made of units that are malformed or of a list that is too
-- long
abbrev pub outcome_words : ℕ → UriOutcome → ℕ
outcome_words limit (Ok us) = made_words limit us
outcome_words limit (Err at) = 0
