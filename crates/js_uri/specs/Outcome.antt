-- What encoding or decoding a list of units comes to: a list, or the place of the unit that is malformed.
use Rattle.std.specs.Prelude.{ℕ, ◌+◌, List, [], ◌++◌, length, Result, Ok, Err}

abbrev pub UriOutcome : Type 0
UriOutcome = Result (List ℕ) ℕ

-- n units that denote others, before units that come to an outcome: its list goes behind the others,
-- its place counts on
abbrev pub uri_after : ℕ → List ℕ → UriOutcome → UriOutcome
uri_after n us (Ok vs) = Ok (us ++ vs)
uri_after n us (Err at) = Err (n + at)

-- how many units the list has
abbrev pub measure : UriOutcome → Result ℕ ℕ
measure (Ok us) = Ok (length us)
measure (Err at) = Err at

-- the list, where there is one
abbrev pub units : UriOutcome → List ℕ
units (Ok us) = us
units (Err at) = []

-- one after the other
abbrev pub uri_and_then : UriOutcome → (List ℕ → UriOutcome) → UriOutcome
uri_and_then (Ok us) f = f us
uri_and_then (Err at) f = Err at
