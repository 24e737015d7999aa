-- Looking for units before anything is claimed for them, and going on from there.
use Rattle.std.specs.Prelude.{◌≡◌, ◌≢◌, ℕ, ◌+◌, ◌<◌, ◌≤◌, IsTrue, List, Option, Some, None}
use Rattle.std.specs.FinMap.{get}
use Rattle.js_units.specs.Lanes.{hash_of}
use Rattle.js_header.specs.declared.form.Form.TheVariants.{Thin}
use Rattle.heap_read.specs.Frozen.{AreFrozen}
use Rattle.heap_rule.specs.declared.view.View.{View}
use Rattle.heap_rule.specs.Maps.{Has}
use Rattle.heap_rule.specs.Paths.{rank}
use Rattle.heap_rule.specs.SlotTests.{shut}
use Rattle.heap_rule.specs.Slots.{IsShutAt}
use Rattle.heap_intern.specs.declared.table.searching.KeySearch.{KeySearch}
use Rattle.heap_intern.specs.declared.table.searching.KeySearch.TheVariants.{Found, Open, Shut}
use Rattle.heap_intern.specs.declared.table.searching.Opening.{Opening}
use Rattle.heap_intern.specs.declared.table.probing.Seat.{Seat}
use Rattle.heap_intern.specs.declared.table.strings.StringOpening.{StringOpening}
use Rattle.heap_intern.specs.declared.table.strings.StringSearch.{StringSearch}
use Rattle.heap_intern.specs.declared.table.strings.StringSearch.TheVariants as found
use Rattle.heap_intern.specs.Answers.{HeaderPlan, IsForwarded, IsFound, IsPlan}
use Rattle.heap_intern.specs.Given.{FindsGiven}
use Rattle.heap_intern.specs.Headers.{header_plan}
use Rattle.heap_intern.specs.Seeking.{IsSought}
use Rattle.heap_intern.specs.SlotLoads.{loads_at}

-- An opening for the units us: a slot that is not known to be used, with its rank on the path of us, where
-- each slot before it is known to be used by a string that differs; and what the units hash to.
pub record IsOpening (v : View) (us : List ℕ) (o : Opening) : Type 0 where
  pub hash : o.hash ≡ hash_of us
  pub inside : o.slot < v.sizes.slots
  pub at : rank us v.sizes.slots o.slot ≡ o.rank
  pub passed : (j : ℕ) → j < v.sizes.slots → rank us v.sizes.slots j < o.rank → IsShutAt v us j
  pub free : get v.slots o.slot ≡ None

-- the string that was found, if any
abbrev pub found_key : KeySearch → Option ℕ
found_key (Found s) = Some s.id
found_key (Open o) = None
found_key (Shut n) = None

-- the same with its slot
abbrev pub seat_found : KeySearch → Option Seat
seat_found (Found s) = Some s
seat_found (Open o) = None
seat_found (Shut n) = None

-- up to the opening each slot was loaded at most once, and none behind it
pub record LoadsUpTo (v w : View) (us : List ℕ) (o : Opening) : Type 0 where
  pub once : (k : ℕ) → loads_at w k ≤ loads_at v k + 1
  pub ahead : (k : ℕ) → o.rank < rank us w.sizes.slots k → loads_at w k ≡ loads_at v k

-- from the opening on each slot was loaded at most twice, and once up to it
pub record LoadsFrom (v w : View) (us : List ℕ) (o : Opening) : Type 0 where
  pub once : (k : ℕ) → rank us v.sizes.slots k ≤ o.rank → loads_at w k ≤ loads_at v k + 1
  pub most : (k : ℕ) → loads_at w k ≤ loads_at v k + 2

abbrev pub EndsSearch : View → View → List ℕ → KeySearch → Type 0
EndsSearch v w us (Found s) = Unit {0}
EndsSearch v w us (Open o) = IsOpening w us o × LoadsUpTo v w us o
EndsSearch v w us (Shut n) = (n ≡ w.sizes.slots) × IsTrue (shut w us w.sizes.slots)

-- The units us were looked for: their string was found, or there is an opening for them, or every slot is
-- known to be used by a string that differs. Nothing was used.
pub record SearchesKey (v w : View) (us : List ℕ) (s : KeySearch) : Type 0 where
  pub finds : FindsGiven v w us (found_key s)
  pub ends : EndsSearch v w us s

-- An opening for the units us of the string that was sought, which doesn't forward; how wide the header is
-- that it needs, and how many content words that uses.
pub record IsStringOpening (v : View) (us : List ℕ) (o : StringOpening) : Type 0 where
  pub sought : IsSought v o.sought
  pub units : Has v.units o.sought.id us
  pub frozen : AreFrozen v o.sought.window
  pub alone : (t : ℕ) → o.sought.form ≢ Thin t
  pub wide : o.wide ≡ (header_plan o.sought us).wide
  pub words : o.words ≡ (header_plan o.sought us).words
  pub opening : IsOpening v us o.opening

-- the plan of that header
abbrev pub opening_plan : StringOpening → List ℕ → HeaderPlan
opening_plan o us = header_plan o.sought us

-- the same search, of the units of the string
abbrev pub key_search : StringSearch → KeySearch
key_search (found.Found s) = Found s
key_search (found.Open o) = Open o.opening
key_search (found.Shut n) = Shut n

-- the string that was found, with its slot
abbrev pub found_seat : StringSearch → Option Seat
found_seat (found.Found s) = Some s
found_seat (found.Open o) = None
found_seat (found.Shut n) = None

-- The plan goes by the form that was loaded of string id. Where the string of its units was found, it
-- forwards to that, unless it is a fixed Flat.
abbrev pub PlansSearch : View → View → ℕ → List ℕ → StringSearch → HeaderPlan → Type 0
PlansSearch v w id us (found.Found s) plan = IsPlan v w id us plan × IsForwarded w id s.id
PlansSearch v w id us (found.Open o) plan = (o.sought.id ≡ id) × IsFound v id o.sought.form
    × (plan ≡ opening_plan o us) × IsStringOpening w us o
PlansSearch v w id us (found.Shut n) plan = IsPlan v w id us plan

-- The units us of string id were looked for.
pub record SearchesString (v w : View) (id : ℕ) (us : List ℕ) (s : StringSearch) : Type 0 where
  pub searched : SearchesKey v w us (key_search s)
  pub plan : HeaderPlan
  pub planned : PlansSearch v w id us s plan
