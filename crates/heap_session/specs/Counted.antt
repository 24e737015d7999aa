-- What a session counts of the loads of slots, and what it found where it was refused.
use Rattle.std.specs.Prelude.{◌≡◌, ℕ, ◌⊎◌, Bool, List, Option, Some, None, Result, Ok, Err}
use Rattle.js_store.specs.declared.faults.FullReport.TheVariants.{Ids, Words}
use Rattle.js_store.specs.declared.faults.StoreFault.{StoreFault}
use Rattle.js_store.specs.declared.faults.StoreFault.TheVariants.{Full}
use Rattle.heap_rule.specs.declared.view.View.{View}
use Rattle.heap_rule.specs.Views.{IsSeenSettled}
use Rattle.heap_intern.specs.declared.table.faults.TableFull.{TableFull}
use Rattle.heap_intern.specs.Answers.{HasLeft, IsFoundAgain, IsOpen, IsPlan, IsInternRefused, HeaderPlan}
use Rattle.heap_intern.specs.Answers.{StandsInSlot}
use Rattle.heap_session.specs.Faults.{fault_in_table, fault_in_text}
use Rattle.heap_read.specs.declared.string.JsStr.{JsStr}
use Rattle.heap_text.specs.declared.faults.TextFull.{TextFull}
use Rattle.heap_text.specs.declared.faults.TextFull.TheVariants as text
use Rattle.heap_text.specs.Settling.{IsBitOf, IsNoRoom, IsSettling}

-- the number of the answer, if there is one
abbrev pub answered_string : Result JsStr StoreFault → Option ℕ
answered_string (Ok s) = Some s.id
answered_string (Err f) = None

abbrev pub string_id : Option JsStr → Option ℕ
string_id (Some s) = Some s.id
string_id None = None

-- An id is requested only for a slot that was found free behind slots that were compared with the units, and
-- so are words, but for those of a string that had to be settled,
-- which were refused before any slot was loaded.
abbrev pub FoundFree : View → View → List ℕ → Option StoreFault → Type 0
FoundFree v w us (Some (Full (Ids at want end))) = IsOpen w us
FoundFree v w us (Some (Full (Words at want end))) = IsOpen w us
    ⊎ ((w.slot_loads ≡ v.slot_loads) × (wide : Bool)
    × IsNoRoom v w w.sizes us (text.Words (record { at = at; want = want; end = end })) wide)
FoundFree v w us _ = Unit {0}

-- What the call used went for the header of the plan. The answer is in the table,
-- and a refusal is one of the string table.
abbrev pub LeavesBy : View → View → List ℕ → HeaderPlan → Result JsStr StoreFault → Type 0
LeavesBy v w us plan (Ok s) = HasLeft v w us plan × StandsInSlot w us s.id
LeavesBy v w us plan (Err f) = (full : TableFull) × (f ≡ fault_in_table full)
    × IsInternRefused v w us plan full

-- Interned by a plan: a header over the words and with the wide bit of a Flat, or over a copy, for a part of
-- another. Whoever has seen the string with these units in the table is answered, and uses nothing.
abbrev pub IsInternedBy : View → View → ℕ → List ℕ → Result JsStr StoreFault → Type 0
IsInternedBy v w id us r = (plan : HeaderPlan) × IsPlan v w id us plan × LeavesBy v w us plan r
    × IsFoundAgain v w us r

-- the string had to be settled, and the content words for that were refused before any slot was loaded
abbrev pub IsNotSettled : View → View → ℕ → List ℕ → Result JsStr StoreFault → Type 0
IsNotSettled v w id us (Ok s) = ⊥
IsNotSettled v w id us (Err f) = (full : TextFull) × (f ≡ fault_in_text full) × (w.slot_loads ≡ v.slot_loads)
    × (wide : Bool) × IsBitOf v id wide × IsNoRoom v w w.sizes us full wide

-- A string that was settled is interned by a plan. Any other is settled first, and then interned by one,
-- or not settled.
abbrev pub GoesByPlan : View → View → ℕ → List ℕ → Result JsStr StoreFault → Type 0
GoesByPlan v w id us r = (IsSeenSettled v id → IsInternedBy v w id us r)
    × (((m : View) × IsSettling v m id us × IsSeenSettled m id × IsInternedBy m w id us r)
    ⊎ IsNotSettled v w id us r)
