-- The running heap as the machine: what holds between any two steps, and of which kind each step is.
use Rattle.std.specs.Prelude.{◌≡◌, ℕ, ◌+◌}
use mathlib.Core.Option.{none}
use Rattle.atomic_table.specs.Table.{State, Step, step}
use Rattle.heap_rule.specs.declared.view.View.{View}
use Rattle.heap_rule.specs.Kinds.{StepKind, Access, loads, stores, exchanges, place_of, access_of}
use Rattle.heap_rule.specs.Kinds.{view_on_heap, claims_at_once, view_in_turn, MayComeInTurn}
use Rattle.heap_rule.specs.declared.size.Counter.TheVariants.{Ids}
use Rattle.heap_rule.specs.Layout.{counter_at}
use Rattle.heap_rule.specs.Claims.{MayClaimAtOnce}
use Rattle.heap_rule.specs.Sound.{IsSound, AreLegal}
use Rattle.heap_table.specs.declared.rule.HeapKey.{HeapKey}
use Rattle.heap_table.specs.Plays.{AgentSeat}

-- a rule of the table, by which the rule holds of the words and the views whenever no step is under way, and
-- all histories together are legal
abbrev pub IsSoundTable : (HeapKey → State (Unit {0}) View → Type 0) → Type 0
IsSoundTable holds = (k : HeapKey) (s : State (Unit {0}) View) → holds k s
    → IsSound k.size k.agents s.words s.views

-- a rule of the table, by which all histories together are legal whenever no step is under way
abbrev pub IsLegalTable : (HeapKey → State (Unit {0}) View → Type 0) → Type 0
IsLegalTable holds = (k : HeapKey) (s : State (Unit {0}) View) → holds k s → AreLegal s.views

-- the operands of a step on a word: what it stores, or what it expects and what it puts in its place
abbrev pub first_operand : Access → ℕ
first_operand loads = 0
first_operand (stores n) = n
first_operand (exchanges old new) = old

-- the second operand: what a compare-exchange puts in the place of what it expects
abbrev pub second_operand : Access → ℕ
second_operand (exchanges old new) = new
second_operand _ = 0

-- what a play says of a step on the word of a kind, with the operands of that kind: the view becomes what
-- the kind makes of it by the word found; the kind may go by the view
abbrev pub IsOfKindBy : (Step (Unit {0}) → AgentSeat → ℕ → AgentSeat → Type 0) → (View → StepKind) → Type 0
IsOfKindBy tells e = (slots : ℕ) (me me' : AgentSeat) (x : ℕ)
    → tells (step slots (place_of me.0.sizes (e me.0)) (first_operand (access_of (e me.0)))
    (second_operand (access_of (e me.0))) none) me x me' → me'.0 ≡ view_on_heap me.0 (e me.0) x

-- the same for one kind, whatever the view is
abbrev pub IsOfKind : (Step (Unit {0}) → AgentSeat → ℕ → AgentSeat → Type 0) → StepKind → Type 0
IsOfKind tells e = IsOfKindBy tells (λ v. e)

-- What a play says of one compare-exchange of the counter of ids that claims several at once: it is claims
-- of one id each, in turn, each of which may come. They find the word that it finds, and make of the view
-- what it does.
abbrev pub AreClaimsInTurn : (Step (Unit {0}) → AgentSeat → ℕ → AgentSeat → Type 0) → Type 0
AreClaimsInTurn tells = (slots at want : ℕ) (me me' : AgentSeat) (x : ℕ) → MayClaimAtOnce me.0 Ids at want
    → tells (step slots (counter_at Ids) at (at + want) none) me x me'
    → MayComeInTurn me.0 (claims_at_once at want x) x
    × (me'.0 ≡ view_in_turn me.0 (claims_at_once at want x) x)
