-- What is kept at run time beside an agent: which ids it may use, which of them are answers of the string
-- table, what it notes of that table, what it claimed in advance, by which blocks that is renewed, and the
-- numbers by which a join is known to be valid.
use Rattle.std.specs.Prelude.{◌≡◌, ◌⊎◌, ℕ, ◌<◌, List, Contains, Result, Ok, Err}
use Rattle.heap_rule.specs.Maps.{HasKey}
use Rattle.heap_rule.specs.Views.{history}
use Rattle.heap_rule.specs.declared.size.HeapSize.{HeapSize}
use Rattle.heap_rule.specs.declared.view.View.{View}
use Rattle.heap_read.specs.Reads.{Continues}
use Rattle.heap_read.specs.declared.string.JsStr.{JsStr}
use Rattle.heap_reserve.specs.Reserves.{IsReserve}
use Rattle.heap_ids.specs.declared.ids.IdSet.{IdSet}
use Rattle.heap_ids.specs.Sets.{Covers, IsIn}
use Rattle.heap_agents.specs.declared.held.Held.{Held}
use Rattle.heap_agents.specs.Shared.{IsSameText, IsThere, limit_if, share_if, size_if, view_if}
use Rattle.heap_notes.specs.Noted.{AreNoted}
use Rattle.heap_agents.specs.Searched.{KeepsStrings}

-- what its agent knows, its share, the sizes of its heap, and the limit of the strings that it joins
abbrev pub view_by : Held → View
view_by x = view_if x.text

abbrev pub share_by : Held → ℕ
share_by x = share_if x.text

abbrev pub held_size : Held → HeapSize
held_size x = size_if x.text

abbrev pub limit_by : Held → ℕ
limit_by x = limit_if x.text

-- one heap, and one limit
abbrev pub IsSame : Held → Held → Type 0
IsSame x y = IsSameText x.text y.text

-- each marked id is known to the agent, and each that is marked as interned is in a known call of the string
-- table, and is marked as one that may be used
pub record IsMarked (v : View) (usable answered : IdSet) (ids : ℕ) : Type 0 where
  pub known : (i : ℕ) → IsIn usable i → HasKey v.units i
  pub both : (i : ℕ) → IsIn answered i → IsIn usable i
  pub calls : (i : ℕ) → IsIn answered i → (u : List ℕ) × Contains (history v) (u, i)
  pub calls_below : (i : ℕ) → IsIn answered i → i < ids
  pub room : Covers usable ids
  pub calls_room : Covers answered ids

pub record IsHeld (x : Held) : Type 0 where
  pub there : IsThere x.text
  pub agents : x.agents ≡ (view_by x).agents
  pub marked : IsMarked (view_by x) x.known x.interned (held_size x).ids
  pub noted : AreNoted (view_by x) x.seats
  pub reserved : IsReserve (view_by x) x.reserve

-- what was marked stays marked, and an agent keeps its numbers and its blocks
pub record StaysMarked (x y : Held) : Type 0 where
  pub known : (i : ℕ) → IsIn x.known i → IsIn y.known i
  pub interned : (i : ℕ) → IsIn x.interned i → IsIn y.interned i
  pub number : y.number ≡ x.number
  pub giver : y.giver ≡ x.giver
  pub blocks : y.blocks ≡ x.blocks

-- the same, and it has the same in reserve
pub record KeepsMarks (x y : Held) : Type 0 where
  pub known : (i : ℕ) → IsIn x.known i → IsIn y.known i
  pub interned : (i : ℕ) → IsIn x.interned i → IsIn y.interned i
  pub number : y.number ≡ x.number
  pub giver : y.giver ≡ x.giver
  pub reserve : y.reserve ≡ x.reserve
  pub blocks : y.blocks ≡ x.blocks

-- what a call on strings leaves that may claim in advance, or take what was
pub record SpendsReserve (x y : Held) : Type 0 where
  pub held : IsHeld y
  pub same : IsSame x y
  pub continues : Continues (view_by x) (view_by y)
  pub marks : StaysMarked x y

-- what any other call on strings leaves
pub record LeavesStrings (x y : Held) : Type 0 where
  pub held : IsHeld y
  pub same : IsSame x y
  pub continues : Continues (view_by x) (view_by y)
  pub marks : KeepsMarks x y

-- string i is marked, what was marked is so still, and nothing else is
pub record MarksOnly (x y : Held) (i : ℕ) : Type 0 where
  pub known : IsIn y.known i
  pub only : (j : ℕ) → IsIn y.known j → (j ≡ i) ⊎ IsIn x.known j
  pub interned : y.interned ≡ x.interned

-- string i is marked as an answer of the string table, what was marked is so still, and nothing else is
pub record MarksOnlyKey (x y : Held) (i : ℕ) : Type 0 where
  pub known : IsIn y.known i
  pub interned : IsIn y.interned i
  pub only : (j : ℕ) → IsIn y.known j → (j ≡ i) ⊎ IsIn x.known j
  pub only_interned : (j : ℕ) → IsIn y.interned j → (j ≡ i) ⊎ IsIn x.interned j

-- nothing was marked
abbrev pub MarksNothing : Held → Held → Type 0
MarksNothing x y = (y.known ≡ x.known) × (y.interned ≡ x.interned)

-- the answer is marked; a refusal marks nothing
abbrev pub MarksMade : {E : Type 0} → Held → Held → Result JsStr E → Type 0
MarksMade x y (Ok s) = MarksOnly x y s.id
MarksMade x y (Err e) = MarksNothing x y

-- the string s is marked once it is settled; a refusal marks nothing
abbrev pub MarksSettled : {T E : Type 0} → Held → Held → ℕ → Result T E → Type 0
MarksSettled x y s (Ok t) = MarksOnly x y s
MarksSettled x y s (Err e) = MarksNothing x y

-- what a search leaves
pub record LeavesSearched (x y : Held) : Type 0 where
  pub held : IsHeld y
  pub same : IsSame x y
  pub strings : KeepsStrings (view_by x) (view_by y)
  pub marks : KeepsMarks x y
  pub marked : MarksNothing x y
