-- Interning the units of many lists in one call: how the lists are given, and what is left and answered.
use Rattle.std.specs.Prelude.{◌≡◌, ℕ, suc, ◌+◌, ◌≤◌, ◌⊎◌, List, [], ◌∷◌, drop, slice_range, Option, None}
use Rattle.std.specs.Prelude.{Some, Ok, Err}
use Rattle.heap_rule.specs.Layout.{MAX}
use Rattle.heap_intern.specs.declared.table.faults.TableFull.{TableFull}
use Rattle.heap_agents.specs.declared.held.Held.{Held}
use Rattle.agent_keys.specs.Keys.{InternedUnits}

-- the lists that lie one behind another in us from `from` on, each up to one of these ends
abbrev pub lists_from : ℕ → List ℕ → List ℕ → List (List ℕ)
lists_from from us [] = []
lists_from from us (e ∷ es) = slice_range us from e ∷ lists_from e us es

-- these ends ascend from `from` to n at most, and no list between two of them is longer than a string may be
abbrev pub AreEnds : ℕ → ℕ → List ℕ → Type 0
AreEnds from n [] = Unit {0}
AreEnds from n (e ∷ es) = (from ≤ e) × (e ≤ n) × (e ≤ from + MAX) × AreEnds e n es

-- These lists were interned in turn, up to the first one that was refused, if there is one, with t as the
-- cause; `done` of them were. The ids were `old`: the first `done` are now the answers, the others stayed.
abbrev pub InternedInTurn : Held → Held → List (List ℕ) → List ℕ → List ℕ → ℕ → Option TableFull
    → Type 0
InternedInTurn x y [] old new done t = (y ≡ x) × (new ≡ old) × (done ≡ 0) × (t ≡ None)
InternedInTurn x y (us ∷ lists) old new done t =
    ((f : TableFull) × InternedUnits x y us (Err f) × (new ≡ old) × (done ≡ 0) × (t ≡ Some f))
    ⊎ ((z : Held) × (i : ℕ) × (rest : List ℕ) × (n : ℕ) × InternedUnits x z us (Ok i) × (new ≡ i ∷ rest)
    × (done ≡ suc n) × InternedInTurn z y lists (drop 1 old) rest n t)

-- the same of what lies behind a handle, where something does
abbrev pub InternsInTurn : Option Held → Option Held → List (List ℕ) → List ℕ → List ℕ → ℕ
    → Option TableFull → Type 0
InternsInTurn None _ lists old new done t = ⊥
InternsInTurn (Some x) None lists old new done t = ⊥
InternsInTurn (Some x) (Some y) lists old new done t = InternedInTurn x y lists old new done t
