-- The rule of the table: the rule that every step of the machine keeps, and what the agents have seen of a
-- string is of one line.
use Rattle.std.specs.Prelude.{ℕ, List}
use Rattle.atomic_table.specs.Table.{State}
use Rattle.js_header.specs.declared.form.Form.{Form}
use Rattle.js_header.specs.declared.form.Form.TheVariants.{Cons, Sliced}
use Rattle.heap_rule.specs.declared.view.View.{View}
use Rattle.heap_rule.specs.Maps.{Has}
use Rattle.heap_rule.specs.Sound.{EachLive, IsSound}
use Rattle.heap_table.specs.declared.rule.HeapKey.{HeapKey}

-- Two forms that one string may have had: not a Cons the one and a Sliced the other, since neither ever
-- becomes the other.
abbrev pub AreOfOneLine : Form → Form → Type 0
AreOfOneLine (Cons wide left right) (Sliced w parent offset) = ⊥
AreOfOneLine (Sliced wide parent offset) (Cons w left right) = ⊥
AreOfOneLine _ _ = Unit {0}

-- so of any two live views, whatever they have of one string
abbrev pub AreSeenAlike : List View → Type 0
AreSeenAlike vs = EachLive vs
    (λ _ v. EachLive vs (λ _ w. (i : ℕ) (f g : Form) → Has v.forms i f → Has w.forms i g → AreOfOneLine f g))

-- the rule holds of the words and the views, and what two views have of a string is of one line
abbrev pub KeepsHeap : HeapKey → State (Unit {0}) View → Type 0
KeepsHeap k s = IsSound k.size k.agents s.words s.views × AreSeenAlike s.views
