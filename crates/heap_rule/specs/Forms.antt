-- What is said of the form of a string alone.
use Rattle.std.specs.Prelude.{ℕ, ◌<◌, Bool, true, false, IsTrue, if◌then◌else◌, List, All, Option, Some, None}
use Rattle.js_header.specs.declared.form.Form.{Form}
use Rattle.js_header.specs.declared.form.Form.TheVariants.{Flat, Cons, Sliced, Thin}

-- the form is a Cons (V8's ConsString)
abbrev pub IsCons : Form → Type 0
IsCons (Cons wide left right) = Unit {0}
IsCons _ = ⊥

-- the form is a Sliced (V8's SlicedString)
abbrev pub IsSliced : Form → Type 0
IsSliced (Sliced wide parent offset) = Unit {0}
IsSliced _ = ⊥

-- a form that shows content words, its own or those of a fixed Flat
abbrev pub IsSolid : Form → Type 0
IsSolid (Flat wide start fixed) = Unit {0}
IsSolid (Thin target) = Unit {0}
IsSolid _ = ⊥

-- there is a form, and it is a Flat or a Thin
abbrev pub IsSolidForm : Option Form → Type 0
IsSolidForm None = ⊥
IsSolidForm (Some f) = IsSolid f

abbrev pub is_thin : Form → Bool
is_thin (Thin target) = true
is_thin _ = false

-- the second form may come after the first: Cons, Flat not fixed, Thin; or Sliced, Thin
abbrev pub is_later : Form → Form → Bool
is_later (Cons wide left right) (Flat w start false) = true
is_later (Cons wide left right) (Thin target) = true
is_later (Flat wide start false) (Thin target) = true
is_later (Sliced wide parent offset) (Thin target) = true
is_later _ _ = false

-- the form g may come after the form f
abbrev pub IsLater : Form → Form → Type 0
IsLater f g = IsTrue (is_later f g)

-- of two forms of an id the later one, and the first where neither is later
abbrev pub later_form : Option Form → Form → Form
later_form None g = g
later_form (Some f) g = if is_later f g then g else f

-- a form without the wide bit has one-byte units alone
abbrev pub IsNarrow : Bool → List ℕ → Type 0
IsNarrow true us = Unit {0}
IsNarrow false us = All (λ u. u < 256) us
