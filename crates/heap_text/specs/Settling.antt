-- What settling a string answers.
use Rattle.std.specs.Prelude.{◌≡◌, ℕ, ◌+◌, ◌*◌, ◌++◌, ◌<◌, ◌≤◌, ◌⊎◌, Bool, false, List, length}
use Rattle.std.specs.Prelude.{Result, IfOk, IfErr, IsOk}
use Rattle.js_units.specs.Lanes.{words_over}
use Rattle.js_header.specs.declared.form.Form.{Form}
use Rattle.js_header.specs.declared.form.Form.TheVariants.{Cons, Flat}
use Rattle.heap_rule.specs.declared.size.HeapSize.{HeapSize}
use Rattle.heap_rule.specs.declared.view.View.{View}
use Rattle.heap_rule.specs.Forms.{IsLater, IsNarrow}
use Rattle.heap_rule.specs.Maps.{Has, HasKey}
use Rattle.heap_rule.specs.Views.{IsSeenSettled}
use Rattle.heap_table.specs.declared.claims.CounterFull.{CounterFull}
use Rattle.heap_text.specs.declared.faults.TextFull.{TextFull}
use Rattle.heap_text.specs.declared.faults.TextFull.TheVariants.{Words}
use Rattle.heap_read.specs.Reads.{OnlyLoads}
use Rattle.heap_text.specs.Texts.{IsSpared, KeepsOwn, LacksRoom, UsesExactly}

-- Two strings that are known, neither of them empty, with smaller numbers than i,
-- have the units us between them.
pub record HasSides (w : View) (i : ℕ) (us : List ℕ) : Type 0 where
  pub left : ℕ
  pub right : ℕ
  pub below : (left < i) × (right < i)
  pub front : List ℕ
  pub back : List ℕ
  pub left_units : Has w.units left front
  pub right_units : Has w.units right back
  pub left_some : 0 < length front
  pub right_some : 0 < length back
  pub joined : us ≡ front ++ back

-- A Cons with this wide bit became flat. The content words that were claimed were not the agent's own before.
-- They are those of the Flat, which has the wide bit of the Cons; or they stay the agent's own, where another
-- agent's Flat is there. What was own is so still.
pub record IsFlattened (v w : View) (i : ℕ) (us : List ℕ) (wide : Bool) : Type 0 where
  pub narrow : IsNarrow wide us
  pub used : UsesExactly v w 0 (words_over wide (length us))
  pub own_ids : w.own_ids ≡ v.own_ids
  pub own_words : (c : ℕ) → HasKey v.own_words c → HasKey w.own_words c
  pub sides : HasSides w i us
  pub words : (start : ℕ) × ((q : ℕ) → q < words_over wide (length us) → HasKey v.own_words (start + q) → ⊥)
      × (Has w.forms i (Flat wide start false)
      ⊎ ((q : ℕ) → q < words_over wide (length us) → HasKey w.own_words (start + q)))

-- the wide bit is that of the Cons, where the string was seen as one
abbrev pub IsBitOf : View → ℕ → Bool → Type 0
IsBitOf v i wide = (seen : Bool) (left right : ℕ) → Has v.forms i (Cons seen left right) → wide ≡ seen

-- the form that was seen of the string is the one that the view has now, or an earlier one
abbrev pub IsSeenLater : View → View → ℕ → Type 0
IsSeenLater v w i = (f : Form) → Has v.forms i f → (g : Form) × Has w.forms i g × ((f ≡ g) ⊎ IsLater f g)

-- no Cons was loaded, and nothing used; or a Cons was, and became flat with its wide bit
abbrev pub IsSettling : View → View → ℕ → List ℕ → Type 0
IsSettling v w i us = OnlyLoads v w ⊎ ((wide : Bool) × IsBitOf v i wide × IsFlattened v w i us wide)

-- a Cons with this wide bit was to become flat, and the content words for it were refused
pub record IsNoRoom (v w : View) (z : HeapSize) (us : List ℕ) (f : TextFull) (wide : Bool) : Type 0 where
  pub narrow : IsNarrow wide us
  pub words : (full : CounterFull) × (f ≡ Words full)
  pub told : LacksRoom w z (words_over wide (length us)) f
  pub spared : IsSpared v w (words_over wide (length us)) f

-- String i was settled, or could not be, with r as the answer, on a heap of the sizes z. What was own is so
-- still. Where the answer is Ok, the string is seen settled, and nothing but its Flat was made. Where content
-- words were refused, a Cons was to become flat, whose two sides are known. A string that was seen settled
-- before is answered by loads alone.
pub record Settles {A : Type 0} (v w : View) (z : HeapSize) (i : ℕ) (r : Result A TextFull) : Type 0 where
  pub own : KeepsOwn v w
  pub settled : IfOk r (λ u. IsSeenSettled w i)
  pub used : IfOk r (λ u. (us : List ℕ) → Has v.units i us → IsSettling v w i us)
  pub refused : IfErr r (λ f. (us : List ℕ) → Has v.units i us
      → (wide : Bool) × IsBitOf v i wide × IsNoRoom v w z us f wide)
  pub rope : IfErr r (λ f. (us : List ℕ) → Has v.units i us → HasSides w i us)
  pub again : IsSeenSettled v i → IsOk r × OnlyLoads v w
  pub later : IsSeenSettled v i → IsSeenLater v w i

-- for n units, more than none, at most 8n form words were loaded
abbrev pub LoadsFewFor : View → View → ℕ → Type 0
LoadsFewFor v w i = (us : List ℕ) → Has v.units i us → 0 < length us
    → w.form_loads ≤ v.form_loads + 8 * length us
