-- What births and the two compare-exchanges of a header ask of a view, as the code tests it.
use Rattle.std.specs.Prelude.{◌≡◌, ℕ, ◌+◌, ◌*◌, ◌^◌, ◌<◌, ◌≤◌, ◌⊎◌, Bool, List, ◌++◌, length, Some}
use Rattle.js_units.specs.Lanes.{words_over, lane_count}
use Rattle.js_header.specs.declared.form.Form.{Form}
use Rattle.js_header.specs.declared.form.Form.TheVariants.{Sliced}
use Rattle.heap_rule.specs.declared.view.View.{View}
use Rattle.heap_rule.specs.Contents.{span, lane_in}
use Rattle.heap_rule.specs.Maps.{Has, HasKey}
use Rattle.heap_rule.specs.Forms.{IsCons, IsSliced, IsLater, IsNarrow}
use Rattle.heap_rule.specs.Views.{shown_word}
use Rattle.heap_rule.specs.Births.{shown_part}

-- the words of a Flat from `start` on are own, show the units, and are 0 past them
abbrev pub Spells : View → List ℕ → Bool → ℕ → Type 0
Spells v us wide start =
    (start < 2 ^ 29) × ((c : ℕ) → start ≤ c → c < start + words_over wide (length us) → HasKey v.own_words c)
    × ((o : ℕ) → length us ≤ o → o < words_over wide (length us) * lane_count wide
    → lane_in (shown_word v) wide start o ≡ 0)
    × (span (shown_word v) wide start 0 (length us) ≡ us)

abbrev pub SpellsUnits : View → ℕ → Bool → ℕ → Type 0
SpellsUnits v i wide start = (us : List ℕ) × Has v.units i us × Spells v us wide start

-- two lists that a Cons of n units may join
abbrev pub Join : List ℕ → List ℕ → ℕ → Bool → Type 0
Join a b n wide = (1 ≤ length a) × (1 ≤ length b) × (length a + length b ≡ n) × IsNarrow wide (a ++ b)

abbrev pub HasJoin : View → ℕ → ℕ → ℕ → Bool → Type 0
HasJoin v left right n wide =
    (a : List ℕ) × (b : List ℕ) × Has v.units left a × Has v.units right b × Join a b n wide

-- seen with another form than Cons and Sliced
abbrev pub IsWhole : View → ℕ → Type 0
IsWhole v p = (f : Form) × Has v.forms p f × (IsCons f → ⊥) × (IsSliced f → ⊥)

-- a Sliced of the string p
abbrev pub IsCut : ℕ → Form → Type 0
IsCut p f = (wide : Bool) × (offset : ℕ) × (f ≡ Sliced wide p offset)

abbrev pub HasPart : View → ℕ → ℕ → ℕ → Bool → Type 0
HasPart v p o n wide = (us : List ℕ) × (shown_part v p o n ≡ Some us) × IsNarrow wide us

-- one of two forms that come after one another is there,`old` or a later one
abbrev pub IsSameOrLater : Form → Form → Type 0
IsSameOrLater old stands = (old ≡ stands) ⊎ IsLater old stands
