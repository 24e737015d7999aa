-- Flattening a Cons and thinning a string to an internalized one: the two compare-exchanges that move a
-- header.
use Rattle.std.specs.Prelude.{◌≡◌, ℕ, ◌+◌, ◌*◌, ◌^◌, ◌<◌, ◌≤◌, ◌==◌, false, if◌then◌else◌, List, [], length}
use Rattle.std.specs.Prelude.{unwrap_or, Option, Some, None}
use Rattle.std.specs.FinMap.{get, insert}
use Rattle.js_units.specs.Lanes.{words_over, lane_count}
use Rattle.js_header.specs.Form.{word_of, form_of}
use Rattle.js_header.specs.declared.form.Form.{Form}
use Rattle.js_header.specs.declared.form.Form.TheVariants.{Flat, Sliced, Thin}
use Rattle.heap_rule.specs.declared.view.View.{View}
use Rattle.heap_rule.specs.Contents.{span, lane_in}
use Rattle.heap_rule.specs.Maps.{Has, HasKey}
use Rattle.heap_rule.specs.Forms.{IsCons}
use Rattle.heap_rule.specs.Views.{shown_word}
use Rattle.heap_rule.specs.Births.{freeze_form}

-- the form that is there after a compare-exchange of a header; only a load meets the ids that it names
abbrev pub seen_form : View → ℕ → Option Form → View
seen_form v i None = v
seen_form v i (Some f) = record v { forms = insert v.forms i f }

-- flattening: the string was seen as the Cons `old`; the new form is a Flat, not fixed, whose words are all
-- own, show the string's units, and are 0 past them
abbrev pub MayFlatten : View → ℕ → Form → Form → Type 0
MayFlatten v i old (Flat wide start false) = Has v.forms i old × IsCons old × (start < 2 ^ 29)
    × ((us : List ℕ) × Has v.units i us
    × ((c : ℕ) → start ≤ c → c < start + words_over wide (length us) → HasKey v.own_words c)
    × ((o : ℕ) → length us ≤ o → o < words_over wide (length us) * lane_count wide
    → lane_in (shown_word v) wide start o ≡ 0)
    × (span (shown_word v) wide start 0 (length us) ≡ us))
MayFlatten v i old _ = ⊥

-- the compare-exchange of the form word from a Cons to a Flat: it is there and its words are frozen, or the
-- form that was found is seen
abbrev pub flattened : View → ℕ → Form → Form → ℕ → View
flattened v i old new x = if x == word_of old
    then (let w : View = freeze_form v (length (unwrap_or (get v.units i) [])) new
    in record w { forms = insert v.forms i new })
    else seen_form v i (form_of x)

-- thinning: the string was seen as a Sliced, or as a Flat that is not fixed, and t is in a slot and has the
-- same units
abbrev pub CanThin : Form → Type 0
CanThin (Flat wide start false) = Unit {0}
CanThin (Sliced wide parent offset) = Unit {0}
CanThin _ = ⊥

-- the string i may be made a Thin of the string t
abbrev pub MayThin : View → ℕ → Form → ℕ → Type 0
MayThin v i old t = Has v.forms i old × CanThin old × ((k : ℕ) × Has v.slots k t)
    × ((us : List ℕ) × Has v.units i us × Has v.units t us)

-- the compare-exchange of the form word to a Thin: it is seen, or the form that was found
abbrev pub thinned : View → ℕ → Form → ℕ → ℕ → View
thinned v i old t x = seen_form v i (if x == word_of old then Some (Thin t) else form_of x)
