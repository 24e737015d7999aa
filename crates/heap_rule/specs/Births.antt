-- How a string comes to be: own content words and an own length are stored, and then its form word is, which
-- is its birth.
use Rattle.std.specs.Prelude.{◌≡◌, ℕ, ◌+◌, ◌-◌, ◌*◌, ◌^◌, ◌<◌, ◌≤◌, ◌⊎◌, ◌==◌, nat_le, ◌&&◌, Bool}
use Rattle.std.specs.Prelude.{if◌then◌else◌, List, [], ◌++◌, take, drop, length, unwrap_or, Option, Some}
use Rattle.std.specs.Prelude.{None}
use Rattle.std.specs.FinMap.{get, insert, remove, keys}
use Rattle.js_units.specs.Lanes.{words_over, lane_count}
use Rattle.js_header.specs.declared.form.Form.{Form}
use Rattle.js_header.specs.declared.form.Form.TheVariants.{Flat, Cons, Sliced}
use Rattle.heap_rule.specs.declared.view.View.{View}
use Rattle.heap_rule.specs.Layout.{MAX}
use Rattle.heap_rule.specs.Contents.{span, lane_in}
use Rattle.heap_rule.specs.Maps.{Has, HasKey, without_run, with_run_of, first_some, first_in}
use Rattle.heap_rule.specs.Forms.{IsCons, IsSliced, IsNarrow}
use Rattle.heap_rule.specs.Views.{shown_word}

-- storing an own content word
abbrev pub stored_word : View → ℕ → ℕ → View
stored_word v c word = record v { own_words = insert v.own_words c word }

-- storing an own length
abbrev pub MayStoreLength : View → ℕ → ℕ → Type 0
MayStoreLength v i n = HasKey v.own_ids i × (n ≤ MAX)

-- the own id i has the length n stored
abbrev pub stored_length : View → ℕ → ℕ → View
stored_length v i n = record v { own_ids = insert v.own_ids i n }

-- the n units from o on
abbrev pub part : ℕ → ℕ → List ℕ → List ℕ
part o n us = take n (drop o us)

-- the n units of a whole from o on, by a stretch us of it that begins at `offset`; none where the stretch has
-- not all of them
abbrev pub part_within : ℕ → ℕ → ℕ → Option (List ℕ) → Option (List ℕ)
part_within o n offset None = None
part_within o n offset (Some us) =
    if nat_le offset o && nat_le (o + n) (offset + length us) then Some (part (o - offset) n us) else None

-- the part of p, of n units from o on, by what the view has of a Sliced j of p; none where j is no Sliced of
-- p, or its units don't hold all of it
abbrev pub part_by : View → ℕ → ℕ → ℕ → ℕ → Option Form → Option (List ℕ)
part_by v p o n j (Some (Sliced wide parent offset)) =
    if parent == p then part_within o n offset (get v.units j) else None
part_by v p o n j _ = None

-- the part of p from o on, of n units, as the units of p show it, or those of the first Sliced of p that is
-- long enough
abbrev pub shown_part : View → ℕ → ℕ → ℕ → Option (List ℕ)
shown_part v p o n = first_some (part_within o n 0 (get v.units p))
    (first_in (λ j. part_by v p o n j (get v.forms j)) (keys v.forms))

-- the n units that a form will show, by what the view has
abbrev pub units_for : View → ℕ → Form → List ℕ
units_for v n (Flat wide start fixed) = span (shown_word v) wide start 0 n
units_for v n (Cons wide left right) = unwrap_or (get v.units left) [] ++ unwrap_or (get v.units right) []
units_for v n (Sliced wide parent offset) = unwrap_or (shown_part v parent offset n) []
units_for v n _ = []

-- what a Sliced may be cut from: a settled string that is no Sliced, or the parent of a Sliced
abbrev pub IsParent : View → ℕ → Type 0
IsParent v p = ((f : Form) × Has v.forms p f × (IsCons f → ⊥) × (IsSliced f → ⊥))
    ⊎ ((j : ℕ) × (wide : Bool) × (offset : ℕ) × Has v.forms j (Sliced wide p offset))

-- The form fits the own id i of length n.
-- A Flat: each of its words is own or frozen, its lanes past n are 0, and an empty one starts at 0; lanes
-- that are not wide are below 256 anyhow.
-- A Cons: two known strings with smaller ids, neither empty, of n units together, at least 13.
-- A Sliced: at least 13 units, which the view shows to be a part of a parent with a smaller id.
abbrev pub FormFits : View → ℕ → ℕ → Form → Type 0
FormFits v i n (Flat wide start fixed) = (start < 2 ^ 29)
    × ((c : ℕ) → start ≤ c → c < start + words_over wide n → HasKey v.own_words c ⊎ HasKey v.frozen c)
    × ((o : ℕ) → n ≤ o → o < words_over wide n * lane_count wide → lane_in (shown_word v) wide start o ≡ 0)
    × (n ≡ 0 → start ≡ 0)
FormFits v i n (Cons wide left right) = (left < i) × (right < i) × (13 ≤ n)
    × ((a : List ℕ) × (b : List ℕ) × Has v.units left a × Has v.units right b × (1 ≤ length a)
    × (1 ≤ length b) × (length a + length b ≡ n) × IsNarrow wide (a ++ b))
FormFits v i n (Sliced wide parent offset) = (parent < i) × (13 ≤ n) × IsParent v parent
    × ((us : List ℕ) × (shown_part v parent offset n ≡ Some us) × IsNarrow wide us)
FormFits v i n _ = ⊥

-- the form may be published for the own id i: it fits the length that was stored for it
abbrev pub MayBear : View → ℕ → Form → Type 0
MayBear v i f = (n : ℕ) × Has v.own_ids i n × FormFits v i n f

-- the own ones of n content words become frozen
abbrev pub freeze : View → ℕ → ℕ → View
freeze v c n =
    record v { own_words = without_run v.own_words c n; frozen = with_run_of v.own_words v.frozen c n }

-- the words of a Flat become frozen; another form has none
abbrev pub freeze_form : View → ℕ → Form → View
freeze_form v n (Flat wide start fixed) = freeze v start (words_over wide n)
freeze_form v n _ = v

-- the string i is no longer own, and its form, length and units are known
abbrev pub born_with : View → ℕ → ℕ → Form → View
born_with v i n f = let w : View = freeze_form v n f in record w {
  own_ids = remove v.own_ids i;
  units = insert v.units i (units_for v n f);
  forms = insert v.forms i f;
  lengths = insert v.lengths i n;
}

-- birth: a plain store of the form word
abbrev pub born : View → ℕ → Form → View
born v i f = born_with v i (unwrap_or (get v.own_ids i) 0) f
