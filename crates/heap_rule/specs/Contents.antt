-- The code units of each string of a heap, by its words alone (ECMA-262, "The String Type").
use Rattle.std.specs.Prelude.{ℕ, zero, suc, ◌+◌, ◌/◌, ◌%◌, Bool, true, ◌&&◌, nat_lt, if◌then◌else◌, List}
use Rattle.std.specs.Prelude.{[], ◌∷◌, ◌++◌, take, drop, Option, Some, None}
use Rattle.js_units.specs.Lanes.{lane_count, lane_of}
use Rattle.js_header.specs.Form.{form_of}
use Rattle.js_header.specs.declared.form.Form.{Form}
use Rattle.js_header.specs.declared.form.Form.TheVariants.{Unborn, Flat, Cons, Sliced, Thin}
use Rattle.heap_rule.specs.declared.size.HeapSize.{HeapSize}
use Rattle.heap_rule.specs.Layout.{form, length_word, content}

-- lane o, counted from content word `start`; `words` gives each content word, as a heap has it or as a view
-- knows it
unfoldable pub lane_in : (ℕ → ℕ) → Bool → ℕ → ℕ → ℕ
lane_in words wide start o = lane_of wide (words (start + o / lane_count wide)) (o % lane_count wide)

-- the n lanes from lane o on
abbrev pub span : (ℕ → ℕ) → Bool → ℕ → ℕ → ℕ → List ℕ
span words wide start o zero = []
span words wide start o (suc n) = lane_in words wide start o ∷ span words wide start (suc o) n

-- what one header says of its string: nothing, all its units, or that it joins two strings
pub data Shape : Type 0 where
  blank : Shape
  whole : List ℕ → Shape
  joins : ℕ → ℕ → Shape

module _ (z : HeapSize) (W : List ℕ) where
  -- the units of a fixed Flat
  abbrev pub flat_by : ℕ → Option Form → List ℕ
  flat_by i (Some (Flat wide start true)) = span (content z W) wide start 0 (length_word z W i)
  flat_by i _ = []

  -- the units that the form word of i shows as a fixed Flat; none where it is another form
  abbrev pub flat : ℕ → List ℕ
  flat i = flat_by i (form_of (form z W i))

  -- the units of a Flat, or those of the fixed Flat to which a Thin forwards
  abbrev pub solid_by : ℕ → Option Form → List ℕ
  solid_by i (Some (Flat wide start fixed)) = span (content z W) wide start 0 (length_word z W i)
  solid_by i (Some (Thin target)) = flat target
  solid_by i _ = []

  -- the units that the form word of i shows as a Flat or a Thin; none where it is another form
  abbrev pub solid : ℕ → List ℕ
  solid i = solid_by i (form_of (form z W i))

  -- a Sliced shows the part of its parent from the offset on; a Cons joins two strings with smaller ids
  abbrev pub shape_by : ℕ → Option Form → Shape
  shape_by i None = blank
  shape_by i (Some Unborn) = blank
  shape_by i (Some (Flat wide start fixed)) = whole (span (content z W) wide start 0 (length_word z W i))
  shape_by i (Some (Thin target)) = whole (flat target)
  shape_by i (Some (Sliced wide parent offset)) =
      whole (take (length_word z W i) (drop offset (solid parent)))
  shape_by i (Some (Cons wide left right)) =
      if nat_lt left i && nat_lt right i then joins left right else blank

  -- what the header of i says of its string
  unfoldable pub shape : ℕ → Shape
  shape i = shape_by i (form_of (form z W i))

-- the units of a string by its shape, where `below` gives those of strings with smaller ids
abbrev pub units_by : (ℕ → List ℕ) → Shape → List ℕ
units_by below blank = []
units_by below (whole us) = us
units_by below (joins left right) = below left ++ below right

-- a recursion on ids; the first argument bounds the depth of a rope
unfoldable pub units_within : (ℕ → Shape) → ℕ → ℕ → List ℕ
units_within shapes zero i = []
units_within shapes (suc n) i = units_by (λ j. units_within shapes n j) (shapes i)

-- the units of the string i by all shapes; each part of a Cons has a smaller id, so a rope on i is at most i
-- deep
unfoldable pub units_in : (ℕ → Shape) → ℕ → List ℕ
units_in shapes i = units_within shapes (suc i) i

-- the units of the string i; none where i shows nothing
abbrev pub units_of : HeapSize → List ℕ → ℕ → List ℕ
units_of z W = units_in (shape z W)
