-- Each unit of a string of a heap is below 65536, since no lane is wider than 16 bits.
use Rattle.std.specs.Prelude.{ℕ, zero, suc, ◌+◌, ◌/◌, ◌%◌, ◌^◌, ◌<◌, Bool, true, false, ◌&&◌, nat_lt}
use Rattle.std.specs.Prelude.{if◌then◌else◌, List, [], drop, All, Option, Some, None}
use Rattle.std.proofs.Common.{arith, subst}
use Rattle.std.proofs.Math.Logic.{∥∥₁_elim}
use Rattle.std.proofs.Props.{props}
use Rattle.std.proofs.lemmas.List.Elements.{All-nil, All-cons, All-append, All-take, All-drop}
use Rattle.js_units.specs.Lanes.{lane_of}
use Rattle.js_header.specs.Form.{form_of}
use Rattle.js_header.specs.declared.form.Form.{Form}
use Rattle.js_header.specs.declared.form.Form.TheVariants.{Unborn, Flat, Cons, Sliced, Thin}
use Rattle.heap_rule.specs.declared.size.HeapSize.{HeapSize}
use Rattle.heap_rule.specs.declared.view.View.{View}
use Rattle.heap_rule.specs.Contents.{Shape, blank, whole, joins, span, lane_in, flat_by, solid_by, solid}
use Rattle.heap_rule.specs.Contents.{shape_by, shape, units_by, units_within, units_in, units_of}
use Rattle.heap_rule.specs.Layout.{form, length_word, content}
use Rattle.heap_rule.specs.Maps.{Has}
use Rattle.heap_rule.specs.Sound.{IsPossible, StandsIn}

abbrev AreUnits : List ℕ → Type 0
AreUnits us = All (λ x. x < 65536) us

empty_units : AreUnits []
empty_units = All-nil (λ (x : ℕ). x < 65536)

lane_small : (f : ℕ → ℕ) (wide : Bool) (start o : ℕ) → lane_in f wide start o < 65536
unfolding lane_in lane_of
lane_small f true start o =
    let x : ℕ = f (start + o / 4) / 65536 ^ (o % 4) in let goal : x % 65536 < 65536 = omega arith in goal
lane_small f false start o =
    let x : ℕ = f (start + o / 8) / 256 ^ (o % 8) in let goal : x % 256 < 65536 = omega arith in goal

span_small : (f : ℕ → ℕ) (wide : Bool) (start o n : ℕ) → AreUnits (span f wide start o n)
span_small f wide start o zero = empty_units
span_small f wide start o (suc n) = All-cons (λ (x : ℕ). x < 65536) (lane_in f wide start o)
    (span f wide start (suc o) n) (lane_small f wide start o) (span_small f wide start (suc o) n)

-- a shape whose own units are small
abbrev HasSmallUnits : Shape → Type 0
HasSmallUnits blank = Unit {0}
HasSmallUnits (whole us) = AreUnits us
HasSmallUnits (joins left right) = Unit {0}

module _ (z : HeapSize) (W : List ℕ) where
  flat_small : (i : ℕ) (o : Option Form) → AreUnits (flat_by z W i o)
  flat_small i None = empty_units
  flat_small i (Some Unborn) = empty_units
  flat_small i (Some (Flat wide start true)) = span_small (content z W) wide start 0 (length_word z W i)
  flat_small i (Some (Flat wide start false)) = empty_units
  flat_small i (Some (Cons wide left right)) = empty_units
  flat_small i (Some (Sliced wide parent offset)) = empty_units
  flat_small i (Some (Thin target)) = empty_units

  solid_small : (i : ℕ) (o : Option Form) → AreUnits (solid_by z W i o)
  solid_small i None = empty_units
  solid_small i (Some Unborn) = empty_units
  solid_small i (Some (Flat wide start fixed)) = span_small (content z W) wide start 0 (length_word z W i)
  solid_small i (Some (Cons wide left right)) = empty_units
  solid_small i (Some (Sliced wide parent offset)) = empty_units
  solid_small i (Some (Thin target)) = flat_small target (form_of (form z W target))

  joined_small : (b : Bool) (left right : ℕ) → HasSmallUnits (if b then joins left right else blank)
  joined_small true left right = tt
  joined_small false left right = tt

  by_small : (i : ℕ) (o : Option Form) → HasSmallUnits (shape_by z W i o)
  by_small i None = tt
  by_small i (Some Unborn) = tt
  by_small i (Some (Flat wide start fixed)) = span_small (content z W) wide start 0 (length_word z W i)
  by_small i (Some (Thin target)) = flat_small target (form_of (form z W target))
  by_small i (Some (Sliced wide parent offset)) =
      All-take (λ (x : ℕ). x < 65536) (length_word z W i) (drop offset (solid z W parent))
      (All-drop (λ (x : ℕ). x < 65536) offset (solid z W parent)
      (solid_small parent (form_of (form z W parent))))
  by_small i (Some (Cons wide left right)) = joined_small (nat_lt left i && nat_lt right i) left right

  shape_small : (i : ℕ) → HasSmallUnits (shape z W i)
  unfolding shape
  shape_small i = by_small i (form_of (form z W i))

units_small : (below : ℕ → List ℕ) → ((j : ℕ) → AreUnits (below j)) → (s : Shape) → HasSmallUnits s
    → AreUnits (units_by below s)
units_small below h blank k = empty_units
units_small below h (whole us) k = k
units_small below h (joins left right) k =
    All-append (λ (x : ℕ). x < 65536) (below left) (below right) (h left) (h right)

within_small : (shapes : ℕ → Shape) → ((i : ℕ) → HasSmallUnits (shapes i)) → (n i : ℕ)
    → AreUnits (units_within shapes n i)
unfolding units_within
within_small shapes h zero i = empty_units
within_small shapes h (suc n) i =
    units_small (λ j. units_within shapes n j) (λ j. within_small shapes h n j) (shapes i) (h i)

of_small : (z : HeapSize) (W : List ℕ) (i : ℕ) → AreUnits (units_of z W i)
unfolding units_in
of_small z W i = within_small (shape z W) (shape_small z W) (suc i) i

range_in : (v : View) → StandsIn v → (n : ℕ) (u : List ℕ) → Has v.units n u → AreUnits u
range_in v (z, agents, W, vs, j, s, at, live) n u h =
    subst (λ (us : List ℕ). AreUnits us) ((s.knows j v at live).of_units n u h).1 (of_small z W n)

-- the units that a view knows are 16 bits wide
pub possible_range : (v : View) → IsPossible v → (n : ℕ) (u : List ℕ) → Has v.units n u → AreUnits u
possible_range v p n u h k d l = ∥∥₁_elim p (Prim.hlevel props) (λ t. range_in v t n u h k d l)
