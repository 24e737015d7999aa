-- Learning: which units of which strings follow from what a view has. It costs nothing when the heap runs.
use Rattle.std.specs.Prelude.{ℕ, zero, suc, ◌==◌, ◌&&◌, ◌||◌, Bool, true, false, if◌then◌else◌, List, []}
use Rattle.std.specs.Prelude.{◌∷◌, ◌++◌, All, take, drop, unwrap_or, Option, Some, None, is_some, IsSome}
use Rattle.std.specs.Ordering.{nat_cmp}
use Rattle.std.specs.FinMap.{FinMap, get, insert, contains_key, entries, keys}
use Rattle.js_units.specs.Lanes.{words_over}
use Rattle.js_header.specs.declared.form.Form.{Form}
use Rattle.js_header.specs.declared.form.Form.TheVariants.{Flat, Cons, Thin}
use Rattle.heap_rule.specs.declared.view.View.{View}
use Rattle.heap_rule.specs.Contents.{span}
use Rattle.heap_rule.specs.Maps.{first_some, first_in}

-- the front of n units, or the rest
abbrev pub split_by : Bool → Option (List ℕ) → Option ℕ → Option (List ℕ)
split_by true (Some us) (Some n) = Some (take n us)
split_by false (Some us) (Some n) = Some (drop n us)
split_by _ _ _ = None

-- the view has each of the n content words from c on as frozen
abbrev pub all_frozen : View → ℕ → ℕ → Bool
all_frozen v c zero = true
all_frozen v c (suc n) = contains_key v.frozen c && all_frozen v (suc c) n

-- the content word as the view has it frozen
abbrev pub frozen_word : View → ℕ → ℕ
frozen_word v c = unwrap_or (get v.frozen c) 0

-- the units of the string i
module _ (v : View) (i : ℕ) where
  -- where j forwards to i, they are those of j
  abbrev pub by_thin : ℕ → Option Form → Option (List ℕ)
  by_thin j (Some (Thin target)) = if target == i then get v.units j else None
  by_thin j _ = None

  -- where i is the left child of j, they are the front of its units by the length of i; where i is the right
  -- child, the rest
  abbrev pub by_cons : ℕ → Option Form → Option (List ℕ)
  by_cons j (Some (Cons wide left right)) =
      if left == i then split_by true (get v.units j) (get v.lengths left)
      else (if right == i then split_by false (get v.units j) (get v.lengths left) else None)
  by_cons j _ = None

  -- whether the string j shows them by its form
  abbrev pub tells : ℕ → Option Form → Bool
  tells j o = is_some (by_thin j o) || is_some (by_cons j o)

  -- where i is a Flat whose words are all frozen, they are its span
  abbrev pub by_flat : Option Form → Option ℕ → Option (List ℕ)
  by_flat (Some (Flat wide start fixed)) (Some n) =
      if all_frozen v start (words_over wide n) then Some (span (frozen_word v) wide start 0 n) else None
  by_flat _ _ = None

  -- by the first of these ways that shows them, and in it by the string j with the least id
  unfoldable pub justified : Option (List ℕ)
  justified = first_some (first_in (λ j. by_thin j (get v.forms j)) (keys v.forms))
      (first_some (first_in (λ j. by_cons j (get v.forms j)) (keys v.forms))
      (by_flat (get v.forms i) (get v.lengths i)))

-- the units us of the string i are known, if some are justified
abbrev pub learn_one : FinMap nat_cmp (List ℕ) → ℕ → Option (List ℕ) → FinMap nat_cmp (List ℕ)
learn_one m i None = m
learn_one m i (Some us) = insert m i us

-- for each of these ids in turn, the units that f justifies are known
abbrev pub learn_into : (ℕ → Option (List ℕ)) → FinMap nat_cmp (List ℕ) → List ℕ → FinMap nat_cmp (List ℕ)
learn_into f m [] = m
learn_into f m (i ∷ is) = learn_into f (learn_one m i (f i)) is

-- one round over the ids that an event names: what is learned justifies nothing else in it
abbrev pub learned : View → List ℕ → View
learned v names = record v { units = learn_into (justified v) v.units names }

-- the view justifies units of each of these ids
abbrev pub MayLearn : View → List ℕ → Type 0
MayLearn v names = All (λ i. IsSome (justified v i)) names

-- the ids for which a form could justify units
abbrev pub named_by : ℕ × Form → List ℕ
named_by (j, Flat wide start fixed) = j ∷ []
named_by (j, Cons wide left right) = left ∷ right ∷ []
named_by (j, Thin target) = target ∷ []
named_by _ = []

-- the ids for which any of these forms could justify units
abbrev pub all_named : List (ℕ × Form) → List ℕ
all_named [] = []
all_named (e ∷ es) = named_by e ++ all_named es

-- every pair that the view's data justify, as a step of the running heap learns it
abbrev pub learned_all : View → View
learned_all v = learned v (all_named (entries v.forms))
