-- The rule that every atomic step keeps, for the words of a heap and the views of its agents. A spent view,
-- of an agent that was joined, is excepted.
use Rattle.std.specs.Prelude.{◌≡◌, ◌≢◌, ℕ, ◌+◌, ◌*◌, ◌<◌, ◌≤◌, ◌⊎◌, Bool, true, if◌then◌else◌, List, ◌++◌}
use Rattle.std.specs.Prelude.{Contains, take, drop, length, sum_by, Some}
use mathlib.Core.Option.{some}
use lib.ListN.{get_elem?}
use Rattle.std.specs.Ordering.{nat_cmp}
use Rattle.std.specs.FinMap.{FinMap}
use Rattle.js_units.specs.Lanes.{words_over, lane_count}
use Rattle.js_header.specs.Form.{form_of}
use Rattle.js_header.specs.declared.form.Form.{Form}
use Rattle.js_header.specs.declared.form.Form.TheVariants.{Unborn, Flat, Cons, Sliced, Thin}
use Rattle.heap_rule.specs.declared.view.View.{View}
use Rattle.heap_rule.specs.declared.size.HeapSize.{HeapSize}
use Rattle.heap_rule.specs.declared.size.Counters.{Counters}
use Rattle.heap_rule.specs.Layout.{MAX, IsLawfulSize, word_count, next_id, next_word, slot, form}
use Rattle.heap_rule.specs.Layout.{length_word, content, IsBorn}
use Rattle.heap_rule.specs.Contents.{span, lane_in, units_of}
use Rattle.heap_rule.specs.Maps.{Has, HasKey}
use Rattle.heap_rule.specs.Forms.{IsSolidForm, IsLater, IsNarrow}
use Rattle.heap_rule.specs.Paths.{rank, Agree}
use Rattle.heap_rule.specs.Views.{history, MayUse}

-- the list has x at place j
abbrev pub At : {A : Type 0} → List A → ℕ → A → Type 0
At xs j x = get_elem? xs j ≡ some x

-- this holds of each live view and its number
abbrev pub EachLive : List View → (ℕ → View → Type 0) → Type 0
EachLive vs P = (j : ℕ) (v : View) → At vs j v → v.live ≡ true → P j v

-- the sum over the live views
abbrev pub of_live : (View → ℕ) → View → ℕ
of_live f v = if v.live then f v else 0

-- the sum of f over the live views
abbrev pub total : (View → ℕ) → List View → ℕ
total f vs = sum_by (of_live f) vs

-- no live view has the content word as its own
abbrev pub IsFree : List View → ℕ → Type 0
IsFree vs c = EachLive vs (λ _ v. HasKey v.own_words c → ⊥)

-- a content word that changes no more: below the counter, and owned by nobody
pub record IsKept (W : List ℕ) (vs : List View) (c : ℕ) : Type 0 where
  pub below : c < next_word W
  pub free : IsFree vs c

-- no counter is past its end, and the words past a counter are 0
pub record IsCounted (z : HeapSize) (W : List ℕ) : Type 0 where
  pub long : length W ≡ word_count z
  pub ids_end : next_id W ≤ z.ids
  pub words_end : next_word W ≤ z.words
  pub no_form : (i : ℕ) → next_id W ≤ i → i < z.ids → form z W i ≡ 0
  pub no_length : (i : ℕ) → next_id W ≤ i → i < z.ids → length_word z W i ≡ 0
  pub no_content : (c : ℕ) → next_word W ≤ c → c < z.words → content z W c ≡ 0

-- an own id is below the counter and not born, and its length word is the view's and at most the greatest
-- length
pub record OwnsIds (z : HeapSize) (W : List ℕ) (own : FinMap nat_cmp ℕ) : Type 0 where
  pub each : (i n : ℕ) → Has own i n
      → (i < next_id W) × (form z W i ≡ 0) × (length_word z W i ≡ n) × (n ≤ MAX)

-- an own content word is below the counter, and is the view's
pub record OwnsWords (z : HeapSize) (W : List ℕ) (own : FinMap nat_cmp ℕ) : Type 0 where
  pub each : (c x : ℕ) → Has own c x → (c < next_word W) × (content z W c ≡ x)

-- the two have no key in common
abbrev pub AreApart : FinMap nat_cmp ℕ → FinMap nat_cmp ℕ → Type 0
AreApart m n = (k : ℕ) → HasKey m k → HasKey n k → ⊥

module _ (z : HeapSize) (W : List ℕ) (vs : List View) where
  -- What a form asks of its string.
  -- A Flat: its words change no more, their lanes past the length are 0, without the wide bit its units are
  -- below 256, and an empty one starts at 0.
  -- A Cons: two born strings with smaller ids, neither empty, at least 13 units, and narrow as a Flat is.
  -- A Sliced: a born parent with a smaller id that is Flat or Thin and long enough, at least 13 units, and
  -- narrow as a Flat is.
  -- A Thin: a fixed Flat with the same units, which is in a slot.
  abbrev pub StandsAs : ℕ → Form → Type 0
  StandsAs i Unborn = ⊥
  StandsAs i (Flat wide start fixed) =
      ((c : ℕ) → start ≤ c → c < start + words_over wide (length_word z W i) → IsKept W vs c)
      × ((o : ℕ) → length_word z W i ≤ o → o < words_over wide (length_word z W i) * lane_count wide
      → lane_in (content z W) wide start o ≡ 0)
      × IsNarrow wide (units_of z W i) × (length_word z W i ≡ 0 → start ≡ 0)
  StandsAs i (Cons wide left right) = (left < i) × (right < i) × IsBorn z W left × IsBorn z W right
      × (1 ≤ length (units_of z W left)) × (1 ≤ length (units_of z W right))
      × (13 ≤ length_word z W i) × IsNarrow wide (units_of z W i)
  StandsAs i (Sliced wide parent offset) = (parent < i) × IsBorn z W parent
      × IsSolidForm (form_of (form z W parent)) × (offset + length_word z W i ≤ length (units_of z W parent))
      × (13 ≤ length_word z W i) × IsNarrow wide (units_of z W i)
  StandsAs i (Thin target) = IsBorn z W target
      × ((wide : Bool) × (start : ℕ) × (form_of (form z W target) ≡ Some (Flat wide start true)))
      × (units_of z W target ≡ units_of z W i)
      × ((k : ℕ) × (k < z.slots) × (slot z W k ≡ target + 1))

  -- a born id: its form word decodes, it is below the counter, and its length word is the length of its
  -- units, at most the greatest one
  pub record IsStanding (i : ℕ) : Type 0 where
    pub now : Form
    pub decodes : form_of (form z W i) ≡ Some now
    pub below : i < next_id W
    pub length_is : length_word z W i ≡ length (units_of z W i)
    pub short : length_word z W i ≤ MAX
    pub stands : StandsAs i now

  -- What a form that was seen still says of its string, whatever form is now there: all that it asks of its
  -- string and that never changes.
  -- A Flat: its words, which change no more, show the units, their lanes past the length are 0, and an empty
  -- one starts at 0.
  -- A Cons: its children, which are smaller and not empty, join to at least 13 units.
  -- A Sliced: the units, at least 13, are that part of its smaller parent, which is Flat or Thin and has room
  -- for it.
  -- A Thin: its target, a fixed Flat, has the units. Without the wide bit all units are below 256.
  abbrev pub Shows : ℕ → Form → Type 0
  Shows i Unborn = ⊥
  Shows i (Flat wide start fixed) = (units_of z W i ≡ span (content z W) wide start 0 (length_word z W i))
      × ((c : ℕ) → start ≤ c → c < start + words_over wide (length_word z W i) → IsKept W vs c)
      × ((o : ℕ) → length_word z W i ≤ o → o < words_over wide (length_word z W i) * lane_count wide
      → lane_in (content z W) wide start o ≡ 0)
      × IsNarrow wide (units_of z W i) × (length_word z W i ≡ 0 → start ≡ 0)
  Shows i (Cons wide left right) =
      IsBorn z W left × IsBorn z W right × (units_of z W i ≡ units_of z W left ++ units_of z W right)
      × (left < i) × (right < i) × (1 ≤ length (units_of z W left)) × (1 ≤ length (units_of z W right))
      × (13 ≤ length_word z W i) × IsNarrow wide (units_of z W i)
  Shows i (Sliced wide parent offset) = IsBorn z W parent × IsSolidForm (form_of (form z W parent))
      × (units_of z W i ≡ take (length_word z W i) (drop offset (units_of z W parent)))
      × (offset + length_word z W i ≤ length (units_of z W parent))
      × (parent < i) × (13 ≤ length_word z W i) × IsNarrow wide (units_of z W i)
  Shows i (Thin target) = IsBorn z W target × (units_of z W target ≡ units_of z W i)
      × ((wide : Bool) × (start : ℕ) × (form_of (form z W target) ≡ Some (Flat wide start true)))

  -- the form that is there now is the one that was seen, or a later one
  pub record KnowsForm (i : ℕ) (f : Form) : Type 0 where
    pub born : IsBorn z W i
    pub now : Form
    pub decodes : form_of (form z W i) ≡ Some now
    pub later : (f ≡ now) ⊎ IsLater f now
    pub shows : Shows i f

  -- what a view has is so; over its maps, so that a step which changes none of them keeps this as it is
  pub record KnowsBy (met : FinMap nat_cmp (Unit {0})) (units : FinMap nat_cmp (List ℕ))
      (forms : FinMap nat_cmp Form) (lengths frozen slots : FinMap nat_cmp ℕ) : Type 0 where
    pub of_met : (i : ℕ) → HasKey met i → IsBorn z W i
    pub of_units : (i : ℕ) (us : List ℕ) → Has units i us → IsBorn z W i × (units_of z W i ≡ us)
    pub of_forms : (i : ℕ) (f : Form) → Has forms i f → KnowsForm i f
    pub of_lengths : (i n : ℕ) → Has lengths i n → IsBorn z W i × (length_word z W i ≡ n)
    pub of_frozen : (c x : ℕ) → Has frozen c x → IsKept W vs c × (content z W c ≡ x)
    pub of_slots : (k i : ℕ) → Has slots k i → (k < z.slots) × (slot z W k ≡ i + 1)

  -- all that the view knows is so
  abbrev pub Knows : View → Type 0
  Knows v = KnowsBy v.met v.units v.forms v.lengths v.frozen v.slots

  -- a used slot names a born fixed Flat, and every slot before it on the path of its units is used
  pub record IsUsed (k i : ℕ) : Type 0 where
    pub born : IsBorn z W i
    pub fixed : (wide : Bool) × (start : ℕ) × (form_of (form z W i) ≡ Some (Flat wide start true))
    pub earlier : (j : ℕ) → j < z.slots
        → rank (units_of z W i) z.slots j < rank (units_of z W i) z.slots k → slot z W j ≢ 0

  -- each slot whose word is not 0 is used as the rule asks
  abbrev pub AreSlots : Type 0
  AreSlots = (k i : ℕ) → k < z.slots → slot z W k ≡ i + 1 → IsUsed k i

  -- two used slots have different units
  abbrev pub AreDifferent : Type 0
  AreDifferent = (k l i j : ℕ) → k < z.slots → l < z.slots → slot z W k ≡ i + 1 → slot z W l ≡ j + 1
      → units_of z W i ≡ units_of z W j → k ≡ l

  -- each call in a history names a string that the view has seen in a slot, by its units
  abbrev pub Recalls : View → Type 0
  Recalls v = (u : List ℕ) (i : ℕ) → Contains (history v) (u, i)
      → ((k : ℕ) × Has v.slots k i) × (u ≡ units_of z W i)

  -- each used slot is in a call of some live view's own
  abbrev pub AreEntered : Type 0
  AreEntered = (k i : ℕ) → k < z.slots → slot z W k ≡ i + 1
      → (j : ℕ) × (v : View) × (u : List ℕ) × At vs j v × (v.live ≡ true) × Contains v.mine (u, i)

-- each counter is the sum of what the live views used, and their shares are the heap's number of agents
pub record AreAdded (z : HeapSize) (agents : ℕ) (W : List ℕ) (vs : List View) : Type 0 where
  pub ids : next_id W ≡ total (λ v. v.used.ids) vs
  pub words : next_word W ≡ total (λ v. v.used.words) vs
  pub shares : total (λ v. v.share) vs ≡ agents

-- what was seen of a counter is at most the counter
abbrev pub IsLow : List ℕ → Counters → Type 0
IsLow W low = (low.ids ≤ next_id W) × (low.words ≤ next_word W)

-- a live view has a share, and the sizes and the number of agents of its heap
abbrev pub IsMember : HeapSize → ℕ → View → Type 0
IsMember z agents v = (1 ≤ v.share) × (v.sizes ≡ z) × (v.agents ≡ agents)

-- the rule; its parts have their numbers from docs/HEAP-PROOF.md
pub record IsSound (z : HeapSize) (agents : ℕ) (W : List ℕ) (vs : List View) : Type 0 where
  pub lawful : IsLawfulSize z  -- rule 1
  pub counted : IsCounted z W  -- rule 1
  pub own_ids : EachLive vs (λ _ v. OwnsIds z W v.own_ids)  -- rule 2
  pub own_words : EachLive vs (λ _ v. OwnsWords z W v.own_words)  -- rule 2
  pub ids_apart : EachLive vs (λ j v. EachLive vs (λ k w.
      j ≢ k → AreApart v.own_ids w.own_ids))  -- rule 2
  pub words_apart : EachLive vs (λ j v. EachLive vs (λ k w.
      j ≢ k → AreApart v.own_words w.own_words))  -- rule 2
  pub standing : (i : ℕ) → IsBorn z W i → IsStanding z W vs i  -- rule 3
  pub knows : EachLive vs (λ _ v. Knows z W vs v)  -- rule 4
  pub slots : AreSlots z W vs  -- rule 5
  pub different : AreDifferent z W vs  -- rule 5
  pub recalls : EachLive vs (λ _ v. Recalls z W vs v)  -- rule 6
  pub entered : AreEntered z W vs  -- rule 6
  pub added : AreAdded z agents W vs  -- rule 7; the shares, rule 8
  pub lows : EachLive vs (λ _ v. IsLow W v.low)  -- rule 7
  pub members : EachLive vs (λ _ v. IsMember z agents v)  -- rule 8

-- a sound state that has this view as a live one
abbrev pub StandsIn : View → Type 0
StandsIn v = (z : HeapSize) × (agents : ℕ) × (W : List ℕ) × (vs : List View) × (j : ℕ) × IsSound z agents W vs
    × At vs j v × (v.live ≡ true)

-- all that the rule says of a live view alone: some sound state has it; which one is not said, so a value may
-- keep this of its view
abbrev pub IsPossible : View → Type 0
IsPossible v = ∥ StandsIn v ∥₁

-- of this, that what the view knows and owns lies in the heap
pub record IsWithin (v : View) : Type 0 where
  pub known : (i : ℕ) → MayUse v i → i < v.sizes.ids
  pub ids : (i : ℕ) → HasKey v.own_ids i → i < v.sizes.ids
  pub words : (c : ℕ) → HasKey v.own_words c → c < v.sizes.words

-- the histories of all live views, together, give each list of units one id and each id one list
abbrev pub AreLegal : List View → Type 0
AreLegal vs = EachLive vs (λ _ v. EachLive vs (λ _ w. Agree (history v) (history w)))

-- the born strings are there, whatever the views are
abbrev pub AreStanding : HeapSize → List ℕ → Type 0
AreStanding z W = (vs : List View) × ((i : ℕ) → IsBorn z W i → IsStanding z W vs i)
