-- The kinds of step that an agent makes on one word of the heap: where each may come, which word it is on,
-- what that word becomes, and what the agent's view becomes. Here x is the word found. (Making, splitting and
-- joining are no steps on a word: their conditions and views are in `Agents`.)
use Rattle.std.specs.Prelude.{◌≡◌, ℕ, zero, suc, ◌+◌, ◌<◌, ◌≤◌, ◌==◌, Bool, true, false}
use Rattle.std.specs.Prelude.{if◌then◌else◌, List, [], ◌∷◌, ◌++◌, slice_index, slice_set, replicate, Option}
use Rattle.js_header.specs.Form.{word_of}
use Rattle.js_header.specs.declared.form.Form.{Form}
use Rattle.js_header.specs.declared.form.Form.TheVariants.{Thin}
use Rattle.heap_rule.specs.declared.view.View.{View}
use Rattle.heap_rule.specs.declared.size.HeapSize.{HeapSize}
use Rattle.heap_rule.specs.declared.size.Counter.{Counter}
use Rattle.heap_rule.specs.declared.size.Counter.TheVariants.{Ids}
use Rattle.heap_rule.specs.Layout.{IsLawfulSize, counter_at, slot_at, form_at, length_at, content_at}
use Rattle.heap_rule.specs.Layout.{word_count, IsBorn}
use Rattle.heap_rule.specs.Contents.{units_of}
use Rattle.heap_rule.specs.Maps.{HasKey}
use Rattle.heap_rule.specs.Views.{MayUse}
use Rattle.heap_rule.specs.Claims.{loaded_counter, MayClaim, MayClaimAtOnce, claimed}
use Rattle.heap_rule.specs.Births.{stored_word, MayStoreLength, stored_length, MayBear, born}
use Rattle.heap_rule.specs.Learning.{learned, learned_all}
use Rattle.heap_rule.specs.Loads.{loaded_form, loaded_length, MayLoadWord, loaded_word}
use Rattle.heap_rule.specs.HeaderMoves.{MayFlatten, flattened, MayThin, thinned}
use Rattle.heap_rule.specs.Slots.{MayEnter, loaded_slot, MayTakeSlot, took_slot}
use Rattle.heap_rule.specs.Agents.{first_view, spent, left_after_split, right_after_split, MayJoin}
use Rattle.heap_rule.specs.Agents.{joined_view}
use Rattle.heap_rule.specs.Sound.{At, IsSound, AreLegal}

-- a step on one word, with what it is called with: the counter, id, content word or slot, and what is stored,
-- expected or looked for
pub data StepKind : Type 0 where
  load_counter : Counter → StepKind
  claim : Counter → ℕ → ℕ → StepKind
  store_word : ℕ → ℕ → StepKind
  store_length : ℕ → ℕ → StepKind
  birth : ℕ → Form → StepKind
  load_form : ℕ → StepKind
  load_length : ℕ → StepKind
  load_word : ℕ → StepKind
  flatten : ℕ → Form → Form → StepKind
  thin : ℕ → Form → ℕ → StepKind
  load_slot : ℕ → Option (List ℕ) → StepKind
  take_slot : ℕ → ℕ → StepKind

-- where it may come, by the agent's view
abbrev pub MayCome : View → StepKind → Type 0
MayCome v (load_counter k) = Unit {0}
MayCome v (claim k at want) = MayClaim v k at want
MayCome v (store_word c n) = HasKey v.own_words c
MayCome v (store_length i n) = MayStoreLength v i n
MayCome v (birth i f) = MayBear v i f
MayCome v (load_form i) = MayUse v i
MayCome v (load_length i) = MayUse v i
MayCome v (load_word c) = MayLoadWord v c
MayCome v (flatten i old new) = MayFlatten v i old new
MayCome v (thin i old t) = MayThin v i old t
MayCome v (load_slot k entry) = (k < v.sizes.slots) × MayEnter v k entry
MayCome v (take_slot k i) = MayTakeSlot v k i

-- the place of its word
abbrev pub place_of : HeapSize → StepKind → ℕ
place_of z (load_counter k) = counter_at k
place_of z (claim k at want) = counter_at k
place_of z (store_word c n) = content_at z c
place_of z (store_length i n) = length_at z i
place_of z (birth i f) = form_at z i
place_of z (load_form i) = form_at z i
place_of z (load_length i) = length_at z i
place_of z (load_word c) = content_at z c
place_of z (flatten i old new) = form_at z i
place_of z (thin i old t) = form_at z i
place_of z (load_slot k entry) = slot_at z k
place_of z (take_slot k i) = slot_at z k

-- how it goes to the word: a load, a plain store of a number, or a compare-exchange from one number to
-- another
pub data Access : Type 0 where
  loads : Access
  stores : ℕ → Access
  exchanges : ℕ → ℕ → Access

-- how a step of this kind goes to its word
abbrev pub access_of : StepKind → Access
access_of (claim k at want) = exchanges at (at + want)
access_of (store_word c n) = stores n
access_of (store_length i n) = stores n
access_of (birth i f) = stores (word_of f)
access_of (flatten i old new) = exchanges (word_of old) (word_of new)
access_of (thin i old t) = exchanges (word_of old) (word_of (Thin t))
access_of (take_slot k i) = exchanges 0 (i + 1)
access_of _ = loads

-- what it leaves there
abbrev pub word_left : Access → ℕ → ℕ
word_left loads x = x
word_left (stores n) x = n
word_left (exchanges old new) x = if x == old then new else x

-- what the view becomes, before anything is learned
abbrev pub view_after : View → StepKind → ℕ → View
view_after v (load_counter k) x = loaded_counter v k x
view_after v (claim k at want) x = claimed v k at want x
view_after v (store_word c n) x = stored_word v c n
view_after v (store_length i n) x = stored_length v i n
view_after v (birth i f) x = born v i f
view_after v (load_form i) x = loaded_form v i x
view_after v (load_length i) x = loaded_length v i x
view_after v (load_word c) x = loaded_word v c x
view_after v (flatten i old new) x = flattened v i old new x
view_after v (thin i old t) x = thinned v i old t x
view_after v (load_slot k entry) x = loaded_slot v k entry x
view_after v (take_slot k i) x = took_slot v k i x

-- which kinds learn: each load and each compare-exchange, but those on a counter
abbrev pub learns : StepKind → Bool
learns (load_counter k) = false
learns (claim k at want) = false
learns (store_word c n) = false
learns (store_length i n) = false
learns (birth i f) = false
learns _ = true

-- what the view becomes on the running heap, where all that can be learned is learned
abbrev pub view_on_heap : View → StepKind → ℕ → View
view_on_heap v e x = if learns e then learned_all (view_after v e x) else view_after v e x

-- Steps on one word in turn, with no other step between them: the first finds x there, and each other one
-- what the one before it left. What they make of the view
abbrev pub view_in_turn : View → List StepKind → ℕ → View
view_in_turn v [] x = v
view_in_turn v (e ∷ es) x = view_in_turn (view_on_heap v e x) es (word_left (access_of e) x)

-- what the last one leaves there
abbrev pub word_in_turn : List StepKind → ℕ → ℕ
word_in_turn [] x = x
word_in_turn (e ∷ es) x = word_in_turn es (word_left (access_of e) x)

-- each may come, by the view that the ones before it left
abbrev pub MayComeInTurn : View → List StepKind → ℕ → Type 0
MayComeInTurn v [] x = Unit {0}
MayComeInTurn v (e ∷ es) x = MayCome v e × MayComeInTurn (view_on_heap v e x) es (word_left (access_of e) x)

-- n claims of one id each, from `at` on
abbrev pub claims_of_ids : ℕ → ℕ → List StepKind
claims_of_ids at zero = []
claims_of_ids at (suc n) = claim Ids at 1 ∷ claims_of_ids (suc at) n

-- what one compare-exchange of the counter of ids from `at` to `at + want` does, where it finds x: as many
-- claims of one id, each won; or one that is lost
abbrev pub claims_at_once : ℕ → ℕ → ℕ → List StepKind
claims_at_once at want x = if x == at then claims_of_ids at want else claim Ids at 1 ∷ []

-- These claims may come in turn. They leave the word as the compare-exchange does, and of the view they make
-- what one claim of so many pieces would make of it.
abbrev pub ClaimsInTurn : Type 0
ClaimsInTurn = (v : View) (at want x : ℕ) → MayClaimAtOnce v Ids at want
    → MayComeInTurn v (claims_at_once at want x) x
    × (word_in_turn (claims_at_once at want x) x ≡ word_left (exchanges at (at + want)) x)
    × (view_in_turn v (claims_at_once at want x) x ≡ claimed v Ids at want x)

-- the rule holds of the new words and views, and every born id stays born and keeps its units
abbrev pub KeepsRule : HeapSize → ℕ → List ℕ → List ℕ → List View → Type 0
KeepsRule z agents W W' vs' =
    IsSound z agents W' vs' × ((i : ℕ) → IsBorn z W i → IsBorn z W' i × (units_of z W' i ≡ units_of z W i))

-- each of these kinds keeps the rule and the units, whatever is learned with it
abbrev pub KindsKeep : Type 0
KindsKeep = (z : HeapSize) (agents : ℕ) (W : List ℕ) (vs : List View) (j : ℕ) (v : View) (e : StepKind)
    (names : List ℕ) → IsSound z agents W vs → At vs j v → v.live ≡ true → MayCome v e
    → KeepsRule z agents W (slice_set W (place_of z e)
    (word_left (access_of e) (slice_index W (place_of z e))))
    (slice_set vs j (learned (view_after v e (slice_index W (place_of z e))) names))

-- the heap is made, all words 0, with one agent that has the whole share
abbrev pub MakingKeeps : Type 0
MakingKeeps = (z : HeapSize) (agents : ℕ) → IsLawfulSize z → 1 ≤ agents
    → IsSound z agents (replicate (word_count z) 0) (first_view z agents ∷ [])

-- so do the steps that change no word: an agent is split off, and one is joined
abbrev pub SplittingKeeps : Type 0
SplittingKeeps = (z : HeapSize) (agents : ℕ) (W : List ℕ) (vs : List View) (j : ℕ) (v : View) (give : ℕ)
    → IsSound z agents W vs → At vs j v → v.live ≡ true → 1 ≤ give → give < v.share
    → IsSound z agents W (slice_set vs j (left_after_split v give) ++ right_after_split v give ∷ [])

-- joining an agent that was split off, under the condition of a join, keeps the rule
abbrev pub JoiningKeeps : Type 0
JoiningKeeps = (z : HeapSize) (agents : ℕ) (W : List ℕ) (vs : List View) (j o : ℕ) (v b : View)
    → IsSound z agents W vs → (j ≡ o → ⊥) → At vs j v → v.live ≡ true → At vs o b → MayJoin v b
    → IsSound z agents W (slice_set (slice_set vs j (joined_view v b)) o spent)

-- where the rule holds, all histories together give each list of units one id and each id one list
abbrev pub SoundIsLegal : Type 0
SoundIsLegal = (z : HeapSize) (agents : ℕ) (W : List ℕ) (vs : List View) → IsSound z agents W vs → AreLegal vs
