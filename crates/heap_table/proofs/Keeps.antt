-- Each step of the table keeps the rule.
use Rattle.std.proofs.Common.{◌≡◌, ◌≢◌, ℕ, zero, suc, [], ◌∷◌, ◌+◌, ◌^◌, ◌<◌, ◌≤◌, ⊎_elim, ◌⊎◌, eqb, List, length, get_or, set, sym, refl, ap, ◌∙◌, subst}
use Rattle.std.proofs.Common.{arith, eq-eqb, ne_eqb, cond, Bool, true, false, Option, Some, None}
use Rattle.std.specs.Prelude.{unwrap_or, is_some}
use Rattle.std.proofs.lemmas.List.{set-get_or}
use mathlib.Core.Option.{none, some, some-injective}
use lib.ListN.{get_elem?}
use mathlib.Core.Logic.{dite}
use native.Mathlib.Decide.{ℕ_discrete}
use Rattle.js_units.specs.Lanes.{words_over}
use prog.Atomic.{either}
use Rattle.atomic_table.specs.Table.{State, step, keeps, Allows, Joins, Splits}
use Rattle.heap_rule.specs.declared.view.View.{View}
use Rattle.heap_rule.specs.declared.size.Counter.{Counter}
use Rattle.heap_rule.specs.declared.size.Counter.TheVariants.{Ids, Words}
use Rattle.heap_rule.specs.Layout.{IsLawfulSize, counter_at, counter_value, end_of, content_at, form_at, length_at, length_word, slot_at, word_count, IsBorn, MAX}
use Rattle.heap_rule.specs.declared.size.HeapSize.{HeapSize}
use Rattle.heap_rule.specs.Agents.{joined_view, spent, noted, left_after_split, right_after_split}
use Rattle.heap_rule.specs.Loads.{with_form, added_loads, loaded_form, loaded_length, loaded_word, MayLoadWord}
use Rattle.heap_rule.specs.Slots.{MayEnter, units_seen, entry_in, loaded_slot, MayTakeSlot, took_slot}
use Rattle.heap_rule.specs.Learning.{learned_all, all_named}
use Rattle.heap_rule.specs.Claims.{loaded_counter, claimed, won_claim, MayClaimAtOnce}
use Rattle.heap_rule.specs.Births.{stored_word, MayStoreLength, stored_length, FormFits, MayBear, freeze_form, born, born_with}
use Rattle.heap_rule.specs.HeaderMoves.{CanThin, MayFlatten, MayThin, flattened, seen_form, thinned}
use Rattle.heap_rule.specs.Forms.{IsCons, IsLater, IsSliced, IsSolidForm}
use Rattle.heap_rule.specs.Kinds.{KeepsRule, flatten, thin}
use Rattle.std.proofs.Math.Logic.{∥∥₁_elim}
use Rattle.std.proofs.Props.{props}
use Rattle.heap_rule.specs.Sound.{IsSound, IsPossible, StandsIn}
use Rattle.heap_rule.specs.Maps.{Has, HasKey}
use Rattle.heap_rule.specs.Views.{MayUse, IsSeenSettled, shown_word}
use Rattle.js_header.specs.Form.{IsInRange, form_of, word_of}
use Rattle.js_header.specs.declared.form.Form.{Form}
use Rattle.js_header.specs.declared.form.Form.TheVariants.{Unborn, Flat, Cons, Sliced, Thin}
use Rattle.js_header.proofs.RoundTrip.{form_of-word_of}
use Rattle.std.specs.FinMap.{contains_key, entries, get, insert}
use Rattle.heap_rule.proofs.Steps.{keeps_loaded_counter, keeps_won_claim, keeps_stored_word, keeps_stored_length, possible_within, counter_found, known_below, sizes_are}
use Rattle.heap_rule.proofs.Loading.{keeps_loaded_form, form_found, known_born}
use Rattle.heap_rule.proofs.Loads.{keeps_loaded_length, keeps_loaded_word}
use Rattle.heap_rule.proofs.Splitting.{keeps_learned, keeps_noted, keeps_split, set_twice}
use Rattle.heap_rule.proofs.Seen.{keeps_loaded_slot}
use Rattle.heap_rule.proofs.KindsKept.{birth_by, kinds_keep, take_by}
use Rattle.heap_rule.proofs.Whole.{part_of, share_within, whole_counter, whole_slot}
use Rattle.heap_rule.proofs.Joining.{keeps_joined}
use Rattle.heap_rule.proofs.Parts.{shown_part_right}
use Rattle.heap_rule.proofs.Possible.{possible_frozen, possible_lawful}
use Rattle.heap_rule.proofs.ListLemmas.{set_else, set_there}
use Rattle.heap_rule.proofs.MapLemmas.{insert_same, has_key, key_of}
use Rattle.heap_table.specs.declared.rule.HeapKey.{HeapKey}
use Rattle.heap_table.specs.Rule.{AreSeenAlike, KeepsHeap}
use Rattle.heap_table.specs.Taken.{taken}
use Rattle.heap_table.proofs.Agreeing.{both_agree, taken_is}
use Rattle.heap_table.proofs.Alike.{IsAlike, alike_flattened, alike_joined, alike_now, alike_put, alike_same, alike_split, alike_thinned, alike_unborn, now_born}
use Rattle.heap_table.proofs.Stay.{known_form, known_length, known_word, known_birth, known_flattened, known_thinned, known_slot, known_took}
use Rattle.heap_table.specs.Plays.{Looked, Noted, AgentSeat, FoundCounter, LoadedCounter, IsClaim, StoredWord, StoredLength, GaveBirth, FlattenedForm, ThinnedForm}
use Rattle.heap_table.specs.Plays.{LoadedForm, LoadedLength, LoadedWord, SawSlot, TookSlot, FoundForm, FoundSlot, StaysSound}
use Rattle.heap_table.specs.Agents.{Belongs}
use Rattle.heap_table.specs.Known.{KeepsKnown}
use Rattle.heap_table.specs.declared.agent.Agent.{Agent}
use Rattle.heap_table.specs.declared.heap.Heap.{Heap}

-- what stands is put there again
set_same : {A : Type 0} (l : List A) (i : ℕ) (a : A) → get_elem? l i ≡ some a → set l i a ≡ l
set_same [] i a e = refl
set_same (x ∷ xs) zero a e = λ k. sym (some-injective x a e) k ∷ xs
set_same (x ∷ xs) (suc i) a e = λ k. x ∷ set_same xs i a e k

one_place : (k l : Counter) → counter_at k ≡ counter_at l → k ≡ l
one_place Ids Ids e = refl
one_place Words Words e = refl
one_place Ids Words e = absurd (omega arith)
one_place Words Ids e = absurd (omega arith)

one_content : (z : HeapSize) (c d : ℕ) → content_at z c ≡ content_at z d → c ≡ d
one_content z c d e = omega arith

one_form : (z : HeapSize) (c d : ℕ) → form_at z c ≡ form_at z d → c ≡ d
one_form z c d e = omega arith

one_length : (z : HeapSize) (c d : ℕ) → length_at z c ≡ length_at z d → c ≡ d
one_length z c d e = omega arith

one_slot : (z : HeapSize) (k l : ℕ) → slot_at z k ≡ slot_at z l → k ≡ l
one_slot z k l e = omega arith

-- a word spells one form
one_spelling : (f g : Form) → IsInRange f → IsInRange g → word_of f ≡ word_of g → f ≡ g
one_spelling f g a b e = let same : Some f ≡ Some g = sym (form_of-word_of f a) ∙ (ap form_of e ∙ form_of-word_of g b) in cc

one_want : (a m n : ℕ) → a + m ≡ a + n → m ≡ n
one_want a m n e = omega arith

-- a claim leaves these as they are
abbrev pub IsSameAgent : View → View → Type 0
IsSameAgent v w = (w.sizes ≡ v.sizes) × (w.live ≡ v.live) × (w.share ≡ v.share)

-- and it has seen the same forms
abbrev pub IsSameSeer : View → View → Type 0
IsSameSeer v w = (w.sizes ≡ v.sizes) × (w.live ≡ v.live) × (w.share ≡ v.share) × (w.forms ≡ v.forms)

claimed_by : (v : View) (k : Counter) (a n x : ℕ) (b : Bool) → IsSameSeer v (cond b (won_claim v k a n) (loaded_counter v k x))
claimed_by v Ids a n x true = (refl, refl, refl, refl)
claimed_by v Words a n x true = (refl, refl, refl, refl)
claimed_by v k a n x false = (refl, refl, refl, refl)

pub claimed_same : (v : View) (k : Counter) (a n x : ℕ) → IsSameSeer v (claimed v k a n x)
claimed_same v k a n x = claimed_by v k a n x (eqb x a)

slot_same : (v : View) (k : ℕ) (entry : Option (List ℕ)) (x : ℕ) → IsSameSeer v (loaded_slot v k entry x)
slot_same v k entry zero = (refl, refl, refl, refl)
slot_same v k entry (suc i) = (refl, refl, refl, refl)

took_same : (v : View) (k i x : ℕ) → IsSameSeer v (took_slot v k i x)
took_same v k i zero = (refl, refl, refl, refl)
took_same v k i (suc j) = (refl, refl, refl, refl)

cond_either : (b : Bool) (m n : ℕ) → cond b m n ≡ either b m n
cond_either true m n = refl
cond_either false m n = refl

form_same : (v : View) (i : ℕ) (o : Option Form) → IsSameAgent v (with_form v i o)
form_same v i None = (refl, refl, refl)
form_same v i (Some f) = (refl, refl, refl)

born_same : (v : View) (i : ℕ) (f : Form) → IsSameAgent v (born v i f)
born_same v i Unborn = (refl, refl, refl)
born_same v i (Flat wide start fixed) = (refl, refl, refl)
born_same v i (Cons wide left right) = (refl, refl, refl)
born_same v i (Sliced wide parent offset) = (refl, refl, refl)
born_same v i (Thin target) = (refl, refl, refl)

seen_same : (v : View) (i : ℕ) (o : Option Form) → IsSameAgent v (seen_form v i o)
seen_same v i None = (refl, refl, refl)
seen_same v i (Some f) = (refl, refl, refl)

flat_same : (v w : View) (i : ℕ) (o : Option Form) (b : Bool) → IsSameAgent v w → IsSameAgent v (cond b w (seen_form v i o))
flat_same v w i o true t = t
flat_same v w i o false t = seen_same v i o

frozen_same : (v : View) (n : ℕ) (f : Form) → IsSameAgent v (freeze_form v n f)
frozen_same v n Unborn = (refl, refl, refl)
frozen_same v n (Flat wide start fixed) = (refl, refl, refl)
frozen_same v n (Cons wide left right) = (refl, refl, refl)
frozen_same v n (Sliced wide parent offset) = (refl, refl, refl)
frozen_same v n (Thin target) = (refl, refl, refl)

flattened_same : (v : View) (i : ℕ) (old new : Form) (x : ℕ) → IsSameAgent v (flattened v i old new x)
flattened_same v i old new x = flat_same v (record (freeze_form v (length (unwrap_or (get v.units i) [])) new) {
  forms = insert v.forms i
      new;
}) i (form_of x) (eqb x (word_of old)) (frozen_same v (length (unwrap_or (get v.units i) [])) new)

thinned_same : (v : View) (i t : ℕ) (old : Form) (x : ℕ) → IsSameAgent v (thinned v i old t x)
thinned_same v i t old x = seen_same v i (cond (eqb x (word_of old)) (Some (Thin t)) (form_of x))

-- a Flat is of one line with all
flat_alike : (vs : List View) (v : View) (i : ℕ) (old new : Form) → MayFlatten v i old new → IsAlike vs i new
flat_alike vs v i old (Flat wide start false) may = λ k u a l g c. tt
flat_alike vs v i old (Flat wide start true) may = absurd may
flat_alike vs v i old Unborn may = absurd may
flat_alike vs v i old (Cons a b c) may = absurd may
flat_alike vs v i old (Sliced a b c) may = absurd may
flat_alike vs v i old (Thin a) may = absurd may

-- a counter counts what each agent claimed
used_within : (z : HeapSize) (agents : ℕ) (W : List ℕ) (vs : List View) → IsSound z agents W vs → (j : ℕ) (v : View) → get_elem? vs j ≡ some
    v → v.live ≡ true → (k : Counter) → counter_value v.used k ≤ get_or W (counter_at k) 0
used_within z agents W vs s j v at live Ids = let a = part_of (λ u. u.used.ids) vs j v at live in let b = s.added.ids in omega arith
used_within z agents W vs s j v at live Words = let a = part_of (λ u. u.used.words) vs j v at live in let b = s.added.words in omega arith

module _ (key : HeapKey) (slots id : ℕ) (me : AgentSeat) (live : me.0.live ≡ true) where
  found : (k : Counter) (s : State (Unit {0}) View) → IsSound key.size key.agents s.words s.views → get_elem? s.views id ≡ some me.0 → FoundCounter me.0 k (get_or s.words (counter_at k) 0)
  found k s h at = let f = counter_found key.size key.agents s.words s.views h id me.0 at live k in record {
    grown = f.0;
    used = used_within key.size key.agents s.words s.views h id me.0 at live k;
    within = f.1;
    above = λ e i known. subst (λ (q : Counter). i < get_or s.words (counter_at q) 0) (sym e) (known_below key.size key.agents s.words s.views h id me.0 at live i known);
    own_ids = λ e i own. subst (λ (q : Counter). i < get_or s.words (counter_at q) 0) (sym e) (let p = has_key me.0.own_ids i own in ((h.own_ids id me.0 at live).each i p.0 p.1).0);
    own_words = λ e c own. subst (λ (q : Counter). c < get_or s.words (counter_at q) 0) (sym e) (let p = has_key me.0.own_words c own in ((h.own_words id me.0 at live).each c p.0 p.1).0);
    whole = whole_counter key.size key.agents s.words s.views h id me.0 at live k;
  }

  -- what the rule says of the view after a step
  after_possible : (s : State (Unit {0}) View) → get_elem? s.views id ≡ some me.0 → (W : List ℕ) (w : View) → w.live ≡ true → IsSound key.size key.agents W (set s.views id w) → IsPossible w
  after_possible s at W w l h = ∣ (key.size, key.agents, W, set s.views id w, id, h, set_there s.views id w me.0 at, l) ∣₁

  abbrev Holds : List ℕ → List View → Type 0
  Holds W vs = IsSound key.size key.agents W vs × AreSeenAlike vs

  -- a load of the word p that leaves the view w
  pub a_load : (p : ℕ) (s : State (Unit {0}) View) (w : View) → Holds s.words (set s.views id w) → Holds (set s.words p (get_or s.words p 0)) (set s.views id w)
  a_load p s w h = subst (λ (ws : List ℕ). Holds ws (set s.views id w)) (sym (set-get_or s.words p 0)) h

  pub stores_word : (c n : ℕ) → HasKey me.0.own_words c → Allows (KeepsHeap key) slots id me (content_at me.0.sizes c) (λ _. n) (λ _. StoredWord (step slots (content_at me.0.sizes c) n 0 none) me n)
  stores_word c n own s (h, b) _ at _ = let w : View = stored_word me.0 c n in let z : HeapSize = key.size in
      let same : me.0.sizes ≡ z = sizes_are key.size key.agents s.words s.views h id me.0 at live in
      let kept = keeps_stored_word key.size key.agents s.words s.views h id me.0 at live c n own in (
        w,
        keeps,
        tt,
        subst (λ (y : HeapSize). Holds (set s.words (content_at y c) n) (set s.views id w)) (sym same) (kept, alike_same s.views b id me.0 at live w refl),
        (
          record {
            slots = refl;
            sizes = refl;
            live = refl;
            share = refl;
            possible = after_possible s at (set s.words (content_at key.size c) n) w live kept;
          },
          λ d e. let is : c ≡ d = one_content me.0.sizes
              c d e in ap (λ (y : ℕ). stored_word me.0 y n) is,
        ),
      )

  pub loads_form : (i : ℕ) → MayUse me.0 i → Allows (KeepsHeap key) slots id me (form_at me.0.sizes i) (λ n. n) (LoadedForm (step slots (form_at me.0.sizes i) 0 0 none) me)
  loads_form i known s (h, b) _ at _ = let z : HeapSize = me.0.sizes in let x : ℕ = get_or s.words (form_at z i) 0 in let w : View = learned_all (loaded_form me.0 i x) in
      let same : z ≡ key.size = sizes_are key.size key.agents s.words s.views h id me.0 at live in
      let kept : IsSound key.size key.agents s.words (set s.views id w) = subst
      (λ (y : HeapSize). IsSound key.size key.agents s.words (set s.views id (learned_all (loaded_form me.0 i (get_or s.words (form_at y i) 0))))) (sym same)
      (keeps_loaded_form key.size key.agents s.words s.views h id me.0 at live i known (all_named (entries (loaded_form me.0 i (get_or s.words (form_at key.size i) 0)).forms))) in
      let spelt = form_found key.size key.agents s.words s.views h id me.0 at live i known in
      let found : form_of x ≡ Some spelt.0 = ap (λ (y : HeapSize). form_of (get_or s.words (form_at y i) 0)) same ∙ spelt.1 in
      let born = known_born key.size key.agents s.words s.views h id me.0 at live i known in let some_form = now_born key.size key.agents s.words s.views h i spelt.0 born spelt.1 in
      let alike = alike_put s.views b id me.0 at live w i spelt.0 (ap (λ (o : Option Form). (with_form me.0 i o).forms) found) (alike_now key.size key.agents s.words s.views h i spelt.0 spelt.1) in (
        w,
        keeps,
        tt,
        a_load (form_at z i) s w (kept, alike),
        (
          let t = form_same me.0 i (form_of x) in record { slots = refl; sizes = t.0; live = t.1; share = t.2; possible = after_possible s at s.words w (t.1 ∙ live) kept },
          known_form key.size key.agents s.words s.views h id me.0 at live i x spelt.0 found spelt.1 kept,
          (spelt.0, found, some_form),
          λ d e. let is : i ≡ d = one_form z i d e in subst (λ (y : ℕ). (w ≡ learned_all (loaded_form me.0 y x)) × FoundForm me.0 y x) is (
            refl,
            record {
              later = λ f now t e'. let k = (h.knows id me.0 at live).of_forms i f t in
                  let d : Some k.now ≡ Some now = sym k.decodes ∙ (ap (λ (y : HeapSize). form_of (get_or s.words (form_at y i) 0)) (sym same)
                  ∙ e') in let same' : k.now ≡ now = cc in
                  subst (λ (y : Form). (f ≡ y) ⊎ IsLater f y) same' k.later;
              solid = λ j wide offset t. subst (λ (y : HeapSize). IsSolidForm (form_of (get_or s.words (form_at y i) 0))) (sym same)
                  ((h.knows id me.0 at live).of_forms j (Sliced wide i offset) t).shows.1;
            },
          ),
        ),
      )

  pub loads : (k : Counter) → Allows (KeepsHeap key) slots id me (counter_at k) (λ n. n) (LoadedCounter (step slots (counter_at k) 0 0 none) me)
  loads k s (h, b) _ at _ = let x : ℕ = get_or s.words (counter_at k) 0 in let w : View = loaded_counter me.0 k x in (
    w,
    keeps,
    tt,
    a_load (counter_at k) s w (keeps_loaded_counter key.size key.agents s.words s.views h id me.0 at live k x refl, alike_same s.views b id me.0 at live w refl),
    (
      record {
        slots = refl;
        sizes = refl;
        live = refl;
        share = refl;
        possible = after_possible s at s.words w live
            (keeps_loaded_counter key.size key.agents s.words s.views h id me.0 at live k x refl);
      },
      λ l e. subst
          (λ (q : Counter). (w ≡ loaded_counter me.0 q x) × FoundCounter me.0 q x) (one_place k l e) (refl, found k s h at),
    ),
  )

  -- a claim, whether it is won or lost, of however many pieces
  claim_keeps : (k : Counter) (a want : ℕ) → MayClaimAtOnce me.0 k a want → (s : State (Unit {0}) View) → IsSound key.size key.agents s.words
      s.views → get_elem? s.views id ≡ some me.0 → (x : ℕ) → x ≡ get_or s.words (counter_at k) 0 → Dec (x ≡ a)
      → IsSound key.size key.agents (set s.words (counter_at k) (either (eqb x a) (a + want) x)) (set s.views id (claimed me.0 k a want x))
  claim_keeps k a want may s h at x is (yes hit) = subst (λ b. IsSound key.size key.agents
      (set s.words (counter_at k) (either b (a + want) x)) (set s.views id (cond b (won_claim me.0 k a want) (loaded_counter me.0 k x)))) (sym (eq-eqb x a hit))
      (keeps_won_claim key.size key.agents s.words s.views h id me.0 at live k a want may.1 (sym hit ∙ is))
  claim_keeps k a want may s h at x is (no miss) = subst (λ b. IsSound key.size key.agents
      (set s.words (counter_at k) (either b (a + want) x)) (set s.views id (cond b (won_claim me.0 k a want) (loaded_counter me.0 k x)))) (sym (ne_eqb x a miss))
      (subst (λ (ws : List ℕ). IsSound key.size key.agents ws (set s.views id (loaded_counter me.0 k x)))
      (sym (ap (set s.words (counter_at k)) is ∙ set-get_or s.words (counter_at k) 0))
      (keeps_loaded_counter key.size key.agents s.words s.views h id me.0 at live k x is))

  pub claims : (k : Counter) (a want : ℕ) → MayClaimAtOnce me.0 k a want → Allows (KeepsHeap key) slots id me (counter_at k)
      (λ n. either (eqb n a) (a + want) n) (IsClaim (step slots (counter_at k) a (a + want) none) me)
  claims k a want may s (h, b) _ at _ = let x : ℕ = get_or s.words (counter_at k) 0 in let w : View = claimed me.0 k a want x in (
    w,
    keeps,
    tt,
    (claim_keeps k a want may s h at x refl (ℕ_discrete x a), alike_same s.views b id me.0 at live w (claimed_same me.0 k a want x).3),
    (
      let t = claimed_same me.0 k a want x in record {
        slots = refl;
        sizes = t.0;
        live = t.1;
        share = t.2;
        possible = after_possible s at (set s.words (counter_at k) (either (eqb x a) (a + want) x)) w (t.1 ∙ live)
            (claim_keeps k a want may s h at x refl (ℕ_discrete x a));
      },
      λ l m e f. subst
          (λ (q : Counter × ℕ). (w ≡ claimed me.0 q.0 a q.1 x) × FoundCounter me.0 q.0 x) (λ i. (one_place k l e i, one_want a want m f i)) (refl, found k s h at),
    ),
  )

  pub stores_length : (i n : ℕ) → MayStoreLength me.0 i n → Allows (KeepsHeap key) slots id me (length_at me.0.sizes i) (λ _. n) (λ _. StoredLength (step slots (length_at me.0.sizes i) n 0 none) me n)
  stores_length i n may s (h, b) _ at _ = let w : View = stored_length me.0 i n in let z : HeapSize = key.size in
      let same : me.0.sizes ≡ z = sizes_are key.size key.agents s.words s.views h id me.0 at live in
      let kept = keeps_stored_length key.size key.agents s.words s.views h id me.0 at live i n may in (
        w,
        keeps,
        tt,
        subst (λ (y : HeapSize). Holds (set s.words (length_at y i) n) (set s.views id w)) (sym same) (kept, alike_same s.views b id me.0 at live w refl),
        (
          record {
            slots = refl;
            sizes = refl;
            live = refl;
            share = refl;
            possible = after_possible s at (set s.words (length_at key.size i) n) w live kept;
          },
          λ d e. let is : i ≡ d = one_length me.0.sizes i
              d e in ap (λ (y : ℕ). stored_length me.0 y n) is,
        ),
      )

  -- a birth
  bears_form : (i n : ℕ) (f : Form) → IsInRange f → Has me.0.own_ids i n → FormFits me.0 i n f
      → Allows (KeepsHeap key) slots id me (form_at me.0.sizes i) (λ _. word_of f) (λ _. GaveBirth (step slots (form_at me.0.sizes i) (word_of f) 0 none) me (word_of f))
  bears_form i n f range own fits s (h, b) _ at _ = let w : View = born me.0 i f in let z : HeapSize = key.size in let t = born_same me.0 i f in
      let same : me.0.sizes ≡ z = sizes_are key.size key.agents s.words s.views h id me.0 at live in
      let as_born : born_with me.0 i n f ≡ w = ap (λ (o : Option ℕ). born_with me.0 i (unwrap_or o 0) f) (sym own) in
      let kept : IsSound key.size key.agents (set s.words (form_at z i) (word_of f)) (set s.views id w) =
      subst (λ (y : View). IsSound key.size key.agents (set s.words (form_at z i) (word_of f)) (set s.views id y)) as_born
      (birth_by key.size key.agents s.words s.views h id me.0 at live i n f own fits).0 in (
        w,
        keeps,
        tt,
        subst (λ (y : HeapSize). Holds (set s.words (form_at y i) (word_of f)) (set s.views id w)) (sym same) (
          kept,
          alike_put s.views b id me.0 at live w i f refl (alike_unborn key.size key.agents s.words s.views h i f
              ((h.own_ids id me.0 at live).each i n own).1),
        ),
        (
          record { slots = refl; sizes = t.0; live = t.1; share = t.2; possible = after_possible s at (set s.words (form_at z i) (word_of f)) w (t.1 ∙ live) kept },
          known_birth z key.agents s.words s.views h id me.0 at live i f (key_of me.0.own_ids i n own),
          λ d g e q r. let is : i ≡ d = one_form me.0.sizes i d e in let alike : f ≡ g = one_spelling f g range r q in λ k. born me.0 (is k) (alike k),
        ),
      )

  pub bears : (i : ℕ) (f : Form) → IsInRange f → MayBear me.0 i f → Allows (KeepsHeap key) slots id me (form_at me.0.sizes i)
      (λ _. word_of f) (λ _. GaveBirth (step slots (form_at me.0.sizes i) (word_of f) 0 none) me (word_of f))
  bears i f range (n, own, fits) = bears_form i n f range own fits

  -- what is learned comes on top of a step that changed no word
  then_learned : (s : State (Unit {0}) View) → get_elem? s.views id ≡ some me.0 → (w : View) → w.live ≡ true → IsSound key.size key.agents
      s.words (set s.views id w) → IsSound key.size key.agents s.words (set s.views id (learned_all w))
  then_learned s at w l h = subst (λ (vs : List View). IsSound key.size key.agents s.words vs) (set_twice s.views id w (learned_all w))
      (keeps_learned key.size key.agents s.words (set s.views id w) h id w (set_there s.views id w me.0 at) l (all_named (entries w.forms)))

  pub loads_length : (i : ℕ) → MayUse me.0 i → Allows (KeepsHeap key) slots id me (length_at me.0.sizes i) (λ n. n) (LoadedLength (step slots (length_at me.0.sizes i) 0 0 none) me)
  loads_length i known s (h, b) _ at _ = let z : HeapSize = me.0.sizes in let x : ℕ = get_or s.words (length_at z i) 0 in let w : View = learned_all (loaded_length me.0 i x) in
      let same : z ≡ key.size = sizes_are key.size key.agents s.words s.views h id me.0 at live in
      let kept : IsSound key.size key.agents s.words (set s.views id w) = then_learned s at (loaded_length me.0 i x) live
      (subst (λ (y : HeapSize). IsSound key.size key.agents s.words (set s.views id
      (loaded_length me.0 i (get_or s.words (length_at y i) 0)))) (sym same)
      (keeps_loaded_length key.size key.agents s.words s.views h id me.0 at live i known)) in
      let short : x ≤ MAX = subst (λ (y : HeapSize). get_or s.words (length_at y i) 0 ≤ MAX) (sym same)
      (h.standing i (known_born key.size key.agents s.words s.views h id me.0 at live i known)).short in (
        w,
        keeps,
        tt,
        a_load (length_at z i) s w (kept, alike_same s.views b id me.0 at live w refl),
        (
          record { slots = refl; sizes = refl; live = refl; share = refl; possible = after_possible s at s.words w live kept },
          known_length
              key.size key.agents s.words s.views h id me.0 at live i x (ap (λ (y : HeapSize). get_or s.words (length_at y i) 0) (sym same)) kept,
          short,
          refl,
          λ d e. let is : i ≡ d = one_length z i d e in ap (λ (y : ℕ). learned_all (loaded_length me.0 y x)) is,
        ),
      )

  -- what the view has for the word afterwards is what was found
  word_shown : (c x : ℕ) (own : Option ℕ) → get me.0.own_words c ≡ own → ((y : ℕ) → Has me.0.own_words c y → y ≡ x) → x ≡ shown_word (loaded_word me.0 c x) c
  word_shown c x (Some y) e found = sym (ap (λ (o : Option ℕ). shown_word
      (cond (is_some o) me.0 (record me.0 { frozen = insert me.0.frozen c x })) c) e ∙
      (ap (λ (o : Option ℕ). unwrap_or o (unwrap_or (get me.0.frozen c) 0)) e ∙ found y e))
  word_shown c x None e found = sym (ap (λ (o : Option ℕ). shown_word (cond (is_some o) me.0 (record me.0 { frozen = insert me.0.frozen c x })) c) e
      ∙ (ap (λ (o : Option ℕ). unwrap_or o (unwrap_or (get (insert me.0.frozen c x) c) 0)) e ∙ ap (λ (o : Option ℕ). unwrap_or o 0) (insert_same me.0.frozen c x)))

  word_same : (c x : ℕ) (b : Bool) → IsSameSeer me.0 (cond b me.0 (record me.0 { frozen = insert me.0.frozen c x }))
  word_same c x true = (refl, refl, refl, refl)
  word_same c x false = (refl, refl, refl, refl)

  pub loads_word : (c : ℕ) → MayLoadWord me.0 c → Allows (KeepsHeap key) slots id me (content_at me.0.sizes c) (λ n. n) (LoadedWord (step slots (content_at me.0.sizes c) 0 0 none) me)
  loads_word c may s (h, b) _ at _ = let z : HeapSize = me.0.sizes in let x : ℕ = get_or s.words (content_at z c) 0 in let v : View = loaded_word me.0 c x in let w : View = learned_all v in
      let same : z ≡ key.size = sizes_are key.size key.agents s.words s.views h id me.0 at live in let t = word_same c x (contains_key me.0.own_words c) in
      let kept : IsSound key.size key.agents s.words (set s.views id w) = then_learned s at v (t.1 ∙ live)
      (subst (λ (y : HeapSize). IsSound key.size key.agents s.words (set s.views id
      (loaded_word me.0 c (get_or s.words (content_at y c) 0)))) (sym same) (keeps_loaded_word key.size key.agents s.words s.views h id me.0 at live c may)) in
      let found : (y : ℕ) → Has me.0.own_words c y → y ≡ x = (λ y o. sym (ap (λ (q : HeapSize). get_or s.words (content_at q c) 0) same ∙ ((h.own_words id me.0 at live).each c y o).1)) in (
        w,
        keeps,
        tt,
        a_load (content_at z c) s w (kept, alike_same s.views b id me.0 at live w t.3),
        (
          record { slots = refl; sizes = t.0; live = t.1; share = t.2; possible = after_possible s at s.words w (t.1 ∙ live) kept },
          known_word key.size key.agents s.words s.views h id me.0 at live c x (ap (λ (y : HeapSize). get_or s.words (content_at y c) 0) (sym same)) kept,
          t.3,
          λ d e. let is : c ≡ d = one_content z c d e in subst (λ (y : ℕ). (w ≡ learned_all (loaded_word me.0 y x)) × (x ≡ shown_word w y)) is (refl, word_shown c x (get me.0.own_words c) refl found),
        ),
      )

  -- the word of a slot
  slot_found : (s : State (Unit {0}) View) → IsSound key.size key.agents s.words s.views → get_elem? s.views id ≡ some me.0 → (k : ℕ) → k <
      key.size.slots → FoundSlot me.0 k (get_or s.words (slot_at key.size k) 0)
  slot_found s h at k inside = record {
    within = λ i e. subst (λ (y : HeapSize). i < y.ids) (sym (sizes_are key.size key.agents s.words s.views h id me.0 at live)) (h.slots k i inside e).born.0;
    again = λ i g. ((h.knows id me.0 at live).of_slots k i g).1;
    whole = λ e i is. whole_slot key.size key.agents s.words s.views h id me.0 at live e k i inside is;
  }

  pub sees_slot : (entry : View → ℕ → Option (List ℕ)) (k : ℕ) → k < me.0.sizes.slots → MayEnter me.0 k (entry me.0 k)
      → Allows (KeepsHeap key) slots id me (slot_at me.0.sizes k) (λ n. n) (SawSlot entry (step slots (slot_at me.0.sizes k) 0 0 none) me)
  sees_slot entry k inside may s (h, b) _ at _ = let z : HeapSize = key.size in let x : ℕ = get_or s.words (slot_at z k) 0 in
      let v : View = loaded_slot me.0 k (entry me.0 k) x in let w : View = learned_all v in
      let same : me.0.sizes ≡ z = sizes_are z key.agents s.words s.views h id me.0 at live in let t = slot_same me.0 k (entry me.0 k) x in
      let within : k < z.slots = subst (λ (y : HeapSize). k < y.slots) same inside in
      let kept : IsSound z key.agents s.words (set s.views id w) = then_learned s at v (t.1 ∙ live) (keeps_loaded_slot z key.agents s.words s.views h id me.0 at live k within (entry me.0 k) may) in (
        w,
        keeps,
        tt,
        a_load (slot_at z k) s w (kept, alike_same s.views b id me.0 at live w t.3),
        (
          record { slots = refl; sizes = t.0; live = t.1; share = t.2; possible = after_possible s at s.words w (t.1 ∙ live) kept },
          known_slot z key.agents s.words s.views h id me.0 at live k within (entry me.0 k) x refl kept,
          t.3,
          λ d e. let is : k ≡ d = one_slot z k d e in subst (λ (y : ℕ). (w ≡ learned_all (loaded_slot me.0 y (entry me.0 y) x)) × FoundSlot me.0 y x) is (refl, slot_found s h at k within),
        ),
      )

  pub takes_slot : (k i : ℕ) → MayTakeSlot me.0 k i → Allows (KeepsHeap key) slots id me (slot_at me.0.sizes k)
      (λ n. either (eqb n 0) (i + 1) n) (TookSlot (step slots (slot_at me.0.sizes k) 0 (i + 1) none) me)
  takes_slot k i may s (h, b) _ at _ = let z : HeapSize = key.size in let x : ℕ = get_or s.words (slot_at z k) 0 in
      let v : View = took_slot me.0 k i x in let w : View = learned_all v in let n : ℕ = either (eqb x 0) (i + 1) x in
      let same : me.0.sizes ≡ z = sizes_are z key.agents s.words s.views h id me.0 at live in let t = took_same me.0 k i x in
      let within : k < z.slots = subst (λ (y : HeapSize). k < y.slots) same may.0 in
      let all = subst (λ (y : ℕ). KeepsRule z key.agents s.words (set s.words (slot_at z k) y) (set s.views id w))
      (cond_either (eqb x 0) (i + 1) x) (take_by z key.agents s.words s.views h id me.0 at live k i (all_named (entries v.forms)) x within may refl) in (
        w,
        keeps,
        tt,
        (all.0, alike_same s.views b id me.0 at live w t.3),
        (
          record { slots = refl; sizes = t.0; live = t.1; share = t.2; possible = after_possible s at (set s.words (slot_at z k) n) w (t.1 ∙ live) all.0 },
          known_took z key.agents s.words s.views h id me.0 at live (set s.words (slot_at z k) n) (λ q c. (all.1 q c).1) k i within x refl all.0,
          t.3,
          λ d m e f. let is : k ≡ d = one_slot z k d e in let alike : i ≡ m = omega arith in
              subst (λ (y : ℕ × ℕ). (w ≡ learned_all (took_slot me.0 y.0 y.1 x)) × FoundSlot me.0 y.0 x) (λ c. (is c, alike c)) (refl, slot_found s h at k within),
        ),
      )

  -- a flattening, whether it is won or lost
  pub flattens : (i : ℕ) (old new : Form) → IsInRange old → IsInRange new → MayFlatten me.0 i old new
      → Allows (KeepsHeap key) slots id me (form_at me.0.sizes i) (λ n. either (eqb n (word_of old)) (word_of new) n)
      (FlattenedForm (step slots (form_at me.0.sizes i) (word_of old) (word_of new) none) me)
  flattens i old new old_range range may s (h, b) _ at _ = let z : HeapSize = me.0.sizes in let X : HeapSize → ℕ = λ y. get_or s.words (form_at y i) 0 in let x : ℕ = X z in
      let v : View = flattened me.0 i old new x in let w : View = learned_all v in let t = flattened_same me.0 i old new x in
      let N : HeapSize → ℕ = λ y. either (eqb (X y) (word_of old)) (word_of new) (X y) in let W' : List ℕ = set s.words (form_at z i) (N z) in
      let same : z ≡ key.size = sizes_are key.size key.agents s.words s.views h id me.0 at live in
      let all : KeepsRule key.size key.agents s.words W' (set s.views id w) =
      subst (λ (y : HeapSize). KeepsRule key.size key.agents s.words (set s.words (form_at y i) (N y)) (set s.views id (learned_all (flattened me.0 i old new (X y))))) (sym same)
      (subst (λ (y : ℕ). KeepsRule key.size key.agents s.words (set s.words (form_at key.size i) y)
      (set s.views id (learned_all (flattened me.0 i old new (X key.size))))) (cond_either (eqb (X key.size) (word_of old)) (word_of new) (X key.size))
      (kinds_keep key.size key.agents s.words s.views id me.0 (flatten i old new) (all_named (entries (flattened me.0 i old new (X key.size)).forms)) h at live may)) in
      let k = known_flattened key.size key.agents s.words s.views h id me.0 at live W' (λ q c. (all.1 q c).1) i old new may x (ap X (sym same)) all.0 in (
        w,
        keeps,
        tt,
        (all.0, alike_flattened key.size key.agents s.words s.views h b id me.0 at live i old new (flat_alike s.views me.0 i old new may) x (ap X (sym same))),
        (
          record { slots = refl; sizes = t.0; live = t.1; share = t.2; possible = after_possible s at W' w (t.1 ∙ live) all.0 },
          k.0,
          λ d e g p q r a c. let is : i ≡ d = one_form z i d p in let olds : old ≡ e = one_spelling old e old_range a q in let news : new ≡ g = one_spelling new g range c r in
              subst (λ (y : ℕ × Form × Form). (w ≡ learned_all (flattened me.0 y.0 y.1 y.2 x)) × IsSeenSettled w y.0) (λ m. (is m, olds m, news m)) (refl, k.1),
        ),
      )

  -- a thinning, whether it is won or lost
  pub thins : (i t : ℕ) (old : Form) → IsInRange old → t < 2 ^ 29 → MayThin me.0 i old t
      → Allows (KeepsHeap key) slots id me (form_at me.0.sizes i) (λ n. either (eqb n (word_of old)) (word_of (Thin t)) n)
      (ThinnedForm (step slots (form_at me.0.sizes i) (word_of old) (word_of (Thin t)) none) me)
  thins i t old old_range small may s (h, b) _ at _ = let z : HeapSize = me.0.sizes in let X : HeapSize → ℕ = λ y. get_or s.words (form_at y i) 0 in let x : ℕ = X z in
      let v : View = thinned me.0 i old t x in let w : View = learned_all v in let same_agent = thinned_same me.0 i t old x in
      let N : HeapSize → ℕ = λ y. either (eqb (X y) (word_of old)) (word_of (Thin t)) (X y) in let W' : List ℕ = set s.words (form_at z i) (N z) in
      let same : z ≡ key.size = sizes_are key.size key.agents s.words s.views h id me.0 at live in
      let all : KeepsRule key.size key.agents s.words W' (set s.views id w) =
      subst (λ (y : HeapSize). KeepsRule key.size key.agents s.words (set s.words (form_at y i) (N y)) (set s.views id (learned_all (thinned me.0 i old t (X y))))) (sym same)
      (subst (λ (y : ℕ). KeepsRule key.size key.agents s.words (set s.words (form_at key.size i) y)
      (set s.views id (learned_all (thinned me.0 i old t (X key.size))))) (cond_either (eqb (X key.size) (word_of old)) (word_of (Thin t)) (X key.size))
      (kinds_keep key.size key.agents s.words s.views id me.0 (thin i old t) (all_named (entries (thinned me.0 i old t (X key.size)).forms)) h at live may)) in
      let k = known_thinned key.size key.agents s.words s.views h id me.0 at live W' (λ q c. (all.1 q c).1) i t old may x (ap X (sym same)) all.0 in (
        w,
        keeps,
        tt,
        (all.0, alike_thinned key.size key.agents s.words s.views h b id me.0 at live i t old x (ap X (sym same))),
        (
          record { slots = refl; sizes = same_agent.0; live = same_agent.1; share = same_agent.2; possible = after_possible s at W' w (same_agent.1 ∙ live) all.0 },
          k.0,
          λ d u e p q r a l. let is : i ≡ d = one_form z i d p in let olds : old ≡ e = one_spelling old e old_range a q in
              let news : t ≡ u = (let g : Thin t ≡ Thin u = one_spelling (Thin t) (Thin u) small l r in cc) in
              subst (λ (y : ℕ × ℕ × Form). (w ≡ learned_all (thinned me.0 y.0 y.2 y.1 x)) × Has w.forms y.0 (Thin y.1)) (λ m. (is m, news m, olds m)) (refl, k.1),
        ),
      )

  same_anyway : (x g : ℕ) → Dec (x ≡ g) → either (eqb x g) g x ≡ x
  same_anyway x g (yes e) = ap (λ b. either b g x) (eq-eqb x g e) ∙ sym e
  same_anyway x g (no ne) = ap (λ b. either b g x) (ne_eqb x g ne)

  -- a compare-exchange from a number to itself changes no word, and tells the number
  pub notes : (give : ℕ) → Allows (KeepsHeap key) slots id me 0 (λ n. either (eqb n give) give n) (Noted (step slots 0 give give none) me)
  notes give s (h, b) _ at _ = let x : ℕ = get_or s.words 0 0 in let w : View = noted me.0 give in let kept = keeps_noted key.size key.agents s.words s.views h id me.0 at live give in (
    w,
    keeps,
    tt,
    subst (λ (y : ℕ). Holds (set s.words 0 y) (set s.views id w)) (sym (same_anyway x give (ℕ_discrete x give))) (a_load 0 s w (kept, alike_same s.views b id me.0 at live w refl)),
    (record { slots = refl; sizes = refl; live = refl; share = refl; possible = after_possible s at s.words w live kept }, refl),
  )

  -- a load that changes no view
  pub looks : key.agents ≤ 64 → Allows (KeepsHeap key) slots id me 0 (λ n. n) (Looked (step slots 0 0 0 none) me)
  looks few s (h, b) _ at _ = let same : set s.views id me.0 ≡ s.views = set_same s.views id me.0 at in
      let kept : IsSound key.size key.agents s.words (set s.views id me.0) = subst (λ (vs : List View). IsSound key.size key.agents s.words vs) (sym same) h in
      let l = share_within key.size key.agents s.words s.views h id me.0 at live in (
        me.0,
        keeps,
        tt,
        a_load 0 s me.0 (kept, alike_same s.views b id me.0 at live me.0 refl),
        (record { slots = refl; sizes = refl; live = refl; share = refl; possible = after_possible s at s.words me.0 live kept }, refl, omega arith),
      )

pub joins : (key : HeapKey) (id other : ℕ) (v b : View) → v.live ≡ true → b.live ≡ true → Joins (KeepsHeap key) id v other b (taken v b) spent
joins key id other v b live live' s (h, alike) at ne at' = let apart : id ≢ other = (λ e. ne (sym e)) in
    let at_other : get_elem? s.views other ≡ some b = sym (set_else s.views id other (taken v b) ne) ∙ at' in
    let same : taken v b ≡ joined_view v b = taken_is v b (both_agree key.size key.agents s.words s.views h alike id other v b apart at live at_other live') in (
      subst (λ (w : View). IsSound key.size key.agents s.words (set (set s.views id w) other spent)) (sym same)
          (keeps_joined key.size key.agents s.words s.views h id other v b apart at live at_other live'),
      subst (λ (w : View). AreSeenAlike (set (set s.views id w) other spent)) (sym same) (alike_joined s.views alike id v at live other b at_other live'),
    )

pub splits : (key : HeapKey) (id : ℕ) (v : View) → v.live ≡ true → 1 ≤ v.giving → v.giving < v.share → Splits (KeepsHeap key) id v (left_after_split v v.giving) (right_after_split v v.giving)
splits key id v live some_give less s (h, b) at = (
  keeps_split key.size key.agents s.words s.views h id v at live v.giving some_give less,
  alike_split s.views b id v at live (left_after_split v v.giving) (right_after_split v v.giving) refl refl,
)

pub end_small : (z : HeapSize) (k : Counter) → IsLawfulSize z → end_of z k < 2 ^ 29
end_small z Ids h = h.1
end_small z Words h = h.3

-- a word that may be loaded lies in the heap
pub word_within : (v : View) → IsPossible v → (c : ℕ) → MayLoadWord v c → c < v.sizes.words
word_within v p c may = ⊎_elim (λ (h : HasKey v.own_words c). (possible_within v p).words c h) (λ h. possible_frozen v p c h) may

-- a form that may be born is spelt by a word
sliced_in : (v : View) → StandsIn v → (i n : ℕ) (wide : Bool) (parent offset : ℕ) → Has v.own_ids i n → FormFits v i n (Sliced wide parent offset) → (parent < 2 ^ 29) × (offset < 2 ^ 29)
sliced_in v (z, agents, W, vs, j, s, at, live) i n wide parent offset own fits = let know = s.knows j v at live in
    let born : IsBorn z W parent = ⊎_elim (λ (t : (f : Form) × Has v.forms parent f × (IsCons f → ⊥) × (IsSliced f → ⊥)). (know.of_forms parent t.0 t.1).born)
    (λ (t : (l : ℕ) × (x : Bool) × (o : ℕ) × Has v.forms l (Sliced x parent o)). (know.of_forms t.0 (Sliced t.1 parent t.2) t.3).shows.0) fits.2 in
    let room = (shown_part_right z W vs s.standing v know parent offset n fits.3.0 fits.3.1).1 in
    let st = s.standing parent born in let long = st.length_is in let short = st.short in let inside = born.0 in let small = s.lawful.1 in (omega arith, omega arith)

pub born_in_range : (v : View) → IsPossible v → (i : ℕ) (f : Form) → MayBear v i f → IsInRange f
born_in_range v p i (Flat wide start fixed) may = may.2.0
born_in_range v p i (Cons wide left right) may = let l : left < i = may.2.0 in let r : right < i = may.2.1 in
    let in_heap = (possible_within v p).ids i (key_of v.own_ids i may.0 may.1) in let small = (possible_lawful v p).1 in (omega arith, omega arith)
born_in_range v p i (Sliced wide parent offset) may = ∥∥₁_elim p (Prim.hlevel props) (λ t. sliced_in v t i may.0 wide parent offset may.1 may.2)
born_in_range v p i Unborn may = absurd may.2
born_in_range v p i (Thin target) may = absurd may.2

-- the string in a slot has an id of the heap
slot_in : (v : View) → StandsIn v → (k t : ℕ) → Has v.slots k t → t < 2 ^ 29
slot_in v (z, agents, W, vs, j, s, at, live) k t h = let p = (s.knows j v at live).of_slots k t h in let inside = (s.slots k t p.0 p.1).born.0 in let small = s.lawful.1 in omega arith

pub slot_in_range : (v : View) → IsPossible v → (k t : ℕ) → Has v.slots k t → t < 2 ^ 29
slot_in_range v p k t h = ∥∥₁_elim p (Prim.hlevel props) (λ q. slot_in v q k t h)

-- so are the two forms of a flattening: a Cons that was seen, and the Flat that is to take its place
cons_in : (v : View) → StandsIn v → (i : ℕ) (wide : Bool) (left right : ℕ) → Has v.forms i (Cons wide left right) → (left < 2 ^ 29) × (right < 2 ^ 29)
cons_in v (z, agents, W, vs, j, s, at, live) i wide left right h = let k = (s.knows j v at live).of_forms i (Cons wide left right) h in
    let l : left < i = k.shows.3 in let r : right < i = k.shows.4 in let inside = k.born.0 in let small = s.lawful.1 in (omega arith, omega arith)

pub cons_in_range : (v : View) → IsPossible v → (i : ℕ) (old : Form) → Has v.forms i old → IsCons old → IsInRange old
cons_in_range v p i (Cons wide left right) h cons = ∥∥₁_elim p (Prim.hlevel props) (λ t. cons_in v t i wide left right h)
cons_in_range v p i Unborn h cons = absurd cons
cons_in_range v p i (Flat wide start fixed) h cons = absurd cons
cons_in_range v p i (Sliced wide parent offset) h cons = absurd cons
cons_in_range v p i (Thin target) h cons = absurd cons

-- So is a form that may come to forward. A Flat's first word lies in the heap, and an empty one starts at 0; a Sliced lies in its parent.
first_word : (wide : Bool) (start n : ℕ) → n ≢ 0 → start < start + words_over wide n
first_word true start n h = omega arith
first_word false start n h = omega arith

flat_in : (v : View) → StandsIn v → (i : ℕ) (wide : Bool) (start : ℕ) → Has v.forms i (Flat wide start false) → start < 2 ^ 29
flat_in v (z, agents, W, vs, j, s, at, live) i wide start h = let k = (s.knows j v at live).of_forms i (Flat wide start false) h in
    dite (ℕ_discrete (length_word z W i) 0) (λ e. let none : start ≡ 0 = k.shows.4 e in omega arith)
    (λ some. let below = (k.shows.1 start (omega arith) (first_word wide start (length_word z W i) some)).below in let inside = s.counted.words_end in let small = s.lawful.3 in omega arith)

cut_in : (v : View) → StandsIn v → (i : ℕ) (wide : Bool) (parent offset : ℕ) → Has v.forms i (Sliced wide parent offset) → (parent < 2 ^ 29) × (offset < 2 ^ 29)
cut_in v (z, agents, W, vs, j, s, at, live) i wide parent offset h = let k = (s.knows j v at live).of_forms i (Sliced wide parent offset) h in
    let room = k.shows.3 in let st = s.standing parent k.shows.0 in let long = st.length_is in let short = st.short in let inside = k.shows.0.0 in let small = s.lawful.1 in (omega arith, omega arith)

pub thin_in_range : (v : View) → IsPossible v → (i : ℕ) (old : Form) → Has v.forms i old → CanThin old → IsInRange old
thin_in_range v p i (Flat wide start false) h can = ∥∥₁_elim p (Prim.hlevel props) (λ t. flat_in v t i wide start h)
thin_in_range v p i (Sliced wide parent offset) h can = ∥∥₁_elim p (Prim.hlevel props) (λ t. cut_in v t i wide parent offset h)
thin_in_range v p i (Flat wide start true) h can = absurd can
thin_in_range v p i Unborn h can = absurd can
thin_in_range v p i (Cons wide left right) h can = absurd can
thin_in_range v p i (Thin target) h can = absurd can

-- an id of which a form was seen lies in the heap
form_in : (v : View) → StandsIn v → (i : ℕ) (f : Form) → Has v.forms i f → i < v.sizes.ids
form_in v (z, agents, W, vs, j, s, at, live) i f h = subst (λ (y : HeapSize). i < y.ids) (sym (sizes_are z agents W vs s j v at live)) ((s.knows j v at live).of_forms i f h).born.0

pub form_seen : (v : View) → IsPossible v → (i : ℕ) (f : Form) → Has v.forms i f → i < v.sizes.ids
form_seen v p i f h = ∥∥₁_elim p (Prim.hlevel props) (λ t. form_in v t i f h)

pub is_flattening : (v : View) (i : ℕ) (old new : Form) → MayFlatten v i old new → Has v.forms i old × IsCons old × IsInRange new
is_flattening v i old (Flat wide start false) may = (may.0, may.1, may.2)
is_flattening v i old (Flat wide start true) may = absurd may
is_flattening v i old Unborn may = absurd may
is_flattening v i old (Cons a b c) may = absurd may
is_flattening v i old (Sliced a b c) may = absurd may
is_flattening v i old (Thin a) may = absurd may

pub counter_small : (z : HeapSize) (k : Counter) → counter_at k < word_count z
counter_small z Ids = omega arith
counter_small z Words = omega arith

pub content_small : (z : HeapSize) (c : ℕ) → c < z.words → content_at z c < word_count z
content_small z c h = omega arith

pub slot_small : (z : HeapSize) (k : ℕ) → k < z.slots → slot_at z k < word_count z
slot_small z k h = omega arith

pub length_small : (z : HeapSize) (i : ℕ) → i < z.ids → length_at z i < word_count z
length_small z i h = omega arith

pub form_small : (z : HeapSize) (i : ℕ) → i < z.ids → form_at z i < word_count z
form_small z i h = omega arith

-- an agent belongs to its heap after a step of its seat
pub belongs_then : (h : Heap) (a b : Agent) → Belongs a h → b.share ≡ a.share → b.seat.table_id ≡ a.seat.table_id → StaysSound a.seat.me b.seat.me → Belongs b h
belongs_then h a b g n t s = (t ∙ g.0, s.sizes ∙ g.1, s.live ∙ g.2, s.slots ∙ g.3, s.share ∙ (g.4 ∙ sym n), s.possible)

-- what the view knows of a string that it saw in a slot may enter the history
pub may_enter : (v : View) (k : ℕ) (o : Option ℕ) → get v.slots k ≡ o → MayEnter v k (units_seen v o)
may_enter v k None e = tt
may_enter v k (Some i) e = with_units v k i e (get v.units i) refl
  where
    with_units : (v : View) (k i : ℕ) → get v.slots k ≡ Some i → (o : Option (List ℕ)) → get v.units i ≡ o → MayEnter v k o
    with_units v k i e None u = tt
    with_units v k i e (Some us) u = (i, e, u)

pub may_enter_in : (v : View) (k : ℕ) → MayEnter v k (entry_in v k)
may_enter_in v k = may_enter v k (get v.slots k) refl

-- a form that is loaded for a settled string is no Cons
form_after : (v : View) (i n : ℕ) (o : Option Form) (f : Form) → o ≡ Some f → Has (learned_all (record (with_form v i o) { form_loads = n })).forms i f
form_after v i n None f e = absurd (cc)
form_after v i n (Some g) f e = insert_same v.forms i g ∙ e

pub settled_form : (v w : View) (i x : ℕ) (f : Form) → form_of x ≡ Some f → w ≡ learned_all (loaded_form v i x) → KeepsKnown v w → IsSeenSettled v i → IsCons f → ⊥
settled_form v w i x f spelt e k h cons = let t = k.settled i h in
    let there : Has w.forms i f = subst (λ (u : View). Has u.forms i f) (sym e) (form_after v i (added_loads v.form_loads 1) (form_of x) f spelt) in
    let same : Some t.0 ≡ Some f = sym t.1 ∙ there in let is : f ≡ t.0 = cc in t.2 (subst IsCons is cons)
