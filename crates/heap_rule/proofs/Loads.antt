-- Loads of a length and of a content word keep the rule; and a word that is known to be frozen is one that nobody owns.
use Rattle.std.proofs.Common.{◌≡◌, ◌≢◌, ℕ, ◌≤◌, ⊎_elim, Bool, true, false, cond, List, length, set, sym, refl, ap, ◌∙◌, subst, arith}
use Rattle.std.specs.FinMap.{insert, contains_key}
use Rattle.js_units.specs.Lanes.{words_over}
use Rattle.js_header.specs.declared.form.Form.TheVariants.{Flat, Sliced, Thin}
use Rattle.heap_rule.specs.declared.view.View.{View}
use Rattle.heap_rule.specs.declared.size.HeapSize.{HeapSize}
use Rattle.heap_rule.specs.Layout.{content, length_word, IsBorn}
use Rattle.heap_rule.specs.Contents.{units_of}
use Rattle.heap_rule.specs.Maps.{Has, HasKey}
use Rattle.heap_rule.specs.Views.{HasLength, IsFrozen, MayUse}
use Rattle.heap_rule.specs.Sound.{At, IsKept, IsStanding, Knows, IsSound}
use Rattle.heap_rule.specs.Loads.{MayLoadWord, loaded_word, loaded_length}
use Rattle.heap_rule.proofs.MapLemmas.{has_insert, has_key}
use Rattle.heap_rule.proofs.Agreement.{Agrees, kept_then}
use Rattle.heap_rule.proofs.Steps.{unmoved, same_words, knew, recalled}
use Rattle.heap_rule.proofs.Loading.{known_born}

more_words : (wide : Bool) (n m : ℕ) → n ≤ m → words_over wide n ≤ words_over wide m
more_words true n m l = omega arith
more_words false n m l = omega arith

module _ (z : HeapSize) (W : List ℕ) (vs : List View) (stand : (i : ℕ) → IsBorn z W i → IsStanding z W vs i) (v : View) (k : Knows z W vs v) where
  pub length_right : (i n : ℕ) → IsBorn z W i → HasLength v i n → n ≤ length_word z W i
  length_right i n b h = ⊎_elim
      (λ (t : Has v.lengths i n). let e = (k.of_lengths i n t).1 in omega arith)
      (λ t. let j = t.0 in let parent = t.2 in let offset = t.3 in let len = t.4 in let f = k.of_forms j (Sliced t.1 parent offset) t.5 in
      let l = (k.of_lengths j len t.6).1 in let e = t.7 in let room = f.shows.3 in
      let own = (stand i b).length_is in
      ⊎_elim
      (λ (p : parent ≡ i). let same : length (units_of z W parent) ≡ length (units_of z W i) = ap (λ (x : ℕ). length (units_of z W x)) p in omega arith)
      (λ (p : Has v.forms parent (Thin i)). let same : length (units_of z W i) ≡ length (units_of z W parent) = ap length (k.of_forms parent (Thin i) p).shows.1 in omega arith)
      t.8) h

  pub frozen_right : (c : ℕ) → IsFrozen v c → IsKept W vs c
  frozen_right c h = ⊎_elim
      (λ (t : HasKey v.frozen c). let p = has_key v.frozen c t in (k.of_frozen c p.0 p.1).0)
      (λ t. let i = t.0 in let wide = t.1 in let start = t.2 in let n = t.4 in let f = k.of_forms i (Flat wide start t.3) t.5 in
      let l = length_right i n f.born t.6 in let m = more_words wide n (length_word z W i) l in
      let lo = t.7 in let hi = t.8 in f.shows.1 c lo (omega arith)) h

module _ (z : HeapSize) (agents : ℕ) (W : List ℕ) (vs : List View) (s : IsSound z agents W vs) (j : ℕ) (v : View) (at : At vs j v) (live : v.live ≡ true) where
  pub keeps_loaded_length : (i : ℕ) → MayUse v i → IsSound z agents W (set vs j (loaded_length v i (length_word z W i)))
  keeps_loaded_length i known = let x : ℕ = length_word z W i in let w : View = loaded_length v i x in
      let agrees : Agrees z W vs W (set vs j w) = same_words z agents W vs s j v at live w refl in let k = knew z agents W vs s j v at live W w agrees in
      unmoved z agents W vs s j v at live w live refl refl refl refl refl refl
      record {
        of_met = k.of_met;
        of_units = k.of_units;
        of_forms = k.of_forms;
        of_lengths = λ q n h. ⊎_elim (λ (t : (q ≡ i) × (x ≡ n)). (
          subst (IsBorn z W) (sym t.0)
              (known_born z agents W vs s j v at live i known),
          ap (λ (y : ℕ). length_word z W y) t.0 ∙ t.1,
        ))
            (λ (t : (q ≢ i) × Has v.lengths q n). k.of_lengths q n t.1) (has_insert v.lengths i q x n h);
        of_frozen = k.of_frozen;
        of_slots = k.of_slots;
      } (recalled z agents W vs s j v at live W w agrees) (λ u q h. h) (s.lows j v at live)

  loads_by : (c : ℕ) (b : Bool) → (b ≡ false → IsFrozen v c) → IsSound z agents W (set vs j (cond b v (record v { frozen = insert v.frozen c (content z W c) })))
  loads_by c true f = let agrees : Agrees z W vs W (set vs j v) = same_words z agents W vs s j v at live v refl in
      unmoved z agents W vs s j v at live v live refl refl refl refl refl refl (knew z agents W vs s j v at live W v agrees)
      (recalled z agents W vs s j v at live W v agrees) (λ u q h. h) (s.lows j v at live)
  loads_by c false f = let x : ℕ = content z W c in let w : View = record v { frozen = insert v.frozen c x } in
      let agrees : Agrees z W vs W (set vs j w) = same_words z agents W vs s j v at live w refl in let k = knew z agents W vs s j v at live W w agrees in
      let kept = kept_then z W vs s.standing W (set vs j w) agrees c (frozen_right z W vs s.standing v (s.knows j v at live) c (f refl)) in
      unmoved z agents W vs s j v at live w live refl refl refl refl refl refl
      record {
        of_met = k.of_met;
        of_units = k.of_units;
        of_forms = k.of_forms;
        of_lengths = k.of_lengths;
        of_frozen = λ d y h. ⊎_elim (λ (t : (d ≡ c) × (x ≡ y)). (
          subst (IsKept W (set vs j w)) (sym t.0) kept,
          ap (λ (q : ℕ). content z W q)
              t.0 ∙ t.1,
        )) (λ (t : (d ≢ c) × Has v.frozen d y). k.of_frozen d y t.1) (has_insert v.frozen c d x y h);
        of_slots = k.of_slots;
      } (recalled z agents W vs s j v at live W w agrees) (λ u q h. h) (s.lows j v at live)

  pub keeps_loaded_word : (c : ℕ) → MayLoadWord v c → IsSound z agents W (set vs j (loaded_word v c (content z W c)))
  keeps_loaded_word c may = loads_by c (contains_key v.own_words c) (λ e. ⊎_elim (λ (h : HasKey v.own_words c). let both : true ≡ false = sym h ∙ e in absurd (cc)) (λ h. h) may)
