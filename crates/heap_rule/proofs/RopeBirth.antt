-- The birth of a string that has no words of its own, a Cons or a Sliced, keeps the rule.
use Rattle.std.proofs.Common.{◌≡◌, ◌≢◌, ℕ, zero, suc, ◌+◌, ◌<◌, ◌≤◌, ◌⊎◌, inl, inr, ⊎_elim, Bool, true, false, List, [], ◌∷◌, ◌++◌, take, drop, length, set}
use Rattle.std.proofs.Common.{sym, refl, ap, ◌∙◌, subst, arith, Option, Some, get_or-set_other, get_or-set_same, length-set}
use Rattle.std.specs.Prelude.{nat_lt, unwrap_or}
use Rattle.std.proofs.lemmas.Bool.{lt-ltb}
use mathlib.Core.Logic.{dite}
use native.Mathlib.Decide.{ℕ_discrete}
use Rattle.std.specs.FinMap.{FinMap, insert, remove}
use Rattle.std.specs.Ordering.{nat_cmp}
use Rattle.js_header.specs.Form.{form_of, word_of, IsInRange}
use Rattle.js_header.specs.declared.form.Form.{Form}
use Rattle.js_header.specs.declared.form.Form.TheVariants.{Unborn, Flat, Cons, Sliced, Thin}
use Rattle.js_header.proofs.RoundTrip.{form_of-word_of}
use Rattle.heap_rule.specs.declared.view.View.{View}
use Rattle.heap_rule.specs.declared.size.HeapSize.{HeapSize}
use Rattle.heap_rule.specs.Layout.{MAX, form_at, length_at, content_at, next_id, next_word, form, length_word, content, IsBorn}
use Rattle.heap_rule.specs.Contents.{shape, shape_by, solid, units_by, units_of, units_in}
use Rattle.heap_rule.specs.Maps.{Has, HasKey}
use Rattle.heap_rule.specs.Forms.{IsCons, IsSliced, IsSolid, IsSolidForm, IsLater, IsNarrow}
use Rattle.heap_rule.specs.Births.{shown_part, units_for, FormFits, born_with}
use Rattle.heap_rule.specs.Sound.{At, IsStanding, StandsAs, Shows, KnowsForm, OwnsIds, OwnsWords, IsSound}
use Rattle.heap_rule.proofs.MapLemmas.{has_insert, has_remove, has_key, key_of}
use Rattle.heap_rule.proofs.UnitLemmas.{units_step}
use Rattle.heap_rule.proofs.Agreement.{Agrees, low, solid_stays, units_then}
use Rattle.heap_rule.proofs.Carried.{false_true, standing_then}
use Rattle.heap_rule.proofs.OneView.{one_view, no_slot}
use Rattle.heap_rule.proofs.Steps.{added_keep, free_by, knew, recalled}
use Rattle.heap_rule.proofs.Loading.{if_both, solid_is, stands_shows}
use Rattle.heap_rule.proofs.Parts.{shown_part_right}

length_append : (a b : List ℕ) → length (a ++ b) ≡ length a + length b
length_append [] b = omega arith
length_append (x ∷ a) b = let h = length_append a b in omega arith

length_part : (o n : ℕ) (us : List ℕ) → o + n ≤ length us → length (take n (drop o us)) ≡ n
length_part zero zero us l = refl
length_part zero (suc n) [] l = absurd (omega arith)
length_part zero (suc n) (u ∷ us) l = let h = length_part zero n us (omega arith) in omega arith
length_part (suc o) n [] l = absurd (omega arith)
length_part (suc o) n (u ∷ us) l = length_part o n us (omega arith)

-- a string that was seen settled and not Sliced is solid now
solid_still : (f g : Form) → (IsCons f → ⊥) → (IsSliced f → ⊥) → (f ≡ Unborn → ⊥) → (f ≡ g) ⊎ IsLater f g → IsSolid g
solid_still Unborn g a b c h = absurd (c refl)
solid_still (Cons x l r) g a b c h = absurd (a tt)
solid_still (Sliced x l r) g a b c h = absurd (b tt)
solid_still (Flat x l true) g a b c h = ⊎_elim (λ e. subst IsSolid e tt) (λ l'. absurd (false_true l')) h
solid_still (Thin t) g a b c h = ⊎_elim (λ e. subst IsSolid e tt) (λ l'. absurd (false_true l')) h
solid_still (Flat x l false) (Thin t) a b c h = tt
solid_still (Flat x l false) (Flat y m k) a b c h = tt
solid_still (Flat x l false) Unborn a b c h = ⊎_elim (λ (e : Flat x l false ≡ Unborn). absurd (cc)) (λ l'. absurd (false_true l')) h
solid_still (Flat x l false) (Cons y m k) a b c h = ⊎_elim (λ (e : Flat x l false ≡ Cons y m k). absurd (cc)) (λ l'. absurd (false_true l')) h
solid_still (Flat x l false) (Sliced y m k) a b c h = ⊎_elim (λ (e : Flat x l false ≡ Sliced y m k). absurd (cc)) (λ l'. absurd (false_true l')) h

module _ (z : HeapSize) (agents : ℕ) (W : List ℕ) (vs : List View) (s : IsSound z agents W vs) (j : ℕ) (v : View) (at : At vs j v) (live : v.live ≡ true) (i n : ℕ) (own : Has v.own_ids i n) where
  mine : (i < next_id W) × (form z W i ≡ 0) × (length_word z W i ≡ n) × (n ≤ MAX)
  mine = (s.own_ids j v at live).each i n own

  inside : i < z.ids
  inside = let a = mine.0 in let b = s.counted.ids_end in omega arith

  module _ (f : Form) (range : IsInRange f) (us : List ℕ) where
    abbrev w : View
    w = record v { own_ids = remove v.own_ids i; units = insert v.units i us; forms = insert v.forms i f; lengths = insert v.lengths i n }

    abbrev W' : List ℕ
    W' = set W (form_at z i) (word_of f)

    abbrev vs' : List View
    vs' = set vs j w

    forms : (q : ℕ) → q ≢ i → form z W' q ≡ form z W q
    forms q ne = get_or-set_other W (form_at z i) (form_at z q) (word_of f) 0 (λ e. ne (omega arith))

    lengths : (q : ℕ) → length_word z W' q ≡ length_word z W q
    lengths q = get_or-set_other W (form_at z i) (length_at z q) (word_of f) 0 (λ e. omega arith)

    contents : (c : ℕ) → content z W' c ≡ content z W c
    contents c = let h = inside in get_or-set_other W (form_at z i) (content_at z c) (word_of f) 0 (λ e. omega arith)

    ids_same : next_id W' ≡ next_id W
    ids_same = get_or-set_other W (form_at z i) 0 (word_of f) 0 (λ e. omega arith)

    words_same : next_word W' ≡ next_word W
    words_same = get_or-set_other W (form_at z i) 1 (word_of f) 0 (λ e. omega arith)

    pub agrees_rope : Agrees z W vs W' vs'
    agrees_rope = let a = ids_same in let b = words_same in record {
      ids = omega arith;
      words = omega arith;
      forms = λ q b. inl (forms q (λ e. b.1 (subst (λ (y : ℕ). form z W y ≡ 0) (sym e) mine.1)));
      lengths = λ q b. lengths q;
      contents = λ c k. contents c;
      slots = λ q h. inl (get_or-set_other W (form_at z i) (2 + q) (word_of f) 0 (λ e. omega arith));
      free = free_by z agents W vs s j v at live w (λ c _ h. h);
    }

    decodes : form_of (form z W' i) ≡ Some f
    decodes = let long = s.counted.long in let h = inside in ap form_of (get_or-set_same W (form_at z i) (word_of f) 0 (omega arith)) ∙ form_of-word_of f range

    -- what is born stays so, and shows what it showed
    born_still : (q : ℕ) → IsBorn z W q → IsBorn z W' q
    born_still q b = (b.0, λ e. b.1 (sym (forms q (λ is. b.1 (subst (λ (y : ℕ). form z W y ≡ 0) (sym is) mine.1))) ∙ e))

    units_still : (q : ℕ) → IsBorn z W q → units_of z W q ≡ units_of z W' q
    units_still q b = units_then z W vs s.standing W' vs' agrees_rope q b

    length_now : length_word z W' i ≡ n
    length_now = lengths i ∙ mine.2

    shown_now : units_of z W' i ≡ units_by (units_of z W') (shape_by z W' i (Some f))
    unfolding shape
    shown_now = units_step (shape z W') (low z W') i ∙ ap (λ (o : Option Form). units_by (units_in (shape z W')) (shape_by z W' i o)) decodes

    module _ (units_now : units_of z W' i ≡ us) (size : length us ≡ n) (real : f ≢ Unborn) (stands : StandsAs z W' vs' i f) where
      born_now : IsBorn z W' i
      born_now = (inside, λ e. real (let d : Some Unborn ≡ Some f = ap form_of (sym e) ∙ decodes in let same : f ≡ Unborn = cc in same))

      standing : IsStanding z W' vs' i
      standing = record {
        now = f;
        decodes = decodes;
        below = (let a = ids_same in let b = mine.0 in omega arith);
        length_is = length_now ∙ (sym size ∙ ap length (sym units_now));
        short = subst (λ (m : ℕ). m ≤ MAX) (sym length_now) mine.3;
        stands = stands;
      }

      newborn : (q : ℕ) → IsBorn z W' q → IsBorn z W q ⊎ IsStanding z W' vs' q
      newborn q h = dite (ℕ_discrete q i) (λ e. inr (subst (λ (y : ℕ). IsStanding z W' vs' y) (sym e) standing)) (λ ne. inl (h.0, λ e. h.1 (forms q ne ∙ e)))

      stand_now : (q : ℕ) → IsBorn z W' q → IsStanding z W' vs' q
      stand_now q h = ⊎_elim (λ b. standing_then z W vs s.standing W' vs' agrees_rope q b) (λ t. t) (newborn q h)

      moved_ids : (m : FinMap nat_cmp ℕ) → ((k : ℕ) → HasKey m k → k ≢ i) → OwnsIds z W m → OwnsIds z W' m
      moved_ids m ne o = record { each = λ k y h. let t = o.each k y h in let a = ids_same in let b = t.0 in (omega arith, forms k (ne k (key_of m k y h)) ∙ t.1, lengths k ∙ t.2, t.3) }

      moved_words : (m : FinMap nat_cmp ℕ) → OwnsWords z W m → OwnsWords z W' m
      moved_words m o = record { each = λ c y h. let t = o.each c y h in let a = words_same in let b = t.0 in (omega arith, contents c ∙ t.1) }

      pub keeps_rope : IsSound z agents W' vs'
      keeps_rope = let k = knew z agents W vs s j v at live W' w agrees_rope in let counted = s.counted in let a = ids_same in let b = words_same in one_view z agents W vs j v W' w s at live record {
        live = live;
        agrees = agrees_rope;
        counted = record {
          long = length-set W (form_at z i) (word_of f) ∙ counted.long;
          ids_end = (let h = counted.ids_end in omega arith);
          words_end = (let h = counted.words_end in omega arith);
          no_form = λ q lo hi. forms q (λ e. let m = mine.0 in omega arith) ∙ counted.no_form q (omega arith) hi;
          no_length = λ q lo hi. lengths q ∙ counted.no_length q (omega arith) hi;
          no_content = λ c lo hi. contents c ∙ counted.no_content c (omega arith) hi;
        };
        newborn = newborn;
        own_ids = record {
          each = λ q y h. let t = has_remove v.own_ids i q y h in let o = (s.own_ids j v at live).each q y t.1 in
              let l = o.0 in (omega arith, forms q t.0 ∙ o.1, lengths q ∙ o.2, o.3);
        };
        own_words = moved_words v.own_words (s.own_words j v at live);
        others_ids = λ q u ne e l. let apart = s.ids_apart j v at live q u e l (λ x'. ne (sym x')) in (
          moved_ids u.own_ids (λ y h same. apart i (key_of v.own_ids i n own) (subst (HasKey u.own_ids) same h)) (s.own_ids q u e l),
          λ y h g. let p = has_key w.own_ids y h in apart y (key_of v.own_ids y p.0 (has_remove v.own_ids i y p.0 p.1).1) g,
        );
        others_words = λ q u ne e l. (moved_words u.own_words (s.own_words q u e l), s.words_apart j v at live q u e l (λ x'. ne (sym x')));
        knows = record {
          of_met = k.of_met;
          of_units = λ q xs h. ⊎_elim (λ (t : (q ≡ i) × (us ≡ xs)). (
            subst (IsBorn z W') (sym t.0) born_now,
            ap (units_of z W') t.0 ∙
                (units_now ∙ t.1),
          )) (λ (t : (q ≢ i) × Has v.units q xs). k.of_units q xs t.1) (has_insert v.units i q us xs h);
          of_forms = λ q g h. ⊎_elim (λ (t : (q ≡ i) × (f ≡ g)). subst (λ (y : ℕ × Form). KnowsForm z W' vs' y.0 y.1)
              (λ d. (sym t.0 d, t.1 d)) record {
                born = born_now;
                now = f;
                decodes = decodes;
                later = inl refl;
                shows = stands_shows z W' vs' stand_now i f decodes stands;
              })
              (λ (t : (q ≢ i) × Has v.forms q g). k.of_forms q g t.1) (has_insert v.forms i q f g h);
          of_lengths = λ q m h. ⊎_elim (λ (t : (q ≡ i) × (n ≡ m)). (
            subst (IsBorn z W') (sym t.0) born_now,
            ap
                (λ (y : ℕ). length_word z W' y) t.0 ∙ (length_now ∙ t.1),
          )) (λ (t : (q ≢ i) × Has v.lengths q m). k.of_lengths q m t.1)
              (has_insert v.lengths i q n m h);
          of_frozen = k.of_frozen;
          of_slots = k.of_slots;
        };
        recalls = recalled z agents W vs s j v at live W' w agrees_rope;
        mine = λ u q h. h;
        added = added_keep z agents W vs s j v at live w live refl refl W' a b;
        low = (let q = s.lows j v at live in let q0 = q.0 in let q1 = q.1 in (omega arith, omega arith));
        member = s.members j v at live;
        new_slots = no_slot z W vs W' vs' (λ q h. get_or-set_other W (form_at z i) (2 + q) (word_of f) 0 (λ e. omega arith));
      }

  -- a Cons
  module _ (wide : Bool) (left right : ℕ) (fits : FormFits v i n (Cons wide left right)) where
    abbrev cons : Form
    cons = Cons wide left right

    cons_range : IsInRange cons
    cons_range = let a = fits.0 in let b = fits.1 in let c = inside in let d = s.lawful.1 in (omega arith, omega arith)

    abbrev fit : (a : List ℕ) × (b : List ℕ) × Has v.units left a × Has v.units right b × (1 ≤ length a) × (1 ≤ length b) × (length a + length b ≡ n) × IsNarrow wide (a ++ b)
    fit = fits.3

    abbrev joint : List ℕ
    joint = fit.0 ++ fit.1

    left_is : IsBorn z W left × (units_of z W left ≡ fit.0)
    left_is = (s.knows j v at live).of_units left fit.0 fit.2

    right_is : IsBorn z W right × (units_of z W right ≡ fit.1)
    right_is = (s.knows j v at live).of_units right fit.1 fit.3

    abbrev cons_words : List ℕ
    cons_words = W' cons cons_range joint

    left_now : units_of z cons_words left ≡ fit.0
    left_now = sym (units_still cons cons_range joint left left_is.0) ∙ left_is.1

    right_now : units_of z cons_words right ≡ fit.1
    right_now = sym (units_still cons cons_range joint right right_is.0) ∙ right_is.1

    joint_now : units_of z cons_words i ≡ joint
    joint_now = shown_now cons cons_range joint
        ∙ (if_both [] [] (units_of z cons_words) left right (nat_lt left i) (nat_lt right i) (lt-ltb left i fits.0) (lt-ltb right i fits.1) ∙ (λ d. left_now d ++ right_now d))

    cons_stands : StandsAs z cons_words (vs' cons cons_range joint) i cons
    cons_stands = (
      fits.0,
      fits.1,
      born_still cons cons_range joint left left_is.0,
      born_still cons cons_range joint right right_is.0,
      subst (λ (xs : List ℕ). 1 ≤ length xs) (sym left_now) fit.4,
      subst (λ (xs : List ℕ). 1 ≤ length xs) (sym right_now) fit.5,
      subst (λ (m : ℕ). 13 ≤ m) (sym (length_now cons cons_range joint)) fits.2,
      subst (IsNarrow wide) (sym joint_now) fit.7,
    )

    units_are : units_for v n cons ≡ joint
    units_are = λ d. unwrap_or (fit.2 d) [] ++ unwrap_or (fit.3 d) []

    pub keeps_cons_birth : IsSound z agents (set W (form_at z i) (word_of cons)) (set vs j (born_with v i n cons))
    keeps_cons_birth = subst (λ (xs : List ℕ). IsSound z agents cons_words
        (set vs j (record v {
          own_ids = remove v.own_ids i;
          units = insert v.units i xs;
          forms = insert v.forms i cons;
          lengths = insert v.lengths i n;
        }))) (sym units_are)
        (keeps_rope cons cons_range joint joint_now (length_append fit.0 fit.1 ∙ fit.6) (λ (e : cons ≡ Unborn). absurd (cc)) cons_stands)

    pub agrees_cons_birth : Agrees z W vs (set W (form_at z i) (word_of cons)) (set vs j (born_with v i n cons))
    agrees_cons_birth = subst (λ (xs : List ℕ). Agrees z W vs cons_words
        (set vs j (record v {
          own_ids = remove v.own_ids i;
          units = insert v.units i xs;
          forms = insert v.forms i cons;
          lengths = insert v.lengths i n;
        }))) (sym units_are) (agrees_rope cons cons_range joint)

  -- a Sliced
  module _ (wide : Bool) (parent offset : ℕ) (fits : FormFits v i n (Sliced wide parent offset)) where
    abbrev sliced : Form
    sliced = Sliced wide parent offset

    abbrev cut : (us : List ℕ) × (shown_part v parent offset n ≡ Some us) × IsNarrow wide us
    cut = fits.3

    abbrev piece : List ℕ
    piece = cut.0

    parent_is : IsBorn z W parent × IsSolidForm (form_of (form z W parent))
    parent_is = ⊎_elim
        (λ (t : (f : Form) × Has v.forms parent f × (IsCons f → ⊥) × (IsSliced f → ⊥)). let k = (s.knows j v at live).of_forms parent t.0 t.1 in
        (k.born, subst IsSolidForm (sym k.decodes) (solid_still t.0 k.now t.2 t.3 (λ e. subst (Shows z W vs parent) e k.shows) k.later)))
        (λ (t : (l : ℕ) × (x : Bool) × (o : ℕ) × Has v.forms l (Sliced x parent o)). let k = (s.knows j v at live).of_forms t.0 (Sliced t.1 parent t.2) t.3 in (k.shows.0, k.shows.1))
        fits.2

    part_is : (piece ≡ take n (drop offset (units_of z W parent))) × (offset + n ≤ length (units_of z W parent))
    part_is = shown_part_right z W vs s.standing v (s.knows j v at live) parent offset n piece cut.1

    sliced_range : IsInRange sliced
    sliced_range = let a = fits.0 in let c = inside in let d = s.lawful.1 in let room = part_is.1 in
        let st = s.standing parent parent_is.0 in let long = st.length_is in let short = st.short in (omega arith, omega arith)

    abbrev sliced_words : List ℕ
    sliced_words = W' sliced sliced_range piece

    parent_units : solid z sliced_words parent ≡ units_of z W parent
    parent_units = sym (solid_stays z W vs s.standing sliced_words (vs' sliced sliced_range piece) (agrees_rope sliced sliced_range piece)
        parent parent_is.0 parent_is.1) ∙ solid_is z W vs s.standing parent parent_is.0 parent_is.1

    piece_now : units_of z sliced_words i ≡ piece
    piece_now = shown_now sliced sliced_range piece ∙ ((λ d. take (length_now sliced sliced_range piece d) (drop offset (parent_units d))) ∙ sym part_is.0)

    parent_form : form z sliced_words parent ≡ form z W parent
    parent_form = let a = fits.0 in forms sliced sliced_range piece parent (λ e. omega arith)

    sliced_stands : StandsAs z sliced_words (vs' sliced sliced_range piece) i sliced
    sliced_stands = (
      fits.0,
      born_still sliced sliced_range piece parent parent_is.0,
      subst (λ (x : ℕ). IsSolidForm (form_of x)) (sym parent_form) parent_is.1,
      subst (λ (m : ℕ). offset + m ≤ length (units_of z sliced_words parent)) (sym (length_now sliced sliced_range piece))
          (subst (λ (xs : List ℕ). offset + n ≤ length xs) (units_still sliced sliced_range piece parent parent_is.0) part_is.1),
      subst (λ (m : ℕ). 13 ≤ m) (sym (length_now sliced sliced_range piece)) fits.1,
      subst (IsNarrow wide) (sym piece_now) cut.2,
    )

    piece_is : units_for v n sliced ≡ piece
    piece_is = ap (λ (o : Option (List ℕ)). unwrap_or o []) cut.1

    pub keeps_sliced_birth : IsSound z agents (set W (form_at z i) (word_of sliced)) (set vs j (born_with v i n sliced))
    keeps_sliced_birth = subst (λ (xs : List ℕ). IsSound z agents sliced_words
        (set vs j (record v {
          own_ids = remove v.own_ids i;
          units = insert v.units i xs;
          forms = insert v.forms i sliced;
          lengths = insert v.lengths i n;
        }))) (sym piece_is)
        (keeps_rope sliced sliced_range piece piece_now (ap length part_is.0 ∙ length_part offset n (units_of z W parent) part_is.1) (λ (e : sliced ≡ Unborn). absurd (cc)) sliced_stands)

    pub agrees_sliced_birth : Agrees z W vs (set W (form_at z i) (word_of sliced)) (set vs j (born_with v i n sliced))
    agrees_sliced_birth = subst (λ (xs : List ℕ). Agrees z W vs sliced_words
        (set vs j (record v {
          own_ids = remove v.own_ids i;
          units = insert v.units i xs;
          forms = insert v.forms i sliced;
          lengths = insert v.lengths i n;
        }))) (sym piece_is) (agrees_rope sliced sliced_range piece)
