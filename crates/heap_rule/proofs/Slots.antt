-- A claim of a slot that is found free keeps the rule.
use Rattle.std.proofs.Common.{◌≡◌, ◌≢◌, ℕ, zero, suc, ◌+◌, ◌-◌, ◌*◌, ◌/◌, ◌%◌, ◌<◌, ◌≤◌, ◌⊎◌, inl, inr, ⊎_elim, Bool, true, List, [], ◌∷◌, ◌++◌, append_assoc}
use Rattle.std.proofs.Common.{length, get_or, set, sym, refl, ap, ◌∙◌, subst, arith, Some, get_or-set_other, get_or-set_same, length-set, mul-le-mul_right}
use Rattle.std.proofs.Common.{suc-mul, lt_of_not-le, div-add-mod', add-zero}
use Rattle.std.specs.Prelude.{Contains}
use Rattle.std.proofs.lemmas.List.Elements.{Contains-push, Contains-append_left}
use mathlib.Core.Logic.{dite}
use native.Mathlib.Decide.{ℕ_discrete, dec_le}
use Rattle.std.specs.FinMap.{FinMap, insert}
use Rattle.std.specs.Ordering.{nat_cmp}
use Rattle.js_units.specs.Lanes.{lane_count, hash_of}
use Rattle.js_header.specs.Form.{form_of}
use Rattle.js_header.specs.declared.form.Form.TheVariants.{Flat}
use Rattle.heap_rule.specs.declared.view.View.{View}
use Rattle.heap_rule.specs.declared.size.HeapSize.{HeapSize}
use Rattle.heap_rule.specs.Layout.{slot_at, form_at, length_at, content_at, next_id, next_word, slot, form, length_word, content, IsBorn}
use Rattle.heap_rule.specs.Contents.{units_of, span, lane_in}
use Rattle.heap_rule.specs.Maps.{Has}
use Rattle.heap_rule.specs.Paths.{Calls, rank}
use Rattle.heap_rule.specs.Views.{history}
use Rattle.heap_rule.specs.Sound.{At, OwnsIds, OwnsWords, IsUsed, Knows, Recalls, IsSound}
use Rattle.heap_rule.specs.Slots.{Differs}
use Rattle.heap_rule.proofs.MapLemmas.{has_insert, insert_same, insert_other}
use Rattle.heap_rule.proofs.UnitLemmas.{lane_same}
use Rattle.heap_rule.proofs.ListLemmas.{set_there}
use Rattle.heap_rule.proofs.Carried.{false_true}
use Rattle.heap_rule.proofs.Agreement.{Agrees, units_then}
use Rattle.heap_rule.proofs.OneView.{NewSlots, one_view}
use Rattle.heap_rule.proofs.Steps.{added_keep, free_by, knew, recalled}

further : (x y n : ℕ) → x < y → x * n + n ≤ y * n
further x y n h = let a : suc x * n ≤ y * n = mul-le-mul_right n h in omega (arith, suc-mul x n)

turns : (a b n : ℕ) → a ≤ b → b < a + n → a % n ≡ b % n → Dec (b / n ≤ a / n) → a ≡ b
turns a b n le lt e (yes d) = let m : b / n * n ≤ a / n * n = mul-le-mul_right n d in let p = div-add-mod' a n in let q = div-add-mod' b n in
    let x : ℕ = a / n * n in let y : ℕ = b / n * n in let r : ℕ = b % n in let p' : x + r ≡ a = ap (λ (k : ℕ). x + k) (sym e) ∙ p in let q' : y + r ≡ b = q in let m' : y ≤ x = m in omega arith
turns a b n le lt e (no d) = let m = further (a / n) (b / n) n (lt_of_not-le d) in let p = div-add-mod' a n in let q = div-add-mod' b n in
    let x : ℕ = a / n * n in let y : ℕ = b / n * n in let r : ℕ = b % n in let p' : x + r ≡ a = ap (λ (k : ℕ). x + k) (sym e) ∙ p in
    let q' : y + r ≡ b = q in let m' : x + n ≤ y = m in absurd (omega arith)

-- two slots of one rank are one
pub rank_one : (u : List ℕ) (n a b : ℕ) → a < n → b < n → rank u n a ≡ rank u n b → a ≡ b
rank_one u n a b l m e = let c : ℕ = n - hash_of u % n in dite (dec_le a b)
    (λ le. let h : a + c ≡ b + c = turns (a + c) (b + c) n (omega arith) (omega arith) e (dec_le ((b + c) / n) ((a + c) / n)) in omega arith)
    (λ gt. let h : b + c ≡ a + c = turns (b + c) (a + c) n (omega arith) (omega arith) (sym e) (dec_le ((a + c) / n) ((b + c) / n)) in omega arith)

span_at : (f : ℕ → ℕ) (wide : Bool) (start o n k : ℕ) → k < n → get_or (span f wide start o n) k 0 ≡ lane_in f wide start (o + k)
span_at f wide start o zero k l = absurd (omega arith)
span_at f wide start o (suc n) zero l = ap (λ (x : ℕ). lane_in f wide start x) (sym (add-zero o))
span_at f wide start o (suc n) (suc k) l = let e : suc o + k ≡ o + suc k = omega arith in span_at f wide start (suc o) n k (omega arith) ∙ ap (λ (x : ℕ). lane_in f wide start x) e

-- a pair of a list with one more at its end
pub last_or : {X : Type 0} (xs : List X) (y x : X) → Contains (xs ++ y ∷ []) x → Contains xs x ⊎ (y ≡ x)
last_or [] y x (zero, l, e) = inr e
last_or [] y x (suc k, l, e) = absurd (omega arith)
last_or (a ∷ xs) y x (zero, l, e) = inl (zero, omega arith, e)
last_or (a ∷ xs) y x (suc k, l, e) = ⊎_elim (λ (t : Contains xs x). let m = t.1 in inl (suc t.0, omega arith, t.2)) (λ t. inr t) (last_or xs y x (k, omega arith, e))

-- what differs by the view differs
pub differs_right : (z : HeapSize) (agents : ℕ) (W : List ℕ) (vs : List View) (s : IsSound z agents W vs) (v : View) (k : Knows
    z W vs v) (us : List ℕ) (i : ℕ) → IsBorn z W i → Differs v us i → units_of z W i ≢ us
differs_right z agents W vs s v k us i b d e = ⊎_elim
    (λ (t : (n : ℕ) × Has v.lengths i n × (n ≢ length us)). t.2 (sym (k.of_lengths i t.0 t.1).1 ∙ ((s.standing i b).length_is ∙ ap length e)))
    (λ rest. ⊎_elim
    (λ (t : (ws : List ℕ) × Has v.units i ws × (ws ≢ us)). t.2 (sym (k.of_units i t.0 t.1).1 ∙ e))
    (λ t. let wide = t.0 in let start = t.1 in let o = t.3 in let x = t.4 in let f = k.of_forms i (Flat wide start t.2) t.5 in
    let n : length_word z W i ≡ length us = (s.standing i b).length_is ∙ ap length e in
    let word = (k.of_frozen (start + o / lane_count wide) x t.7).1 in
    let shown : us ≡ span (content z W) wide start 0 (length us) = sym e ∙ (f.shows.0 ∙ ap (λ (m : ℕ). span (content z W) wide start 0 m) n) in
    let zero_plus : 0 + o ≡ o = omega arith in
    t.8 (lane_same (λ _. x) (content z W) wide start o (sym word) ∙ sym
    (ap (λ (l : List ℕ). get_or l o 0) shown ∙ (span_at (content z W) wide start 0 (length us) o t.6 ∙ ap
    (λ (y : ℕ). lane_in (content z W) wide start y) zero_plus))))
    rest) d

module _ (z : HeapSize) (agents : ℕ) (W : List ℕ) (vs : List View) (s : IsSound z agents W vs) (j : ℕ) (v : View) (at : At vs j v) (live : v.live ≡ true)
    (k i : ℕ) (us : List ℕ) (inside : k < z.slots) (wide : Bool) (start : ℕ) (fixed : Has v.forms i (Flat wide start true)) (units : Has v.units i us) (free : slot z W k ≡ 0)
    (before : (l : ℕ) → l < z.slots → rank us z.slots l < rank us z.slots k → (t : ℕ) × Has v.slots l t × Differs v us t) where
  abbrev w : View
  w = record v { slots = insert v.slots k i; mine = v.mine ++ (us, i) ∷ [] }

  abbrev W' : List ℕ
  W' = set W (slot_at z k) (i + 1)

  abbrev vs' : List View
  vs' = set vs j w

  known : Knows z W vs v
  known = s.knows j v at live

  moved : (p : ℕ) → p ≢ slot_at z k → get_or W' p 0 ≡ get_or W p 0
  moved p ne = get_or-set_other W (slot_at z k) p (i + 1) 0 ne

  others : (l : ℕ) → l ≢ k → slot z W' l ≡ slot z W l
  others l ne = moved (slot_at z l) (λ e. ne (omega arith))

  taken : slot z W' k ≡ i + 1
  taken = let long = s.counted.long in get_or-set_same W (slot_at z k) (i + 1) 0 (omega arith)

  ids_same : next_id W' ≡ next_id W
  ids_same = moved 0 (λ e. omega arith)

  words_same : next_word W' ≡ next_word W
  words_same = moved 1 (λ e. omega arith)

  forms : (q : ℕ) → form z W' q ≡ form z W q
  forms q = moved (form_at z q) (λ e. omega arith)

  lengths : (q : ℕ) → length_word z W' q ≡ length_word z W q
  lengths q = moved (length_at z q) (λ e. omega arith)

  contents : (c : ℕ) → content z W' c ≡ content z W c
  contents c = moved (content_at z c) (λ e. omega arith)

  pub agrees_took_slot : Agrees z W vs W' vs'
  agrees_took_slot = let a = ids_same in let b = words_same in record {
    ids = omega arith;
    words = omega arith;
    forms = λ q b. inl (forms q);
    lengths = λ q b. lengths q;
    contents = λ c h. contents c;
    slots = λ l h. dite (ℕ_discrete l k) (λ e. inr (ap (λ (y : ℕ). slot z W y) e ∙ free)) (λ ne. inl (others l ne));
    free = free_by z agents W vs s j v at live w (λ c _ h. h);
  }

  units_were : IsBorn z W i × (units_of z W i ≡ us)
  units_were = known.of_units i us units

  units_now : units_of z W' i ≡ us
  units_now = sym (units_then z W vs s.standing W' vs' agrees_took_slot i units_were.0) ∙ units_were.1

  -- a slot that the view has isn't k
  not_here : (l q : ℕ) → Has v.slots l q → l ≢ k
  not_here l q h e = let p = (known.of_slots l q h).1 in let f : slot z W l ≡ 0 = ap (λ (y : ℕ). slot z W y) e ∙ free in omega arith

  keeps_slot : (q : ℕ) → ((l : ℕ) × Has v.slots l q) → (l : ℕ) × Has w.slots l q
  keeps_slot q t = (t.0, insert_other v.slots k t.0 i (not_here t.0 q t.1) ∙ t.1)

  changed : (l q : ℕ) → slot z W l ≡ 0 → slot z W' l ≡ q + 1 → (l ≡ k) × (q ≡ i)
  changed l q a b = dite (ℕ_discrete l k) (λ e. let t = taken in
      let c : slot z W' k ≡ q + 1 = ap (λ (y : ℕ). slot z W' y) (sym e) ∙ b in (e, omega arith)) (λ ne. let o = others l ne in absurd (omega arith))

  fixed_now : form_of (form z W' i) ≡ Some (Flat wide start true)
  fixed_now = let f = known.of_forms i (Flat wide start true) fixed in ap form_of (forms i) ∙ (f.decodes ∙ ap Some (sym (⊎_elim (λ e. e) (λ l. absurd (false_true l)) f.later)))

  born_now : (q : ℕ) → IsBorn z W q → IsBorn z W' q
  born_now q b = (b.0, λ e. b.1 (sym (forms q) ∙ e))

  earlier : (l : ℕ) → l < z.slots → rank us z.slots l < rank us z.slots k → slot z W' l ≢ 0
  earlier l h r e = let t = before l h r in let p = (known.of_slots l t.0 t.1).1 in let o = others l (not_here l t.0 t.1) in omega arith

  is_used : IsUsed z W' vs' k i
  is_used = record { born = born_now i units_were.0; fixed = (wide, start, fixed_now); earlier = λ l h r. earlier l h (subst (λ (u : List ℕ). rank u z.slots l < rank u z.slots k) units_now r) }

  no_other : (l t : ℕ) → l < z.slots → slot z W l ≡ t + 1 → us ≡ units_of z W t → ⊥
  no_other l t h e same = dite (dec_le (rank us z.slots k) (rank us z.slots l))
      (λ le. dite (ℕ_discrete (rank us z.slots k) (rank us z.slots l))
      (λ is. let one : k ≡ l = rank_one us z.slots k l inside h is in let f : slot z W l ≡ 0 = ap (λ (y : ℕ). slot z W y) (sym one) ∙ free in omega arith)
      (λ ne. (s.slots l t h e).earlier k inside (subst (λ (u : List ℕ). rank u z.slots k < rank u z.slots l) same
      (let a : ℕ = rank us z.slots k in let b : ℕ = rank us z.slots l in let le' : a ≤ b = le in let ne' : a ≢ b = ne in
      let lt : a < b = omega arith in lt)) free))
      (λ gt. let d = before l h (lt_of_not-le gt) in let p = (known.of_slots l d.0 d.1).1 in let is : d.0 ≡ t = omega arith in
      differs_right z agents W vs s v known us d.0 (s.slots l d.0 h p).born d.2 (ap (units_of z W) is ∙ sym same))

  new_slots : NewSlots z W vs W' vs'
  new_slots = record {
    used = λ l q h a b. let c = changed l q a b in subst (λ (y : ℕ × ℕ). IsUsed z W' vs' y.0 y.1) (λ d. (sym c.0 d, sym c.1 d)) is_used;
    other = λ l q m t h g a b e same. let c = changed l q a b in no_other m t g e (sym units_now ∙ (ap (units_of z W') (sym c.1) ∙ same));
    one = λ l q m t a b c d h g. (changed l q a b).0 ∙ sym (changed m t c d).0;
    entered = λ l q h a b. let c = changed l q a b in (j, w, us, set_there vs j w v at, live, subst (λ (y : ℕ). Contains w.mine (us, y)) (sym c.1) (Contains-push v.mine (us, i)));
  }

  moved_ids : (m : FinMap nat_cmp ℕ) → OwnsIds z W m → OwnsIds z W' m
  moved_ids m o = record { each = λ q y h. let t = o.each q y h in let a = ids_same in let b = t.0 in (omega arith, forms q ∙ t.1, lengths q ∙ t.2, t.3) }

  moved_words : (m : FinMap nat_cmp ℕ) → OwnsWords z W m → OwnsWords z W' m
  moved_words m o = record { each = λ c y h. let t = o.each c y h in let a = words_same in let b = t.0 in (omega arith, contents c ∙ t.1) }

  recalls : Recalls z W' vs' w
  recalls u q c = ⊎_elim
      (λ (h : Contains (history v) (u, q)). let r = recalled z agents W vs s j v at live W' w agrees_took_slot u q h in (keeps_slot q r.0, r.1))
      (λ (e : ◌≡◌ {A = List ℕ × ℕ} (us, i) (u, q)). let first = ap (λ (y : List ℕ × ℕ). y.0) e in let second = ap (λ (y : List ℕ × ℕ). y.1) e in
      ((k, insert_same v.slots k i ∙ ap Some second), sym first ∙ (sym units_now ∙ ap (units_of z W') second)))
      (last_or (history v) (us, i) (u, q) (subst (λ (l : Calls). Contains l (u, q)) (sym (append_assoc v.seen v.mine ((us, i) ∷ []))) c))

  pub keeps_took_slot : IsSound z agents W' vs'
  keeps_took_slot = let kn = knew z agents W vs s j v at live W' w agrees_took_slot in let counted = s.counted in let a = ids_same in
      let b = words_same in one_view z agents W vs j v W' w s at live record {
        live = live;
        agrees = agrees_took_slot;
        counted = record {
          long = length-set W (slot_at z k) (i + 1) ∙ counted.long;
          ids_end = (let h = counted.ids_end in omega arith);
          words_end = (let h = counted.words_end in omega arith);
          no_form = λ q lo hi. forms q ∙ counted.no_form q (omega arith) hi;
          no_length = λ q lo hi. lengths q ∙ counted.no_length q (omega arith) hi;
          no_content = λ c lo hi. contents c ∙ counted.no_content c (omega arith) hi;
        };
        newborn = λ q h. inl (h.0, λ e. h.1 (forms q ∙ e));
        own_ids = moved_ids v.own_ids (s.own_ids j v at live);
        own_words = moved_words v.own_words (s.own_words j v at live);
        others_ids = λ q u ne e l. (moved_ids u.own_ids (s.own_ids q u e l), s.ids_apart j v at live q u e l (λ x'. ne (sym x')));
        others_words = λ q u ne e l. (moved_words u.own_words (s.own_words q u e l), s.words_apart j v at live q u e l (λ x'. ne (sym x')));
        knows = record {
          of_met = kn.of_met;
          of_units = kn.of_units;
          of_forms = kn.of_forms;
          of_lengths = kn.of_lengths;
          of_frozen = kn.of_frozen;
          of_slots = λ l q h. ⊎_elim (λ (t : (l ≡ k) × (i ≡ q)). (
            subst (λ (y : ℕ). y < z.slots) (sym t.0) inside,
            ap (λ (y : ℕ). slot z W' y)
                t.0 ∙ (taken ∙ ap (λ (y : ℕ). y + 1) t.1),
          )) (λ (t : (l ≢ k) × Has v.slots l q). kn.of_slots l q t.1) (has_insert v.slots k l i q h);
        };
        recalls = recalls;
        mine = λ u q h. Contains-append_left v.mine ((us, i) ∷ []) (u, q) h;
        added = added_keep z agents W vs s j v at live w live refl refl W' a b;
        low = (let q = s.lows j v at live in let q0 = q.0 in let q1 = q.1 in (omega arith, omega arith));
        member = s.members j v at live;
        new_slots = new_slots;
      }
