-- The steps that move no form keep the rule.
use Rattle.std.proofs.Common.{◌≡◌, ◌≢◌, ℕ, zero, suc, ◌+◌, ◌<◌, ◌≤◌, ◌⊎◌, inl, inr, ⊎_elim, true, List, get_or, set, sym, refl, ap, ◌∙◌, subst, arith, get_or-set_other, get_or-set_same, length-set}
use Rattle.std.specs.Prelude.{Contains}
use Rattle.std.specs.FinMap.{FinMap, insert}
use Rattle.std.specs.Ordering.{nat_cmp}
use Rattle.heap_rule.specs.declared.view.View.{View}
use Rattle.heap_rule.specs.declared.size.HeapSize.{HeapSize}
use Rattle.heap_rule.specs.declared.size.Counter.{Counter}
use Rattle.heap_rule.specs.declared.size.Counter.TheVariants.{Ids, Words}
use Rattle.heap_rule.specs.declared.size.Counters.{Counters}
use Rattle.heap_rule.specs.Layout.{counter_at, end_of, form_at, length_at, content_at, next_id, next_word, form, length_word, content, MAX, with_count, counter_value}
use Rattle.heap_rule.specs.Maps.{Has, HasKey, with_run}
use Rattle.heap_rule.specs.Views.{MayUse}
use Rattle.heap_rule.specs.Sound.{At, IsFree, IsKept, IsCounted, OwnsIds, OwnsWords, Knows, Recalls, AreAdded, IsLow, IsSound, IsWithin, IsPossible, StandsIn, total}
use Rattle.std.proofs.Math.Logic.{∥∥₁_elim}
use Rattle.std.proofs.Props.{props}
use Rattle.heap_rule.specs.Claims.{won_claim, loaded_counter}
use Rattle.heap_rule.specs.Births.{stored_word, MayStoreLength, stored_length}
use Rattle.heap_rule.proofs.MapLemmas.{has_insert, has_key, key_of, key_insert}
use Rattle.heap_rule.proofs.ListLemmas.{each_set, total_set}
use Rattle.heap_rule.proofs.Agreement.{Agrees}
use Rattle.heap_rule.proofs.Carried.{knows_then, recalls_then}
use Rattle.heap_rule.proofs.OneView.{one_view, no_slot}

-- a run of n keys from k on
pub has_run : {X : Type 0} (m : FinMap nat_cmp X) (k n : ℕ) (d : X) (q : ℕ) (x : X) → Has (with_run m k n d) q x → ((k ≤ q) × (q < k + n) × (d ≡ x)) ⊎ Has m q x
has_run m k zero d q x h = inr h
has_run m k (suc n) d q x h = ⊎_elim (λ t. let lo = t.0 in let hi = t.1 in inl (omega arith, omega arith, t.2))
    (λ t. ⊎_elim (λ (s : (q ≡ k) × (d ≡ x)). let e = s.0 in inl (omega arith, omega arith, s.1)) (λ (s : (q ≢ k) × Has m q x). inr s.1)
    (has_insert m k q d x t)) (has_run (insert m k d) (suc k) n d q x h)

pub key_run : {X : Type 0} (m : FinMap nat_cmp X) (k n : ℕ) (d : X) (q : ℕ) → HasKey (with_run m k n d) q → ((k ≤ q) × (q < k + n)) ⊎ HasKey m q
key_run m k n d q h = let p = has_key (with_run m k n d) q h in ⊎_elim (λ t. inl (t.0, t.1)) (λ t. inr (key_of m q p.0 t)) (has_run m k n d q p.0 p.1)

module _ (z : HeapSize) (agents : ℕ) (W : List ℕ) (vs : List View) (s : IsSound z agents W vs) (j : ℕ) (v : View) (at : At vs j v) (live : v.live ≡ true) where
  pub total_keep : (f : View → ℕ) (w : View) → w.live ≡ true → f w ≡ f v → total f (set vs j w) ≡ total f vs
  total_keep f w l e = let h = total_set f vs j v w at live l in omega (arith, h, e)

  pub added_keep : (w : View) → w.live ≡ true → w.used ≡ v.used → w.share ≡ v.share → (W' : List ℕ) → next_id W' ≡ next_id W → next_word W' ≡ next_word W → AreAdded z agents W' (set vs j w)
  added_keep w l u h W' ei ew = let a = s.added in record {
    ids = ei ∙ (a.ids ∙ sym (total_keep (λ x. x.used.ids) w l (ap (λ (c : Counters). c.ids) u)));
    words = ew ∙ (a.words ∙ sym (total_keep (λ x. x.used.words) w l (ap (λ (c : Counters). c.words) u)));
    shares = total_keep (λ x. x.share) w l h ∙ a.shares;
  }

  pub free_by : (w : View) → ((c : ℕ) → c < next_word W → HasKey w.own_words c → HasKey v.own_words c) → (c : ℕ) → IsKept W vs c → IsFree (set vs j w) c
  free_by w back c k = each_set (λ _ u. HasKey u.own_words c → ⊥) vs j w (λ h. k.free j v at live (back c k.below h)) (λ i u ne e l. k.free i u e l)

  -- a step that changes no word, and nothing that the view owns
  pub unmoved : (w : View) → w.live ≡ true → w.own_ids ≡ v.own_ids → w.own_words ≡ v.own_words → w.used ≡ v.used → w.share ≡ v.share → w.sizes ≡ v.sizes → w.agents ≡ v.agents
      → Knows z W (set vs j w) w → Recalls z W (set vs j w) w → ((u : List ℕ) (i : ℕ) → Contains v.mine (u, i) → Contains w.mine (u, i)) → IsLow W w.low → IsSound z agents W (set vs j w)
  unmoved w l oi ow us sh sz ag knows recalls mine low = one_view z agents W vs j v W w s at live record {
    live = l;
    agrees = record {
      ids = omega arith;
      words = omega arith;
      forms = λ i h. inl refl;
      lengths = λ i h. refl;
      contents = λ c h. refl;
      slots = λ k h. inl refl;
      free = free_by w (λ c _ h. subst (λ (m : FinMap nat_cmp ℕ). HasKey m c) ow h);
    };
    counted = s.counted;
    newborn = λ i b. inl b;
    own_ids = subst (OwnsIds z W) (sym oi) (s.own_ids j v at live);
    own_words = subst (OwnsWords z W) (sym ow) (s.own_words j v at live);
    others_ids = λ k u ne e l'. (s.own_ids k u e l', λ i h g. s.ids_apart j v at live k u e l' (λ x. ne (sym x)) i (subst (λ (m : FinMap nat_cmp ℕ). HasKey m i) oi h) g);
    others_words = λ k u ne e l'. (s.own_words k u e l', λ i h g. s.words_apart j v at live k u e l' (λ x. ne (sym x)) i (subst (λ (m : FinMap nat_cmp ℕ). HasKey m i) ow h) g);
    knows = knows;
    recalls = recalls;
    mine = mine;
    added = added_keep w l us sh W refl refl;
    low = low;
    member = (let m = s.members j v at live in (subst (λ (n : ℕ). 1 ≤ n) (sym sh) m.0, sz ∙ m.1, ag ∙ m.2));
    new_slots = no_slot z W vs W (set vs j w) (λ k h. refl);
  }

  low_after : (k : Counter) (x : ℕ) → x ≡ get_or W (counter_at k) 0 → IsLow W (with_count v.low k x)
  low_after Ids x e = let p = s.lows j v at live in let q = p.1 in (omega arith, q)
  low_after Words x e = let p = s.lows j v at live in let q = p.0 in (q, omega arith)

  -- what the view knew, it knows after a step that agrees
  pub knew : (W' : List ℕ) (w : View) → Agrees z W vs W' (set vs j w) → Knows z W' (set vs j w) v
  knew W' w a = knows_then z W vs s.standing W' (set vs j w) a v (s.knows j v at live)

  pub recalled : (W' : List ℕ) (w : View) → Agrees z W vs W' (set vs j w) → Recalls z W' (set vs j w) v
  recalled W' w a = recalls_then z W vs s.standing W' (set vs j w) a v (s.knows j v at live) s.slots (s.recalls j v at live)

  pub same_words : (w : View) → w.own_words ≡ v.own_words → Agrees z W vs W (set vs j w)
  same_words w ow = record {
    ids = omega arith;
    words = omega arith;
    forms = λ i h. inl refl;
    lengths = λ i h. refl;
    contents = λ c h. refl;
    slots = λ k h. inl refl;
    free = free_by w (λ c _ h. subst (λ (m : FinMap nat_cmp ℕ). HasKey m c) ow h);
  }

  pub keeps_loaded_counter : (k : Counter) (x : ℕ) → x ≡ get_or W (counter_at k) 0 → IsSound z agents W (set vs j (loaded_counter v k x))
  keeps_loaded_counter k x e = let w : View = loaded_counter v k x in unmoved w live refl refl refl refl refl refl
      (knew W w (same_words w refl)) (recalled W w (same_words w refl)) (λ u i h. h) (low_after k x e)

  pub sizes_are : v.sizes ≡ z
  sizes_are = (s.members j v at live).1

  pub agrees_stored_word : (c n : ℕ) → HasKey v.own_words c → Agrees z W vs (set W (content_at z c) n) (set vs j (stored_word v c n))
  agrees_stored_word c n own = let w : View = stored_word v c n in let W' : List ℕ = set W (content_at z c) n in let p = content_at z c in
      let mine = s.own_words j v at live in let x = has_key v.own_words c own in let below : c < next_word W = (mine.each c x.0 x.1).0 in
      let ids_same : next_id W' ≡ next_id W = get_or-set_other W p 0 n 0 (λ e. omega arith) in
      let words_same : next_word W' ≡ next_word W = get_or-set_other W p 1 n 0 (λ e. omega arith) in
      record {
        ids = omega arith;
        words = omega arith;
        forms = λ i b. let l = b.0 in inl (get_or-set_other W p (form_at z i) n 0 (λ e. omega arith));
        lengths = λ i b. let l = b.0 in get_or-set_other W p (length_at z i) n 0 (λ e. omega arith);
        contents = λ d k. get_or-set_other W p (content_at z d) n 0 (λ e. let same : c ≡ d = omega arith in k.free j v at live (subst (HasKey v.own_words) same own));
        slots = λ k h. inl (get_or-set_other W p (2 + k) n 0 (λ e. omega arith));
        free = free_by w (λ d _ h. ⊎_elim (λ e. subst (HasKey v.own_words) (sym e) own) (λ t. t) (key_insert v.own_words c d n h));
      }

  pub agrees_stored_length : (i n : ℕ) → HasKey v.own_ids i → Agrees z W vs (set W (length_at z i) n) (set vs j (stored_length v i n))
  agrees_stored_length i n own = let w : View = stored_length v i n in let W' : List ℕ = set W (length_at z i) n in let p = length_at z i in
      let mine = s.own_ids j v at live in let x = has_key v.own_ids i own in let here = mine.each i x.0 x.1 in let below : i < next_id W = here.0 in let ends = s.counted.ids_end in
      let ids_same : next_id W' ≡ next_id W = get_or-set_other W p 0 n 0 (λ e. omega arith) in
      let words_same : next_word W' ≡ next_word W = get_or-set_other W p 1 n 0 (λ e. omega arith) in
      record {
        ids = omega arith;
        words = omega arith;
        forms = λ k h. inl (get_or-set_other W p (form_at z k) n 0 (λ e. omega arith));
        lengths = λ k b. get_or-set_other W p (length_at z k) n 0 (λ e. let same : k ≡ i = omega arith in b.1 (subst (λ (y : ℕ). form z W y ≡ 0) (sym same) here.1));
        contents = λ c k. get_or-set_other W p (content_at z c) n 0 (λ e. omega arith);
        slots = λ k h. inl (get_or-set_other W p (2 + k) n 0 (λ e. omega arith));
        free = free_by w (λ c _ h. h);
      }

  pub keeps_stored_word : (c n : ℕ) → HasKey v.own_words c → IsSound z agents (set W (content_at z c) n) (set vs j (stored_word v c n))
  keeps_stored_word c n own = let w : View = stored_word v c n in let W' : List ℕ = set W (content_at z c) n in let p = content_at z c in
      let counted = s.counted in let long = counted.long in let mine = s.own_words j v at live in let x = has_key v.own_words c own in
      let below : c < next_word W = (mine.each c x.0 x.1).0 in let ends = counted.words_end in
      let ids_same : next_id W' ≡ next_id W = get_or-set_other W p 0 n 0 (λ e. omega arith) in
      let words_same : next_word W' ≡ next_word W = get_or-set_other W p 1 n 0 (λ e. omega arith) in
      let forms : (i : ℕ) → i < z.ids → form z W' i ≡ form z W i = (λ i h. get_or-set_other W p (form_at z i) n 0 (λ e. omega arith)) in
      let lengths : (i : ℕ) → i < z.ids → length_word z W' i ≡ length_word z W i = (λ i h. get_or-set_other W p (length_at z i) n 0 (λ e. omega arith)) in
      let contents : (d : ℕ) → d ≢ c → content z W' d ≡ content z W d = (λ d ne. get_or-set_other W p (content_at z d) n 0 (λ e. ne (omega arith))) in
      let back : (d : ℕ) → HasKey w.own_words d → HasKey v.own_words d = (λ d h. ⊎_elim (λ e. subst (HasKey v.own_words) (sym e) own) (λ t. t) (key_insert v.own_words c d n h)) in
      let agrees : Agrees z W vs W' (set vs j w) = record {
        ids = omega arith;
        words = omega arith;
        forms = λ i b. inl (forms i b.0);
        lengths = λ i b. lengths i b.0;
        contents = λ d k. contents d (λ e. k.free j v at live (subst (HasKey v.own_words) (sym e) own));
        slots = λ k h. inl (get_or-set_other W p (2 + k) n 0 (λ e. omega arith));
        free = free_by w (λ d _ h. back d h);
      } in
      let moved_ids : (m : FinMap nat_cmp ℕ) → OwnsIds z W m → OwnsIds z W' m = (λ m o. record {
        each = λ i l h. let t = o.each i l h in
            let b = t.0 in let e = counted.ids_end in (omega arith, forms i (omega arith) ∙ t.1, lengths i (omega arith) ∙ t.2, t.3);
      }) in
      one_view z agents W vs j v W' w s at live record {
        live = live;
        agrees = agrees;
        counted = record {
          long = length-set W p n ∙ long;
          ids_end = (let h = counted.ids_end in omega arith);
          words_end = (let h = counted.words_end in omega arith);
          no_form = λ i lo hi. forms i hi ∙ counted.no_form i (omega arith) hi;
          no_length = λ i lo hi. lengths i hi ∙ counted.no_length i (omega arith) hi;
          no_content = λ d lo hi. contents d (λ e. omega arith) ∙ counted.no_content d (omega arith) hi;
        };
        newborn = λ i b. inl (b.0, λ e. b.1 (forms i b.0 ∙ e));
        own_ids = moved_ids v.own_ids (s.own_ids j v at live);
        own_words = record {
          each = λ d y h. ⊎_elim
              (λ (t : (d ≡ c) × (n ≡ y)). let e = t.0 in (omega arith, ap (λ (k : ℕ). content z W' k) e ∙ (get_or-set_same W p n 0 (omega arith) ∙ t.1)))
              (λ (t : (d ≢ c) × Has v.own_words d y). let o = mine.each d y t.1 in let l = o.0 in (omega arith, contents d t.0 ∙ o.1)) (has_insert v.own_words c d n y h);
        };
        others_ids = λ k u ne e l. (moved_ids u.own_ids (s.own_ids k u e l), λ i h g. s.ids_apart j v at live k u e l (λ x'. ne (sym x')) i h g);
        others_words = λ k u ne e l. let apart = s.words_apart j v at live k u e l (λ x'. ne (sym x')) in (
          record {
            each = λ d y h. let o = (s.own_words k u e l).each d y h in
                let lt = o.0 in (omega arith, contents d (λ e'. apart c own (subst (HasKey u.own_words) e' (key_of u.own_words d y h))) ∙ o.1);
          },
          λ d h g. apart d (back d h) g,
        );
        knows = knew W' w agrees;
        recalls = recalled W' w agrees;
        mine = λ u i h. h;
        added = added_keep w live refl refl W' ids_same words_same;
        low = (let q = s.lows j v at live in let q0 = q.0 in let q1 = q.1 in (omega arith, omega arith));
        member = s.members j v at live;
        new_slots = no_slot z W vs W' (set vs j w) (λ k h. get_or-set_other W p (2 + k) n 0 (λ e. omega arith));
      }

  pub keeps_stored_length : (i n : ℕ) → MayStoreLength v i n → IsSound z agents (set W (length_at z i) n) (set vs j (stored_length v i n))
  keeps_stored_length i n may = let own = may.0 in let w : View = stored_length v i n in let W' : List ℕ = set W (length_at z i) n in let p = length_at z i in
      let counted = s.counted in let long = counted.long in let mine = s.own_ids j v at live in let x = has_key v.own_ids i own in
      let here = mine.each i x.0 x.1 in let below : i < next_id W = here.0 in let ends = counted.ids_end in
      let ids_same : next_id W' ≡ next_id W = get_or-set_other W p 0 n 0 (λ e. omega arith) in
      let words_same : next_word W' ≡ next_word W = get_or-set_other W p 1 n 0 (λ e. omega arith) in
      let forms : (k : ℕ) → form z W' k ≡ form z W k = (λ k. get_or-set_other W p (form_at z k) n 0 (λ e. omega arith)) in
      let lengths : (k : ℕ) → k ≢ i → length_word z W' k ≡ length_word z W k = (λ k ne. get_or-set_other W p (length_at z k) n 0 (λ e. ne (omega arith))) in
      let contents : (c : ℕ) → content z W' c ≡ content z W c = (λ c. get_or-set_other W p (content_at z c) n 0 (λ e. omega arith)) in
      let back : (k : ℕ) → HasKey w.own_ids k → HasKey v.own_ids k = (λ k h. ⊎_elim (λ e. subst (HasKey v.own_ids) (sym e) own) (λ t. t) (key_insert v.own_ids i k n h)) in
      let agrees : Agrees z W vs W' (set vs j w) = record {
        ids = omega arith;
        words = omega arith;
        forms = λ k h. inl (forms k);
        lengths = λ k b. lengths k (λ e. b.1 (subst (λ (y : ℕ). form z W y ≡ 0) (sym e) here.1));
        contents = λ c k. contents c;
        slots = λ k h. inl (get_or-set_other W p (2 + k) n 0 (λ e. omega arith));
        free = free_by w (λ c _ h. h);
      } in
      let moved_words : (m : FinMap nat_cmp ℕ) → OwnsWords z W m → OwnsWords z W' m = (λ m o. record { each = λ c l h. let t = o.each c l h in let b = t.0 in (omega arith, contents c ∙ t.1) }) in
      one_view z agents W vs j v W' w s at live record {
        live = live;
        agrees = agrees;
        counted = record {
          long = length-set W p n ∙ long;
          ids_end = (let h = counted.ids_end in omega arith);
          words_end = (let h = counted.words_end in omega arith);
          no_form = λ k lo hi. forms k ∙ counted.no_form k (omega arith) hi;
          no_length = λ k lo hi. lengths k (λ e. omega arith) ∙ counted.no_length k (omega arith) hi;
          no_content = λ c lo hi. contents c ∙ counted.no_content c (omega arith) hi;
        };
        newborn = λ k b. inl (b.0, λ e. b.1 (forms k ∙ e));
        own_ids = record {
          each = λ k y h. ⊎_elim
              (λ (t : (k ≡ i) × (n ≡ y)). let e = t.0 in (
                omega arith,
                forms k ∙ (ap (λ (q : ℕ). form z W q) e ∙ here.1),
                ap
                    (λ (q : ℕ). length_word z W' q) e ∙ (get_or-set_same W p n 0 (omega arith) ∙ t.1),
                subst (λ (q : ℕ). q ≤ MAX) t.1 may.1,
              ))
              (λ (t : (k ≢ i) × Has v.own_ids k y). let o = mine.each k y t.1 in let l = o.0 in (omega arith, forms k ∙ o.1, lengths k t.0 ∙ o.2, o.3)) (has_insert v.own_ids i k n y h);
        };
        own_words = moved_words v.own_words (s.own_words j v at live);
        others_ids = λ k u ne e l. let apart = s.ids_apart j v at live k u e l (λ x'. ne (sym x')) in (
          record {
            each = λ q y h. let o = (s.own_ids k u e l).each q y h in
                let lt = o.0 in (omega arith, forms q ∙ o.1, lengths q (λ e'. apart i own (subst (HasKey u.own_ids) e' (key_of u.own_ids q y h))) ∙ o.2, o.3);
          },
          λ q h g. apart q (back q h) g,
        );
        others_words = λ k u ne e l. (moved_words u.own_words (s.own_words k u e l), λ c h g. s.words_apart j v at live k u e l (λ x'. ne (sym x')) c h g);
        knows = knew W' w agrees;
        recalls = recalled W' w agrees;
        mine = λ u k h. h;
        added = added_keep w live refl refl W' ids_same words_same;
        low = (let q = s.lows j v at live in let q0 = q.0 in let q1 = q.1 in (omega arith, omega arith));
        member = s.members j v at live;
        new_slots = no_slot z W vs W' (set vs j w) (λ k h. get_or-set_other W p (2 + k) n 0 (λ e. omega arith));
      }

  -- what a step on a counter's word leaves
  counter_moved : (p x : ℕ) → p < 2 → (q : ℕ) → 2 ≤ q → get_or (set W p x) q 0 ≡ get_or W q 0
  counter_moved p x l q h = get_or-set_other W p q x 0 (λ e. omega arith)

  claim_agrees : (p x : ℕ) (w : View) → p < 2 → next_id W ≤ next_id (set W p x) → next_word W ≤ next_word (set W p x)
      → ((c : ℕ) → c < next_word W → HasKey w.own_words c → HasKey v.own_words c) → Agrees z W vs (set W p x) (set vs j w)
  claim_agrees p x w l a b back = record {
    ids = a;
    words = b;
    forms = λ i h. inl (counter_moved p x l (form_at z i) (omega arith));
    lengths = λ i h. counter_moved p x l (length_at z i) (omega arith);
    contents = λ c h. counter_moved p x l (content_at z c) (omega arith);
    slots = λ k h. inl (counter_moved p x l (2 + k) (omega arith));
    free = free_by w back;
  }

  claim_ids : (p x : ℕ) (m : FinMap nat_cmp ℕ) → p < 2 → next_id W ≤ next_id (set W p x) → OwnsIds z W m → OwnsIds z (set W p x) m
  claim_ids p x m l a o = record {
    each = λ i n h. let t = o.each i n h in
        let b = t.0 in (omega arith, counter_moved p x l (form_at z i) (omega arith) ∙ t.1, counter_moved p x l (length_at z i) (omega arith) ∙ t.2, t.3);
  }

  claim_words : (p x : ℕ) (m : FinMap nat_cmp ℕ) → p < 2 → next_word W ≤ next_word (set W p x) → OwnsWords z W m → OwnsWords z (set W p x) m
  claim_words p x m l a o = record { each = λ c n h. let t = o.each c n h in let b = t.0 in (omega arith, counter_moved p x l (content_at z c) (omega arith) ∙ t.1) }

  claim_counted : (p x : ℕ) → p < 2 → next_id W ≤ next_id (set W p x) → next_word W ≤ next_word (set W p x) → next_id (set W p x) ≤ z.ids → next_word (set W p x) ≤ z.words → IsCounted z (set W p x)
  claim_counted p x l a b c d = let n = s.counted in record {
    long = length-set W p x ∙ n.long;
    ids_end = c;
    words_end = d;
    no_form = λ i lo hi. counter_moved p x l (form_at z i) (omega arith) ∙ n.no_form i (omega arith) hi;
    no_length = λ i lo hi. counter_moved p x l (length_at z i) (omega arith) ∙ n.no_length i (omega arith) hi;
    no_content = λ i lo hi. counter_moved p x l (content_at z i) (omega arith) ∙ n.no_content i (omega arith) hi;
  }

  pub agrees_won_claim : (k : Counter) (at' want : ℕ) → at' ≡ get_or W (counter_at k) 0 → Agrees z W vs (set W (counter_at k) (at' + want)) (set vs j (won_claim v k at' want))
  agrees_won_claim Ids a n e = let W' : List ℕ = set W 0 (a + n) in let long = s.counted.long in
      let ids_are : next_id W' ≡ a + n = get_or-set_same W 0 (a + n) 0 (omega arith) in let words_are : next_word W' ≡ next_word W = get_or-set_other W 0 1 (a + n) 0 (λ h. omega arith) in
      claim_agrees 0 (a + n) (won_claim v Ids a n) (omega arith) (omega arith) (omega arith) (λ c _ h. h)
  agrees_won_claim Words a n e = let W' : List ℕ = set W 1 (a + n) in let long = s.counted.long in
      let words_are : next_word W' ≡ a + n = get_or-set_same W 1 (a + n) 0 (omega arith) in let ids_are : next_id W' ≡ next_id W = get_or-set_other W 1 0 (a + n) 0 (λ h. omega arith) in
      claim_agrees 1 (a + n) (won_claim v Words a n) (omega arith) (omega arith) (omega arith)
      (λ c l h. ⊎_elim (λ (t : (a ≤ c) × (c < a + n)). let lo = t.0 in absurd (omega arith)) (λ t. t) (key_run v.own_words a n 0 c h))

  -- a claim, of however many pieces, on a counter that is still where it was seen
  pub keeps_won_claim : (k : Counter) (at' want : ℕ) → at' + want ≤ end_of v.sizes k → at' ≡ get_or W (counter_at k) 0 → IsSound z agents
      (set W (counter_at k) (at' + want)) (set vs j (won_claim v k at' want))
  keeps_won_claim Ids a n fits e = let w : View = won_claim v Ids a n in let W' : List ℕ = set W 0 (a + n) in let counted = s.counted in let long = counted.long in let ends = counted.words_end in
      let room : a + n ≤ z.ids = subst (λ (y : HeapSize). a + n ≤ y.ids) sizes_are fits in
      let ids_are : next_id W' ≡ a + n = get_or-set_same W 0 (a + n) 0 (omega arith) in let words_are : next_word W' ≡ next_word W = get_or-set_other W 0 1 (a + n) 0 (λ h. omega arith) in
      let grows : next_id W ≤ next_id W' = omega arith in let stays : next_word W ≤ next_word W' = omega arith in
      let agrees : Agrees z W vs W' (set vs j w) = claim_agrees 0 (a + n) w (omega arith) grows stays (λ c _ h. h) in
      one_view z agents W vs j v W' w s at live record {
        live = live;
        agrees = agrees;
        counted = claim_counted 0 (a + n) (omega arith) grows stays (omega arith) (omega arith);
        newborn = λ i b. inl (b.0, λ e'. b.1 (counter_moved 0 (a + n) (omega arith) (form_at z i) (omega arith) ∙ e'));
        own_ids = record {
          each = λ i y h. ⊎_elim
              (λ (t : (a ≤ i) × (i < a + n) × (0 ≡ y)). let lo = t.0 in let hi = t.1 in (
                omega arith,
                counter_moved 0 (a + n) (omega arith) (form_at z i) (omega arith) ∙ counted.no_form i (omega arith) (omega arith),
                counter_moved 0 (a + n) (omega arith) (length_at z i) (omega arith) ∙ (counted.no_length i (omega arith) (omega arith) ∙ t.2),
                subst (λ (q : ℕ). q ≤ MAX) t.2 (omega arith),
              ))
              (λ t. (claim_ids 0 (a + n) v.own_ids (omega arith) grows (s.own_ids j v at live)).each i y t) (has_run v.own_ids a n 0 i y h);
        };
        own_words = claim_words 0 (a + n) v.own_words (omega arith) stays (s.own_words j v at live);
        others_ids = λ k u ne b l. (
          claim_ids 0 (a + n) u.own_ids (omega arith) grows (s.own_ids k u b l),
          λ i h g. ⊎_elim
              (λ (t : (a ≤ i) × (i < a + n)). let lo = t.0 in let y = has_key u.own_ids i g in let m = ((s.own_ids k u b l).each i y.0 y.1).0 in absurd (omega arith))
              (λ t. s.ids_apart j v at live k u b l (λ x'. ne (sym x')) i t g) (key_run v.own_ids a n 0 i h),
        );
        others_words = λ k u ne b l. (claim_words 0 (a + n) u.own_words (omega arith) stays (s.own_words k u b l), s.words_apart j v at live k u b l (λ x'. ne (sym x')));
        knows = knew W' w agrees;
        recalls = recalled W' w agrees;
        mine = λ u i h. h;
        added = (let d = s.added in let t = total_set (λ y. y.used.ids) vs j v w at live live in let g = d.ids in record {
          ids = omega (arith, t);
          words = words_are ∙ (d.words ∙ sym (total_keep (λ y. y.used.words) w live refl));
          shares = total_keep (λ y. y.share) w live refl ∙ d.shares;
        });
        low = (let q = (s.lows j v at live).1 in (omega arith, omega arith));
        member = s.members j v at live;
        new_slots = no_slot z W vs W' (set vs j w) (λ k h. counter_moved 0 (a + n) (omega arith) (2 + k) (omega arith));
      }
  keeps_won_claim Words a n fits e = let w : View = won_claim v Words a n in let W' : List ℕ = set W 1 (a + n) in let counted = s.counted in let long = counted.long in let ends = counted.ids_end in
      let room : a + n ≤ z.words = subst (λ (y : HeapSize). a + n ≤ y.words) sizes_are fits in
      let words_are : next_word W' ≡ a + n = get_or-set_same W 1 (a + n) 0 (omega arith) in let ids_are : next_id W' ≡ next_id W = get_or-set_other W 1 0 (a + n) 0 (λ h. omega arith) in
      let grows : next_id W ≤ next_id W' = omega arith in let stays : next_word W ≤ next_word W' = omega arith in
      let agrees : Agrees z W vs W' (set vs j w) = claim_agrees 1 (a + n) w (omega arith) grows stays
      (λ c l h. ⊎_elim (λ (t : (a ≤ c) × (c < a + n)). let lo = t.0 in absurd (omega arith)) (λ t. t) (key_run v.own_words a n 0 c h)) in
      one_view z agents W vs j v W' w s at live record {
        live = live;
        agrees = agrees;
        counted = claim_counted 1 (a + n) (omega arith) grows stays (omega arith) (omega arith);
        newborn = λ i b. inl (b.0, λ e'. b.1 (counter_moved 1 (a + n) (omega arith) (form_at z i) (omega arith) ∙ e'));
        own_ids = claim_ids 1 (a + n) v.own_ids (omega arith) grows (s.own_ids j v at live);
        own_words = record {
          each = λ i y h. ⊎_elim
              (λ (t : (a ≤ i) × (i < a + n) × (0 ≡ y)). let lo = t.0 in
              let hi = t.1 in (
                omega arith,
                counter_moved 1 (a + n) (omega arith) (content_at z i) (omega arith) ∙
                    (counted.no_content i (omega arith) (omega arith) ∙ t.2),
              ))
              (λ t. (claim_words 1 (a + n) v.own_words (omega arith) stays (s.own_words j v at live)).each i y t) (has_run v.own_words a n 0 i y h);
        };
        others_ids = λ k u ne b l. (claim_ids 1 (a + n) u.own_ids (omega arith) grows (s.own_ids k u b l), s.ids_apart j v at live k u b l (λ x'. ne (sym x')));
        others_words = λ k u ne b l. (
          claim_words 1 (a + n) u.own_words (omega arith) stays (s.own_words k u b l),
          λ i h g. ⊎_elim
              (λ (t : (a ≤ i) × (i < a + n)). let lo = t.0 in let y = has_key u.own_words i g in let m = ((s.own_words k u b l).each i y.0 y.1).0 in absurd (omega arith))
              (λ t. s.words_apart j v at live k u b l (λ x'. ne (sym x')) i t g) (key_run v.own_words a n 0 i h),
        );
        knows = knew W' w agrees;
        recalls = recalled W' w agrees;
        mine = λ u i h. h;
        added = (let d = s.added in let t = total_set (λ y. y.used.words) vs j v w at live live in let g = d.words in record {
          ids = ids_are ∙ (d.ids ∙ sym (total_keep (λ y. y.used.ids) w live refl));
          words = omega (arith, t);
          shares = total_keep (λ y. y.share) w live refl ∙ d.shares;
        });
        low = (let q = (s.lows j v at live).0 in (omega arith, omega arith));
        member = s.members j v at live;
        new_slots = no_slot z W vs W' (set vs j w) (λ k h. counter_moved 1 (a + n) (omega arith) (2 + k) (omega arith));
      }

  -- what the rule says of a counter
  pub counter_found : (k : Counter) → (counter_value v.low k ≤ get_or W (counter_at k) 0) × (get_or W (counter_at k) 0 ≤ end_of v.sizes k)
  counter_found Ids = let l = (s.lows j v at live).0 in let e = s.counted.ids_end in (omega arith, subst (λ (y : HeapSize). next_id W ≤ y.ids) (sym sizes_are) e)
  counter_found Words = let l = (s.lows j v at live).1 in let e = s.counted.words_end in (omega arith, subst (λ (y : HeapSize). next_word W ≤ y.words) (sym sizes_are) e)

  -- a known id lies below the counter
  pub known_below : (i : ℕ) → MayUse v i → i < next_id W
  known_below i h = let k = s.knows j v at live in ⊎_elim (λ g. let p = has_key v.units i g in (s.standing i (k.of_units i p.0 p.1).0).below) (λ g. (s.standing i (k.of_met i g)).below) h

  pub within : IsWithin v
  within = let e = s.counted in let a = e.ids_end in let b = e.words_end in record {
    known = subst (λ (y : HeapSize). (i : ℕ) → MayUse v i → i < y.ids) (sym sizes_are) (λ i h. let l = known_below i h in omega arith);
    ids = subst (λ (y : HeapSize). (i : ℕ) → HasKey v.own_ids i → i < y.ids) (sym sizes_are) (λ i h. let p = has_key v.own_ids i h in
        let l = ((s.own_ids j v at live).each i p.0 p.1).0 in omega arith);
    words = subst (λ (y : HeapSize). (c : ℕ) → HasKey v.own_words c → c < y.words) (sym sizes_are)
        (λ c h. let p = has_key v.own_words c h in let l = ((s.own_words j v at live).each c p.0 p.1).0 in omega arith);
  }

within_in : (v : View) → StandsIn v → IsWithin v
within_in v (z, agents, W, vs, j, s, at, live) = within z agents W vs s j v at live

pub possible_within : (v : View) → IsPossible v → IsWithin v
possible_within v p = ∥∥₁_elim p (Prim.hlevel props) (λ t. within_in v t)
