-- What the executable steps do to the machine, as plain data.
use Rattle.std.proofs.Common.{◌≡◌, ◌≢◌, ℕ, zero, suc, ◌+◌, ◌^◌, ◌<◌, ◌≤◌, ⊎_elim, Bool, true, false, cond, List, [], ◌∷◌, ◌++◌, length, get_or, set, sym, refl}
use Rattle.std.proofs.Common.{ap, ◌∙◌, subst, arith, IsTrue, Option, Some, None, Bor, Ok, eqb, eq-eqb, ne_eqb}
use Rattle.std.specs.Prelude.{unwrap_or, is_some, IfSome, IsNone}
use Rattle.std.proofs.lemmas.List.{set-get_or, set-append_left}
use Rattle.std.proofs.Math.ListN.{get_or-append}
use Rattle.std.specs.FinMap.{get}
use mathlib.Core.Option.{some, some-injective}
use Rattle.js_header.specs.Form.{IsInRange, word_of}
use Rattle.js_header.specs.declared.form.Form.{Form}
use Rattle.js_header.specs.declared.form.Form.TheVariants.{Unborn, Flat, Cons, Sliced, Thin}
use Rattle.heap_rule.specs.declared.view.View.{View}
use Rattle.heap_rule.specs.declared.size.HeapSize.{HeapSize}
use Rattle.heap_rule.specs.declared.size.Counter.{Counter}
use Rattle.heap_rule.specs.declared.size.Counter.TheVariants.{Ids, Words}
use Rattle.heap_core.specs.declared.event.Event.{Event}
use Rattle.heap_core.specs.declared.event.Event.TheVariants.{Split, Join, LoadCounter, Claim, StoreWord, StoreLength, Birth}
use Rattle.heap_rule.specs.Layout.{counter_at, content_at, length_at, form_at, form, end_of, MAX, counter_value, IsLawfulSize, IsBorn}
use Rattle.heap_rule.specs.Maps.{Has, HasKey}
use Rattle.heap_rule.specs.Forms.{IsCons, IsSliced}
use Rattle.heap_rule.specs.Sound.{At, EachLive, total}
use Rattle.heap_core.specs.Core.{Core, core}
use Rattle.heap_core.specs.Events.{IsCore, IsSoundCore, LiveIn, view_at, Made}
use Rattle.heap_rule.specs.Claims.{loaded_counter, MayClaim, won_claim}
use Rattle.heap_rule.specs.Births.{stored_word, MayStoreLength, stored_length, MayBear, born_with, born}
use Rattle.heap_rule.specs.Agents.{nothing_used, spent, left_after_split, right_after_split, MayJoin, joined_view}
use Rattle.heap_rule.proofs.MapLemmas.{has_key}
use Rattle.heap_rule.proofs.ListLemmas.{any_default, at_within, at_index, set_else, total_set}
use Rattle.heap_rule.proofs.Joining.{total_gone}
use Rattle.heap_rule.proofs.Parts.{shown_part_right}

pub at_here : {A : Type 0} (l : List A) (i : ℕ) (a : A) → i < length l → a ≡ get_or l i a → At l i a
at_here [] i a h e = absurd (omega arith)
at_here (x ∷ xs) zero a h e = ap some (sym e)
at_here (x ∷ xs) (suc i) a h e = at_here xs i a (omega arith) e

-- no live view
pub not_live : (vs : List View) (j : ℕ) (v : View) → At vs j v → v.live ≡ false → LiveIn vs j (λ v. Unit {0}) → ⊥
not_live vs j v at dead t = let is : t.0 ≡ v = some-injective t.0 v (sym t.1 ∙ at) in let both : true ≡ false = sym t.2 ∙ (ap (λ (x : View). x.live) is ∙ dead) in absurd (cc)

pub no_view : (vs : List View) (j : ℕ) → length vs ≤ j → LiveIn vs j (λ v. Unit {0}) → ⊥
no_view vs j h t = let l = at_within vs j t.0 t.1 in absurd (omega arith)

pub view_inside : (vs : List View) (j : ℕ) (P : View → Type 0) → LiveIn vs j P → j < length vs
view_inside vs j P t = at_within vs j t.0 t.1

abbrev pub Tells : Bool → Type 0 → Type 0
Tells b P = (IsTrue b → P) × (P → IsTrue b)

-- what a test of the live view tells
pub live_tells : (vs : List View) (j : ℕ) (P : View → Type 0) (v : View) (b : Bool) → At vs j v × (v.live ≡ true) → Tells b (P v) → Tells b (LiveIn vs j P)
live_tells vs j P v b is test = (
  (λ h. (v, is.0, is.1, test.0 h)),
  (λ t. test.1 (subst P (some-injective t.0 v (sym t.1 ∙ is.0)) t.3)),
)

pub none_tells : (vs : List View) (j : ℕ) (P : View → Type 0) → (LiveIn vs j (λ v. Unit {0}) → ⊥) → Tells false (LiveIn vs j P)
none_tells vs j P not = ((λ (e : false ≡ true). absurd (cc)), (λ t. absurd (not (t.0, t.1, t.2, tt))))

pub some_tells : (vs : List View) (j : ℕ) (o : Option (Bor View)) (b : Bool) → b ≡ is_some o → IfSome o
    (λ v. At vs j v.now × (v.now.live ≡ true)) → (IsNone o → LiveIn vs j (λ v. Unit {0}) → ⊥) → Tells b (LiveIn vs j (λ v. Unit {0}))
some_tells vs j (Some v) b e is not = ((λ _. (v.now, is.0, is.1, tt)), (λ _. e))
some_tells vs j None b e is not = ((λ q. let both : false ≡ true = sym e ∙ q in absurd (cc)), (λ t. absurd (not refl t)))

-- what the live view has, the one that is read there has
pub live_has : (vs : List View) (j : ℕ) (P : View → Type 0) (d : View) → LiveIn vs j P → P (get_or vs j d)
live_has vs j P d t = subst P (sym (at_index vs j t.0 d t.1)) t.3

-- a machine with a live view is sound
pub sound_of : (s : Core) (j : ℕ) (P : View → Type 0) → IsCore s → LiveIn s.views j P → IsSoundCore s
sound_of s j P h t = ⊎_elim (λ (n : (s.words ≡ []) × (s.views ≡ [])). let l = at_within s.views j t.0 t.1 in let e : length s.views ≡ 0 = ap length n.1 in absurd (omega arith)) (λ g. g) h

module _ (s : Core) (j : ℕ) (d : View) where
  abbrev here : View
  here = get_or s.views j d

  same_view : (P : View → Type 0) → LiveIn s.views j P → here ≡ view_at s j
  same_view P t = any_default s.views j d spent (view_inside s.views j P t)

  pub load_done : (k : Counter) (p x : ℕ) (w : View) → LiveIn s.views j (λ v. Unit {0}) → p ≡ counter_at k → x ≡ get_or s.words p 0 → w ≡ loaded_counter here k x
      → Made s (LoadCounter j k) (core s.size s.agents s.words (set s.views j w)) (Ok x)
  load_done k p x w live place found is = (
    (λ i. core s.size s.agents s.words (set s.views j (is i))) ∙ (λ i. core s.size s.agents s.words
        (set s.views j (loaded_counter (same_view (λ v. Unit {0}) live i) k ((found ∙ ap (λ (q : ℕ). get_or s.words q 0) place) i)))),
    found ∙ ap (λ (q : ℕ). get_or s.words q 0) place,
  )

  pub claim_won : (k : Counter) (a want p q x n : ℕ) (w : View) → LiveIn s.views j (λ v. MayClaim v k a want) → p ≡ counter_at k → q ≡
      counter_at k → x ≡ get_or s.words p 0 → x ≡ a → n ≡ want → w ≡ won_claim here k a want
      → Made s (Claim j k a want) (core s.size s.agents (set s.words q (x + n)) (set s.views j w)) (Ok x)
  claim_won k a want p q x n w live pe qe found won ne is = let y : ℕ = get_or s.words (counter_at k) 0 in
      let there : x ≡ y = found ∙ ap (λ (r : ℕ). get_or s.words r 0) pe in let b : eqb y a ≡ true = eq-eqb y a (sym there ∙ won) in
      let v : View = view_at s j in (
        (λ i. core s.size s.agents (set s.words (qe i) (won i + ne i)) (set s.views j ((is ∙ ap (λ (u : View). won_claim u k a want) (same_view (λ v. MayClaim v k a want) live)) i)))
            ∙ (λ i. core s.size s.agents (set s.words (counter_at k) (cond (sym b i) (a + want) y)) (set s.views j (cond (sym b i) (won_claim v k a want) (loaded_counter v k y)))),
        there,
      )

  pub claim_lost : (k : Counter) (a want p x : ℕ) (w : View) → LiveIn s.views j (λ v. MayClaim v k a want) → p ≡ counter_at k → x ≡ get_or s.words p 0 → x ≢ a → w ≡ loaded_counter here k x
      → Made s (Claim j k a want) (core s.size s.agents s.words (set s.views j w)) (Ok x)
  claim_lost k a want p x w live pe found lost is = let y : ℕ = get_or s.words (counter_at k) 0 in
      let there : x ≡ y = found ∙ ap (λ (r : ℕ). get_or s.words r 0) pe in let b : eqb y a ≡ false = ne_eqb y a (λ e. lost (there ∙ e)) in
      let v : View = view_at s j in (
        (λ i. core s.size s.agents (sym (set-get_or s.words (counter_at k) 0) i) (set s.views j ((is ∙ (λ m. loaded_counter (same_view (λ v. MayClaim v k a want) live m) k (there m))) i)))
            ∙ (λ i. core s.size s.agents (set s.words (counter_at k) (cond (sym b i) (a + want) y)) (set s.views j (cond (sym b i) (won_claim v k a want) (loaded_counter v k y)))),
        there,
      )

  pub store_done : (c n p x : ℕ) (w : View) → LiveIn s.views j (λ v. HasKey v.own_words c) → p ≡ content_at s.size c → x ≡ get_or s.words p 0 → w ≡ stored_word here c n
      → Made s (StoreWord j c n) (core s.size s.agents (set s.words p n) (set s.views j w)) (Ok x)
  store_done c n p x w live pe found is = (
    (λ i. core s.size s.agents (set s.words (pe i) n) (set s.views j ((is ∙ ap (λ (u : View). stored_word u c n) (same_view (λ v. HasKey v.own_words c) live)) i))),
    found ∙ ap (λ (r : ℕ). get_or s.words r 0) pe,
  )

  pub length_done : (i n p x m : ℕ) (w : View) → LiveIn s.views j (λ v. MayStoreLength v i n) → p ≡ length_at s.size i → x ≡ get_or s.words p 0 → m ≡ n → w ≡ stored_length here i n
      → Made s (StoreLength j i n) (core s.size s.agents (set s.words p m) (set s.views j w)) (Ok x)
  length_done i n p x m w live pe found me is = (
    (λ k. core s.size s.agents (set s.words (pe k) (me k)) (set s.views j ((is ∙ ap (λ (u : View). stored_length u i n) (same_view (λ v. MayStoreLength v i n) live)) k))),
    found ∙ ap (λ (r : ℕ). get_or s.words r 0) pe,
  )

  pub birth_done : (i n p x m : ℕ) (f : Form) (w : View) → LiveIn s.views j (λ v. MayBear v i f) → p ≡ form_at s.size i → x ≡ get_or s.words p 0
      → m ≡ word_of f → n ≡ unwrap_or (get here.own_ids i) 0 → w ≡ born_with here i n f → Made s (Birth j i f) (core s.size s.agents (set s.words p m) (set s.views j w)) (Ok x)
  birth_done i n p x m f w live pe found me ne is = (
    (λ k. core s.size s.agents (set s.words (pe k) (me k)) (set s.views j ((is ∙ ((λ r. born_with here i (ne r) f) ∙ ap (λ (u : View). born u i f) (same_view (λ v. MayBear v i f) live))) k))),
    found ∙ ap (λ (r : ℕ). get_or s.words r 0) pe,
  )

-- what one view used, all used
part_of : (f : View → ℕ) (vs : List View) (j : ℕ) (v w : View) → At vs j v → v.live ≡ true → w.live ≡ true → f w ≡ 0 → f v ≤ total f vs
part_of f vs j v w at live l e = let h = total_set f vs j v w at live l in omega arith

pub used_within : (s : Core) (j : ℕ) (v : View) (k : Counter) → IsSoundCore s → At s.views j v → v.live ≡ true → counter_value v.used k ≤ get_or s.words (counter_at k) 0
used_within s j v Ids h at live = let w : View = record v { used = nothing_used } in let e = h.added in let f = e.ids in
    let p = part_of (λ u. u.used.ids) s.views j v w at live live refl in omega arith
used_within s j v Words h at live = let w : View = record v { used = nothing_used } in let e = h.added in let f = e.words in
    let p = part_of (λ u. u.used.words) s.views j v w at live live refl in omega arith

-- where a counter ends
pub end_small : (s : Core) (j : ℕ) (v : View) (k : Counter) → IsSoundCore s → At s.views j v → v.live ≡ true → end_of v.sizes k < 536870912
end_small s j v Ids h at live = let l = h.lawful in let i = l.1 in let e = (h.members j v at live).1 in subst (λ (z : HeapSize). z.ids < 536870912) (sym e) i
end_small s j v Words h at live = let l = h.lawful in let i = l.3 in let e = (h.members j v at live).1 in subst (λ (z : HeapSize). z.words < 536870912) (sym e) i

-- where an own word lies
pub own_word : (s : Core) (j c : ℕ) → IsCore s → LiveIn s.views j (λ v. HasKey v.own_words c) → IsLawfulSize s.size × (c < s.size.words) × (content_at s.size c < length s.words)
own_word s j c h live = let g : IsSoundCore s = sound_of s j (λ v. HasKey v.own_words c) h live in
    let p = has_key live.0.own_words c live.3 in let o = ((g.own_words j live.0 live.1 live.2).each c p.0 p.1).0 in
    let n = g.counted in let e = n.words_end in let l = n.long in (g.lawful, omega arith, omega arith)

-- where the words of an own id lie
pub own_id : (s : Core) (j i : ℕ) → IsCore s → LiveIn s.views j (λ v. HasKey v.own_ids i) → IsLawfulSize s.size × (i < s.size.ids) ×
    (form_at s.size i < length s.words) × (length_at s.size i < length s.words)
own_id s j i h live = let g : IsSoundCore s = sound_of s j (λ v. HasKey v.own_ids i) h live in let p = has_key live.0.own_ids i live.3 in
    let o = ((g.own_ids j live.0 live.1 live.2).each i p.0 p.1).0 in
    let n = g.counted in let e = n.ids_end in let l = n.long in (g.lawful, omega arith, omega arith, omega arith)

pub own_lengths : (s : Core) (i : ℕ) → IsCore s → EachLive s.views (λ _ v. (n : ℕ) → Has v.own_ids i n → n ≤ MAX)
own_lengths s i h j v at live n has = let g : IsSoundCore s = sound_of s j (λ v. Unit {0}) h (v, at, live, tt) in ((g.own_ids j v at live).each i n has).3

-- what a birth may rest on: the length is short, and the form is spelt by a word
pub bears_short : (s : Core) (j i : ℕ) (f : Form) (d : View) → IsCore s → LiveIn s.views j (λ v. MayBear v i f) → unwrap_or (get (get_or s.views j d).own_ids i) 0 ≤ MAX
bears_short s j i f d h live = let v : View = live.0 in let is : get_or s.views j d ≡ v = at_index s.views j v d live.1 in let n : ℕ = live.3.0 in
    let own : unwrap_or (get (get_or s.views j d).own_ids i) 0 ≡ n = (λ k. unwrap_or (get (is k).own_ids i) 0) ∙ ap (λ (o : Option ℕ). unwrap_or o 0) live.3.1 in
    subst (λ (m : ℕ). m ≤ MAX) (sym own) (own_lengths s i h j v live.1 live.2 n live.3.1)

pub bears_range : (s : Core) (j i : ℕ) (f : Form) → IsCore s → LiveIn s.views j (λ v. MayBear v i f) → IsInRange f
bears_range s j i (Flat wide start fixed) h live = live.3.2.0
bears_range s j i (Cons wide left right) h live = let g : IsSoundCore s = sound_of s j (λ v. MayBear v i (Cons wide left right)) h live in let fit = live.3.2 in
    let l = fit.0 in let r = fit.1 in let low = ((g.own_ids j live.0 live.1 live.2).each i live.3.0 live.3.1).0 in let end = g.counted.ids_end in let z = g.lawful.1 in (omega arith, omega arith)
bears_range s j i (Sliced wide parent offset) h live = let g : IsSoundCore s = sound_of s j (λ v. MayBear v i (Sliced wide parent offset)) h live in let fit = live.3.2 in
    let p = fit.0 in let low = ((g.own_ids j live.0 live.1 live.2).each i live.3.0 live.3.1).0 in let end = g.counted.ids_end in let z = g.lawful.1 in
    let k = g.knows j live.0 live.1 live.2 in let n : ℕ = live.3.0 in
    let room = (shown_part_right s.size s.words s.views g.standing live.0 k parent offset n fit.3.0 fit.3.1).1 in
    let born : IsBorn s.size s.words parent = ⊎_elim (λ (t : (f : Form) × Has live.0.forms parent f × (IsCons f → ⊥) × (IsSliced f → ⊥)). (k.of_forms parent t.0 t.1).born)
    (λ (t : (l : ℕ) × (x : Bool) × (o : ℕ) × Has live.0.forms l (Sliced x parent o)). (k.of_forms t.0 (Sliced t.1 parent t.2) t.3).shows.0) fit.2 in
    let st = g.standing parent born in let long = st.length_is in let short = st.short in (omega arith, omega arith)
bears_range s j i Unborn h live = absurd live.3.2
bears_range s j i (Thin t) h live = absurd live.3.2

none_or : {X : Type 0} (o : Option X) → ((x : X) → o ≡ Some x → ⊥) → o ≡ None
none_or None f = refl
none_or (Some x) f = absurd (f x refl)

pub bears_fresh : (s : Core) (j i : ℕ) (f : Form) (d : View) → IsCore s → LiveIn s.views j (λ v. MayBear v i f) → (get (get_or s.views j d).units i ≡ None) × (get (get_or s.views j d).forms i ≡ None)
bears_fresh s j i f d h live = let v : View = live.0 in let P : View → Type 0 = (λ v. MayBear v i f) in let g : IsSoundCore s = sound_of s j P h live in
    let unborn : form s.size s.words i ≡ 0 = ((g.own_ids j v live.1 live.2).each i live.3.0 live.3.1).1 in let k = g.knows j v live.1 live.2 in
    subst (λ (u : View). (get u.units i ≡ None) × (get u.forms i ≡ None)) (sym (at_index s.views j v d live.1))
    (none_or (get v.units i) (λ us e. (k.of_units i us e).0.1 unborn), none_or (get v.forms i) (λ f e. (k.of_forms i f e).born.1 unborn))

-- what a test of the two live views tells of a joining
pub join_tells : (vs : List View) (j o : ℕ) (v b : View) (t : Bool) → j ≢ o → At vs j v × (v.live ≡ true) → At vs o b × (b.live ≡ true) → Tells t (MayJoin v b)
    → Tells t ((j ≢ o) × LiveIn vs j (λ v. LiveIn vs o (λ b. MayJoin v b)))
join_tells vs j o v b t ne here there test = let all = live_tells vs j (λ v. LiveIn vs o (λ b. MayJoin v b)) v t here (live_tells vs o (λ b. MayJoin v b) b t there test) in
    ((λ h. (ne, all.0 h)), (λ h. all.1 h.1))

pub join_not : (vs : List View) (j o : ℕ) → (LiveIn vs j (λ v. Unit {0}) → ⊥) → Tells false ((j ≢ o) × LiveIn vs j (λ v. LiveIn vs o (λ b. MayJoin v b)))
join_not vs j o not = ((λ (e : false ≡ true). absurd (cc)), (λ h. absurd (not (h.1.0, h.1.1, h.1.2, tt))))

pub join_not_other : (vs : List View) (j o : ℕ) → (LiveIn vs o (λ v. Unit {0}) → ⊥) → Tells false ((j ≢ o) × LiveIn vs j (λ v. LiveIn vs o (λ b. MayJoin v b)))
join_not_other vs j o not = ((λ (e : false ≡ true). absurd (cc)), (λ h. let t = h.1.3 in absurd (not (t.0, t.1, t.2, tt))))

-- word 0 is there
pub some_words : (s : Core) (j : ℕ) (P : View → Type 0) → IsCore s → LiveIn s.views j P → 0 < length s.words
some_words s j P h t = let g : IsSoundCore s = sound_of s j P h t in let l = g.counted.long in omega arith

pub split_done : (s : Core) (j give x : ℕ) (d e left right : View) (vs : List View) → LiveIn s.views j (λ v. (1 ≤ give) × (give < v.share))
    → x ≡ get_or s.words 0 0 → right ≡ right_after_split (get_or s.views j d) give
    → vs ≡ s.views ++ right ∷ [] → left ≡ left_after_split (get_or vs j e) give → Made s (Split j give) (core s.size s.agents s.words (set vs j left)) (Ok x)
split_done s j give x d e left right vs live found is grown rest = let P : View → Type 0 = (λ v. (1 ≤ give) × (give < v.share)) in let l = view_inside s.views j P live in let u : View = view_at s j in
    let r : right ≡ right_after_split u give = is ∙ ap (λ (v : View). right_after_split v give) (any_default s.views j d spent l) in
    let h : left ≡ left_after_split u give = rest ∙ ap (λ (v : View). left_after_split v give)
    (ap (λ (ws : List View). get_or ws j e) grown ∙ (get_or-append s.views (right ∷ []) e j l ∙ any_default s.views j e spent l)) in (
      (λ i. core s.size s.agents s.words (set (grown i) j left)) ∙ ((λ i. core s.size s.agents s.words
          (set-append_left s.views (right ∷ []) j left l i)) ∙ (λ i. core s.size s.agents s.words (set s.views j (h i) ++ r i ∷ []))),
      found,
    )

-- what a giver has left, where one more view stands behind it
pub split_room : (vs us : List View) (j give : ℕ) (v right : View) → LiveIn vs j (λ v. (1 ≤ give) × (give < v.share)) → us ≡ vs ++ right ∷ [] → v ≡ get_or us j v → give ≤ v.share
split_room vs us j give v right live grown here =
    let is : v ≡ live.0 = here ∙ (ap (λ (ws : List View). get_or ws j v) grown ∙
    (get_or-append vs (right ∷ []) v j (at_within vs j live.0 live.1) ∙ at_index vs j live.0 v live.1)) in
    let less = live.3.1 in subst (λ (u : View). give ≤ u.share) (sym is) (omega arith)

pub join_done : (s : Core) (j o x : ℕ) (d e w b : View) → (j ≢ o) × LiveIn s.views j (λ v. LiveIn s.views o (λ b. MayJoin v b)) → x ≡ get_or
    s.words 0 0 → w ≡ joined_view (get_or s.views j d) (get_or s.views o e) → b ≡ spent
    → Made s (Join j o) (core s.size s.agents s.words (set (set s.views j w) o b)) (Ok x)
join_done s j o x d e w b can found is dead = let l = view_inside s.views j (λ v. LiveIn s.views o (λ b. MayJoin v b)) can.1 in let m = view_inside s.views o (λ b. MayJoin can.1.0 b) can.1.3 in (
  (λ i. core s.size s.agents s.words (set (set s.views j ((is ∙ (λ k. joined_view (any_default s.views j d spent l k) (any_default s.views o e spent m k))) i)) o (dead i))),
  found,
)

-- the sums of two different live views' parts are within the sum of all
pub two_within : (f : View → ℕ) (vs : List View) (j o : ℕ) (v b : View) → j ≢ o → At vs j v → v.live ≡ true → At vs o b → b.live ≡ true → f v + f b ≤ total f vs
two_within f vs j o v b ne at live at_other live_other = let gone = total_gone f vs j v at live in let there : At (set vs j spent) o b = set_else vs j o spent (λ h. ne (sym h)) ∙ at_other in
    let rest = total_gone f (set vs j spent) o b there live_other in omega arith

-- what a joining adds up fits
pub join_fits : (s : Core) (j o : ℕ) (d e : View) → s.agents < 2 ^ 32 → IsCore s → (j ≢ o) × LiveIn s.views j (λ v. LiveIn s.views o (λ b. MayJoin v b))
    → let v : View = get_or s.views j d in let b : View = get_or s.views o e in (v.share + b.share < 2 ^ 32) × (v.used.ids + b.used.ids < 2 ^ 32) × (v.used.words + b.used.words < 2 ^ 32)
join_fits s j o d e small_agents h can = let t = can.1 in let v : View = t.0 in let r = t.3 in let b : View = r.0 in
    let g : IsSoundCore s = sound_of s j (λ v. LiveIn s.views o (λ b. MayJoin v b)) h t in
    let a = g.added in let n = g.counted in let z = g.lawful in let small = n.ids_end in let small_words = n.words_end in
    let shares = two_within (λ u. u.share) s.views j o v b can.0 t.1 t.2 r.1 r.2 in
    let ids = two_within (λ u. u.used.ids) s.views j o v b can.0 t.1 t.2 r.1 r.2 in
    let words = two_within (λ u. u.used.words) s.views j o v b can.0 t.1 t.2 r.1 r.2 in
    let agents = a.shares in let total_ids = a.ids in let total_words = a.words in
    subst (λ (p : View × View). (p.0.share + p.1.share < 2 ^ 32) × (p.0.used.ids + p.1.used.ids < 2 ^ 32) × (p.0.used.words + p.1.used.words < 2 ^ 32))
    (λ i. (sym (at_index s.views j v d t.1) i, sym (at_index s.views o b e r.1) i)) (omega arith, omega arith, omega arith)
