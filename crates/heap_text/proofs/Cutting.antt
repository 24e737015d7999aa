-- A new Sliced: by what the view has, its units are a part of its parent, and it has them.
use Rattle.std.proofs.Common.{◌≡◌, ℕ, ◌+◌, ◌-◌, ◌^◌, ◌<◌, ◌≤◌, inl, inr, ⊎_elim, Bool, true, false, cond, List, [], length, drop, refl, ap, sym, subst, ◌∙◌, arith, eq-eqb, Option, Some, None}
use Rattle.std.specs.Prelude.{◌&&◌, nat_le, unwrap_or, Result, Ok, Err}
use Rattle.std.proofs.lemmas.Bool.{le-leb}
use Rattle.std.proofs.lemmas.List.Elements.{All-drop, All-take}
use Rattle.std.proofs.Math.Logic.{∥∥₁_elim}
use Rattle.std.proofs.Props.{props}
use Rattle.std.specs.FinMap.{contains_key-keys, get, keys}
use Rattle.js_header.specs.Form.{IsInRange}
use Rattle.js_header.specs.declared.form.Form.{Form}
use Rattle.js_header.specs.declared.form.Form.TheVariants.{Unborn, Flat, Cons, Sliced, Thin}
use Rattle.heap_rule.specs.declared.size.HeapSize.{HeapSize}
use Rattle.heap_rule.specs.declared.view.View.{View}
use Rattle.heap_rule.specs.Births.{IsParent, MayBear, born, part, part_by, part_within, shown_part, stored_length, units_for}
use Rattle.heap_rule.specs.Contents.{units_of}
use Rattle.heap_rule.specs.Forms.{IsCons, IsNarrow}
use Rattle.heap_rule.specs.Layout.{length_word}
use Rattle.heap_rule.specs.Maps.{Has, first_in, first_some}
use Rattle.heap_rule.specs.Sound.{IsPossible, StandsIn}
use Rattle.heap_rule.proofs.MapLemmas.{insert_other, insert_same, key_of}
use Rattle.heap_rule.proofs.Parts.{shown_part_right}
use Rattle.heap_table.specs.Known.{KeepsKnown}
use Rattle.heap_text.specs.declared.faults.TextFull.{TextFull}
use Rattle.heap_read.specs.declared.string.JsStr.{JsStr}
use Rattle.heap_text.specs.Joins.{IsNoId, IsPart, IsPartCut, offset_of, parent_of}
use Rattle.heap_read.specs.Reads.{Continues, OnlyLoads}
use Rattle.heap_read.proofs.Leading.{possible_parent}
use Rattle.heap_text.proofs.Pieces.{part_part, spared_after, uses_after}
use Rattle.heap_text.proofs.Sides.{first_at, first_two}

both_true : (a b : Bool) → a ≡ true → b ≡ true → (a && b) ≡ true
both_true true b e f = f
both_true false b e f = absurd (cc)

within_told : (o n offset : ℕ) (us : List ℕ) → offset ≤ o → o + n ≤ offset + length us → part_within o n offset (Some us) ≡ Some (part (o - offset) n us)
within_told o n offset us l m = ap (λ (b : Bool). cond b (Some (part (o - offset) n us)) None)
    (both_true (nat_le offset o) (nat_le (o + n) (offset + length us)) (le-leb offset o l) (le-leb (o + n) (offset + length us) m))

module _ (v : View) (s from n : ℕ) (us : List ℕ) (units : Has v.units s us) (room : from + n ≤ length us) where
  -- the string itself shows its part
  own_part : (y : List ℕ) × (shown_part v s (0 + from) n ≡ Some y)
  own_part = let o : ℕ = 0 + from in
      let told : part_within o n 0 (get v.units s) ≡ Some (part (o - 0) n us) = ap (part_within o n 0) units ∙ within_told o n 0 us (omega arith) (omega arith) in
      (part (o - 0) n us, ap (λ (x : Option (List ℕ)). first_some x (first_in (λ j. part_by v s o n j (get v.forms j)) (keys v.forms))) told)

  -- a Sliced shows a part of its parent, or one before it does
  led_part : (wide : Bool) (parent offset : ℕ) → Has v.forms s (Sliced wide parent offset) → (y : List ℕ) × (shown_part v parent (offset + from) n ≡ Some y)
  led_part wide parent offset f = let o : ℕ = offset + from in
      let told : part_by v parent o n s (get v.forms s) ≡ Some (part (o - offset) n us) = ap (part_by v parent o n s) f
      ∙ (ap (λ (b : Bool). cond b (part_within o n offset (get v.units s)) None) (eq-eqb parent parent refl)
      ∙ (ap (part_within o n offset) units ∙ within_told o n offset us (omega arith) (omega arith))) in
      let t = first_at (λ j. part_by v parent o n j (get v.forms j)) s (keys v.forms) (part (o - offset) n us)
      (sym (contains_key-keys v.forms s) ∙ key_of v.forms s (Sliced wide parent offset) f) told in
      first_two (part_within o n 0 (get v.units parent)) (first_in (λ j. part_by v parent o n j (get v.forms j)) (keys v.forms)) (λ none. t)

  own_right : StandsIn v → (y : List ℕ) → shown_part v s (0 + from) n ≡ Some y → y ≡ part from n us
  own_right (z, agents, W, vs, j, st, at, live) y e = let k = st.knows j v at live in let a = k.of_units s us units in let plain : 0 + from ≡ from = omega arith in
      (shown_part_right z W vs st.standing v k s (0 + from) n y e).0 ∙ (λ i. part (plain i) n (a.1 i))

  led_right : StandsIn v → (wide : Bool) (parent offset : ℕ) → Has v.forms s (Sliced wide parent offset) → (y : List ℕ) → shown_part v parent (offset + from) n ≡ Some y → y ≡ part from n us
  led_right (z, agents, W, vs, j, st, at, live) wide parent offset f y e = let k = st.knows j v at live in let a = k.of_units s us units in
      let sh = (k.of_forms s (Sliced wide parent offset) f).shows in
      let m : ℕ = length_word z W s in let size : m ≡ length us = (st.standing s a.0).length_is ∙ ap length a.1 in let P : List ℕ = units_of z W parent in
      let whole : us ≡ part offset m P = sym a.1 ∙ sh.2 in
      (shown_part_right z W vs st.standing v k parent (offset + from) n y e).0 ∙ sym (ap (part from n) whole ∙ part_part offset m from n P sh.3 (omega arith))

  told_own : IsPossible v → shown_part v s (0 + from) n ≡ Some (part from n us)
  told_own p = let t = own_part in t.1 ∙ ap Some (∥∥₁_elim p (Prim.hlevel props) (λ q. own_right q t.0 t.1))

  told_led : IsPossible v → (wide : Bool) (parent offset : ℕ) → Has v.forms s (Sliced wide parent offset) → shown_part v parent (offset + from) n ≡ Some (part from n us)
  told_led p wide parent offset f = let t = led_part wide parent offset f in t.1 ∙ ap Some (∥∥₁_elim p (Prim.hlevel props) (λ q. led_right q wide parent offset f t.0 t.1))

  -- so the part that a slice is to have is told by its parent
  pub told_part : IsPossible v → (f : Form) → Has v.forms s f → shown_part v (parent_of s f) (offset_of f + from) n ≡ Some (part from n us)
  told_part p Unborn h = told_own p
  told_part p (Flat wide start fixed) h = told_own p
  told_part p (Cons wide left right) h = told_own p
  told_part p (Sliced wide parent offset) h = told_led p wide parent offset h
  told_part p (Thin target) h = told_own p

-- what a slice stands on may be a parent
pub cut_parent : (v : View) (s : ℕ) (f : Form) → Has v.forms s f → (IsCons f → ⊥) → IsParent v (parent_of s f)
cut_parent v s Unborn h n = inl (Unborn, h, n, λ x. x)
cut_parent v s (Flat wide start fixed) h n = inl (Flat wide start fixed, h, n, λ x. x)
cut_parent v s (Cons wide left right) h n = absurd (n tt)
cut_parent v s (Sliced wide parent offset) h n = inr (s, wide, offset, h)
cut_parent v s (Thin target) h n = inl (Thin target, h, n, λ x. x)

-- a parent is no greater than what is cut
pub parent_below : (v : View) → IsPossible v → (s : ℕ) (f : Form) (id : ℕ) → Has v.forms s f → s < id → parent_of s f < id
parent_below v p s Unborn id h l = l
parent_below v p s (Flat wide start fixed) id h l = l
parent_below v p s (Cons wide left right) id h l = l
parent_below v p s (Sliced wide parent offset) id h l = let less = possible_parent v p s wide parent offset h in omega arith
parent_below v p s (Thin target) id h l = l

-- the part of a narrow string is narrow
pub narrow_part : (wide : Bool) (from n : ℕ) (us : List ℕ) → IsNarrow wide us → IsNarrow wide (part from n us)
narrow_part true from n us h = tt
narrow_part false from n us h = All-take (λ (u : ℕ). u < 256) n (drop from us) (All-drop (λ (u : ℕ). u < 256) from us h)

pub born_part : (v : View) (i n : ℕ) (wide : Bool) (parent offset : ℕ) (us : List ℕ) → Has v.own_ids i n → shown_part v parent offset n ≡
    Some us → Has (born v i (Sliced wide parent offset)).units i us
born_part v i n wide parent offset us own told = insert_same v.units i (units_for v (unwrap_or (get v.own_ids i) 0) (Sliced wide parent offset))
    ∙ (ap (λ (o : Option ℕ). Some (unwrap_or (shown_part v parent offset (unwrap_or o 0)) [])) own ∙ ap (λ (o : Option (List ℕ)). Some (unwrap_or o [])) told)

pub born_sliced : (v : View) (i : ℕ) (wide : Bool) (parent offset : ℕ) → Has (born v i (Sliced wide parent offset)).forms i (Sliced wide parent offset)
born_sliced v i wide parent offset = insert_same v.forms i (Sliced wide parent offset)

pub sliced_other : (v : View) (i q : ℕ) (wide : Bool) (parent offset : ℕ) (f : Form) → q < i → Has v.forms q f → Has (born v i (Sliced wide parent offset)).forms q f
sliced_other v i q wide parent offset f less h = insert_other v.forms i q (Sliced wide parent offset) (λ e. absurd (omega arith)) ∙ h

pub continues_part : (v : View) (i : ℕ) (wide : Bool) (parent offset : ℕ) → KeepsKnown v (born v i (Sliced wide parent offset)) → Continues v (born v i (Sliced wide parent offset))
continues_part v i wide parent offset k = record {
  known = k;
  sizes = refl;
  agents = refl;
  live = refl;
  share = refl;
  ids_used = omega arith;
  words_used = omega arith;
  ids_low = omega arith;
  words_low = omega arith;
  slots = refl;
  seen = refl;
  mine = refl;
  slot_loads = refl;
}

pub offset_small : (f : Form) → IsInRange f → offset_of f < 2 ^ 29
offset_small Unborn h = omega arith
offset_small (Flat wide start fixed) h = omega arith
offset_small (Cons wide left right) h = omega arith
offset_small (Sliced wide parent offset) h = h.1
offset_small (Thin target) h = omega arith

-- a Sliced may be born of an own id whose length was stored
module _ (u y : View) (id s from n parent offset : ℕ) (wide : Bool) (f : Form) (us : List ℕ) (is : y ≡ stored_length u id n) (on : parent ≡ parent_of s f) (at : offset ≡ offset_of f + from)
    (told : shown_part u (parent_of s f) (offset_of f + from) n ≡ Some us) where
  here : shown_part u parent offset n ≡ Some us
  here = (λ i. shown_part u (on i) (at i) n) ∙ told

  own : Has (stored_length u id n).own_ids id n
  own = insert_same u.own_ids id n

  pub may_part : parent < id → 13 ≤ n → IsParent u (parent_of s f) → IsNarrow wide us → MayBear y id (Sliced wide parent offset)
  may_part less long stands narrow = subst (λ (w : View). MayBear w id (Sliced wide parent offset)) (sym is) (n, own, (less, long, subst (IsParent u) (sym on) stands, (us, here, narrow)))

  pub part_units : Has (born y id (Sliced wide parent offset)).units id us
  part_units = subst (λ (w : View). Has (born w id (Sliced wide parent offset)).units id us) (sym is) (born_part (stored_length u id n) id n wide parent offset us own here)

-- what was answered after loads, from before them
module _ (v u w : View) (z : HeapSize) (read : OnlyLoads v u) where
  pub part_after : (s : JsStr) (from : ℕ) (us : List ℕ) (r : Result JsStr TextFull) → IsPartCut u w z s from us r → IsPartCut v w z s from us r
  part_after s from us r h = ⊎_elim
      (λ (c : (t : JsStr) × (r ≡ Ok t) × IsPart u w s from t us). inl (c.0, c.1, (c.2.0, c.2.1, uses_after v u w 1 0 0 read.used refl c.2.2)))
      (λ (c : (f : TextFull) × (r ≡ Err f) × IsNoId u w z f). inr (c.0, c.1, (c.2.0, c.2.1, spared_after v u w 0 0 c.0 read refl c.2.2))) h
