-- A new Cons: it fits, and has the units of both sides joined.
use Rattle.std.proofs.Common.{◌≡◌, ◌≢◌, ℕ, ◌<◌, ◌||◌, ◌⊎◌, inl, inr, ⊎_elim, Bool, true, false, List, [], ◌++◌, length, refl, ap, sym, subst, ◌∙◌, arith, Some}
use Rattle.std.specs.Prelude.{unwrap_or, Result, Ok, Err}
use Rattle.std.proofs.lemmas.List.Elements.{All-append}
use Rattle.std.proofs.Math.Logic.{∥∥₁_elim}
use Rattle.std.proofs.Props.{props}
use Rattle.std.specs.FinMap.{get}
use Rattle.js_units.specs.Lanes.{words_over, is_wide}
use Rattle.js_header.specs.declared.form.Form.{Form}
use Rattle.js_header.specs.declared.form.Form.TheVariants.{Unborn, Flat, Cons, Sliced, Thin}
use Rattle.heap_rule.specs.declared.size.HeapSize.{HeapSize}
use Rattle.heap_rule.specs.declared.view.View.{View}
use Rattle.heap_rule.specs.Births.{born, units_for}
use Rattle.heap_rule.specs.Forms.{IsNarrow}
use Rattle.heap_rule.specs.Maps.{Has}
use Rattle.heap_rule.specs.Sound.{IsPossible, StandsIn}
use Rattle.heap_rule.proofs.MapLemmas.{insert_other, insert_same}
use Rattle.heap_table.specs.Known.{KeepsKnown}
use Rattle.heap_text.specs.declared.faults.JoinFault.{JoinFault}
use Rattle.heap_text.specs.declared.faults.JoinFault.TheVariants.{Full}
use Rattle.heap_text.specs.declared.faults.TextFull.{TextFull}
use Rattle.heap_read.specs.declared.string.JsStr.{JsStr}
use Rattle.heap_text.specs.Joins.{IsCopied, IsCopy, IsLinked, IsNoId, IsTextRefused, IsRope, IsWideIn, wide_bit}
use Rattle.heap_read.specs.Sides.{KnowsSide}
use Rattle.heap_read.specs.Reads.{Continues, OnlyLoads}
use Rattle.heap_read.proofs.Leading.{narrow_sliced, narrow_thin}
use Rattle.heap_text.proofs.Pieces.{spared_after, uses_after}

flat_in : (v : View) → StandsIn v → (i : ℕ) (wide : Bool) (start : ℕ) (fixed : Bool) (us : List ℕ) → Has v.forms i (Flat wide start fixed) → Has v.units i us → IsNarrow wide us
flat_in v (z, agents, W, vs, j, s, at, live) i wide start fixed us f u = let k = s.knows j v at live in subst (IsNarrow wide) (k.of_units i us u).1 (k.of_forms i (Flat wide start fixed) f).shows.3

narrow_flat : (v : View) → IsPossible v → (i : ℕ) (wide : Bool) (start : ℕ) (fixed : Bool) (us : List ℕ) → Has v.forms i (Flat wide start fixed) → Has v.units i us → IsNarrow wide us
narrow_flat v p i true start fixed us f u = tt
narrow_flat v p i false start fixed us f u = ∥∥₁_elim p (Prim.hlevel props) (λ t. flat_in v t i false start fixed us f u)

cons_in : (v : View) → StandsIn v → (i : ℕ) (wide : Bool) (l r : ℕ) (us : List ℕ) → Has v.forms i (Cons wide l r) → Has v.units i us → IsNarrow wide us
cons_in v (z, agents, W, vs, j, s, at, live) i wide l r us f u = let k = s.knows j v at live in subst (IsNarrow wide) (k.of_units i us u).1 (k.of_forms i (Cons wide l r) f).shows.8

-- without the wide bit all units of a Cons are below 256
pub narrow_cons : (v : View) → IsPossible v → (i : ℕ) (wide : Bool) (l r : ℕ) (us : List ℕ) → Has v.forms i (Cons wide l r) → Has v.units i us → IsNarrow wide us
narrow_cons v p i true l r us f u = tt
narrow_cons v p i false l r us f u = ∥∥₁_elim p (Prim.hlevel props) (λ t. cons_in v t i false l r us f u)

-- and so of each form that was seen; of a Thin its target tells
pub narrow_side : (v : View) → IsPossible v → (i : ℕ) (f : Form) (b : Bool) (us : List ℕ) → f ≢ Unborn → Has v.forms i f → Has v.units i us → IsWideIn v f b → IsNarrow b us
narrow_side v p i Unborn b us real h u w = absurd (real refl)
narrow_side v p i (Flat wide start fixed) b us real h u w = subst (λ (c : Bool). IsNarrow c us) (sym w) (narrow_flat v p i wide start fixed us h u)
narrow_side v p i (Cons wide l r) b us real h u w = subst (λ (c : Bool). IsNarrow c us) (sym w) (narrow_cons v p i wide l r us h u)
narrow_side v p i (Sliced wide parent offset) b us real h u w = subst (λ (c : Bool). IsNarrow c us) (sym w) (narrow_sliced v p i wide parent offset us h u)
narrow_side v p i (Thin target) b us real h u w = narrow_thin v p i target b w.0 us h u w.1

-- a form that is no Thin tells by itself
pub own_wide : (v : View) (f : Form) (b : Bool) → b ≡ wide_bit f → ((target : ℕ) → f ≡ Thin target → ⊥) → IsWideIn v f b
own_wide v Unborn b e other = e
own_wide v (Flat wide start fixed) b e other = e
own_wide v (Cons wide l r) b e other = e
own_wide v (Sliced wide parent offset) b e other = e
own_wide v (Thin target) b e other = absurd (other target refl)

-- a fixed Flat stays, so the target of a Thin tells the same afterwards
pub wide_kept : (v w : View) → KeepsKnown v w → (f : Form) (b : Bool) → IsWideIn v f b → IsWideIn w f b
wide_kept v w k Unborn b h = h
wide_kept v w k (Flat wide start fixed) b h = h
wide_kept v w k (Cons wide l r) b h = h
wide_kept v w k (Sliced wide parent offset) b h = h
wide_kept v w k (Thin target) b h = (h.0, k.flats target b h.0 h.1)

-- what is known stays known
pub side_kept : (v w : View) → KeepsKnown v w → (f : Form) → KnowsSide v f → KnowsSide w f
side_kept v w k Unborn h = tt
side_kept v w k (Flat wide start fixed) h = tt
side_kept v w k (Cons wide left right) h = k.known left h
side_kept v w k (Sliced wide parent offset) h = k.known parent h
side_kept v w k (Thin target) h = k.known target h

pub narrow_both : (b c : Bool) (us vs : List ℕ) → IsNarrow b us → IsNarrow c vs → IsNarrow (b || c) (us ++ vs)
narrow_both true c us vs h k = tt
narrow_both false true us vs h k = tt
narrow_both false false us vs h k = All-append (λ (u : ℕ). u < 256) us vs h k

pub born_rope : (v : View) (i n : ℕ) (wide : Bool) (l r : ℕ) (us vs : List ℕ) → Has v.units l us → Has v.units r vs → Has (born v i (Cons wide l r)).units i (us ++ vs)
born_rope v i n wide l r us vs a b = insert_same v.units i (units_for v (unwrap_or (get v.own_ids i) 0) (Cons wide l r)) ∙ (λ j. Some (unwrap_or (a j) [] ++ unwrap_or (b j) []))

pub born_cons : (v : View) (i : ℕ) (wide : Bool) (l r : ℕ) → Has (born v i (Cons wide l r)).forms i (Cons wide l r)
born_cons v i wide l r = insert_same v.forms i (Cons wide l r)

pub born_other : (v : View) (i q : ℕ) (wide : Bool) (l r : ℕ) (f : Form) → q < i → Has v.forms q f → Has (born v i (Cons wide l r)).forms q f
born_other v i q wide l r f less h = insert_other v.forms i q (Cons wide l r) (λ e. absurd (omega arith)) ∙ h

pub continues_rope : (v : View) (i : ℕ) (wide : Bool) (l r : ℕ) → KeepsKnown v (born v i (Cons wide l r)) → Continues v (born v i (Cons wide l r))
continues_rope v i wide l r k = record {
  known = k;
  sizes = refl;
  agents = refl;
  live = refl;
  share = refl;
  ids_used = omega arith;
  words_used = omega arith;
  ids_low = omega arith;
  words_low = omega arith;
  slots = refl;
  seen = refl;
  mine = refl;
  slot_loads = refl;
}

-- what a call answers within the call that joins
abbrev pub lifted : Result JsStr TextFull → Result JsStr JoinFault
lifted (Ok s) = Ok s
lifted (Err f) = Err (Full f)

module _ (v w : View) (z : HeapSize) where
  pub copied_lifted : (us : List ℕ) (r : Result JsStr TextFull) → IsCopied v w z us r
      → ((t : JsStr) × (lifted r ≡ Ok t) × IsCopy v w t us) ⊎ ((f : TextFull) × (lifted r ≡ Err (Full f)) × IsTextRefused v w z us f)
  copied_lifted us r h = ⊎_elim
      (λ (c : (t : JsStr) × (r ≡ Ok t) × IsCopy v w t us). inl (c.0, ap lifted c.1, c.2))
      (λ (c : (f : TextFull) × (r ≡ Err f) × IsTextRefused v w z us f). inr (c.0, ap lifted c.1, c.2)) h

  pub linked_lifted : (a b : JsStr) (us : List ℕ) (r : Result JsStr TextFull) → IsLinked v w z a b us r
      → ((t : JsStr) × (lifted r ≡ Ok t) × IsRope v w a b t us) ⊎ ((f : TextFull) × (lifted r ≡ Err (Full f)) × IsNoId v w z f)
  linked_lifted a b us r h = ⊎_elim
      (λ (c : (t : JsStr) × (r ≡ Ok t) × IsRope v w a b t us). inl (c.0, ap lifted c.1, c.2))
      (λ (c : (f : TextFull) × (r ≡ Err f) × IsNoId v w z f). inr (c.0, ap lifted c.1, c.2)) h

-- what was answered after loads, from before them
module _ (v u w : View) (z : HeapSize) (read : OnlyLoads v u) where
  pub copied_after : (us : List ℕ) (r : Result JsStr TextFull) → IsCopied u w z us r → IsCopied v w z us r
  copied_after us r h = let n : ℕ = words_over (is_wide us) (length us) in ⊎_elim
      (λ (c : (t : JsStr) × (r ≡ Ok t) × IsCopy u w t us). inl (c.0, c.1, (c.2.0, c.2.1, uses_after v u w 1 n n read.used refl c.2.2)))
      (λ (c : (f : TextFull) × (r ≡ Err f) × IsTextRefused u w z us f). inr (c.0, c.1, (c.2.0, spared_after v u w n n c.0 read refl c.2.1))) h

  pub linked_after : (a b : JsStr) (us : List ℕ) (r : Result JsStr TextFull) → IsLinked u w z a b us r → IsLinked v w z a b us r
  linked_after a b us r h = ⊎_elim
      (λ (c : (t : JsStr) × (r ≡ Ok t) × IsRope u w a b t us). inl (c.0, c.1, (c.2.0, c.2.1, uses_after v u w 1 0 0 read.used refl c.2.2)))
      (λ (c : (f : TextFull) × (r ≡ Err f) × IsNoId u w z f). inr (c.0, c.1, (c.2.0, c.2.1, spared_after v u w 0 0 c.0 read refl c.2.2))) h
