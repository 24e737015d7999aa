-- What settling answers after a load.
use Rattle.std.proofs.Common.{◌≡◌, ◌+◌, ◌<◌, ◌⊎◌, ⊎_elim, ℕ, Bool, List, length, sym, refl, subst, ◌∙◌, arith}
use Rattle.std.specs.Prelude.{Result, Ok, Err, IfOk, IfErr}
use Rattle.std.specs.FinMap.{FinMap}
use Rattle.std.specs.Ordering.{nat_cmp}
use Rattle.js_units.specs.Lanes.{words_over}
use Rattle.js_header.specs.declared.form.Form.{Form}
use Rattle.js_header.specs.declared.form.Form.TheVariants.{Unborn, Cons, Flat, Sliced, Thin}
use Rattle.heap_rule.specs.declared.size.HeapSize.{HeapSize}
use Rattle.heap_rule.specs.declared.view.View.{View}
use Rattle.heap_rule.specs.Forms.{IsCons, IsLater}
use Rattle.heap_rule.specs.Maps.{HasKey}
use Rattle.heap_text.specs.declared.faults.TextFull.{TextFull}
use Rattle.heap_table.specs.Known.{KeepsKnown}
use Rattle.heap_text.specs.Filling.{IsBoth, units_at}
use Rattle.heap_text.specs.Settling.{HasSides, IsFlattened, IsNoRoom}
use Rattle.heap_text.proofs.Sides.{units_there}
use Rattle.heap_read.specs.Reads.{OnlyLoads}
use Rattle.heap_text.proofs.Pieces.{spared_after, uses_after}

module _ {A E : Type 0} where
  pub ok_then : (r : Result A E) (P Q : A → Type 0) → ((a : A) → P a → Q a) → IfOk r P → IfOk r Q
  ok_then (Ok a) P Q f h = f a h
  ok_then (Err e) P Q f h = tt

  pub err_then : (r : Result A E) (P Q : E → Type 0) → ((e : E) → P e → Q e) → IfErr r P → IfErr r Q
  err_then (Ok a) P Q f h = tt
  err_then (Err e) P Q f h = f e h

pub no_cons : (f : Form) → ((wide : Bool) (left right : ℕ) → f ≡ Cons wide left right → ⊥) → IsCons f → ⊥
no_cons Unborn n h = h
no_cons (Flat wide start fixed) n h = h
no_cons (Cons wide left right) n h = n wide left right refl
no_cons (Sliced wide parent offset) n h = h
no_cons (Thin target) n h = h

-- a Cons comes after no form, so one that is found where a Cons was seen is that one
pub same_bit : (seen wide : Bool) (l r left right : ℕ) (f : Form) → f ≡ Cons wide left right → (Cons seen l r ≡ f) ⊎ IsLater (Cons seen l r) f → wide ≡ seen
same_bit seen wide l r left right f is h = ⊎_elim
    (λ (e : Cons seen l r ≡ f). let same : Cons seen l r ≡ Cons wide left right = e ∙ is in cc)
    (λ (k : IsLater (Cons seen l r) f). let never : IsLater (Cons seen l r) (Cons wide left right) = subst (IsLater (Cons seen l r)) is k in absurd (cc)) h

pub sides_of : (b x : View) (i left right m : ℕ) (us : List ℕ) → KeepsKnown b x → (left < i) × (right < i) → HasKey b.units left × HasKey
    b.units right → IsBoth us (units_at b left) (units_at b right) m (length us) → HasSides x i us
sides_of b x i left right m us k below known both = let e = both.left_count in let e' = both.right_count in let s = both.left_some in let s' = both.right_some in record {
  left = left;
  right = right;
  below = below;
  front = units_at b left;
  back = units_at b right;
  left_units = k.units left (units_at b left) (units_there b left known.0);
  right_units = k.units right (units_at b right) (units_there b right known.1);
  left_some = omega arith;
  right_some = omega arith;
  joined = both.both;
}

module _ (v u w : View) (read : OnlyLoads v u) where
  pub flattened_after : (i : ℕ) (us : List ℕ) (wide : Bool) → IsFlattened u w i us wide → IsFlattened v w i us wide
  flattened_after i us wide h = let n : ℕ = words_over wide (length us) in record {
    narrow = h.narrow;
    used = uses_after v u w 0 n n read.used refl h.used;
    own_ids = h.own_ids ∙ read.own_ids;
    own_words = λ c k. h.own_words c (subst (λ (m : FinMap nat_cmp ℕ). HasKey m c) (sym read.own_words) k);
    sides = h.sides;
    words = (h.words.0, λ q l k. h.words.1 q l (subst (λ (m : FinMap nat_cmp ℕ). HasKey m (h.words.0 + q)) (sym read.own_words) k), h.words.2);
  }

  pub no_room_after : (z : HeapSize) (us : List ℕ) (f : TextFull) (wide : Bool) → IsNoRoom u w z us f wide → IsNoRoom v w z us f wide
  no_room_after z us f wide h = let n : ℕ = words_over wide (length us) in record {
    narrow = h.narrow;
    words = h.words;
    told = h.told;
    spared = spared_after v u w n n f read refl h.spared;
  }
