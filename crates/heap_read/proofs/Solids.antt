-- Of which kinds a form is that is solid, and one that is not told to be a Cons.
use Rattle.std.proofs.Common.{◌≡◌, ◌≤◌, ℕ, Bool, refl, arith}
use Rattle.js_header.specs.declared.form.Form.{Form}
use Rattle.js_header.specs.declared.form.Form.TheVariants.{Unborn, Flat, Cons, Sliced, Thin}
use Rattle.heap_rule.specs.Forms.{IsCons, IsSolid}
use Rattle.heap_rule.specs.declared.view.View.{View}
use Rattle.heap_table.specs.Known.{KeepsKnown}
use Rattle.heap_read.specs.Sides.{KnowsSide, target_loads}

pub no_other : (f : Form) → IsSolid f → ((wide : Bool) (start : ℕ) (fixed : Bool) → f ≡ Flat wide start fixed → ⊥) → ((target : ℕ) → f ≡ Thin target → ⊥) → ⊥
no_other Unborn h a b = h
no_other (Flat wide start fixed) h a b = a wide start fixed refl
no_other (Cons wide left right) h a b = h
no_other (Sliced wide parent offset) h a b = h
no_other (Thin target) h a b = b target refl

pub no_cons : (f : Form) → ((wide : Bool) (left right : ℕ) → f ≡ Cons wide left right → ⊥) → IsCons f → ⊥
no_cons Unborn other h = h
no_cons (Flat wide start fixed) other h = h
no_cons (Cons wide left right) other h = other wide left right refl
no_cons (Sliced wide parent offset) other h = h
no_cons (Thin target) other h = h

-- a Thin has one target
pub one_target : (f : Form) → target_loads f ≤ 1
one_target Unborn = omega arith
one_target (Flat wide start fixed) = omega arith
one_target (Cons wide left right) = omega arith
one_target (Sliced wide parent offset) = omega arith
one_target (Thin target) = omega arith

-- the string that a form names stays known
pub side_kept : (v w : View) (f : Form) → KeepsKnown v w → KnowsSide v f → KnowsSide w f
side_kept v w Unborn k h = tt
side_kept v w (Flat wide start fixed) k h = tt
side_kept v w (Cons wide left right) k h = k.known left h
side_kept v w (Sliced wide parent offset) k h = k.known parent h
side_kept v w (Thin target) k h = k.known target h
