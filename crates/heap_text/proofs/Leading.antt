-- The forms of a short string.
use Rattle.std.proofs.Common.{◌≢◌, ℕ, ◌<◌, List, length, refl, arith}
use Rattle.js_header.specs.declared.form.Form.{Form}
use Rattle.js_header.specs.declared.form.Form.TheVariants.{Cons, Flat, Sliced, Thin, Unborn}
use Rattle.heap_rule.specs.declared.view.View.{View}
use Rattle.heap_rule.specs.Forms.{IsSolid}
use Rattle.heap_rule.specs.Maps.{Has}
use Rattle.heap_rule.specs.Sound.{IsPossible}
use Rattle.heap_read.proofs.Leading.{possible_sliced}
use Rattle.heap_text.proofs.Sides.{possible_cons}

-- a string that is shorter than any rope or slice is a Flat or a Thin
pub short_solid : (v : View) → IsPossible v → (i : ℕ) (f : Form) (us : List ℕ) → f ≢ Unborn → Has v.forms i f → Has v.units i us → length us < 13 → IsSolid f
short_solid v p i Unborn us real h u l = absurd (real refl)
short_solid v p i (Flat wide start fixed) us real h u l = tt
short_solid v p i (Cons wide left right) us real h u l = let long = possible_cons v p i wide left right us h u in absurd (omega arith)
short_solid v p i (Sliced wide parent offset) us real h u l = let long = possible_sliced v p i wide parent offset us h u in absurd (omega arith)
short_solid v p i (Thin target) us real h u l = tt
