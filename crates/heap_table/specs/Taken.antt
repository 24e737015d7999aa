-- Helpers: no public contract reaches these definitions.
-- The view that the table gives to an agent that takes over another's. It is the joined view where that
-- has all that both have, by a test; else its share is 0, which no sound state allows. So whoever learns
-- that it is in a sound state learns that the two agree.
use Rattle.std.specs.Prelude.{ℕ, ◌+◌, Bool, true, false, ◌&&◌, ◌==◌, not, if◌then◌else◌, Option, Some, None}
use Rattle.std.specs.Prelude.{bytes_eq}
use Rattle.std.specs.Bool.{beq}
use Rattle.std.specs.List.{list_all}
use Rattle.std.specs.Ordering.{nat_cmp}
use Rattle.std.specs.FinMap.{FinMap, get, keys}
use Rattle.js_header.specs.declared.form.Form.{Form}
use Rattle.js_header.specs.declared.form.Form.TheVariants.{Flat, Cons, Sliced, Thin}
use Rattle.heap_rule.specs.declared.view.View.{View}
use Rattle.heap_rule.specs.Agents.{joined_view}

module _ {X : Type 0} (fits : X → X → Bool) where
  -- what is in the place of an entry fits it
  abbrev pub fits_there : Option X → Option X → Bool
  fits_there None o = true
  fits_there (Some x) None = false
  fits_there (Some x) (Some y) = fits x y

  -- so for each entry of a map
  abbrev pub fits_all : FinMap nat_cmp X → FinMap nat_cmp X → Bool
  fits_all m n = list_all (λ k. fits_there (get m k) (get n k)) (keys m)

abbrev pub same_number : ℕ → ℕ → Bool
same_number m n = m == n

abbrev pub is_cons : Form → Bool
is_cons (Cons wide left right) = true
is_cons _ = false

-- The second form may come where the first was seen: any form after a Cons; any but a Cons after a Sliced,
-- and after a Flat that is not fixed; the same form after the others.
abbrev pub fits_form : Form → Form → Bool
fits_form (Cons wide left right) g = true
fits_form (Flat wide start false) g = not (is_cons g)
fits_form (Sliced wide parent offset) g = not (is_cons g)
fits_form (Flat wide start true) (Flat w s f) = beq wide w && ((start == s) && f)
fits_form (Thin t) (Thin u) = t == u
fits_form _ _ = false

-- the view w has what v has
abbrev pub has_all : View → View → Bool
has_all v w = fits_all bytes_eq v.units w.units && (fits_all same_number v.lengths w.lengths
    && (fits_all fits_form v.forms w.forms && (fits_all same_number v.frozen w.frozen
    && (fits_all same_number v.slots w.slots
    && (fits_all same_number v.own_ids w.own_ids && fits_all same_number v.own_words w.own_words)))))

abbrev pub agree : View → View → Bool
agree v b = has_all v (joined_view v b) && has_all b (joined_view v b)

abbrev pub taken : View → View → View
taken v b = record (joined_view v b) { share = if agree v b then v.share + b.share else 0 }
