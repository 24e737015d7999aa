-- What an agent knows stays known: which strings, their units and lengths, forms that never change, which
-- strings are settled, frozen words, and which ids are in slots; and all else that a view has.
use Rattle.std.specs.Prelude.{◌≡◌, ℕ, Bool, true, false, List}
use Rattle.js_header.specs.declared.form.Form.{Form}
use Rattle.js_header.specs.declared.form.Form.TheVariants.{Flat, Thin}
use Rattle.heap_rule.specs.declared.view.View.{View}
use Rattle.heap_rule.specs.Maps.{Has, HasKey}
use Rattle.heap_rule.specs.Forms.{is_later}
use Rattle.heap_rule.specs.Views.{MayUse, IsSeenSettled}

-- what the view v knows for good the view w knows too: units, lengths, fixed Flats and Thins, which strings
-- are settled and which are known, frozen words, and the ids in slots
pub record KeepsKnown (v w : View) : Type 0 where
  pub units : (i : ℕ) (us : List ℕ) → Has v.units i us → Has w.units i us
  pub lengths : (i n : ℕ) → Has v.lengths i n → Has w.lengths i n
  pub flats : (i : ℕ) (wide : Bool) (start : ℕ) → Has v.forms i (Flat wide start true)
      → Has w.forms i (Flat wide start true)
  pub thins : (i t : ℕ) → Has v.forms i (Thin t) → Has w.forms i (Thin t)
  pub settled : (i : ℕ) → IsSeenSettled v i → IsSeenSettled w i
  pub frozen : (c x : ℕ) → Has v.frozen c x → Has w.frozen c x
  pub known : (i : ℕ) → MayUse v i → MayUse w i
  pub slots : (k i : ℕ) → Has v.slots k i → Has w.slots k i

-- The view w has what v has beside that: its own ids and words with what it stored there, known ids, frozen
-- words with their contents, slots with their ids, and for each id with a form a form that isn't an earlier
-- one.
pub record HasAllOf (v w : View) : Type 0 where
  pub own_ids : (i n : ℕ) → Has v.own_ids i n → Has w.own_ids i n
  pub own_words : (c x : ℕ) → Has v.own_words c x → Has w.own_words c x
  pub known : (i : ℕ) → MayUse v i → MayUse w i
  pub met : (i : ℕ) → HasKey v.met i → HasKey w.met i
  pub frozen : (c x : ℕ) → Has v.frozen c x → Has w.frozen c x
  pub slots : (k i : ℕ) → Has v.slots k i → Has w.slots k i
  pub forms : (i : ℕ) (f : Form) → Has v.forms i f → (g : Form) × Has w.forms i g × (is_later g f ≡ false)
