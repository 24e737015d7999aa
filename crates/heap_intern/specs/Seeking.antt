-- The string that is looked for.
use Rattle.std.specs.Prelude.{◌≡◌, ℕ, ◌+◌, ◌⊎◌, Bool}
use Rattle.js_header.specs.declared.form.Form.TheVariants.{Flat, Thin}
use Rattle.heap_rule.specs.declared.view.View.{View}
use Rattle.heap_rule.specs.Forms.{IsCons, IsSliced}
use Rattle.heap_rule.specs.Maps.{Has}
use Rattle.heap_rule.specs.Views.{HasLength, LeadsTo}
use Rattle.heap_intern.specs.declared.table.sought.Sought.{Sought}

-- The view has the string with this header, and leads from it to the words of a Flat, where its units lie
-- behind `offset` lanes. The length is the string's own, or that of the one to which it forwards. A string
-- that is no part of another has all units of the Flat.
pub record IsSought (v : View) (s : Sought) : Type 0 where
  pub own : Has v.forms s.id s.form
  pub settled : IsCons s.form → ⊥
  pub flat : ℕ
  pub fixed : Bool
  pub leads : LeadsTo v s.id flat s.window.offset
  pub form : Has v.forms flat (Flat s.window.wide s.window.start fixed)
  pub measured : ℕ
  pub same : (s.id ≡ measured) ⊎ Has v.forms s.id (Thin measured)
  pub long : Has v.lengths measured s.window.len
  pub there : HasLength v flat (s.window.offset + s.window.len)
  pub whole : (IsSliced s.form → ⊥) → (measured ≡ flat) × (s.window.offset ≡ 0)
