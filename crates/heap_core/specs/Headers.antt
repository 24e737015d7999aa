-- Helpers: no public contract reaches these definitions.
-- What the machine reads in a header word.
use Rattle.std.specs.Prelude.{◌≡◌, ℕ, Bool, true, false, List, Some}
use Rattle.js_header.specs.Form.{form_of}
use Rattle.js_header.specs.declared.form.Form.{Form}
use Rattle.heap_rule.specs.declared.size.HeapSize.{HeapSize}
use Rattle.heap_rule.specs.Layout.{form, length_word}
use Rattle.heap_core_views.specs.declared.load.Load.{Load}
use Rattle.heap_core_views.specs.declared.load.Load.TheVariants.{SeenForm, SeenLength}

-- what a load of a header word finds
abbrev pub IsHeaderLoad : HeapSize → List ℕ → ℕ → Bool → Load → Type 0
IsHeaderLoad z W i true l = l ≡ SeenLength i (length_word z W i)
IsHeaderLoad z W i false l = (f : Form) × (form_of (form z W i) ≡ Some f) × (l ≡ SeenForm i f)
