-- What a window shows after loads of content words.
use Rattle.std.proofs.Common.{◌≡◌, ◌∙◌, ap, sym, refl, ℕ, List, Some, length}
use Rattle.std.specs.FinMap.{FinMap, get}
use Rattle.std.specs.Ordering.{nat_cmp}
use Rattle.heap_rule.specs.Maps.{Has}
use Rattle.heap_rule.specs.declared.view.View.{View}
use Rattle.heap_read.specs.declared.string.Window.{Window}
use Rattle.heap_read.specs.Sides.{LoadsFewForms}
use Rattle.heap_read.specs.Windows.{IsWindow}
use Rattle.heap_read.proofs.Loaded.{reads_refl, reads_trans}
use Rattle.heap_read.proofs.Showing.{forms_held, window_kept, window_length}
use Rattle.heap_export.specs.Points.{LoadsWords}

pub loads_none : (v : View) → LoadsWords v v
loads_none v = record { reads = reads_refl v; forms = (refl, refl) }

pub loads_on : (u v w : View) → LoadsWords u v → LoadsWords v w → LoadsWords u w
loads_on u v w a b = record { reads = reads_trans u v w a.reads b.reads; forms = (b.forms.0 ∙ a.forms.0, b.forms.1 ∙ a.forms.1) }

pub still_shown : (v w : View) (win : Window) (us : List ℕ) → LoadsWords v w → IsWindow v win us → IsWindow w win us
still_shown v w win us k h = window_kept v w (forms_held v w k.forms.0) win us k.reads.known h

pub window_there : (v w : View) (win : Window) → ((us : List ℕ) × IsWindow v win us) → LoadsWords v w → (us : List ℕ) × IsWindow w win us
window_there v w win p k = (p.0, still_shown v w win p.0 k p.1)

-- a window with its length
pub window_len : (v : View) (win : Window) (us : List ℕ) → IsWindow v win us → length us ≡ win.len
window_len v win us h = window_length v win us h

-- loads of content words add no load of a form
pub few_on : (u v w : View) (n : ℕ) → LoadsFewForms u v n → w.form_loads ≡ v.form_loads → LoadsFewForms u w n
few_on u v w n a e = record { times = a.times; few = a.few; loads = λ l j h. e ∙ a.loads l j h }

-- the units of a string are one list
pub one_units : (m : FinMap nat_cmp (List ℕ)) (i j : ℕ) (us vs : List ℕ) → i ≡ j → Has m i us → Has m j vs → us ≡ vs
one_units m i j us vs e h k = let here : Some us ≡ Some vs = sym h ∙ (ap (get m) e ∙ k) in cc
