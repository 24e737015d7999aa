-- A header that moves to the string that was interned, or is where it may not move any more.
use Rattle.std.proofs.Common.{◌≡◌, ℕ, ◌==◌, inl, inr, true, false, if◌then◌else◌, List, subst, Some}
use Rattle.js_header.specs.Form.{form_of, word_of}
use Rattle.js_header.specs.declared.form.Form.{Form}
use Rattle.js_header.specs.declared.form.Form.TheVariants.{Unborn, Flat, Cons, Sliced, Thin}
use Rattle.heap_rule.specs.declared.view.View.{View}
use Rattle.heap_rule.specs.Forms.{IsCons}
use Rattle.heap_rule.specs.HeaderMoves.{CanThin, thinned}
use Rattle.heap_rule.specs.Learning.{learned_all}
use Rattle.heap_rule.specs.Maps.{Has}
use Rattle.heap_rule.specs.Sound.{IsPossible}
use Rattle.heap_table.specs.Known.{KeepsKnown}
use Rattle.heap_intern.specs.Answers.{IsForwarded}
use Rattle.heap_intern.specs.Goes.{LoadsAlone}
use Rattle.heap_intern.proofs.Going.{looks_seen}
use Rattle.heap_intern.proofs.Possibly.{possible_born, possible_thin_answer}

-- the header moved, or another agent had moved it
pub looks_thinned : (v w : View) (i : ℕ) (old : Form) (t x : ℕ) → KeepsKnown v w → w ≡ learned_all (thinned v i old t x) → LoadsAlone v w × (w.slot_loads ≡ v.slot_loads)
looks_thinned v w i old t x k e = looks_seen v w i (if x == word_of old then Some (Thin t) else form_of x) k e

-- a settled string that may not come to forward is a fixed Flat, or forwards to the answer
pub stays_forwarded : (v : View) → IsPossible v → (id : ℕ) (f : Form) (k answer : ℕ) (us : List ℕ) → Has v.forms id f → (IsCons f → ⊥) →
    (CanThin f → ⊥) → Has v.slots k answer → Has v.units id us → Has v.units answer us → IsForwarded v id answer
stays_forwarded v p id Unborn k answer us h n m s u w = absurd (possible_born v p id h)
stays_forwarded v p id (Flat wide start true) k answer us h n m s u w = inr (wide, start, h)
stays_forwarded v p id (Flat wide start false) k answer us h n m s u w = absurd (m tt)
stays_forwarded v p id (Cons wide left right) k answer us h n m s u w = absurd (n tt)
stays_forwarded v p id (Sliced wide parent offset) k answer us h n m s u w = absurd (m tt)
stays_forwarded v p id (Thin t) k answer us h n m s u w = inl (subst (λ (q : ℕ). Has v.forms id (Thin q)) (possible_thin_answer v p id t k answer us h u s w) h)
