-- The histories of all live views of a sound state, taken together, are legal.
use Rattle.std.proofs.Common.{◌≡◌, ℕ, ◌+◌, List, sym, ap, ◌∙◌, arith}
use Rattle.heap_rule.specs.declared.view.View.{View}
use Rattle.heap_rule.specs.declared.size.HeapSize.{HeapSize}
use Rattle.heap_rule.specs.Layout.{slot}
use Rattle.heap_rule.specs.Contents.{units_of}
use Rattle.heap_rule.specs.Sound.{IsSound, AreLegal}

pub legal : (z : HeapSize) (agents : ℕ) (W : List ℕ) (vs : List View) → IsSound z agents W vs → AreLegal vs
legal z agents W vs s j v at live l w at' live' u t i k c d = let r = s.recalls j v at live u i c in let q = s.recalls l w at' live' t k d in
    let p = (s.knows j v at live).of_slots r.0.0 i r.0.1 in let o = (s.knows l w at' live').of_slots q.0.0 k q.0.1 in (
      (λ e. let same : r.0.0 ≡ q.0.0 = s.different r.0.0 q.0.0 i k p.0 o.0 p.1 o.1 (sym r.1 ∙ (e ∙ q.1)) in let n : i + 1 ≡ k + 1 = sym p.1 ∙ (ap (λ (x : ℕ). slot z W x) same ∙ o.1) in omega arith),
      (λ e. r.1 ∙ (ap (λ (x : ℕ). units_of z W x) e ∙ sym q.1)),
    )
