-- What the executable kinds find, as plain data.
use Rattle.std.proofs.Common.{◌≡◌, ℕ, suc, ◌+◌, ◌-◌, ◌<◌, ◌≤◌, Bool, List, [], ◌∷◌, ◌++◌, sym, ◌∙◌, subst, arith, append_assoc, IsTrue}
use Rattle.heap_rule.specs.declared.view.View.{View}
use Rattle.heap_rule.specs.declared.size.Counter.{Counter}
use Rattle.heap_rule.specs.declared.size.Counter.TheVariants.{Ids}
use Rattle.heap_rule.specs.Layout.{end_of, counter_value}
use Rattle.heap_rule.specs.Contents.{span, lane_in}
use Rattle.heap_rule.specs.Claims.{MayClaim}

pub may_by : (v : View) (k : Counter) (a want low end : ℕ) (b : Bool) → low ≡ counter_value v.low k → end ≡ end_of v.sizes k → a ≤ low → a + want ≤ end → 1 ≤ want
    → (IsTrue b → k ≡ Ids → want ≡ 1) → ((k ≡ Ids → want ≡ 1) → IsTrue b) → (IsTrue b → MayClaim v k a want) × (MayClaim v k a want → IsTrue b)
may_by v k a want low end b e f p q r g h = ((λ t. (subst (λ (n : ℕ). a ≤ n) e p, subst (λ (n : ℕ). a + want ≤ n) f q, r, g t)), (λ m. h m.3))

left_over : (n o : ℕ) → o < n → n - o ≡ suc (n - (o + 1))
left_over n o h = omega arith

next_is : (o : ℕ) → suc o ≡ o + 1
next_is o = omega arith

pub span_step : (f : ℕ → ℕ) (wide : Bool) (start o n x : ℕ) (us us' all : List ℕ) → o < n → us ++ span f wide start o (n - o) ≡ all → us' ≡ us ++ x ∷ [] → x ≡ lane_in f wide start o
    → us' ++ span f wide start (o + 1) (n - (o + 1)) ≡ all
span_step f wide start o n x us us' all l e is here = (λ i. is i ++ span f wide start (sym (next_is o) i) (n - (o + 1)))
    ∙ (append_assoc us (x ∷ []) (span f wide start (suc o) (n - (o + 1))) ∙
    ((λ i. us ++ here i ∷ span f wide start (suc o) (n - (o + 1))) ∙ ((λ i. us ++ span f wide start o (sym (left_over n o l) i)) ∙ e)))
