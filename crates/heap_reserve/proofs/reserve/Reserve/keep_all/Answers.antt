use Rattle.std.proofs.Common.{◌≡◌, ◌+◌, ◌++◌, ◌∷◌, [], ℕ, suc, List, ap, sym, ◌∙◌, arith, append_assoc}
use Rattle.heap_reserve.specs.Reserves.{kept_ids}
use Rattle.heap_reserve.specs.Trying.{ids_from}
use Rattle.heap_reserve.proofs.Kept.{more_ids}
use Rattle.heap_reserve.proofs.reserve.Reserve.keep_all.Goals as goal

pub loop-done-preserved : goal.loop-done-preserved
loop-done-preserved c = let i = c.loop-done.invariant in let e = c.push_back_reserved.ensures in let first = c.args.first in let n = c.loop-done.done in
    let before : List ℕ = kept_ids c.args.self.now in let more : n + 1 ≡ suc n = omega arith in let long = e.len in let was = i.len in record {
      ids = e.items ∙ (ap (λ (is : List ℕ). is ++ (first + n) ∷ []) i.ids
          ∙ (append_assoc before (ids_from first n) ((first + n) ∷ [])
          ∙ (ap (λ (is : List ℕ). before ++ is) (sym (more_ids first n)) ∙ ap (λ (m : ℕ). before ++ ids_from first m) (sym more))));
      words = i.words;
      len = omega (arith, long, was);
      capacity = e.capacity ∙ i.capacity;
    }
