use Rattle.std.proofs.Common.{◌≡◌, ◌<◌, ◌≤◌, ◌++◌, ◌∷◌, [], ◌∙◌, ap, sym, ℕ, List, get_or, length, take, arith}
use Rattle.std.proofs.lemmas.List.{take_all, take_more, take_more_set}
use Rattle.heap_export.proofs.runs.put_small.Goals as goal

pub loop-k-preserved : goal.loop-k-preserved
loop-k-preserved c = let t = c.loop-k-test.true in let o = c.loop-k.auto.out in let m = c.requires.most in let e = c.told-units in
    let unit = get_or c.args.units.now c.loop-k.k 0 in
    let left : c.loop-k.k < length c.loop-k.out = omega arith in let right : c.loop-k.k < length c.args.units.now = omega arith in record {
      bytes = take_more_set c.loop-k.out c.loop-k.k unit left ∙ (ap (λ (f : List ℕ). f ++ unit ∷ []) c.loop-k.invariant.bytes ∙ sym (take_more c.args.units.now c.loop-k.k 0 right));
    }

pub returns : goal.returns
returns c = let t = c.loop-k-test.false in let o = c.loop-k.auto.out in let b = c.loop-k.auto.k-end in
    let right : length c.loop-k.out ≤ c.loop-k.k = omega arith in let end : c.loop-k.k ≡ length c.args.out.now = omega arith in
    sym (take_all c.loop-k.k c.loop-k.out right) ∙ (c.loop-k.invariant.bytes ∙ ap (λ (n : ℕ). take n c.args.units.now) end)
