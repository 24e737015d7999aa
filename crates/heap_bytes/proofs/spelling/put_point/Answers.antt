use Rattle.std.proofs.Common.{◌∙◌, ◌++◌, ℕ, List, take, ap, sym, arith}
use Rattle.std.proofs.lemmas.Bool.{cond-true, cond-false, lt-ltb, le-ltb}
use Rattle.std.specs.Prelude.{nat_lt}
use Rattle.heap_bytes.proofs.Pieces.{one_put, two_put}
use Rattle.heap_bytes.proofs.spelling.put_point.Goals as goal

pub returns-then-point-lt65536-clause-units : goal.returns-then-point-lt65536-clause-units
returns-then-point-lt65536-clause-units c = let p = c.args.point in let a = c.args.at in
    one_put c.args.room.now a p (omega arith) ∙ ap (λ (xs : List ℕ). take a c.args.room.now ++ xs) (sym (cond-true (nat_lt p 0x10000) _ _ (lt-ltb p 0x10000 c.if-point-lt65536.true)))

pub returns-clause-units : goal.returns-clause-units
returns-clause-units c = let p = c.args.point in let a = c.args.at in
    two_put c.args.room.now a _ _ (omega arith) ∙ ap (λ (xs : List ℕ). take a c.args.room.now ++ xs) (sym (cond-false (nat_lt p 0x10000) _ _ (le-ltb p 0x10000 c.if-point-lt65536.false)))
