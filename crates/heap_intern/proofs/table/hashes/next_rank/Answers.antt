use Rattle.std.proofs.Common.{ℕ, ◌+◌, ◌-◌, ◌<◌, ◌≤◌, ⊎_elim, arith}
use Rattle.std.proofs.lemmas.Bool.{cases_lt}
use Rattle.heap_intern.proofs.Hashes.{apart_over, apart_under, near_under}
use Rattle.heap_intern.proofs.table.hashes.next_rank.Goals as goal

pub returns-then-r-end-clause-apart : goal.returns-then-r-end-clause-apart
returns-then-r-end-clause-apart c = let start : ℕ = c.args.start in let n : ℕ = c.args.n in let r : ℕ = c.args.r in let m = c.count_apart.result in
    let e = c.count_apart.ensures in let small : start < n = c.requires.start in let t : n - start ≤ r = c.if-r-end.true in let within : r - (n - start) + m ≤ start = e.within in
    apart_over c.args.hashes.now start n c.args.mark r m (r - (n - start)) small (omega arith) within e.apart

pub returns-then-r-run-clause-apart : goal.returns-then-r-run-clause-apart
returns-then-r-run-clause-apart c = let m = c.count_apart-run.result in let e = c.count_apart-run.ensures in
    apart_under c.args.hashes.now c.args.start c.args.n c.args.mark c.args.r m e.within e.apart

pub returns-then-r-run-clause-last : goal.returns-then-r-run-clause-last
returns-then-r-run-clause-last c less = let start : ℕ = c.args.start in let n : ℕ = c.args.n in let r : ℕ = c.args.r in let m : ℕ = c.count_apart-run.result in
    let small : start < n = c.requires.start in let t : r + m < n - start = c.if-r-run.true in let inside : start + r + m < n = omega arith in
    near_under c.args.hashes.now start n c.args.mark r m inside (c.count_apart-run.ensures.last inside)

pub returns-clause-apart : goal.returns-clause-apart
returns-clause-apart c j l s = let start : ℕ = c.args.start in let n : ℕ = c.args.n in let r : ℕ = c.args.r in let m : ℕ = c.count_apart-run.result in let k : ℕ = c.count_apart-2.result in
    let small : start < n = c.requires.start in let t : n - start ≤ r + m = c.if-r-run.false in let e = c.count_apart-run.ensures in let f = c.count_apart-2.ensures in ⊎_elim
    (λ (a : j < r + m). apart_under c.args.hashes.now start n c.args.mark r m e.within e.apart j l a)
    (λ (a : r + m ≤ j). apart_over c.args.hashes.now start n c.args.mark (n - start) k 0 small (omega arith) f.within f.apart j (omega arith) s)
    (cases_lt j (r + m))
