use Rattle.std.proofs.Common.{◌≡◌, ◌∙◌, ◌<◌, ℕ, get_or, subst, arith}
use Rattle.std.specs.Ordering.{nat_cmp}
use Rattle.heap_table.specs.Agents.{view_of}
use Rattle.heap_export.specs.Points.{LoadsWords}
use Rattle.heap_export.proofs.UnitByUnit.{other_passed, same_passed}
use Rattle.heap_export.proofs.Windows.{loads_on, still_shown, window_len, window_there}
use Rattle.heap_export.proofs.comparing.compare_windows.Goals as goal

pub returns-then-at-size-clause-order : goal.returns-then-at-size-clause-order
returns-then-at-size-clause-order g c us vs h k = let v = view_of c.args.text.now.reader.agent in let n = window_len v c.args.a us h in let m = window_len v c.args.b vs k in
    let within = c.requires.within in let e = c.first_other-at.ensures in
    same_passed us vs c.args.size (omega arith) (omega arith) (subst (λ (n : ℕ). (j : ℕ) → j < n → get_or us j 0 ≡ get_or vs j 0) c.if-at-size.true (e.same us vs h k))

pub unit-left-requires-clause-window : goal.unit-left-requires-clause-window
unit-left-requires-clause-window g c = let v = view_of c.args.text.now.reader.agent in let m = view_of c.first_other-at.new.self.agent in let e = c.first_other-at.ensures in
    let loads : LoadsWords v m = record { reads = e.reads.view; forms = e.forms } in
    window_there v m c.args.a c.requires.left loads

pub unit-right-requires-clause-window : goal.unit-right-requires-clause-window
unit-right-requires-clause-window g c = let v = view_of c.args.text.now.reader.agent in let m = view_of c.first_other-at.new.self.agent in let e = c.first_other-at.ensures in
    let x = view_of c.unit-left.new.text.reader.agent in
    let loads : LoadsWords v m = record { reads = e.reads.view; forms = e.forms } in
    window_there v x c.args.b c.requires.right (loads_on v m x loads c.unit-left.ensures.loads)

pub returns-clause-loads : goal.returns-clause-loads
returns-clause-loads g c = let v = view_of c.args.text.now.reader.agent in let m = view_of c.first_other-at.new.self.agent in let e = c.first_other-at.ensures in
    let x = view_of c.unit-left.new.text.reader.agent in let y = view_of c.unit-right.new.text.reader.agent in
    let loads : LoadsWords v m = record { reads = e.reads.view; forms = e.forms } in
    loads_on v x y (loads_on v m x loads c.unit-left.ensures.loads) c.unit-right.ensures.loads

pub returns-clause-order : goal.returns-clause-order
returns-clause-order g c us vs h k = let v = view_of c.args.text.now.reader.agent in let n = window_len v c.args.a us h in let l = window_len v c.args.b vs k in
    let m = view_of c.first_other-at.new.self.agent in let x = view_of c.unit-left.new.text.reader.agent in
    let within = c.requires.within in let e = c.first_other-at.ensures in let most = e.most in let at = c.first_other-at.result in
    let less : at < c.args.size = omega (arith, c.if-at-size.false, most) in
    let loads : LoadsWords v m = record { reads = e.reads.view; forms = e.forms } in
    let left = c.unit-left.ensures.unit us (still_shown v m c.args.a us loads h) in
    let right = c.unit-right.ensures.unit vs (still_shown v x c.args.b vs (loads_on v m x loads c.unit-left.ensures.loads) k) in
    other_passed us vs at c.args.size c.cmp.result (omega arith) (omega arith) (c.cmp.ensures ∙ (λ i. nat_cmp (left i) (right i))) (e.other us vs h k less) (e.same us vs h k)
