use Rattle.std.proofs.Common.{◌≡◌, false, arith, ap, sym, ◌∙◌, bytes_eq}
use Rattle.eval_scopes.specs.declared.binding_list.Binding.{Binding}
use Rattle.eval_scopes.proofs.Places.{first_at, one_more}
use Rattle.eval_scopes.proofs.binding_list.position_in.Goals as goal

pub loop-i-preserved : goal.loop-i-preserved
loop-i-preserved g c =
    let read = ap (λ (b : Binding g.row.T.Denot). bytes_eq b.name c.args.name.now) c.index-bound-i.is in
    one_more (λ b. bytes_eq b.name c.args.name.now ≡ false) c.args.bound.now c.loop-i.i c.index-bound-i.result
    (omega (arith, c.loop-i-test.true, c.requires.within)) c.index-bound-i.is (read ∙ (sym c.is.ensures ∙ c.if-is.false)) c.loop-i.invariant

pub returns-then-is : goal.returns-then-is
returns-then-is g c =
    let read = ap (λ (b : Binding g.row.T.Denot). bytes_eq b.name c.args.name.now) c.index-bound-i.is in
    first_at c.args.bound.now c.args.name.now c.loop-i.i c.index-bound-i.result (omega (arith, c.loop-i-test.true, c.requires.within))
    c.index-bound-i.is (read ∙ (sym c.is.ensures ∙ c.if-is.true)) c.loop-i.invariant

pub returns : goal.returns
returns g c = λ j b m q. c.loop-i.invariant j b (omega (arith, m)) q
