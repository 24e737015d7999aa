use Rattle.std.proofs.Common.{◌≡◌, false, arith, sym, ◌∙◌, bytes_eq}
use Rattle.eval_scopes.proofs.Indexes.{name_found}
use Rattle.eval_scopes.proofs.Places.{one_more}
use Rattle.eval_scopes.proofs.index.is_one_of.Goals as goal

pub returns-then-is-clause-found : goal.returns-then-is-clause-found
returns-then-is-clause-found c =
    λ t. name_found c.args.names.now c.args.name.now c.index-names-i.result c.loop-i.i (omega (arith, c.loop-i-test.true, c.requires.within)) c.index-names-i.is (sym c.is.ensures ∙ c.if-is.true)

pub loop-i-preserved : goal.loop-i-preserved
loop-i-preserved c =
    one_more (λ n. bytes_eq n c.args.name.now ≡ false) c.args.names.now c.loop-i.i c.index-names-i.result
    (omega (arith, c.loop-i-test.true, c.requires.within)) c.index-names-i.is (sym c.is.ensures ∙ c.if-is.false) c.loop-i.invariant
