use Rattle.std.proofs.Common.{arith, refl}
use Rattle.eval_scopes.proofs.Places.{in_block, at_block, put_in_set}
use Rattle.eval_scopes.proofs.Stacked.{outsides_kept}
use Rattle.eval_scopes.proofs.Walks.{starts_set}
use Rattle.eval_scopes.proofs.frames.set_in_block.Goals as goal

pub index_mut-requires : goal.index_mut-requires
index_mut-requires g c = omega (arith, in_block c.args.blocks.now.items c.args.block c.args.index c.requires)

pub set-requires : goal.set-requires
set-requires g c = at_block c.args.blocks.now.items c.args.block c.args.index c.index_mut.result.now c.requires c.index_mut.ensures.value

pub returns-clause-put : goal.returns-clause-put
returns-clause-put g c = put_in_set c.args.blocks.now.items c.args.block c.args.index c.args.value c.index_mut.result.now
    (record { names = c.index_mut.result.now.names; bound = c.set.new.self; outside = c.index_mut.result.now.outside })
    (in_block c.args.blocks.now.items c.args.block c.args.index c.requires) c.index_mut.ensures.value refl c.set.ensures

pub returns-clause-outsides : goal.returns-clause-outsides
returns-clause-outsides g c = outsides_kept c.args.blocks.now.items c.args.block c.index_mut.result.now
    (record { names = c.index_mut.result.now.names; bound = c.set.new.self; outside = c.index_mut.result.now.outside })
    (in_block c.args.blocks.now.items c.args.block c.args.index c.requires) c.index_mut.ensures.value refl

pub returns-clause-starts : goal.returns-clause-starts
returns-clause-starts g c = λ counts n s. starts_set counts n c.args.blocks.now.items c.args.block c.args.index c.args.value c.index_mut.result.now
    (record { names = c.index_mut.result.now.names; bound = c.set.new.self; outside = c.index_mut.result.now.outside })
    (in_block c.args.blocks.now.items c.args.block c.args.index c.requires) c.index_mut.ensures.value refl c.set.ensures s
