use Rattle.std.proofs.Common.{refl}
use Rattle.eval_scopes.proofs.Stacked.{declare_taken, declare_taken_kept}
use Rattle.eval_scopes.proofs.Walks.{starts_declared}
use Rattle.eval_scopes.proofs.frames.declare_in_block.Goals as goal

pub returns-clause-declared : goal.returns-clause-declared
returns-clause-declared g c = declare_taken c.bind.result c.args.blocks.now.items c.args.last c.index_mut.result.now
    (record { names = c.index_mut.result.now.names; bound = c.bind.new.self; outside = c.index_mut.result.now.outside })
    (record { name = c.args.name.now; constant = c.args.constant; value = c.args.value }) c.requires c.index_mut.ensures.value refl refl c.bind.ensures.added

pub returns-clause-refused : goal.returns-clause-refused
returns-clause-refused g c = declare_taken_kept c.bind.result c.args.blocks.now.items c.args.last c.index_mut.result.now
    (record { names = c.index_mut.result.now.names; bound = c.bind.new.self; outside = c.index_mut.result.now.outside }) c.requires
    c.index_mut.ensures.value refl refl c.bind.ensures.refused

pub returns-clause-starts : goal.returns-clause-starts
returns-clause-starts g c = λ before after h r s. starts_declared c.bind.result before after c.args.blocks.now.items c.args.last c.index_mut.result.now
    (record { names = c.index_mut.result.now.names; bound = c.bind.new.self; outside = c.index_mut.result.now.outside })
    (record { name = c.args.name.now; constant = c.args.constant; value = c.args.value }) c.requires c.index_mut.ensures.value refl c.bind.ensures.added c.bind.ensures.refused h r s
