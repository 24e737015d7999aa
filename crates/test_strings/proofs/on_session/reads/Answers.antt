use Rattle.test_strings.proofs.Going.{goes_uses, goes_trans, known_on}
use Rattle.test_strings.proofs.on_session.reads.Goals as goal

pub has_units-requires-clause-known : goal.has_units-requires-clause-known
has_units-requires-clause-known c = let g = goes_trans _ _ _ (goes_uses _ _ _ _ _ c.settle.ensures.uses) (goes_uses _ _ _ _ _ c.len-n.ensures.uses) in known_on _ _ c.args.s.id g c.requires.known

pub has_units-requires-clause-settled : goal.has_units-requires-clause-settled
has_units-requires-clause-settled c = c.len-n.ensures.uses.step.grows.settled c.args.s.id c.in-Ok.ensures.ok

pub returns : goal.returns
returns c = record { goes = goes_trans _ _ _ (goes_trans _ _ _ (goes_uses _ _ _ _ _ c.settle.ensures.uses) (goes_uses _ _ _ _ _ c.len-n.ensures.uses)) (goes_uses _ _ _ _ _ c.has_units.ensures.uses) }
