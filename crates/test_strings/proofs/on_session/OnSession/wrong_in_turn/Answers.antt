use Rattle.test_strings.proofs.Going.{all_again, none_again, may_join}
use Rattle.test_strings.proofs.on_session.OnSession.wrong_in_turn.Goals as goal

pub join-requires-clause-may : goal.join-requires-clause-may
join-requires-clause-may c = let s = c.in-Some.ensures.split in let t = c.in_turn-found.ensures in may_join _ _ _ _ _ 1 s.left s.right t.left t.right s.none_seen

pub join-requires-clause-all : goal.join-requires-clause-all
join-requires-clause-all c = let t = c.in_turn-found.ensures in all_again _ _ _ _ _ c.in-Some.ensures.split t.left t.right

pub join-requires-clause-none_seen : goal.join-requires-clause-none_seen
join-requires-clause-none_seen c = let t = c.in_turn-found.ensures in none_again _ _ _ _ c.in-Some.ensures.split t.left
