use Rattle.test_strings.proofs.Going.{all_again, none_again, goes_of, may_join}
use Rattle.test_strings.proofs.on_session.OnSession.wrong_at_once.Goals as goal

pub join-requires-clause-may : goal.join-requires-clause-may
join-requires-clause-may g c = let s = c.in-Some.ensures.split in let t = c.both_at_once-left.ensures in may_join _ _ _ _ _ 1 s.left s.right (goes_of _ _ t.left) (goes_of _ _ t.right) s.none_seen

pub join-requires-clause-all : goal.join-requires-clause-all
join-requires-clause-all g c = let t = c.both_at_once-left.ensures in all_again _ _ _ _ _ c.in-Some.ensures.split (goes_of _ _ t.left) (goes_of _ _ t.right)

pub join-requires-clause-none_seen : goal.join-requires-clause-none_seen
join-requires-clause-none_seen g c = let t = c.both_at_once-left.ensures in none_again _ _ _ _ c.in-Some.ensures.split (goes_of _ _ t.left)
