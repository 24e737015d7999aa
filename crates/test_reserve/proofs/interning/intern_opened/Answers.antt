use Rattle.heap_intern.proofs.Opened.{opening_kept}
use Rattle.test_reserve.proofs.interning.intern_opened.Goals as goal

pub intern_at-answer-requires-clause-opening : goal.intern_at-answer-requires-clause-opening
intern_at-answer-requires-clause-opening c = let cont = c.claim.ensures.continues in
    opening_kept _ _ _ _ c.search_key.new.reader.belongs.5 cont.known cont.sizes cont.slots c.in-Open.ensures.searches.ends.0
