use Rattle.std.proofs.Common.{arith}
use Rattle.heap_rule.proofs.MapLemmas.{key_of}
use Rattle.heap_intern.proofs.Searches.{string_opening_kept}
use Rattle.test_reserve.proofs.interning.intern_string.Goals as goal

pub search_string-requires-clause-seated : goal.search_string-requires-clause-seated
search_string-requires-clause-seated c = λ s some. absurd (omega arith)

pub intern_string_at-answer-requires-clause-seated : goal.intern_string_at-answer-requires-clause-seated
intern_string_at-answer-requires-clause-seated c = λ s some. absurd (omega arith)

pub search_string-requires-clause-known : goal.search_string-requires-clause-known
search_string-requires-clause-known c =
    let h = c.in-Ok-slice.ensures.units c.args.units.now c.in-Ok-make_flat.ensures.units in key_of _ _ _ h

pub intern_string_at-answer-requires-clause-opening : goal.intern_string_at-answer-requires-clause-opening
intern_string_at-answer-requires-clause-opening c =
    let h = c.in-Ok-slice.ensures.units c.args.units.now c.in-Ok-make_flat.ensures.units in
    let cont = c.claim.ensures.continues in (
      _,
      string_opening_kept _ _ _ _ c.search_string.new.reader.belongs.5 cont.known c.claim.ensures.forms cont.sizes
          cont.slots (c.in-Open.ensures.searches _ h).planned.3,
    )
