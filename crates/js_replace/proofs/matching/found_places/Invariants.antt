use Rattle.std.proofs.Common.{◌≡◌, ◌+◌, ◌-◌, ◌≤◌, ◌++◌, max, length}
use Rattle.std.specs.Prelude.{None}
use Rattle.js_store.specs.State.{text}
use Rattle.js_store.specs.Faults.{StoreStep}
use Rattle.js_replace.specs.Matches.{first_matches}
use Rattle.js_replace.proofs.matching.found_places.Given as goal

-- the places so far, and those that are left
abbrev pub invariant-loop-turn : goal.invariant-loop-turn
invariant-loop-turn g l =
    let state = g.S.Strings.state in
    let number = g.S.Strings.number in
    let u = text (state l.fn.store) (number l.s) in
    let w = text (state l.fn.store) (number l.w) in
    record {
      step : StoreStep (state l.fn.store) (state l.store) None 0 0;
      history : (state l.store).history ≡ (state l.fn.store).history;
      places : l.places.items ++ first_matches (l.most - l._turn) u w l.from ≡ first_matches l.most u w 0;
      from : l.from ≤ length u + 1;
      size : l.size ≡ max 1 (length w);
    }
