use Rattle.std.proofs.Common.{◌≡◌, ◌+◌, ◌≤◌, ◌++◌, take, drop}
use Rattle.js_store.specs.State.{Grows}
use Rattle.js_texts.specs.Texts.{known_texts, AllKnown, AllSettled, settle_most}
use Rattle.js_texts.specs.Joined.{with_each}
use Rattle.js_texts.proofs.joining.append_rest.Given as goal

-- what was settled and used, and what is left to settle; the text so far and what is left of it
abbrev pub invariant-loop-s : goal.invariant-loop-s
invariant-loop-s g l =
    let state = g.S.Strings.state in
    let number = g.S.Strings.number in
    record {
      grows : Grows (state l.fn.store) (state l.store);
      history : (state l.store).history ≡ (state l.fn.store).history;
      known : AllKnown (state l.store) number l.rest;
      settled : AllSettled (state l.store) number (take l.s-index l.rest);
      ids : (state l.store).used_ids ≤ (state l.fn.store).used_ids;
      words : (state l.store).used_words + settle_most (state l.store) number (drop l.s-index l.rest) ≤ (state l.fn.store).used_words + settle_most (state l.fn.store) number l.rest;
      units : l.text ++ with_each l.sep (known_texts (state l.fn.store) number (drop l.s-index l.rest)) ≡ l.fn.text ++ with_each l.sep (known_texts (state l.fn.store) number l.rest);
    }
