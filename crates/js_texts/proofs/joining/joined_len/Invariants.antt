use Rattle.std.proofs.Common.{◌≡◌, ◌+◌, ◌*◌, ◌≤◌, drop, length}
use Rattle.js_store.specs.State.{text as text_of}
use Rattle.js_store.specs.Faults.{StoreStep}
use Rattle.std.specs.Prelude.{None}
use Rattle.js_texts.specs.Texts.{known_texts, AllKnown}
use Rattle.js_texts.specs.Joined.{with_each}
use Rattle.js_texts.proofs.joining.joined_len.Given as goal

-- how many units were counted and how many are left
abbrev pub invariant-loop-s : goal.invariant-loop-s
invariant-loop-s g l =
    let state = g.S.Strings.state in
    let number = g.S.Strings.number in
    let sep = text_of (state l.fn.store) (number l.fn.sep) in
    record {
      step : StoreStep (state l.fn.store) (state l.store) None 0 0;
      history : (state l.store).history ≡ (state l.fn.store).history;
      known : AllKnown (state l.store) number l.parts;
      size : l.size ≡ length sep;
      units : l.len + length (with_each sep (known_texts (state l.fn.store) number (drop l.s-index l.parts))) ≡ length (with_each sep (known_texts (state l.fn.store) number l.parts));
      most : l.len ≤ l.s-index * 4294967296;
    }
