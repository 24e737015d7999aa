use Rattle.std.proofs.Common.{◌≡◌, ◌-◌, ◌++◌, length, take, drop}
use Rattle.std.specs.Prelude.{None}
use Rattle.js_store.specs.State.{text}
use Rattle.js_store.specs.Faults.{StoreStep}
use Rattle.js_texts.specs.Texts.{known_texts, AllKnown}
use Rattle.js_replace.specs.Matches.{InOrder}
use Rattle.js_replace.specs.Parts.{pieces}
use Rattle.js_replace.specs.Use.{copies_words}
use Rattle.js_replace.proofs.splitting.cut_at.Given as goal

-- the parts so far, and those that are left
abbrev pub invariant-loop-at : goal.invariant-loop-at
invariant-loop-at g l =
    let state = g.S.Strings.state in
    let number = g.S.Strings.number in
    let u = text (state l.fn.store) (number l.s) in
    let done = known_texts (state l.store) number l.parts.items in
    record {
      step : StoreStep (state l.fn.store) (state l.store) None (length done) (copies_words done);
      history : (state l.store).history ≡ (state l.fn.store).history;
      known : AllKnown (state l.store) number l.parts.items;
      made : done ++ take (l.limit - l.at-index) (pieces u l.size l.from (drop l.at-index l.places)) ≡ take l.limit (pieces u l.size 0 l.places);
      order : InOrder (length u) l.size l.from (drop l.at-index l.places);
    }
