use Rattle.std.proofs.Common.{◌≡◌, ◌-◌, ◌++◌, length, take, drop}
use Rattle.std.specs.Prelude.{None}
use Rattle.js_store.specs.State.{text}
use Rattle.js_store.specs.Faults.{StoreStep}
use Rattle.js_texts.specs.Texts.{known_texts, AllKnown}
use Rattle.js_replace.specs.Fronts.{singles}
use Rattle.js_replace.specs.Use.{copies_words}
use Rattle.js_replace.proofs.splitting.single_units.Given as goal

-- the parts so far, and those that are left
abbrev pub invariant-loop-i : goal.invariant-loop-i
invariant-loop-i g l =
    let state = g.S.Strings.state in
    let number = g.S.Strings.number in
    let u = text (state l.fn.store) (number l.s) in
    let done = known_texts (state l.store) number l.parts.items in
    record {
      step : StoreStep (state l.fn.store) (state l.store) None (length done) (copies_words done);
      history : (state l.store).history ≡ (state l.fn.store).history;
      known : AllKnown (state l.store) number l.parts.items;
      made : done ++ take (l.limit - l.i) (singles (drop l.i u)) ≡ take l.limit (singles u);
    }
