use Rattle.std.proofs.Common.{arith, ◌++◌, ap, sym, ◌∙◌, drop, ◌+◌}
use Rattle.js_store.specs.State.{IsKnown, text as text_of}
use Rattle.js_store.proofs.Laws.{grows_trans, known_still, text_still}
use Rattle.js_texts.specs.Texts.{known_texts}
use Rattle.js_texts.proofs.Lists.{every_at, every_map, settle_front, settled_turn}
use Rattle.js_texts.specs.Joined.{with_each}
use Rattle.js_texts.proofs.Separators.{each_front, each_turn}
use Rattle.js_texts.proofs.joining.append_rest.Goals as goal

pub loop-s-preserved : goal.loop-s-preserved
loop-s-preserved g c =
    let state = g.S.Strings.state in
    let number = g.S.Strings.number in
    let a = state c.args.store.now in
    let b = state c.loop-s.store in
    let d = state c.append.new.store in
    let rest = c.args.rest.now in
    let sep = c.args.sep.now in
    let r = c.s-item.result in
    let k = c.loop-s.s-index in
    let i = c.loop-s.invariant in
    let e = c.in_ok-append.ensures in
    let front = settle_front number b d rest k r c.loop-s-test.true c.s-item.is e.uses.step.grows i.known in
    let words = e.uses.step.within_words in
    let before = i.words in
    let ids = e.uses.step.within_ids in
    let known = every_at (λ q. IsKnown a (number q)) rest k r c.requires c.loop-s-test.true c.s-item.is in
    let same = text_still i.grows (number r) known in
    let left = with_each sep (known_texts a number (drop (k + 1) rest)) in
    record {
      grows = grows_trans i.grows e.uses.step.grows;
      history = e.uses.history ∙ i.history;
      known = every_map (λ q h. known_still e.uses.step.grows (number q) h) rest i.known;
      settled = settled_turn number b d rest k r c.loop-s-test.true c.s-item.is e.uses.step.grows i.settled e.settled;
      ids = let done = i.ids in omega (arith, ids, done);
      words = omega (arith, front, words, before);
      units =
          each_turn sep c.loop-s.text c.push_units.new.text c.append.new.text (text_of b (number r)) left c.in_ok-push_units.ensures.added e.added
          ∙ ap (λ t. c.loop-s.text ++ (sep ++ t ++ left)) same
          ∙ ap (λ w. c.loop-s.text ++ w) (sym (each_front number sep a rest k r c.loop-s-test.true c.s-item.is))
          ∙ i.units;
    }
