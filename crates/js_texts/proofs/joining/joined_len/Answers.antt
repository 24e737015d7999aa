use Rattle.std.proofs.Common.{arith, ap, ◌∙◌, length}
use Rattle.js_store.specs.State.{IsKnown, text as text_of}
use Rattle.js_store.proofs.Laws.{step_trans, known_still, text_still}
use Rattle.js_texts.proofs.Lists.{every_at, every_map}
use Rattle.js_texts.proofs.Separators.{each_length}
use Rattle.js_texts.proofs.joining.joined_len.Goals as goal

pub loop-s-preserved : goal.loop-s-preserved
loop-s-preserved g c =
    let state = g.S.Strings.state in
    let number = g.S.Strings.number in
    let a = state c.args.store.now in
    let b = state c.loop-s.store in
    let parts = c.args.parts.now in
    let sep = text_of a (number c.args.sep) in
    let r = c.s-item.result in
    let k = c.loop-s.s-index in
    let i = c.loop-s.invariant in
    let e = c.len-in-loop-s.ensures in
    let known = every_at (λ q. IsKnown a (number q)) parts k r c.requires.known c.loop-s-test.true c.s-item.is in
    let same = ap length (text_still i.step.grows (number r) known) in
    let more = each_length number sep a parts k r c.loop-s-test.true c.s-item.is in
    let value = e.value in
    let short = e.most in
    let from = c.from.ensures in
    let sized = c.from-size.ensures in
    let first = c.len.ensures.most in
    let done = i.units in
    let most = i.most in
    let size = i.size in
    record {
      step = step_trans i.step e.uses.step;
      history = e.uses.history ∙ i.history;
      known = every_map (λ q h. known_still e.uses.step.grows (number q) h) parts i.known;
      size = i.size;
      units = omega (arith, done, more, from, value, same, size);
      most = omega (arith, most, from, short, sized, first);
    }
