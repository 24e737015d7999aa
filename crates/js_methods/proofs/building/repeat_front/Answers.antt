use Rattle.std.proofs.Common.{◌<◌, ◌∙◌, refl, length, arith, length-set}
use Rattle.js_methods.proofs.Again.{front_turn}
use Rattle.js_methods.proofs.building.repeat_front.Goals as goal

pub loop-i-preserved : goal.loop-i-preserved
loop-i-preserved c =
    let i = c.loop-i.invariant in
    let there : c.loop-i.i < length c.loop-i.units = omega (arith, c.loop-i-test.true, i.same) in
    record {
      past = omega (arith, i.past);
      same = length-set c.loop-i.units c.loop-i.i _ ∙ i.same;
      done = front_turn c.args.units.now c.loop-i.units _ c.loop-i.i c.args.size _ c.requires.some c.requires.within i.past there refl refl i.done;
    }
