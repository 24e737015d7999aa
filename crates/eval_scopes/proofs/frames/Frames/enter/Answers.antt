use Rattle.std.proofs.Common.{arith}
use Rattle.eval_scopes.proofs.Walks.{frames_stay}
use Rattle.eval_scopes.proofs.frames.Frames.enter.Goals as goal

pub invariant_of-self : goal.invariant_of-self
invariant_of-self g c = frames_stay c.self.inside.starts.counts c.self.inside.entered c.self.inside.all.items c.make_room.new.all.items
    c.make_room.ensures.kept c.make_room.ensures.within c.self.invariant

pub invariant_of-self-2 : goal.invariant_of-self-2
invariant_of-self-2 g c =
    let s = c.self.inside in
    let h = frames_stay s.starts.counts s.entered s.all.items c.make_room.new.all.items c.make_room.ensures.kept c.make_room.ensures.within c.self.invariant in
    record {
      within = omega (arith, c.in_ok-make_room.ensures.room, c.enter_at.ensures.as_many);
      starts = c.enter_at.ensures.starts s.starts.counts c.mark_declared.new.starts.counts c.mark_declared.ensures.kept c.mark_declared.ensures.marked h.starts;
    }
