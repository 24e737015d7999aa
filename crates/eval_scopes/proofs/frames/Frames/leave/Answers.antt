use Rattle.std.proofs.Common.{arith, ◌-◌}
use Rattle.eval_scopes.proofs.Walks.{starts_taken}
use Rattle.eval_scopes.proofs.frames.Frames.leave.Goals as goal

pub invariant_of-self : goal.invariant_of-self
invariant_of-self g c =
    let n = c.self.inside.entered in
    let h = c.self.invariant in
    record { within = omega (arith, h.within); starts = starts_taken c.self.inside.starts.counts (n - 1) n c.self.inside.all.items (omega arith) h.starts }
