use Rattle.std.proofs.Common.{arith, is_ok, [], ◌∷◌}
use Rattle.plain_store.proofs.Consistency.{after_push, history_kept, in_range}
use Rattle.plain_store.proofs.PlainStore.keep.Goals as goal

pub invariant_of-self : goal.invariant_of-self
invariant_of-self c =
    let s = c.args.self.now in
    record {
      consistent = rw c.push.ensures.items (after_push (is_ok c.push.result) s.strings.items s.answers.items s.table c.args.units
          s.consistent c.requires (in_range c.as_slice.result.now c.args.units c.as_slice.ensures c.read_each.ensures) (omega arith));
    }

pub returns-clause-history : goal.returns-clause-history
returns-clause-history c =
    let s = c.args.self.now in
    rw c.in_ok-push.ensures.items (history_kept s.strings.items (c.args.units ∷ []) s.answers.items s.table s.consistent)
