use Rattle.std.proofs.Common.{rules, subst, sym}
use Rattle.heap_intern.specs.KeptKeys.{AreKeptKeys}
use Rattle.heap_notes.proofs.NotesStay.{keys_grown}
use Rattle.heap_notes.proofs.seats.Seats.reach_keys.Goals as goal

pub returns-then-is_empty-clause-keys : goal.returns-then-is_empty-clause-keys
returns-then-is_empty-clause-keys c v h = subst (AreKeptKeys v) (sym c.resize.ensures.items) (keys_grown v _ 1024 _ c.none.result c.args.self.now.keys.items (search rules) c.none.ensures h)
