use Rattle.std.proofs.Common.{rules}
use Rattle.js_store.proofs.Laws.{same_units}
use Rattle.plain_store.specs.Plain.{plain_state}
use Rattle.plain_store.specs.Sound.{plain_sound}
use Rattle.plain_store.proofs.PlainStoreStrings.same.Goals as goal

pub returns-clause-units : goal.returns-clause-units
returns-clause-units c =
    let s = c.args.self.now in
    let h = same_units (plain_state s.strings.items s.answers.items s.limit)
    (plain_sound s.strings.items s.answers.items s.limit s.table s.consistent) c.requires.left_interned.0 c.requires.right_interned.0
    c.args.a c.args.b c.requires.left c.requires.right c.requires.left_interned.1 c.requires.right_interned.1 in
    search rules
