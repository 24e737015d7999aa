use Rattle.std.proofs.Common.{rules}
use Rattle.js_store.proofs.Laws.{same_units}
use Rattle.agent_searches.specs.Looking.{looking_sound, state_at}
use Rattle.agent_searches.proofs.looking.LookingStrings.same.Goals as goal

pub returns-clause-units : goal.returns-clause-units
returns-clause-units c = let s = c.args.self.now in let left = c.requires.left_interned in let right = c.requires.right_interned in
    let h = same_units (state_at s.text.now s.text.ghost_name s.seats.now) (looking_sound s.text.now s.text.ghost_name s.seats.now)
    left.0 right.0 c.args.a.id c.args.b.id c.requires.left c.requires.right left.1 right.1 in
    search rules
