use Rattle.std.proofs.Common.{◌∙◌}
use Rattle.js_item.proofs.Still.{keys_still}
use Rattle.js_item.proofs.Finding.{place_still}
use Rattle.js_item.proofs.item.Object.find_with.Goals as goal

pub find_one_by_one-requires-clause-keys : goal.find_one_by_one-requires-clause-keys
find_one_by_one-requires-clause-keys g c =
    let state = g.S.Strings.state in
    keys_still (state c.args.store.now) (state c.find_by_index.new.store) c.in-None.ensures.uses.step.grows g.S.Strings.number c.args.self.now c.requires.keys

pub returns-in-None-clause-place : goal.returns-in-None-clause-place
returns-in-None-clause-place g c =
    let state = g.S.Strings.state in
    c.find_one_by_one.ensures.place
    ∙ place_still (state c.args.store.now) (state c.find_by_index.new.store) g.S.Strings.number c.in-None.ensures.uses.step.grows c.args.key c.requires.key c.args.self.now c.requires.keys
