use Rattle.std.proofs.Common.{ℕ, subst}
use Rattle.js_item.specs.Indexed.{Lacks}
use Rattle.js_item.proofs.Indexing.{absent}
use Rattle.js_item.proofs.builder.is_new.Goals as goal

pub returns-in-Some : goal.returns-in-Some
returns-in-Some g c =
    let s = g.S.Strings.state c.args.store.now in
    λ t. absent s (g.met.S.Strings.sound c.args.store.now) g.S.Strings.number c.args.key c.requires.key c.args.index.now c.args.object.now
    (subst (λ (n : ℕ). Lacks c.args.index.now n) c.in-Some.ensures (c.lacks.ensures t)) c.requires.indexed c.requires.keys
