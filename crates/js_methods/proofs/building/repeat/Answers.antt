use Rattle.std.proofs.Common.{◌≡◌, ◌*◌, length, rules}
use Rattle.js_store.specs.State.{text}
use Rattle.std.specs.Prelude.{Some, None}
use Rattle.js_methods.proofs.Counted.{too_long, short_enough, copies_room, itself, copies_use}
use Rattle.js_methods.proofs.building.repeat.Goals as goal

pub returns-then-length-from-clause-throws : goal.returns-then-length-from-clause-throws
returns-then-length-from-clause-throws g c =
    let product : c.from.result * c.from-2.result ≡ length (text (g.S.Strings.state c.args.store.now) (g.S.Strings.number c.args.s)) * c.in-Some.count = search rules in
    too_long (g.S.Strings.state c.args.store.now) (g.S.Strings.state c.len-len.new.self) (g.S.Strings.number c.args.s) c.in-Some.count
    c.args.count c.requires c.len-len.ensures.uses c.in-Some.ensures _ product (search rules)

pub returns-then-len-eq0-clause-value : goal.returns-then-len-eq0-clause-value
returns-then-len-eq0-clause-value g c = itself (g.S.Strings.state c.args.store.now) (g.S.Strings.state c.len-len.new.self)
    (g.S.Strings.number c.args.s) c.in-Some.count c.args.count c.requires c.len-len.ensures.uses c.in-Some.ensures (search rules)

pub returns-then-len-eq0-clause-throws : goal.returns-then-len-eq0-clause-throws
returns-then-len-eq0-clause-throws g c =
    let product : c.from.result * c.from-2.result ≡ length (text (g.S.Strings.state c.args.store.now) (g.S.Strings.number c.args.s)) * c.in-Some.count = search rules in
    short_enough (g.S.Strings.state c.args.store.now) (g.S.Strings.state c.len-len.new.self) (g.S.Strings.number c.args.s) c.in-Some.count
    c.args.count c.requires c.len-len.ensures.uses c.in-Some.ensures _ product (search rules)

pub doubled-requires-clause-short : goal.doubled-requires-clause-short
doubled-requires-clause-short g c =
    let product : c.from.result * c.from-2.result ≡ length (text (g.S.Strings.state c.args.store.now) (g.S.Strings.number c.args.s)) * c.in-Some.count = search rules in
    copies_room (g.S.Strings.state c.args.store.now) (g.S.Strings.state c.len-len.new.self) (g.S.Strings.number c.args.s) c.in-Some.count
    c.args.count c.requires c.len-len.ensures.uses c.in-Some.ensures _ product (search rules)

pub returns-in_err-doubled-clause-uses : goal.returns-in_err-doubled-clause-uses
returns-in_err-doubled-clause-uses g c =
    let product : c.from.result * c.from-2.result ≡ length (text (g.S.Strings.state c.args.store.now) (g.S.Strings.number c.args.s)) * c.in-Some.count = search rules in
    let used = copies_use (g.S.Strings.state c.args.store.now) (g.S.Strings.state c.len-len.new.self) (g.S.Strings.number c.args.s)
    c.in-Some.count c.args.count c.requires c.len-len.ensures.uses c.in-Some.ensures (g.S.Strings.state c.doubled.new.store)
    (Some c.in_err-doubled.field-0.0) _ product (search rules) (search rules) (search rules) c.in_err-doubled.ensures.uses in
    search rules

pub returns-clause-throws : goal.returns-clause-throws
returns-clause-throws g c =
    let product : c.from.result * c.from-2.result ≡ length (text (g.S.Strings.state c.args.store.now) (g.S.Strings.number c.args.s)) * c.in-Some.count = search rules in
    short_enough (g.S.Strings.state c.args.store.now) (g.S.Strings.state c.len-len.new.self) (g.S.Strings.number c.args.s) c.in-Some.count
    c.args.count c.requires c.len-len.ensures.uses c.in-Some.ensures _ product (search rules)

pub returns-clause-uses : goal.returns-clause-uses
returns-clause-uses g c =
    let product : c.from.result * c.from-2.result ≡ length (text (g.S.Strings.state c.args.store.now) (g.S.Strings.number c.args.s)) * c.in-Some.count = search rules in
    copies_use (g.S.Strings.state c.args.store.now) (g.S.Strings.state c.len-len.new.self) (g.S.Strings.number c.args.s) c.in-Some.count
    c.args.count c.requires c.len-len.ensures.uses c.in-Some.ensures (g.S.Strings.state c.doubled.new.store) None _ product (search rules)
    (search rules) (search rules) c.in_ok-doubled.ensures.uses
