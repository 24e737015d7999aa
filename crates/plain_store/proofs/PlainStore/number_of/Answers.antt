use Rattle.std.proofs.Common.{◌∙◌, sym}
use Rattle.plain_store.proofs.Consistency.{after_insert, entered, read_stands, read_at}
use Rattle.plain_store.proofs.PlainStore.number_of.Goals as goal

pub invariant_of-self-2 : goal.invariant_of-self-2
invariant_of-self-2 c =
    let s = c.args.self.now in
    let u = c.as_slice-units.result.now in
    record {
      consistent = after_insert c.insert.result s.strings.items s.answers.items s.table c.insert.new.self u c.args.s c.insert.ensures.ok c.insert.ensures.err s.consistent
          (read_stands s.strings.items c.args.s c.index.result.now u c.requires c.index.ensures c.as_slice-units.ensures) (sym c.get.ensures ∙ c.in_default.is);
    }

pub returns-clause-ok : goal.returns-clause-ok
returns-clause-ok c =
    let s = c.args.self.now in
    let u = c.as_slice-units.result.now in
    let e = read_at s.strings.items c.args.s c.index.result.now u c.requires c.index.ensures c.as_slice-units.ensures in
    rw (e, c.in_ok-insert.ensures.ok) (entered s.table u c.args.s)

pub returns-clause-units : goal.returns-clause-units
returns-clause-units c =
    let s = c.args.self.now in
    let u = c.as_slice-units.result.now in
    let e = read_at s.strings.items c.args.s c.index.result.now u c.requires c.index.ensures c.as_slice-units.ensures in
    rw (e) (read_stands s.strings.items c.args.s c.index.result.now u c.requires c.index.ensures c.as_slice-units.ensures)
