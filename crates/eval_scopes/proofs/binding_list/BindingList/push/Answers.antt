use Rattle.eval_scopes.proofs.BindingLists.{grown_list, names_pushed}
use Rattle.eval_scopes.proofs.binding_list.BindingList.push.Goals as goal

pub invariant_of-self-2 : goal.invariant_of-self-2
invariant_of-self-2 g c =
    let s = c.self.inside in
    let cs = c.put_behind.new.all.items in
    let e = c.in_ok-put_behind.ensures in
    grown_list s.used s.all.items cs c.args.binding.name s.first c.note.new.self s.firsts.places c.add.new.self.places c.key-key.result c.key-key.ensures
    (names_pushed s.used s.all.items cs c.args.binding e.put) e.room c.self.invariant c.note.ensures.indexed c.in_ok-note.ensures.found
    c.add.ensures.added c.add.ensures.kept
