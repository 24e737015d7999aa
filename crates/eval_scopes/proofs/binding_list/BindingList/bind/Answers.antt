use Rattle.eval_scopes.proofs.BindingLists.{grown_list, names_bound}
use Rattle.eval_scopes.proofs.binding_list.BindingList.bind.Goals as goal

pub invariant_of-self-2 : goal.invariant_of-self-2
invariant_of-self-2 g c =
    let s = c.self.inside in
    let cs = c.bind_behind.new.all.items in
    let e = c.in_ok-bind_behind.ensures in
    grown_list s.used s.all.items cs c.args.name.now s.first c.note.new.self s.firsts.places c.add.new.self.places c.key-key.result c.key-key.ensures
    (names_bound s.used s.all.items cs (record { name = c.args.name.now; constant = c.args.constant; value = c.args.value }) e.put) e.room
    c.self.invariant c.note.ensures.indexed c.in_ok-note.ensures.found c.add.ensures.added c.add.ensures.kept
