use Rattle.std.proofs.Common.{◌≡◌, ◌∙◌, ℕ, List, false, ap}
use Rattle.js_header.specs.declared.form.Form.TheVariants.{Flat}
use Rattle.heap_rule.specs.declared.size.HeapSize.{HeapSize}
use Rattle.heap_rule.specs.declared.view.View.{View}
use Rattle.js_units.specs.Lanes.{is_wide}
use Rattle.heap_intern.proofs.Hashes.{no_hashes}
use Rattle.test_heap.proofs.First.{first_of}
use Rattle.test_heap.proofs.table_counted.found_again.Goals as goal

pub intern-requires-clause-settled : goal.intern-requires-clause-settled
intern-requires-clause-settled g c = let f = c.in-Ok.ensures.form in (Flat (is_wide c.args.units.now) f.0 false, f.1, λ x. x)

pub intern_counted-requires-clause-settled : goal.intern_counted-requires-clause-settled
intern_counted-requires-clause-settled g c = let f = c.in-Ok-make_flat.ensures.form in (Flat (is_wide c.args.units.now) f.0 false, f.1, λ x. x)

pub returns : goal.returns
returns g c = let x : View = c.make_flat-2.new.self.reader.agent.seat.me.0 in let us : List ℕ = c.args.units.now in
    let cont = c.make_flat-2.ensures.continues in let i = (c.in-Ok-intern.ensures.interns.answer us c.in-Ok.ensures.units).2 in
    let one : x.sizes.slots ≡ 1 = ap (λ (z : HeapSize). z.slots) (cont.sizes ∙ (i.0.sizes ∙ (c.make_flat.ensures.continues.sizes ∙ c.args.text.now.reader.belongs.1))) ∙ c.requires.one in record {
      two = c.intern_counted.ensures.counts.first us c.in-Ok-make_flat.ensures.units
          (first_of x c.make_flat-2.new.self.reader.belongs.5 one us i.4.0 c.in-Ok-intern.a (cont.known.slots i.4.0 c.in-Ok-intern.a i.4.1)
          (cont.known.units c.in-Ok-intern.a us i.3.1));
    }

pub intern_counted-requires-clause-hashed : goal.intern_counted-requires-clause-hashed
intern_counted-requires-clause-hashed g c = no_hashes c.make_flat-2.new.self.reader.agent.seat.me.0
