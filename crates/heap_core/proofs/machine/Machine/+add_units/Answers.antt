use Rattle.std.proofs.Common.{◌≡◌, ◌∙◌, ◌++◌, append_assoc, List, ℕ, ap, sym, Some}
use Rattle.heap_rule.specs.Layout.{content}
use Rattle.heap_rule.specs.Contents.{units_of, span}
use Rattle.heap_core.proofs.Reading.{cons_read, sliced_read, on_ok}
use Rattle.heap_core.proofs.machine.Machine.+add_units.Goals as goal

pub returns-in_ok-add_units-in-Cons : goal.returns-in_ok-add_units-in-Cons
returns-in_ok-add_units-in-Cons t c = let h = c.header-found.ensures in
    let s = cons_read c.args.self.now.size c.args.self.now.words.items c.requires.stand c.args.id c.requires.born c.in-Cons.wide c.in-Cons.left c.in-Cons.right (h.form ∙ ap Some c.in-Cons.is) in
    let a : List ℕ = units_of c.args.self.now.size c.args.self.now.words.items c.in-Cons.left in let b : List ℕ = units_of c.args.self.now.size c.args.self.now.words.items c.in-Cons.right in
    on_ok c.add_units-in-Cons.result (c.add_units-in-Cons.new.out ≡ c.add_units.new.out ++ b) _
    (λ e. e ∙ ((λ i. c.in_ok-add_units-in-Cons.ensures i ++ b) ∙ (append_assoc c.args.out.now a b ∙ (λ i. c.args.out.now ++ sym s.4 i)))) c.add_units-in-Cons.ensures

pub returns-in-Some-solid : goal.returns-in-Some-solid
returns-in-Some-solid t c = let h = c.header-found.ensures in
    let s = sliced_read c.args.self.now.size c.args.self.now.words.items c.requires.stand c.args.id c.requires.born c.in-Sliced.wide
    c.in-Sliced.parent c.in-Sliced.offset c.header-found.result.1 c.in-Some-solid.wide c.in-Some-solid.start c.in-Some-solid.field-0-2
    (h.form ∙ ap Some c.in-Sliced.is) h.length.0 c.in-Some-solid.ensures.some.0 in
    on_ok c.add_span-in-Some-solid.result (c.add_span-in-Some-solid.new.out ≡ c.args.out.now ++ span
    (content c.args.self.now.size c.args.self.now.words.items) c.in-Some-solid.wide c.in-Some-solid.start c.in-Sliced.offset c.header-found.result.1) _
    (λ e. e ∙ (λ i. c.args.out.now ++ sym s.0 i)) c.add_span-in-Some-solid.ensures
