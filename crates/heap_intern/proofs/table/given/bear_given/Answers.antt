use Rattle.std.proofs.Common.{◌≡◌, ◌∙◌, true, ap, subst, sym}
use Rattle.js_header.specs.declared.form.Form.TheVariants.{Flat}
use Rattle.heap_rule.specs.declared.view.View.{View}
use Rattle.heap_rule.specs.Births.{MayBear, born, stored_length}
use Rattle.heap_table.specs.Known.{KeepsKnown}
use Rattle.heap_intern.proofs.Giving.{given_fits, given_flat, given_forms, given_goes}
use Rattle.heap_intern.proofs.table.given.bear_given.Goals as goal

pub birth-requires-clause-fits : goal.birth-requires-clause-fits
birth-requires-clause-fits g c = let v : View = c.args.reader.now.agent.seat.me.0 in let o = c.requires.over in
    subst (λ (a : View). MayBear a c.args.id (Flat c.args.wide c.args.start true)) (sym c.store_length.ensures.view) (given_fits v c.args.wide c.args.start c.args.len o.0 o.1 c.args.id)

pub returns-clause-goes : goal.returns-clause-goes
returns-clause-goes g c a b lacks never = let v : View = c.args.reader.now.agent.seat.me.0 in let w : View = c.birth.new.self.seat.me.0 in
    let id = c.args.id in let n = c.args.len in let o = c.requires.over in let f = Flat c.args.wide c.args.start true in
    let is = c.store_length.ensures.view in let born_is : w ≡ born (stored_length v id n) id f = c.birth.ensures.view ∙ ap (λ (y : View). born y id f) is in
    given_goes v c.args.wide c.args.start n o.0 o.1 id a w b lacks never born_is (subst (λ (y : View). KeepsKnown y w) is c.birth.ensures.known)

pub returns-clause-forms : goal.returns-clause-forms
returns-clause-forms g c = let v : View = c.args.reader.now.agent.seat.me.0 in let w : View = c.birth.new.self.seat.me.0 in
    let id = c.args.id in let n = c.args.len in let o = c.requires.over in let f = Flat c.args.wide c.args.start true in
    given_forms v c.args.wide c.args.start n o.0 o.1 id c.args.reader.now.belongs.5 c.requires.own w (c.birth.ensures.view ∙ ap (λ (y : View). born y id f) c.store_length.ensures.view)

pub returns-clause-flat : goal.returns-clause-flat
returns-clause-flat g c us h = let v : View = c.args.reader.now.agent.seat.me.0 in let w : View = c.birth.new.self.seat.me.0 in
    let id = c.args.id in let n = c.args.len in let f = Flat c.args.wide c.args.start true in
    given_flat v c.args.wide c.args.start n us h id w (c.birth.ensures.view ∙ ap (λ (y : View). born y id f) c.store_length.ensures.view)
