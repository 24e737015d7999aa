use Rattle.std.proofs.Common.{◌≡◌, ◌∙◌, ℕ, false, List, length, refl, ap, subst, sym}
use Rattle.js_units.specs.Lanes.{words_over}
use Rattle.js_header.specs.declared.form.Form.TheVariants.{Flat}
use Rattle.heap_rule.specs.declared.view.View.{View}
use Rattle.heap_rule.specs.Births.{MayBear, born, stored_length}
use Rattle.heap_rule.specs.Maps.{Has}
use Rattle.heap_rule.proofs.MapLemmas.{insert_same}
use Rattle.heap_table.specs.Known.{KeepsKnown}
use Rattle.heap_read.specs.Reads.{Continues}
use Rattle.heap_read.specs.Written.{IsWritten}
use Rattle.heap_read.proofs.Going.{continues_length, continues_trans}
use Rattle.heap_text.specs.Texts.{KeepsOwnBut}
use Rattle.heap_text.proofs.Owned.{but_flat, own_refl}
use Rattle.heap_text.proofs.Bearing.{born_form, born_units, continues_born, written_fits, written_still}
use Rattle.heap_text.proofs.copying.bear_flat.Goals as goal

pub birth-requires-clause-fits : goal.birth-requires-clause-fits
birth-requires-clause-fits g c = let v : View = c.args.reader.now.agent.seat.me.0 in let y : View = c.store_length.new.self.seat.me.0 in
    let id = c.args.id in let n = c.args.n in let wide = c.args.wide in let start = c.args.start in
    let is : y ≡ stored_length v id n = c.store_length.ensures.view in let t = c.requires.written in let us : List ℕ = t.0 in
    let there : IsWritten y wide start us = subst (λ (a : View). IsWritten a wide start us) (sym is) (written_still v id n wide start us t.1) in
    let own : Has y.own_ids id n = subst (λ (a : View). Has a.own_ids id n) (sym is) (insert_same v.own_ids id n) in
    subst (λ (m : ℕ). MayBear y id (Flat wide start false)) t.2 (length us, subst (Has y.own_ids id) (sym t.2) own, written_fits y wide start us there id)

pub returns-clause-continues : goal.returns-clause-continues
returns-clause-continues g c = let v : View = c.args.reader.now.agent.seat.me.0 in let y : View = c.store_length.new.self.seat.me.0 in
    let z : View = c.birth.new.self.seat.me.0 in let id = c.args.id in
    record {
      heap = refl;
      view = continues_trans v y z (subst (Continues v) (sym c.store_length.ensures.view) (continues_length v id c.args.n))
          (subst (Continues y) (sym c.birth.ensures.view) (continues_born y id c.args.wide c.args.start (subst (KeepsKnown y) c.birth.ensures.view c.birth.ensures.known)));
    }

pub returns-clause-used : goal.returns-clause-used
returns-clause-used g c = ap (λ (a : View). a.used) c.birth.ensures.view ∙ ap (λ (a : View). a.used) c.store_length.ensures.view

pub returns-clause-own : goal.returns-clause-own
returns-clause-own g c = let v : View = c.args.reader.now.agent.seat.me.0 in let id = c.args.id in let n = c.args.n in
    let wide = c.args.wide in let start = c.args.start in let f = Flat wide start false in
    subst (λ (a : View). KeepsOwnBut v a id start (words_over wide n)) (sym c.birth.ensures.view)
    (subst (λ (a : View). KeepsOwnBut v (born a id f) id start (words_over wide n)) (sym c.store_length.ensures.view) (but_flat v v id n (own_refl v) wide start))

pub returns-clause-units : goal.returns-clause-units
returns-clause-units g c us h e = let v : View = c.args.reader.now.agent.seat.me.0 in let y : View = c.store_length.new.self.seat.me.0 in
    let id = c.args.id in let n = c.args.n in let wide = c.args.wide in let start = c.args.start in
    let is : y ≡ stored_length v id n = c.store_length.ensures.view in
    let there : IsWritten y wide start us = subst (λ (a : View). IsWritten a wide start us) (sym is) (written_still v id n wide start us h) in
    let own : Has y.own_ids id n = subst (λ (a : View). Has a.own_ids id n) (sym is) (insert_same v.own_ids id n) in
    subst (λ (a : View). Has a.units id us) (sym c.birth.ensures.view) (born_units y id n wide start us there own (sym e))

pub returns-clause-form : goal.returns-clause-form
returns-clause-form g c = let y : View = c.store_length.new.self.seat.me.0 in
    subst (λ (a : View). Has a.forms c.args.id (Flat c.args.wide c.args.start false)) (sym c.birth.ensures.view) (born_form y c.args.id c.args.wide c.args.start)
