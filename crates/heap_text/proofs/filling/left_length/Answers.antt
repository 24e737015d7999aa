use Rattle.std.proofs.Common.{ℕ, List, subst, sym}
use Rattle.std.specs.FinMap.{FinMap}
use Rattle.std.specs.Ordering.{nat_cmp}
use Rattle.js_header.specs.declared.form.Form.{Form}
use Rattle.js_header.specs.declared.form.Form.TheVariants.{Cons}
use Rattle.heap_rule.specs.declared.view.View.{View}
use Rattle.heap_rule.specs.Loads.{loaded_length}
use Rattle.heap_rule.specs.Maps.{Has, HasKey}
use Rattle.heap_rule.proofs.MapLemmas.{insert_same}
use Rattle.heap_text.specs.Filling.{units_at}
use Rattle.heap_read.proofs.Loaded.{reads_length}
use Rattle.heap_text.proofs.Sides.{possible_below, possible_both, sides_known, units_there}
use Rattle.heap_read.proofs.Storing.{forms_length}
use Rattle.heap_text.proofs.filling.left_length.Goals as goal

pub returns-clause-reads : goal.returns-clause-reads
returns-clause-reads g c = let f = c.load_length.ensures in record {
  heap = cc;
  view = reads_length c.args.reader.now.agent.seat.me.0 c.load_length.new.self.seat.me.0 c.args.left c.load_length.result f.known f.view;
}

pub returns-clause-forms : goal.returns-clause-forms
returns-clause-forms g c = forms_length c.args.reader.now.agent.seat.me.0 c.load_length.new.self.seat.me.0 c.args.left c.load_length.result c.load_length.ensures.view

pub returns-clause-below : goal.returns-clause-below
returns-clause-below g c = possible_below c.args.reader.now.agent.seat.me.0 c.args.reader.now.belongs.5 c.args.id c.requires.cons.0 c.args.left c.args.right c.requires.cons.1

pub returns-clause-known : goal.returns-clause-known
returns-clause-known g c = let v : View = c.args.reader.now.agent.seat.me.0 in let m = c.load_length.result in
    subst (λ (x : View). HasKey x.units c.args.left × HasKey x.units c.args.right) (sym c.load_length.ensures.view)
    (sides_known (loaded_length v c.args.left m) c.args.id c.requires.cons.0 c.args.left c.args.right (units_at v c.args.id) m
    c.requires.cons.1 (units_there v c.args.id c.requires.known) (insert_same v.lengths c.args.left m))

pub returns-clause-sides : goal.returns-clause-sides
returns-clause-sides g c = let v : View = c.args.reader.now.agent.seat.me.0 in let w : View = c.load_length.new.self.seat.me.0 in
    let f = c.load_length.ensures in let m = c.load_length.result in let i = c.args.id in let l = c.args.left in let r = c.args.right in
    let us : List ℕ = units_at v i in let known = returns-clause-known g c in
    let cons : Has w.forms i (Cons c.requires.cons.0 l r) = subst (λ (x : FinMap nat_cmp Form). Has x i (Cons c.requires.cons.0 l r)) (sym (returns-clause-forms g c).0) c.requires.cons.1 in
    let count : Has w.lengths l m = subst (λ (x : View). Has x.lengths l m) (sym f.view) (insert_same v.lengths l m) in
    possible_both w f.belongs.5 i c.requires.cons.0 l r us (units_at w l) (units_at w r) m cons
    (f.known.units i us (units_there v i c.requires.known)) (units_there w l known.0) (units_there w r known.1) count
