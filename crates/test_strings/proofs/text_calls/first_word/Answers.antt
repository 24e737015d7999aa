use Rattle.std.proofs.Common.{◌<◌, inl, inr, subst, sym, arith}
use Rattle.js_header.specs.declared.form.Form.{Form}
use Rattle.js_header.specs.declared.form.Form.TheVariants.{Flat}
use Rattle.heap_rule.specs.declared.view.View.{View}
use Rattle.heap_rule.specs.Maps.{Has}
use Rattle.heap_rule.proofs.MapLemmas.{insert_same}
use Rattle.heap_read.proofs.Loaded.{reads_length, reads_trans, reads_word}
use Rattle.heap_read.proofs.Showing.{forms_held}
use Rattle.heap_text.proofs.Joined.{some_words}
use Rattle.test_strings.proofs.Turning.{turns_reads}
use Rattle.test_strings.proofs.text_calls.first_word.Goals as goal

pub load_word-requires-clause-may : goal.load_word-requires-clause-may
load_word-requires-clause-may c = let u : View = c.form_now.new.self.agent.seat.me.0 in let w : View = c.load_length.new.self.seat.me.0 in let id = c.args.s.id in let n = c.load_length.result in
    let form = Flat c.in-Flat.wide c.in-Flat.start c.in-Flat.fixed in
    let there = forms_held u w c.load_length.ensures.forms id form (subst (λ (g : Form). Has u.forms id g) c.in-Flat.is c.form_now.ensures.seen) in
    let long = subst (λ (x : View). Has x.lengths id n) (sym c.load_length.ensures.view) (insert_same u.lengths id n) in
    let ne = c.if-load_length-eq0.false in let some : 0 < n = omega arith in let one = some_words c.in-Flat.wide n some in
    inr (inr (id, c.in-Flat.wide, c.in-Flat.start, c.in-Flat.fixed, n, there, inl long, omega arith, omega arith))

pub returns : goal.returns
returns c = let v : View = c.args.reader.now.agent.seat.me.0 in let u : View = c.form_now.new.self.agent.seat.me.0 in
    let w : View = c.load_length.new.self.seat.me.0 in let x : View = c.load_word.new.self.seat.me.0 in
    record {
      goes = record {
        heap = c.form_now.ensures.reads.heap;
        view = turns_reads v x (reads_trans v u x c.form_now.ensures.reads.view
            (reads_trans u w x (reads_length u w c.args.s.id c.load_length.result c.load_length.ensures.known c.load_length.ensures.view)
            (reads_word w x c.in-Flat.start c.load_word.result c.load_word.ensures.known c.load_word.ensures.view)));
      };
    }
