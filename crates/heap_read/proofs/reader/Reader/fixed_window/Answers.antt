use Rattle.std.proofs.Common.{◌≡◌, ◌∙◌, Bool, true, refl, subst, sym}
use mathlib.Core.Logic.{dite}
use native.Mathlib.Decide.{ℕ_discrete}
use Rattle.js_header.specs.declared.form.Form.{Form}
use Rattle.js_header.specs.declared.form.Form.TheVariants.{Flat}
use Rattle.heap_rule.specs.declared.view.View.{View}
use Rattle.heap_rule.specs.Loads.{loaded_length}
use Rattle.heap_rule.specs.Maps.{Has}
use Rattle.heap_rule.proofs.MapLemmas.{insert_same}
use Rattle.heap_read.proofs.Freezing.{fixed_by_kept, possible_fixed}
use Rattle.heap_read.proofs.Learned.{learned_then}
use Rattle.heap_read.proofs.Loaded.{reads_length, reads_trans}
use Rattle.heap_read.proofs.Showing.{forms_held}
use Rattle.heap_read.proofs.reader.Reader.fixed_window.Goals as goal

pub unreachable-requires : goal.unreachable-requires
unreachable-requires g c = let v : View = c.args.self.now.agent.seat.me.0 in let u : View = c.form_now.new.self.agent.seat.me.0 in let e = c.form_now.ensures in let id = c.args.id in
    let q = possible_fixed u c.form_now.new.self.belongs.5 id (fixed_by_kept v u e.reads.view.known id c.requires.fixed) c.form_now.result e.seen in
    c.in_default.not-Flat q.0 q.1 true q.2

pub returns-clause-reads : goal.returns-clause-reads
returns-clause-reads g c = let v : View = c.args.self.now.agent.seat.me.0 in let u : View = c.form_now.new.self.agent.seat.me.0 in
    let w : View = c.load_length.new.self.seat.me.0 in let f = c.load_length.ensures in
    record { heap = c.form_now.ensures.reads.heap; view = reads_trans v u w c.form_now.ensures.reads.view (reads_length u w c.args.id c.load_length.result f.known f.view) }

pub returns-clause-held : goal.returns-clause-held
returns-clause-held g c i f h = let v : View = c.args.self.now.agent.seat.me.0 in let u : View = c.form_now.new.self.agent.seat.me.0 in
    let w : View = c.load_length.new.self.seat.me.0 in let e = c.form_now.ensures in let id = c.args.id in
    forms_held u w c.load_length.ensures.forms i f (dite (ℕ_discrete i id)
    (λ (same : i ≡ id). let is = possible_fixed v c.args.self.now.belongs.5 id c.requires.fixed f (subst (λ q. Has v.forms q f) same h) in
    subst (λ (g : Form). Has u.forms i g) (sym is.2) (e.reads.view.known.flats i is.0 is.1 (subst (λ (g : Form). Has v.forms i g) is.2 h)))
    (λ ne. e.others i ne ∙ h))

pub returns-clause-fixed : goal.returns-clause-fixed
returns-clause-fixed g c = let v : View = c.args.self.now.agent.seat.me.0 in let u : View = c.form_now.new.self.agent.seat.me.0 in
    let w : View = c.load_length.new.self.seat.me.0 in let e = c.form_now.ensures in let f = c.load_length.ensures in let id = c.args.id in
    let q = possible_fixed u c.form_now.new.self.belongs.5 id (fixed_by_kept v u e.reads.view.known id c.requires.fixed) c.form_now.result e.seen in
    let both : Flat c.in-Flat.wide c.in-Flat.start c.in-Flat.fixed ≡ Flat q.0 q.1 true = sym c.in-Flat.is ∙ q.2 in let fixed : c.in-Flat.fixed ≡ true = cc in
    let here : Has u.forms id (Flat c.in-Flat.wide c.in-Flat.start true) = subst
    (λ (b : Bool). Has u.forms id (Flat c.in-Flat.wide c.in-Flat.start b)) fixed (subst (λ (g : Form). Has u.forms id g) c.in-Flat.is e.seen) in record {
      form = f.known.flats id c.in-Flat.wide c.in-Flat.start here;
      long = subst (λ (x : View). Has x.lengths id c.load_length.result) (sym f.view) (insert_same u.lengths id c.load_length.result);
      whole = refl;
    }

pub returns-clause-learned : goal.returns-clause-learned
returns-clause-learned g c = let u : View = c.form_now.new.self.agent.seat.me.0 in learned_then
    (loaded_length u c.args.id c.load_length.result) c.load_length.new.self.seat.me.0 c.load_length.ensures.view
