use Rattle.std.proofs.Common.{◌≡◌, ◌∙◌, ℕ, Bool, true, subst, sym}
use mathlib.Core.Logic.{dite}
use native.Mathlib.Decide.{ℕ_discrete}
use Rattle.js_header.specs.declared.form.Form.{Form}
use Rattle.js_header.specs.declared.form.Form.TheVariants.{Flat}
use Rattle.heap_rule.specs.declared.view.View.{View}
use Rattle.heap_rule.specs.Maps.{Has}
use Rattle.heap_read.proofs.Leading.{possible_target}
use Rattle.heap_read.proofs.reader.Reader.target_run.Goals as goal

pub unreachable-requires : goal.unreachable-requires
unreachable-requires g c = let u : View = c.form_now.new.self.agent.seat.me.0 in let e = c.form_now.ensures in let t = c.args.target in
    let is = possible_target u c.form_now.new.self.belongs.5 c.args.of t c.form_now.result (e.reads.view.known.thins c.args.of t c.requires.thin) e.seen in c.in_default.not-Flat is.0 is.1 true is.2

pub returns-clause-held : goal.returns-clause-held
returns-clause-held g c i f h = let v : View = c.args.self.now.agent.seat.me.0 in let w : View = c.form_now.new.self.agent.seat.me.0 in
    let e = c.form_now.ensures in let t = c.args.target in dite (ℕ_discrete i t)
    (λ (same : i ≡ t). let is = possible_target v c.args.self.now.belongs.5 c.args.of t f c.requires.thin (subst (λ (q : ℕ). Has v.forms q f) same h) in
    subst (λ (g : Form). Has w.forms i g) (sym is.2) (e.reads.view.known.flats i is.0 is.1 (subst (λ (g : Form). Has v.forms i g) is.2 h)))
    (λ ne. e.others i ne ∙ h)

pub returns-clause-flat : goal.returns-clause-flat
returns-clause-flat g c = let u : View = c.form_now.new.self.agent.seat.me.0 in let e = c.form_now.ensures in let t = c.args.target in
    let is = possible_target u c.form_now.new.self.belongs.5 c.args.of t c.form_now.result (e.reads.view.known.thins c.args.of t c.requires.thin) e.seen in
    let both : Flat c.in-Flat.wide c.in-Flat.start c.in-Flat.fixed ≡ Flat is.0 is.1 true = sym c.in-Flat.is ∙ is.2 in let fixed : c.in-Flat.fixed ≡ true = cc in
    subst (λ (b : Bool). Has u.forms t (Flat c.in-Flat.wide c.in-Flat.start b)) fixed (subst (λ (g : Form). Has u.forms t g) c.in-Flat.is e.seen)
