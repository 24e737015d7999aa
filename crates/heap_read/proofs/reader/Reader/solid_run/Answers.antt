use Rattle.std.proofs.Common.{inl, inr, true, refl, subst, arith}
use Rattle.js_header.specs.declared.form.Form.{Form}
use Rattle.js_header.specs.declared.form.Form.TheVariants.{Thin}
use Rattle.heap_rule.specs.Maps.{Has}
use Rattle.heap_read.specs.Sides.{KnowsSide}
use Rattle.heap_read.proofs.Solids.{no_other}
use Rattle.heap_read.proofs.reader.Reader.solid_run.Goals as goal

pub target_run-requires-clause-thin : goal.target_run-requires-clause-thin
target_run-requires-clause-thin g c = subst (λ (f : Form). Has c.args.self.now.agent.seat.me.0.forms c.args.id f) c.in-Thin.is c.requires.seen

pub target_run-requires-clause-met : goal.target_run-requires-clause-met
target_run-requires-clause-met g c = subst (KnowsSide c.args.self.now.agent.seat.me.0) c.in-Thin.is c.requires.side

pub unreachable-requires : goal.unreachable-requires
unreachable-requires g c = no_other c.args.form c.requires.solid c.in_default.not-Flat c.in_default.not-Thin

pub returns-in-Flat-clause-flat : goal.returns-in-Flat-clause-flat
returns-in-Flat-clause-flat g c = (c.args.id, c.in-Flat.fixed, inl refl, subst (λ (f : Form). Has c.args.self.now.agent.seat.me.0.forms c.args.id f) c.in-Flat.is c.requires.seen)

pub returns-in-Thin-clause-flat : goal.returns-in-Thin-clause-flat
returns-in-Thin-clause-flat g c = let e = c.target_run.ensures in
    (c.in-Thin.target, true, inr (e.held c.args.id (Thin c.in-Thin.target) (subst (λ (f : Form). Has c.args.self.now.agent.seat.me.0.forms c.args.id f) c.in-Thin.is c.requires.seen)), e.flat)

pub returns-in-Flat-clause-loads : goal.returns-in-Flat-clause-loads
returns-in-Flat-clause-loads g c l j e = rw c.in-Flat.is (omega (arith, e))

pub returns-in-Thin-clause-loads : goal.returns-in-Thin-clause-loads
returns-in-Thin-clause-loads g c l j e = rw c.in-Thin.is (omega (arith, e, c.target_run.ensures.loads))
