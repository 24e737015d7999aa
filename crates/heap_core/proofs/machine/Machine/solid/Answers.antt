use Rattle.std.proofs.Common.{◌∙◌, ap, sym, subst, Some}
use Rattle.js_header.specs.Form.{IsInRange}
use Rattle.js_header.specs.declared.form.Form.TheVariants.{Thin}
use Rattle.heap_core.proofs.Reading.{flat_read, shows}
use Rattle.heap_core.proofs.machine.Machine.solid.Goals as goal

pub returns-in-Flat-clause-some : goal.returns-in-Flat-clause-some
returns-in-Flat-clause-some c = let h = c.header-found.ensures in (
  flat_read c.args.self.now.size c.args.self.now.words.items c.requires.stand c.args.id c.requires.born c.in-Flat.wide c.in-Flat.start
      c.in-Flat.fixed c.header-found.result.1 (h.form ∙ ap Some c.in-Flat.is) h.length.0,
  subst IsInRange c.in-Flat.is h.range,
  h.length.1,
)

pub returns-in-Flat-0₀-clause-some : goal.returns-in-Flat-0₀-clause-some
returns-in-Flat-0₀-clause-some c = let h = c.header-found.ensures in let o = c.header-other.ensures in
    let t = shows c.args.self.now.size c.args.self.now.words.items c.requires.stand c.args.id c.requires.born (Thin c.in-Thin.target) (h.form ∙ ap Some c.in-Thin.is) in (
      sym t.1 ∙ flat_read c.args.self.now.size c.args.self.now.words.items c.requires.stand c.in-Thin.target t.0 c.in-Flat-0₀.wide
          c.in-Flat-0₀.start c.in-Flat-0₀.fixed c.header-other.result.1 (o.form ∙ ap Some c.in-Flat-0₀.is) o.length.0,
      subst IsInRange c.in-Flat-0₀.is o.range,
      o.length.1,
    )
