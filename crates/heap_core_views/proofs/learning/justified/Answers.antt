use Rattle.std.proofs.Common.{◌∙◌, ap, sym, rules, Some}
use Rattle.std.specs.Option.{option_copied}
use Rattle.heap_core_views.proofs.Justified.{by_thins, by_conses, by_itself, if_ok_same}
use Rattle.heap_core_views.proofs.learning.justified.Goals as goal

pub returns-in-Some : goal.returns-in-Some
returns-in-Some c = ap Some (search rules) ∙ sym (by_thins c.args.view.now c.args.id c.in-Some.units.now (sym c.by_thins.ensures ∙ ap option_copied c.in-Some.is))

pub returns-in-Some-by_conses : goal.returns-in-Some-by_conses
returns-in-Some-by_conses c = ap Some (search rules) ∙ sym (by_conses c.args.view.now c.args.id c.in-Some-by_conses.units.now
    (sym c.by_thins.ensures ∙ ap option_copied c.in_default.is) (sym c.by_conses.ensures ∙ ap option_copied c.in-Some-by_conses.is))

pub returns : goal.returns
returns c = if_ok_same c.by_flat.result _ _ (sym (by_itself c.args.view.now c.args.id
    (sym c.by_thins.ensures ∙ ap option_copied c.in_default.is) (sym c.by_conses.ensures ∙ ap option_copied c.in_default-by_conses.is))) c.by_flat.ensures
