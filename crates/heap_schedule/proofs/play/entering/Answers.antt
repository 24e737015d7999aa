use Rattle.std.proofs.Common.{rules, ◌≡◌, ◌∙◌, ap, sym, Option, Some, List, ℕ}
use Rattle.std.specs.Prelude.{is_some, false}
use Rattle.heap_schedule.specs.Lines.{loads_slot}
use Rattle.heap_schedule.specs.Play.{slot_units}
use Rattle.heap_schedule.proofs.Entered.{has_entry, no_entry}
use Rattle.heap_schedule.proofs.play.entering.Goals as goal

pub returns-in_default : goal.returns-in_default
returns-in_default c =
    let none : is_some c.entry_for.result ≡ false = search rules in
    no_entry c.args.state.now c.args.view c.args.slot (c.entry_for.ensures.none.0 none)

pub returns : goal.returns
returns c =
    let e = has_entry c.args.state.now c.args.view c.args.slot c.in-Some.units.now c.in-Some.ensures.some in
    let copied : c.in-Ok.entry ≡ c.in-Some.units.now = search rules in
    let a : Some c.in-Ok.entry ≡ slot_units c.args.state.now c.args.view c.args.slot = ap Some copied ∙ sym e in
    let b : c.in-Ok-to_vec.learn.items ≡ c.args.learn.now.items = search rules in
    (ap is_some e, (λ d. loads_slot c.args.view c.args.slot (a d) (b d)))
