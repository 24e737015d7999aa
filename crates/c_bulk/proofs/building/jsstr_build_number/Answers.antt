use Rattle.std.proofs.Common.{ℤ, subst, w64}
use Rattle.std.proofs.lemmas.Int.{to_z-of_z}
use Rattle.js_number.specs.Arith.{text_of}
use Rattle.js_number.specs.declared.Num.TheVariants.{Int}
use Rattle.heap_build.specs.Built.{AddsUnits}
use Rattle.c_steps.proofs.Texts.{builds, no_box}
use Rattle.c_bulk.proofs.building.jsstr_build_number.Goals as goal

pub returns-in-Ok-clause-builds : goal.returns-in-Ok-clause-builds
returns-in-Ok-clause-builds c = let pushed = c.push_number-answer in
    let added = subst (λ (z : ℤ). AddsUnits c.deref_mut.result.now pushed.new.self (text_of (Int z)) pushed.result) (to_z-of_z w64 c.args.number c.ranges.number) pushed.ensures.added in
    builds c.args.text.now.at.value c.put.new.self.at.value c.in-Ok.opened.value c.deref_mut.result.now pushed.new.self
    c.in-Ok.ensures.opened c.deref_mut.ensures.value c.put.ensures.there pushed.ensures.room (text_of (Int c.args.number)) pushed.result
    c.status_of.result added c.status_of.ensures.status

pub returns-in-Err-clause-builds : goal.returns-in-Err-clause-builds
returns-in-Err-clause-builds c = no_box c.args.text.now.at.value c.open.new.self.at.value c.in-Err.ensures.none c.in-Err.ensures.unchanged (text_of (Int c.args.number))
