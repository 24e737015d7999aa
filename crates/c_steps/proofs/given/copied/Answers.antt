use Rattle.std.proofs.Common.{◌≤◌, ℕ, List, length, drop, subst, sym, arith}
use Rattle.heap_rule.specs.Layout.{MAX}
use Rattle.heap_rule.proofs.MapLemmas.{has_key}
use Rattle.heap_rule.proofs.Possible.{possible_short}
use Rattle.heap_agents.specs.Ready.{handle_view}
use Rattle.c_steps.proofs.Copied.{read_over}
use Rattle.c_steps.proofs.Going.{goes_units}
use Rattle.c_handles.proofs.Ready.{possible}
use Rattle.c_steps.proofs.Settled.{looks_trans}
use Rattle.c_steps.proofs.given.copied.Goals as goal

pub returns-clause-looks : goal.returns-clause-looks
returns-clause-looks c = let one = c.length_of-len in
    let two = c.read_into in looks_trans c.args.agent.now.at.value one.new.agent.at.value two.new.agent.at.value
    one.ensures.measures.looks two.ensures.looks

pub returns-clause-units : goal.returns-clause-units
returns-clause-units c = λ us h. let one = c.length_of-len in let two = c.read_into in let made = c.in_ok-units in let out = c.as_mut_slice in
    let is = one.ensures.length us h in let n : ℕ = length out.result.now in
    read_over us two.new.out (drop (length two.new.out) made.units.items) n made.units.len
    (omega (arith, is, made.ensures.len, out.ensures.len))
    (omega (arith, is, made.ensures.len, out.ensures.len))
    (omega (arith, two.auto.out))
    (two.ensures.units us (goes_units c.args.agent.now.at.value one.new.agent.at.value one.ensures.measures.looks.leaves c.args.s us h))

pub returns-clause-short : goal.returns-clause-short
returns-clause-short c = let v = handle_view c.args.agent.now.at.value in let u = has_key v.units c.args.s c.requires.known in
    subst (λ (us : List ℕ). length us ≤ MAX) (sym (returns-clause-units c u.0 u.1)) (possible_short v (possible c.args.agent.now.at.value c.requires.ready) c.args.s u.0 u.1)
