use Rattle.std.proofs.Common.{◌≡◌, ◌+◌, ◌≤◌, Option, false, true, sym, subst, arith}
use borrow.Author.Tests.{leb-true}
use Rattle.heap_agents.specs.declared.held.Held.{Held}
use Rattle.heap_agents.specs.Ready.{HandleKnows}
use Rattle.c_steps.specs.Checked.{ReachesLength}
use Rattle.c_steps.proofs.Going.{leb_of, reached, reaching}
use Rattle.c_steps.proofs.settling.reaches.Goals as goal

pub returns-then-all-from-clause-reaches : goal.returns-then-all-from-clause-reaches
returns-then-all-from-clause-reaches c = let o = c.args.agent.now.at.value in let mid = c.knows.new.self.at.value in let n = c.args.from + c.args.room in
    let all = c.length_of-all in let same = c.knows.ensures.same in let t = c.if-not-knows.false in
    let known = subst (λ (p : Option Held). HandleKnows p c.args.s) (sym same) (c.knows.ensures.known.0 t) in (
      λ h. let e : false ≡ true = h in absurd (cc),
      λ r. let le : n ≤ all.result = reached mid mid c.args.s all.result n (c.knows.ensures.ready t) known all.ensures.length (subst (λ (p : Option Held). ReachesLength p c.args.s n) (sym same) r) in
          absurd (omega (arith, le, c.if-all-from.true)),
    )

pub returns-clause-reaches : goal.returns-clause-reaches
returns-clause-reaches c = let o = c.args.agent.now.at.value in let mid = c.knows.new.self.at.value in let n = c.args.from + c.args.room in
    let all = c.length_of-all in let same = c.knows.ensures.same in let t = c.if-not-knows.false in
    let known = subst (λ (p : Option Held). HandleKnows p c.args.s) (sym same) (c.knows.ensures.known.0 t) in (
      λ h. subst (λ (p : Option Held). ReachesLength p c.args.s n) same
          (reaching mid mid c.args.s all.result n (c.knows.ensures.ready t) known all.ensures.length (omega (arith, leb-true _ _ h, c.if-all-from.false))),
      λ r. let le : n ≤ all.result = reached mid mid c.args.s all.result n (c.knows.ensures.ready t) known all.ensures.length (subst (λ (p : Option Held). ReachesLength p c.args.s n) (sym same) r) in
          leb_of _ _ (omega (arith, le, c.if-all-from.false)),
    )
