use Rattle.std.proofs.Common.{ℕ, Option, refl, subst}
use Rattle.std.specs.Prelude.{IfSome}
use Rattle.heap_intern.specs.Answers.{IsFixed}
use Rattle.heap_intern.proofs.Visiting.{none_passed}
use Rattle.heap_intern.proofs.table.strings.walk_ready.Goals as goal

pub walk_and_put-requires-clause-fixed : goal.walk_and_put-requires-clause-fixed
walk_and_put-requires-clause-fixed g c us h = subst (λ (o : Option ℕ). IfSome o (IsFixed c.args.reader.now.agent.seat.me.0 us)) c.in-Some.is (c.requires.ready us h)

pub walk_path-requires-clause-passed : goal.walk_path-requires-clause-passed
walk_path-requires-clause-passed g c us h = none_passed c.args.reader.now.agent.seat.me.0 us

pub returns-in-Some-clause-walks : goal.returns-in-Some-clause-walks
returns-in-Some-clause-walks g c us h freed = absurd (c.walk_and_put.ensures.never freed)

pub returns-in-Some-clause-free : goal.returns-in-Some-clause-free
returns-in-Some-clause-free g c freed = absurd (c.walk_and_put.ensures.never freed)

pub returns-in-None-clause-walks : goal.returns-in-None-clause-walks
returns-in-None-clause-walks g c us h freed = c.walk_path.ensures.walks us h

pub returns-in-None-clause-first : goal.returns-in-None-clause-first
returns-in-None-clause-first g c us h first = c.walk_path.ensures.first refl us h first
