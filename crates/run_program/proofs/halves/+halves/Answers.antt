use Rattle.std.proofs.Common.{◌≡◌, ℕ, ◌-◌, ◌/◌, ◌<◌, ◌≤◌, ◌++◌, subst, List, ap₂, ◌∙◌, arith}
use Rattle.std.proofs.lemmas.List.{take-append-drop}
use Rattle.js_store.specs.State.{State}
use Rattle.heap_session.specs.Sessions.{SessionFrame}
use Rattle.run_program.specs.declared.job.Job.{Job}
use Rattle.run_program.specs.Jobs.{RunsEachJob, means}
use Rattle.run_program.proofs.Sharing.{beside_may_join, ran_beside, may_left, may_right}
use Rattle.run_program.proofs.halves.+halves.Goals as goal

pub run_groups-take_back-requires : goal.run_groups-take_back-requires
run_groups-take_back-requires g t c = let s = g.S.Shared.state in
    let v : State SessionFrame = s c.args.session.now in
    let b = c.both_halves in
    let give : ℕ = c.args.groups - c.args.groups / 2 in
    let less : give < v.frame.share = omega (arith, c.requires.some, c.requires.share, c.if-groups-eq1.false) in
    beside_may_join (means v c.args.env.now) v (s b.new.session) (s b.new.other) give _ b.new.low _ b.new.high less
    (subst (λ (x : State SessionFrame). RunsEachJob x (s b.new.session) c.args.env.now c.split_at.result.0.now b.new.low) c.lend-other.ensures.left b.ensures.left)
    (subst (λ (x : State SessionFrame). RunsEachJob x (s b.new.other) c.args.env.now c.split_at.result.1.now b.new.high) c.lend-other.ensures.right b.ensures.right)
    c.requires.begins

pub run_groups-returns : goal.run_groups-returns
run_groups-returns g t c = let s = g.S.Shared.state in
    let v : State SessionFrame = s c.args.session.now in
    let b = c.both_halves in
    let give : ℕ = c.args.groups - c.args.groups / 2 in
    let less : give < v.frame.share = omega (arith, c.requires.some, c.requires.share, c.if-groups-eq1.false) in
    let all : c.split_at.result.0.now ++ c.split_at.result.1.now ≡ c.args.jobs.now = ap₂ ◌++◌ c.split_at.ensures.front c.split_at.ensures.back ∙ take-append-drop c.cut-count.result c.args.jobs.now in
    subst (λ (x : List Job). RunsEachJob v (s c.take_back.new.self) c.args.env.now x (b.new.low ++ b.new.high)) all
    (ran_beside (means v c.args.env.now) v (s b.new.session) (s b.new.other) give _ b.new.low _ b.new.high less
    (subst (λ (x : State SessionFrame). RunsEachJob x (s b.new.session) c.args.env.now c.split_at.result.0.now b.new.low) c.lend-other.ensures.left b.ensures.left)
    (subst (λ (x : State SessionFrame). RunsEachJob x (s b.new.other) c.args.env.now c.split_at.result.1.now b.new.high) c.lend-other.ensures.right b.ensures.right)
    (s c.take_back.new.self) c.take_back.ensures.joined c.take_back.ensures.bounded c.take_back.ensures.sure)

pub run_groups-both_halves-requires-clause-left : goal.run_groups-both_halves-requires-clause-left
run_groups-both_halves-requires-clause-left g t c κs within = let s = g.S.Shared.state in
    let two : 2 ≤ c.args.groups = omega (arith, c.requires.some, c.if-groups-eq1.false) in
    may_left (s c.args.session.now) _ c.args.groups c.args.env.now c.args.jobs.now _ c.args.outcomes.now _ c.cut-count.result c.requires two c.lend-other.ensures.left c.split_at_mut-low.ensures.front
    (omega (arith, c.split_at.ensures.front_len, c.split_at_mut-low.ensures.front_len))

pub run_groups-both_halves-requires-clause-right : goal.run_groups-both_halves-requires-clause-right
run_groups-both_halves-requires-clause-right g t c κs within = let s = g.S.Shared.state in
    let two : 2 ≤ c.args.groups = omega (arith, c.requires.some, c.if-groups-eq1.false) in
    may_right (s c.args.session.now) _ c.args.groups c.args.env.now c.args.jobs.now _ c.args.outcomes.now _ c.cut-count.result c.requires two c.lend-other.ensures.right c.split_at_mut-low.ensures.back
    (omega (arith, c.split_at.ensures.back_len, c.split_at_mut-low.ensures.back_len, c.requires.lengths))
