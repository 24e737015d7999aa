use Rattle.eval_builtins.specs.Parts.{number_out}
use Rattle.std.proofs.Common.{arith, List, Ok, Err, refl, sym, subst, ◌∙◌}
use Rattle.std.proofs.Math.ListN.{drop_of_length-le}
use Rattle.std.proofs.lemmas.Result.{err_from_is_err_and}
use Rattle.js_number.specs.declared.Num.{Num}
use Rattle.js_store.specs.declared.faults.StoreFault.TheVariants.{Memory}
use Rattle.eval_values.specs.declared.value.Stop.TheVariants.{Store}
use Rattle.eval_values.specs.Outcome.{Out}
use Rattle.js_item.specs.Seen.{seen}
use Rattle.eval_values.specs.Seen.{all_seen}
use Rattle.eval_builtins.specs.Numbers.{IsFor}
use Rattle.eval_builtins.specs.Numbers.{taken_of, GivesNumbers}
use Rattle.eval_values.proofs.Compose.{ran_free}
use Rattle.eval_values.proofs.Each.{each_turn, each_halt, each_full, each_map, fine_turn}
use Rattle.eval_builtins.proofs.Numbers.{as_numbers, as_first, count_push}
use Rattle.eval_builtins.proofs.codes.numbers.Goals as goal

pub loop-value-init : goal.loop-value-init
loop-value-init g c =
    let number = g.S.Strings.number in
    let a = g.S.Strings.state c.args.store.now in
    let vs = all_seen a number c.args.args.now in
    let e = c.new-numbers.ensures.items in
    record {
      same = refl;
      every = rw e tt;
      count = rw e refl;
      within = omega arith;
      completes = λ b r d. subst (λ (o : Out (List Num)). GivesNumbers a b c.args.which r o)
          (sym (each_map (number_out (taken_of c.args.which vs) c.args.at vs) (λ v. seen a number v) c.args.args.now))
          (as_numbers a b c.args.which r _ (rw e at d));
    }

pub returns-in_err-number-clause-did : goal.returns-in_err-number-clause-did
returns-in_err-number-clause-did g c =
    let number = g.S.Strings.number in
    let a = g.S.Strings.state c.args.store.now in
    let vs = all_seen a number c.args.args.now in
    let p = err_from_is_err_and c.from_residual.result c.from_residual.ensures.1 in
    let b = g.S.Strings.state c.number.new.store in
    rw (p.1, p.2) (c.loop-value.invariant.completes b (Err c.in_err-number.field-0.0)
    (each_halt (λ s n. n) (λ s n. IsFor c.args.which n) a b (λ v. number_out (taken_of c.args.which vs) c.args.at vs (seen a number v))
    c.loop-value.numbers.items c.args.args.now c.loop-value.value-index c.value-item.result c.loop-value-test.true c.value-item.is
    c.in_err-number.field-0.0 (as_first number a (g.S.Strings.state c.loop-value.store) b b c.args.which c.args.at vs c.value-item.result
    (Err c.in_err-number.field-0.0) c.loop-value.invariant.same refl (c.in_err-number.ensures.did vs))))

pub returns-in_err-push-clause-did : goal.returns-in_err-push-clause-did
returns-in_err-push-clause-did g c =
    let number = g.S.Strings.number in
    let a = g.S.Strings.state c.args.store.now in
    let vs = all_seen a number c.args.args.now in
    let p = err_from_is_err_and c.from_residual-in_err-push.result c.from_residual-in_err-push.ensures.1 in
    let b = g.S.Strings.state c.number.new.store in
    rw (p.1, p.2, c.in_err-push.ensures.fault) (c.loop-value.invariant.completes b (Err (Store Memory))
    (each_full (λ s n. n) (λ s n. IsFor c.args.which n) a b (λ v. number_out (taken_of c.args.which vs) c.args.at vs (seen a number v))
    c.loop-value.numbers.items c.args.args.now c.loop-value.value-index c.value-item.result c.loop-value-test.true c.value-item.is
    c.in_ok-number.number (as_first number a (g.S.Strings.state c.loop-value.store) b b c.args.which c.args.at vs c.value-item.result
    (Ok c.in_ok-number.number) c.loop-value.invariant.same refl (c.in_ok-number.ensures.did vs))))

pub loop-value-preserved : goal.loop-value-preserved
loop-value-preserved g c =
    let number = g.S.Strings.number in
    let a = g.S.Strings.state c.args.store.now in
    let vs = all_seen a number c.args.args.now in
    let i = c.loop-value.invariant in
    let e = c.in_ok-number.ensures in
    let p = c.in_ok-push.ensures.added in
    let still = e.same ∙ i.same in
    record {
      same = still;
      every = rw p (fine_turn (λ s n. n) (λ s n. IsFor c.args.which n) a a
          (λ v. number_out (taken_of c.args.which vs) c.args.at vs (seen a number v)) c.loop-value.numbers.items c.args.args.now
          c.loop-value.value-index c.value-item.result c.loop-value-test.true c.value-item.is c.in_ok-number.number (λ n k. k) i.every e.is_for);
      count = rw p (count_push c.loop-value.numbers.items c.in_ok-number.number c.loop-value.value-index i.count);
      within = omega (arith, c.loop-value-test.true);
      completes = λ b r f. i.completes b r (each_turn (λ s n. n) (λ s n. IsFor c.args.which n) a a
          (λ v. number_out (taken_of c.args.which vs) c.args.at vs (seen a number v)) c.loop-value.numbers.items c.args.args.now
          c.loop-value.value-index c.value-item.result c.loop-value-test.true c.value-item.is b c.in_ok-number.number r (λ n k. refl) i.every
          (as_first number a (g.S.Strings.state c.loop-value.store) a (g.S.Strings.state c.number.new.store) c.args.which c.args.at vs
          c.value-item.result (Ok c.in_ok-number.number) i.same still (e.did vs)) (rw p at f));
    }

pub returns-clause-did : goal.returns-clause-did
returns-clause-did g c =
    let past = drop_of_length-le c.args.args.now {i = c.loop-value.value-index} c.loop-value-test.false in
    let i = c.loop-value.invariant in
    i.completes (g.S.Strings.state c.loop-value.store) (Ok c.loop-value.numbers)
    (rw past (record { is = refl; good = i.every; ran = rw i.same (ran_free (g.S.Strings.state c.args.store.now)) }))
