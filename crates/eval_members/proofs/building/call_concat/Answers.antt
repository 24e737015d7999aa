use Rattle.std.proofs.Common.{arith, ◌≡◌, Err, take}
use Rattle.std.proofs.Math.ListN.{drop_of_length-le}
use Rattle.std.proofs.lemmas.List.{take_all}
use Rattle.std.proofs.lemmas.Result.{err_from_is_err_and}
use Rattle.js_store.proofs.Laws.{grows_trans}
use Rattle.js_texts.proofs.Lists.{every_map, every_more}
use Rattle.js_texts.specs.Texts.{Every}
use Rattle.eval_members.proofs.Calls.{concat_turn, concat_halt}
use Rattle.eval_values.proofs.Still.{fine_still}
use Rattle.eval_values.specs.Settled.{ElementsSettled}
use Rattle.eval_values.proofs.Settled.{elements_still, on_ok_always}
use Rattle.eval_members.proofs.building.call_concat.Goals as goal

pub loop-value-preserved : goal.loop-value-preserved
loop-value-preserved g c =
    let state = g.S.Strings.state in
    let number = g.S.Strings.number in
    let a = state c.args.store.now in
    let b = state c.loop-value.store in
    let d = state c.join_one.new.store in
    let i = c.loop-value.invariant in
    let e = c.in_ok-text.ensures in
    record {
      grows = grows_trans i.grows e.grows;
      fine = every_map (λ v k. fine_still b d number e.grows v k) c.args.args.now i.fine;
      known = e.known;
      read = every_more (λ v. ElementsSettled d number v) c.args.args.now c.loop-value.value-index c.value-item.result
          c.loop-value-test.true c.value-item.is (every_map (λ v k. elements_still number b d e.grows v k)
          (take c.loop-value.value-index c.args.args.now) i.read) e.read;
      completes = λ z r f. i.completes z r (concat_turn number a b d c.args.args.now c.loop-value.value-index c.value-item.result
          c.loop-value.text i.grows c.requires.args c.loop-value-test.true c.value-item.is z c.in_ok-text.text r e.did f);
    }

pub returns-in_err-text-clause-did : goal.returns-in_err-text-clause-did
returns-in_err-text-clause-did g c =
    let state = g.S.Strings.state in
    let number = g.S.Strings.number in
    let a = state c.args.store.now in
    let b = state c.loop-value.store in
    let d = state c.join_one.new.store in
    let i = c.loop-value.invariant in
    let p = err_from_is_err_and c.from_residual.result c.from_residual.ensures.1 in
    rw (p.1, p.2) (i.completes d (Err c.in_err-text.field-0.0)
    (concat_halt number a b d c.args.args.now c.loop-value.value-index c.value-item.result c.loop-value.text i.grows c.requires.args
    c.loop-value-test.true c.value-item.is c.in_err-text.field-0.0 c.in_err-text.ensures.did))

pub returns-clause-did : goal.returns-clause-did
returns-clause-did g c =
    let state = g.S.Strings.state in
    let i = c.loop-value.invariant in
    let past = drop_of_length-le c.args.args.now {i = c.loop-value.value-index} c.loop-value-test.false in
    let d = c.itself.ensures.did 0 (λ r. 0) in
    i.completes (state c.itself.new.store) c.itself.result (rw past (rw i.grows.limit at d))

pub returns-clause-read : goal.returns-clause-read
returns-clause-read g c =
    let number = g.S.Strings.number in
    let b = g.S.Strings.state c.loop-value.store in
    let d = g.S.Strings.state c.itself.new.store in
    let all : take c.loop-value.value-index c.args.args.now ≡ c.args.args.now = take_all c.loop-value.value-index c.args.args.now (omega (arith, c.loop-value-test.false)) in
    let read : Every (λ v. ElementsSettled b number v) c.args.args.now = rw (← all) c.loop-value.invariant.read in
    on_ok_always c.itself.result (Every (λ v. ElementsSettled d number v) c.args.args.now) (every_map (λ v k. elements_still number b d c.itself.ensures.grows v k) c.args.args.now read)
