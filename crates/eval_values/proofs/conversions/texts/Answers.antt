use Rattle.std.proofs.Common.{arith, ◌≡◌, ℕ, List, Ok, Err, refl, sym, subst, take}
use Rattle.std.proofs.Math.ListN.{drop_of_length-le}
use Rattle.std.proofs.lemmas.List.{take_all}
use Rattle.std.proofs.lemmas.Result.{err_from_is_err_and}
use Rattle.js_store.specs.State.{IsKnown, text}
use Rattle.js_store.specs.declared.faults.StoreFault.TheVariants.{Memory}
use Rattle.js_store.proofs.Laws.{grows_refl, grows_trans, known_still, text_still}
use Rattle.js_texts.specs.Texts.{Every}
use Rattle.eval_values.specs.declared.value.Stop.TheVariants.{Store}
use Rattle.eval_values.specs.Outcome.{Out}
use Rattle.eval_values.specs.Conversions.{to_string}
use Rattle.js_item.specs.Seen.{seen}
use Rattle.eval_values.specs.Does.{GivesTexts}
use Rattle.eval_values.specs.Settled.{ElementsSettled}
use Rattle.js_texts.proofs.Lists.{every_map, every_more}
use Rattle.eval_values.proofs.Compose.{ran_free}
use Rattle.eval_values.proofs.Each.{each_turn, each_halt, each_full, each_map, fine_turn}
use Rattle.eval_values.proofs.Still.{fine_still}
use Rattle.eval_values.proofs.Settled.{elements_still, elements_read}
use Rattle.eval_values.proofs.Strings.{settle_turn, text_as_first}
use Rattle.eval_values.proofs.conversions.texts.Goals as goal

pub loop-value-init : goal.loop-value-init
loop-value-init g c =
    let number = g.S.Strings.number in
    let a = g.S.Strings.state c.args.store.now in
    let e = c.new-texts.ensures.items in
    record {
      grows = grows_refl a;
      fine = c.requires;
      known = rw e tt;
      read = tt;
      settles = rw e (omega arith);
      completes = λ z r f. subst (λ (o : Out (List (List ℕ))). GivesTexts number a z r o) (sym (each_map (to_string a.limit) (λ v. seen a number v) c.args.values.now)) (rw e at f);
    }

pub returns-in_err-text-clause-grows : goal.returns-in_err-text-clause-grows
returns-in_err-text-clause-grows g c = grows_trans c.loop-value.invariant.grows c.in_err-text.ensures.grows

pub returns-in_err-text-clause-did : goal.returns-in_err-text-clause-did
returns-in_err-text-clause-did g c =
    let state = g.S.Strings.state in
    let number = g.S.Strings.number in
    let a = state c.args.store.now in
    let b = state c.loop-value.store in
    let i = c.loop-value.invariant in
    let p = err_from_is_err_and c.from_residual.result c.from_residual.ensures.1 in
    let d = text_as_first number a b (state c.to_text.new.store) c.args.values.now c.loop-value.value-index c.value-item.result
    (Err c.in_err-text.field-0.0) i.grows c.requires c.loop-value-test.true c.value-item.is c.in_err-text.ensures.did in
    rw (p.1, p.2) (i.completes (state c.to_text.new.store) (Err c.in_err-text.field-0.0)
    (each_halt (λ s r. text s (number r)) (λ s r. IsKnown s (number r)) b (state c.to_text.new.store)
    (λ v. to_string a.limit (seen a number v)) c.loop-value.texts.items c.args.values.now c.loop-value.value-index c.value-item.result
    c.loop-value-test.true c.value-item.is c.in_err-text.field-0.0 d))

pub returns-in_err-push-clause-grows : goal.returns-in_err-push-clause-grows
returns-in_err-push-clause-grows g c = grows_trans c.loop-value.invariant.grows c.in_ok-text.ensures.grows

pub returns-in_err-push-clause-did : goal.returns-in_err-push-clause-did
returns-in_err-push-clause-did g c =
    let state = g.S.Strings.state in
    let number = g.S.Strings.number in
    let a = state c.args.store.now in
    let b = state c.loop-value.store in
    let i = c.loop-value.invariant in
    let p = err_from_is_err_and c.from_residual-in_err-push.result c.from_residual-in_err-push.ensures.1 in
    let d = text_as_first number a b (state c.to_text.new.store) c.args.values.now c.loop-value.value-index c.value-item.result
    (Ok c.in_ok-text.text) i.grows c.requires c.loop-value-test.true c.value-item.is c.in_ok-text.ensures.did in
    rw (p.1, p.2, c.in_err-push.ensures.fault) (i.completes (state c.to_text.new.store) (Err (Store Memory))
    (each_full (λ s r. text s (number r)) (λ s r. IsKnown s (number r)) b (state c.to_text.new.store)
    (λ v. to_string a.limit (seen a number v)) c.loop-value.texts.items c.args.values.now c.loop-value.value-index c.value-item.result
    c.loop-value-test.true c.value-item.is c.in_ok-text.text d))

pub loop-value-preserved : goal.loop-value-preserved
loop-value-preserved g c =
    let state = g.S.Strings.state in
    let number = g.S.Strings.number in
    let a = state c.args.store.now in
    let b = state c.loop-value.store in
    let d = state c.to_text.new.store in
    let i = c.loop-value.invariant in
    let e = c.in_ok-text.ensures in
    let p = c.in_ok-push.ensures.added in
    let did = text_as_first number a b d c.args.values.now c.loop-value.value-index c.value-item.result (Ok c.in_ok-text.text) i.grows c.requires c.loop-value-test.true c.value-item.is e.did in
    record {
      grows = grows_trans i.grows e.grows;
      fine = every_map (λ v k. fine_still b d number e.grows v k) c.args.values.now i.fine;
      known = rw p (fine_turn (λ s r. text s (number r)) (λ s r. IsKnown s (number r)) b d (λ v. to_string a.limit (seen a number v))
          c.loop-value.texts.items c.args.values.now c.loop-value.value-index c.value-item.result c.loop-value-test.true c.value-item.is
          c.in_ok-text.text (λ r k. known_still e.grows (number r) k) i.known e.known);
      read = every_more (λ v. ElementsSettled d number v) c.args.values.now c.loop-value.value-index c.value-item.result
          c.loop-value-test.true c.value-item.is (every_map (λ v k. elements_still number b d e.grows v k)
          (take c.loop-value.value-index c.args.values.now) i.read) (elements_read number d d (grows_refl d) c.value-item.result
          (number c.in_ok-text.text) e.own);
      settles = rw p (settle_turn number a b d c.loop-value.texts.items c.in_ok-text.text c.args.values.now c.loop-value.value-index
          c.value-item.result _ i.grows e.grows c.requires i.known c.loop-value-test.true c.value-item.is i.settles e.settles);
      completes = λ z r f. i.completes z r (each_turn (λ s r. text s (number r)) (λ s r. IsKnown s (number r)) b d
          (λ v. to_string a.limit (seen a number v)) c.loop-value.texts.items c.args.values.now c.loop-value.value-index c.value-item.result
          c.loop-value-test.true c.value-item.is z c.in_ok-text.text r (λ q k. text_still e.grows (number q) k) i.known did (rw p at f));
    }

pub returns-clause-did : goal.returns-clause-did
returns-clause-did g c =
    let past = drop_of_length-le c.args.values.now {i = c.loop-value.value-index} c.loop-value-test.false in
    c.loop-value.invariant.completes (g.S.Strings.state c.loop-value.store) (Ok c.loop-value.texts)
    (rw past (record { is = refl; good = c.loop-value.invariant.known; ran = ran_free (g.S.Strings.state c.loop-value.store) }))

pub returns-clause-read : goal.returns-clause-read
returns-clause-read g c =
    let b = g.S.Strings.state c.loop-value.store in
    let all : take c.loop-value.value-index c.args.values.now ≡ c.args.values.now = take_all c.loop-value.value-index c.args.values.now (omega (arith, c.loop-value-test.false)) in
    let read : Every (λ v. ElementsSettled b g.S.Strings.number v) c.args.values.now = rw (← all) c.loop-value.invariant.read in
    read
