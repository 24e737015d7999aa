use Rattle.std.proofs.Common.{ℕ, List, Ok, Err, refl, sym, subst}
use Rattle.std.proofs.Math.ListN.{drop_of_length-le}
use Rattle.std.proofs.lemmas.Result.{err_from_is_err_and}
use Rattle.js_store.specs.State.{IsKnown, text}
use Rattle.js_store.specs.declared.faults.StoreFault.TheVariants.{Memory}
use Rattle.js_store.proofs.Laws.{grows_refl, grows_trans, known_still, text_still}
use Rattle.eval_values.specs.declared.value.Stop.TheVariants.{Store}
use Rattle.eval_values.specs.Outcome.{Out}
use Rattle.eval_values.specs.Does.{GivesTexts}
use Rattle.js_eval.specs.Pieces.{literal_out}
use Rattle.eval_values.proofs.Compose.{ran_free}
use Rattle.eval_values.proofs.Each.{each_turn, each_halt, each_full, each_is, fine_turn}
use Rattle.js_eval.proofs.literals.intern_literals.Goals as goal

pub loop-units-init : goal.loop-units-init
loop-units-init g c =
    let number = g.S.Strings.number in
    let a = g.S.Strings.state c.args.store.now in
    let e = c.new-interned.ensures.items in
    record {
      grows = grows_refl a;
      known = rw e tt;
      completes = λ z r f. subst (λ (o : Out (List (List ℕ))). GivesTexts number a z r o) (sym (each_is (literal_out a.limit) c.args.literals.now)) (rw e at f);
    }

pub loop-units-preserved : goal.loop-units-preserved
loop-units-preserved g c =
    let state = g.S.Strings.state in
    let number = g.S.Strings.number in
    let b = state c.loop-units.store in
    let d = state c.intern_literal.new.store in
    let limit = (state c.args.store.now).limit in
    let i = c.loop-units.invariant in
    let e = c.in_ok-string.ensures in
    let p = c.in_ok-push.ensures.added in
    let did = e.did in
    record {
      grows = grows_trans i.grows e.grows;
      known = rw p (fine_turn (λ s r. text s (number r)) (λ s r. IsKnown s (number r)) b d (literal_out limit) c.loop-units.interned.items
          c.args.literals.now c.loop-units.units-index c.units-item.result c.loop-units-test.true c.units-item.is c.in_ok-string.string
          (λ r k. known_still e.grows (number r) k) i.known e.known);
      completes = λ z r f. i.completes z r (each_turn (λ s r. text s (number r)) (λ s r. IsKnown s (number r)) b d (literal_out limit)
          c.loop-units.interned.items c.args.literals.now c.loop-units.units-index c.units-item.result c.loop-units-test.true c.units-item.is
          z c.in_ok-string.string r (λ q k. text_still e.grows (number q) k) i.known (rw (c.as_slice.ensures, i.grows.limit) at did) (rw p at f));
    }

pub returns-in_err-string-clause-did : goal.returns-in_err-string-clause-did
returns-in_err-string-clause-did g c =
    let state = g.S.Strings.state in
    let number = g.S.Strings.number in
    let i = c.loop-units.invariant in
    let p = err_from_is_err_and c.from_residual.result c.from_residual.ensures.1 in
    let did = c.in_err-string.ensures.did in
    rw (p.1, p.2) (i.completes (state c.intern_literal.new.store) (Err c.in_err-string.field-0.0)
    (each_halt (λ s r. text s (number r)) (λ s r. IsKnown s (number r)) (state c.loop-units.store) (state c.intern_literal.new.store)
    (literal_out (state c.args.store.now).limit) c.loop-units.interned.items c.args.literals.now c.loop-units.units-index
    c.units-item.result c.loop-units-test.true c.units-item.is c.in_err-string.field-0.0 (rw (c.as_slice.ensures, i.grows.limit) at did)))

pub returns-in_err-push-clause-did : goal.returns-in_err-push-clause-did
returns-in_err-push-clause-did g c =
    let state = g.S.Strings.state in
    let number = g.S.Strings.number in
    let i = c.loop-units.invariant in
    let p = err_from_is_err_and c.from_residual-in_err-push.result c.from_residual-in_err-push.ensures.1 in
    let did = c.in_ok-string.ensures.did in
    rw (p.1, p.2, c.in_err-push.ensures.fault) (i.completes (state c.intern_literal.new.store) (Err (Store Memory))
    (each_full (λ s r. text s (number r)) (λ s r. IsKnown s (number r)) (state c.loop-units.store) (state c.intern_literal.new.store)
    (literal_out (state c.args.store.now).limit) c.loop-units.interned.items c.args.literals.now c.loop-units.units-index
    c.units-item.result c.loop-units-test.true c.units-item.is c.in_ok-string.string (rw (c.as_slice.ensures, i.grows.limit) at did)))

pub returns-clause-did : goal.returns-clause-did
returns-clause-did g c =
    let past = drop_of_length-le c.args.literals.now {i = c.loop-units.units-index} c.loop-units-test.false in
    c.loop-units.invariant.completes (g.S.Strings.state c.loop-units.store) (Ok c.loop-units.interned)
    (rw past (record { is = refl; good = c.loop-units.invariant.known; ran = ran_free (g.S.Strings.state c.loop-units.store) }))
