-- Names that are assigned and declared, in a store.
use Rattle.std.proofs.Common.{◌≡◌, ℕ, List, [], refl, ap, sym, ◌∙◌, true, false, Some, None, Ok, Err, arith}
use Rattle.std.proofs.lemmas.List.{append-nil}
use Rattle.js_store.specs.State.{State}
use Rattle.js_store.proofs.Laws.{step_refl}
use Rattle.js_store.specs.declared.faults.StoreFault.TheVariants.{Memory}
use Rattle.js_item.specs.declared.item.Item.{Item}
use Rattle.eval_values.specs.declared.value.Kind.TheVariants.{ReferenceError, TypeError}
use Rattle.eval_values.specs.declared.value.Stop.TheVariants.{Threw, Store}
use Rattle.js_item.specs.Seen.{Val, seen}
use Rattle.eval_values.specs.Outcome.{ledger_of}
use Rattle.eval_values.proofs.Compose.{ran_free, cut_of_memory}
use Rattle.eval_scopes.specs.Bindings.{Bound, Bindings, meant, written, declared}
use Rattle.js_eval.specs.Script.{Flow, assigned, leaves}
use Rattle.js_eval.specs.Seen.{bound_seen, bindings_seen}
use Rattle.js_eval.specs.Flows.{FollowsFlow}
use Rattle.js_eval.proofs.Mapped.{written_by, declared_by}
use Rattle.js_eval.proofs.Names.{meant_none, meant_some}

module _ {F R : Type 0} (s : State F) (name : R → ℕ) (x : List ℕ) where
  pub unassigned : (bs : Bindings (Item R)) (n : List ℕ) (v : Val) → meant bs n ≡ None → FollowsFlow s s x x (Err (Threw ReferenceError))
      (bindings_seen s name bs) (assigned (meant (bindings_seen s name bs) n) n v (bindings_seen s name bs))
  unassigned bs n v e = rw (meant_none s name bs n e) (record { did = (refl, ran_free s); wrote = sym (append-nil x); leaves = refl })

  pub constant_kept : (bs : Bindings (Item R)) (n : List ℕ) (b : Bound (Item R)) (v : Val) → meant bs n ≡ Some b → b.constant ≡ true →
      FollowsFlow s s x x (Err (Threw TypeError)) (bindings_seen s name bs) (assigned (meant (bindings_seen s name bs) n) n v (bindings_seen s name bs))
  constant_kept bs n b v e k = rw (meant_some s name bs n b e, k) (record { did = (refl, ran_free s); wrote = sym (append-nil x); leaves = refl })

  pub assign_done : (bs cs : Bindings (Item R)) (n : List ℕ) (b : Bound (Item R)) (v : Item R) → meant bs n ≡ Some b → b.constant ≡ false →
      cs ≡ written bs n v → FollowsFlow s s x x (Ok tt) (bindings_seen s name cs)
      (assigned (meant (bindings_seen s name bs) n) n (seen s name v) (bindings_seen s name bs))
  assign_done bs cs n b v e k h = rw (meant_some s name bs n b e, k) (record {
    did = record { is = refl; good = tt; ran = ran_free s };
    wrote = sym (append-nil x);
    leaves = ap (λ q. bindings_seen s name q) h ∙ sym (written_by (λ w. seen s name w) bs n v);
  })

  pub declare_done : (bs cs : Bindings (Item R)) (b : Bound (Item R)) → cs ≡ declared bs b → FollowsFlow s s x x (Ok tt)
      (bindings_seen s name cs) (leaves (declared (bindings_seen s name bs) (bound_seen s name b)))
  declare_done bs cs b h = record {
    did = record { is = refl; good = tt; ran = ran_free s };
    wrote = sym (append-nil x);
    leaves = ap (λ q. bindings_seen s name q) h ∙ sym (declared_by (λ w. seen s name w) bs b);
  }

  -- out of memory before anything was done
  pub memory_went : (bs : Bindings Val) (f : Flow) → FollowsFlow s s x x (Err (Store Memory)) bs f
  memory_went bs f = record {
    did = cut_of_memory (ledger_of f.out) (step_refl s) refl (omega arith) (omega arith);
    wrote = record { done = []; left = f.lines; split = refl; written = sym (append-nil x) };
    leaves = tt;
  }
