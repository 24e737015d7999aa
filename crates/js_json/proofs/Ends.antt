-- The end of a loop over strings that it settles: nothing is left, or memory ran out.
use Rattle.std.proofs.Common.{arith, ◌≡◌, ℕ, ◌+◌, ◌≤◌, List, length, take, subst, sym, take_all, Result, Ok, Err}
use Rattle.std.specs.Prelude.{IfErr, None}
use Rattle.js_store.specs.State.{State, Grows}
use Rattle.js_store.specs.Faults.{Uses}
use Rattle.js_store.specs.declared.faults.StoreFault.{StoreFault}
use Rattle.js_store.specs.declared.faults.StoreFault.TheVariants.{Memory}
use Rattle.js_texts.specs.Texts.{AllSettled, full_fault_of, full_only}

module _ {F : Type 0} (a b : State F) (n : ℕ) (grows : Grows a b) (history : b.history ≡ a.history) (ids : b.used_ids ≤ a.used_ids) (words : b.used_words ≤ a.used_words + n) where
  -- memory of one's own says nothing of the store
  pub uses_no_more : {f : StoreFault} → f ≡ Memory → Uses a b (full_only f) 0 n
  uses_no_more e = subst (λ (x : StoreFault). Uses a b (full_only x) 0 n) (sym e) (record {
    step = record {
      grows = grows;
      honest = tt;
      within_ids = omega arith;
      within_words = omega arith;
    };
    no_slots = tt;
    history = history;
  })

  pub uses_well : Uses a b None 0 n
  uses_well = record {
    step = record {
      grows = grows;
      honest = tt;
      within_ids = omega arith;
      within_words = omega arith;
    };
    no_slots = tt;
    history = history;
  }

  pub uses_so_far : (r : Result (Unit {0}) StoreFault) → IfErr r (λ f. f ≡ Memory) → Uses a b (full_fault_of r) 0 n
  uses_so_far (Ok x) e = uses_well
  uses_so_far (Err f) e = uses_no_more e

-- all that were settled so far are all
pub all_settled_at_end : {F R : Type 0} (s : State F) (name : R → ℕ) (rs : List R) (i : ℕ) → length rs ≤ i → AllSettled s name (take i rs) → AllSettled s name rs
all_settled_at_end s name rs i l h = subst (λ (qs : List _). AllSettled s name qs) (take_all i rs l) h
