-- Calls in a row, and what they use together.
use Rattle.std.proofs.Common.{ℕ, ◌+◌, ◌≤◌, ◌∙◌}
use Rattle.std.specs.Prelude.{Option, None}
use Rattle.js_store.specs.State.{State}
use Rattle.js_store.specs.Faults.{Uses}
use Rattle.js_store.specs.declared.faults.StoreFault.{StoreFault}
use Rattle.js_store.proofs.Laws.{step_within, step_after}

pub uses_within : {F : Type 0} {a b : State F} {f : Option StoreFault} {i w j v : ℕ} → Uses a b f i w → i ≤ j → w ≤ v → Uses a b f j v
uses_within s h k = record {
  step = step_within s.step h k;
  no_slots = s.no_slots;
  history = s.history;
}

pub uses_after : {F : Type 0} {a b c : State F} {f : Option StoreFault} {i w j v m n : ℕ} → Uses a b None i w → Uses b c f j v → i + j ≤ m → w + v ≤ n → Uses a c f m n
uses_after s t h k = record {
  step = step_after s.step t.step h k;
  no_slots = t.no_slots;
  history = t.history ∙ s.history;
}
