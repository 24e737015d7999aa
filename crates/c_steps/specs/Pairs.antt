-- How two strings are settled before a call.
use Rattle.std.specs.Prelude.{◌≡◌, ◌≢◌, ℕ, Option}
use Rattle.heap_agents.specs.declared.held.Held.{Held}
use Rattle.heap_agents.specs.Ready.{HandleKnows}
use Rattle.c_steps.specs.Checked.{IsPairRefused, IsSameOrMeasured, SettlesBoth}
use Rattle.c_steps.specs.Reports.{BAD_ARGUMENT, DONE, NO_WORDS}

-- What settling strings a and b leaves, with its status: of strings that aren't known nothing has changed; of
-- strings that are known a condition on a length may have failed.
pub record SettlesPair (o p : Option Held) (a b status : ℕ) : Type 0 where
  pub unknown : ¬ (HandleKnows o a × HandleKnows o b) → p ≡ o
  pub bad : status ≡ BAD_ARGUMENT → IsSameOrMeasured o p
  pub refused : status ≢ BAD_ARGUMENT → status ≢ DONE → (status ≡ NO_WORDS) × IsPairRefused o p a b status
  pub done : status ≡ DONE → SettlesBoth o p a b
