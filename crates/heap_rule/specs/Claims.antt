-- Loading a counter and claiming on one: the bump allocation of ids and content words. In this and the
-- following files x is the word found.
use Rattle.std.specs.Prelude.{◌≡◌, ℕ, ◌+◌, ◌≤◌, ◌==◌, if◌then◌else◌}
use Rattle.heap_rule.specs.declared.view.View.{View}
use Rattle.heap_rule.specs.declared.size.Counter.{Counter}
use Rattle.heap_rule.specs.declared.size.Counter.TheVariants.{Ids, Words}
use Rattle.heap_rule.specs.Layout.{counter_value, with_count, end_of}
use Rattle.heap_rule.specs.Maps.{with_run}

-- the view has seen the counter at x
abbrev pub loaded_counter : View → Counter → ℕ → View
loaded_counter v k x = record v { low = with_count v.low k x }

-- at most what was seen of the counter, within its end, and one id at a time
abbrev pub MayClaim : View → Counter → ℕ → ℕ → Type 0
MayClaim v k at want =
    (at ≤ counter_value v.low k) × (at + want ≤ end_of v.sizes k) × (1 ≤ want) × (k ≡ Ids → want ≡ 1)

-- The same but for the last: so many pieces that one compare-exchange claims at once. Of ids these are as
-- many claims, each of one id, in turn (`ClaimsInTurn` in `Kinds`).
abbrev pub MayClaimAtOnce : View → Counter → ℕ → ℕ → Type 0
MayClaimAtOnce v k at want = (at ≤ counter_value v.low k) × (at + want ≤ end_of v.sizes k) × (1 ≤ want)

-- the pieces from `at` on are own, each with the word 0
abbrev pub with_pieces : View → Counter → ℕ → ℕ → View
with_pieces v Ids at want = record v { own_ids = with_run v.own_ids at want 0 }
with_pieces v Words at want = record v { own_words = with_run v.own_words at want 0 }

-- the claim succeeded: the pieces are own and count as used, and the counter was seen behind them
abbrev pub won_claim : View → Counter → ℕ → ℕ → View
won_claim v k at want = record (with_pieces v k at want)
    { used = with_count v.used k (counter_value v.used k + want); low = with_count v.low k (at + want) }

-- the compare-exchange of the counter from `at` to `at + want`
abbrev pub claimed : View → Counter → ℕ → ℕ → ℕ → View
claimed v k at want x = if x == at then won_claim v k at want else loaded_counter v k x
