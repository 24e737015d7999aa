-- Small changes of bindings and blocks by names, for the contracts of private functions and for proofs.
use Rattle.std.specs.Prelude.{List, drop}
use Rattle.eval_scopes.specs.Bindings.{Bound, BlockFrame}

-- another value for a name that has one
abbrev pub with_value : {V : Type 0} → Bound V → V → Bound V
with_value b v = record b { value = v }

-- the block with other bindings in the place of its own
abbrev pub with_bound : {V : Type 0} → BlockFrame V → List (Bound V) → BlockFrame V
with_bound f bs = record f { bound = bs }

-- the blocks but for the innermost
abbrev pub all_but_first : {V : Type 0} → List (BlockFrame V) → List (BlockFrame V)
all_but_first fs = drop 1 fs
