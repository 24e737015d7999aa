-- What scripts may ask of a heap by their meanings, and when its sizes are enough for all of them.
use Rattle.eval_values.specs.Conversions.{sum_over}
use Rattle.std.specs.Prelude.{ℕ, ◌≤◌, List, [], ◌∷◌, nat_eq, flat_map, Option}
use Rattle.std.specs.Option.{option_map_or}
use Rattle.std.specs.Cmp.Lexicographic.{pointwise}
use Rattle.std.specs.Set.{distinct_count}
use Rattle.js_store.specs.State.{StoreSizes}
use Rattle.eval_values.specs.Outcome.{Out, gave, ended}
use Rattle.js_eval.specs.Script.{Flow, flow_ledger}

-- What is meant by a prelude, if there is one, and by scripts. Where the prelude doesn't come to the end of
-- its statements, no script is run.
abbrev pub after_prelude : Out (Unit {0}) → List Flow → List Flow
after_prelude (gave x l) scripts = scripts
after_prelude (ended e l) scripts = []

-- what all files mean that are meant to be run: the prelude, and behind one that is meant to end Done the
-- scripts
abbrev pub all_meant : Option Flow → List Flow → List Flow
all_meant prelude scripts = option_map_or (λ p. p ∷ after_prelude p.out scripts) prelude scripts

-- the ids and the content words that all need together
abbrev pub ids_needed : List Flow → ℕ
ids_needed means = sum_over (λ m. (flow_ledger m).ids) means

abbrev pub words_needed : List Flow → ℕ
words_needed means = sum_over (λ m. (flow_ledger m).words) means

-- the lists of units that all intern, in order
abbrev pub lists_interned : List Flow → List (List ℕ)
lists_interned means = flat_map (λ m. (flow_ledger m).interned) means

-- how many different lists of units there are among these
unfoldable pub count_different : List (List ℕ) → ℕ
count_different lists = distinct_count (pointwise nat_eq) lists

-- a heap of these sizes is enough: it has as many ids and content words as all files need together, and the
-- string table a slot for each different list of units that they intern
pub record Fits (z : StoreSizes) (means : List Flow) : Type 0 where
  pub ids : ids_needed means ≤ z.ids
  pub words : words_needed means ≤ z.words
  pub slots : count_different (lists_interned means) ≤ z.slots
