-- What an evaluation of a whole script promises: how it ended, and what is in the store, the lines and
-- the bindings.
use Rattle.std.specs.Prelude.{◌≡◌, ℕ, ◌+◌, ◌≤◌, List, ◌++◌, Contains, Some}
use Rattle.std.specs.List.{concat}
use Rattle.js_store.specs.State.{State, NamesUnits}
use Rattle.js_store.specs.Faults.{Honest, ids_wanted, words_wanted}
use Rattle.js_store.specs.declared.faults.StoreFault.{StoreFault}
use Rattle.js_store.specs.declared.faults.StoreFault.TheVariants as store
use Rattle.js_eval.specs.declared.ending.End.{End}
use Rattle.js_eval.specs.declared.ending.End.TheVariants.{Done, Threw, Unsupported, Full, Memory}
use Rattle.js_item.specs.Seen.{Val}
use Rattle.eval_values.specs.Outcome.{Out, gave, ended, threw, unsupported}
use Rattle.eval_scopes.specs.Bindings.{Bound}
use Rattle.js_texts.specs.Texts.{full_only}
use Rattle.js_eval.specs.Script.{Flow, flow_ledger}
use Rattle.eval_values.specs.Ran.{InternsLists, InternsSome}
use Rattle.js_eval.specs.Flows.{WroteSome}

-- how a script ends by its meaning
abbrev pub script_end : {A : Type 0} → Out A → End
script_end (gave x l) = Done
script_end (ended (threw k) l) = Threw k
script_end (ended (unsupported at) l) = Unsupported at

-- the script ran to its end: the end, the lines and the bindings of the top are those that are meant, the
-- history grew by what is meant to be interned, every string that an expression gave is known, and what was
-- used is at most the need
pub record Finished {F : Type 0} (a b : State F) (x y : List ℕ) (after : List (Bound Val)) (end : End)
    (m : Flow) : Type 0 where
  pub end_is : end ≡ script_end m.out
  pub lines : y ≡ x ++ concat m.lines
  pub bindings : after ≡ m.bindings.top
  pub interned : InternsLists a.history b.history (flow_ledger m).interned
  pub texts : (u : List ℕ) → Contains (flow_ledger m).texts u → (n : ℕ) × NamesUnits b n u
  pub within_ids : b.used_ids ≤ a.used_ids + (flow_ledger m).ids
  pub within_words : b.used_words ≤ a.used_words + (flow_ledger m).words

-- the store was full or memory ran out: a full store's report is true, the first ones of the lines were
-- written whole, the history grew by the first ones of what is meant to be interned (on a full string table
-- the next one is shut), and what was used, with what a Full requested besides, is at most the need
pub record Interrupted {F : Type 0} (a b : State F) (x y : List ℕ) (f : StoreFault) (m : Flow) : Type 0 where
  pub honest : Honest b (full_only f)
  pub lines : WroteSome x y m.lines
  pub interned : InternsSome b f a.history (flow_ledger m).interned
  pub within_ids : b.used_ids + ids_wanted (Some f) ≤ a.used_ids + (flow_ledger m).ids
  pub within_words : b.used_words + words_wanted (Some f) ≤ a.used_words + (flow_ledger m).words

-- from the state a to the state b the script came to this end: Done, Threw and Unsupported are ends by its
-- meaning, and with Full and Memory the store or a lack of memory stopped it
abbrev pub Evaluates : {F : Type 0} → State F → State F → List ℕ → List ℕ → List (Bound Val)
    → End → Flow → Type 0
Evaluates a b x y after Done m = Finished a b x y after Done m
Evaluates a b x y after (Threw k) m = Finished a b x y after (Threw k) m
Evaluates a b x y after (Unsupported at) m = Finished a b x y after (Unsupported at) m
Evaluates a b x y after (Full report) m = Interrupted a b x y (store.Full report) m
Evaluates a b x y after Memory m = Interrupted a b x y store.Memory m
