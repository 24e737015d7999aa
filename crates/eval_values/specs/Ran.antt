-- What an evaluation leaves in a store, and when a result of the code is the outcome that is meant.
use Rattle.std.specs.Prelude.{◌≡◌, ℕ, ◌+◌, ◌≤◌, List, [], ◌∷◌, ◌++◌, map, Some, Result, Ok, Err, IsTrue}
use Rattle.std.specs.Prelude.{Contains}
use Rattle.js_store.specs.State.{State, NamesUnits, Grows}
use Rattle.js_store.specs.Faults.{Honest, ids_wanted, words_wanted}
use Rattle.js_store.specs.declared.faults.FullReport.TheVariants.{Slots}
use Rattle.js_store.specs.declared.faults.StoreFault.{StoreFault}
use Rattle.js_store.specs.declared.faults.StoreFault.TheVariants.{Full}
use Rattle.js_texts.specs.Texts.{full_only}
use Rattle.eval_values.specs.declared.value.Stop.{Stop}
use Rattle.eval_values.specs.declared.value.Stop.TheVariants.{Threw, Unsupported, Store}
use Rattle.eval_values.specs.Outcome.{Ledger, Out, gave, ended, threw, unsupported, ledger_of}

-- the history grew by pairs whose lists are these
pub record InternsLists (old new : List (List ℕ × ℕ)) (lists : List (List ℕ)) : Type 0 where
  pub pairs : List (List ℕ × ℕ)
  pub grown : new ≡ old ++ pairs
  pub same : map (λ p. p.0) pairs ≡ lists

-- all was done that the ledger says, within its need
pub record MeetsLedger {F : Type 0} (a b : State F) (l : Ledger) : Type 0 where
  pub grows : Grows a b
  pub history : InternsLists a.history b.history l.interned
  pub texts : (u : List ℕ) → Contains l.texts u → (n : ℕ) × NamesUnits b n u
  pub within_ids : b.used_ids ≤ a.used_ids + l.ids
  pub within_words : b.used_words ≤ a.used_words + l.words

-- where the string table is full, the next list is there and is shut
abbrev pub NextShut : {F : Type 0} → State F → StoreFault → List (List ℕ) → Type 0
NextShut b (Full (Slots n)) [] = ⊥
NextShut b (Full (Slots n)) (u ∷ us) = IsTrue (b.shut u)
NextShut b _ us = Unit {0}

-- the history grew by the first ones of these lists
pub record InternsSome {F : Type 0} (b : State F) (f : StoreFault) (old : List (List ℕ × ℕ))
    (lists : List (List ℕ)) : Type 0 where
  pub done : List (List ℕ)
  pub left : List (List ℕ)
  pub split : lists ≡ done ++ left
  pub interns : InternsLists old b.history done
  pub next : NextShut b f left

-- a part was done, and then the store refused, or memory ran out
pub record EndsInPart {F : Type 0} (a b : State F) (f : StoreFault) (l : Ledger) : Type 0 where
  pub grows : Grows a b
  pub honest : Honest b (full_only f)
  pub history : InternsSome b f a.history l.interned
  pub within_ids : b.used_ids + ids_wanted (Some f) ≤ a.used_ids + l.ids
  pub within_words : b.used_words + words_wanted (Some f) ≤ a.used_words + l.words

pub record GivesMeant {F A : Type 0} (a b : State F) (value meant : A) (fine : Type 0) (l : Ledger)
    : Type 0 where
  pub is : value ≡ meant
  pub good : fine
  pub ran : MeetsLedger a b l

abbrev pub StopsAs : {F A : Type 0} → State F → State F → Stop → Out A → Type 0
StopsAs a b (Threw k) (gave x l) = ⊥
StopsAs a b (Threw k) (ended (threw m) l) = (m ≡ k) × MeetsLedger a b l
StopsAs a b (Threw k) (ended (unsupported at) l) = ⊥
StopsAs a b (Unsupported at) (gave x l) = ⊥
StopsAs a b (Unsupported at) (ended (threw m) l) = ⊥
StopsAs a b (Unsupported at) (ended (unsupported m) l) = (m ≡ at) × MeetsLedger a b l
StopsAs a b (Store f) o = EndsInPart a b f (ledger_of o)

-- the result is what is meant, where a value v of the code is seen in a store s as see s v
abbrev pub ComesTo : {F V A : Type 0} → State F → State F → (State F → V → A) → (State F → V → Type 0)
    → Result V Stop → Out A → Type 0
ComesTo a b see fine (Ok v) (gave x l) = GivesMeant a b (see b v) x (fine b v) l
ComesTo a b see fine (Ok v) (ended e l) = ⊥
ComesTo a b see fine (Err s) o = StopsAs a b s o
