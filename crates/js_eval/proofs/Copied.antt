-- What a value that was read leaves in the ledger.
use Rattle.std.proofs.Common.{◌≡◌, ℕ, zero, suc, ◌<◌, length, slice_index_or, List, [], ◌∷◌, Some, refl, ap, ◌∙◌, arith}
use Rattle.js_store.specs.State.{State, NamesUnits, text as units_of}
use Rattle.js_store.proofs.Laws.{grows_refl, step_refl, known_has}
use Rattle.js_texts.specs.Texts.{AllKnown, known_texts as texts_seen}
use Rattle.js_item.specs.declared.item.Item.{Item}
use Rattle.js_item.specs.declared.item.Item.TheVariants.{Undefined, Null, Bool, Number, Text, Symbol, List as Listed, Object}
use Rattle.eval_values.specs.Outcome.{texts_of}
use Rattle.js_item.specs.Seen.{seen}
use Rattle.js_item.specs.Fine.{IsFine}
use Rattle.eval_values.specs.Ran.{MeetsLedger}
use Rattle.eval_values.proofs.Compose.{ran_free, ran_of_text}

module _ {F R : Type 0} (s : State F) (name : R → ℕ) where
  -- each of known strings has a number
  texts_have : (rs : List R) → AllKnown s name rs → (u : List ℕ) (k : ℕ) → k < length (texts_seen s name rs) → slice_index_or (texts_seen s name rs) k u ≡ u → (n : ℕ) × NamesUnits s n u
  texts_have [] h u k l e = absurd (omega (arith, l))
  texts_have (r ∷ rs) h u zero l e = (name r, known_has s (name r) h.0 ∙ ap Some e)
  texts_have (r ∷ rs) h u (suc k) l e = texts_have rs h.1 u k (omega (arith, l)) e

  ran_texts : (rs : List R) → AllKnown s name rs → MeetsLedger s s (record { interned = []; texts = texts_seen s name rs; ids = 0; words = 0 })
  ran_texts rs h = record {
    grows = grows_refl s;
    history = (ran_free s).history;
    texts = λ u c. texts_have rs h u c.0 c.1 c.2;
    within_ids = omega arith;
    within_words = omega arith;
  }

  -- reading a value gives its strings, which are known, and needs nothing
  pub ran_seen : (v : Item R) → IsFine s name v → MeetsLedger s s (record { interned = []; texts = texts_of (seen s name v); ids = 0; words = 0 })
  ran_seen Undefined h = ran_free s
  ran_seen Null h = ran_free s
  ran_seen (Bool b) h = ran_free s
  ran_seen (Number n) h = ran_free s
  ran_seen (Text r) h = ran_of_text 0 0 (units_of s (name r)) (name r) (known_has s (name r) h) (step_refl s) refl (omega arith) (omega arith)
  ran_seen (Symbol r) h = ran_free s
  ran_seen (Listed v) h = ran_texts v.items h
  ran_seen (Object fs) h = ran_free s
