-- The same for each kind of value that the code's functions give.
use Rattle.std.specs.Prelude.{ℕ, ◌+◌, List, [], ◌∷◌, Result}
use Rattle.std.proofs.Common.{Vec, Global}
use Rattle.js_store.specs.State.{State, IsKnown, text as units_of}
use Rattle.js_store.specs.Rows.{wide_words}
use Rattle.js_item.specs.declared.item.Item.{Item}
use Rattle.eval_values.specs.declared.value.Stop.{Stop}
use Rattle.js_item.specs.Seen.{Val, seen}
use Rattle.eval_values.specs.Outcome.{Out}
use Rattle.eval_values.specs.Conversions.{text_units}
use Rattle.js_texts.specs.Texts.{known_texts as texts_seen, AllKnown}
use Rattle.js_item.specs.Fine.{IsFine}
use Rattle.eval_values.specs.Seen.{all_seen, AllFine}
use Rattle.eval_values.specs.Ran.{ComesTo}

abbrev pub GivesValue : {F R : Type 0} → (R → ℕ) → State F → State F → Result (Item R) Stop → Out Val → Type 0
GivesValue name a b r o = ComesTo a b (λ s v. seen s name v) (λ s v. IsFine s name v) r o

abbrev pub GivesText : {F R : Type 0} → (R → ℕ) → State F → State F → Result R Stop → Out (List ℕ) → Type 0
GivesText name a b r o = ComesTo a b (λ s v. units_of s (name v)) (λ s v. IsKnown s (name v)) r o

abbrev pub GivesValues : {F R : Type 0} → (R → ℕ) → State F → State F → Result (Vec (Item R) Global) Stop
    → Out (List Val) → Type 0
GivesValues name a b r o = ComesTo a b (λ s v. all_seen s name v.items) (λ s v. AllFine s name v.items) r o

abbrev pub GivesTexts : {F R : Type 0} → (R → ℕ) → State F → State F → Result (Vec R Global) Stop
    → Out (List (List ℕ)) → Type 0
GivesTexts name a b r o = ComesTo a b (λ s v. texts_seen s name v.items) (λ s v. AllKnown s name v.items) r o

-- a result that is no value of the language
abbrev pub GivesPlain : {F A : Type 0} → State F → State F → Result A Stop → Out A → Type 0
GivesPlain a b r o = ComesTo a b (λ s v. v) (λ s v. Unit {0}) r o

-- what settling the strings of values uses at most
abbrev pub string_words : List Val → ℕ
string_words [] = 0
string_words (v ∷ vs) = wide_words (text_units v) + string_words vs
