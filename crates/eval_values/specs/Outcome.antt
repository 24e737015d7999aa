-- What an evaluation comes to: a value, or what ended the script, beside a ledger of what it interned,
-- made and needs.
-- The values of the profile are those of `js_item` (ECMA-262, "ECMAScript Language Types"): a string is its
-- list of units, a symbol, which is always a registered one, its key, an array, whose elements are all
-- strings, the list of these, and an object the list of its members.
use Rattle.std.specs.Prelude.{ℕ, ◌+◌, List, [], ◌∷◌, ◌++◌, nat_le, if◌then◌else◌, pos}
use Rattle.js_number.specs.declared.Num.TheVariants.{Int}
use Rattle.js_item.specs.Contents.{undefined, number, text, list}
use Rattle.js_item.specs.Seen.{Val}
use Rattle.eval_values.specs.declared.value.Kind.{Kind}
use Rattle.eval_values.specs.Need.{Row, ids_in, words_in}

-- `interned`: the lists that were interned, in order; `texts`: the strings that expressions gave;
-- `ids`, `words`: what the evaluation needs of a store at most
pub record Ledger : Type 0 where
  pub interned : List (List ℕ)
  pub texts : List (List ℕ)
  pub ids : ℕ
  pub words : ℕ

abbrev pub free : Ledger
free = record { interned = []; texts = []; ids = 0; words = 0 }

abbrev pub both : Ledger → Ledger → Ledger
both l m = record {
  interned = l.interned ++ m.interned;
  texts = l.texts ++ m.texts;
  ids = l.ids + m.ids;
  words = l.words + m.words;
}

-- what ends a script early: a throw completion, or a place that the profile leaves out
pub data Ending : Type 0 where
  threw : Kind → Ending
  unsupported : ℕ → Ending

-- a conversion that makes nothing comes to a value, or it ends the script
pub data Converted (A : Type 0) : Type 0 where
  into : A → Converted A
  fails : Ending → Converted A

pub data Out (A : Type 0) : Type 0 where
  gave : A → Ledger → Out A
  ended : Ending → Ledger → Out A

abbrev pub after_ledger : {A : Type 0} → Ledger → Out A → Out A
after_ledger l (gave x m) = gave x (both l m)
after_ledger l (ended e m) = ended e (both l m)

-- one evaluation, and then another one that has its value; an end is handed on (ECMA-262, "ReturnIfAbrupt")
abbrev pub bind : {A B : Type 0} → Out A → (A → Out B) → Out B
bind (gave x l) go = after_ledger l (go x)
bind (ended e l) go = ended e l

abbrev pub ledger_of : {A : Type 0} → Out A → Ledger
ledger_of (gave x l) = l
ledger_of (ended e l) = l

-- the value of an evaluation, and another one that is made of it at no cost
abbrev pub mapped : {A B : Type 0} → (A → B) → Out A → Out B
mapped f (gave x l) = gave (f x) l
mapped f (ended e l) = ended e l

-- the same evaluation of each element, from left to right
abbrev pub each : {X A : Type 0} → (X → Out A) → List X → Out (List A)
each f [] = gave [] free
each f (x ∷ xs) = bind (f x) (λ a. mapped (λ ys. a ∷ ys) (each f xs))

-- the strings that a value is or that it has as elements
abbrev pub texts_of : Val → List (List ℕ)
texts_of (text u) = u ∷ []
texts_of (list us) = us
texts_of _ = []

-- a number as it is written, or a count of elements; no source text spells one past the range,
-- and no array has as many
abbrev pub number_of : ℕ → Val
number_of n = if nat_le n 9007199254740991 then number (Int (pos n)) else undefined

-- what an operation of this row needs
abbrev pub cost : Row → Ledger
cost row = record { interned = []; texts = []; ids = ids_in row; words = words_in row }

-- the same, with a list that is interned
abbrev pub interning : Row → List ℕ → Ledger
interning row u = record (cost row) { interned = u ∷ [] }

-- the value of an expression by such an operation
abbrev pub needing : Row → Val → Out Val
needing row v = gave v (record (cost row) { texts = texts_of v })

abbrev pub throwing : {A : Type 0} → Row → Kind → Out A
throwing row k = ended (threw k) (cost row)

-- the place can't be evaluated in the profile
abbrev pub refuses : {A : Type 0} → ℕ → Out A
refuses at = ended (unsupported at) free

-- a conversion within an operation, and then what has its value; where it throws, the operands count, by this
-- row
abbrev pub converts : {A B : Type 0} → Row → Converted A → (A → Out B) → Out B
converts row (into x) go = go x
converts row (fails (threw k)) go = throwing row k
converts row (fails (unsupported at)) go = refuses at

-- the same where the conversion makes a string
abbrev pub converting : {A B : Type 0} → Row → Out A → (A → Out B) → Out B
converting row (gave x l) go = after_ledger l (go x)
converting row (ended (threw k) l) go = ended (threw k) (both l (cost row))
converting row (ended (unsupported at) l) go = ended (unsupported at) l
