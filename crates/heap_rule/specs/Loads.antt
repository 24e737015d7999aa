-- Loading a header word and loading a content word.
use Rattle.std.specs.Prelude.{ℕ, ◌+◌, ◌-◌, ◌^◌, ◌⊎◌, if◌then◌else◌, min, Option, Some, None}
use Rattle.std.specs.Ordering.{nat_cmp}
use Rattle.std.specs.FinMap.{FinMap, insert, contains_key}
use Rattle.js_header.specs.Form.{form_of}
use Rattle.js_header.specs.declared.form.Form.{Form}
use Rattle.js_header.specs.declared.form.Form.TheVariants.{Cons, Sliced, Thin}
use Rattle.heap_rule.specs.declared.view.View.{View}
use Rattle.heap_rule.specs.Maps.{HasKey}
use Rattle.heap_rule.specs.Views.{IsFrozen}

-- the ids that a form names are met
abbrev pub met_ids : FinMap nat_cmp (Unit {0}) → Form → FinMap nat_cmp (Unit {0})
met_ids m (Cons wide left right) = insert (insert m left tt) right tt
met_ids m (Sliced wide parent offset) = insert m parent tt
met_ids m (Thin target) = insert m target tt
met_ids m _ = m

-- the string i was seen with this form, if the word is one of a form; the ids that it names are met
abbrev pub with_form : View → ℕ → Option Form → View
with_form v i None = v
with_form v i (Some f) = record v { forms = insert v.forms i f; met = met_ids v.met f }

-- a count of loads stops at the end of its type
abbrev pub added_loads : ℕ → ℕ → ℕ
added_loads a b = min (a + b) (2 ^ 64 - 1)

-- loading the form word of a known string
abbrev pub loaded_form : View → ℕ → ℕ → View
loaded_form v i x = let w : View = with_form v i (form_of x)
    in record w { form_loads = added_loads v.form_loads 1 }

-- loading its length
abbrev pub loaded_length : View → ℕ → ℕ → View
loaded_length v i x = record v { lengths = insert v.lengths i x }

-- loading a content word, own or known to be frozen
abbrev pub MayLoadWord : View → ℕ → Type 0
MayLoadWord v c = HasKey v.own_words c ⊎ IsFrozen v c

-- a content word was loaded: one that isn't own is known to be frozen with this word
abbrev pub loaded_word : View → ℕ → ℕ → View
loaded_word v c x = if contains_key v.own_words c then v else record v { frozen = insert v.frozen c x }
