-- What is asked for to be run, by what the getters of the matches answer.
use Rattle.std.proofs.Common.{◌≡◌, ◌&&◌, ◌||◌, ◌<◌, ◌≤◌, ℕ, Bool, true, false, not, List, [], ◌∷◌, length, map, None, Some, refl, ap, sym, ◌∙◌, codes, is_some}
use Rattle.std.proofs.Common.{option_map, unwrap_or, arith, true≢false, if◌then◌else◌}
use Rattle.std.proofs.lemmas.Bool.{ne_eqb}
use Rattle.std.specs.declared.option.Option.{Option}
use Rattle.clap.specs.Walk.{is_empty}
use Rattle.clap.specs.Words.{Row, all_of, first_of, first_value, matched_of, raw_values, rows_of}
use Rattle.clap.specs.declared.parser.matches.Found.{Found}
use Rattle.clap.proofs.WalkLemmas.{first_value-rows, raw_values-rows}
use Rattle.run_command.specs.Words.{Asked, asked_in, files, files_in, generated_in, made_from, named_in, option_number}
use Rattle.std.specs.Prelude.{nat_le}

module _ (f : Found) where
  -- the words that name files are those that the matches have
  pub files_are : (given : List (List ℕ)) → Some given ≡ option_map raw_values (matched_of f (codes "FILE")) → files_in (rows_of f) ≡ given
  files_are given is = sym (ap (λ o. unwrap_or o []) (is ∙ raw_values-rows f (codes "FILE")))

  pub no_files : None ≡ option_map raw_values (matched_of f (codes "FILE")) → files_in (rows_of f) ≡ []
  no_files is = sym (ap (λ o. unwrap_or o []) (is ∙ raw_values-rows f (codes "FILE")))

  -- an option that has no value
  pub not_given : (id : List ℕ) → is_some (first_value f id) ≡ false → is_some (first_of id (rows_of f)) ≡ false
  not_given id none = ap is_some (sym (first_value-rows f id)) ∙ none

  pub is_given : (id : List ℕ) → is_some (first_value f id) ≡ true → is_some (first_of id (rows_of f)) ≡ true
  is_given id some = ap is_some (sym (first_value-rows f id)) ∙ some

too_few : (scripts : List (List ℕ)) → length scripts ≡ 0 → (nat_le 1 (length scripts) && nat_le (length scripts) 4096) ≡ false
too_few [] none = refl
too_few (f ∷ fs) none = absurd (omega (arith, none))

too_many : (scripts : List (List ℕ)) → 4096 < length scripts → (nat_le 1 (length scripts) && nat_le (length scripts) 4096) ≡ false
too_many scripts many = grind arith

some_files : (scripts : List (List ℕ)) → (length scripts ≡ 0 → ⊥) → length scripts ≤ 4096 → (nat_le 1 (length scripts) && nat_le (length scripts) 4096) ≡ true
some_files scripts some few = grind arith

abbrev named_by : Bool → Option (List ℕ) → List (List ℕ) → Option Asked
named_by some prelude scripts = if some then Some (files prelude scripts) else None

module _ (rows : List Row) (given : List (List ℕ)) (is : files_in rows ≡ given) where
  pub none_named : length given ≡ 0 → named_in rows ≡ None
  none_named none = ap (λ some. named_by some (first_of (codes "prelude") rows) (files_in rows))
      (ap (λ (scripts : List (List ℕ)). nat_le 1 (length scripts) && nat_le (length scripts) 4096) is ∙ too_few given none)

  pub too_many_named : 4096 < length given → named_in rows ≡ None
  too_many_named many = ap (λ some. named_by some (first_of (codes "prelude") rows) (files_in rows))
      (ap (λ (scripts : List (List ℕ)). nat_le 1 (length scripts) && nat_le (length scripts) 4096) is ∙ too_many given many)

  pub some_named : (prelude : Option (List ℕ)) → first_of (codes "prelude") rows ≡ prelude → (length given ≡ 0 → ⊥) → length given ≤ 4096 → named_in rows ≡ Some (files prelude given)
  some_named prelude prelude_is some few =
      ap (λ some. named_by some (first_of (codes "prelude") rows) (files_in rows))
      (ap (λ (scripts : List (List ℕ)). nat_le 1 (length scripts) && nat_le (length scripts) 4096) is ∙ some_files given some few)
      ∙ ap (λ p. Some (files p (files_in rows))) prelude_is ∙ ap (λ fs. Some (files prelude fs)) is

abbrev generated_by : Bool → Bool → Option ℕ → Option Asked
generated_by prelude some number = if prelude || some then None else option_map made_from number

no_list : (xs : List (List ℕ)) → length xs ≤ 0 → not (is_empty xs) ≡ false
no_list [] none = refl
no_list (x ∷ xs) none = absurd (omega (arith, none))

pub prelude_generates_none : (rows : List Row) → is_some (first_of (codes "prelude") rows) ≡ true → generated_in rows ≡ None
prelude_generates_none rows prelude = ap (λ p. generated_by p (not (is_empty (files_in rows))) (option_number 0 4294967295 (codes "generate") rows)) prelude

some_list : (xs : List (List ℕ)) → 0 < length xs → not (is_empty xs) ≡ true
some_list [] some = absurd (omega (arith, some))
some_list (x ∷ xs) some =
    let is : is_empty (x ∷ xs) ≡ false = ne_eqb _ _ (λ e. omega (arith, e)) in
    rw (is) refl

either : (prelude : Bool) (number : Option ℕ) → generated_by prelude true number ≡ None
either true number = refl
either false number = refl

pub files_generate_none : (rows : List Row) → 0 < length (files_in rows) → generated_in rows ≡ None
files_generate_none rows some =
    ap (λ s. generated_by (is_some (first_of (codes "prelude") rows)) s (option_number 0 4294967295 (codes "generate") rows)) (some_list (files_in rows) some)
    ∙ either (is_some (first_of (codes "prelude") rows)) (option_number 0 4294967295 (codes "generate") rows)

pub generates : (rows : List Row) (number : Option ℕ) → is_some (first_of (codes "prelude") rows) ≡ false → length (files_in rows) ≤ 0
    → option_number 0 4294967295 (codes "generate") rows ≡ number → generated_in rows ≡ option_map made_from number
generates rows number prelude none is =
    ap (λ p. generated_by p (not (is_empty (files_in rows))) (option_number 0 4294967295 (codes "generate") rows)) prelude
    ∙ ap (λ s. generated_by false s (option_number 0 4294967295 (codes "generate") rows)) (no_list (files_in rows) none) ∙ ap (option_map made_from) is

abbrev asked_by : Bool → Option Asked → Option Asked → Option Asked
asked_by given generated named = if given then generated else named

pub asked_named : (rows : List Row) → is_some (first_of (codes "generate") rows) ≡ false → asked_in rows ≡ named_in rows
asked_named rows none = ap (λ g. asked_by g (generated_in rows) (named_in rows)) none

pub asked_generated : (rows : List Row) → is_some (first_of (codes "generate") rows) ≡ true → asked_in rows ≡ generated_in rows
asked_generated rows some = ap (λ g. asked_by g (generated_in rows) (named_in rows)) some
