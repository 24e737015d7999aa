-- What the getters of the matches read of an option.
use Rattle.std.proofs.Common.{◌≡◌, ◌⊎◌, ◌≤◌, ◌≤ℤ◌, ◌<ℤ◌, ℕ, zero, suc, ℤ, pos, neg_ℤ, nat_abs, cond, w64, to_z, of_z, FitsSigned, Bool, true, false, List, None}
use Rattle.std.proofs.Common.{Some, Ok, Err, refl, ap, subst, sym, ◌∙◌, codes, unwrap_or, arith, true≢false, if◌then◌else◌}
use Rattle.std.specs.declared.option.Option.{Option}
use Rattle.std.specs.Prelude.{Result, option_and_then}
use Rattle.std.specs.Result.{result_ok}
use Rattle.std.specs.Option.{option_map_or}
use Rattle.std.specs.Str.{bytes_eq}
use Rattle.std.specs.Str.Parse.{ParsesBool, ParsesSigned, digits_value, signed_digits_value, starts_with_minus, true_text, without_leading_sign}
use Rattle.std.proofs.lemmas.Int.{to_z-of_z}
use Rattle.std.proofs.lemmas.Slice.Eq.{bytes_eq-Decides}
use Rattle.clap.specs.Matches.{ReadsOne, first_value, one_text}
use Rattle.clap.specs.Values.{IsSignedIn}
use Rattle.clap.specs.ValueTests.{is_signed_in}
use Rattle.clap.specs.Words.{Text, one_of, rows_of}
use Rattle.clap.specs.declared.builder.value_parser.ValueParser.TheVariants as parser
use Rattle.clap.specs.declared.parser.matches.Found.{Found}
use Rattle.clap.proofs.ValueTestLemmas.{Accepts-accepts, accepts-Accepts}
use Rattle.clap.proofs.WalkLemmas.{first_value-rows, one_text-rows}
use Rattle.run_command.specs.Words.{option_number, number_in}

none≢some : {T : Type 0} (x : T) → ◌≡◌ {A = Option T} None (Some x) → ⊥
none≢some x is = cc

no_value : (z : ℤ) → ◌≡◌ {A = Option ℤ} None (Some z) → ⊥
no_value z is = none≢some z is

no_number : (least most : ℕ) (text : Text) → (IsSignedIn (pos least) (pos most) text → ⊥) → number_in least most text ≡ None
no_number least most text not = go (is_signed_in (pos least) (pos most) text) refl
  where
    go : (b : Bool) → is_signed_in (pos least) (pos most) text ≡ b → number_in least most text ≡ None
    go true is = absurd (not (accepts-Accepts false (parser.Signed (pos least) (pos most)) text is))
    go false is = rw (is) refl

a_number : (least most : ℕ) (text : Text) → IsSignedIn (pos least) (pos most) text → number_in least most text ≡ Some (digits_value 10 (without_leading_sign text))
a_number least most text is = rw (Accepts-accepts false (parser.Signed (pos least) (pos most)) text is) refl

-- a number without its sign is what the digits write
signless : (b : Bool) (d : ℕ) → nat_abs (cond b (neg_ℤ (pos d)) (pos d)) ≡ d
signless true zero = refl
signless true (suc d) = refl
signless false d = refl

module _ (least most : ℕ) (f : Found) (id : Text) where
  -- what an option spells is what its first value spells
  of_text : (o : Option Text) (r : Option ℕ) → o ≡ first_value f id → option_and_then (number_in least most) o ≡ r → option_number least most id (rows_of f) ≡ r
  of_text o r given is = ap (option_and_then (number_in least most)) (sym (given ∙ first_value-rows f id)) ∙ is

  pub number_not_given : None ≡ first_value f id → option_number least most id (rows_of f) ≡ None
  number_not_given given = of_text None None given refl

  module _ (text : Text) (given : Some text ≡ first_value f id) where
    module _ {E : Type 0} where
      pub number_unread : (x : Result ℤ E) → ParsesSigned w64 10 text x → None ≡ result_ok x → option_number least most id (rows_of f) ≡ None
      number_unread (Ok z) parsed none = absurd (no_value z none)
      number_unread (Err e) parsed none = of_text (Some text) None given (no_number least most text (λ is. parsed (is.0, is.1)))

      parsed_to : (z : ℤ) (x : Result ℤ E) → ParsesSigned w64 10 text x → Some z ≡ result_ok x → ParsesSigned {E = E} w64 10 text (Ok z)
      parsed_to z (Ok m) parsed is = subst (λ k. ParsesSigned {E = E} w64 10 text (Ok k)) (sym (ap (λ o. unwrap_or o z) is)) parsed
      parsed_to z (Err e) parsed is = absurd (no_value z (sym is))

      pub number_outside : (z : ℤ) (x : Result ℤ E) → ParsesSigned w64 10 text x → Some z ≡ result_ok x → (z <ℤ pos least) ⊎ (pos most <ℤ z) → option_number least most id (rows_of f) ≡ None
      number_outside z x parses is out =
          let parsed = parsed_to z x parses is in
          of_text (Some text) None given (no_number least most text (λ is. grind (arith, out, parsed.1, is.2, is.3)))

      pub number_inside : (z : ℤ) (x : Result ℤ E) → ParsesSigned w64 10 text x → Some z ≡ result_ok x → pos least ≤ℤ z → z ≤ℤ pos most →
          option_number least most id (rows_of f) ≡ Some (nat_abs (to_z w64 (of_z w64 z)))
      number_inside z x parses is low high =
          let parsed = parsed_to z x parses is in
          let value : z ≡ signed_digits_value 10 text = parsed.1 in
          let read : number_in least most text ≡ Some (digits_value 10 (without_leading_sign text)) = a_number least most text
          (parsed.0.0, parsed.0.1, subst (λ (k : ℤ). pos least ≤ℤ k) value low, subst (λ (k : ℤ). k ≤ℤ pos most) value high) in
          let same : nat_abs (to_z w64 (of_z w64 z)) ≡ nat_abs z = ap nat_abs (to_z-of_z w64 z (subst (λ (k : ℤ). FitsSigned w64 k) (sym value) parsed.0.1)) in
          of_text (Some text) (Some (nat_abs (to_z w64 (of_z w64 z)))) given
          (read ∙ ap Some (sym (same ∙ ap nat_abs value ∙ signless (starts_with_minus text) (digits_value 10 (without_leading_sign text)))))

-- whether a flag was given
abbrev pub is_true : Option Text → Bool
is_true text = option_map_or (λ t. bytes_eq t (codes "true")) text false

not_true : (text : Text) → (text ≡ true_text → ⊥) → bytes_eq text (codes "true") ≡ false
not_true text other = go (bytes_eq text (codes "true")) refl
  where
    go : (b : Bool) → bytes_eq text (codes "true") ≡ b → bytes_eq text (codes "true") ≡ false
    go true is = absurd (other ((bytes_eq-Decides text (codes "true")).0 is))
    go false is = is

pub flag_read : (E : Type 0) (f : Found) (id : Text) (r : Option Bool) → (one_text f id ≡ None → r ≡ None) → ((t : Text) → one_text f id ≡ Some t → ReadsOne (ParsesBool {E = E}) t r)
    → unwrap_or r false ≡ is_true (one_of id (rows_of f))
flag_read E f id r none reads = go (one_text f id) r none reads ∙ ap is_true (one_text-rows f id)
  where
    go : (o : Option Text) (r : Option Bool) → (o ≡ None → r ≡ None) → ((t : Text) → o ≡ Some t → ReadsOne (ParsesBool {E = E}) t r) → unwrap_or r false ≡ is_true o
    go None r none reads = ap (λ s. unwrap_or s false) (none refl)
    go (Some t) (Some true) none reads = sym ((bytes_eq-Decides t (codes "true")).1 (reads t refl))
    go (Some t) (Some false) none reads =
        let is = reads t refl in
        rw (is) refl
    go (Some t) None none reads = sym (not_true t (reads t refl).1.0)
