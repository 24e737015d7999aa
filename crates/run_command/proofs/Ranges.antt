-- Every request of lawful words is in its ranges.
use Rattle.std.proofs.Common.{◌≡◌, ◌&&◌, ◌||◌, ◌+◌, ◌<◌, ◌≤◌, ◌^◌, ◌≤ℤ◌, ℕ, zero, suc, pos, negsuc, neg_ℤ, cond, Bool, true, false, not, List, length, None}
use Rattle.std.proofs.Common.{Some, refl, ap, sym, ◌∙◌, codes, is_some, option_map, unwrap_or, arith, subst, if◌then◌else◌}
use Rattle.std.proofs.lemmas.Bool.{leb-true}
use Rattle.std.proofs.lemmas.Int.{ints}
use Rattle.std.specs.declared.option.Option.{Option}
use Rattle.std.specs.Prelude.{nat_le, option_and_then}
use Rattle.std.specs.Str.Parse.{digits_value, starts_with_minus, without_leading_sign}
use Rattle.clap.specs.Walk.{is_empty}
use Rattle.clap.specs.ValueTests.{is_signed_in}
use Rattle.clap.specs.Words.{Row, Text, first_of}
use Rattle.clap.specs.declared.builder.value_parser.ValueParser.TheVariants as parser
use Rattle.clap.proofs.ValueTestLemmas.{accepts-Accepts}
use Rattle.clap.proofs.WalkLemmas.{both}
use Rattle.js_store.specs.declared.limit.Limit.{Limit}
use Rattle.run_command.specs.declared.plan.Sizes.{Sizes}
use Rattle.run_command.specs.Words.{Asked, IsRequestInRange, IsSomeFiles, Request, asked_in, files, files_in, generated_in, limit_in, made_from, named_in}
use Rattle.run_command.specs.Words.{option_number, request_by, request_in, sizes_by, sizes_in, summary_in, number_in}

none≢some : {T : Type 0} (x : T) → ◌≡◌ {A = Option T} None (Some x) → ⊥
none≢some x is = cc

same : {T : Type 0} (x y : T) → ◌≡◌ {A = Option T} (Some x) (Some y) → x ≡ y
same x y is = ap (λ o. unwrap_or o x) is

-- the digits of a number that is at least `least` and at most `most`
digits_between : (b : Bool) (d least most : ℕ) → pos least ≤ℤ cond b (neg_ℤ (pos d)) (pos d) → cond b (neg_ℤ (pos d)) (pos d) ≤ℤ pos most → (least ≤ d) × (d ≤ most)
digits_between true zero least most low high =
    let low' : pos least ≤ℤ pos zero = low in
    let high' : pos zero ≤ℤ pos most = high in
    (grind (arith, ints, low'), grind (arith, ints, high'))
digits_between true (suc d) least most low high =
    let low' : pos least ≤ℤ negsuc d = low in
    absurd (grind (arith, ints, low'))
digits_between false d least most low high =
    let low' : pos least ≤ℤ pos d = low in
    let high' : pos d ≤ℤ pos most = high in
    (grind (arith, ints, low'), grind (arith, ints, high'))

number_between : (least most : ℕ) (text : Text) (n : ℕ) → number_in least most text ≡ Some n → (least ≤ n) × (n ≤ most)
number_between least most text n is = go (is_signed_in (pos least) (pos most) text) refl
  where
    go : (b : Bool) → is_signed_in (pos least) (pos most) text ≡ b → (least ≤ n) × (n ≤ most)
    go false fails =
        let none : None ≡ Some n = rw fails at is in
        absurd (none≢some n none)
    go true holds =
        let value = same (digits_value 10 (without_leading_sign text)) n (rw holds at is) in
        let between = accepts-Accepts false (parser.Signed (pos least) (pos most)) text holds in
        subst (λ (k : ℕ). (least ≤ k) × (k ≤ most)) value (digits_between (starts_with_minus text) (digits_value 10 (without_leading_sign text)) least most between.2 between.3)

option_between : (least most : ℕ) (text : Option Text) (n : ℕ) → option_and_then (number_in least most) text ≡ Some n → (least ≤ n) × (n ≤ most)
option_between least most None n is = absurd (none≢some n is)
option_between least most (Some text) n is = number_between least most text n is

between : (least most : ℕ) (id : Text) (rows : List Row) (n : ℕ) → option_number least most id rows ≡ Some n → (least ≤ n) × (n ≤ most)
between least most id rows n is = option_between least most (first_of id rows) n is

-- ---- what is run

named_some : (rows : List Row) (asked : Asked) → named_in rows ≡ Some asked → IsSomeFiles asked
named_some rows asked is = go (nat_le 1 (length (files_in rows)) && nat_le (length (files_in rows)) 4096) refl
  where
    at : (prelude : Option (List ℕ)) (scripts : List (List ℕ)) → (nat_le 1 (length scripts) && nat_le (length scripts) 4096) ≡ true → IsSomeFiles (files prelude scripts)
    at prelude scripts some =
        let parts = both _ _ some in
        (leb-true _ _ parts.0, leb-true _ _ parts.1)

    go : (b : Bool) → (nat_le 1 (length (files_in rows)) && nat_le (length (files_in rows)) 4096) ≡ b → IsSomeFiles asked
    go false fails =
        let none : None ≡ Some asked = rw fails at is in
        absurd (none≢some asked none)
    go true holds = subst IsSomeFiles (same (files (first_of (codes "prelude") rows) (files_in rows)) asked (rw holds at is)) (at (first_of (codes "prelude") rows) (files_in rows) holds)

made_some : (rows : List Row) (number : Option ℕ) (asked : Asked) → ((n : ℕ) → number ≡ Some n → n < 2 ^ 32) → option_map made_from number ≡ Some asked → IsSomeFiles asked
made_some rows None asked small is = absurd (none≢some asked is)
made_some rows (Some n) asked small is = subst IsSomeFiles (same (made_from n) asked is) (small n refl)

generated_some : (rows : List Row) (asked : Asked) → generated_in rows ≡ Some asked → IsSomeFiles asked
generated_some rows asked is = go (is_some (first_of (codes "prelude") rows) || not (is_empty (files_in rows))) refl
  where
    go : (b : Bool) → (is_some (first_of (codes "prelude") rows) || not (is_empty (files_in rows))) ≡ b → IsSomeFiles asked
    go true fails =
        let none : None ≡ Some asked = rw fails at is in
        absurd (none≢some asked none)
    go false holds = made_some rows (option_number 0 4294967295 (codes "generate") rows) asked (λ n number. omega (arith, (between 0 4294967295 (codes "generate") rows n number).1)) (rw holds at is)

asked_some : (rows : List Row) (asked : Asked) → asked_in rows ≡ Some asked → IsSomeFiles asked
asked_some rows asked is = go (is_some (first_of (codes "generate") rows)) refl
  where
    go : (b : Bool) → is_some (first_of (codes "generate") rows) ≡ b → IsSomeFiles asked
    go true given = generated_some rows asked (rw given at is)
    go false not_given = named_some rows asked (rw not_given at is)

-- ---- sizes

pub record AreInRange (sizes : Sizes) : Type 0 where
  pub ids : (1 ≤ sizes.ids) × (sizes.ids ≤ 536870911)
  pub heap_words : (1 ≤ sizes.heap_words) × (sizes.heap_words ≤ 536870911)
  pub slots : (1 ≤ sizes.slots) × (sizes.slots ≤ 536870911)
  pub together : sizes.ids + sizes.heap_words + sizes.slots ≤ 536870912

sizes_between : (ids heap_words slots : Option ℕ) (sizes : Sizes) → ((n : ℕ) → ids ≡ Some n → (1 ≤ n) × (n ≤ 536870911)) → ((n : ℕ) → heap_words ≡ Some n → (1 ≤ n) × (n ≤ 536870911))
    → ((n : ℕ) → slots ≡ Some n → (1 ≤ n) × (n ≤ 536870911)) → sizes_by ids heap_words slots ≡ Some sizes → AreInRange sizes
sizes_between None heap_words slots sizes i h s is = absurd (none≢some sizes is)
sizes_between (Some ids) None slots sizes i h s is = absurd (none≢some sizes is)
sizes_between (Some ids) (Some heap_words) None sizes i h s is = absurd (none≢some sizes is)
sizes_between (Some ids) (Some heap_words) (Some slots) sizes i h s is = go (nat_le (ids + heap_words + slots) 536870912) refl
  where
    go : (b : Bool) → nat_le (ids + heap_words + slots) 536870912 ≡ b → AreInRange sizes
    go false fails =
        let none : None ≡ Some sizes = rw fails at is in
        absurd (none≢some sizes none)
    go true holds =
        let made : Sizes = record { ids = ids; heap_words = heap_words; slots = slots } in
        subst AreInRange (same made sizes (rw holds at is)) (record { ids = i ids refl; heap_words = h heap_words refl; slots = s slots refl; together = leb-true _ _ holds })

-- ---- the whole

request_between : (asked : Asked) (jobs : Option ℕ) (sizes : Option Sizes) (limit : Option Limit) (summary : Bool) (request : Request) → IsSomeFiles asked
    → ((n : ℕ) → jobs ≡ Some n → (1 ≤ n) × (n ≤ 64)) → ((s : Sizes) → sizes ≡ Some s → AreInRange s) → request_by asked jobs sizes limit summary ≡ Some request → IsRequestInRange request
request_between asked None sizes limit summary request some j s is = absurd (none≢some request is)
request_between asked (Some jobs) None limit summary request some j s is = absurd (none≢some request is)
request_between asked (Some jobs) (Some sizes) None summary request some j s is = absurd (none≢some request is)
request_between asked (Some jobs) (Some sizes) (Some limit) summary request some j s is =
    let made : Request = record { asked = asked; jobs = jobs; sizes = sizes; summary = summary; limit = limit } in
    let held = s sizes refl in
    let fine : IsRequestInRange made = record { files = some; jobs = j jobs refl; ids = held.ids; heap_words = held.heap_words; slots = held.slots; together = held.together } in
    subst IsRequestInRange (same made request is) fine

pub in_range : (rows : List Row) (request : Request) → request_in rows ≡ Some request → IsRequestInRange request
in_range rows request is = go (asked_in rows) refl
  where
    size : (id : Text) (n : ℕ) → option_number 1 536870911 id rows ≡ Some n → (1 ≤ n) × (n ≤ 536870911)
    size id n is = between 1 536870911 id rows n is

    go : (o : Option Asked) → asked_in rows ≡ o → IsRequestInRange request
    go None none =
        let fails : None ≡ Some request = rw none at is in
        absurd (none≢some request fails)
    go (Some asked) some =
        request_between asked (option_number 1 64 (codes "jobs") rows) (sizes_in rows) (limit_in rows) (summary_in rows) request (asked_some rows asked some) (between 1 64 (codes "jobs") rows)
        (λ s given. sizes_between _ _ _ s (size (codes "ids")) (size (codes "heap-words")) (size (codes "slots")) given) (rw some at is)
