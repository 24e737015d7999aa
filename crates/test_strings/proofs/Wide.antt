-- A string of four units in two-byte lanes, which fill one word.
use Rattle.std.proofs.Common.{◌≡◌, ℕ, ◌^◌, ◌<◌, true, false, subst, arith, inl}
use Rattle.std.specs.FinMap.{get, insert}
use Rattle.std.specs.Prelude.{unwrap_or}
use Rattle.js_header.specs.declared.form.Form.{Form}
use Rattle.js_header.specs.declared.form.Form.TheVariants.{Flat}
use Rattle.heap_rule.specs.declared.view.View.{View}
use Rattle.heap_rule.specs.declared.size.Counter.TheVariants.{Ids, Words}
use Rattle.heap_rule.specs.Births.{MayBear, born, stored_length, stored_word, units_for}
use Rattle.heap_rule.specs.Claims.{won_claim}
use Rattle.heap_rule.specs.Maps.{HasKey}
use Rattle.heap_rule.specs.Views.{IsSeenSettled}
use Rattle.heap_rule.proofs.MapLemmas.{insert_same, key_of}

pub word_own : (v : View) (start : ℕ) → HasKey (won_claim v Words start 1).own_words start
word_own v start = key_of (insert v.own_words start 0) start 0 (insert_same v.own_words start 0)

pub id_own : (v : View) (id : ℕ) → HasKey (won_claim v Ids id 1).own_ids id
id_own v id = key_of (insert v.own_ids id 0) id 0 (insert_same v.own_ids id 0)

-- a word and an id were claimed, and both were stored to
abbrev pub ready : View → ℕ → ℕ → ℕ → View
ready v start word id = stored_length (won_claim (stored_word (won_claim v Words start 1) start word) Ids id 1) id 4

pub wide_fits : (v : View) (start word id : ℕ) → start < 2 ^ 29 → MayBear (ready v start word id) id (Flat true start false)
wide_fits v start word id l = (
  4,
  insert_same (insert v.own_ids id 0) id 4,
  (
    l,
    (λ c a b. inl (let e : start ≡ c = omega arith in subst (λ (x : ℕ). HasKey (insert (insert v.own_words start 0) start word) x) e
        (key_of (insert (insert v.own_words start 0) start word) start word (insert_same (insert v.own_words start 0) start word)))),
    (λ o a b. absurd (omega arith)),
    (λ e. absurd (omega arith)),
  ),
)

pub wide_known : (v : View) (id : ℕ) (f : Form) → HasKey (born v id f).units id
wide_known v id f = key_of (insert v.units id (units_for v (unwrap_or (get v.own_ids id) 0) f)) id
    (units_for v (unwrap_or (get v.own_ids id) 0) f) (insert_same v.units id (units_for v (unwrap_or (get v.own_ids id) 0) f))

pub wide_settled : (v : View) (id start : ℕ) → IsSeenSettled (born v id (Flat true start false)) id
wide_settled v id start = (Flat true start false, insert_same v.forms id (Flat true start false), λ x. x)
