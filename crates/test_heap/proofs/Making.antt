-- What is needed for strings of eight units, ropes of two of them, and their flattening.
use Rattle.std.proofs.Common.{◌≡◌, ℕ, suc, ◌+◌, ◌^◌, ◌<◌, ◌≤◌, inl, Bool, true, false, cond, List, [], ◌++◌, length, sym, refl, ap, ◌∙◌, subst, arith, ne_eqb, Option, Some, None}
use Rattle.std.specs.Prelude.{unwrap_or}
use Rattle.std.proofs.lemmas.List.Elements.{All-append}
use mathlib.Core.Logic.{dite}
use native.Mathlib.Decide.{ℕ_discrete}
use Rattle.std.specs.Ordering.{nat_cmp}
use Rattle.std.specs.FinMap.{FinMap, get, insert}
use Rattle.js_header.specs.Form.{form_of, word_of}
use Rattle.js_header.specs.declared.form.Form.{Form}
use Rattle.js_header.specs.declared.form.Form.TheVariants.{Flat, Cons}
use Rattle.heap_rule.specs.declared.view.View.{View}
use Rattle.heap_rule.specs.declared.size.Counter.TheVariants.{Ids, Words}
use Rattle.heap_rule.specs.Births.{MayBear, born, freeze_form, stored_length, stored_word, units_for}
use Rattle.heap_rule.specs.Claims.{won_claim}
use Rattle.heap_rule.specs.Contents.{span}
use Rattle.heap_rule.specs.Forms.{IsCons, IsNarrow}
use Rattle.heap_rule.specs.HeaderMoves.{MayFlatten, MayThin, flattened, seen_form}
use Rattle.heap_rule.specs.Learning.{learned_all}
use Rattle.heap_rule.specs.Maps.{Has, HasKey}
use Rattle.heap_rule.specs.Paths.{rank}
use Rattle.heap_rule.specs.Slots.{MayTakeSlot}
use Rattle.heap_rule.specs.Views.{shown_word}
use Rattle.heap_rule.proofs.Birth.{narrow_span}
use Rattle.heap_rule.proofs.MapLemmas.{insert_other, insert_same, key_of}
use Rattle.heap_table.specs.declared.stores.Step.{Step}
use Rattle.heap_table.specs.declared.stores.Step.TheVariants.{Won, Lost}
use Rattle.heap_table.specs.Headers.{IsMoved, header_found}
use Rattle.test_heap.specs.Ropes.{IsLost, bytes_of}
use Rattle.test_heap.proofs.Words.{low_span, two_words}

pub word_own : (v : View) (start : ℕ) → HasKey (won_claim v Words start 1).own_words start
word_own v start = key_of (insert v.own_words start 0) start 0 (insert_same v.own_words start 0)

pub id_own : (v : View) (id : ℕ) → HasKey (won_claim v Ids id 1).own_ids id
id_own v id = key_of (insert v.own_ids id 0) id 0 (insert_same v.own_ids id 0)

-- a word and an id were claimed, and both were stored to
abbrev pub ready : View → ℕ → ℕ → ℕ → View
ready v start word id = stored_length (won_claim (stored_word (won_claim v Words start 1) start word) Ids id 1) id 8

module _ (v : View) (start word id : ℕ) where
  abbrev y : View
  y = ready v start word id

  word_there : Has y.own_words start word
  word_there = insert_same (insert v.own_words start 0) start word

  pub eight_fits : (fixed : Bool) → start < 2 ^ 29 → MayBear (ready v start word id) id (Flat false start fixed)
  eight_fits fixed l = (
    8,
    insert_same (insert v.own_ids id 0) id 8,
    (
      l,
      (λ c a b. inl (let e : start ≡ c = omega arith in subst (λ (x : ℕ). HasKey y.own_words x) e
          (key_of y.own_words start word word_there))),
      (λ o a b. absurd (omega arith)),
      (λ e. absurd (omega arith)),
    ),
  )

  pub eight_units : (fixed : Bool) → Has (born (ready v start word id) id (Flat false start fixed)).units id (bytes_of word)
  eight_units fixed = let f : Form = Flat false start fixed in let n : unwrap_or (get y.own_ids id) 0 ≡ 8 = ap (λ (o : Option ℕ). unwrap_or o 0) (insert_same (insert v.own_ids id 0) id 8) in
      let here : shown_word y start ≡ word = ap (λ (o : Option ℕ). unwrap_or o (unwrap_or (get v.frozen start) 0)) word_there in
      insert_same v.units id (units_for y (unwrap_or (get y.own_ids id) 0) f)
      ∙ ap Some (ap (λ (m : ℕ). span (shown_word y) false start 0 m) n ∙ (low_span (shown_word y) start 0 8 (omega arith) ∙ ap bytes_of here))

  pub eight_form : (fixed : Bool) → Has (born (ready v start word id) id (Flat false start fixed)).forms id (Flat false start fixed)
  eight_form fixed = insert_same v.forms id (Flat false start fixed)

-- an id was claimed, and its length stored
abbrev pub joint : View → ℕ → View
joint v id = stored_length (won_claim v Ids id 1) id 16

module _ (v : View) (id left right a b : ℕ) (first : Has v.units left (bytes_of a)) (second : Has v.units right (bytes_of b)) where
  narrow : IsNarrow false (bytes_of a ++ bytes_of b)
  narrow = All-append (λ (u : ℕ). u < 256) (bytes_of a) (bytes_of b) (narrow_span (λ _. a) false 0 0 8) (narrow_span (λ _. b) false 0 0 8)

  pub cons_fits : left < id → right < id → MayBear (joint v id) id (Cons false left right)
  cons_fits l r = (16, insert_same (insert v.own_ids id 0) id 16, (l, r, omega arith, (bytes_of a, bytes_of b, first, second, omega arith, omega arith, refl, narrow)))

  pub cons_units : Has (born (joint v id) id (Cons false left right)).units id (bytes_of a ++ bytes_of b)
  cons_units = insert_same v.units id (unwrap_or (get v.units left) [] ++ unwrap_or (get v.units right) []) ∙ ap Some (λ i. unwrap_or (first i) [] ++ unwrap_or (second i) [])

  pub cons_form : Has (born (joint v id) id (Cons false left right)).forms id (Cons false left right)
  cons_form = insert_same v.forms id (Cons false left right)

-- two words were claimed, and both were stored to
abbrev pub laid : View → ℕ → ℕ → ℕ → View
laid v start a b = stored_word (stored_word (won_claim v Words start 2) start a) (start + 1) b

pub first_claimed : (v : View) (start : ℕ) → HasKey (won_claim v Words start 2).own_words start
first_claimed v start = let m : FinMap nat_cmp ℕ = insert v.own_words start 0 in key_of (insert m (suc start) 0) start 0
    (insert_other m (suc start) start 0 (λ e. omega arith) ∙ insert_same v.own_words start 0)

pub second_claimed : (v : View) (start a : ℕ) → HasKey (stored_word (won_claim v Words start 2) start a).own_words (start + 1)
second_claimed v start a = let m : FinMap nat_cmp ℕ = insert v.own_words start 0 in let e : start + 1 ≡ suc start = omega arith in
    let there : Has (insert m (suc start) 0) (start + 1) 0 = ap (get (insert m (suc start) 0)) e ∙ insert_same m (suc start) 0 in
    key_of (insert (insert m (suc start) 0) start a) (start + 1) 0 (insert_other (insert m (suc start) 0) start (start + 1) a (λ e. omega arith) ∙ there)

module _ (v : View) (start a b : ℕ) where
  pub first_there : Has (laid v start a b).own_words start a
  first_there = let m : FinMap nat_cmp ℕ = (won_claim v Words start 2).own_words in insert_other (insert m start a) (start + 1) start b (λ e. omega arith) ∙ insert_same m start a

  pub second_there : Has (laid v start a b).own_words (start + 1) b
  second_there = insert_same (insert (won_claim v Words start 2).own_words start a) (start + 1) b

  pub first_own : HasKey (laid v start a b).own_words start
  first_own = key_of (laid v start a b).own_words start a first_there

  pub own : (c : ℕ) → start ≤ c → c < start + 2 → HasKey (laid v start a b).own_words c
  own c lo hi = dite (ℕ_discrete c start)
      (λ e. subst (λ (x : ℕ). HasKey (laid v start a b).own_words x) (sym e) first_own)
      (λ ne. let e : start + 1 ≡ c = omega arith in subst (λ (x : ℕ). HasKey (laid v start a b).own_words x) e (key_of (laid v start a b).own_words (start + 1) b second_there))

  pub may_flatten : (id : ℕ) (old : Form) → IsCons old → Has v.forms id old → Has v.units id (bytes_of a ++ bytes_of b) → start < 2 ^ 29 → MayFlatten (laid v start a b) id old (Flat false start false)
  may_flatten id old cons form units small = let w : View = laid v start a b in let rest : ℕ → ℕ = λ c. unwrap_or (get v.frozen c) 0 in (
    form,
    cons,
    small,
    (
      bytes_of a ++ bytes_of b,
      units,
      own,
      (λ o lo hi. absurd (omega arith)),
      two_words (shown_word w) start a b (ap (λ (o : Option ℕ). unwrap_or o (rest start)) first_there) (ap (λ (o : Option ℕ). unwrap_or o (rest (start + 1))) second_there),
    ),
  )

-- a lost flattening leaves what is own
seen_own : (v : View) (i : ℕ) (o : Option Form) → (seen_form v i o).own_words ≡ v.own_words
seen_own v i None = refl
seen_own v i (Some f) = refl

pub lost_own : (v w : View) (i : ℕ) (old new : Form) (s : Step) → IsMoved old s → IsLost s → w ≡ learned_all (flattened v i old new (header_found old s)) → w.own_words ≡ v.own_words
lost_own v w i old new Won m l e = absurd l
lost_own v w i old new (Lost x) m l e = ap (λ (y : View). y.own_words) e
    ∙ (ap (λ (t : Bool). (cond t (record (freeze_form v (length (unwrap_or (get v.units i) [])) new) { forms = insert v.forms i new })
    (seen_form v i (form_of x))).own_words) (ne_eqb x (word_of old) m)
    ∙ seen_own v i (form_of x))

-- a table with one slot has no slot before it
pub may_take : (v : View) (id start : ℕ) (us : List ℕ) → v.sizes.slots ≡ 1 → Has v.forms id (Flat false start true) → Has v.units id us → MayTakeSlot v 0 id
may_take v id start us one form units = let n : ℕ = v.sizes.slots in (
  omega arith,
  (false, start, form),
  (us, units, (λ j l r. let first : j ≡ 0 = omega arith in let less : rank us n 0 < rank us n 0 = subst (λ (q : ℕ). rank us n q < rank us n 0) first r in absurd (omega arith))),
)

pub may_thin : (v : View) (id start t : ℕ) (us : List ℕ) → Has v.forms id (Flat false start false) → Has v.units id us → Has
    v.units t us → (k : ℕ) → Has v.slots k t → MayThin v id (Flat false start false) t
may_thin v id start t us form units target k there = (form, tt, (k, there), (us, units, target))
