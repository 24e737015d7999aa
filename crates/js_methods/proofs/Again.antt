-- A filler whose front is put behind it, again and again.
use Rattle.std.proofs.Common.{arith, add-one, ◌≡◌, ℕ, zero, suc, ◌+◌, ◌-◌, ◌<◌, ◌≤◌, List, [], ◌∷◌, ◌++◌, length, take, get_or, refl, ap, sym, ◌∙◌, length-append, inl, inr}
use Rattle.std.specs.Prelude.{◌⊎◌, slice_set}
use Rattle.std.specs.List.{repeat}
use Rattle.std.proofs.lemmas.List.{take-append-le, length-take-le, take_all, take_more, take_more_set, get_or-take, get_or-append_right}
use Rattle.js_methods.specs.Building.{filling}
use Rattle.js_methods.proofs.Copies.{repeat-add, repeat-one}
use Rattle.js_methods.proofs.Fill.{take_front, long_enough}

-- a copy more isn't seen in the first units
front_again : (f : List ℕ) (i : ℕ) → 1 ≤ length f → take i (f ++ repeat i f) ≡ filling f i
front_again f i some =
    let last : i + 1 ≡ 1 + i = omega arith in
    let turned : repeat i f ++ repeat 1 f ≡ f ++ repeat i f = repeat-add i 1 f ∙ ap (λ k. repeat k f) last ∙ sym (repeat-add 1 i f) ∙ ap (λ v. v ++ repeat i f) (repeat-one f) in
    ap (take i) (sym turned) ∙ take-append-le i (repeat i f) (repeat 1 f) (long_enough i f some)

-- one unit more is the one that stands a filler before it
pub filled_more : (f : List ℕ) (i : ℕ) → 1 ≤ length f → length f ≤ i → filling f (i + 1) ≡ filling f i ++ get_or (filling f i) (i - length f) 0 ∷ []
filled_more f i some past =
    let whole : repeat (i + 1) f ≡ f ++ repeat i f = ap (λ k. repeat k f) (add-one i) in
    let there : i < length (f ++ repeat i f) = omega (arith, length-append f (repeat i f), long_enough i f some, some) in
    let unit : get_or (f ++ repeat i f) i 0 ≡ get_or (filling f i) (i - length f) 0 =
    get_or-append_right f (repeat i f) (length f) i 0 refl past ∙ sym (get_or-take i (repeat i f) (i - length f) 0 (omega (arith, some, past))) in
    ap (take (i + 1)) whole ∙ take_more (f ++ repeat i f) i 0 there
    ∙ ap (λ v. v ++ get_or (f ++ repeat i f) i 0 ∷ []) (front_again f i some)
    ∙ ap (λ x. filling f i ++ x ∷ []) unit

pub fill_front : (n : ℕ) (f : List ℕ) → n ≤ length f → filling f n ≡ take n f
fill_front n f h = take_front n n f h (λ z. z)

split : (m n : ℕ) → (m ≤ n) ⊎ (n ≤ m)
split zero n = inl (omega arith)
split (suc m) zero = inr (omega arith)
split (suc m) (suc n) = elim (split m n) [ inl h ↦ inl (omega (arith, h)) | inr h ↦ inr (omega (arith, h)) ]

-- the units that are read of a filler fill as it does
pub filled_all : (f : List ℕ) (room size : ℕ) → (length f ≤ room → size ≡ length f) → (room ≤ length f → size ≡ room) → filling (take size f) room ≡ filling f room
filled_all f room size long short = elim (split (length f) room) [
  | inl h ↦ ap (λ v. filling v room) (ap (λ k. take k f) (long h) ∙ take_all (length f) f (omega arith))
  | inr h ↦
      let cut : take size f ≡ take room f = ap (λ k. take k f) (short h) in
      ap (λ v. filling v room) cut ∙ fill_front room (take room f) (omega (arith, length-take-le room f h))
      ∙ take_all room (take room f) (omega (arith, length-take-le room f h)) ∙ sym (fill_front room f h)
]

-- a turn of the loop that puts the front of a list behind it
pub front_turn : (old us vs : List ℕ) (i size v : ℕ) → 1 ≤ size → size ≤ length old → size ≤ i → i < length us → v ≡ get_or us (i - size) 0 → vs ≡ slice_set us i v →
    take i us ≡ filling (take size old) i → take (i + 1) vs ≡ filling (take size old) (i + 1)
front_turn old us vs i size v some within past there value made done =
    let f = take size old in
    let long : length f ≡ size = length-take-le size old within in
    let read : get_or us (i - size) 0 ≡ get_or (filling f i) (i - length f) 0 =
    sym (get_or-take i us (i - size) 0 (omega (arith, some, past))) ∙ ap (λ l. get_or l (i - size) 0) done ∙ ap (λ k. get_or (filling f i) (i - k) 0) (sym long) in
    ap (take (i + 1)) made ∙ take_more_set us i v there
    ∙ ap (λ l. l ++ v ∷ []) done ∙ ap (λ x. filling f i ++ x ∷ []) (value ∙ read)
    ∙ sym (filled_more f i (omega (arith, long, some)) (omega (arith, long, past)))

pub front_begins : (old : List ℕ) (size : ℕ) → size ≤ length old → take size old ≡ filling (take size old) size
front_begins old size h =
    let long : length (take size old) ≡ size = length-take-le size old h in
    sym (fill_front size (take size old) (omega (arith, long)) ∙ take_all size (take size old) (omega (arith, long)))
