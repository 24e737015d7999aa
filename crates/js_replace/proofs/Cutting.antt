-- The parts of a string, one after another.
use Rattle.std.proofs.Common.{arith, ◌≡◌, ℕ, zero, suc, ◌+◌, ◌-◌, ◌<◌, ◌≤◌, min, max, List, [], ◌∷◌, ◌++◌, length, length-append, refl, ap, sym, ◌∙◌, subst}
use Rattle.std.proofs.Common.{take, drop, get_or, append_assoc, append-nil, cond, Bool, true, false, inl, inr}
use Rattle.std.specs.Prelude.{Option, Some, None, slice_range, nat_lt, if◌then◌else◌}
use Rattle.std.proofs.lemmas.List.{get_or_default, map-append, length-map, length-take, length-drop, take_all}
use Rattle.std.proofs.lemmas.Bool.Decides.{leb_tells}
use Rattle.js_store.specs.State.{State, Grows, NamesUnits, IsKnown, text}
use Rattle.js_store.specs.Rows.{copy_words, cut_words, is_whole, wide_words}
use Rattle.js_store.specs.Faults.{StoreStep}
use Rattle.js_store.specs.declared.faults.StoreFault.{StoreFault}
use Rattle.js_store.proofs.Laws.{step_after, has_text, has_known}
use Rattle.js_search.specs.Places.{first}
use Rattle.js_texts.specs.Texts.{known_texts, AllKnown}
use Rattle.js_texts.proofs.Lists.{drop_at, texts_still, all_known_still}
use Rattle.js_replace.specs.Matches.{first_matches, matches, InOrder}
use Rattle.js_replace.specs.Fronts.{and_on}
use Rattle.js_replace.specs.Parts.{pieces, all_parts, parts}
use Rattle.js_replace.specs.Fronts.{singles}
use Rattle.js_replace.specs.Use.{copies_words}
use Rattle.js_search.proofs.Bounds.{first_is}

-- A part behind others.

by_bool : (b : Bool) (m n k : ℕ) → m ≤ k → n ≤ k → cond b m n ≤ k
by_bool true m n k p q = p
by_bool false m n k p q = q

short_copy : (b : Bool) (m : ℕ) → cond b 3 0 ≤ cond b 3 m
short_copy true m = omega arith
short_copy false m = omega arith

pub cut_copy : (from to n : ℕ) → cut_words from to n ≤ copy_words (to - from)
cut_copy from to n = by_bool (is_whole from to n) 0 (if nat_lt (to - from) 13 then 3 else 0) (copy_words (to - from)) (omega arith) (short_copy (nat_lt (to - from) 13) (wide_words (to - from)))

module _ {F R : Type 0} (name : R → ℕ) where
  pub texts_push : (a b : State F) (rs qs : List R) (r : R) (u : List ℕ) → Grows a b → AllKnown a name rs → NamesUnits b (name r) u → qs ≡
      rs ++ r ∷ [] → known_texts b name qs ≡ known_texts a name rs ++ u ∷ []
  texts_push a b rs qs r u g k h e =
      ap (known_texts b name) e ∙ map-append (λ q. text b (name q)) rs (r ∷ [])
      ∙ ap (λ t. t ++ text b (name r) ∷ []) (texts_still name a b rs g k)
      ∙ ap (λ t. known_texts a name rs ++ t ∷ []) (has_text b (name r) u h)

  known_behind : (b : State F) (rs : List R) (r : R) → AllKnown b name rs → IsKnown b (name r) → AllKnown b name (rs ++ r ∷ [])
  known_behind b [] r k h = (h, tt)
  known_behind b (q ∷ rs) r k h = (k.0, known_behind b rs r k.1 h)

  pub known_push : (a b : State F) (rs qs : List R) (r : R) (u : List ℕ) → Grows a b → AllKnown a name rs → NamesUnits b (name r) u → qs ≡ rs ++ r ∷ [] → AllKnown b name qs
  known_push a b rs qs r u g k h e = rw e (known_behind b rs r (all_known_still name a b rs g k) (has_known b (name r) u h))

-- What is used for the parts so far, and for one more.

copies_append : (us vs : List (List ℕ)) → copies_words (us ++ vs) ≡ copies_words us + copies_words vs
copies_append [] vs = omega arith
copies_append (u ∷ us) vs = omega (arith, copies_append us vs)

pub turn_step : {F : Type 0} {a b c : State F} {f : Option StoreFault} (n : ℕ) (done : List (List ℕ)) (part : List ℕ)
    (left whole : List (List ℕ)) → n ≡ length part → done ++ part ∷ left ≡ whole → StoreStep a b None (length done) (copies_words done) →
    StoreStep b c f 1 (copy_words n) → StoreStep a c f (length whole) (copies_words whole)
turn_step n done part left whole h e s t =
    let count = ap length (sym e) ∙ length-append done (part ∷ left) in
    let words = ap copies_words (sym e) ∙ copies_append done (part ∷ left) in
    let same = ap copy_words h in
    step_after s t (omega (arith, count)) (omega (arith, words, same))

pub range_length : (u : List ℕ) (from to : ℕ) → from ≤ to → to ≤ length u → to - from ≡ length (slice_range u from to)
range_length u from to h k = omega (arith, length-take (to - from) (drop from u), length-drop from u)

-- Single units.

pub take_more : {A : Type 0} (n m : ℕ) (x : A) (xs : List A) → 0 < n → m ≡ n - 1 → take n (x ∷ xs) ≡ x ∷ take m xs
take_more zero m x xs h e = absurd (omega arith)
take_more (suc n) m x xs h e = let same : n ≡ m = omega (arith, e) in ap (λ k. x ∷ take k xs) same

pub single_turn : (u : List ℕ) (i : ℕ) → i < length u → singles (drop i u) ≡ take (i + 1 - i) (drop i u) ∷ singles (drop (i + 1) u)
single_turn [] i h = absurd (omega arith)
single_turn (x ∷ u) zero h = refl
single_turn (x ∷ u) (suc i) h =
    let more = single_turn u i (omega (arith, h)) in
    let one : i + 1 - i ≡ suc i + 1 - suc i = omega arith in
    let next : suc (i + 1) ≡ suc i + 1 = omega arith in
    more ∙ ap (λ n. take n (drop i u) ∷ singles (drop (i + 1) u)) one ∙ ap (λ n. take (suc i + 1 - suc i) (drop i u) ∷ singles (drop n (x ∷ u))) next

nil_of : {A : Type 0} (xs : List A) → length xs ≡ 0 → xs ≡ []
nil_of [] e = refl
nil_of (x ∷ xs) e = absurd (omega (arith, e))

pub singles_end : (u : List ℕ) (limit i : ℕ) → min (length u) limit ≤ i → take (limit - i) (singles (drop i u)) ≡ []
singles_end u limit i h = nil_of (take (limit - i) (singles (drop i u))) (omega (arith, h, length-take (limit - i) (singles (drop i u)), length-map (drop i u) (λ x. x ∷ []), length-drop i u))

-- One more part behind those so far, in front of those that are left.

one_part : (n m : ℕ) (done left rest whole : List (List ℕ)) (p : List ℕ) → 0 < n → m ≡ n - 1 → left ≡ p ∷ rest → done ++ take n left ≡ whole → done ++ p ∷ take m rest ≡ whole
one_part n m done left rest whole p h e f k = ap (λ t. done ++ t) (sym (ap (take n) f ∙ take_more n m p rest h e)) ∙ k

pub more_parts : (n m : ℕ) (done more left rest whole : List (List ℕ)) (p : List ℕ) → 0 < n → m ≡ n - 1 → left ≡ p ∷ rest → more ≡ done ++ p
    ∷ [] → done ++ take n left ≡ whole → more ++ take m rest ≡ whole
more_parts n m done more left rest whole p h e f g k = ap (λ t. t ++ take m rest) g ∙ append_assoc done (p ∷ []) (take m rest) ∙ one_part n m done left rest whole p h e f k

pub no_more : (done left whole : List (List ℕ)) → left ≡ [] → done ++ left ≡ whole → done ≡ whole
no_more done left whole h k = sym (append-nil done) ∙ ap (λ t. done ++ t) (sym h) ∙ k

-- a turn of a loop over parts: what it used whether it ends or is refused, and what it leaves
module _ {F : Type 0} {a b c : State F} {f : Option StoreFault} (size n m : ℕ) (done left rest whole : List (List ℕ)) (p : List ℕ) where
  pub refused : size ≡ length p → 0 < n → m ≡ n - 1 → left ≡ p ∷ rest → done ++ take n left ≡ whole → StoreStep a b None (length done)
      (copies_words done) → StoreStep b c f 1 (copy_words size) → StoreStep a c f (length whole) (copies_words whole)
  refused h l e g k s t = turn_step size done p (take m rest) whole h (one_part n m done left rest whole p l e g k) s t

  pub answered : (more : List (List ℕ)) → size ≡ length p → more ≡ done ++ p ∷ [] → StoreStep a b None (length done) (copies_words done) →
      StoreStep b c f 1 (copy_words size) → StoreStep a c f (length more) (copies_words more)
  answered more h g s t = turn_step size done p [] more h (sym g) s t

-- Pieces between places.

place_front : (ks : List ℕ) (i : ℕ) → i < length ks → drop i ks ≡ get_or ks i 0 ∷ drop (i + 1) ks
place_front ks i h = drop_at ks i (get_or ks i 0) h (get_or_default ks i 0 (get_or ks i 0) h)

pub piece_turn : (u : List ℕ) (size from : ℕ) (ks : List ℕ) (i : ℕ) → i < length ks → pieces u size from (drop i ks) ≡ slice_range u from
    (get_or ks i 0) ∷ pieces u size (get_or ks i 0 + size) (drop (i + 1) ks)
piece_turn u size from ks i h = ap (λ q. pieces u size from q) (place_front ks i h)

pub order_turn : (len size from : ℕ) (ks : List ℕ) (i : ℕ) → i < length ks → InOrder len size from (drop i ks) → (from ≤ get_or ks i 0) ×
    (get_or ks i 0 + size ≤ len) × InOrder len size (get_or ks i 0 + size) (drop (i + 1) ks)
order_turn len size from ks i h o = subst (λ (q : List ℕ). InOrder len size from q) (place_front ks i h) o

pub last_piece : (u : List ℕ) (size from : ℕ) (ks : List ℕ) (i : ℕ) → length ks ≤ i → from ≤ length u → pieces u size from (drop i ks) ≡ slice_range u from (length u) ∷ []
last_piece u size from ks i h l =
    let none : drop i ks ≡ [] = nil_of (drop i ks) (omega (arith, h, length-drop i ks)) in
    let room = length-drop from u in
    let all : take (length u - from) (drop from u) ≡ drop from u = take_all (length u - from) (drop from u) (omega (arith, room)) in
    ap (λ q. pieces u size from q) none ∙ ap (λ p. p ∷ []) (sym all)

pub last_order : (len size from : ℕ) (ks : List ℕ) (i : ℕ) → length ks ≤ i → InOrder len size from (drop i ks) → from ≤ len
last_order len size from ks i h o =
    let none : drop i ks ≡ [] = nil_of (drop i ks) (omega (arith, h, length-drop i ks)) in
    subst (λ (q : List ℕ). InOrder len size from q) none o

-- The parts by the cases of `split`.

by_place : (o : Option ℕ) (l m : ℕ) (u w : List ℕ) (size from : ℕ) → ((k : ℕ) → take l
    (pieces u size (k + size) (first_matches l u w (k + max 1 (length w)))) ≡ take l
    (pieces u size (k + size) (first_matches m u w (k + max 1 (length w))))) → take (suc l)
    (pieces u size from (and_on o (λ k. first_matches l u w (k + max 1 (length w))))) ≡ take (suc l)
    (pieces u size from (and_on o (λ k. first_matches m u w (k + max 1 (length w)))))
by_place None l m u w size from h = refl
by_place (Some k) l m u w size from h = ap (λ t. slice_range u from k ∷ t) (h k)

-- as many places as there may be parts are enough
taken : (l m : ℕ) (u w : List ℕ) (size from next : ℕ) → l ≤ m → take l (pieces u size from (first_matches l u w next)) ≡ take l (pieces u size from (first_matches m u w next))
taken zero m u w size from next h = refl
taken (suc l) zero u w size from next h = absurd (omega (arith, h))
taken (suc l) (suc m) u w size from next h = by_place (first u w next) l m u w size from (λ k. taken l m u w size (k + size) (k + max 1 (length w)) (omega (arith, h)))

enough : (limit : ℕ) (u w : List ℕ) (size : ℕ) → take limit (pieces u size 0 (first_matches (min limit (length u + 1)) u w 0)) ≡ take limit (pieces u size 0 (matches u w))
unfolding matches
enough limit u w size = elim (leb_tells limit (length u + 1)) [
  | inl h ↦ (let l : min limit (length u + 1) ≡ limit = omega (arith, h.1) in rw l (taken limit (suc (length u)) u w size 0 0 (omega (arith, h.1))))
  | inr h ↦ (let l : min limit (length u + 1) ≡ suc (length u) = omega (arith, h.1) in rw l refl)
]

pub by_empty : (u w : List ℕ) (limit : ℕ) → length w ≡ 0 → take limit (singles u) ≡ parts u (Some w) limit
by_empty u [] limit h = refl
by_empty u (x ∷ w) limit h = absurd (omega (arith, h))

none_in_empty : (x : ℕ) (w : List ℕ) → first [] (x ∷ w) 0 ≡ None
none_in_empty x w = sym (first_is [] (x ∷ w) 0 None (λ k l s. let room = s.0 in absurd (omega (arith, room))))

empty_pieces : (x : ℕ) (w : List ℕ) (size : ℕ) → pieces [] size 0 (matches [] (x ∷ w)) ≡ [] ∷ []
unfolding matches
empty_pieces x w size = ap (λ o. pieces [] size 0 (and_on o (λ k. []))) (none_in_empty x w)

all_pieces : (u : List ℕ) (x : ℕ) (w : List ℕ) → pieces u (length (x ∷ w)) 0 (matches u (x ∷ w)) ≡ all_parts u (Some (x ∷ w))
all_pieces [] x w = empty_pieces x w (length (x ∷ w))
all_pieces (y ∷ u) x w = refl

pub by_places : (u w : List ℕ) (limit : ℕ) (ks : List ℕ) → (length w ≡ 0 → ⊥) → ks ≡ first_matches (min limit (length u + 1)) u w 0 → take limit (pieces u (length w) 0 ks) ≡ parts u (Some w) limit
by_places u [] limit ks h e = absurd (h refl)
by_places u (x ∷ w) limit ks h e = ap (λ q. take limit (pieces u (length (x ∷ w)) 0 q)) e ∙ enough limit u (x ∷ w) (length (x ∷ w)) ∙ ap (take limit) (all_pieces u x w)
