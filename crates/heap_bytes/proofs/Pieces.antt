-- Pieces of what bytes spell: the first units, and those that are left.
use Rattle.std.proofs.Common.{◌≡◌, ℕ, ◌+◌, ◌-◌, ◌<◌, ◌≤◌, List, [], ◌++◌, length, get_or, take, drop, sym, ap, ap₂, ◌∙◌, arith, append_assoc, length-append, length-drop, ◌∷◌}
use Rattle.std.proofs.lemmas.List.{drop-drop, drop_at, get_or-drop, get_or-take, get_or_append_left, length-set, length-take-le, take-append-drop, take_all, take_more_set}
use Rattle.std.proofs.lemmas.Grind.{same_number_lists}
use Rattle.std.specs.Prelude.{set}
use Rattle.js_units.specs.Lanes.{hash_from}
use Rattle.js_units.proofs.Hashing.{hash_append}

-- lists that begin alike
take_alike : (n : ℕ) (xs ys : List ℕ) → n ≤ length xs → n ≤ length ys → ((k : ℕ) → k < n → get_or xs k 0 ≡ get_or ys k 0) → take n xs ≡ take n ys
take_alike n xs ys a b h = let p = length-take-le n xs a in let q = length-take-le n ys b in
    same_number_lists (take n xs) (take n ys) (p ∙ sym q) (λ k l. get_or-take n xs k 0 (omega arith) ∙ (h k (omega arith) ∙ sym (get_or-take n ys k 0 (omega arith))))

-- a copy of the first bytes
pub copied_front : (n : ℕ) (bytes room : List ℕ) → n ≤ length bytes → n
    ≤ length room → ((k : ℕ) → k < n → get_or room k 0 ≡ get_or bytes k 0) → bytes ≡ take n room ++ take (length bytes - n) (drop n bytes)
copied_front n bytes room a b h = sym (take-append-drop n bytes) ∙ ap₂ (λ (xs ys : List ℕ). xs ++ ys) (sym (take_alike n room bytes b a h))
    (sym (take_all (length bytes - n) (drop n bytes) (omega (arith, length-drop n bytes))))

-- what is left, of units of which `done` were read, once a piece more is
module _ (us room vs ws : List ℕ) (done count : ℕ) (left : vs ≡ drop done us) (most : count ≤ length room) (split : vs ≡ take count room ++ ws) where
  pub piece_long : length (take count room) ≡ count
  piece_long = length-take-le count room most

  pub piece_unit : (k : ℕ) → k < count → get_or (take count room) k 0 ≡ get_or us (done + k) 0
  piece_unit k l = let n = piece_long in
      sym (get_or_append_left (take count room) ws 0 k (omega arith)) ∙ (ap (λ (xs : List ℕ). get_or xs k 0) (sym split ∙ left) ∙ get_or-drop done us k 0)

  pub piece_left : ws ≡ drop (done + count) us
  piece_left = sym (drop_at (take count room) ws count piece_long) ∙ (ap (drop count) (sym split ∙ left) ∙ drop-drop count done us)

  pub piece_within : done ≤ length us → done + count ≤ length us
  piece_within l = let n = piece_long in omega (arith, n, ap length split, ap length left, length-append (take count room) ws, length-drop done us)

-- the end
pub all_done : (us vs : List ℕ) (done : ℕ) → vs ≡ drop done us → vs ≡ [] → done ≤ length us → done ≡ length us
all_done us vs done left none l = omega (arith, ap length left, ap length none, length-drop done us)

-- a piece is shorter than the whole
pub fewer_left : (room vs ws : List ℕ) (count : ℕ) → 0 < count → count ≤ length room → vs ≡ take count room ++ ws → length ws < length vs
fewer_left room vs ws count some most split = let n = length-take-le count room most in omega (arith, n, ap length split, length-append (take count room) ws)

pub count_left : (room vs ws : List ℕ) (count : ℕ) → count ≤ length room → vs ≡ take count room ++ ws → length vs ≡ count + length ws
count_left room vs ws count most split = let n = length-take-le count room most in omega (arith, n, ap length split, length-append (take count room) ws)

pub none_left_of : (room vs ws : List ℕ) (count : ℕ) → vs ≡ [] → 0 < count → count ≤ length room → vs ≡ take count room ++ ws → ⊥
none_left_of room vs ws count none some most split = omega (arith, count_left room vs ws count most split, ap length none)

-- the hash of a piece and of what is left
pub hash_piece : (h k g : ℕ) (piece vs ws : List ℕ) → vs ≡ piece ++ ws → k ≡ hash_from h piece → hash_from h vs ≡ g → hash_from k ws ≡ g
hash_piece h k g piece vs ws split is e = ap (λ (x : ℕ). hash_from x ws) is ∙ (sym (hash_append h piece ws) ∙ (ap (hash_from h) (sym split) ∙ e))

-- one unit more in the room, and two
pub one_put : (room : List ℕ) (at u : ℕ) → at < length room → take (at + 1) (set room at u) ≡ take at room ++ u ∷ []
one_put room at u l = take_more_set room at u l

pub two_put : (room : List ℕ) (at u v : ℕ) → at + 1 < length room → take (at + 2) (set (set room at u) (at + 1) v) ≡ take at room ++ u ∷ v ∷ []
two_put room at u v l = let two : at + 2 ≡ at + 1 + 1 = omega arith in
    ap (λ (n : ℕ). take n (set (set room at u) (at + 1) v)) two
    ∙ (one_put (set room at u) (at + 1) v (omega (arith, length-set room at u)) ∙
    (ap (λ (xs : List ℕ). xs ++ v ∷ []) (one_put room at u (omega arith)) ∙ append_assoc (take at room) (u ∷ []) (v ∷ [])))
