-- One piece of a literal more.
use Rattle.std.proofs.Common.{◌≡◌, ℕ, ◌<◌, List, [], ◌∷◌, ◌++◌, length, true, refl, sym, ap, ◌∙◌, subst, arith, append_assoc}
use Rattle.std.proofs.lemmas.List.{length-append, append-nil}
use Rattle.js_literal.specs.Literal.{is_quote, LiteralPiece, plain, letter, null, two, four, braces, both_ends, return, line_end, itself, Closed, close, piece, StringFaultKind, IsBroken, here, later}
use Rattle.js_literal.specs.Reader.{reading, Take, Shut, Break}
use Rattle.js_literal.proofs.Means.{reading_means, Means}

-- rest is an end of s
abbrev pub EndsIn : List ℕ → List ℕ → Type 0
EndsIn s rest = (front : List ℕ) × (s ≡ front ++ rest)

pub piece_ends : (q : ℕ) (s us rest : List ℕ) → LiteralPiece q s us rest → (c : ℕ) × (front : List ℕ) × (s ≡ c ∷ (front ++ rest))
piece_ends q _ _ _ (plain c rest h) = (c, [], refl)
piece_ends q _ _ _ (letter c u rest h) = (92, c ∷ [], refl)
piece_ends q _ _ _ (null rest h) = (92, 48 ∷ [], refl)
piece_ends q _ _ _ (two a b v rest h) = (92, 120 ∷ a ∷ b ∷ [], refl)
piece_ends q _ _ _ (four a b c d v rest h) = (92, 117 ∷ a ∷ b ∷ c ∷ d ∷ [], refl)
piece_ends q _ _ _ (braces d ds v rest h le) = (92, 117 ∷ 123 ∷ d ∷ (ds ++ 125 ∷ []), ap (λ r. 92 ∷ 117 ∷ 123 ∷ d ∷ r) (sym (append_assoc ds (125 ∷ []) rest)))
piece_ends q _ _ _ (both_ends rest) = (92, 13 ∷ 10 ∷ [], refl)
piece_ends q _ _ _ (return rest h) = (92, 13 ∷ [], refl)
piece_ends q _ _ _ (line_end c rest h) = (92, c ∷ [], refl)
piece_ends q _ _ _ (itself c rest e h) = (92, c ∷ [], refl)

pub ends_more : (s mid rest : List ℕ) → EndsIn s mid → EndsIn mid rest → EndsIn s rest
ends_more s mid rest a b = (a.0 ++ b.0, a.1 ∙ (ap (λ r. a.0 ++ r) (b.1) ∙ sym (append_assoc (a.0) (b.0) rest)))

piece_end : (q : ℕ) (s us rest : List ℕ) → LiteralPiece q s us rest → EndsIn s rest
piece_end q s us rest p = let e = piece_ends q s us rest p in (e.0 ∷ e.1, e.2)

pub closed_ends : (q : ℕ) (s us rest : List ℕ) → Closed q s us rest → EndsIn s rest
closed_ends q _ _ _ (close rest) = (q ∷ [], refl)
closed_ends q _ _ _ (piece s mid rest us vs p h) = ends_more s mid rest (piece_end q s us mid p) (closed_ends q mid vs rest h)

pub broken_ends : (q : ℕ) (s left : List ℕ) (k : StringFaultKind) → IsBroken q s k left → EndsIn s left
broken_ends q _ _ _ (here s k h) = ([], refl)
broken_ends q _ _ _ (later s mid us left k p h) = ends_more s mid left (piece_end q s us mid p) (broken_ends q mid left k h)

pub taken : (q : ℕ) (s us mid : List ℕ) → is_quote q ≡ true → Take us mid ≡ reading q s → LiteralPiece q s us mid
taken q s us mid hq e = subst (Means q s) (sym e) (reading_means q s hq)

pub shorter : (q : ℕ) (s us mid : List ℕ) → is_quote q ≡ true → Take us mid ≡ reading q s → length mid < length s
shorter q s us mid hq e =
    let p = piece_ends q s us mid (taken q s us mid hq e) in
    omega (arith, ap length (p.2), length-append (p.1) mid)

pub shut : (q : ℕ) (s rest : List ℕ) → is_quote q ≡ true → Shut rest ≡ reading q s → Closed q s [] rest
shut q s rest hq e =
    let m : s ≡ q ∷ rest = subst (Means q s) (sym e) (reading_means q s hq) in
    subst (λ r. Closed q r [] rest) (sym m) (close rest)

pub broken : (q : ℕ) (s : List ℕ) (k : StringFaultKind) → is_quote q ≡ true → Break k ≡ reading q s → IsBroken q s k s
broken q s k hq e = here s k (subst (Means q s) (sym e) (reading_means q s hq))

-- what the rest gives, the whole gives after the units so far
abbrev pub Closes : ℕ → List ℕ → List ℕ → List ℕ → Type 0
Closes q whole units s = (us rest : List ℕ) → Closed q s us rest → Closed q whole (units ++ us) rest

abbrev pub Fails : ℕ → List ℕ → List ℕ → Type 0
Fails q whole s = (k : StringFaultKind) (left : List ℕ) → IsBroken q s k left → IsBroken q whole k left

pub closes_more : (q : ℕ) (whole units s us mid : List ℕ) → is_quote q ≡ true → Take us mid ≡ reading q s → Closes q whole units s → Closes q whole (units ++ us) mid
closes_more q whole units s us mid hq e h = λ vs rest t.
    subst (λ w. Closed q whole w rest) (sym (append_assoc units us vs)) (h (us ++ vs) rest (piece s mid rest us vs (taken q s us mid hq e) t))

pub fails_more : (q : ℕ) (whole s us mid : List ℕ) → is_quote q ≡ true → Take us mid ≡ reading q s → Fails q whole s → Fails q whole mid
fails_more q whole s us mid hq e h = λ k left t. h k left (later s mid us left k (taken q s us mid hq e) t)

pub whole_closed : (q : ℕ) (whole units s rest : List ℕ) → is_quote q ≡ true → Shut rest ≡ reading q s → Closes q whole units s → Closed q whole units rest
whole_closed q whole units s rest hq e h = subst (λ w. Closed q whole w rest) (append-nil units) (h [] rest (shut q s rest hq e))
