-- One reading alone.
use Rattle.std.proofs.Common.{◌≡◌, ℕ, List, [], ◌∷◌, ◌++◌, true, refl, sym, ap, ◌∙◌, subst, arith, ◌⊎◌, inl, inr, nat_eq}
use Rattle.std.proofs.lemmas.Bool.Decides.{nat_tests}
use Rattle.js_literal.specs.Literal.{is_quote, Closed, close, piece, StringFaultKind, IsBroken, here, later}
use Rattle.js_literal.specs.Reader.{reading, Take, Shut, Break}
use Rattle.js_literal.proofs.Exact.{piece_looks}
use Rattle.js_literal.proofs.Means.{breaks_looks}

shut_looks : (q : ℕ) (rest : List ℕ) → reading q (q ∷ rest) ≡ Shut rest
unfolding reading
shut_looks q rest = let e : nat_eq q q ≡ true = grind (arith, nat_tests) in rw e refl

-- how a closed string begins
abbrev Begun : ℕ → List ℕ → List ℕ → List ℕ → Type 0
Begun q s us rest = ((reading q s ≡ Shut rest) × (us ≡ [])) ⊎ ((mid : List ℕ) × (vs : List ℕ) × (ws : List ℕ) × (reading q s ≡ Take vs mid) × Closed q mid ws rest × (us ≡ vs ++ ws))

begun : (q : ℕ) (s us rest : List ℕ) → is_quote q ≡ true → Closed q s us rest → Begun q s us rest
begun q _ _ _ hq (close rest) = inl (shut_looks q rest, refl)
begun q _ _ _ hq (piece s mid rest us vs p h) = inr (mid, us, vs, piece_looks q s us mid hq p, h, refl)

abbrev Failed : ℕ → List ℕ → StringFaultKind → List ℕ → Type 0
Failed q s k left = ((reading q s ≡ Break k) × (left ≡ s)) ⊎ ((mid : List ℕ) × (vs : List ℕ) × (reading q s ≡ Take vs mid) × IsBroken q mid k left)

failed : (q : ℕ) (s left : List ℕ) (k : StringFaultKind) → is_quote q ≡ true → IsBroken q s k left → Failed q s k left
failed q _ _ _ hq (here s k h) = inl (breaks_looks q s k hq h, refl)
failed q _ _ _ hq (later s mid us left k p h) = inr (mid, us, piece_looks q s us mid hq p, h)

-- two closed strings from one place are one
pub one_closed : (q : ℕ) (s us rest vs end : List ℕ) → is_quote q ≡ true → Closed q s us rest → Closed q s vs end → (us ≡ vs) × (rest ≡ end)
one_closed q _ _ _ vs end hq (close rest) h = go (begun q (q ∷ rest) vs end hq h)
  where
    go : Begun q (q ∷ rest) vs end → ([] ≡ vs) × (rest ≡ end)
    go (inl e) = let f = shut_looks q rest in (cc, cc)
    go (inr e) = let f = shut_looks q rest in absurd (let g = e.3 in cc)
one_closed q _ _ _ vs end hq (piece s mid rest us ws p t) h = go (λ r x h. one_closed q mid ws rest r x hq t h) (begun q s vs end hq h)
  where
    go : ((r x : List ℕ) → Closed q mid r x → (ws ≡ r) × (rest ≡ x)) → Begun q s vs end → (us ++ ws ≡ vs) × (rest ≡ end)
    go ih (inl e) = let f = piece_looks q s us mid hq p in let g = e.0 in absurd cc
    go ih (inr e) =
        let f = piece_looks q s us mid hq p in
        let g = e.3 in
        let same_mid : e.0 ≡ mid = cc in
        let same_us : us ≡ e.1 = cc in
        let rest_same = ih (e.2) end (subst (λ m. Closed q m (e.2) end) same_mid (e.4)) in
        (ap (λ u. u ++ ws) same_us ∙ (ap (λ w. e.1 ++ w) (rest_same.0) ∙ sym (e.5)), rest_same.1)

-- none is both closed and broken
pub not_both : (q : ℕ) (s us rest left : List ℕ) (k : StringFaultKind) → is_quote q ≡ true → Closed q s us rest → IsBroken q s k left → ⊥
not_both q _ _ _ left k hq (close rest) h = go (failed q (q ∷ rest) left k hq h)
  where
    go : Failed q (q ∷ rest) k left → ⊥
    go (inl e) = let f = shut_looks q rest in let g = e.0 in absurd cc
    go (inr e) = let f = shut_looks q rest in let g = e.2 in absurd cc
not_both q _ _ _ left k hq (piece s mid rest us ws p t) h = go (λ b. not_both q mid ws rest left k hq t b) (failed q s left k hq h)
  where
    go : (IsBroken q mid k left → ⊥) → Failed q s k left → ⊥
    go ih (inl e) = let f = piece_looks q s us mid hq p in let g = e.0 in absurd cc
    go ih (inr e) =
        let f = piece_looks q s us mid hq p in
        let g = e.2 in
        let same_mid : e.0 ≡ mid = cc in
        ih (subst (λ m. IsBroken q m k left) same_mid (e.3))

-- two faults from one place are one
pub one_fault : (q : ℕ) (s left : List ℕ) (k : StringFaultKind) (other : List ℕ) (l : StringFaultKind) → is_quote q ≡ true → IsBroken q s k left → IsBroken q s l other → (k ≡ l) × (left ≡ other)
one_fault q _ _ _ other l hq (here s k b) h = go (failed q s other l hq h)
  where
    go : Failed q s l other → (k ≡ l) × (s ≡ other)
    go (inl e) = let f = breaks_looks q s k hq b in let g = e.0 in (cc, sym (e.1))
    go (inr e) = let f = breaks_looks q s k hq b in let g = e.2 in absurd cc
one_fault q _ _ _ other l hq (later s mid us left k p t) h = go (λ b. one_fault q mid left k other l hq t b) (failed q s other l hq h)
  where
    go : (IsBroken q mid l other → (k ≡ l) × (left ≡ other)) → Failed q s l other → (k ≡ l) × (left ≡ other)
    go ih (inl e) = let f = piece_looks q s us mid hq p in let g = e.0 in absurd cc
    go ih (inr e) =
        let f = piece_looks q s us mid hq p in
        let g = e.2 in
        let same_mid : e.0 ≡ mid = cc in
        ih (subst (λ m. IsBroken q m l other) same_mid (e.3))
