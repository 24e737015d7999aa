-- No tokens are a script and refused, and none are refused in two ways.
use Rattle.std.proofs.Common.{◌≡◌, ℕ, List, [], ◌∷◌, ◌++◌, refl, sym, ◌∙◌, subst, append_assoc, append-nil}
use Rattle.parse_syntax.specs.Lang.{Lang}
use Rattle.parse_syntax.specs.Reader.{SyntaxFaultKind, Wrong, TooDeep}
use Rattle.parse_syntax.specs.Refused.{CanBegin, IsWrongAt, IsRefused}

-- where two lists that go on to the same one stand to each other
pub data Compared {T : Type 0} (f r g s : List T) : Type 0 where
  alike : f ≡ g → r ≡ s → Compared f r g s
  shorter : (t : T) (z : List T) → g ≡ f ++ t ∷ z → r ≡ t ∷ z ++ s → Compared f r g s
  longer : (t : T) (z : List T) → f ≡ g ++ t ∷ z → s ≡ t ∷ z ++ r → Compared f r g s

pub compare : {T : Type 0} (f r g s : List T) → f ++ r ≡ g ++ s → Compared f r g s
compare [] r [] s e = alike refl e
compare [] r (t ∷ g) s e = shorter t g refl e
compare (t ∷ f) r [] s e = longer t f refl (sym e)
compare (t ∷ f) r (u ∷ g) s e =
    let h : t ≡ u = cc in
    let i : f ++ r ≡ g ++ s = cc in
    go h (compare f r g s i)
  where
    go : t ≡ u → Compared f r g s → Compared (t ∷ f) r (u ∷ g) s
    go h (alike a b) = alike (rw (h, a) refl) b
    go h (shorter v z a b) = shorter v z (rw (h, a) refl) b
    go h (longer v z a b) = longer v z (rw (h, a) refl) b

module _ {T A : Type 0} (Script : ℕ → Lang T A) (n : ℕ) (ts : List T) where
  -- what goes on so begins no script of this level
  stopped : (k : SyntaxFaultKind) (front : List T) (t : T) (after more : List T) (x : A) → IsWrongAt Script n front k (t ∷ after) → Script n (front ++ t ∷ more) x → ⊥
  stopped Wrong front t after more x w s = w n (more, x, subst (λ q. Script n q x) (sym (append_assoc front (t ∷ []) more)) s)
  stopped TooDeep front t after more x w s = w.0 (more, x, subst (λ q. Script n q x) (sym (append_assoc front (t ∷ []) more)) s)

  pub not_both : (x : A) (k : SyntaxFaultKind) (rest : List T) → Script n ts x → IsRefused Script n ts k rest → ⊥
  not_both x k rest s r = go k rest (subst (λ q. Script n q x) r.whole s) r.wrong
    where
      go : (k : SyntaxFaultKind) (rest : List T) → Script n (r.front ++ rest) x → IsWrongAt Script n r.front k rest → ⊥
      go Wrong [] s w = w n x (subst (λ q. Script n q x) (append-nil r.front) s)
      go TooDeep [] s w = w
      go k (t ∷ after) s w = stopped k r.front t after after x w s

  -- what begins a script goes past no place where one is wrong
  beyond : (front : List T) (k : SyntaxFaultKind) (t : T) (z after : List T) → IsWrongAt Script n front k (t ∷ after) → CanBegin Script n (front ++ t ∷ z) → ⊥
  beyond front k t z after w c = stopped k front t after (z ++ c.0) c.1 w (subst (λ q. Script n q c.1) (append_assoc front (t ∷ z) c.0) c.2)

  same_kind : (front : List T) (k j : SyntaxFaultKind) (rest : List T) → IsWrongAt Script n front k rest → IsWrongAt Script n front j rest → k ≡ j
  same_kind front Wrong Wrong rest v w = refl
  same_kind front TooDeep TooDeep rest v w = refl
  same_kind front Wrong TooDeep [] v w = absurd w
  same_kind front TooDeep Wrong [] v w = absurd v
  same_kind front Wrong TooDeep (t ∷ rest) v w = absurd (v w.1 w.2)
  same_kind front TooDeep Wrong (t ∷ rest) v w = absurd (w v.1 v.2)

  pub one_refusal : (k j : SyntaxFaultKind) (rest left : List T) → IsRefused Script n ts k rest → IsRefused Script n ts j left → (k ≡ j) × (rest ≡ left)
  one_refusal k j rest left a b = go (compare a.front rest b.front left (sym a.whole ∙ b.whole))
    where
      go : Compared a.front rest b.front left → (k ≡ j) × (rest ≡ left)
      go (alike f r) =
          let w : IsWrongAt Script n b.front k left = subst (λ q. IsWrongAt Script n q k left) f (subst (λ q. IsWrongAt Script n a.front k q) r a.wrong) in
          (same_kind b.front k j left w b.wrong, r)
      go (shorter t z g r) = absurd (beyond a.front k t z (z ++ left) (subst (IsWrongAt Script n a.front k) r a.wrong) (subst (CanBegin Script n) g b.begins))
      go (longer t z g r) = absurd (beyond b.front j t z (z ++ rest) (subst (IsWrongAt Script n b.front j) r b.wrong) (subst (CanBegin Script n) g a.begins))
