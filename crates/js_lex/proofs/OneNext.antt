-- One thing comes next from a place on.
use Rattle.std.proofs.Common.{◌≡◌, ℕ, List, [], refl, sym, ap, ◌∙◌, subst, ◌⊎◌, inl, inr, Ok, Err, Option, Some, None}
use Rattle.std.specs.Prelude.{IsUtf8, Result}
use Rattle.js_lex.specs.Tokens.{Element, End, Skip, TokenOf, Fault, ElementAt, Lexes, done, skip, token}
use Rattle.js_lex.specs.Next.{Separates, nothing, more, GivesToken}
use Rattle.js_lex.specs.declared.token.Token.{Token}
use Rattle.js_lex.specs.declared.token.LexFault.{LexFault}
use Rattle.js_lex.specs.declared.token.LexFault.TheVariants.{Memory}
use Rattle.js_lex.proofs.Lookaheads.{one_element}
use Rattle.js_lex.specs.Reader.{token_at}

abbrev Stays : Element → Type 0
Stays (Skip mid) = ⊥
Stays End = Unit {0}
Stays (TokenOf k end) = Unit {0}
Stays (Fault f) = Unit {0}

-- the first element from a place on that separates nothing, with its own place
data First (text : List ℕ) : ℕ → Element → ℕ → Type 0 where
  here : (at : ℕ) (m : Element) → Stays m → ElementAt text at m → First text at m at
  later : (at mid : ℕ) (m : Element) (place : ℕ) → ElementAt text at (Skip mid) → First text mid m place → First text at m place

-- how what comes first begins
abbrev Begins : List ℕ → ℕ → Element → ℕ → Element → Type 0
Begins text at n place (Skip mid) = First text mid n place
Begins text at n place m = (m ≡ n) × (at ≡ place)

begun : (text : List ℕ) (at : ℕ) (n : Element) (place : ℕ) → First text at n place → (m : Element) × ElementAt text at m × Begins text at n place m
begun text _ _ _ (here at m stays h) = (m, h, go m stays)
  where
    go : (m : Element) → Stays m → Begins text at m at m
    go (Skip mid) stays = absurd stays
    go End stays = (refl, refl)
    go (TokenOf k end) stays = (refl, refl)
    go (Fault f) stays = (refl, refl)
begun text _ _ _ (later at mid m place h f) = (Skip mid, h, f)

begins_same : (text : List ℕ) (at : ℕ) (n : Element) (place : ℕ) (m : Element) → IsUtf8 text → ElementAt text at m → First text at n place → Begins text at n place m
begins_same text at n place m u h f = let b = begun text at n place f in subst (Begins text at n place) (one_element text at (b.0) m u (b.1) h) (b.2)

one_first : (text : List ℕ) (at : ℕ) (m : Element) (p : ℕ) (n : Element) (q : ℕ) → IsUtf8 text → First text at m p → First text at n q → (m ≡ n) × (p ≡ q)
one_first text _ _ _ n q u (here at m stays h) g = go m stays (begins_same text at n q m u h g)
  where
    go : (m : Element) → Stays m → Begins text at n q m → (m ≡ n) × (at ≡ q)
    go (Skip mid) stays b = absurd stays
    go End stays b = b
    go (TokenOf k end) stays b = b
    go (Fault f) stays b = b
one_first text _ _ _ n q u (later at mid m p h f) g = one_first text mid m p n q u f (begins_same text at n q (Skip mid) u h g)

behind : (text : List ℕ) (at mid : ℕ) (m : Element) (place : ℕ) → Separates text at mid → First text mid m place → First text at m place
behind text at _ m place nothing f = f
behind text at _ m place (more mid end s h) f = behind text at mid m place s (later mid end m place h f)

ends : (text : List ℕ) (at : ℕ) (ts : List Token) → ts ≡ [] → Lexes text at ts → (place : ℕ) × First text at End place
ends text _ _ e (done at h) = (at, here at End tt h)
ends text _ _ e (skip at mid ts h l) = let r = ends text mid ts e l in (r.0, later at mid End (r.0) h (r.1))
ends text _ _ e (token at mid k ts h l) = absurd cc

-- the answer by what comes first
abbrev answer : Element → ℕ → Result (Option Token) LexFault
answer End place = Ok None
answer (Skip mid) place = Ok None
answer (TokenOf k end) place = Ok (Some (token_at k place end))
answer (Fault f) place = Err f

abbrev Told : List ℕ → ℕ → Result (Option Token) LexFault → Type 0
Told text at r = (m : Element) × (place : ℕ) × First text at m place × (r ≡ answer m place)

told : (text : List ℕ) (at : ℕ) (r : Result (Option Token) LexFault) → GivesToken text at r → (r ≡ Err Memory) ⊎ Told text at r
told text at (Ok None) h = let f = ends text at [] refl h in inr (End, f.0, f.1, refl)
told text at (Ok (Some t)) h = inr (TokenOf t.kind t.to, t.from, behind text at t.from (TokenOf t.kind t.to) t.from h.apart (here t.from (TokenOf t.kind t.to) tt h.stands), refl)
told text at (Err e) (inl memory) = inl (ap Err memory)
told text at (Err e) (inr h) = inr (Fault e, h.place, behind text at h.place (Fault e) h.place h.apart (here h.place (Fault e) tt h.stands), refl)

pub one_next : (text : List ℕ) (at : ℕ) (r s : Result (Option Token) LexFault) → IsUtf8 text → GivesToken text at r → GivesToken text at s → (r ≡ s) ⊎ ((r ≡ Err Memory) ⊎ (s ≡ Err Memory))
one_next text at r s u h g = go (told text at r h) (told text at s g)
  where
    go : (r ≡ Err Memory) ⊎ Told text at r → (s ≡ Err Memory) ⊎ Told text at s → (r ≡ s) ⊎ ((r ≡ Err Memory) ⊎ (s ≡ Err Memory))
    go (inl e) q = inr (inl e)
    go (inr p) (inl e) = inr (inr e)
    go (inr p) (inr q) =
        let one = one_first text at (p.0) (p.1) (q.0) (q.1) u (p.2) (q.2) in
        inl (p.3 ∙ (ap (λ (m : Element). answer m (p.1)) (one.0) ∙ (ap (λ (n : ℕ). answer (q.0) n) (one.1) ∙ sym (q.3))))
