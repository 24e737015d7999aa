-- A place where a quote stands has one literal or one fault.
use Rattle.std.proofs.Common.{◌≡◌, ℕ, ◌+◌, ◌-◌, ◌<◌, ◌≤◌, List, [], ◌∷◌, ◌++◌, zero, suc, length, drop, true, refl, sym, ap, ◌∙◌, subst, arith, ◌⊎◌, inl, inr, Ok, Err}
use Rattle.std.proofs.lemmas.Bool.Decides.{nat_tests}
use Rattle.std.specs.Prelude.{encode_utf8_all, slice_index, Result, IfOk, IfErr}
use Rattle.std.specs.Str.{chars, IsUtf8}
use Rattle.js_literal.specs.Place.{StandsAt}
use Rattle.js_literal.specs.Literal.{is_quote, Closed, piece, IsBroken, later, StringFaultKind, LiteralOf, LiteralFaultOf, fault_at, BeginsString}
use Rattle.js_literal.specs.declared.fault.LiteralFault.{LiteralFault}
use Rattle.js_literal.specs.declared.fault.LiteralFault.TheVariants.{Memory}
use Rattle.js_literal.proofs.Unique.{one_closed, not_both, one_fault}
use Rattle.js_literal.specs.Reader.{reading, Reading, Take, Shut, Break}
use Rattle.js_literal.proofs.Pieces.{EndsIn, closed_ends, broken_ends, taken, shorter, shut, broken}
use Rattle.js_literal.proofs.Places.{left_stands, left_fits, ascii_stands, one_rest, one_place}

pub one_literal : (text : List ℕ) (at : ℕ) (us vs : List ℕ) (a b : ℕ) → IsUtf8 text → LiteralOf text at us a → LiteralOf text at vs b → (us ≡ vs) × (a ≡ b)
one_literal text at us vs a b u h g =
    let same = one_rest text at (h.q ∷ h.s) (g.q ∷ g.s) h.starts g.starts in
    let q : g.q ≡ h.q = cc in
    let s : g.s ≡ h.s = cc in
    let t : Closed h.q h.s vs g.rest = subst (λ k. Closed k h.s vs g.rest) q (subst (λ r. Closed g.q r vs g.rest) s g.closed) in
    let r = one_closed h.q h.s us h.rest vs g.rest h.quote h.closed t in
    (r.0, one_place text a b h.rest u h.ends (subst (StandsAt text b) (sym (r.1)) g.ends))

pub never_both : (text : List ℕ) (at : ℕ) (us : List ℕ) (a : ℕ) (f : LiteralFault) → LiteralOf text at us a → LiteralFaultOf text at f → ⊥
never_both text at us a f h g =
    let same = one_rest text at (h.q ∷ h.s) (g.q ∷ g.s) h.starts g.starts in
    let q : g.q ≡ h.q = cc in
    let s : g.s ≡ h.s = cc in
    not_both h.q h.s us h.rest g.left g.kind h.quote h.closed (subst (λ k. IsBroken k h.s g.kind g.left) q (subst (λ r. IsBroken g.q r g.kind g.left) s g.broken))

pub one_fault_of : (text : List ℕ) (at : ℕ) (f e : LiteralFault) → IsUtf8 text → LiteralFaultOf text at f → LiteralFaultOf text at e → f ≡ e
one_fault_of text at f e u h g =
    let same = one_rest text at (h.q ∷ h.s) (g.q ∷ g.s) h.starts g.starts in
    let q : g.q ≡ h.q = cc in
    let s : g.s ≡ h.s = cc in
    let r = one_fault h.q h.s h.left h.kind g.left g.kind h.quote h.broken (subst (λ k. IsBroken k h.s g.kind g.left) q (subst (λ r. IsBroken g.q r g.kind g.left) s g.broken)) in
    let p = one_place text h.here_at g.here_at h.left u h.shows (subst (StandsAt text g.here_at) (sym (r.1)) g.shows) in
    let k = r.0 in
    h.is_fault ∙ (ap (λ k. fault_at k at h.here_at) k ∙ (ap (λ p. fault_at g.kind at p) p ∙ sym g.is_fault))

pub quote_small : (c : ℕ) → is_quote c ≡ true → c < 128
quote_small c h = grind (arith, nat_tests)

pub begins : (text : List ℕ) (at : ℕ) → IsUtf8 text → BeginsString text at → StandsAt text at (slice_index text at ∷ chars (drop (at + 1) text))
begins text at u b = ascii_stands text at u (b.0) (quote_small (slice_index text at) (b.1))

after_quote : (q : ℕ) (s rest : List ℕ) → EndsIn s rest → EndsIn (q ∷ s) rest
after_quote q s rest e = (q ∷ e.0, ap (λ r. q ∷ r) (e.1))

pub closed_ends_at : (text : List ℕ) (at q : ℕ) (s us rest : List ℕ) (left : ℕ) → IsUtf8 text → StandsAt text at (q ∷ s) → Closed q s us
    rest → length (encode_utf8_all rest) ≡ left → (left ≤ length text) × StandsAt text (length text - left) rest
closed_ends_at text at q s us rest left u b h l =
    let e = after_quote q s rest (closed_ends q s us rest h) in
    (left_fits text at (q ∷ s) rest left u b e l, left_stands text at (q ∷ s) rest left u b e l)

pub closed_literal : (text : List ℕ) (at q : ℕ) (s us rest : List ℕ) (left : ℕ) → IsUtf8 text → StandsAt text at (q ∷ s) → is_quote q ≡ true
    → Closed q s us rest → length (encode_utf8_all rest) ≡ left → LiteralOf text at us (length text - left)
closed_literal text at q s us rest left u b hq h l = record {
  q = q;
  s = s;
  rest = rest;
  starts = b;
  quote = hq;
  closed = h;
  ends = (closed_ends_at text at q s us rest left u b h l).1;
}

pub broken_ends_at : (text : List ℕ) (at q : ℕ) (s : List ℕ) (k : StringFaultKind) (rest : List ℕ) (left : ℕ) → IsUtf8 text → StandsAt text
    at (q ∷ s) → IsBroken q s k rest → length (encode_utf8_all rest) ≡ left → (left ≤ length text) × StandsAt text (length text - left) rest
broken_ends_at text at q s k rest left u b h l =
    let e = after_quote q s rest (broken_ends q s rest k h) in
    (left_fits text at (q ∷ s) rest left u b e l, left_stands text at (q ∷ s) rest left u b e l)

pub broken_literal : (text : List ℕ) (at q : ℕ) (s : List ℕ) (k : StringFaultKind) (rest : List ℕ) (left : ℕ) → IsUtf8 text → StandsAt text
    at (q ∷ s) → is_quote q ≡ true → IsBroken q s k rest → length (encode_utf8_all rest) ≡ left → LiteralFaultOf text at (fault_at k at (length text - left))
broken_literal text at q s k rest left u b hq h l = record {
  q = q;
  s = s;
  left = rest;
  kind = k;
  here_at = length text - left;
  starts = b;
  quote = hq;
  broken = h;
  shows = (broken_ends_at text at q s k rest left u b h l).1;
  is_fault = refl;
}

abbrev fail : LiteralFault → Result (List ℕ × ℕ) LiteralFault
fail e = Err e

-- what is right is the only answer
pub only_literal : (text : List ℕ) (at : ℕ) (r : Result (List ℕ × ℕ) LiteralFault) → IsUtf8 text → IfOk r
    (λ p. LiteralOf text at (p.0) (p.1)) → IfErr r (λ e. (e ≡ Memory) ⊎ LiteralFaultOf text at e) → (us : List ℕ) (end : ℕ) → LiteralOf text
    at us end → (r ≡ Ok (us, end)) ⊎ (r ≡ Err Memory)
only_literal text at (Ok p) u ok err us end h =
    let same = one_literal text at (p.0) us (p.1) end u ok h in
    inl (ap (λ x. Ok (x, p.1)) (same.0) ∙ ap (λ x. Ok (us, x)) (same.1))
only_literal text at (Err e) u ok err us end h = go err
  where
    go : (e ≡ Memory) ⊎ LiteralFaultOf text at e → (fail e ≡ Ok (us, end)) ⊎ (fail e ≡ Err Memory)
    go (inl m) = inr (ap (λ x. Err x) m)
    go (inr f) = absurd (never_both text at us end e h f)

pub only_fault : (text : List ℕ) (at : ℕ) (r : Result (List ℕ × ℕ) LiteralFault) → IsUtf8 text → IfOk r (λ p. LiteralOf text at (p.0) (p.1))
    → IfErr r (λ e. (e ≡ Memory) ⊎ LiteralFaultOf text at e) → (f : LiteralFault) → LiteralFaultOf text at f → (r ≡ Err f) ⊎ (r ≡ Err Memory)
only_fault text at (Ok p) u ok err f h = absurd (never_both text at (p.0) (p.1) f ok h)
only_fault text at (Err e) u ok err f h = go err
  where
    go : (e ≡ Memory) ⊎ LiteralFaultOf text at e → (fail e ≡ Err f) ⊎ (fail e ≡ Err Memory)
    go (inl m) = inr (ap (λ x. Err x) m)
    go (inr g) = inl (ap (λ x. Err x) (one_fault_of text at e f u g h))

-- the inside of a literal is closed or broken; n bounds what is left
some_end : (n q : ℕ) (s : List ℕ) → is_quote q ≡ true → length s < n → ((us : List ℕ) × (rest : List ℕ) × Closed q s us rest) ⊎ ((k : StringFaultKind) × (left : List ℕ) × IsBroken q s k left)
some_end zero q s hq l = absurd (omega arith)
some_end (suc n) q s hq l = go (reading q s) refl (λ t m. some_end n q t hq m)
  where
    more : (us mid : List ℕ) → Take us mid ≡ reading q s → ((us : List ℕ) × (rest : List ℕ) × Closed q
        mid us rest) ⊎ ((k : StringFaultKind) × (left : List ℕ) × IsBroken q mid k left) → ((us : List ℕ) × (rest : List ℕ) × Closed q
        s us rest) ⊎ ((k : StringFaultKind) × (left : List ℕ) × IsBroken q s k left)
    more us mid e (inl h) = inl (us ++ h.0, h.1, piece s mid (h.1) us (h.0) (taken q s us mid hq e) (h.2))
    more us mid e (inr h) = inr (h.0, h.1, later s mid us (h.1) (h.0) (taken q s us mid hq e) (h.2))

    go : (r : Reading) → reading q s ≡ r → ((t : List ℕ) → length t < n → ((us : List ℕ) × (rest : List ℕ) × Closed q
        t us rest) ⊎ ((k : StringFaultKind) × (left : List ℕ) × IsBroken q t k left)) → ((us : List ℕ) × (rest : List ℕ) × Closed q
        s us rest) ⊎ ((k : StringFaultKind) × (left : List ℕ) × IsBroken q s k left)
    go (Take us mid) e ih = more us mid (sym e) (ih mid (omega (arith, l, shorter q s us mid hq (sym e))))
    go (Shut rest) e ih = inl ([], rest, shut q s rest hq (sym e))
    go (Break k) e ih = inr (k, s, broken q s k hq (sym e))

-- a literal or a fault
pub some_literal : (text : List ℕ) (at : ℕ) → IsUtf8 text → BeginsString text at → ((us : List ℕ) × (end : ℕ) × LiteralOf text at us end) ⊎ ((f : LiteralFault) × LiteralFaultOf text at f)
some_literal text at u b = go (some_end (length s + 1) q s (b.1) (omega arith))
  where
    q : ℕ
    q = slice_index text at

    s : List ℕ
    s = chars (drop (at + 1) text)

    go : ((us : List ℕ) × (rest : List ℕ) × Closed q s us rest) ⊎ ((k : StringFaultKind) × (left : List ℕ) × IsBroken q
        s k left) → ((us : List ℕ) × (end : ℕ) × LiteralOf text at us end) ⊎ ((f : LiteralFault) × LiteralFaultOf text at f)
    go (inl h) = inl (h.0, length text - length (encode_utf8_all (h.1)), closed_literal text at q s (h.0) (h.1) (length (encode_utf8_all (h.1))) u (begins text at u b) (b.1) (h.2) refl)
    go (inr h) = inr (fault_at (h.0) at (length text - length (encode_utf8_all (h.1))), broken_literal text at q s (h.0) (h.1) (length (encode_utf8_all (h.1))) u (begins text at u b) (b.1) (h.2) refl)
