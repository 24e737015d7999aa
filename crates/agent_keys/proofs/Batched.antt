-- Interning many lists: what is left to do completes what was done.
use Rattle.std.proofs.Common.{
  ◌≡◌,
  ◌∙◌,
  ℕ,
  suc,
  ◌+◌,
  ◌-◌,
  ◌<◌,
  ◌≤◌,
  List,
  [],
  ◌∷◌,
  ◌++◌,
  length,
  length-take-le,
  get_or,
  set,
  take,
  drop,
  slice_range,
  append_assoc,
  inl,
  inr,
  refl,
  sym,
  subst,
  ap,
  arith,
  Option,
  None,
  Some,
  Ok,
  Err,
}
use Rattle.std.proofs.lemmas.List.{drop_all, drop_more, drop-drop, length-drop, drop-set-lt, take_more_set, take-append-drop}
use Rattle.heap_rule.specs.Layout.{MAX}
use Rattle.heap_intern.specs.declared.table.faults.TableFull.{TableFull}
use Rattle.heap_agents.specs.declared.held.Held.{Held}
use Rattle.agent_keys.specs.Batch.{AreEnds, InternedInTurn, lists_from}
use Rattle.agent_keys.specs.Keys.{InternedUnits}

-- x became m by the first k lists, with the ids `now`: whatever interning the others does, completes interning all
abbrev pub Completes : (x m : Held) (us ends old now : List ℕ) (from k : ℕ) → Type 0
Completes x m us ends old now from k = (y : Held) (new : List ℕ) (n d : ℕ) (t : Option TableFull) → d ≡ k + n
    → InternedInTurn m y (lists_from from us (drop k ends)) (drop k now) new n t → InternedInTurn x y (lists_from 0 us ends) old (take k now ++ new) d t

pub begins : (x : Held) (us ends ids : List ℕ) → Completes x x us ends ids ids 0 0
begins x us ends ids y new n d t e h = let same : n ≡ d = omega (arith, e) in
    subst (λ (m : ℕ). InternedInTurn x y (lists_from 0 us ends) ids new m t) same h

-- the next list
module _ (k : ℕ) (ends : List ℕ) (l : k < length ends) where
  abbrev e : ℕ
  e = get_or ends k 0

  split_at : drop k ends ≡ e ∷ drop (k + 1) ends
  split_at = drop_more ends k 0 l

  pub next_end : (from n : ℕ) → AreEnds from n (drop k ends) → (from ≤ e) × (e ≤ n) × (e ≤ from + MAX) × AreEnds e n (drop (k + 1) ends)
  next_end from n h = subst (AreEnds from n) split_at h

  -- the list up to it is no longer than a string may be
  pub span_short : (from : ℕ) (us : List ℕ) → AreEnds from (length us) (drop k ends) → length (slice_range us from e) ≤ MAX
  span_short from us h = let a = next_end from (length us) h in let long = length-drop from us in
      let most = length-take-le (e - from) (drop from us) (omega (arith, long, a.1)) in omega (arith, most, a.0, a.2)

  module _ (x m : Held) (us old now : List ℕ) (from : ℕ) (whole : Completes x m us ends old now from k) where
    pub goes_on : (z : Held) (i : ℕ) → k < length now → InternedUnits m z (slice_range us from e) (Ok i) → Completes x z us ends old (set now k i) e (k + 1)
    goes_on z i here done y new n d t at h =
        let rest : drop (k + 1) (set now k i) ≡ drop 1 (drop k now) = drop-set-lt (k + 1) now k i (omega arith) ∙ sym (drop-drop 1 k now) in
        let behind = subst (λ (olds : List ℕ). InternedInTurn z y (lists_from e us (drop (k + 1) ends)) olds new n t) rest h in
        let front : take k now ++ i ∷ new ≡ take (k + 1) (set now k i) ++ new = sym (append_assoc (take k now) (i ∷ []) new) ∙ ap (λ (l : List ℕ). l ++ new) (sym (take_more_set now k i here)) in
        subst (λ (l : List ℕ). InternedInTurn x y (lists_from 0 us ends) old l d t) front
        (whole y (i ∷ new) (suc n) d t (omega (arith, at))
        (subst (λ (es : List ℕ). InternedInTurn m y (lists_from from us es) (drop k now) (i ∷ new) (suc n) t) (sym split_at) (inr (z, i, new, n, done, refl, refl, behind))))

    pub stops : (y : Held) (f : TableFull) → InternedUnits m y (slice_range us from e) (Err f) → InternedInTurn x y (lists_from 0 us ends) old now k (Some f)
    stops y f refused = subst (λ (l : List ℕ). InternedInTurn x y (lists_from 0 us ends) old l k (Some f)) (take-append-drop k now)
        (whole y (drop k now) 0 k (Some f) (omega arith)
        (subst (λ (es : List ℕ). InternedInTurn m y (lists_from from us es) (drop k now) (drop k now) 0 (Some f)) (sym split_at) (inl (f, refused, refl, refl, refl))))

-- no list is left
pub ends_at : (x m : Held) (us ends old now : List ℕ) (from k d : ℕ) → Completes x m us ends old now from k → length ends ≤ k → d ≡ k
    → InternedInTurn x m (lists_from 0 us ends) old now d None
ends_at x m us ends old now from k d whole past is = subst (λ (l : List ℕ). InternedInTurn x m (lists_from 0 us ends) old l d None) (take-append-drop k now)
    (whole m (drop k now) 0 d None (omega (arith, is))
    (subst (λ (es : List ℕ). InternedInTurn m m (lists_from from us es) (drop k now) (drop k now) 0 None) (sym (drop_all k ends past)) (refl, refl, refl, refl)))
