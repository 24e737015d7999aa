-- Pieces between separators, one after the other.
use Rattle.std.proofs.Common.{◌≡◌, ◌⊎◌, inl, inr, ℕ, zero, suc, ◌+◌, ◌<◌, ◌≤◌, Bool, true, false, cond, not, List, [], ◌∷◌, ◌++◌, length, take, drop, refl, sym}
use Rattle.std.proofs.Common.{ap, ◌∙◌, subst, arith, Option, Some, None, option_map}
use Rattle.std.specs.Prelude.{◌==◌}
use Rattle.std.specs.List.{prefix_len}
use Rattle.std.proofs.lemmas.Bool.{cases_lt}
use Rattle.std.proofs.lemmas.List.{append_assoc, take_all}
use Rattle.heap_schedule.specs.declared.field.Field.{Field}
use Rattle.heap_schedule.specs.Fields.{all_fields, differs, field_of, in_front, onto_first, fields_between}

pub by_bool : (b : Bool) → (b ≡ true) ⊎ (b ≡ false)
by_bool true = inl refl
by_bool false = inr refl

-- the front's length at a separator, and at another byte
at_separator : (x c : ℕ) (cs : List ℕ) → (c == x) ≡ true → prefix_len (differs x) (c ∷ cs) ≡ 0
at_separator x c cs t = ap (λ b. cond (not b) (1 + prefix_len (differs x) cs) 0) t

at_other : (x c : ℕ) (cs : List ℕ) → (c == x) ≡ false → prefix_len (differs x) (c ∷ cs) ≡ 1 + prefix_len (differs x) cs
at_other x c cs f = ap (λ b. cond (not b) (1 + prefix_len (differs x) cs) 0) f

split_here : (x c : ℕ) (cs : List ℕ) → (c == x) ≡ true → fields_between x (c ∷ cs) ≡ [] ∷ fields_between x cs
split_here x c cs t = ap (λ b. cond b ([] ∷ fields_between x cs) (onto_first c (fields_between x cs))) t

split_on : (x c : ℕ) (cs : List ℕ) → (c == x) ≡ false → fields_between x (c ∷ cs) ≡ onto_first c (fields_between x cs)
split_on x c cs f = ap (λ b. cond b ([] ∷ fields_between x cs) (onto_first c (fields_between x cs))) f

pub pieces_whole : (x : ℕ) (bs : List ℕ) → prefix_len (differs x) bs ≡ length bs → fields_between x bs ≡ bs ∷ []
pieces_whole x [] e = refl
pieces_whole x (c ∷ cs) e = elim (by_bool (c == x)) [
  | inl t ↦ (let z = at_separator x c cs t in absurd (omega (arith, z, e)))
  | inr f ↦ (let z = at_other x c cs f in let l : prefix_len (differs x) cs ≡ length cs = omega (arith, z, e) in
      split_on x c cs f ∙ ap (onto_first c) (pieces_whole x cs l))
]

pub pieces_cut : (x : ℕ) (bs : List ℕ) (n : ℕ) → prefix_len (differs x) bs ≡ n → n < length bs → fields_between x bs ≡ take n bs ∷ fields_between x (drop (suc n) bs)
pieces_cut x [] n e h = absurd (omega arith)
pieces_cut x (c ∷ cs) zero e h = elim (by_bool (c == x)) [
  | inl t ↦ split_here x c cs t
  | inr f ↦ (let z = at_other x c cs f in absurd (omega (arith, z, e)))
]
pieces_cut x (c ∷ cs) (suc n) e h = elim (by_bool (c == x)) [
  | inl t ↦ (let z = at_separator x c cs t in absurd (omega (arith, z, e)))
  | inr f ↦ (let z = at_other x c cs f in let l : prefix_len (differs x) cs ≡ n = omega (arith, z, e) in
      split_on x c cs f ∙ ap (onto_first c) (pieces_cut x cs n l (omega arith)))
]

-- there is a first piece
some_onto : (c : ℕ) (ps : List (List ℕ)) → (q : List ℕ) × (qs : List (List ℕ)) × (onto_first c ps ≡ q ∷ qs)
some_onto c [] = (c ∷ [], [], refl)
some_onto c (p ∷ ps) = (c ∷ p, ps, refl)

pub pieces_some : (x : ℕ) (bs : List ℕ) → (q : List ℕ) × (qs : List (List ℕ)) × (fields_between x bs ≡ q ∷ qs)
pieces_some x [] = ([], [], refl)
pieces_some x (c ∷ cs) = elim (by_bool (c == x)) [
  | inl t ↦ ([], fields_between x cs, split_here x c cs t)
  | inr f ↦ (let s = some_onto c (fields_between x cs) in (s.0, s.1, split_on x c cs f ∙ s.2))
]

-- what was read so far, and what is left
abbrev pub behind : {A : Type 0} → List A → Option (List A) → Option (List A)
behind xs None = None
behind xs (Some ys) = Some (xs ++ ys)

pub behind_none : {A : Type 0} (r : Option (List A)) → behind [] r ≡ r
behind_none None = refl
behind_none (Some ys) = refl

pub one_more : {A : Type 0} (xs : List A) (x : A) (r : Option (List A)) → behind xs (in_front (Some x) r) ≡ behind (xs ++ x ∷ []) r
one_more xs x None = refl
one_more xs x (Some ys) = ap Some (sym (append_assoc xs (x ∷ []) ys))

one_on : (n : ℕ) → n + 1 ≡ suc n
one_on n = omega arith

-- the same with what stands behind the separator
pub pieces_behind : (x : ℕ) (bs rest : List ℕ) (n : ℕ) → prefix_len (differs x) bs ≡ n → n < length bs → rest ≡ drop (n + 1) bs
    → fields_between x bs ≡ take n bs ∷ fields_between x rest
pieces_behind x bs rest n e h is =
    pieces_cut x bs n e h ∙ ap (λ r. take n bs ∷ fields_between x r) (sym (is ∙ ap (λ m. drop m bs) (one_on n)))

-- a field, and more behind it
pub fields_more : (fs gs : List Field) (f : Field) (bs rest : List ℕ) (n : ℕ) → prefix_len (differs 32) bs ≡ n → n < length bs
    → rest ≡ drop (n + 1) bs → field_of (take n bs) ≡ Some f → gs ≡ fs ++ f ∷ []
    → behind gs (all_fields (fields_between 32 rest)) ≡ behind fs (all_fields (fields_between 32 bs))
fields_more fs gs f bs rest n e h is found added = ap (λ xs. behind xs (all_fields (fields_between 32 rest))) added
    ∙ sym (ap (λ ps. behind fs (all_fields ps)) (pieces_behind 32 bs rest n e h is)
    ∙ ap (λ x. behind fs (in_front x (all_fields (fields_between 32 rest)))) found ∙ one_more fs f (all_fields (fields_between 32 rest)))

-- the last field
pub fields_last : (fs gs : List Field) (f : Field) (bs : List ℕ) (n : ℕ) → prefix_len (differs 32) bs ≡ n → n ≡ length bs
    → field_of (take n bs) ≡ Some f → gs ≡ fs ++ f ∷ [] → behind fs (all_fields (fields_between 32 bs)) ≡ Some gs
fields_last fs gs f bs n e at is added =
    let whole : take n bs ≡ bs = take_all n bs (omega (arith, at)) in
    let found : field_of bs ≡ Some f = subst (λ xs. field_of xs ≡ Some f) whole is in
    ap (λ ps. behind fs (all_fields ps)) (pieces_whole 32 bs (e ∙ at)) ∙ ap (λ x. behind fs (in_front x (Some []))) found ∙ ap Some (sym added)

-- what is no field
pub fields_bad : (fs : List Field) (bs : List ℕ) (n : ℕ) → prefix_len (differs 32) bs ≡ n → n ≤ length bs → field_of (take n bs) ≡ None
    → behind fs (all_fields (fields_between 32 bs)) ≡ None
fields_bad fs bs n e h is = elim (cases_lt n (length bs)) [
  | inl l ↦ ap (λ ps. behind fs (all_fields ps)) (pieces_cut 32 bs n e l)
      ∙ ap (λ x. behind fs (in_front x (all_fields (fields_between 32 (drop (suc n) bs))))) is
  | inr g ↦ (let at : n ≡ length bs = omega arith in
      let whole : take n bs ≡ bs = take_all n bs g in
      let found : field_of bs ≡ None = subst (λ xs. field_of xs ≡ None) whole is in
      ap (λ ps. behind fs (all_fields ps)) (pieces_whole 32 bs (e ∙ at)) ∙ ap (λ x. behind fs (in_front x (Some []))) found)
]
