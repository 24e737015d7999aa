-- Helpers: no public contract reaches these definitions.
-- What a new string needs is found, and what a call makes with the reserve: a string, or none where that
-- has not what that needs; and what one exchange of the counter claims for it.
use Rattle.std.specs.Prelude.{◌≡◌, ◌⊎◌, ℕ, zero, suc, ◌+◌, ◌-◌, ◌<◌, ◌≤◌, [], ◌∷◌, ◌++◌, List, length}
use Rattle.std.specs.Prelude.{Option, Some, None, Result, Ok, Err}
use Rattle.heap_rule.specs.declared.size.HeapSize.{HeapSize}
use Rattle.heap_rule.specs.declared.view.View.{View}
use Rattle.heap_rule.specs.Births.{part}
use Rattle.heap_rule.specs.Maps.{Has, HasKey}
use Rattle.heap_read.specs.declared.string.JsStr.{JsStr}
use Rattle.heap_read.specs.Reads.{OnlyLoads}
use Rattle.heap_text.specs.declared.faults.JoinFault.{JoinFault}
use Rattle.heap_text.specs.declared.faults.JoinFault.TheVariants.{Full}
use Rattle.heap_text.specs.declared.faults.TextFull.{TextFull}
use Rattle.heap_text.specs.Texts.{KeepsOwn}
use Rattle.heap_reserve.specs.declared.reserve.Reserve.{Reserve}
use Rattle.heap_reserve.specs.Making.{IsFlatAnswer, IsLongCut, IsLongJoin, IsPartTaken, IsRopeTaken}
use Rattle.heap_reserve.specs.Making.{IsShortCut, IsShortJoin}
use Rattle.heap_reserve.specs.Reserves.{HasAbove, kept_ids, words_kept}

-- so many ids, one behind the other
abbrev pub ids_from : ℕ → ℕ → List ℕ
ids_from first zero = []
ids_from first (suc n) = first ∷ ids_from (suc first) n

-- the answer of joining two strings by a copy
abbrev pub join_answer : Result JsStr TextFull → Result JsStr JoinFault
join_answer (Ok t) = Ok t
join_answer (Err f) = Err (Full f)

-- n content words, from `start` on, for a new string: the first ones of the run, where it has so many, else
-- claimed ones
pub record FindsWords (v w : View) (r : Reserve) (n start : ℕ) : Type 0 where
  pub enough : n ≤ words_kept r → w.used.words ≡ v.used.words
  pub claimed : words_kept r < n → w.used.words ≡ v.used.words + n
  pub ids : w.used.ids ≡ v.used.ids
  pub own_ids : w.own_ids ≡ v.own_ids
  pub own : KeepsOwn v w
  pub there : (q : ℕ) → q < n → Has w.own_words (start + q) 0
  pub none : n ≡ 0 → start ≡ 0
  pub first : 0 < n → n ≤ words_kept r → start ≡ r.start
  pub fresh : words_kept r < n → (q : ℕ) → q < n → HasKey v.own_words (start + q) → ⊥

-- an id for a new string: the first one of the reserve, which left it, else a claimed one
pub record FindsId (v w : View) (r s : Reserve) (id : ℕ) : Type 0 where
  pub enough : 0 < length (kept_ids r) → (kept_ids r ≡ id ∷ kept_ids s) × (w.used.ids ≡ v.used.ids)
  pub claimed : length (kept_ids r) ≡ 0 → (kept_ids s ≡ kept_ids r) × (w.used.ids ≡ v.used.ids + 1)
  pub run : (s.start ≡ r.start) × (s.end ≡ r.end)
  pub words : (w.used.words ≡ v.used.words) × (w.own_words ≡ v.own_words)
  pub own : KeepsOwn v w
  pub there : HasKey w.own_ids id

-- both, which left the reserve where it had them
pub record FindsBoth (v w : View) (r s : Reserve) (n id start : ℕ) : Type 0 where
  pub had_id : 0 < length (kept_ids r) → (kept_ids r ≡ id ∷ kept_ids s) × (w.used.ids ≡ v.used.ids)
  pub new_id : length (kept_ids r) ≡ 0 → (kept_ids s ≡ kept_ids r) × (w.used.ids ≡ v.used.ids + 1)
  pub had_words : n ≤ words_kept r → (s.start ≡ r.start + n) × (s.end ≡ r.end) × (w.used.words ≡ v.used.words)
  pub new_words : words_kept r < n → (s.start ≡ r.start) × (s.end ≡ r.end)
      × (w.used.words ≡ v.used.words + n)
  pub own : KeepsOwn v w
  pub own_id : HasKey w.own_ids id
  pub there : (q : ℕ) → q < n → Has w.own_words (start + q) 0
  pub none : n ≡ 0 → start ≡ 0
  pub first : 0 < n → n ≤ words_kept r → start ≡ r.start
  pub fresh : words_kept r < n → (q : ℕ) → q < n → HasKey v.own_words (start + q) → ⊥

module _ (v w : View) (r s : Reserve) where
  abbrev pub IsLeft : {T : Type 0} → Option T → Type 0
  IsLeft o = (o ≡ None) × (s ≡ r) × OnlyLoads v w

  pub record MakesRope (a b : JsStr) (us : List ℕ) (o : Option (Result JsStr TextFull)) : Type 0 where
    pub made : HasAbove r a.id → HasAbove r b.id
        → (t : JsStr) × (o ≡ Some (Ok t)) × IsRopeTaken v w r s a b t us
    pub left : (HasAbove r a.id × HasAbove r b.id → ⊥) → IsLeft o

  pub record MakesPart (p : JsStr) (from : ℕ) (us : List ℕ) (o : Option (Result JsStr TextFull)) : Type 0
    where
      pub made : HasAbove r p.id → (t : JsStr) × (o ≡ Some (Ok t)) × IsPartTaken v w r s p from t us
      pub left : (HasAbove r p.id → ⊥) → IsLeft o

  -- a new string of two is made with the reserve, or none is
  pub record TriesJoin (z : HeapSize) (most : ℕ) (a b : JsStr) (us vs : List ℕ)
      (o : Option (Result JsStr TextFull)) : Type 0 where
    pub short : IsShortJoin r most us vs
        → (t : Result JsStr TextFull) × (o ≡ Some t) × IsFlatAnswer v w r s z (us ++ vs) t
    pub long : IsLongJoin r most a b us vs
        → (t : JsStr) × (o ≡ Some (Ok t)) × IsRopeTaken v w r s a b t (us ++ vs)
    pub left : (IsShortJoin r most us vs → ⊥) → (IsLongJoin r most a b us vs → ⊥) → IsLeft o

  -- a part is made with the reserve, or none is
  pub record TriesCut (z : HeapSize) (p : JsStr) (from to : ℕ) (us : List ℕ)
      (o : Option (Result JsStr TextFull)) : Type 0 where
    pub short : IsShortCut r from to us
        → (t : Result JsStr TextFull) × (o ≡ Some t) × IsFlatAnswer v w r s z (part from (to - from) us) t
    pub long : IsLongCut r p from to us
        → (t : JsStr) × (o ≡ Some (Ok t)) × IsPartTaken v w r s p from t (part from (to - from) us)
    pub left : (IsShortCut r from to us → ⊥) → (IsLongCut r p from to us → ⊥) → IsLeft o
