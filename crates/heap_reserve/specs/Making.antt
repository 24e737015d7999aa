-- What making, joining and cutting answer with pieces that are kept in advance.
use Rattle.std.specs.Prelude.{◌≡◌, ◌⊎◌, ℕ, ◌+◌, ◌-◌, ◌++◌, ◌<◌, ◌≤◌, false, List, length, Result, Ok, Err}
use Rattle.js_units.specs.Lanes.{is_wide, words_over}
use Rattle.js_header.specs.declared.form.Form.TheVariants.{Flat}
use Rattle.heap_rule.specs.declared.size.HeapSize.{HeapSize}
use Rattle.heap_rule.specs.declared.view.View.{View}
use Rattle.heap_rule.specs.Births.{part}
use Rattle.heap_rule.specs.Maps.{Has}
use Rattle.heap_read.specs.declared.string.JsStr.{JsStr}
use Rattle.heap_text.specs.declared.faults.JoinFault.{JoinFault}
use Rattle.heap_text.specs.declared.faults.JoinFault.TheVariants.{Full}
use Rattle.heap_text.specs.declared.faults.TextFull.{TextFull}
use Rattle.heap_text.specs.Joins.{HasPart, HasRope, IsCopied, IsCut, IsJoined, MIN_CONS}
use Rattle.heap_text.specs.Texts.{KeepsOwn}
use Rattle.heap_reserve.specs.declared.reserve.Reserve.{Reserve}
use Rattle.heap_reserve.specs.Reserves.{HasAbove, HasSome, IsTakenFrom, IsTakingRefused, words_kept}

-- the content words that hold the units
abbrev pub words_holding : List ℕ → ℕ
words_holding us = words_over (is_wide us) (length us)

module _ (v w : View) (r s : Reserve) where
  -- a new flat string with these units, over the first words of the reserve where it has enough; with an id
  -- and words that left the reserve, or were claimed
  pub record IsFlatTaken (t : JsStr) (us : List ℕ) : Type 0 where
    pub units : Has w.units t.id us
    pub form : (start : ℕ) × Has w.forms t.id (Flat (is_wide us) start false)
        × (0 < words_holding us → words_holding us ≤ words_kept r → start ≡ r.start)
    pub taken : IsTakenFrom v w r s t.id (words_holding us)

  -- a new Cons of the strings a and b, with these units and the id that left the reserve
  pub record IsRopeTaken (a b t : JsStr) (us : List ℕ) : Type 0 where
    pub units : Has w.units t.id us
    pub rope : HasRope w a b t.id
    pub taken : IsTakenFrom v w r s t.id 0

  -- a new Sliced of the units of p from `from` on, with these units and the id that left the reserve
  pub record IsPartTaken (p : JsStr) (from : ℕ) (t : JsStr) (us : List ℕ) : Type 0 where
    pub units : Has w.units t.id us
    pub part : HasPart w p from t.id
    pub taken : IsTakenFrom v w r s t.id 0

  -- a new flat string with these units; or what the reserve has not of it was claimed, and refused
  abbrev pub IsFlatAnswer : HeapSize → List ℕ → Result JsStr TextFull → Type 0
  IsFlatAnswer z us answer = ((t : JsStr) × (answer ≡ Ok t) × IsFlatTaken t us)
      ⊎ ((f : TextFull) × (answer ≡ Err f) × IsTakingRefused v w z r s (words_holding us) f)

  -- Making a string of these units. It takes what the reserve has, and claims the rest; where the reserve has
  -- nothing, it is made as a `Text` makes it.
  pub record IsMade (z : HeapSize) (us : List ℕ) (answer : Result JsStr TextFull) : Type 0 where
    pub taken : HasSome r → IsFlatAnswer z us answer
    pub claimed : (HasSome r → ⊥) → (s ≡ r) × KeepsOwn v w × IsCopied v w z us answer

-- two strings are joined by a copy, and the reserve has something
abbrev pub IsShortJoin : Reserve → ℕ → List ℕ → List ℕ → Type 0
IsShortJoin r most us vs = (length us + length vs ≤ most) × (0 < length us) × (0 < length vs)
    × (length us + length vs < MIN_CONS) × HasSome r

-- two strings are joined by a Cons, and the first id of the reserve is greater than theirs
abbrev pub IsLongJoin : Reserve → ℕ → JsStr → JsStr → List ℕ → List ℕ → Type 0
IsLongJoin r most a b us vs = (length us + length vs ≤ most) × (0 < length us) × (0 < length vs)
    × (MIN_CONS ≤ length us + length vs) × HasAbove r a.id × HasAbove r b.id

-- a part that is not the whole is a copy, and the reserve has something
abbrev pub IsShortCut : Reserve → ℕ → ℕ → List ℕ → Type 0
IsShortCut r from to us = ((0 < from) ⊎ (to < length us)) × (to - from < MIN_CONS) × HasSome r

-- a part that is not the whole is a Sliced, and the first id of the reserve is greater than the string's
abbrev pub IsLongCut : Reserve → JsStr → ℕ → ℕ → List ℕ → Type 0
IsLongCut r p from to us = ((0 < from) ⊎ (to < length us)) × (MIN_CONS ≤ to - from) × HasAbove r p.id

module _ (v w : View) (z : HeapSize) (r s : Reserve) where
  -- Joining the strings a with the units us and b with the units vs, where a result has at most `most` units.
  -- A copy takes what the reserve has, and claims the rest; a Cons takes an id that serves it. Else the
  -- reserve stays, and the answer is that of a `Text`.
  pub record IsJoinedBy (most : ℕ) (a b : JsStr) (us vs : List ℕ)
      (answer : Result JsStr JoinFault) : Type 0 where
    pub short : IsShortJoin r most us vs
        → ((t : JsStr) × (answer ≡ Ok t) × IsFlatTaken v w r s t (us ++ vs))
        ⊎ ((f : TextFull) × (answer ≡ Err (Full f)) × IsTakingRefused v w z r s (words_holding (us ++ vs)) f)
    pub long : IsLongJoin r most a b us vs
        → (t : JsStr) × (answer ≡ Ok t) × IsRopeTaken v w r s a b t (us ++ vs)
    pub claimed : (IsShortJoin r most us vs → ⊥) → (IsLongJoin r most a b us vs → ⊥)
        → (s ≡ r) × KeepsOwn v w × IsJoined v w z most a b us vs answer

  -- Cutting the part from unit `from` up to unit `to` out of the string p with the units us, in the same way.
  pub record IsCutBy (p : JsStr) (from to : ℕ) (us : List ℕ) (answer : Result JsStr TextFull) : Type 0 where
    pub short : IsShortCut r from to us → IsFlatAnswer v w r s z (part from (to - from) us) answer
    pub long : IsLongCut r p from to us
        → (t : JsStr) × (answer ≡ Ok t) × IsPartTaken v w r s p from t (part from (to - from) us)
    pub claimed : (IsShortCut r from to us → ⊥) → (IsLongCut r p from to us → ⊥)
        → (s ≡ r) × KeepsOwn v w × IsCut v w z p from to us answer
