-- What joining two strings and cutting one answer.
use Rattle.std.specs.Prelude.{◌≡◌, ℕ, ◌+◌, ◌-◌, ◌<◌, ◌≤◌, ◌++◌, ◌||◌, ◌⊎◌, Bool, false, true, List, length}
use Rattle.std.specs.Prelude.{Result, Ok, Err}
use Rattle.js_units.specs.Lanes.{is_wide, words_over}
use Rattle.js_header.specs.declared.form.Form.{Form}
use Rattle.js_header.specs.declared.form.Form.TheVariants.{Flat, Cons, Sliced, Thin}
use Rattle.heap_rule.specs.declared.size.HeapSize.{HeapSize}
use Rattle.heap_rule.specs.declared.view.View.{View}
use Rattle.heap_rule.specs.Births.{part}
use Rattle.heap_rule.specs.Maps.{Has}
use Rattle.heap_text.specs.declared.faults.JoinFault.{JoinFault}
use Rattle.heap_text.specs.declared.faults.JoinFault.TheVariants.{TooLong, Full}
use Rattle.heap_text.specs.declared.faults.TextFull.{TextFull}
use Rattle.heap_text.specs.declared.faults.TextFull.TheVariants.{Ids}
use Rattle.heap_table.specs.declared.claims.CounterFull.{CounterFull}
use Rattle.heap_read.specs.declared.string.JsStr.{JsStr}
use Rattle.heap_text.specs.Texts.{IsSpared, LacksRoom, UsesExactly}

-- a new flat string with these units: one id, and the words that hold them
abbrev pub IsCopy : View → View → JsStr → List ℕ → Type 0
IsCopy v w s us = Has w.units s.id us × ((start : ℕ) × Has w.forms s.id (Flat (is_wide us) start false))
    × UsesExactly v w 1 (words_over (is_wide us) (length us))

-- a call that was refused for lack of ids or words: it reported that there is no room,
-- and no string has what it used
abbrev pub IsTextRefused : View → View → HeapSize → List ℕ → TextFull → Type 0
IsTextRefused v w z us f = LacksRoom w z (words_over (is_wide us) (length us)) f
    × IsSpared v w (words_over (is_wide us) (length us)) f

-- the fewest units of a Cons, and of a Sliced
abbrev pub MIN_CONS : ℕ
MIN_CONS = 13

abbrev pub wide_bit : Form → Bool
wide_bit (Flat wide start fixed) = wide
wide_bit (Cons wide left right) = wide
wide_bit (Sliced wide parent offset) = wide
wide_bit _ = false

-- a form that was loaded is wide as b says; for a Thin the form of its target counts
abbrev pub IsWideIn : View → Form → Bool → Type 0
IsWideIn v (Thin target) b = (start : ℕ) × Has v.forms target (Flat b start true)
IsWideIn v f b = b ≡ wide_bit f

-- The string i is a Cons of the strings a and b. It is wide exactly where one of the forms that were loaded
-- of its sides is; the view has these forms.
abbrev pub HasRope : View → JsStr → JsStr → ℕ → Type 0
HasRope w a b i = (f : Form) × (g : Form) × (left : Bool) × (right : Bool)
    × Has w.forms a.id f × Has w.forms b.id g × IsWideIn w f left × IsWideIn w g right
    × Has w.forms i (Cons (left || right) a.id b.id)

-- a new Cons of the strings a and b, with these units: one id and no content word
abbrev pub IsRope : View → View → JsStr → JsStr → JsStr → List ℕ → Type 0
IsRope v w a b s us = Has w.units s.id us × HasRope w a b s.id × UsesExactly v w 1 0

-- the string from which a Sliced is cut, by the form of the string s that is cut: the parent of a Sliced,
-- else s; and where the units of s begin there
abbrev pub parent_of : ℕ → Form → ℕ
parent_of s (Sliced wide parent offset) = parent
parent_of s _ = s

abbrev pub offset_of : Form → ℕ
offset_of (Sliced wide parent offset) = offset
offset_of _ = 0

-- The string i is a Sliced of the units of the string s from `from` on. Its parent is no Sliced: s itself, or
-- the parent of s. It is wide exactly where the form that was loaded of s is; the view has that form.
abbrev pub HasPart : View → JsStr → ℕ → ℕ → Type 0
HasPart w s from i = (f : Form) × (wide : Bool) × Has w.forms s.id f × IsWideIn w f wide
    × Has w.forms i (Sliced wide (parent_of s.id f) (offset_of f + from))

-- a new Sliced t of the units of the string s from `from` on: one id and no content word
abbrev pub IsPart : View → View → JsStr → ℕ → JsStr → List ℕ → Type 0
IsPart v w s from t us = Has w.units t.id us × HasPart w s from t.id × UsesExactly v w 1 0

-- a call that was refused for lack of an id, and used nothing
abbrev pub IsNoId : View → View → HeapSize → TextFull → Type 0
IsNoId v w z f = ((full : CounterFull) × (f ≡ Ids full)) × LacksRoom w z 0 f × IsSpared v w 0 f

-- two strings that the view knows, neither of them empty, of n units together
abbrev pub AreJoinable : View → JsStr → JsStr → ℕ → Type 0
AreJoinable v a b n = (us : List ℕ) × (vs : List ℕ) × Has v.units a.id us × Has v.units b.id vs
    × (1 ≤ length us) × (1 ≤ length vs) × (length us + length vs ≡ n)

-- what joining answers where a copy of the units is made, and where a Cons is
abbrev pub IsCopied : View → View → HeapSize → List ℕ → Result JsStr TextFull → Type 0
IsCopied v w z us r = ((t : JsStr) × (r ≡ Ok t) × IsCopy v w t us)
    ⊎ ((f : TextFull) × (r ≡ Err f) × IsTextRefused v w z us f)

abbrev pub IsLinked : View → View → HeapSize → JsStr → JsStr → List ℕ → Result JsStr TextFull → Type 0
IsLinked v w z a b us r =
    ((t : JsStr) × (r ≡ Ok t) × IsRope v w a b t us) ⊎ ((f : TextFull) × (r ≡ Err f) × IsNoId v w z f)

abbrev pub IsPartCut : View → View → HeapSize → JsStr → ℕ → List ℕ → Result JsStr TextFull → Type 0
IsPartCut v w z s from us r =
    ((t : JsStr) × (r ≡ Ok t) × IsPart v w s from t us) ⊎ ((f : TextFull) × (r ≡ Err f) × IsNoId v w z f)

-- the string s itself, for which nothing was used
abbrev pub IsItself : View → View → JsStr → JsStr → Type 0
IsItself v w s t = (t ≡ s) × (w.used ≡ v.used)

module _ (v w : View) (z : HeapSize) where
  -- Joining strings a with the units us and b with the units vs, where a result has at most `most` units. A
  -- sum over that is refused, and no other. An empty side gives the other side. Fewer than 13 units are
  -- copied, more become a Cons.
  pub record IsJoined (most : ℕ) (a b : JsStr) (us vs : List ℕ)
      (answer : Result JsStr JoinFault) : Type 0 where
    pub long : most < length us + length vs
        → (answer ≡ Err (TooLong (length us) (length vs))) × (w.used ≡ v.used)
    pub left_empty : length us + length vs ≤ most → length us ≡ 0
        → (t : JsStr) × (answer ≡ Ok t) × IsItself v w b t
    pub right_empty : length us + length vs ≤ most → 0 < length us → length vs ≡ 0
        → (t : JsStr) × (answer ≡ Ok t) × IsItself v w a t
    pub short : length us + length vs ≤ most → 0 < length us → 0 < length vs
        → length us + length vs < MIN_CONS
        → ((t : JsStr) × (answer ≡ Ok t) × IsCopy v w t (us ++ vs))
        ⊎ ((f : TextFull) × (answer ≡ Err (Full f)) × IsTextRefused v w z (us ++ vs) f)
    pub rope : length us + length vs ≤ most → 0 < length us → 0 < length vs → MIN_CONS ≤ length us + length vs
        → ((t : JsStr) × (answer ≡ Ok t) × IsRope v w a b t (us ++ vs))
        ⊎ ((f : TextFull) × (answer ≡ Err (Full f)) × IsNoId v w z f)

  -- Cutting the part from unit `from` up to unit `to` out of the string s with the units us. The whole is s
  -- itself. Fewer than 13 units are copied, more become a Sliced.
  pub record IsCut (s : JsStr) (from to : ℕ) (us : List ℕ) (answer : Result JsStr TextFull) : Type 0 where
    pub whole : from ≡ 0 → to ≡ length us → (t : JsStr) × (answer ≡ Ok t) × IsItself v w s t
    pub short : (0 < from) ⊎ (to < length us) → to - from < MIN_CONS
        → IsCopied v w z (part from (to - from) us) answer
    pub long : (0 < from) ⊎ (to < length us) → MIN_CONS ≤ to - from
        → IsPartCut v w z s from (part from (to - from) us) answer
