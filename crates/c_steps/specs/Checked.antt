-- What the tested calls leave: loads alone, or that a string was settled first, and then read.
use Rattle.std.specs.Prelude.{◌≡◌, ◌≢◌, ℕ, ◌≤◌, ◌⊎◌, List, length, Bool, Option, None, Some}
use Rattle.heap_rule.specs.Maps.{Has}
use Rattle.heap_rule.specs.Views.{IsSeenSettled}
use Rattle.heap_read.specs.Reads.{KeepsForms, OnlyLoads}
use Rattle.heap_text.specs.declared.faults.TextFull.{TextFull}
use Rattle.heap_text.specs.Settling.{IsBitOf, IsNoRoom, IsSettling}
use Rattle.heap_text.specs.Texts.{KeepsOwn}
use Rattle.heap_agents.specs.declared.held.Held.{Held}
use Rattle.heap_agents.specs.Held.{MarksNothing, MarksOnly, MarksOnlyKey}
use Rattle.heap_agents.specs.Ready.{HandleLeaves, IsReady, HandleKnows, HandleSearches, giver_in}
use Rattle.heap_agents.specs.Ready.{handle_number}
use Rattle.heap_agents.specs.Ready.{size_in, handle_view}
use Rattle.c_steps.specs.declared.answer.JsAnswer.{JsAnswer}
use Rattle.c_steps.specs.Reports.{BAD_ARGUMENT, DONE, NO_WORDS, bad_argument, done, text_report}

-- the string is known, and has so many units or more
abbrev pub ReachesLength : Option Held → ℕ → ℕ → Type 0
ReachesLength o s n = HandleKnows o s × ((us : List ℕ) → Has (handle_view o).units s us → n ≤ length us)

-- nothing was marked
abbrev pub MarksNone : Option Held → Option Held → Type 0
MarksNone None _ = ⊥
MarksNone (Some x) None = ⊥
MarksNone (Some x) (Some y) = MarksNothing x y

-- string i is marked, what was marked is so still, and nothing else is
abbrev pub MarksOne : Option Held → Option Held → ℕ → Type 0
MarksOne None _ i = ⊥
MarksOne (Some x) None i = ⊥
MarksOne (Some x) (Some y) i = MarksOnly x y i

-- the same where string i is marked as an answer of the string table too
abbrev pub MarksKey : Option Held → Option Held → ℕ → Type 0
MarksKey None _ i = ⊥
MarksKey (Some x) None i = ⊥
MarksKey (Some x) (Some y) i = MarksOnlyKey x y i

-- the answer is marked, and nothing else; a refusal marks nothing
pub record MarksResult (o p : Option Held) (r : JsAnswer) : Type 0 where
  pub done : r.status ≡ DONE → MarksOne o p r.id
  pub refused : r.status ≢ DONE → MarksNone o p

-- loads alone, and nothing was marked
pub record OnlyLooks (o p : Option Held) : Type 0 where
  pub leaves : HandleLeaves o p
  pub loads : OnlyLoads (handle_view o) (handle_view p)
  pub marks : MarksNone o p

-- a length was read: the same, and no form was loaded
pub record ReadsLength (o p : Option Held) : Type 0 where
  pub looks : OnlyLooks o p
  pub forms : KeepsForms (handle_view o) (handle_view p)

-- what the handle has, or what it had before a length was read
abbrev pub IsSameOrMeasured : Option Held → Option Held → Type 0
IsSameOrMeasured o p = (p ≡ o) ⊎ ReadsLength o p

-- String s was settled, and nothing else was done: it alone was marked, what the agent owned it still owns,
-- and what was used is what settling uses. Where it was seen settled, there were loads alone.
pub record SettlesString (o p : Option Held) (s : ℕ) : Type 0 where
  pub leaves : HandleLeaves o p
  pub own : KeepsOwn (handle_view o) (handle_view p)
  pub marks : MarksOne o p s
  pub settled : IsSeenSettled (handle_view p) s
  pub used : (us : List ℕ) → Has (handle_view o).units s us
      → IsSettling (handle_view o) (handle_view p) s us
  pub again : IsSeenSettled (handle_view o) s → OnlyLoads (handle_view o) (handle_view p)

-- String s, which was not seen settled, needed content words for that, and was refused them: r is the report.
-- Nothing was marked, and what the agent owned it still owns.
pub record RefusesSettling (o p : Option Held) (s : ℕ) (r : JsAnswer) : Type 0 where
  pub leaves : HandleLeaves o p
  pub own : KeepsOwn (handle_view o) (handle_view p)
  pub marks : MarksNone o p
  pub unseen : IsSeenSettled (handle_view o) s → ⊥
  pub words : r.status ≡ NO_WORDS
  pub report : (us : List ℕ) → Has (handle_view o).units s us
      → (f : TextFull) × (wide : Bool) × (r ≡ text_report f) × IsBitOf (handle_view o) s wide
      × IsNoRoom (handle_view o) (handle_view p) (size_in o) us f wide

-- Settling string s, which is known, with r as the answer.
pub record SettlesKnown (o p : Option Held) (s : ℕ) (r : JsAnswer) : Type 0 where
  pub told : r.status ≢ BAD_ARGUMENT
  pub done : r.status ≡ DONE → (r ≡ done s) × SettlesString o p s
  pub refused : r.status ≢ DONE → RefusesSettling o p s r

-- What settling string s leaves, before a call or as one, with r as the answer. Of a string that isn't known
-- nothing has changed; of one that is known a condition on its length may have failed.
pub record SettlesFirst (o p : Option Held) (s : ℕ) (r : JsAnswer) : Type 0 where
  pub unknown : ¬ (HandleKnows o s) → p ≡ o
  pub bad : r.status ≡ BAD_ARGUMENT → (r ≡ bad_argument) × IsSameOrMeasured o p
  pub refused : r.status ≢ BAD_ARGUMENT → r.status ≢ DONE → RefusesSettling o p s r
  pub done : r.status ≡ DONE → (r ≡ done s) × SettlesString o p s

-- string s could not be settled, which is reported by the status alone
abbrev pub CannotSettle : Option Held → Option Held → ℕ → ℕ → Type 0
CannotSettle o p s status = (r : JsAnswer) × (status ≡ r.status) × RefusesSettling o p s r

-- string s was settled, and then there were loads alone
abbrev pub SettlesAndLooks : Option Held → Option Held → ℕ → Type 0
SettlesAndLooks o p s = (m : Option Held) × SettlesString o m s × OnlyLooks m p

-- What a call that reads the units of string s, which it settles first, leaves and answers, by its status. On
-- a refusal `nothing` holds, and else `answers` of the units.
pub record ReadsSettled (o p : Option Held) (s status : ℕ) (nothing : Type 0)
    (answers : List ℕ → Type 0) : Type 0 where
  pub unknown : ¬ (HandleKnows o s) → p ≡ o
  pub bad : status ≡ BAD_ARGUMENT → nothing × IsSameOrMeasured o p
  pub refused : status ≡ NO_WORDS → nothing × CannotSettle o p s status
  pub done : status ≢ BAD_ARGUMENT → status ≢ NO_WORDS
      → SettlesAndLooks o p s × ((us : List ℕ) → Has (handle_view o).units s us → answers us)

-- strings a and b were settled, one after the other
abbrev pub SettlesBoth : Option Held → Option Held → ℕ → ℕ → Type 0
SettlesBoth o p a b = (m : Option Held) × SettlesString o m a × SettlesString m p b

-- string a could not be settled, or a was and b could not, which is reported by the status alone
abbrev pub IsPairRefused : Option Held → Option Held → ℕ → ℕ → ℕ → Type 0
IsPairRefused o p a b status = (r : JsAnswer) × (status ≡ r.status)
    × (RefusesSettling o p a r ⊎ ((m : Option Held) × SettlesString o m a × RefusesSettling m p b r))

-- strings a and b were settled, and then searched
abbrev pub SettlesAndSearches : Option Held → Option Held → ℕ → ℕ → Type 0
SettlesAndSearches o p a b = (m : Option Held) × SettlesBoth o m a b × HandleSearches m p

-- What a call that searches strings a and b, which it settles first, leaves and answers, by its status. On a
-- refusal `nothing` holds, and else `answers` of the units of both.
pub record SeeksSettled (o p : Option Held) (a b status : ℕ) (nothing : Type 0)
    (answers : List ℕ → List ℕ → Type 0) : Type 0 where
  pub unknown : ¬ (HandleKnows o a × HandleKnows o b) → p ≡ o
  pub bad : status ≡ BAD_ARGUMENT → nothing × IsSameOrMeasured o p
  pub refused : status ≡ NO_WORDS → nothing × IsPairRefused o p a b status
  pub done : status ≢ BAD_ARGUMENT → status ≢ NO_WORDS
      → SettlesAndSearches o p a b
      × ((us vs : List ℕ) → Has (handle_view o).units a us → Has (handle_view o).units b vs
      → answers us vs)

-- both are there, and by their numbers the second one was split off from the first
abbrev pub IsChild : Option Held → Option Held → Type 0
IsChild o p = IsReady o × IsReady p × (giver_in p ≡ handle_number o)
