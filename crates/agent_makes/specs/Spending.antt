-- What an agent claims in advance, how it renews that, and what strings take of it; and the same as the calls
-- of a handle say it, where something lies behind it.
use Rattle.std.specs.Prelude.{◌≡◌, ◌⊎◌, ℕ, ◌+◌, ◌-◌, ◌<◌, ◌≤◌, if◌then◌else◌, max, nat_lt, true}
use Rattle.std.specs.Prelude.{List, length, Option, None, Some, Result}
use Rattle.js_units.specs.Lanes.{words_over}
use Rattle.heap_read.specs.declared.string.JsStr.{JsStr}
use Rattle.heap_text.specs.declared.faults.JoinFault.{JoinFault}
use Rattle.heap_text.specs.declared.faults.TextFull.{TextFull}
use Rattle.heap_text.specs.Joins.{MIN_CONS}
use Rattle.heap_text.specs.Texts.{KeepsOwn}
use Rattle.heap_reserve.specs.declared.faults.ReserveFault.{ReserveFault}
use Rattle.heap_reserve.specs.Claims.{IsClaimAnswer}
use Rattle.heap_reserve.specs.Making.{IsCutBy, IsJoinedBy, IsMade, words_holding}
use Rattle.heap_reserve.specs.Reserves.{kept_ids, words_kept}
use Rattle.heap_agents.specs.declared.held.Held.{Held}
use Rattle.heap_agents.specs.Held.{MarksNothing, SpendsReserve, held_size, limit_by, view_by}

-- how many ids and content words are in reserve
abbrev pub handle_reserved_ids : Option Held → ℕ
handle_reserved_ids None = 0
handle_reserved_ids (Some x) = length (kept_ids x.reserve)

abbrev pub handle_reserved_words : Option Held → ℕ
handle_reserved_words None = 0
handle_reserved_words (Some x) = words_kept x.reserve

-- So many ids and content words were to be claimed in advance, with r as the answer. No string was marked.
pub record ClaimsInAdvance (x y : Held) (ids words : ℕ) (r : Result (Unit {0}) ReserveFault) : Type 0 where
  pub spends : SpendsReserve x y
  pub own : KeepsOwn (view_by x) (view_by y)
  pub marked : MarksNothing x y
  pub claims : IsClaimAnswer (view_by x) (view_by y) (held_size x) x.reserve y.reserve ids words r

abbrev pub HandleClaims : Option Held → Option Held → ℕ → ℕ → Result (Unit {0}) ReserveFault → Type 0
HandleClaims None _ ids words r = ⊥
HandleClaims (Some x) None ids words r = ⊥
HandleClaims (Some x) (Some y) ids words r = ClaimsInAdvance x y ids words r

-- the blocks by which x renews its reserve were set, and nothing else changed
abbrev pub SetsBlocks : Held → Held → ℕ → ℕ → Type 0
SetsBlocks x y ids words = y ≡ record x { blocks = record { ids = ids; words = words } }

abbrev pub HandleSetsBlocks : Option Held → Option Held → ℕ → ℕ → Type 0
HandleSetsBlocks None _ ids words = ⊥
HandleSetsBlocks (Some x) None ids words = ⊥
HandleSetsBlocks (Some x) (Some y) ids words = SetsBlocks x y ids words

-- ids are due where none is in reserve, and words, for a string that needs n of them, where fewer are
abbrev pub AreIdsDue : Held → Type 0
AreIdsDue x = length (kept_ids x.reserve) ≡ 0

abbrev pub AreWordsDue : Held → ℕ → Type 0
AreWordsDue x n = words_kept x.reserve < n

-- A string that needs an id and n content words renews the reserve: something is due, and there is a block of
-- all that is. Else what was renewed would not serve the string, which would be made by claims.
pub record IsRenewalDue (x : Held) (n : ℕ) : Type 0 where
  pub due : AreIdsDue x ⊎ AreWordsDue x n
  pub ids : AreIdsDue x → 0 < x.blocks.ids
  pub words : AreWordsDue x n → 0 < x.blocks.words

-- what is then claimed: a block of ids where they are due; a block of words where they are due, and n where
-- that is more
pub record AreClaimedFor (x : Held) (n more_ids more_words : ℕ) : Type 0 where
  pub ids : AreIdsDue x → more_ids ≡ x.blocks.ids
  pub no_ids : (AreIdsDue x → ⊥) → more_ids ≡ 0
  pub words : AreWordsDue x n → more_words ≡ max x.blocks.words n
  pub no_words : (AreWordsDue x n → ⊥) → more_words ≡ 0

-- These were claimed in advance, with any answer: where the heap has not that many words no id was claimed
-- either, and where ids end those that there were are in reserve.
abbrev pub Renews : Held → Held → ℕ → Type 0
Renews x z n = (ids : ℕ) × (words : ℕ) × (t : Result (Unit {0}) ReserveFault) × AreClaimedFor x n ids words
    × ClaimsInAdvance x z ids words t

-- The units us were made into a new string, with what was reserved where that suffices. Where it doesn't, it
-- was renewed first, which left z, if there are blocks.
pub record MakesRenewing (x y : Held) (us : List ℕ) (r : Result JsStr TextFull) : Type 0 where
  pub made : (IsRenewalDue x (words_holding us) → ⊥)
      → IsMade (view_by x) (view_by y) x.reserve y.reserve (held_size x) us r
  pub renewed : IsRenewalDue x (words_holding us) → (z : Held) × Renews x z (words_holding us)
      × IsMade (view_by z) (view_by y) z.reserve y.reserve (held_size z) us r

-- the most content words of a string of n units that joining, or cutting, makes: a copy may be wide, and a
-- Cons or a Sliced has none
abbrev pub most_words : ℕ → ℕ
most_words n = if nat_lt n MIN_CONS then words_over true n else 0

-- joining strings with these units makes a new one, which renews the reserve
abbrev pub RenewsForBoth : Held → List ℕ → List ℕ → Type 0
RenewsForBoth x us vs = (length us + length vs ≤ limit_by x) × (0 < length us) × (0 < length vs)
    × IsRenewalDue x (most_words (length us + length vs))

-- the strings a and b, with the units us and vs, were joined in the same way
pub record JoinsRenewing (x y : Held) (a b : JsStr) (us vs : List ℕ) (r : Result JsStr JoinFault)
    : Type 0 where
  pub joined : (RenewsForBoth x us vs → ⊥)
      → IsJoinedBy (view_by x) (view_by y) (held_size x) x.reserve y.reserve (limit_by x) a b us vs r
  pub renewed : RenewsForBoth x us vs → (z : Held) × Renews x z (most_words (length us + length vs))
      × IsJoinedBy (view_by z) (view_by y) (held_size z) z.reserve y.reserve (limit_by z) a b us vs r

-- a part that is not the whole of the units us is a new string, which renews the reserve
abbrev pub RenewsForPart : Held → ℕ → ℕ → List ℕ → Type 0
RenewsForPart x from to us = ((0 < from) ⊎ (to < length us)) × IsRenewalDue x (most_words (to - from))

-- and a part was cut out of the string p with the units us
pub record CutsRenewing (x y : Held) (p : JsStr) (from to : ℕ) (us : List ℕ) (r : Result JsStr TextFull)
    : Type 0 where
  pub cut : (RenewsForPart x from to us → ⊥)
      → IsCutBy (view_by x) (view_by y) (held_size x) x.reserve y.reserve p from to us r
  pub renewed : RenewsForPart x from to us → (z : Held) × Renews x z (most_words (to - from))
      × IsCutBy (view_by z) (view_by y) (held_size z) z.reserve y.reserve p from to us r

-- the same of what lies behind a handle, where something does
abbrev pub HandleMakes : Option Held → Option Held → List ℕ → Result JsStr TextFull → Type 0
HandleMakes None _ us r = ⊥
HandleMakes (Some x) None us r = ⊥
HandleMakes (Some x) (Some y) us r = MakesRenewing x y us r

abbrev pub HandleJoins : Option Held → Option Held → JsStr → JsStr → List ℕ → List ℕ → Result JsStr JoinFault
    → Type 0
HandleJoins None _ a b us vs r = ⊥
HandleJoins (Some x) None a b us vs r = ⊥
HandleJoins (Some x) (Some y) a b us vs r = JoinsRenewing x y a b us vs r

abbrev pub HandleCuts : Option Held → Option Held → JsStr → ℕ → ℕ → List ℕ → Result JsStr TextFull → Type 0
HandleCuts None _ p from to us r = ⊥
HandleCuts (Some x) None p from to us r = ⊥
HandleCuts (Some x) (Some y) p from to us r = CutsRenewing x y p from to us r
