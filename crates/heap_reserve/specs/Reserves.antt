-- What an agent keeps in advance, and how that grows and shrinks.
use Rattle.std.specs.Prelude.{◌≡◌, ◌≢◌, ◌⊎◌, ℕ, ◌+◌, ◌-◌, ◌<◌, ◌≤◌, List, [], ◌∷◌, ◌++◌, All, length}
use Rattle.std.specs.Prelude.{slice_index}
use Rattle.heap_rule.specs.declared.size.HeapSize.{HeapSize}
use Rattle.heap_rule.specs.declared.view.View.{View}
use Rattle.heap_rule.specs.Maps.{Has, HasKey}
use Rattle.heap_text.specs.declared.faults.TextFull.{TextFull}
use Rattle.heap_text.specs.declared.faults.TextFull.TheVariants.{Ids, Words}
use Rattle.heap_text.specs.Texts.{IsSpared, KeepsOwn, KeepsOwnBut, LacksRoom, UsesExactly}
use Rattle.heap_reserve.specs.declared.reserve.Reserve.{Reserve}

-- its ids, in the order in which they are taken
abbrev pub kept_ids : Reserve → List ℕ
kept_ids r = r.ids.items

-- how many content words it has
abbrev pub words_kept : Reserve → ℕ
words_kept r = r.end - r.start

-- each number is greater than those before it
abbrev pub IsAscending : List ℕ → Type 0
IsAscending [] = Unit {0}
IsAscending (i ∷ is) = All (λ j. i < j) is × IsAscending is

-- Each id is the agent's own, so it is not born, and greater than those before it, so no two are the same.
-- Each word of the run is the agent's own and still 0, so no string has it.
pub record IsReserve (v : View) (r : Reserve) : Type 0 where
  pub ids : All (λ i. HasKey v.own_ids i) (kept_ids r)
  pub ascending : IsAscending (kept_ids r)
  pub ordered : r.start ≤ r.end
  pub words : (c : ℕ) → r.start ≤ c → c < r.end → Has v.own_words c 0

-- the run has n words more, at its end; or it is another one, of n words, where they don't begin at its end:
-- none of these was the agent's own before
abbrev pub IsGrown : View → Reserve → Reserve → ℕ → Type 0
IsGrown v r s n = ((s.start ≡ r.start) × (s.end ≡ r.end + n))
    ⊎ ((0 < n) × (s.start ≢ r.end) × (s.end ≡ s.start + n)
    × ((c : ℕ) → s.start ≤ c → c < s.end → HasKey v.own_words c → ⊥))

-- so many ids and content words were claimed, and the reserve has them; the new ids come last
pub record IsClaimed (v w : View) (r s : Reserve) (ids words : ℕ) : Type 0 where
  pub used : UsesExactly v w ids words
  pub added : (more : List ℕ) × (kept_ids s ≡ kept_ids r ++ more) × (length more ≡ ids)
  pub run : IsGrown v r s words

-- it has an id, or a content word
abbrev pub HasSome : Reserve → Type 0
HasSome r = (0 < length (kept_ids r)) ⊎ (0 < words_kept r)

-- it has an id, and n content words
abbrev pub HasEnough : Reserve → ℕ → Type 0
HasEnough r n = (0 < length (kept_ids r)) × (n ≤ words_kept r)

-- it has an id, and the first one is greater than i
abbrev pub HasAbove : Reserve → ℕ → Type 0
HasAbove r i = (0 < length (kept_ids r)) × (i < slice_index (kept_ids r) 0)

-- A new string took an id and n content words: the first id of the reserve and the first n words of its run,
-- where it has them, and then they left it; of which it has too little, that was claimed, and the reserve
-- keeps what it has of that. All else that the agent owned it owns still.
pub record IsTakenFrom (v w : View) (r s : Reserve) (id n : ℕ) : Type 0 where
  pub had_id : 0 < length (kept_ids r) → (kept_ids r ≡ id ∷ kept_ids s) × (w.used.ids ≡ v.used.ids)
  pub new_id : length (kept_ids r) ≡ 0 → (kept_ids s ≡ kept_ids r) × (w.used.ids ≡ v.used.ids + 1)
  pub had_words : n ≤ words_kept r → (s.start ≡ r.start + n) × (s.end ≡ r.end)
      × (w.used.words ≡ v.used.words) × KeepsOwnBut v w id r.start n
  pub new_words : words_kept r < n → (s.start ≡ r.start) × (s.end ≡ r.end)
      × (w.used.words ≡ v.used.words + n) × KeepsOwnBut v w id 0 0

-- what a report says is missing, the reserve has not: an id, or n content words
abbrev pub IsMissing : Reserve → ℕ → TextFull → Type 0
IsMissing r n (Ids f) = length (kept_ids r) ≡ 0
IsMissing r n (Words f) = words_kept r < n

-- A new string that needs an id and n content words was refused: the reserve has not what the report says,
-- and the counter of that has no room for it. The reserve stays. No id was used, and words only where the
-- reserve has too few: these were claimed first, and an id is missing.
pub record IsTakingRefused (v w : View) (z : HeapSize) (r s : Reserve) (n : ℕ) (f : TextFull) : Type 0 where
  pub missing : IsMissing r n f
  pub room : LacksRoom w z n f
  pub stays : s ≡ r
  pub own : KeepsOwn v w
  pub spared : words_kept r < n → IsSpared v w n f
  pub nothing : n ≤ words_kept r → IsSpared v w 0 f

-- The reserve r took over what another one, s, had, and became t: the ids of s where it had none itself, and
-- the run of s where it had no content word itself. What it did not take is lost.
pub record TakesOverReserve (r s t : Reserve) : Type 0 where
  pub ids : 0 < length (kept_ids r) → kept_ids t ≡ kept_ids r
  pub other_ids : length (kept_ids r) ≡ 0 → kept_ids t ≡ kept_ids s
  pub words : 0 < words_kept r → (t.start ≡ r.start) × (t.end ≡ r.end)
  pub other_words : words_kept r ≡ 0 → (t.start ≡ s.start) × (t.end ≡ s.end)
