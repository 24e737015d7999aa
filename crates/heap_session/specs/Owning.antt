-- What a call of a session claims, and what a refused one leaves of it. By the rule of the heap no string has
-- an id or a content word that an agent owns.
use Rattle.std.specs.Prelude.{◌≡◌, ◌⊎◌, ℕ, ◌+◌, ◌<◌, List, length}
use Rattle.js_units.specs.Lanes.{is_wide, words_over}
use Rattle.heap_rule.specs.declared.view.View.{View}
use Rattle.heap_rule.specs.Maps.{HasKey}
use Rattle.heap_read.specs.Reads.{OnlyLoads}
use Rattle.heap_text.specs.Texts.{UsesExactly}

-- No id was claimed. The content words that were claimed are the agent's own, and were not before:
-- the n words from `start` on.
pub record ClaimsNoId (v w : View) : Type 0 where
  pub ids : w.used.ids ≡ v.used.ids
  pub words : (start : ℕ) × (n : ℕ) × (w.used.words ≡ v.used.words + n)
      × ((q : ℕ) → q < n → HasKey w.own_words (start + q))
      × ((q : ℕ) → q < n → HasKey v.own_words (start + q) → ⊥)

-- A string of the units us is kept, and loads alone found it; or it was made, of one id and the content words
-- of a copy.
abbrev pub IsKeptOrMade : View → View → List ℕ → Type 0
IsKeptOrMade v w us = OnlyLoads v w ⊎ UsesExactly v w 1 (words_over (is_wide us) (length us))
