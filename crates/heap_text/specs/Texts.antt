-- What a call on a `Text` uses, and what a refusal reports.
use Rattle.std.specs.Prelude.{◌≡◌, ◌≢◌, ℕ, ◌+◌, ◌<◌, ◌≤◌}
use Rattle.heap_rule.specs.declared.view.View.{View}
use Rattle.heap_rule.specs.declared.size.HeapSize.{HeapSize}
use Rattle.heap_rule.specs.Maps.{Has, HasKey}
use Rattle.heap_table.specs.Full.{IsFull}
use Rattle.heap_read.specs.Reads.{KeepsBeside}
use Rattle.heap_text.specs.declared.faults.TextFull.{TextFull}
use Rattle.heap_text.specs.declared.faults.TextFull.TheVariants.{Ids, Words}

-- so many ids and content words were claimed in between
abbrev pub UsesExactly : View → View → ℕ → ℕ → Type 0
UsesExactly v w ids words = (w.used.ids ≡ v.used.ids + ids) × (w.used.words ≡ v.used.words + words)

-- The counter that was read last has no room for what the call requested of it: one id,
-- or that many content words.
abbrev pub LacksRoom : View → HeapSize → ℕ → TextFull → Type 0
LacksRoom w z words (Ids f) = IsFull f 1 z.ids × (w.low.ids ≡ f.at)
LacksRoom w z words (Words f) = IsFull f words z.words × (w.low.words ≡ f.at)

-- the content words that a report requests
abbrev pub text_words_wanted : TextFull → ℕ
text_words_wanted (Ids f) = 0
text_words_wanted (Words f) = f.want

-- A refused call used no id, and the words that it used are, with those that its report requests, at most the
-- words of its row. What was the agent's own is so still, and so are the words that the call claimed: the n
-- words from `start` on, which were not its own before and are in no string.
pub record IsSpared (v w : View) (words : ℕ) (f : TextFull) : Type 0 where
  pub used_ids : w.used.ids ≡ v.used.ids
  pub used_words : w.used.words + text_words_wanted f ≤ v.used.words + words
  pub own_ids : w.own_ids ≡ v.own_ids
  pub own_words : (c : ℕ) → HasKey v.own_words c → HasKey w.own_words c
  pub claimed : (start : ℕ) × (n : ℕ) × (w.used.words ≡ v.used.words + n)
      × ((q : ℕ) → q < n → HasKey w.own_words (start + q))
      × ((q : ℕ) → q < n → HasKey v.own_words (start + q) → ⊥)

-- What the agent owned it owns still, with what it stored there: each own id with its length, each own
-- content word with its word.
pub record KeepsOwn (v w : View) : Type 0 where
  pub ids : (i n : ℕ) → Has v.own_ids i n → Has w.own_ids i n
  pub words : (c x : ℕ) → Has v.own_words c x → Has w.own_words c x

-- the same, but of one id, and of n content words from `start` on
pub record KeepsOwnBut (v w : View) (id start n : ℕ) : Type 0 where
  pub ids : (i k : ℕ) → i ≢ id → Has v.own_ids i k → Has w.own_ids i k
  pub words : KeepsBeside start n v w
