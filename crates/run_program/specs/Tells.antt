-- What the ends of files that were run say of the heap that they leave, and of the needs of all files.
use Rattle.std.specs.Prelude.{◌≡◌, ℕ, ◌+◌, ◌<◌, ◌≤◌, ◌⊎◌, List, [], ◌∷◌, Option, IsTrue}
use Rattle.js_store.specs.State.{State, Interned}
use Rattle.js_store.specs.declared.faults.FullReport.{FullReport}
use Rattle.js_store.specs.declared.faults.FullReport.TheVariants.{Ids, Words, Slots}
use Rattle.js_texts.specs.Texts.{Every}
use Rattle.js_eval.specs.declared.ending.End.TheVariants.{Memory}
use Rattle.js_eval.specs.Script.{Flow, flow_ledger}
use Rattle.heap_rule.specs.Paths.{IsLegal}
use Rattle.heap_intern.specs.Counting.{different}
use Rattle.heap_session.specs.Sessions.{SessionFrame}
use Rattle.heap_session.specs.Shares.{IsWhole}
use Rattle.run_program.specs.Jobs.{RunFile}
use Rattle.run_program.specs.Fits.{Fits, count_different, all_meant, ids_needed, words_needed}
use Rattle.run_program.specs.Fits.{lists_interned}
use Rattle.run_program.specs.Files.{AreRun, WereRun, AreFilesOf, IsAsMeant, means_of}

-- What a file ran out of, by the report with which it ended; and of that all files together need more than
-- the heap has. For ids: all ids of the heap are claimed. For words: what the other files claimed and the
-- need of this one pass the heap's end. For slots: the history holds as many different lists as there are
-- slots, and the next list that the file was to intern is none of them.
abbrev pub RanOut : {F : Type 0} → State F → List Flow → RunFile → FullReport → List (List ℕ) → Type 0
RanOut s means f (Ids at want end) left = (s.used_ids ≡ s.sizes.ids)
    × (f.part.ids < (flow_ledger f.mean).ids) × (s.sizes.ids < ids_needed means)
RanOut s means f (Words at want end) left =
    (s.sizes.words + f.part.words < s.used_words + (flow_ledger f.mean).words)
    × (s.sizes.words < words_needed means)
RanOut s means f (Slots slots) [] = ⊥
RanOut s means f (Slots slots) (next ∷ rest) = (different s.history ≡ s.sizes.slots) × IsTrue (s.shut next)
    × ((n : ℕ) → Interned s next n → ⊥) × (s.sizes.slots < count_different (lists_interned means))

-- What files say that were run on a heap, of all those with these meanings: each came to its own end, or
-- ended Full for what ran out, or out of memory. The history is legal, and it has no more different lists
-- than the heap has slots, and ids.
pub record FilesTell {F : Type 0} (s : State F) (means : List Flow) (files : List RunFile) : Type 0 where
  pub run : AreRun s (RanOut s means) files
  pub legal : IsLegal s.history
  pub slots : different s.history ≤ s.sizes.slots
  pub ids : different s.history ≤ s.sizes.ids

-- the law of the last session, which has the whole share
abbrev pub WholeTells : State SessionFrame → Type 0
WholeTells s = IsWhole s → (prelude : Option Flow) (scripts : List Flow) (files : List RunFile)
    → WereRun s files → AreFilesOf prelude scripts files → FilesTell s (all_meant prelude scripts) files

-- ---- what follows

-- where the sizes are enough every end is the meaning's, or out of memory; where there are more different
-- lists than slots, or than ids, not every end is the meaning's; what was used is at most what the files that
-- were run need
pub record FilesFollow {F : Type 0} (s : State F) (means : List Flow) (files : List RunFile) : Type 0 where
  pub fits : Fits s.sizes means → Every (λ f. IsAsMeant f ⊎ (f.outcome.end ≡ Memory)) files
  pub many_for_slots : s.sizes.slots < count_different (lists_interned means) → Every IsAsMeant files → ⊥
  pub many_for_ids : s.sizes.ids < count_different (lists_interned means) → Every IsAsMeant files → ⊥
  pub within_ids : s.used_ids ≤ ids_needed (means_of files)
  pub within_words : s.used_words ≤ words_needed (means_of files)

-- the law of this
abbrev pub TellingFollows : Type 0
TellingFollows = (s : State SessionFrame) (prelude : Option Flow) (scripts : List Flow) (files : List RunFile)
    → AreFilesOf prelude scripts files → FilesTell s (all_meant prelude scripts) files
    → FilesFollow s (all_meant prelude scripts) files
