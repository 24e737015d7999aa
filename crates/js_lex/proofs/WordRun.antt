-- The run of word parts in front of a text is found in its bytes.
use Rattle.std.proofs.Common.{◌≡◌, ℕ, ◌+◌, List, [], ◌∷◌, drop, Bool, true, false, cond, if◌then◌else◌, IsUtf8, refl, ◌∙◌, arith}
use Rattle.std.proofs.lemmas.Bool.Decides.{nat_tests}
use Rattle.std.specs.List.{prefix_len}
use Rattle.std.specs.Str.{chars, IsCharBoundary}
use Rattle.js_literal.proofs.AsciiRun.{OfAscii, drop_first, run_of}
use Rattle.js_lex.specs.Elements.{is_word_part}
use Rattle.js_lex.specs.Reader.{after_word}

part_ascii : OfAscii is_word_part
part_ascii c e = grind (arith, nat_tests)

run_dropped : (s : List ℕ) → drop (prefix_len is_word_part s) s ≡ after_word s
run_dropped [] = refl
run_dropped (c ∷ s) = go (is_word_part c) (run_dropped s)
  where
    go : (b : Bool) → drop (prefix_len is_word_part s) s ≡ after_word s → drop (cond b (1 + prefix_len is_word_part s) 0) (c ∷ s) ≡ (if b then after_word s else c ∷ s)
    go false h = refl
    go true h = drop_first (prefix_len is_word_part s) c s ∙ h

-- a text cut behind its run
pub record Split (text : List ℕ) (len : ℕ) : Type 0 where
  pub cut : IsCharBoundary text len
  pub rest : chars (drop len text) ≡ after_word (chars text)

pub split_at : (text bytes : List ℕ) (len : ℕ) → IsUtf8 text → bytes ≡ text → len ≡ prefix_len is_word_part bytes → Split text len
split_at text bytes len u e h =
    let r = run_of is_word_part text bytes len part_ascii u e h in
    record { cut = r.cut; rest = r.rest ∙ run_dropped (chars text) }
