-- The sources that are generated from a number: a prelude and 32 scripts. All that is drawn is drawn in the
-- order of the source, from the number as the first state.
use Rattle.std.specs.Prelude.{◌+◌, ◌*◌, ◌≤◌, ◌++◌, ℕ, zero, suc, List, [], ◌∷◌, codes, length}
use Rattle.std.specs.String.{string_bytes}
use Rattle.run_sources.specs.Draws.{state_after, draw, joined_up_to, next}
use Rattle.run_sources.specs.Lines.{all_line, digits, generated_line, print_line, word_line}
use Rattle.run_sources.specs.declared.texts.GeneratedText.{GeneratedText}

-- a string, drawn from state x on: 6 to 25 letters
abbrev pub word_length : ℕ → ℕ
word_length x = 6 + draw x 20

-- the string that is drawn from state x on: first its length, and then its letters
abbrev pub drawn_word : ℕ → List ℕ
drawn_word x = joined_up_to (λ j. (97 + draw (state_after j (next x)) 26) ∷ []) (word_length x)

-- the state before string i
unfoldable pub before : ℕ → ℕ → ℕ
before n zero = n
before n (suc i) = state_after (word_length (before n i)) (next (before n i))

-- the prelude that is generated from the number n: 16 strings, and all of them with commas between them
abbrev pub prelude : ℕ → List ℕ
prelude n = joined_up_to (λ i. word_line i (drawn_word (before n i))) 16 ++ all_line

-- a line of a script, drawn from state x on: its kind and three numbers, all of which are drawn for every
-- line
abbrev pub drawn_line : ℕ → List ℕ
drawn_line x = generated_line (draw x 6) (draw (state_after 1 x) 16) (draw (state_after 2 x) 16)
    (draw (state_after 3 x) 8)

-- script j, drawn from state x on
abbrev pub script : ℕ → ℕ → List ℕ
script j x = codes "let acc = '';\nlet n = 0;\n"
    ++ (joined_up_to (λ l. drawn_line (state_after (4 * l) x)) 32 ++ print_line j)

-- a source with its name
pub record Named : Type 0 where
  pub name : List ℕ
  pub text : List ℕ

-- script j that is generated from the number n, drawn behind the strings of the prelude and the scripts
-- before it
abbrev pub named_script : ℕ → ℕ → Named
named_script n j =
    record { name = codes "gen-" ++ digits j; text = script j (state_after (128 * j) (before n 16)) }

-- the prelude and then the scripts
abbrev pub generated : ℕ → List Named
generated n = record { name = codes "gen-prelude"; text = prelude n }
    ∷ joined_up_to (λ j. named_script n j ∷ []) 32

-- what a source of the code is
abbrev pub named_for : GeneratedText → Named
named_for text = record { name = string_bytes text.name; text = string_bytes text.text }

-- a source of at most 4,096 bytes
abbrev pub IsSmall : Named → Type 0
IsSmall named = length named.text ≤ 4096
