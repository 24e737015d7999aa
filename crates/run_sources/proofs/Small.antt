-- How long the texts are.
use Rattle.std.proofs.Common.{◌==◌, ◌+◌, ◌*◌, ◌/◌, ◌%◌, ◌<◌, ◌≤◌, ◌++◌, ℕ, zero, suc, Bool, true, false, List, length, codes, decimal, if◌then◌else◌, arith}
use Rattle.std.specs.List.{All}
use Rattle.std.proofs.lemmas.Fmt.{length-decimal-le}
use Rattle.std.proofs.lemmas.List.{length-append}
use Rattle.std.proofs.lemmas.List.Elements.{All-nil, All-push}
use Rattle.std.proofs.lemmas.Nat.{mod_below}
use Rattle.std.proofs.Math.Nat.{div-le_self}
use Rattle.run_sources.specs.Draws.{state_after, draw, joined_up_to, list_up_to, next}
use Rattle.run_sources.specs.Lines.{all_line, generated_line, print_line, word_line}
use Rattle.run_sources.specs.Texts.{IsSmall, before, drawn_line, generated, named_script, prelude, script, drawn_word, word_length}
use Rattle.std.specs.Prelude.{◌∷◌, []}

-- two texts behind one another
joined : (m n : ℕ) (s t : List ℕ) → length s ≤ m → length t ≤ n → length (s ++ t) ≤ m + n
joined m n s t small least = rw (length-append s t) (omega (arith, small, least))

either : (b : Bool) (m : ℕ) (s t : List ℕ) → length s ≤ m → length t ≤ m → length (if b then s else t) ≤ m
either true m s t small least = small
either false m s t small least = least

-- a number that draws give, or one that counts, has at most three digits here
number : (n : ℕ) → n < 1000 → length (decimal n) ≤ 3
number n small = length-decimal-le 3 n (omega arith) small (omega (arith, small))

length-each : (f : ℕ → List ℕ) (most k : ℕ) → ((i : ℕ) → i < k → length (f i) ≤ most) → length (joined_up_to f k) ≤ most * k
unfolding joined_up_to
length-each f most zero small = omega arith
length-each f most (suc k) small =
    let before : length (joined_up_to f k) ≤ most * k = length-each f most k (λ i lt. small i (omega (arith, lt))) in
    let one : length (f k) ≤ most = small k (omega arith) in
    rw (length-append (joined_up_to f k) (f k)) (grind (arith, before, one))

listed_all : {T : Type 0} (P : T → Type 0) (f : ℕ → T) (k : ℕ) → ((i : ℕ) → i < k → P (f i)) → All P (list_up_to f k)
unfolding joined_up_to
listed_all P f zero each = All-nil P
listed_all P f (suc k) each = All-push P (list_up_to f k) (f k) (listed_all P f k (λ i lt. each i (omega (arith, lt)))) (each k (omega arith))

draw_below : (x most : ℕ) → 0 < most → draw x most < most
unfolding draw
draw_below x most some = mod_below (next x / 65536) most some

-- ---- the lines

word_small : (x : ℕ) → length (drawn_word x) ≤ 25
word_small x =
    let below : draw x 20 < 20 = draw_below x 20 (omega arith) in
    let all : length (drawn_word x) ≤ 1 * word_length x = length-each (λ j. (97 + draw (state_after j (next x)) 26) ∷ []) 1 (word_length x) (λ i lt. omega arith) in
    omega (arith, all, below)

word_line_small : (i : ℕ) (letters : List ℕ) → i < 1000 → length letters ≤ 25 → length (word_line i letters) ≤ 42
word_line_small i letters few short =
    joined 7 35 (codes "const w") _ (omega arith) (joined 3 32 (decimal i) _ (number i few) (joined 4 28 (codes " = '") _ (omega arith) (joined 25 3 letters _ short (omega arith))))

find_small : (a : ℕ) → a < 1000 → length (codes "n = n + all.indexOf(w" ++ (decimal a ++ codes ");\n")) ≤ 72
find_small a few =
    let all : length (codes "n = n + all.indexOf(w" ++ (decimal a ++ codes ");\n")) ≤ 27 = joined 21 6 (codes "n = n + all.indexOf(w") _
    (omega arith) (joined 3 3 (decimal a) _ (number a few) (omega arith)) in
    omega (arith, all)

pad_small : (a b d : ℕ) → a < 1000 → b < 1000 → d < 1000 → length (codes "acc = (acc + w" ++
    (decimal a ++ (codes ".padStart(" ++ (decimal d ++ (codes ", w" ++ (decimal b ++ codes ")).slice(-16);\n")))))) ≤ 72
pad_small a b d few less more =
    let all : length (codes "acc = (acc + w" ++ (decimal a ++ (codes ".padStart(" ++
    (decimal d ++ (codes ", w" ++ (decimal b ++ codes ")).slice(-16);\n")))))) ≤ 51 = joined 14 37 (codes "acc = (acc + w") _
    (omega arith) (joined 3 34 (decimal a) _ (number a few) (joined 10 24 (codes ".padStart(") _ (omega arith)
    (joined 3 21 (decimal d) _ (number d more) (joined 3 18 (codes ", w") _ (omega arith) (joined 3 15 (decimal b) _ (number b less) (omega arith)))))) in
    omega (arith, all)

repeat_small : (a c : ℕ) → a < 1000 → c < 1000 → length (codes "acc = (acc + w" ++ (decimal a ++ (codes ".repeat(" ++ (decimal c ++ codes ")).slice(-16);\n")))) ≤ 72
repeat_small a c few less =
    let all : length (codes "acc = (acc + w" ++ (decimal a ++ (codes ".repeat(" ++
    (decimal c ++ codes ")).slice(-16);\n")))) ≤ 43 = joined 14 29 (codes "acc = (acc + w") _ (omega arith)
    (joined 3 26 (decimal a) _ (number a few) (joined 8 18 (codes ".repeat(") _ (omega arith)
    (joined 3 15 (decimal c) _ (number c less) (omega arith)))) in
    omega (arith, all)

symbol_small : (a b : ℕ) → a < 1000 → b < 1000 → length (codes "if (Symbol.for(w" ++
    (decimal a ++ (codes " + w" ++ (decimal b ++ (codes ") === Symbol.for(w" ++
    (decimal b ++ (codes " + w" ++ (decimal a ++ codes ")) { n = n + 1; }\n")))))))) ≤ 72
symbol_small a b few less =
    joined 16 56 (codes "if (Symbol.for(w") _ (omega arith) (joined 3 53 (decimal a) _ (number a few) (joined 4 49 (codes " + w") _ (omega arith)
    (joined 3 46 (decimal b) _ (number b less) (joined 18 28 (codes ") === Symbol.for(w") _ (omega arith) (joined 3 25 (decimal b) _ (number b less)
    (joined 4 21 (codes " + w") _ (omega arith) (joined 3 18 (decimal a) _ (number a few) (omega arith))))))))

replace_small : (a : ℕ) → a < 1000 → length (codes "n = n + all.replaceAll(',', w" ++ (decimal a ++ codes ").length;\n")) ≤ 72
replace_small a few =
    let all : length (codes "n = n + all.replaceAll(',', w" ++ (decimal a ++ codes ").length;\n")) ≤ 42 = joined 29 13
    (codes "n = n + all.replaceAll(',', w") _ (omega arith) (joined 3 10 (decimal a) _ (number a few) (omega arith)) in
    omega (arith, all)

split_small : (a b : ℕ) → a < 1000 → b < 1000 → length (codes "n = n + all.split(',')[" ++ (decimal a ++ (codes "].length + JSON.stringify(w" ++ (decimal b ++ codes ").length;\n")))) ≤ 72
split_small a b few less =
    let all : length (codes "n = n + all.split(',')[" ++ (decimal a ++
    (codes "].length + JSON.stringify(w" ++ (decimal b ++ codes ").length;\n")))) ≤ 66 = joined 23 43 (codes "n = n + all.split(',')[") _
    (omega arith) (joined 3 40 (decimal a) _ (number a few)
    (joined 27 13 (codes "].length + JSON.stringify(w") _ (omega arith) (joined 3 10 (decimal b) _ (number b less) (omega arith)))) in
    omega (arith, all)

line_small : (k a b c : ℕ) → a < 16 → b < 16 → c < 8 → length (generated_line k a b c) ≤ 72
line_small k a b c few less least =
    let first : a < 1000 = omega (arith, few) in
    let second : b < 1000 = omega (arith, less) in
    let padded : c + 20 < 1000 = omega (arith, least) in
    let times : c < 1000 = omega (arith, least) in
    either (k == 0) 72 (codes "n = n + all.indexOf(w" ++ (decimal a ++ codes ");\n")) _ (find_small a first)
    (either (k == 1) 72 (codes "acc = (acc + w" ++ (decimal a ++ (codes ".padStart(" ++
    (decimal (c + 20) ++ (codes ", w" ++ (decimal b ++ codes ")).slice(-16);\n")))))) _ (pad_small a b (c + 20) first second padded)
    (either (k == 2) 72 (codes "acc = (acc + w" ++ (decimal a ++ (codes ".repeat(" ++ (decimal c ++ codes ")).slice(-16);\n")))) _ (repeat_small a c first times)
    (either (k == 3) 72 (codes "if (Symbol.for(w" ++ (decimal a ++ (codes " + w" ++
    (decimal b ++ (codes ") === Symbol.for(w" ++ (decimal b ++ (codes " + w" ++ (decimal a ++ codes ")) { n = n + 1; }\n")))))))) _
    (symbol_small a b first second)
    (either (k == 4) 72 (codes "n = n + all.replaceAll(',', w" ++ (decimal a ++ codes ").length;\n"))
    (codes "n = n + all.split(',')[" ++ (decimal a ++ (codes "].length + JSON.stringify(w" ++ (decimal b ++ codes ").length;\n"))))
    (replace_small a first) (split_small a b first second)))))

drawn_small : (x : ℕ) → length (drawn_line x) ≤ 72
drawn_small x = line_small (draw x 6) (draw (state_after 1 x) 16) (draw (state_after 2 x) 16) (draw (state_after 3 x) 8)
    (draw_below (state_after 1 x) 16 (omega arith)) (draw_below (state_after 2 x) 16 (omega arith)) (draw_below (state_after 3 x) 8 (omega arith))

print_small : (j : ℕ) → j < 1000 → length (print_line j) ≤ 25
print_small j few =
    let tens : j / 10 < 1000 = omega (arith, div-le_self j 10, few) in
    let ones : j % 10 < 1000 = omega (arith, mod_below j 10 (omega arith)) in
    joined 7 18 (codes "print('") _ (omega arith) (joined 3 15 (decimal (j / 10)) _ (number (j / 10) tens) (joined 3 12 (decimal (j % 10)) _ (number (j % 10) ones) (omega arith)))

-- ---- the texts

prelude_small : (n : ℕ) → length (prelude n) ≤ 4096
prelude_small n =
    let words : length (joined_up_to (λ i. word_line i (drawn_word (before n i))) 16) ≤ 42 * 16 =
    length-each (λ i. word_line i (drawn_word (before n i))) 42 16 (λ i lt. word_line_small i (drawn_word (before n i)) (omega (arith, lt)) (word_small (before n i))) in
    let last : length all_line ≤ 185 = omega arith in
    let all : length (prelude n) ≤ 857 = joined 672 185 (joined_up_to (λ i. word_line i (drawn_word (before n i))) 16) all_line (omega (arith, words)) last in
    omega (arith, all)

script_small : (j x : ℕ) → j < 1000 → length (script j x) ≤ 4096
script_small j x few =
    let drawn : length (joined_up_to (λ l. drawn_line (state_after (4 * l) x)) 32) ≤ 72 * 32 = length-each
    (λ l. drawn_line (state_after (4 * l) x)) 72 32 (λ l lt. drawn_small (state_after (4 * l) x)) in
    let all : length (script j x) ≤ 2354 = joined 25 2329 (codes "let acc = '';\nlet n = 0;\n") _ (omega arith)
    (joined 2304 25 (joined_up_to (λ l. drawn_line (state_after (4 * l) x)) 32) (print_line j) (omega (arith, drawn)) (print_small j few)) in
    omega (arith, all)

pub generated_small : (n : ℕ) → All IsSmall (generated n)
generated_small n (zero) d lt = prelude_small n
generated_small n (suc k) d lt = listed_all IsSmall (named_script n) 32 (λ j few. script_small j (state_after (128 * j) (before n 16)) (omega (arith, few))) k d (omega (arith, lt))
