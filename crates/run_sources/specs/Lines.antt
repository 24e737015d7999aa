-- The lines of scripts, by the numbers in them.
use Rattle.std.specs.Prelude.{◌+◌, ◌/◌, ◌%◌, ◌==◌, ◌++◌, ℕ, List, codes, decimal, if◌then◌else◌}

-- two digits
abbrev pub digits : ℕ → List ℕ
digits j = decimal (j / 10) ++ decimal (j % 10)

-- `const wI = 'LETTERS';`
abbrev pub word_line : ℕ → List ℕ → List ℕ
word_line i letters = codes "const w" ++ (decimal i ++ (codes " = '" ++ (letters ++ codes "';\n")))

-- all strings with commas between them
abbrev pub all_line : List ℕ
all_line =
    codes "let all = w0 + ',' + w1 + ',' + w2 + ',' + w3 + ',' + w4 + ',' + w5 + ',' + w6 + ',' + w7" ++
    codes " + ',' + w8 + ',' + w9 + ',' + w10 + ',' + w11 + ',' + w12 + ',' + w13 + ',' + w14 + ',' + w15;\n"

-- the line of kind k with three numbers, of which not every kind uses each: it finds a string in all of them,
-- pads one with another, repeats one, compares two symbols, replaces the commas, or splits at them
abbrev pub generated_line : ℕ → ℕ → ℕ → ℕ → List ℕ
generated_line k a b c =
    if k == 0 then codes "n = n + all.indexOf(w" ++ (decimal a ++ codes ");\n")
    else (if k == 1 then codes "acc = (acc + w" ++ (decimal a ++ (codes ".padStart("
    ++ (decimal (c + 20) ++ (codes ", w" ++ (decimal b ++ codes ")).slice(-16);\n")))))
    else (if k == 2 then codes "acc = (acc + w" ++ (decimal a ++ (codes ".repeat("
    ++ (decimal c ++ codes ")).slice(-16);\n")))
    else (if k == 3 then codes "if (Symbol.for(w" ++ (decimal a ++ (codes " + w" ++ (decimal b
    ++ (codes ") === Symbol.for(w" ++ (decimal b ++ (codes " + w"
    ++ (decimal a ++ codes ")) { n = n + 1; }\n")))))))
    else (if k == 4 then codes "n = n + all.replaceAll(',', w" ++ (decimal a ++ codes ").length;\n")
    else codes "n = n + all.split(',')["
    ++ (decimal a ++ (codes "].length + JSON.stringify(w" ++ (decimal b ++ codes ").length;\n")))))))

-- `print('JJ', n, acc);`
abbrev pub print_line : ℕ → List ℕ
print_line j = codes "print('" ++ (decimal (j / 10) ++ (decimal (j % 10) ++ codes "', n, acc);\n"))
