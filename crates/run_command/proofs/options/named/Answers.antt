use Rattle.std.proofs.Common.{Bor, List, length, map, arith, rules, ℕ, ◌≡◌, ap, sym, ◌∙◌, codes, option_map, refl}
use Rattle.std.proofs.lemmas.List.{length-map}
use Rattle.clap.specs.Words.{found_of, rows_of}
use Rattle.clap.proofs.WalkLemmas.{first_value-rows}
use Rattle.run_command.proofs.Asking.{files_are, no_files, none_named, some_named, too_many_named}
use Rattle.run_command.proofs.options.named.Goals as goal

pub returns-in-None-clause-refused : goal.returns-in-None-clause-refused
returns-in-None-clause-refused c = none_named (rows_of (found_of c.args.matches.now)) _ (no_files (found_of c.args.matches.now) c.in-None.ensures) refl

pub returns-then-is_empty-clause-refused : goal.returns-then-is_empty-clause-refused
returns-then-is_empty-clause-refused c =
    let given = map (λ (n : Bor (List ℕ)). n.now) c.in-Some.files.now in
    let is = files_are (found_of c.args.matches.now) given c.in-Some.ensures in
    let empty : length c.in-Some.files.now ≡ 0 = search rules in
    none_named (rows_of (found_of c.args.matches.now)) given is (omega (arith, length-map c.in-Some.files.now (λ (n : Bor (List ℕ)). n.now), empty))

pub returns-then-files-gt-FILES_MAX-clause-refused : goal.returns-then-files-gt-FILES_MAX-clause-refused
returns-then-files-gt-FILES_MAX-clause-refused c =
    let given = map (λ (n : Bor (List ℕ)). n.now) c.in-Some.files.now in
    let is = files_are (found_of c.args.matches.now) given c.in-Some.ensures in
    let many = c.if-files-gt-FILES_MAX.true in
    too_many_named (rows_of (found_of c.args.matches.now)) given is (omega (arith, length-map c.in-Some.files.now (λ (n : Bor (List ℕ)). n.now), many))

pub returns-clause-asked : goal.returns-clause-asked
returns-clause-asked c =
    let f = found_of c.args.matches.now in
    let given = map (λ (n : Bor (List ℕ)). n.now) c.in-Some.files.now in
    let is = files_are f given c.in-Some.ensures in
    let some : length c.in-Some.files.now ≡ 0 → ⊥ = search rules in
    let few = c.if-files-gt-FILES_MAX.false in
    let long = length-map c.in-Some.files.now (λ (n : Bor (List ℕ)). n.now) in
    let copied : c.in_ok-scripts.scripts.items ≡ c.in-Some.files.now = c.in_ok-scripts.ensures.items_if_clones_equal (λ x y e. e) in
    let prelude = sym (first_value-rows f (codes "prelude")) ∙ sym c.get_str.ensures in
    rw (copied) (some_named (rows_of f) given is (option_map (λ (n : Bor (List ℕ)). n.now) c.get_str.result) prelude (λ none. some (omega (arith, long, none))) (omega (arith, long, few)))
