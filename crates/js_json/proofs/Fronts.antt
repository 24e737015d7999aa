-- The ASCII units in front of a run of a list are added.
use Rattle.std.proofs.Common.{◌≡◌, ℕ, ◌+◌, ◌-◌, ◌≤◌, List, ◌++◌, take, drop, drop-drop, take-take, All, append_assoc, sym, ap, subst, ◌∙◌, arith}
use Rattle.std.proofs.lemmas.List.{take-append-drop}
use Rattle.std.specs.Prelude.{slice_range}
use Rattle.js_units.specs.Text.{utf8}
use Rattle.js_units.proofs.Ascii.{ascii_front, is_ascii}

-- the first a units of the n units behind d others
front_is : (u : List ℕ) (d n a : ℕ) → a ≤ n → take a (slice_range u d (d + n)) ≡ take a (drop d u)
front_is u d n a h = take-take a (d + n - d) (drop d u) (omega arith)

-- a run that was read, whose front was added
pub front_on : (u line more run : List ℕ) (d n a : ℕ) → run ≡ slice_range u d (d + n) → a ≤ n → All is_ascii (take a run) → more ≡ line ++ take a run
    → more ++ utf8 (drop (d + a) u) ≡ line ++ utf8 (drop d u)
front_on u line more run d n a r h k e =
    let f : take a run ≡ take a (drop d u) = ap (take a) r ∙ front_is u d n a h in
    let rest = drop d u in
    let split : utf8 rest ≡ take a rest ++ utf8 (drop a rest) = ap utf8 (sym (take-append-drop a rest)) ∙ ascii_front (take a rest) (drop a rest) (subst (λ (x : List ℕ). All is_ascii x) f k) in
    ap (λ x. more ++ utf8 x) (sym (drop-drop a d u))
    ∙ ap (λ x. x ++ utf8 (drop a rest)) (e ∙ ap (λ x. line ++ x) f)
    ∙ append_assoc line (take a rest) (utf8 (drop a rest))
    ∙ ap (λ x. line ++ x) (sym split)
