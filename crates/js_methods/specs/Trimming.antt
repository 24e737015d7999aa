-- What the methods give that trim white space ("TrimString").
use Rattle.std.specs.Prelude.{ℕ, ◌-◌, List, length, take, drop, reverse}
use Rattle.std.specs.List.{prefix_len}
use Rattle.js_units.specs.Text.{is_blank}

-- "String.prototype.trimStart": without the blank units at the start
abbrev pub trimmed_start : List ℕ → List ℕ
trimmed_start u = drop (prefix_len is_blank u) u

-- "String.prototype.trimEnd": without the blank units at the end
abbrev pub trimmed_end : List ℕ → List ℕ
trimmed_end u = take (length u - prefix_len is_blank (reverse u)) u

-- "String.prototype.trim": without both
abbrev pub trimmed : List ℕ → List ℕ
trimmed u = trimmed_end (trimmed_start u)
