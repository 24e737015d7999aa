use Rattle.std.proofs.Common.{◌-◌, ◌≤◌, length}
use Rattle.std.specs.Str.{IsCharBoundary}
use Rattle.js_lex.specs.Next.{Separates}
use Rattle.js_lex.proofs.lex.next_token.Given as goal

abbrev pub invariant-separators : goal.invariant-separators
invariant-separators l = record {
  within : l.from ≤ length l.fn.text;
  cut : IsCharBoundary l.fn.text l.from;
  apart : Separates l.fn.text l.fn.at l.from;
}

abbrev pub decreases-separators : goal.decreases-separators
decreases-separators l = length l.text - l.from
