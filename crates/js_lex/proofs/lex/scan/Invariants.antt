use Rattle.std.proofs.Common.{◌-◌, ◌≤◌, length}
use Rattle.std.specs.Str.{IsCharBoundary}
use Rattle.js_lex.proofs.Runs.{Goes, FailsOn}
use Rattle.js_lex.proofs.lex.scan.Given as goal

abbrev pub invariant-tokens : goal.invariant-tokens
invariant-tokens l = record {
  within : l.at ≤ length l.fn.text;
  cut : IsCharBoundary l.fn.text l.at;
  lexes : Goes l.fn.text l.at l.tokens.items;
  fails : FailsOn l.fn.text l.at;
}

abbrev pub decreases-tokens : goal.decreases-tokens
decreases-tokens l = length l.text - l.at
