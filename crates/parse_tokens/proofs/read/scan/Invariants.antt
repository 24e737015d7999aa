use Rattle.std.proofs.Common.{◌-◌, ◌≤◌, length}
use Rattle.std.specs.Str.{IsCharBoundary}
use Rattle.js_lex.specs.Tokens.{FailsFrom}
use Rattle.js_lex.specs.declared.token.LexFault.{LexFault}
use Rattle.parse_tokens.specs.Steps.{Agrees, Goes, before_at}
use Rattle.parse_tokens.proofs.read.scan.Given as goal

abbrev pub invariant-tokens : goal.invariant-tokens
invariant-tokens l = record {
  cut : IsCharBoundary l.fn.text l.at;
  within : l.at ≤ length l.fn.text;
  literals : length l.script.literals.items ≤ l.at;
  names : length l.script.names.items ≤ l.at;
  keys : length l.script.keys.items ≤ l.at;
  agrees : Agrees l.numbers l.script.names.items;
  goes : Goes l.fn.text l.at l.script.tokens.items l.opened (before_at l.script.tokens.items l.script.literals.items l.script.names.items l.script.keys.items l.at);
  fails : (fault : LexFault) → FailsFrom l.fn.text l.at fault → FailsFrom l.fn.text 0 fault;
}

abbrev pub decreases-tokens : goal.decreases-tokens
decreases-tokens l = length l.text - l.at
