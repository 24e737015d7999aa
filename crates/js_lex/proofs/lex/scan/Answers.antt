use Rattle.std.proofs.Common.{arith}
use Rattle.std.proofs.lemmas.Str.{IsCharBoundary-start}
use Rattle.js_lex.proofs.Runs.{goes_start}
use Rattle.js_lex.proofs.lex.scan.Goals as goal

pub tokens-init : goal.tokens-init
tokens-init c = record {
  within = omega arith;
  cut = IsCharBoundary-start c.args.text.now c.utf8.text;
  lexes = goes_start c.args.text.now c.new-tokens.result.items c.new-tokens.ensures.items;
  fails = λ f h. h;
}
