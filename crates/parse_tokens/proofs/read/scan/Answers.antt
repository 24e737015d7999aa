use Rattle.std.proofs.Common.{◌≡◌, ◌≤◌, ◌+◌, ◌∙◌, sym, ap, length, arith, false}
use Rattle.std.specs.Prelude.{is_err}
use Rattle.std.proofs.lemmas.Str.{IsCharBoundary-start}
use Rattle.js_lex.specs.Next.{GoesOn}
use Rattle.js_lex.specs.Spans.{slice}
use Rattle.parse_tokens.specs.Steps.{before_at}
use Rattle.parse_tokens.proofs.Table.{nothing_yet}
use Rattle.parse_tokens.proofs.Scan.{goes_start, goes_on, few_texts, few_names, few_keys, on_ok}
use Rattle.parse_tokens.proofs.read.scan.Goals as goal

pub tokens-init : goal.tokens-init
tokens-init c = record {
  cut = IsCharBoundary-start c.args.text.now c.utf8.text;
  within = omega arith;
  literals = omega (arith, ap length c.in-Ok.ensures.literals);
  names = omega (arith, ap length c.in-Ok.ensures.names);
  keys = omega (arith, ap length c.in-Ok.ensures.keys);
  agrees = nothing_yet c.new-numbers.result c.new-numbers.ensures _ c.in-Ok.ensures.names;
  goes = goes_start c.args.text.now _ _ _ _ c.in-Ok.ensures.tokens c.in-Ok.ensures.literals c.in-Ok.ensures.names c.in-Ok.ensures.keys;
  fails = λ fault h. h;
}

pub tokens-preserved : goal.tokens-preserved
tokens-preserved c =
    let text = c.args.text.now in
    let t = c.in-Ok-Some.token in
    let s = c.tokens.script in
    let before = before_at s.tokens.items s.literals.items s.names.items s.keys.items c.tokens.at in
    let on : GoesOn text c.tokens.at t = rw c.in-Ok-Some.field-0-is at c.in-Ok-Some.ensures.goes_on in
    let ok : is_err c.add.result ≡ false = sym c.is_err.ensures.value ∙ c.if-is_err.false in
    let tokens = on_ok _ c.add.result ok c.add.ensures.tokens in
    let literals = on_ok _ c.add.result ok c.add.ensures.literals in
    let names = on_ok _ c.add.result ok c.add.ensures.names in
    let keys = on_ok _ c.add.result ok c.add.ensures.keys in
    let one : length c.add.new.script.literals.items ≤ length s.literals.items + 1 = rw literals (few_texts c.in-Ok-is_key.key before (slice text t.from t.to) t.kind) in
    let other : length c.add.new.script.names.items ≤ length s.names.items + 1 = rw names (few_names before (slice text t.from t.to) t.kind) in
    let third : length c.add.new.script.keys.items ≤ length s.keys.items + 1 = rw keys (few_keys c.in-Ok-is_key.key before t.kind) in
    record {
      cut = on.cut;
      within = on.within;
      literals = omega arith;
      names = omega arith;
      keys = omega arith;
      agrees = on_ok _ c.add.result ok c.add.ensures.agrees;
      goes = goes_on text c.tokens.at t c.tokens.opened c.in-Ok-is_key.key c.opens_member-opens.result s.tokens.items
          c.add.new.script.tokens.items s.literals.items c.add.new.script.literals.items s.names.items c.add.new.script.names.items
          s.keys.items c.add.new.script.keys.items on c.in-Ok-is_key.ensures.key c.opens_member-opens.ensures c.tokens.invariant.goes
          (tokens, literals, names, keys);
      fails = λ fault h. c.tokens.invariant.fails fault (on.fails fault h);
    }
