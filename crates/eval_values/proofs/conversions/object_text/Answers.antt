use Rattle.std.proofs.Common.{sym, ◌∙◌}
use Rattle.js_item.specs.Seen.{says, fields_mapped}
use Rattle.eval_values.proofs.Objects.{string_throws, string_made}
use Rattle.eval_values.proofs.conversions.object_text.Goals as goal

pub returns-then-has_to_string-clause-did : goal.returns-then-has_to_string-clause-did
returns-then-has_to_string-clause-did g c =
    let state = g.S.Strings.state in
    let number = g.S.Strings.number in
    let a = state c.args.store.now in
    let e = c.has_to_string.ensures in
    string_throws number a (state c.has_to_string.new.store) (fields_mapped (says a number) c.args.object.now) e.uses.step e.uses.history (sym e.value ∙ c.if-has_to_string.true)

pub returns-else-has_to_string-clause-did : goal.returns-else-has_to_string-clause-did
returns-else-has_to_string-clause-did g c =
    let state = g.S.Strings.state in
    let number = g.S.Strings.number in
    let a = state c.args.store.now in
    let e = c.has_to_string.ensures in
    string_made number a (state c.has_to_string.new.store) (fields_mapped (says a number) c.args.object.now) e.uses.step e.uses.history
    (state c.word.new.store) c.word.result (sym e.value ∙ c.if-has_to_string.false) c.word.ensures.did
