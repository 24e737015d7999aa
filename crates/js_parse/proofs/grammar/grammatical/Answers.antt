use Rattle.parse_syntax.specs.Tables.{TokenTables}
use Rattle.js_parse.proofs.Told.{lex_refused, says_of, grammar_told, parses_with}
use Rattle.js_parse.proofs.grammar.grammatical.Goals as goal

pub returns-in-Err-clause-refused : goal.returns-in-Err-clause-refused
returns-in-Err-clause-refused c = rw c.lex_fault.ensures (lex_refused c.args.role c.args.bytes.now c.in-Err.fault c.in-Err.ensures.refused)

pub returns-in-Err-statements-clause-refused : goal.returns-in-Err-statements-clause-refused
returns-in-Err-statements-clause-refused c =
    let s = c.in-Ok.source in
    let tables : TokenTables = record { names = s.names.items; keys = s.keys.items } in
    grammar_told c.args.role c.args.bytes.now s.tokens.items c.deref.result.now c.deref-in-Err-statements.result.now s.literals.items tables
    c.prints.result c.in-Err-statements.fault c.grammar_fault.result
    c.prints.ensures c.deref.ensures.value c.deref-in-Err-statements.ensures.value c.in-Ok.ensures.read
    (says_of c.in-Err-statements.fault _ c.in-Err-statements.ensures.refused) c.grammar_fault.ensures

pub returns-clause-parses : goal.returns-clause-parses
returns-clause-parses c =
    let s = c.in-Ok.source in
    let tables : TokenTables = record { names = s.names.items; keys = s.keys.items } in
    parses_with c.args.role c.args.bytes.now s.tokens.items c.deref.result.now c.deref-2.result.now s.literals.items tables c.prints.result c.in_ok-script.script c.in-Ok-statements.body.items _
    c.prints.ensures c.deref.ensures.value c.deref-2.ensures.value c.in-Ok.ensures.read c.in-Ok-statements.ensures.spells
    c.in_ok-script.ensures.literals c.in_ok-script.ensures.body c.in_ok-script.ensures.top c.first_proto_key-found.ensures
