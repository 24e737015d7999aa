use Rattle.std.proofs.Common.{ap, sym, ◌∙◌}
use Rattle.parse_syntax.specs.Tables.{tables_of}
use Rattle.js_parse.specs.NameFaults.{offers, proto_behind, proto_faults}
use Rattle.js_parse.specs.NameWalk.{found_of}
use Rattle.js_parse.proofs.Walks.{offers_append}
use Rattle.js_parse.proofs.proto_key.first_proto_key.Goals as goal

pub loop-token-preserved : goal.loop-token-preserved
loop-token-preserved c =
    let tables = tables_of c.args.tables.now in
    let after = c.in-Some.after.now in
    ap (λ o. offers o (proto_faults tables after)) c.behind-first.ensures
    ∙ sym (offers_append (found_of c.loop-token.first) (proto_behind tables c.in-Some.token after) (proto_faults tables after))
    ∙ ap (λ s. offers (found_of c.loop-token.first) (proto_faults tables s)) (sym c.in-Some.ensures)
    ∙ c.loop-token.invariant
