use Rattle.std.proofs.Common.{take, ap, ◌∙◌}
use Rattle.std.specs.Str.{chars}
use Rattle.js_literal.proofs.Plain.{split_at}
use Rattle.js_literal.proofs.front.split_plain.Goals as goal

pub range_from-requires : goal.range_from-requires
range_from-requires c =
    let s = split_at c.args.quote c.args.text.now c.as_bytes-bytes.result.now c.plain_len-len.result c.utf8.text c.as_bytes-bytes.ensures.value c.plain_len-len.ensures in
    λ h. s.cut

pub returns-clause-run : goal.returns-clause-run
returns-clause-run c =
    let s = split_at c.args.quote c.args.text.now c.as_bytes-bytes.result.now c.plain_len-len.result c.utf8.text c.as_bytes-bytes.ensures.value c.plain_len-len.ensures in
    ap (take c.plain_len-len.result) c.as_bytes-bytes.ensures.value ∙ s.run

pub returns-clause-rest : goal.returns-clause-rest
returns-clause-rest c =
    let s = split_at c.args.quote c.args.text.now c.as_bytes-bytes.result.now c.plain_len-len.result c.utf8.text c.as_bytes-bytes.ensures.value c.plain_len-len.ensures in
    ap chars c.range_from.ensures.value ∙ s.rest
