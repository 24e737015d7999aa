use Rattle.std.proofs.Common.{ap, ◌∙◌}
use Rattle.std.specs.Str.{chars}
use Rattle.js_lex.proofs.WordRun.{split_at}
use Rattle.js_lex.proofs.front.after_word.Goals as goal

pub range_from-requires : goal.range_from-requires
range_from-requires c =
    let s = split_at c.args.text.now c.as_bytes.result.now c.word_len.result c.utf8.text c.as_bytes.ensures.value c.word_len.ensures in
    λ h. s.cut

pub returns : goal.returns
returns c =
    let s = split_at c.args.text.now c.as_bytes.result.now c.word_len.result c.utf8.text c.as_bytes.ensures.value c.word_len.ensures in
    ap chars c.range_from.ensures.value ∙ s.rest
