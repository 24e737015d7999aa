use Rattle.std.proofs.Common.{◌≡◌, length, false, sym, ap, ◌∙◌}
use Rattle.std.specs.Prelude.{encode_utf8}
use Rattle.js_uri.specs.Calls.{keep_of}
use Rattle.js_uri.proofs.Escapes.{escaped_len, scalar_apart}
use Rattle.js_uri.proofs.encoding.point_len.Goals as goal

pub returns-clause-value : goal.returns-clause-value
returns-clause-value c =
    let other : keep_of c.args.part c.args.point ≡ false = sym c.if-keeps.ensures in
    let long : c.len_utf8.result ≡ length (encode_utf8 c.args.point) = c.len_utf8.ensures.len ∙ ap (λ x. length (encode_utf8 x)) c.in_ok-c.ensures.value.1 in
    escaped_len (keep_of c.args.part) c.args.point c.len_utf8.result (scalar_apart c.args.point c.in_ok-c.ensures.cases) other long
