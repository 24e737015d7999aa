use Rattle.std.proofs.Common.{subst, sym}
use Rattle.heap_bytes.specs.declared.encoding.Encoding.TheVariants as read
use Rattle.c_steps.specs.declared.encoding.TextEncoding.{TextEncoding}
use Rattle.c_steps.specs.Encodings.{IsDecodedAs}
use Rattle.c_steps.proofs.Decoded.{decoded_as}
use Rattle.c_steps.proofs.encoding.decode.Goals as goal

pub returns-in-Utf8 : goal.returns-in-Utf8
returns-in-Utf8 c = let call = c.read in
    subst (λ (e : TextEncoding). IsDecodedAs e c.args.bytes.now call.result) (sym c.in-Utf8.is) (decoded_as read.Utf8 c.args.bytes.now call.result call.ensures.read call.ensures.most)

pub returns-in-Wtf8 : goal.returns-in-Wtf8
returns-in-Wtf8 c = let call = c.read-in-Wtf8 in
    subst (λ (e : TextEncoding). IsDecodedAs e c.args.bytes.now call.result) (sym c.in-Wtf8.is) (decoded_as read.Wtf8 c.args.bytes.now call.result call.ensures.read call.ensures.most)
