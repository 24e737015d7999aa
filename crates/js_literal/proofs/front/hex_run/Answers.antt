use Rattle.std.proofs.Common.{◌≡◌, ◌+◌, ◌*◌, ◌∷◌, min, arith, rules, ◌∙◌, Some}
use Rattle.std.specs.Str.{chars}
use Rattle.js_literal.specs.Literal.{hex_value}
use Rattle.js_literal.proofs.Digits.{turn}
use Rattle.js_literal.proofs.front.hex_run.Goals as goal

pub loop-c-preserved : goal.loop-c-preserved
loop-c-preserved c =
    let m : c.min-value.result ≡ min (16 * c.loop-c.value + c.in-Some-hex_value.digit) 0x110000 = grind arith in
    let e : chars c.loop-c.text.now ≡ c.in-Some.c ∷ chars c.in-Some.rest.now = cc (c.in-Some.ensures) in
    let h : hex_value c.in-Some.c ≡ Some c.in-Some-hex_value.digit = cc (c.in-Some-hex_value.ensures) in
    let t = turn c.loop-c.value c.in-Some-hex_value.digit c.in-Some.c (chars c.in-Some.rest.now) (chars c.loop-c.text.now) e h in
    record {
      utf8 = search rules;
      bound = omega arith;
      value = rw m (t.value ∙ c.loop-c.invariant.value);
      rest = rw m (t.rest ∙ c.loop-c.invariant.rest);
    }
