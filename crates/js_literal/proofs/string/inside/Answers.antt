use Rattle.std.proofs.Common.{◌≡◌, ◌++◌, sym, subst, arith, rules}
use Rattle.std.specs.Str.{chars}
use Rattle.js_literal.specs.Reader.{value_units, kind_of}
use Rattle.js_literal.proofs.Pieces.{Closes, shorter, closes_more, fails_more, whole_closed, broken}
use Rattle.js_literal.proofs.Plain.{closes_behind, fails_behind, behind_shorter}
use Rattle.js_literal.proofs.string.inside.Goals as goal

pub pieces-smaller : goal.pieces-smaller
pieces-smaller c =
    let s = chars c.pieces.rest.now in
    let behind = chars c.split_plain.result.1.now in
    omega (
      arith,
      shorter c.args.quote behind (value_units c.in-Piece.value) (chars c.in-Piece.after.now) c.requires c.in-Piece.ensures,
      behind_shorter c.args.quote s behind c.split_plain.ensures.rest,
    )

pub pieces-preserved : goal.pieces-preserved
pieces-preserved c =
    let q = c.args.quote in
    let whole = chars c.args.text.now in
    let s = chars c.pieces.rest.now in
    let behind = chars c.split_plain.result.1.now in
    let mid = chars c.in-Piece.after.now in
    let us = value_units c.in-Piece.value in
    let more = c.extend_from_latin1.new.self in
    let added : more ≡ c.pieces.units ++ c.split_plain.result.0.now = grind arith in
    let u : c.push_value.new.units ≡ more ++ us = grind arith in
    record {
      utf8 = search rules;
      closes = subst (λ w. Closes q whole w mid) (sym u) (closes_more q whole more behind us mid c.requires c.in-Piece.ensures
          (closes_behind q whole c.pieces.units s c.split_plain.result.0.now more behind c.requires added c.split_plain.ensures.run
          c.split_plain.ensures.rest c.pieces.invariant.closes));
      fails = fails_more q whole behind us mid c.requires c.in-Piece.ensures (fails_behind q whole s behind c.requires c.split_plain.ensures.rest c.pieces.invariant.fails);
    }

pub returns-in-Close-clause-ok : goal.returns-in-Close-clause-ok
returns-in-Close-clause-ok c =
    let q = c.args.quote in
    let whole = chars c.args.text.now in
    let s = chars c.pieces.rest.now in
    let behind = chars c.split_plain.result.1.now in
    let rest = chars c.in-Close.after.now in
    let more = c.extend_from_latin1.new.self in
    let added : more ≡ c.pieces.units ++ c.split_plain.result.0.now = grind arith in (
      rest,
      whole_closed q whole more behind rest c.requires c.in-Close.ensures
          (closes_behind q whole c.pieces.units s c.split_plain.result.0.now more behind c.requires added c.split_plain.ensures.run
          c.split_plain.ensures.rest c.pieces.invariant.closes),
      sym c.byte_len.ensures,
    )

pub returns-in-Refused-clause-err : goal.returns-in-Refused-clause-err
returns-in-Refused-clause-err c =
    let q = c.args.quote in
    let s = chars c.pieces.rest.now in
    let behind = chars c.split_plain.result.1.now in
    let k = kind_of c.in-Refused.refusal in (
      behind,
      fails_behind q (chars c.args.text.now) s behind c.requires c.split_plain.ensures.rest c.pieces.invariant.fails k behind
          (broken q behind k c.requires c.in-Refused.ensures),
      sym c.byte_len-in-Refused.ensures,
    )
