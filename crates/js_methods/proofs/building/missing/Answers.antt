use Rattle.std.proofs.Common.{◌≡◌, ◌+◌, ◌-◌, ◌≤◌, length, arith, rules}
use Rattle.js_store.specs.State.{text}
use Rattle.js_methods.proofs.Padded.{padded_is}
use Rattle.js_methods.proofs.building.missing.Goals as goal

pub returns-then-padded-from-clause-throws : goal.returns-then-padded-from-clause-throws
returns-then-padded-from-clause-throws g c =
    let size : c.len-size.result ≡ length (text (g.S.Strings.state c.args.store.now) (g.S.Strings.number c.args.filler)) = search rules in
    let len : c.from.result ≡ length (text (g.S.Strings.state c.args.store.now) (g.S.Strings.number c.args.s)) = search rules in
    let full : 1 ≤ length (text (g.S.Strings.state c.args.store.now) (g.S.Strings.number c.args.filler)) → c.padded_length-padded.result ≡
    length (text (g.S.Strings.state c.args.store.now) (g.S.Strings.number c.args.s)) +
    (c.args.max - length (text (g.S.Strings.state c.args.store.now) (g.S.Strings.number c.args.s))) = λ h. omega
    (arith, len, c.padded_length-padded.ensures.full (omega (arith, size, h))) in
    let empty : length (text (g.S.Strings.state c.args.store.now) (g.S.Strings.number c.args.filler)) ≡ 0 → c.padded_length-padded.result ≡
    length (text (g.S.Strings.state c.args.store.now) (g.S.Strings.number c.args.s)) = λ h. omega
    (arith, len, c.padded_length-padded.ensures.empty (omega (arith, size, h))) in
    let padded = padded_is (length (text (g.S.Strings.state c.args.store.now) (g.S.Strings.number c.args.s))) c.args.max
    c.padded_length-padded.result (text (g.S.Strings.state c.args.store.now) (g.S.Strings.number c.args.filler)) full empty in
    search rules

pub returns-clause-value : goal.returns-clause-value
returns-clause-value g c =
    let size : c.len-size.result ≡ length (text (g.S.Strings.state c.args.store.now) (g.S.Strings.number c.args.filler)) = search rules in
    let len : c.from.result ≡ length (text (g.S.Strings.state c.args.store.now) (g.S.Strings.number c.args.s)) = search rules in
    let full : 1 ≤ length (text (g.S.Strings.state c.args.store.now) (g.S.Strings.number c.args.filler)) → c.padded_length-padded.result ≡
    length (text (g.S.Strings.state c.args.store.now) (g.S.Strings.number c.args.s)) +
    (c.args.max - length (text (g.S.Strings.state c.args.store.now) (g.S.Strings.number c.args.s))) = λ h. omega
    (arith, len, c.padded_length-padded.ensures.full (omega (arith, size, h))) in
    let empty : length (text (g.S.Strings.state c.args.store.now) (g.S.Strings.number c.args.filler)) ≡ 0 → c.padded_length-padded.result ≡
    length (text (g.S.Strings.state c.args.store.now) (g.S.Strings.number c.args.s)) = λ h. omega
    (arith, len, c.padded_length-padded.ensures.empty (omega (arith, size, h))) in
    let padded = padded_is (length (text (g.S.Strings.state c.args.store.now) (g.S.Strings.number c.args.s))) c.args.max
    c.padded_length-padded.result (text (g.S.Strings.state c.args.store.now) (g.S.Strings.number c.args.filler)) full empty in
    search rules

pub returns-clause-throws : goal.returns-clause-throws
returns-clause-throws g c =
    let size : c.len-size.result ≡ length (text (g.S.Strings.state c.args.store.now) (g.S.Strings.number c.args.filler)) = search rules in
    let len : c.from.result ≡ length (text (g.S.Strings.state c.args.store.now) (g.S.Strings.number c.args.s)) = search rules in
    let full : 1 ≤ length (text (g.S.Strings.state c.args.store.now) (g.S.Strings.number c.args.filler)) → c.padded_length-padded.result ≡
    length (text (g.S.Strings.state c.args.store.now) (g.S.Strings.number c.args.s)) +
    (c.args.max - length (text (g.S.Strings.state c.args.store.now) (g.S.Strings.number c.args.s))) = λ h. omega
    (arith, len, c.padded_length-padded.ensures.full (omega (arith, size, h))) in
    let empty : length (text (g.S.Strings.state c.args.store.now) (g.S.Strings.number c.args.filler)) ≡ 0 → c.padded_length-padded.result ≡
    length (text (g.S.Strings.state c.args.store.now) (g.S.Strings.number c.args.s)) = λ h. omega
    (arith, len, c.padded_length-padded.ensures.empty (omega (arith, size, h))) in
    let padded = padded_is (length (text (g.S.Strings.state c.args.store.now) (g.S.Strings.number c.args.s))) c.args.max
    c.padded_length-padded.result (text (g.S.Strings.state c.args.store.now) (g.S.Strings.number c.args.filler)) full empty in
    search rules
