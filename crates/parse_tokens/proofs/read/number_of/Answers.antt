use Rattle.std.proofs.Common.{◌≡◌, ◌∙◌, sym, length, arith}
use Rattle.parse_tokens.proofs.Table.{not_found, entered_by}
use Rattle.parse_tokens.proofs.read.number_of.Goals as goal

pub returns-in_ok-push-in-None-clause-number : goal.returns-in_ok-push-in-None-clause-number
returns-in_ok-push-in-None-clause-number c =
    let count : c.len-number.result ≡ length c.args.names.now.items = omega arith in
    count ∙ sym (not_found c.args.names.now.items c.args.letters.now (sym (c.requires.agrees c.args.letters.now) ∙ (sym c.get.ensures ∙ c.in-None.is)))

pub returns-in_ok-push-in-None-clause-agrees : goal.returns-in_ok-push-in-None-clause-agrees
returns-in_ok-push-in-None-clause-agrees c =
    let count : c.len-number.result ≡ length c.args.names.now.items = omega arith in
    entered_by c.args.numbers.now c.insert.new.self c.args.names.now.items c.push.new.self.items c.args.letters.now c.new.result c.len-number.result
    c.requires.agrees (sym (c.requires.agrees c.args.letters.now) ∙ (sym c.get.ensures ∙ c.in-None.is)) count
    c.in_ok-insert-in-None.ensures (c.new.ensures ∙ c.in_ok-from_slice-in-None.ensures.items) c.in_ok-push-in-None.ensures.items
