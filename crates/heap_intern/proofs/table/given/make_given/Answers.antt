use Rattle.std.proofs.Common.{◌≡◌, ◌≤◌, ℕ, Bool, List, subst, sym, arith}
use Rattle.std.specs.FinMap.{FinMap}
use Rattle.std.specs.Ordering.{nat_cmp}
use Rattle.js_units.specs.Lanes.{words_over}
use Rattle.heap_rule.specs.declared.view.View.{View}
use Rattle.heap_rule.specs.Layout.{MAX}
use Rattle.heap_rule.specs.Maps.{HasKey}
use Rattle.heap_read.specs.Reads.{KeepsBeside}
use Rattle.heap_read.proofs.Showing.{forms_held}
use Rattle.heap_intern.specs.Answers.{words_of_copy}
use Rattle.heap_intern.specs.Headers.{IsFlat}
use Rattle.heap_intern.specs.Keys.{units_of_key}
use Rattle.heap_intern.specs.Taking.{without_given}
use Rattle.heap_intern.proofs.Copies.{copied_over}
use Rattle.heap_intern.proofs.Giving.{given_written, goes_written, key_short, no_words_given, none_given}
use Rattle.heap_intern.proofs.Going.{forms_trans}
use Rattle.heap_intern.proofs.table.given.make_given.Goals as goal

pub write_key-requires-clause-own : goal.write_key-requires-clause-own
write_key-requires-clause-own g c q l =
    let words : words_over c.is_wide-wide.result c.len-n.result ≡ words_of_copy (units_of_key c.args.key.now) = (λ j. words_over (c.is_wide-wide.ensures j) (c.len-n.ensures j)) in
    c.requires.given.words q (omega (arith, l, words))

pub bear_given-requires-clause-own : goal.bear_given-requires-clause-own
bear_given-requires-clause-own g c = subst (λ (m : FinMap nat_cmp ℕ). HasKey m c.args.given.id) (sym c.write_key.ensures.writes.view.own_ids) c.requires.given.id

pub bear_given-requires-clause-over : goal.bear_given-requires-clause-over
bear_given-requires-clause-over g c = let p : View = c.write_key.new.reader.agent.seat.me.0 in let us : List ℕ = units_of_key c.args.key.now in let n = c.len-n.result in
    let short : n ≤ MAX = subst (λ (m : ℕ). m ≤ MAX) (sym c.len-n.ensures) (key_short c.args.key.now c.requires.key) in (
      us,
      copied_over p c.is_wide-wide.result c.args.given.start n us (given_written p c.write_key.new.reader.belongs.5 us c.args.given
          c.is_wide-wide.result n c.len-n.ensures c.is_wide-wide.ensures c.write_key.ensures.written c.requires.given.none) c.len-n.ensures short,
    )

pub returns-clause-goes : goal.returns-clause-goes
returns-clause-goes g c = let v : View = c.args.reader.now.agent.seat.me.0 in let p : View = c.write_key.new.reader.agent.seat.me.0 in let us : List ℕ = units_of_key c.args.key.now in
    let x = c.args.given in let words : words_over c.is_wide-wide.result c.len-n.result ≡ words_of_copy us = (λ j. words_over (c.is_wide-wide.ensures j) (c.len-n.ensures j)) in
    c.bear_given.ensures.goes (without_given v (words_of_copy us) x) (goes_written v p (words_of_copy us) x c.write_key.ensures.writes.view (subst (λ (m : ℕ). KeepsBeside x.start m v p) words c.write_key.ensures.others))
    (none_given v (words_of_copy us) x) (no_words_given v (words_of_copy us) x (words_over c.is_wide-wide.result c.len-n.result) words)

pub returns-clause-forms : goal.returns-clause-forms
returns-clause-forms g c = let v : View = c.args.reader.now.agent.seat.me.0 in let p : View = c.write_key.new.reader.agent.seat.me.0 in
    forms_trans v p c.bear_given.new.reader.agent.seat.me.0 (forms_held v p c.write_key.ensures.forms.0) c.bear_given.ensures.forms

pub returns-clause-flat : goal.returns-clause-flat
returns-clause-flat g c = let p : View = c.write_key.new.reader.agent.seat.me.0 in let x : View = c.bear_given.new.reader.agent.seat.me.0 in let us : List ℕ = units_of_key c.args.key.now in
    let n = c.len-n.result in let short : n ≤ MAX = subst (λ (m : ℕ). m ≤ MAX) (sym c.len-n.ensures) (key_short c.args.key.now c.requires.key) in
    subst (λ (b : Bool). IsFlat x b c.args.given.start us c.args.given.id) c.is_wide-wide.ensures (c.bear_given.ensures.flat us
    (copied_over p c.is_wide-wide.result c.args.given.start n us (given_written p c.write_key.new.reader.belongs.5 us c.args.given
    c.is_wide-wide.result n c.len-n.ensures c.is_wide-wide.ensures c.write_key.ensures.written c.requires.given.none) c.len-n.ensures short))
