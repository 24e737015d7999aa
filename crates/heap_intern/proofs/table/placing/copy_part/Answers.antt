use Rattle.std.proofs.Common.{◌≡◌, ◌≤◌, ◌+◌, ◌∙◌, ℕ, Bool, List, ap, length, subst, sym, arith}
use Rattle.std.specs.FinMap.{FinMap}
use Rattle.std.specs.Ordering.{nat_cmp}
use Rattle.js_units.specs.Lanes.{is_wide, words_over}
use Rattle.heap_rule.specs.declared.view.View.{View}
use Rattle.heap_rule.specs.Layout.{MAX}
use Rattle.heap_rule.specs.Maps.{HasKey}
use Rattle.heap_rule.proofs.MapLemmas.{has_key, key_of}
use Rattle.heap_rule.proofs.Possible.{possible_short}
use Rattle.heap_read.specs.Reads.{KeepsBeside}
use Rattle.heap_read.specs.Written.{AreWords}
use Rattle.heap_read.proofs.Showing.{forms_held}
use Rattle.heap_intern.specs.Answers.{words_of_copy}
use Rattle.heap_intern.specs.Headers.{IsFlat, MayBeOver}
use Rattle.heap_intern.specs.Taking.{without_given}
use Rattle.heap_intern.proofs.Copies.{copied_over}
use Rattle.heap_intern.proofs.Giving.{given_written, goes_written, no_words_given, none_given}
use Rattle.heap_intern.proofs.Going.{forms_trans}
use Rattle.heap_intern.proofs.Seeking.{sought_length, source_is, source_shows}
use Rattle.heap_intern.proofs.table.placing.copy_part.Goals as goal

pub write_at-requires-clause-shows : goal.write_at-requires-clause-shows
write_at-requires-clause-shows g c = let v : View = c.args.reader.now.agent.seat.me.0 in let p = c.args.reader.now.belongs.5 in
    let s = c.args.s in let lies = c.requires.lies in let key = has_key v.units s.id c.requires.known in source_shows v p s key.0 lies key.1

pub write_at-requires-clause-count : goal.write_at-requires-clause-count
write_at-requires-clause-count g c = let v : View = c.args.reader.now.agent.seat.me.0 in let p = c.args.reader.now.belongs.5 in
    let s = c.args.s in let lies = c.requires.lies in let key = has_key v.units s.id c.requires.known in
    ap length (source_is v p s key.0 lies key.1) ∙ sym (sought_length v p s key.0 lies key.1)

pub write_at-requires-clause-wide : goal.write_at-requires-clause-wide
write_at-requires-clause-wide g c = let v : View = c.args.reader.now.agent.seat.me.0 in let p = c.args.reader.now.belongs.5 in
    let s = c.args.s in let lies = c.requires.lies in let key = has_key v.units s.id c.requires.known in
    c.requires.wide key.0 key.1 ∙ sym (ap is_wide (source_is v p s key.0 lies key.1))

pub write_at-requires-clause-short : goal.write_at-requires-clause-short
write_at-requires-clause-short g c = let v : View = c.args.reader.now.agent.seat.me.0 in let p = c.args.reader.now.belongs.5 in
    let s = c.args.s in let lies = c.requires.lies in let key = has_key v.units s.id c.requires.known in
    let n = sought_length v p s key.0 lies key.1 in let most = possible_short v p s.id key.0 key.1 in omega (arith, n, most)

pub write_at-requires-clause-own : goal.write_at-requires-clause-own
write_at-requires-clause-own g c q l = let v : View = c.args.reader.now.agent.seat.me.0 in let p = c.args.reader.now.belongs.5 in
    let s = c.args.s in let lies = c.requires.lies in let key = has_key v.units s.id c.requires.known in
    let words : words_over c.args.wide s.window.len ≡ words_of_copy key.0 = (λ j. words_over (c.requires.wide key.0 key.1 j) (sought_length v p s key.0 lies key.1 j)) in
    key_of v.own_words (c.args.given.start + q) 0 ((c.requires.given key.0 key.1).words q (omega (arith, l, words)))

pub bear_given-requires-clause-own : goal.bear_given-requires-clause-own
bear_given-requires-clause-own g c = let v : View = c.args.reader.now.agent.seat.me.0 in let key = has_key v.units c.args.s.id c.requires.known in
    subst (λ (m : FinMap nat_cmp ℕ). HasKey m c.args.given.id) (sym c.write_at.ensures.writes.view.own_ids) (c.requires.given key.0 key.1).id

pub bear_given-requires-clause-over : goal.bear_given-requires-clause-over
bear_given-requires-clause-over g c = let v : View = c.args.reader.now.agent.seat.me.0 in let p = c.args.reader.now.belongs.5 in let w : View = c.write_at.new.self.agent.seat.me.0 in
    let s = c.args.s in let lies = c.requires.lies in let key = has_key v.units s.id c.requires.known in let n = sought_length v p s key.0 lies key.1 in
    let most = possible_short v p s.id key.0 key.1 in let short : s.window.len ≤ MAX = omega (arith, n, most) in let x = c.args.given in
    let written : AreWords w c.args.wide x.start key.0 (words_over c.args.wide s.window.len) = subst (λ (ws : List ℕ). AreWords w c.args.wide x.start ws (words_over c.args.wide s.window.len))
    (source_is v p s key.0 lies key.1) c.write_at.ensures.written in (
      key.0,
      copied_over w c.args.wide x.start s.window.len key.0 (given_written w c.write_at.new.self.belongs.5 key.0 x c.args.wide s.window.len n (c.requires.wide key.0 key.1) written
          (c.requires.given key.0 key.1).none) n short,
    )

pub returns-clause-goes : goal.returns-clause-goes
returns-clause-goes g c us h = let v : View = c.args.reader.now.agent.seat.me.0 in let p = c.args.reader.now.belongs.5 in let w : View = c.write_at.new.self.agent.seat.me.0 in
    let s = c.args.s in let n = sought_length v p s us c.requires.lies h in let x = c.args.given in
    let words : words_over c.args.wide s.window.len ≡ words_of_copy us = (λ j. words_over (c.requires.wide us h j) (n j)) in
    c.bear_given.ensures.goes (without_given v (words_of_copy us) x)
    (goes_written v w (words_of_copy us) x c.write_at.ensures.writes.view (subst (λ (m : ℕ). KeepsBeside x.start m v w) words c.write_at.ensures.others))
    (none_given v (words_of_copy us) x) (no_words_given v (words_of_copy us) x (words_over c.args.wide s.window.len) words)

pub returns-clause-forms : goal.returns-clause-forms
returns-clause-forms g c = let v : View = c.args.reader.now.agent.seat.me.0 in let w : View = c.write_at.new.self.agent.seat.me.0 in
    forms_trans v w c.bear_given.new.reader.agent.seat.me.0 (forms_held v w c.write_at.ensures.forms.0) c.bear_given.ensures.forms

pub returns-clause-flat : goal.returns-clause-flat
returns-clause-flat g c us h = let v : View = c.args.reader.now.agent.seat.me.0 in let p = c.args.reader.now.belongs.5 in let w : View = c.write_at.new.self.agent.seat.me.0 in
    let y : View = c.bear_given.new.reader.agent.seat.me.0 in
    let s = c.args.s in let n = sought_length v p s us c.requires.lies h in
    let most = possible_short v p s.id us h in let short : s.window.len ≤ MAX = omega (arith, n, most) in let x = c.args.given in
    let written : AreWords w c.args.wide x.start us (words_over c.args.wide s.window.len) = subst (λ (ws : List ℕ). AreWords w c.args.wide x.start ws (words_over c.args.wide s.window.len))
    (source_is v p s us c.requires.lies h) c.write_at.ensures.written in
    let over : MayBeOver w c.args.wide x.start s.window.len us = copied_over w c.args.wide x.start s.window.len us
    (given_written w c.write_at.new.self.belongs.5 us x c.args.wide s.window.len n (c.requires.wide us h) written (c.requires.given us h).none) n short in
    subst (λ (b : Bool). IsFlat y b x.start us x.id) (c.requires.wide us h) (c.bear_given.ensures.flat us over)
