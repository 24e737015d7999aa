use Rattle.std.proofs.Common.{◌≡◌, ◌∙◌, ap, length, subst, sym}
use Rattle.js_units.specs.Lanes.{is_wide, words_over}
use Rattle.js_header.specs.declared.form.Form.{Form}
use Rattle.heap_rule.specs.declared.view.View.{View}
use Rattle.heap_rule.specs.Forms.{IsSliced}
use Rattle.heap_rule.proofs.MapLemmas.{has_key}
use Rattle.heap_intern.specs.Answers.{HeaderPlan}
use Rattle.heap_intern.specs.Headers.{plan_by}
use Rattle.heap_intern.proofs.Bearing.{no_part}
use Rattle.heap_intern.proofs.Planning.{plain_is}
use Rattle.heap_intern.proofs.Seeking.{sought_length, source_is, source_shows}
use Rattle.heap_intern.proofs.table.strings.header_need.Goals as goal

pub has_wide-wide-requires-clause-shows : goal.has_wide-wide-requires-clause-shows
has_wide-wide-requires-clause-shows g c = let v : View = c.args.reader.now.agent.seat.me.0 in let p = c.args.reader.now.belongs.5 in
    let s = c.args.s in let lies = c.requires.lies in let key = has_key v.units s.id c.requires.known in source_shows v p s key.0 lies key.1

pub has_wide-wide-requires-clause-count : goal.has_wide-wide-requires-clause-count
has_wide-wide-requires-clause-count g c = let v : View = c.args.reader.now.agent.seat.me.0 in let p = c.args.reader.now.belongs.5 in
    let s = c.args.s in let lies = c.requires.lies in let key = has_key v.units s.id c.requires.known in
    ap length (source_is v p s key.0 lies key.1) ∙ sym (sought_length v p s key.0 lies key.1)

pub returns-in-Sliced-clause-wide : goal.returns-in-Sliced-clause-wide
returns-in-Sliced-clause-wide g c us h = let v : View = c.args.reader.now.agent.seat.me.0 in let p = c.args.reader.now.belongs.5 in let s = c.args.s in
    subst (λ (f : Form). c.has_wide-wide.result ≡ (plan_by f s us).wide) (sym c.in-Sliced.is)
    (c.has_wide-wide.ensures.wide ∙ ap is_wide (source_is v p s us c.requires.lies h))

pub returns-in-Sliced-clause-words : goal.returns-in-Sliced-clause-words
returns-in-Sliced-clause-words g c us h = let v : View = c.args.reader.now.agent.seat.me.0 in let p = c.args.reader.now.belongs.5 in let s = c.args.s in
    let wide : c.has_wide-wide.result ≡ is_wide us = c.has_wide-wide.ensures.wide ∙ ap is_wide (source_is v p s us c.requires.lies h) in
    let long : s.window.len ≡ length us = sought_length v p s us c.requires.lies h in
    subst (λ (f : Form). c.words_for.result ≡ (plan_by f s us).words) (sym c.in-Sliced.is) (c.words_for.ensures ∙ (λ j. words_over (wide j) (long j)))

pub returns-clause-wide : goal.returns-clause-wide
returns-clause-wide g c us h = let whole : IsSliced c.args.s.form → ⊥ = no_part c.args.s.form c.in_default.not-Sliced in
    sym (ap (λ (p : HeaderPlan). p.wide) (plain_is c.args.s.form c.args.s us whole))

pub returns-clause-words : goal.returns-clause-words
returns-clause-words g c us h = let whole : IsSliced c.args.s.form → ⊥ = no_part c.args.s.form c.in_default.not-Sliced in
    sym (ap (λ (p : HeaderPlan). p.words) (plain_is c.args.s.form c.args.s us whole))
