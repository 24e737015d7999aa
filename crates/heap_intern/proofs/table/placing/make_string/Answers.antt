use Rattle.std.proofs.Common.{◌≡◌, ◌∙◌, ℕ, [], inl, ap, subst, sym}
use Rattle.std.specs.Prelude.{unwrap_or}
use Rattle.js_header.specs.declared.form.Form.{Form}
use Rattle.heap_rule.specs.declared.view.View.{View}
use Rattle.heap_rule.specs.Forms.{IsSliced}
use Rattle.heap_rule.proofs.MapLemmas.{key_of}
use Rattle.heap_intern.specs.Answers.{HeaderPlan, words_of_copy}
use Rattle.heap_intern.specs.Goes.{AddsCalls}
use Rattle.heap_intern.specs.Headers.{IsFlat, begins, plan_by}
use Rattle.heap_intern.specs.Taking.{HasGiven, without_given}
use Rattle.heap_read.proofs.Freezing.{possible_free}
use Rattle.heap_intern.proofs.Bearing.{frozen_word, no_part, plain_over}
use Rattle.heap_intern.proofs.Giving.{goes_without, none_given, own_without}
use Rattle.heap_intern.proofs.Planning.{plain_is}
use Rattle.heap_intern.proofs.Searches.{one_opening, plain_start}
use Rattle.heap_intern.proofs.Seeking.{words_frozen}
use Rattle.heap_intern.proofs.table.placing.make_string.Goals as goal

pub copy_part-requires-clause-known : goal.copy_part-requires-clause-known
copy_part-requires-clause-known g c = let v : View = c.args.reader.now.agent.seat.me.0 in let o = c.requires.opening in key_of v.units c.args.opening.sought.id o.0 o.1.units

pub copy_part-requires-clause-wide : goal.copy_part-requires-clause-wide
copy_part-requires-clause-wide g c us h = let v : View = c.args.reader.now.agent.seat.me.0 in let o = c.requires.opening in let s = c.args.opening.sought in
    let t = one_opening v us o.0 c.args.opening o.1 h in subst (λ (f : Form). c.args.opening.wide ≡ (plan_by f s us).wide) c.in-Sliced.is t.wide

pub copy_part-requires-clause-given : goal.copy_part-requires-clause-given
copy_part-requires-clause-given g c us h = let v : View = c.args.reader.now.agent.seat.me.0 in let o = c.requires.opening in let s = c.args.opening.sought in
    let t = one_opening v us o.0 c.args.opening o.1 h in
    let words : c.args.opening.words ≡ words_of_copy us = subst (λ (f : Form). c.args.opening.words ≡ (plan_by f s us).words) c.in-Sliced.is t.words in
    subst (λ (n : ℕ). HasGiven v n c.args.given) words c.requires.given

pub returns-in-Sliced-clause-goes : goal.returns-in-Sliced-clause-goes
returns-in-Sliced-clause-goes g c = let v : View = c.args.reader.now.agent.seat.me.0 in let w : View = c.copy_part.new.reader.agent.seat.me.0 in let o = c.requires.opening in let s = c.args.opening.sought in
    let words : c.args.opening.words ≡ words_of_copy o.0 = subst (λ (f : Form). c.args.opening.words ≡ (plan_by f s o.0).words) c.in-Sliced.is o.1.words in
    subst (λ (n : ℕ). AddsCalls (without_given v n c.args.given) w []) (sym words) (c.copy_part.ensures.goes o.0 o.1.units)

pub returns-in-Sliced-clause-flat : goal.returns-in-Sliced-clause-flat
returns-in-Sliced-clause-flat g c us h = let w : View = c.copy_part.new.reader.agent.seat.me.0 in let s = c.args.opening.sought in let x = c.args.given in
    subst (λ (f : Form). IsFlat w (plan_by f s us).wide (unwrap_or (plan_by f s us).start x.start) us x.id) (sym c.in-Sliced.is) (c.copy_part.ensures.flat us h.units)

pub bear_given-requires-clause-over : goal.bear_given-requires-clause-over
bear_given-requires-clause-over g c = let v : View = c.args.reader.now.agent.seat.me.0 in let o = c.requires.opening in let s = c.args.opening.sought in let l = o.1.sought in
    let whole : IsSliced s.form → ⊥ = no_part s.form c.in_default.not-Sliced in (
      o.0,
      plain_over v c.args.reader.now.belongs.5 s l whole (words_frozen v s.window (l.whole whole).1 o.1.frozen)
          c.first_word.result c.first_word.ensures.empty c.first_word.ensures.some o.0 o.1.units,
    )

pub bear_given-requires-clause-own : goal.bear_given-requires-clause-own
bear_given-requires-clause-own g c = c.requires.given.id

pub returns-clause-goes : goal.returns-clause-goes
returns-clause-goes g c = let v : View = c.args.reader.now.agent.seat.me.0 in let p = c.args.reader.now.belongs.5 in let o = c.requires.opening in let s = c.args.opening.sought in let l = o.1.sought in
    let whole : IsSliced s.form → ⊥ = no_part s.form c.in_default.not-Sliced in let n : ℕ = c.args.opening.words in let x = c.args.given in
    let all = words_frozen v s.window (l.whole whole).1 o.1.frozen in
    c.bear_given.ensures.goes (without_given v n x) (goes_without v n x) (none_given v n x)
    (λ q lo hi own. possible_free v p q (inl (frozen_word v p s l whole all c.first_word.result c.first_word.ensures.empty c.first_word.ensures.some q lo hi)) (own_without v n x q own))

pub returns-clause-flat : goal.returns-clause-flat
returns-clause-flat g c us h = let v : View = c.args.reader.now.agent.seat.me.0 in let w : View = c.bear_given.new.reader.agent.seat.me.0 in let p = c.args.reader.now.belongs.5 in
    let s = c.args.opening.sought in let l = h.sought in
    let whole : IsSliced s.form → ⊥ = no_part s.form c.in_default.not-Sliced in let x = c.args.given in
    let same = plain_is s.form s us whole in let none : c.args.opening.words ≡ 0 = h.words ∙ ap (λ (q : HeaderPlan). q.words) same in
    let flat = c.bear_given.ensures.flat us (plain_over v p s l whole (words_frozen v s.window (l.whole whole).1 h.frozen)
    c.first_word.result c.first_word.ensures.empty c.first_word.ensures.some us h.units) in
    let start : c.first_word.result ≡ unwrap_or (begins s.window.len s.window.start) x.start =
    plain_start s.window.len s.window.start c.first_word.result x.start c.first_word.ensures.empty c.first_word.ensures.some (c.requires.given.none none) in
    subst (λ (q : HeaderPlan). IsFlat w q.wide (unwrap_or q.start x.start) us x.id) (sym same)
    (subst (λ (m : ℕ). IsFlat w s.window.wide m us x.id) start flat)
