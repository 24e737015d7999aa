use Rattle.std.proofs.Common.{◌<◌, ◌≤◌, ℕ, List, [], ◌∷◌, ◌++◌, length, ap₂, sym, ◌∙◌, subst, arith}
use Rattle.std.proofs.lemmas.List.{take_all, take_more}
use Rattle.heap_rule.specs.declared.view.View.{View}
use Rattle.heap_rule.specs.Maps.{Has}
use Rattle.heap_rule.proofs.MapLemmas.{has_key}
use Rattle.heap_read.proofs.Loaded.{known_trans}
use Rattle.heap_read.proofs.Showing.{forms_held, window_frozen, window_kept, window_length}
use Rattle.heap_example.proofs.greeting.read.Goals as goal

pub loop-i-init : goal.loop-i-init
loop-i-init c = record {
  heap = c.window-window.ensures.kept.heap ∙ c.settle.ensures.kept.heap;
  known = known_trans _ _ _ c.settle.ensures.continues.known c.window-window.ensures.reads.known;
  shows = λ us h. (c.window-window.ensures.shows us (c.settle.ensures.continues.known.units c.args.s.id us h)).0;
  copied = λ us h. c.new-units.ensures.items;
}

pub unit_in-requires-clause-frozen : goal.unit_in-requires-clause-frozen
unit_in-requires-clause-frozen c = let v : View = c.args.text.now.reader.agent.seat.me.0 in let p = has_key v.units c.args.s.id c.requires.known in
    window_frozen c.loop-i.text.reader.agent.seat.me.0 c.window-window.result p.0 (c.loop-i.invariant.shows p.0 p.1)

pub loop-i-preserved : goal.loop-i-preserved
loop-i-preserved c = let u : View = c.loop-i.text.reader.agent.seat.me.0 in let w : View = c.unit_in.new.self.reader.agent.seat.me.0 in let i = c.loop-i.invariant in record {
  heap = c.unit_in.ensures.kept.heap ∙ i.heap;
  known = known_trans _ _ _ i.known c.unit_in.ensures.reads.known;
  shows = λ us h. window_kept u w (forms_held u w c.unit_in.ensures.forms.0) c.window-window.result us c.unit_in.ensures.reads.known (i.shows us h);
  copied = λ us h. let n = window_length u c.window-window.result us (i.shows us h) in let more = c.loop-i-test.true in let within : c.loop-i.i < length us = omega arith in
      c.in_ok-push.ensures.items ∙ (ap₂ (λ (front : List ℕ) (unit : ℕ). front ++ unit ∷ []) (i.copied us h) (c.unit_in.ensures.unit us (i.shows us h)) ∙ sym (take_more us c.loop-i.i 0 within));
}

pub returns-clause-units : goal.returns-clause-units
returns-clause-units c = let v : View = c.args.text.now.reader.agent.seat.me.0 in let p = has_key v.units c.args.s.id c.requires.known in let i = c.loop-i.invariant in
    let n = window_length c.loop-i.text.reader.agent.seat.me.0 c.window-window.result p.0 (i.shows p.0 p.1) in let end = c.loop-i-test.false in let all : length p.0 ≤ c.loop-i.i = omega arith in
    subst (λ (us : List ℕ). Has v.units c.args.s.id us) (sym (i.copied p.0 p.1 ∙ take_all c.loop-i.i p.0 all)) p.1

pub returns-in_err-push-clause-known : goal.returns-in_err-push-clause-known
returns-in_err-push-clause-known c = known_trans _ _ _ c.loop-i.invariant.known c.unit_in.ensures.reads.known
