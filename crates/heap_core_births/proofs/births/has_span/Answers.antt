use Rattle.std.proofs.Common.{◌≡◌, ◌+◌, ◌<◌, ◌∙◌, ℕ, List, false, true, length, get_or, refl, sym, ap, arith}
use Rattle.heap_rule.specs.Contents.{lane_in}
use Rattle.heap_rule.specs.Views.{shown_word}
use Rattle.heap_rule.proofs.Possible.{span_lane}
use Rattle.heap_core_births.proofs.Spans.{span_all}
use Rattle.heap_core_births.proofs.births.has_span.Goals as goal

pub returns-then-shown_lane-us : goal.returns-then-shown_lane-us
returns-then-shown_lane-us c = (
  (λ (e : false ≡ true). absurd (cc)),
  (λ h. let inside : c.lanes.o < length c.args.us.now = c.lanes-test.true in let plain : c.lanes.o ≡ 0 + c.lanes.o = omega arith in
      absurd (c.if-shown_lane-us.true (c.shown_lane.ensures ∙ (ap (lane_in (shown_word c.args.view.now) c.args.wide c.args.start) plain
      ∙ (sym (span_lane (shown_word c.args.view.now) c.args.wide c.args.start 0 (length c.args.us.now) c.lanes.o inside) ∙ ap (λ (l : List ℕ). get_or l c.lanes.o 0) h))))),
)

pub returns : goal.returns
returns c = ((λ _. span_all (shown_word c.args.view.now) c.args.wide c.args.start 0 c.args.us.now (λ k l. let t = c.lanes-test.false in c.lanes.invariant.0 k (omega arith))), (λ _. refl))
