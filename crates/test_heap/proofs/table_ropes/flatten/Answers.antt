use Rattle.std.proofs.Common.{◌≡◌, ◌<◌, ◌+◌, ◌^◌, ◌∙◌, false, ap, arith, subst, sym}
use Rattle.js_header.specs.declared.form.Form.TheVariants.{Flat}
use Rattle.heap_rule.specs.declared.size.HeapSize.{HeapSize}
use Rattle.heap_rule.specs.declared.view.View.{View}
use Rattle.heap_rule.specs.Births.{stored_word}
use Rattle.heap_rule.specs.HeaderMoves.{MayFlatten}
use Rattle.heap_rule.specs.Maps.{HasKey}
use Rattle.heap_rule.proofs.Possible.{possible_lawful}
use Rattle.test_heap.proofs.Making.{first_claimed, first_own, laid, lost_own, may_flatten, second_claimed}
use Rattle.test_heap.proofs.table_ropes.flatten.Goals as goal

pub store_word-requires-clause-own : goal.store_word-requires-clause-own
store_word-requires-clause-own c = subst (λ (y : View). HasKey y.own_words c.in-Ok.start) (sym c.in-Ok.ensures.view) (first_claimed c.args.agent.now.seat.me.0 c.in-Ok.start)

pub store_word-requires-2-clause-own : goal.store_word-requires-2-clause-own
store_word-requires-2-clause-own c = let v : View = c.args.agent.now.seat.me.0 in let start = c.in-Ok.start in
    subst (λ (y : View). HasKey y.own_words (start + 1)) (sym (c.store_word.ensures.view ∙ ap
    (λ (y : View). stored_word y start c.args.first) c.in-Ok.ensures.view)) (second_claimed v start c.args.first)

pub flatten_step-step-requires-clause-may : goal.flatten_step-step-requires-clause-may
flatten_step-step-requires-clause-may c = let v : View = c.args.agent.now.seat.me.0 in let start = c.in-Ok.start in
    let is : c.store_word-2.new.self.seat.me.0 ≡ laid v start c.args.first c.args.second = c.store_word-2.ensures.view
    ∙ ap (λ (y : View). stored_word y (start + 1) c.args.second) (c.store_word.ensures.view ∙ ap (λ (y : View). stored_word y start c.args.first) c.in-Ok.ensures.view) in
    let sizes = ap (λ (z : HeapSize). z.words) c.requires.belongs.1 in let lawful = (possible_lawful v c.requires.belongs.5).3 in
    let room = c.in-Ok.ensures.room in let small : start < 2 ^ 29 = omega arith in
    subst (λ (y : View). MayFlatten y c.args.id c.args.old (Flat false start false)) (sym is)
    (may_flatten v start c.args.first c.args.second c.args.id c.args.old c.requires.form.0 c.requires.form.1 c.requires.units small)

pub returns-clause-own : goal.returns-clause-own
returns-clause-own c lost = let v : View = c.args.agent.now.seat.me.0 in let start = c.in-Ok.start in let e = c.flatten_step-step.ensures in
    let is : c.store_word-2.new.self.seat.me.0 ≡ laid v start c.args.first c.args.second = c.store_word-2.ensures.view
    ∙ ap (λ (y : View). stored_word y (start + 1) c.args.second) (c.store_word.ensures.view ∙ ap (λ (y : View). stored_word y start c.args.first) c.in-Ok.ensures.view) in
    let same = lost_own c.store_word-2.new.self.seat.me.0 c.flatten_step-step.new.self.seat.me.0 c.args.id c.args.old (Flat false start false) c.flatten_step-step.result e.step lost e.view in
    subst (λ m. HasKey m start) (sym (same ∙ ap (λ (y : View). y.own_words) is)) (first_own v start c.args.first c.args.second)
