use Rattle.std.proofs.Common.{◌≡◌, ◌∙◌, ◌<◌, ◌≤◌, ◌++◌, ◌∷◌, [], length, ap, rules, arith}
use Rattle.std.proofs.lemmas.List.{length-append}
use Rattle.heap_rule.specs.declared.view.View.{View}
use Rattle.heap_rule.specs.Agents.{spent, left_after_split, right_after_split}
use Rattle.heap_core.specs.Core.{core_of}
use Rattle.heap_core.proofs.StateLemmas.{view_inside, split_done, split_room}
use Rattle.heap_core.proofs.machine.Machine.split.Goals as goal

pub view-requires : goal.view-requires
view-requires c = view_inside c.args.self.now.views.items c.args.view (λ (v : View). (1 ≤ c.args.give) × (c.args.give < v.share)) c.requires.can

pub index_mut-requires : goal.index_mut-requires
index_mut-requires c = let l = view_inside c.args.self.now.views.items c.args.view
    (λ (v : View). (1 ≤ c.args.give) × (c.args.give < v.share)) c.requires.can in
    let grown : c.push.new.self.items ≡ c.args.self.now.views.items ++ c.in_ok-right.right ∷ [] = search rules in
    let n = ap length grown ∙ length-append c.args.self.now.views.items (c.in_ok-right.right ∷ []) in let ok = c.push.new.self.ok in omega arith

pub give-requires : goal.give-requires
give-requires c = split_room c.args.self.now.views.items c.push.new.self.items c.args.view c.args.give c.index_mut.result.now
    c.in_ok-right.right c.requires.can (search rules) c.index_mut.ensures.value

pub returns : goal.returns
returns c = split_done (core_of c.args.self.now) c.args.view c.args.give c.word.result spent c.index_mut.result.now c.give.new.view
    c.in_ok-right.right c.push.new.self.items c.requires.can c.word.ensures
    (c.in_ok-right.ensures ∙ ap (λ (v : View). right_after_split v c.args.give) c.view.ensures) (search rules)
    (c.give.ensures ∙ ap (λ (v : View). left_after_split v c.args.give) c.index_mut.ensures.value)
