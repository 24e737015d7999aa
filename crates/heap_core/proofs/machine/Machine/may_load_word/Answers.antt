use Rattle.std.proofs.Common.{refl}
use Rattle.heap_rule.specs.declared.view.View.{View}
use Rattle.heap_rule.specs.Loads.{MayLoadWord}
use Rattle.heap_core.specs.Core.{core_of}
use Rattle.heap_core.specs.Events.{LiveIn}
use Rattle.heap_core.proofs.LoadSteps.{word_inside, word_found, word_room_by, word_not_live, word_not_known, word_tells}
use Rattle.heap_core.proofs.machine.Machine.may_load_word.Goals as goal

pub returns-in_default : goal.returns-in_default
returns-in_default c = word_not_live (core_of c.args.self.now) c.requires c.args.view c.args.at c.args.names.now (c.in_default.ensures.none refl)

pub returns-then-not-may_load_word : goal.returns-then-not-may_load_word
returns-then-not-may_load_word c = word_not_known (core_of c.args.self.now) c.requires c.args.view c.args.at c.args.names.now c.in-Some.v.now c.in-Some.ensures.some c.if-not-may_load_word.ensures.1

pub content_place-requires : goal.content_place-requires
content_place-requires c = let e = c.in-Some.ensures.some in
    let t : LiveIn c.args.self.now.views.items c.args.view (λ (v : View). MayLoadWord v c.args.at) = (
      c.in-Some.v.now,
      e.0,
      e.1,
      c.if-not-may_load_word.ensures.0 refl,
    ) in let w = word_inside (core_of c.args.self.now) c.requires c.args.view c.args.at t in (w.0, w.1)

pub justifies_all-requires : goal.justifies_all-requires
justifies_all-requires c = let e = c.in-Some.ensures.some in
    let t : LiveIn c.args.self.now.views.items c.args.view (λ (v : View). MayLoadWord v c.args.at) = (
      c.in-Some.v.now,
      e.0,
      e.1,
      c.if-not-may_load_word.ensures.0 refl,
    ) in word_room_by (core_of c.args.self.now) c.requires c.args.view c.args.at c.word-found.result
    c.word_load.result t (word_found (core_of c.args.self.now) c.requires c.args.view c.args.at c.content_place.result c.word-found.result
    c.content_place.ensures c.word-found.ensures) c.word_load.ensures.view

pub returns : goal.returns
returns c = let e = c.in-Some.ensures.some in
    let t : LiveIn c.args.self.now.views.items c.args.view (λ (v : View). MayLoadWord v c.args.at) = (
      c.in-Some.v.now,
      e.0,
      e.1,
      c.if-not-may_load_word.ensures.0 refl,
    ) in word_tells (core_of c.args.self.now) c.requires c.args.view c.args.at c.word-found.result
    c.args.names.now c.word_load.result c.justifies_all.result t (word_found (core_of c.args.self.now) c.requires c.args.view c.args.at
    c.content_place.result c.word-found.result c.content_place.ensures c.word-found.ensures) c.word_load.ensures.view c.justifies_all.ensures
