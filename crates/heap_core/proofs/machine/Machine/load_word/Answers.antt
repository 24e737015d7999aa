use Rattle.std.proofs.Common.{◌≡◌, subst}
use Rattle.heap_rule.specs.declared.view.View.{View}
use Rattle.heap_rule.specs.Loads.{MayLoadWord, loaded_word}
use Rattle.heap_rule.specs.Agents.{spent}
use Rattle.heap_core_views.specs.Loading.{loaded_by}
use Rattle.heap_rule.proofs.ListLemmas.{at_index}
use Rattle.heap_core.specs.Core.{core_of}
use Rattle.heap_core.specs.Events.{LiveIn, view_at}
use Rattle.heap_core.proofs.StateLemmas.{view_inside}
use Rattle.heap_core.proofs.LoadSteps.{word_inside, word_found, word_room, may_word, word_became}
use Rattle.heap_core.proofs.machine.Machine.load_word.Goals as goal

pub content_place-requires : goal.content_place-requires
content_place-requires c = let t : LiveIn c.args.self.now.views.items c.args.view (λ (v : View). MayLoadWord v c.args.at) = may_word
    (core_of c.args.self.now) c.requires.core c.args.view c.args.at c.args.names.now c.requires.can in
    let w = word_inside (core_of c.args.self.now) c.requires.core c.args.view c.args.at t in (w.0, w.1)

pub view-requires : goal.view-requires
view-requires c = let t : LiveIn c.args.self.now.views.items c.args.view (λ (v : View). MayLoadWord v c.args.at) = may_word
    (core_of c.args.self.now) c.requires.core c.args.view c.args.at c.args.names.now c.requires.can in
    view_inside c.args.self.now.views.items c.args.view (λ (v : View). MayLoadWord v c.args.at) t

pub learn-requires-clause-inside : goal.learn-requires-clause-inside
learn-requires-clause-inside c =
    let t : LiveIn c.args.self.now.views.items c.args.view (λ (v : View). MayLoadWord v c.args.at) = may_word (core_of c.args.self.now)
    c.requires.core c.args.view c.args.at c.args.names.now c.requires.can in view_inside c.args.self.now.views.items c.args.view
    (λ (v : View). MayLoadWord v c.args.at) t

pub learn-requires-clause-room : goal.learn-requires-clause-room
learn-requires-clause-room c =
    let t : LiveIn c.args.self.now.views.items c.args.view (λ (v : View). MayLoadWord v c.args.at) = may_word (core_of c.args.self.now)
    c.requires.core c.args.view c.args.at c.args.names.now c.requires.can in word_room (core_of c.args.self.now) c.requires.core c.args.view
    c.args.at c.word-found.result c.word_load-load.result (view_at (core_of c.args.self.now) c.args.view) t
    (at_index c.args.self.now.views.items c.args.view t.0 spent t.1) (word_found (core_of c.args.self.now) c.requires.core c.args.view
    c.args.at c.content_place.result c.word-found.result c.content_place.ensures c.word-found.ensures)
    (subst (λ (v : View). loaded_by v c.word_load-load.result ≡ loaded_word v c.args.at c.word-found.result) c.view.ensures c.word_load-load.ensures.view)

pub returns : goal.returns
returns c = word_became (core_of c.args.self.now) c.requires.core c.args.view c.args.at c.word-found.result c.args.names.now
    c.word_load-load.result (core_of c.learn.new.self) (word_found (core_of c.args.self.now) c.requires.core c.args.view c.args.at
    c.content_place.result c.word-found.result c.content_place.ensures c.word-found.ensures)
    (subst (λ (v : View). loaded_by v c.word_load-load.result ≡ loaded_word v c.args.at c.word-found.result) c.view.ensures
    c.word_load-load.ensures.view) c.in_ok-learn.ensures.ok
