use Rattle.std.proofs.Common.{◌∙◌, ◌<◌, ℕ, Ok, length, sym, ap, subst, arith}
use Rattle.heap_rule.specs.declared.view.View.{View}
use Rattle.heap_rule.specs.Maps.{HasKey}
use Rattle.heap_rule.specs.Births.{stored_word}
use Rattle.heap_core.specs.declared.event.Event.TheVariants.{StoreWord}
use Rattle.heap_core.specs.Core.{Core, core_of}
use Rattle.heap_core.specs.Events.{Made}
use Rattle.heap_core.proofs.StateLemmas.{view_inside, own_word, store_done}
use Rattle.heap_core.proofs.machine.Machine.store_word.Goals as goal

pub content_place-place-requires : goal.content_place-place-requires
content_place-place-requires c = let t = own_word (core_of c.args.self.now) c.args.view c.args.at c.requires.core c.requires.can in (t.0, t.1)

pub index_mut-requires : goal.index_mut-requires
index_mut-requires c = let l = view_inside c.args.self.now.views.items c.args.view (λ (v : View). HasKey v.own_words c.args.at) c.requires.can in let ok = c.args.self.now.views.ok in omega arith

pub store-requires : goal.store-requires
store-requires c = let t = own_word (core_of c.args.self.now) c.args.view c.args.at c.requires.core c.requires.can in subst
    (λ (p : ℕ). p < length c.args.self.now.words.items) (sym c.content_place-place.ensures) t.2

pub returns : goal.returns
returns c = subst (λ (t : Core). Made (core_of c.args.self.now) (StoreWord c.args.view c.args.at c.args.word) t (Ok c.word-found.result)) (sym c.store.ensures)
    (store_done (core_of c.args.self.now) c.args.view c.index_mut.result.now c.args.at c.args.word c.content_place-place.result
    c.word-found.result c.store_word.new.view c.requires.can c.content_place-place.ensures c.word-found.ensures
    (c.in_ok-store_word.ensures.ok ∙ ap (λ (v : View). stored_word v c.args.at c.args.word) c.index_mut.ensures.value))
