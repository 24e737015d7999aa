use Rattle.std.proofs.Common.{inl, subst, sym}
use Rattle.heap_rule.specs.declared.view.View.{View}
use Rattle.heap_rule.specs.Births.{stored_word}
use Rattle.heap_rule.specs.Loads.{MayLoadWord}
use Rattle.heap_rule.proofs.MapLemmas.{insert_same, key_of}
use Rattle.test_heap.proofs.table_ropes.words_of_a_lost_one_stay_own.Goals as goal

pub load_word-requires-clause-may : goal.load_word-requires-clause-may
load_word-requires-clause-may g c = let v : View = c.flatten-2.new.agent.seat.me.0 in let start = c.in-Some-default-Lost.start in
    subst (λ (y : View). MayLoadWord y start) (sym c.store_word.ensures.view) (inl (key_of (stored_word v start 7).own_words start 7 (insert_same v.own_words start 7)))
