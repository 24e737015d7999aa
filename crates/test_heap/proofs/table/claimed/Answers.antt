use Rattle.std.proofs.Common.{ℕ, ◌≤◌, inl, subst, sym, arith}
use Rattle.std.specs.FinMap.{FinMap}
use Rattle.std.specs.Ordering.{nat_cmp}
use Rattle.heap_rule.specs.declared.view.View.{View}
use Rattle.heap_rule.specs.Maps.{HasKey}
use Rattle.heap_rule.specs.Layout.{MAX}
use Rattle.heap_rule.specs.Loads.{MayLoadWord}
use Rattle.heap_rule.proofs.MapLemmas.{key_of, insert_same}
use Rattle.test_heap.proofs.table.claimed.Goals as goal

pub store_word-requires-clause-own : goal.store_word-requires-clause-own
store_word-requires-clause-own c = let at = c.in-Ok-claim_words.at in let m : FinMap nat_cmp ℕ = c.in-Ok.agent.seat.me.0.own_words in
    subst (λ (v : View). HasKey v.own_words at) (sym c.in-Ok-claim_words.ensures.view) (key_of _ at 0 (insert_same m at 0))

pub load_word-word-requires-clause-may : goal.load_word-word-requires-clause-may
load_word-word-requires-clause-may c =
    let at = c.in-Ok-claim_words.at in subst (λ (v : View). MayLoadWord v at) (sym c.store_word.ensures.view)
    (inl (key_of _ at 6513249 (insert_same c.claim_words.new.self.seat.me.0.own_words at 6513249)))

pub store_length-requires-clause-may : goal.store_length-requires-clause-may
store_length-requires-clause-may c = let id = c.in-Ok-claim_id.id in let m : FinMap nat_cmp ℕ = c.load_word-word.new.self.seat.me.0.own_ids in let few : 3 ≤ MAX = omega arith in
    (subst (λ (v : View). HasKey v.own_ids id) (sym c.in-Ok-claim_id.ensures.view) (key_of _ id 0 (insert_same m id 0)), few)
