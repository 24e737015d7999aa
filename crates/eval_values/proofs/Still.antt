-- What a value stands for stays while the store grows.
use Rattle.std.proofs.Common.{◌≡◌, ℕ, List}
use Rattle.js_store.specs.State.{State, Grows}
use Rattle.js_texts.proofs.Lists.{every_map, map_same}
use Rattle.js_item.specs.declared.item.Item.{Item}
use Rattle.js_item.specs.Fine.{IsFine}
use Rattle.js_item.specs.Seen.{seen}
use Rattle.js_item.proofs.Still as still
use Rattle.js_item.proofs.Values as values
use Rattle.eval_values.specs.Seen.{all_seen, AllFine}

module _ {F R : Type 0} (a b : State F) (name : R → ℕ) (g : Grows a b) where
  pub seen_still : (v : Item R) → IsFine a name v → seen b name v ≡ seen a name v
  seen_still v h = values.seen_still a b name g v h

  pub fine_still : (v : Item R) → IsFine a name v → IsFine b name v
  fine_still v h = still.fine_still a b g name v h

  pub values_still : (vs : List (Item R)) → AllFine a name vs → all_seen b name vs ≡ all_seen a name vs
  values_still vs h = map_same (λ v k. seen_still v k) vs h

  pub values_fine_still : (vs : List (Item R)) → AllFine a name vs → AllFine b name vs
  values_fine_still vs h = every_map (λ v k. fine_still v k) vs h
