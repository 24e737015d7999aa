-- Values that were copied: a copy has the same content, so it is seen as the same value, and may be used as that may.
use Rattle.std.proofs.Common.{◌≡◌, ℕ, sym, subst}
use Rattle.js_store.specs.State.{State}
use Rattle.js_item.specs.Contents.{Content}
use Rattle.js_item.specs.declared.item.Item.{Item}
use Rattle.js_item.specs.Fine.{strings_of, FineOf, IsFine}
use Rattle.js_item.specs.Seen.{seen}
use Rattle.js_item.specs.Views.{content_of}
use Rattle.js_item.proofs.Values as values

module _ {F R : Type 0} (s : State F) (name : R → ℕ) where
  pub seen_copy : (v w : Item R) → content_of v ≡ content_of w → seen s name v ≡ seen s name w
  seen_copy v w e = values.seen_copy s name v w e

  pub fine_copy : (v w : Item R) → content_of v ≡ content_of w → IsFine s name w → IsFine s name v
  fine_copy v w e h = subst (λ (c : Content R). FineOf (strings_of s) name c) (sym e) h
