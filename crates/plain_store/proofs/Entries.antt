-- A `BTreeMap` whose keys are lists, seen as a finite map.
use Rattle.std.proofs.Common.{◌≡◌, ℕ, cond, List, [], ◌∷◌, refl, sym, ap, ◌∙◌, Some}
use Rattle.std.specs.declared.cmp.Ordering.TheVariants.{Less, Equal, Greater}
use Rattle.std.specs.Ordering.{nat_cmp, eq_by_cmp, match_ordering}
use Rattle.std.specs.Cmp.Lexicographic.{slice_cmp, nat_list_cmp_total}
use Rattle.std.specs.BTreeMap.{is_at, insert_entry}
use Rattle.std.specs.Map.{lookup}
use Rattle.std.specs.FinMap.{get, find, put, insert, get-from_entries, get-insert, same_map, nat_cmp-IsAntisymmetric, slice_cmp-IsAntisymmetric}
use Rattle.std.specs.FinMap.Entries.{by_order, find-put}
use Rattle.plain_store.specs.Seen.{by_units, seen}

module _ {K : Type 0} (units : K → List ℕ) where
  find_lookup : (q : List ℕ) (es : List (K × ℕ)) → find (slice_cmp nat_cmp) q (by_units units es) ≡ lookup (is_at (λ k. slice_cmp nat_cmp q (units k))) es
  find_lookup q [] = refl
  find_lookup q (e ∷ es) = ap (cond (eq_by_cmp (slice_cmp nat_cmp) q (units e.0)) (Some e.1)) (find_lookup q es)

  pub get_seen : (es : List (K × ℕ)) (q : List ℕ) → get (seen units es) q ≡ lookup (is_at (λ k. slice_cmp nat_cmp q (units k))) es
  get_seen es q = get-from_entries nat_list_cmp_total (by_units units es) q ∙ find_lookup q es

  put_entry : (es : List (K × ℕ)) (k : K) (v : ℕ) → by_units units (insert_entry (λ x y. slice_cmp nat_cmp (units x) (units y)) es k v) ≡ put (slice_cmp nat_cmp) (units k) v (by_units units es)
  put_entry [] k v = refl
  put_entry (e ∷ es) k v =
      elim (slice_cmp nat_cmp (units k) (units e.0)) as (λ o. by_units units
      (match_ordering o ((k, v) ∷ e ∷ es) ((e.0, v) ∷ es) (e ∷ insert_entry (λ x y. slice_cmp nat_cmp (units x) (units y)) es k v)) ≡
      by_order o ((units k, v) ∷ by_units units (e ∷ es)) ((units e.0, v) ∷ by_units units es)
      ((units e.0, e.1) ∷ put (slice_cmp nat_cmp) (units k) v (by_units units es))) [
        | Less ↦ refl
        | Equal ↦ refl
        | Greater ↦ ap (λ r. (units e.0, e.1) ∷ r) (put_entry es k v)
      ]

  pub insert_seen : (m n : List (K × ℕ)) (k : K) (v : ℕ) → n ≡ insert_entry (λ x y. slice_cmp nat_cmp (units x) (units y)) m k v → seen units n ≡ insert (seen units m) (units k) v
  insert_seen m n k v h = same_map nat_list_cmp_total (slice_cmp-IsAntisymmetric nat_cmp-IsAntisymmetric) (seen units n) (insert (seen units m) (units k) v)
      (λ q. get-from_entries nat_list_cmp_total (by_units units n) q
      ∙ ap (λ es. find (slice_cmp nat_cmp) q es) (ap (by_units units) h ∙ put_entry m k v)
      ∙ find-put (slice_cmp nat_cmp) nat_list_cmp_total q (units k) v (by_units units m)
      ∙ ap (cond (eq_by_cmp (slice_cmp nat_cmp) q (units k)) (Some v)) (sym (get-from_entries nat_list_cmp_total (by_units units m) q))
      ∙ sym (get-insert nat_list_cmp_total (seen units m) (units k) v q))
