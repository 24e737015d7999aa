-- A `BTreeMap` whose keys are lists, seen as a finite map.
use Rattle.std.proofs.Common.{◌≡◌, ℕ, cond, List, [], ◌∷◌, refl, sym, ap, ◌∙◌, Some}
use Rattle.std.specs.declared.cmp.Ordering.TheVariants.{Less, Equal, Greater}
use Rattle.std.specs.Ordering.{nat_cmp, eq_by_cmp, match_ordering}
use Rattle.std.specs.Cmp.Lexicographic.{slice_cmp, nat_list_cmp_total}
use Rattle.std.specs.BTreeMap.{is_at, insert_entry}
use Rattle.std.specs.Map.{lookup}
use Rattle.std.specs.FinMap.{get, find, put, insert, get-from_entries, get-insert, same_map, nat_cmp-IsAntisymmetric, slice_cmp-IsAntisymmetric}
use Rattle.std.specs.FinMap.Entries.{by_order, find-put}
use Rattle.parse_tokens.specs.Seen.{by_letters, seen}

module _ {K : Type 0} (letters : K → List ℕ) where
  find_lookup : (q : List ℕ) (es : List (K × ℕ)) → find (slice_cmp nat_cmp) q (by_letters letters es) ≡ lookup (is_at (λ k. slice_cmp nat_cmp q (letters k))) es
  find_lookup q [] = refl
  find_lookup q (e ∷ es) = ap (cond (eq_by_cmp (slice_cmp nat_cmp) q (letters e.0)) (Some e.1)) (find_lookup q es)

  pub get_seen : (es : List (K × ℕ)) (q : List ℕ) → get (seen letters es) q ≡ lookup (is_at (λ k. slice_cmp nat_cmp q (letters k))) es
  get_seen es q = get-from_entries nat_list_cmp_total (by_letters letters es) q ∙ find_lookup q es

  put_entry : (es : List (K × ℕ)) (k : K) (v : ℕ) → by_letters letters
      (insert_entry (λ x y. slice_cmp nat_cmp (letters x) (letters y)) es k v) ≡ put (slice_cmp nat_cmp) (letters k) v (by_letters letters es)
  put_entry [] k v = refl
  put_entry (e ∷ es) k v =
      elim (slice_cmp nat_cmp (letters k) (letters e.0)) as (λ o. by_letters letters
      (match_ordering o ((k, v) ∷ e ∷ es) ((e.0, v) ∷ es) (e ∷ insert_entry (λ x y. slice_cmp nat_cmp (letters x) (letters y)) es k v)) ≡
      by_order o ((letters k, v) ∷ by_letters letters (e ∷ es)) ((letters e.0, v) ∷ by_letters letters es)
      ((letters e.0, e.1) ∷ put (slice_cmp nat_cmp) (letters k) v (by_letters letters es))) [
        | Less ↦ refl
        | Equal ↦ refl
        | Greater ↦ ap (λ r. (letters e.0, e.1) ∷ r) (put_entry es k v)
      ]

  pub insert_seen : (m n : List (K × ℕ)) (k : K) (v : ℕ) → n ≡ insert_entry (λ x y. slice_cmp nat_cmp (letters x) (letters y)) m k v → seen letters n ≡ insert (seen letters m) (letters k) v
  insert_seen m n k v h = same_map nat_list_cmp_total (slice_cmp-IsAntisymmetric nat_cmp-IsAntisymmetric) (seen letters n) (insert (seen letters m) (letters k) v)
      (λ q. get-from_entries nat_list_cmp_total (by_letters letters n) q
      ∙ ap (λ es. find (slice_cmp nat_cmp) q es) (ap (by_letters letters) h ∙ put_entry m k v)
      ∙ find-put (slice_cmp nat_cmp) nat_list_cmp_total q (letters k) v (by_letters letters m)
      ∙ ap (cond (eq_by_cmp (slice_cmp nat_cmp) q (letters k)) (Some v)) (sym (get-from_entries nat_list_cmp_total (by_letters letters m) q))
      ∙ sym (get-insert nat_list_cmp_total (seen letters m) (letters k) v q))
