-- The members of an object, one after another.
use Rattle.std.proofs.Common.{◌≡◌, ℕ, zero, suc, ◌+◌, ◌<◌, List, [], ◌∷◌, ◌++◌, length, get_or, take, refl, ap, arith, add-one}
use Rattle.std.specs.Prelude.{slice_set}
use Rattle.js_item.specs.Puts.{with_value}
use Rattle.js_item.specs.Contents.{count, count_in, field, add}
use Rattle.js_item.specs.declared.item.Item.{Item}
use Rattle.js_item.specs.declared.item.Member.{Member}
use Rattle.js_item.specs.Views.{content_of, fields_of}

module _ {R : Type 0} where
  -- one more member, at the end
  pub fields_push : (ms : List (Member R)) (m : Member R) → fields_of (ms ++ m ∷ []) ≡ add m.key (content_of m.value) (fields_of ms)
  fields_push [] m = refl
  fields_push (n ∷ ms) m = ap (λ fs. field n.key (content_of n.value) fs) (fields_push ms m)

  fields_to : (ms : List (Member R)) (i : ℕ) (m : Member R) → i < length ms → m ≡ get_or ms i m → fields_of (take (suc i) ms) ≡ add m.key (content_of m.value) (fields_of (take i ms))
  fields_to [] i m h e = absurd (omega arith)
  fields_to (n ∷ ms) zero m h e = let same : m ≡ n = e in cc
  fields_to (n ∷ ms) (suc i) m h e = ap (λ fs. field n.key (content_of n.value) fs) (fields_to ms i m (omega arith) e)

  pub fields_take : (ms : List (Member R)) (i : ℕ) (m : Member R) → i < length ms → m ≡ get_or ms i m → fields_of (take (i + 1) ms) ≡ add m.key (content_of m.value) (fields_of (take i ms))
  fields_take ms i m h e = rw add-one (fields_to ms i m h e)

  -- copies of the first members, and of one more
  pub copy_turn : (cs ds ms : List (Member R)) (i : ℕ) (m : Member R) (v : Item R) → i < length ms → m ≡ get_or ms i m → fields_of cs ≡
      fields_of (take i ms) → content_of v ≡ content_of m.value → ds ≡ cs ++ record m { value = v } ∷ [] → fields_of ds ≡ fields_of (take (i + 1) ms)
  copy_turn cs ds ms i m v h e done value made =
      let last : fields_of (take (i + 1) ms) ≡ add m.key (content_of m.value) (fields_of (take i ms)) = fields_take ms i m h e in
      let front : fields_of (cs ++ record m { value = v } ∷ []) ≡ add m.key (content_of v) (fields_of cs) = fields_push cs (record m { value = v }) in
      cc (ap fields_of made, front, last)

  -- a member's value has fewer members than the object
  pub count_at : (ms : List (Member R)) (i : ℕ) (m : Member R) → i < length ms → m ≡ get_or ms i m → count_in (content_of m.value) < count (fields_of ms)
  count_at [] i m h e = absurd (omega arith)
  count_at (n ∷ ms) zero m h e = let same : count_in (content_of m.value) ≡ count_in (content_of n.value) = ap (λ (p : Member R). count_in (content_of p.value)) e in omega (arith, same)
  count_at (n ∷ ms) (suc i) m h e = omega (arith, count_at ms i m (omega arith) e)

  -- a member's value in the place of another
  pub fields_replace : (ms : List (Member R)) (i : ℕ) (m : Member R) (v : Item R) → i < length ms → m ≡ get_or ms i m → fields_of
      (slice_set ms i (record m { value = v })) ≡ with_value i (content_of v) (fields_of ms)
  fields_replace [] i m v h e = absurd (omega arith)
  fields_replace (n ∷ ms) zero m v h e = let same : m ≡ n = e in cc
  fields_replace (n ∷ ms) (suc i) m v h e = ap (λ fs. field n.key (content_of n.value) fs) (fields_replace ms i m v (omega arith) e)
