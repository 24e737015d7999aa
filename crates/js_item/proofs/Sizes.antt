-- How deep members nest and how many there are, one member after another.
use Rattle.std.specs.Prelude.{if◌then◌else◌, Bool, true, false, Result, Ok, Err, OnOk, OnErr}
use Rattle.std.proofs.Common.{arith, ◌≡◌, ℕ, zero, suc, ◌+◌, ◌<◌, ◌≤◌, max, List, [], ◌∷◌, length, get_or, take, ap, ◌∙◌}
use Rattle.js_item.specs.Contents.{Content, Fields, no_fields, field, add, count, count_in}
use Rattle.js_item.specs.Puts.{width, put_by}
use Rattle.js_item.specs.Fine.{depth, depth_in}
use Rattle.js_item.specs.declared.item.Member.{Member}
use Rattle.js_item.specs.Views.{content_of, fields_of}
use Rattle.js_item.proofs.Members.{fields_take}

module _ {R : Type 0} where
  count_add : (key : R) (value : Content R) (fs : Fields R) → count (add key value fs) ≡ count fs + count_in value + 1
  count_add key value no_fields = omega arith
  count_add key value (field k v rest) = omega (arith, count_add key value rest)

  depth_add : (key : R) (value : Content R) (fs : Fields R) → depth (add key value fs) ≡ max (depth fs) (depth_in value)
  depth_add key value no_fields = omega arith
  depth_add key value (field k v rest) = omega (arith, depth_add key value rest)

  count_to : (ms : List (Member R)) (i : ℕ) → count (fields_of (take i ms)) ≤ count (fields_of ms)
  count_to ms zero = omega arith
  count_to [] (suc i) = omega arith
  count_to (m ∷ ms) (suc i) = omega (arith, count_to ms i)

  depth_to : (ms : List (Member R)) (i : ℕ) → depth (fields_of (take i ms)) ≤ depth (fields_of ms)
  depth_to ms zero = omega arith
  depth_to [] (suc i) = omega arith
  depth_to (m ∷ ms) (suc i) = omega (arith, depth_to ms i)

  module _ (ms : List (Member R)) (fs : Fields R) (are : fields_of ms ≡ fs) (i : ℕ) (m : Member R) (within : i < length ms) (there : m ≡ get_or ms i m) where
    more : fields_of (take (i + 1) ms) ≡ add m.key (content_of m.value) (fields_of (take i ms))
    more = fields_take ms i m within there

    pub count_more : count (fields_of (take (i + 1) ms)) ≡ count (fields_of (take i ms)) + count_in (content_of m.value) + 1
    count_more = ap count more ∙ count_add m.key (content_of m.value) (fields_of (take i ms))

    pub depth_more : depth (fields_of (take (i + 1) ms)) ≡ max (depth (fields_of (take i ms))) (depth_in (content_of m.value))
    depth_more = ap depth more ∙ depth_add m.key (content_of m.value) (fields_of (take i ms))

    pub count_most : count (fields_of (take i ms)) + count_in (content_of m.value) + 1 ≤ count fs
    count_most = omega (arith, count_more, count_to ms (i + 1), ap count are)

    pub depth_most : depth_in (content_of m.value) ≤ depth fs
    depth_most = omega (arith, depth_more, depth_to ms (i + 1), ap depth are)

-- a bounded object has few members
pub width_most : {R : Type 0} (fs : Fields R) → width fs ≤ count fs
width_most no_fields = omega arith
width_most (field key value rest) = omega (arith, width_most rest)

-- putting in makes it one wider at most
width_if : {R : Type 0} (b : Bool) (fs gs : Fields R) (n : ℕ) → width fs ≤ n → width gs ≤ n → width (if b then fs else gs) ≤ n
width_if true fs gs n h k = h
width_if false fs gs n h k = k

pub width_put : {R : Type 0} (is : R → Bool) (key : R) (value : Content R) (fs : Fields R) → width (put_by is key value fs) ≤ width fs + 1
width_put is key value no_fields = omega arith
width_put is key value (field k v rest) = width_if (is k) (field k value rest) (field k v (put_by is key value rest)) (width rest + 1 + 1) (omega arith) (omega (arith, width_put is key value rest))

module _ {R : Type 0} (is : R → Bool) (key : R) (value : Content R) (fs gs : Fields R) where
  pub width_with : gs ≡ put_by is key value fs → width gs ≤ width fs + 1
  width_with e = omega (arith, ap width e, width_put is key value fs)

  pub width_either : {A E : Type 0} (r : Result A E) (hs : Fields R) → hs ≡ fs → OnOk r (gs ≡ put_by is key value fs) → OnErr r (gs ≡ hs) → width gs ≤ width fs + 1
  width_either (Ok x) hs e p q = width_with p
  width_either (Err x) hs e p q = omega (arith, ap width (q ∙ e))
