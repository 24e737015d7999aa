-- The bindings in use, in front of those that were left in place, with their index and their first places.
use Rattle.std.proofs.Common.{arith, ◌≡◌, ℕ, ◌+◌, ◌<◌, ◌≤◌, zero, suc, true, Bool, List, [], ◌∷◌, ◌++◌, length, map, refl, ap, sym, ◌∙◌, subst}
use Rattle.std.proofs.Common.{Some, slice_get, get_or, set, take, bytes_eq, ◌⊎◌, inl, inr}
use Rattle.std.specs.Prelude.{IsSome}
use Rattle.std.specs.Ordering.{nat_cmp}
use Rattle.std.specs.Map.{lookup}
use Rattle.std.specs.BTreeMap.{is_at}
use Rattle.std.proofs.lemmas.Bool.Decides.{leb_tells}
use Rattle.std.proofs.lemmas.List.{map-append, length-map}
use Rattle.std.proofs.lemmas.Slice.Eq.{bytes_eq-Decides}
use Rattle.eval_tree.specs.Keys.{key_of}
use Rattle.eval_scopes.specs.declared.binding_list.Binding.{Binding}
use Rattle.eval_scopes.specs.Bindings.{Bound}
use Rattle.eval_scopes.specs.BindingList.{IsBindingList}
use Rattle.eval_scopes.specs.Index.{few, binding_names, IsIndexTo, IsIndex, NoneAmong, NoneNamed}
use Rattle.eval_scopes.specs.Marks.{mark_number, AreFirsts}
use Rattle.eval_scopes.specs.Seen.{bound_of, bounds_of, put, IsLeft}
use Rattle.eval_scopes.proofs.Indexes.{front_get, last_get, index_push, false_unless, bounds_names, names_put, names_push, named_among}
use Rattle.eval_scopes.proofs.Stacked.{map_taken, length_taken}

-- the first places with one more name
firsts_push : (before after : List ℕ) (ns : List (List ℕ)) (x : List ℕ) (n : ℕ) → n ≡ length ns → mark_number after
    (key_of x) ≤ n → ((k : ℕ) → mark_number after k ≤ mark_number before k) → AreFirsts before ns n → AreFirsts after (ns ++ x ∷ []) (n + 1)
firsts_push before after ns x n s here kept h = λ j m l e. elim (leb_tells n j) [
  | inr q ↦ omega (arith, kept (key_of m), h j m q.1 (front_get ns x m j (omega (arith, q.1, s)) e))
  | inl q ↦ (
      let same : j ≡ length ns = omega (arith, l, q.1, s) in
      let there : slice_get (ns ++ x ∷ []) (length ns) ≡ Some m = subst (λ (i : ℕ). slice_get (ns ++ x ∷ []) i ≡ Some m) same e in
      let one : x ≡ m = cc (last_get ns x, there) in
      let at : mark_number after (key_of m) ≤ n = subst (λ (q : List ℕ). mark_number after (key_of q) ≤ n) one here in
      omega (arith, at, q.1))
]

-- no name is before the first place of its mark
none_before : (table : List ℕ) (ns : List (List ℕ)) (x : List ℕ) (m i : ℕ) → AreFirsts table ns m → i ≤ m → i ≤ mark_number table (key_of x) → NoneAmong ns x i
none_before table ns x m i h l w = λ j n k g. false_unless (bytes_eq n x) (λ t.
    let same : n ≡ x = (bytes_eq-Decides n x).0 t in
    let at : mark_number table (key_of x) ≤ j = subst (λ (q : List ℕ). mark_number table (key_of q) ≤ j) same (h j n (omega (arith, k, l)) g) in
    omega (arith, at, k, w))

module _ {T : Type 0} where
  pub none_first : (all bs : List (Binding T)) (n : ℕ) (first : List (ℕ × ℕ)) (table : List ℕ) (x : List ℕ) (key i : ℕ) → take n all ≡ bs →
      IsBindingList all n first table → key ≡ key_of x → i ≤ n → i ≤ mark_number table key → NoneNamed bs x i
  none_first all bs n first table x key i v h e l w =
      let here : i ≤ mark_number table (key_of x) = subst (λ (q : ℕ). i ≤ mark_number table q) e w in
      subst (λ (q : List (Binding T)). NoneNamed q x i) v
      (named_among (take n all) x i (none_before table (binding_names (take n all)) x n i h.firsts l here))

  -- another value for one of the first n
  put_first : (n : ℕ) (bs : List (Bound T)) (i : ℕ) (v : T) → take n (put bs i v) ≡ put (take n bs) i v
  put_first zero bs i v = refl
  put_first (suc n) [] i v = refl
  put_first (suc n) (b ∷ bs) zero v = refl
  put_first (suc n) (b ∷ bs) (suc i) v = ap (λ q. b ∷ q) (put_first n bs i v)

  pub set_used : (n : ℕ) (bs cs : List (Binding T)) (i : ℕ) (v : T) → bounds_of cs ≡ put (bounds_of bs) i v → bounds_of (take n cs) ≡ put (bounds_of (take n bs)) i v
  set_used n bs cs i v e = map_taken bound_of n cs ∙ (ap (λ q. take n q) e ∙ (put_first n (bounds_of bs) i v ∙ ap (λ q. put q i v) (sym (map_taken bound_of n bs))))

  put_length : (bs : List (Bound T)) (i : ℕ) (v : T) → length (put bs i v) ≡ length bs
  put_length [] i v = refl
  put_length (b ∷ bs) zero v = refl
  put_length (b ∷ bs) (suc i) v = ap (λ q. suc q) (put_length bs i v)

  set_length : (bs cs : List (Binding T)) (i : ℕ) (v : T) → bounds_of cs ≡ put (bounds_of bs) i v → length cs ≡ length bs
  set_length bs cs i v e = sym (length-map cs bound_of) ∙ (ap length e ∙ (put_length (bounds_of bs) i v ∙ length-map bs bound_of))

  pub set_list : (n : ℕ) (bs cs : List (Binding T)) (i : ℕ) (v : T) (first : List (ℕ × ℕ)) (table : List ℕ) → bounds_of cs ≡ put (bounds_of bs) i
      v → IsBindingList bs n first table → IsBindingList cs n first table
  set_list n bs cs i v first table e h =
      let names : binding_names (take n cs) ≡ binding_names (take n bs) = names_put (take n bs) (take n cs) i v (set_used n bs cs i v e) in
      record {
        within = omega (arith, h.within, set_length bs cs i v e);
        index = subst (λ (q : List (List ℕ)). IsIndex first q) (sym names) h.index;
        firsts = subst (λ (q : List (List ℕ)). AreFirsts table q n) (sym names) h.firsts;
      }

  pub used_within : (n i : ℕ) (all bs : List (Binding T)) → take n all ≡ bs → n ≤ length all → i < length bs → i < length all
  used_within n i all bs v w l = omega (arith, l, ap length v, w, length_taken n all w)

  -- one more binding in use
  pub grown_list : (n : ℕ) (bs cs : List (Binding T)) (x : List ℕ) (first next : List (ℕ × ℕ)) (table more : List ℕ) (key : ℕ) → key ≡ key_of x →
      binding_names (take (n + 1) cs) ≡ binding_names (take n bs) ++ x ∷ [] → n + 1 ≤ length cs → IsBindingList bs
      n first table → ((ns : List (List ℕ)) → n ≤ length ns → IsIndexTo first ns n → IsIndexTo next ns n) → IsSome
      (lookup (is_at (nat_cmp key)) next) ⊎ (n < few) → mark_number more key ≤ n → ((k : ℕ) → mark_number more k ≤ mark_number table k) → IsBindingList cs (n + 1) next more
  grown_list n bs cs x first next table more key e names w h indexed found here kept =
      let ns : List (List ℕ) = binding_names (take n bs) in
      let many : n ≡ length ns = sym (length-map (take n bs) (λ b. b.name) ∙ length_taken n bs h.within) in
      let old : IsIndexTo first ns n = subst (λ (q : ℕ). IsIndexTo first ns q) (sym many) h.index in
      let new : IsIndex next ns = subst (λ (q : ℕ). IsIndexTo next ns q) many (indexed ns (omega (arith, many)) old) in
      let there : IsSome (lookup (is_at (nat_cmp (key_of x))) next) ⊎ (length ns < few) = subst
      (λ (q : ℕ). IsSome (lookup (is_at (nat_cmp q)) next) ⊎ (length ns < few)) e
      (subst (λ (q : ℕ). IsSome (lookup (is_at (nat_cmp key)) next) ⊎ (q < few)) many found) in
      record {
        within = w;
        index = subst (λ (q : List (List ℕ)). IsIndex next q) (sym names) (index_push next ns x there new);
        firsts = subst (λ (q : List (List ℕ)). AreFirsts more q (n + 1)) (sym names) (firsts_push table more ns x n many (subst (λ (q : ℕ). mark_number more q ≤ n) e here) kept h.firsts);
      }

  pub names_pushed : (n : ℕ) (bs cs : List (Binding T)) (b : Binding T) → take (n + 1) cs ≡ take n bs ++ b ∷ [] → binding_names (take (n + 1) cs) ≡ binding_names (take n bs) ++ b.name ∷ []
  names_pushed n bs cs b e = ap binding_names e ∙ names_push (take n bs) b

  pub names_bound : (n : ℕ) (bs cs : List (Binding T)) (b : Bound T) → bounds_of (take (n + 1) cs) ≡ bounds_of (take n bs) ++ b ∷ [] →
      binding_names (take (n + 1) cs) ≡ binding_names (take n bs) ++ b.name ∷ []
  names_bound n bs cs b e =
      bounds_names (take (n + 1) cs)
      ∙ (ap (λ (q : List (Bound T)). map (λ c. c.name) q) e
      ∙ (map-append (λ (c : Bound T). c.name) (bounds_of (take n bs)) (b ∷ [])
      ∙ ap (λ q. q ++ b.name ∷ []) (sym (bounds_names (take n bs)))))

  -- a binding that was left in place
  pub left_at : (bs : List (Binding T)) (i : ℕ) (b : Binding T) (x : List ℕ) → i < length bs → b ≡ get_or bs i b → bytes_eq b.name x ≡ true → IsLeft bs i x
  left_at [] i b x l p e = absurd (omega (arith, l))
  left_at (c ∷ bs) zero b x l p e = ap (λ (q : Binding T). q.name) (sym p) ∙ (bytes_eq-Decides b.name x).0 e
  left_at (c ∷ bs) (suc i) b x l p e = left_at bs i b x (omega (arith, l)) p e

  pub left_within : (bs : List (Binding T)) (i : ℕ) (x : List ℕ) → IsLeft bs i x → i < length bs
  left_within [] i x h = absurd h
  left_within (b ∷ bs) zero x h = omega arith
  left_within (b ∷ bs) (suc i) x h = omega (arith, left_within bs i x h)

  again : (bs : List (Binding T)) (k : ℕ) (r : Binding T) (x : List ℕ) (constant : Bool) (v : T) → r ≡ get_or bs k r → IsLeft bs k x →
      bounds_of (take (suc k) (set bs k (record { name = r.name; constant = constant; value = v }))) ≡ bounds_of
      (take k bs) ++ record { name = x; constant = constant; value = v } ∷ []
  again [] k r x constant v p h = absurd h
  again (b ∷ bs) zero r x constant v p h =
      let n : r.name ≡ x = ap (λ (q : Binding T). q.name) p ∙ h in
      ap (λ (q : List ℕ). record { name = q; constant = constant; value = v } ∷ []) n
  again (b ∷ bs) (suc k) r x constant v p h = ap (λ q. bound_of b ∷ q) (again bs k r x constant v p h)

  pub bound_again : (bs : List (Binding T)) (k : ℕ) (r : Binding T) (x : List ℕ) (constant : Bool) (v : T) → r ≡ get_or bs k r → IsLeft bs k
      x → bounds_of (take (k + 1) (set bs k (record { name = r.name; constant = constant; value = v }))) ≡ bounds_of
      (take k bs) ++ record { name = x; constant = constant; value = v } ∷ []
  bound_again bs k r x constant v p h =
      let m : k + 1 ≡ suc k = omega arith in
      ap (λ (q : ℕ). bounds_of (take q (set bs k (record { name = r.name; constant = constant; value = v })))) m ∙ again bs k r x constant v p h
