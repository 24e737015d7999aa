-- How the parts of a plain store stay consistent: after one more string, one more list in the table and one more answer.
use Rattle.std.specs.Prelude.{◌≡◌, ℕ, zero, suc, ◌<◌, ◌≤◌, Bool, true, false, cond, List, [], ◌∷◌, ◌++◌, length, Some, None, Result, Ok, Err, OnOk, OnErr}
use Rattle.std.specs.Prelude.{if◌then◌else◌, slice_get, slice_index, unwrap_or, All, Contains}
use Rattle.std.proofs.Common.{length-append, arith, refl, ap, sym, subst, ◌∙◌, get_or, ◌⊎◌, inl, inr}
use Rattle.std.proofs.lemmas.Option.{slice_get-get_or}
use Rattle.std.proofs.lemmas.List.Elements.{All-from_get_or, All-nil, Contains-append_left}
use Rattle.std.specs.declared.cmp.Ordering.{Ordering}
use Rattle.std.specs.declared.cmp.Ordering.TheVariants.{Less, Equal, Greater}
use Rattle.std.specs.Ordering.{nat_cmp, is_eq, eq_by_cmp}
use Rattle.std.specs.Cmp.{tied_itself}
use Rattle.std.specs.Cmp.Lexicographic.{slice_cmp, nat_list_cmp_total}
use Rattle.std.specs.FinMap.{get, empty, insert, get-insert, get-empty, nat_cmp-IsAntisymmetric, slice_cmp-IsAntisymmetric}
use Rattle.js_store.specs.declared.limit.Limit.{Limit}
use Rattle.js_store.specs.State.{Grows}
use Rattle.plain_store.specs.Plain.{IsConsistent, plain_units, history_of, plain_state}
use Rattle.plain_store.specs.Sound.{Numbers, some_same}

get_more : (strings more : List (List ℕ)) (n : ℕ) (u : List ℕ) → slice_get strings n ≡ Some u → slice_get (strings ++ more) n ≡ Some u
get_more [] more n u h = absurd (cc)
get_more (x ∷ xs) more zero u h = h
get_more (x ∷ xs) more (suc n) u h = get_more xs more n u h

at_more : (strings more : List (List ℕ)) (n : ℕ) (u : List ℕ) → slice_get strings n ≡ Some u → plain_units (strings ++ more) n ≡ u
at_more strings more n u h = ap (λ o. unwrap_or o []) (get_more strings more n u h)

at_is : (strings : List (List ℕ)) (n : ℕ) (u : List ℕ) → slice_get strings n ≡ Some u → plain_units strings n ≡ u
at_is strings n u h = ap (λ o. unwrap_or o []) h

-- where a number interned stands
answer_stands : (strings : List (List ℕ)) (answers : List ℕ) (t : Numbers) → IsConsistent strings answers t → (k : ℕ) → k < length answers →
    slice_get strings (slice_index answers k) ≡ Some (plain_units strings (slice_index answers k))
answer_stands strings answers t h k l = h.found (plain_units strings (slice_index answers k)) (slice_index answers k) (h.answered k l)

length_at_push : (strings : List (List ℕ)) (u : List ℕ) (n : ℕ) → ((m : ℕ) → length (plain_units strings m) ≤ 536870888) → length u ≤ 536870888 → length (plain_units (strings ++ u ∷ []) n) ≤ 536870888
length_at_push [] u zero h l = l
length_at_push [] u (suc n) h l = omega arith
length_at_push (x ∷ xs) u zero h l = h 0
length_at_push (x ∷ xs) u (suc n) h l = length_at_push xs u n (λ m. h (suc m)) l

range_at_push : (strings : List (List ℕ)) (u : List ℕ) (n : ℕ) → ((m : ℕ) → All (λ x. x < 65536) (plain_units strings m)) → All
    (λ x. x < 65536) u → All (λ x. x < 65536) (plain_units (strings ++ u ∷ []) n)
range_at_push [] u zero h l = l
range_at_push [] u (suc n) h l = All-nil (λ (x : ℕ). x < 65536)
range_at_push (x ∷ xs) u zero h l = h 0
range_at_push (x ∷ xs) u (suc n) h l = range_at_push xs u n (λ m. h (suc m)) l

-- one more string
pub one_more : (strings : List (List ℕ)) (answers : List ℕ) (t : Numbers) (u : List ℕ) → IsConsistent strings answers t → length u ≤
    536870888 → All (λ x. x < 65536) u → length strings < 4294967295 → IsConsistent (strings ++ u ∷ []) answers t
one_more strings answers t u k l r room = record {
  lengths = λ n. length_at_push strings u n k.lengths l;
  ranges = λ n. range_at_push strings u n k.ranges r;
  count = omega (arith, length-append strings (u ∷ []));
  found = λ w n h. get_more strings (u ∷ []) n w (k.found w n h);
  answered = λ i h. ap (get t) (at_more strings (u ∷ []) (slice_index answers i) (plain_units strings (slice_index answers i)) (answer_stands strings answers t k i h)) ∙ k.answered i h;
}

history_more : (strings more : List (List ℕ)) (answers : List ℕ) → ((k : ℕ) → k < length answers → slice_get strings (slice_index answers k)
    ≡ Some (plain_units strings (slice_index answers k))) → history_of (strings ++ more) answers ≡ history_of strings answers
history_more strings more [] h = refl
history_more strings more (n ∷ ns) h =
    let here : plain_units (strings ++ more) n ≡ plain_units strings n = at_more strings more n (plain_units strings n) (h 0 (omega arith)) in
    let rest = history_more strings more ns (λ k l. h (suc k) (omega arith)) in
    cc (here, rest)

-- more strings change no pair of the history
pub history_kept : (strings more : List (List ℕ)) (answers : List ℕ) (t : Numbers) → IsConsistent strings answers t → history_of (strings ++ more) answers ≡ history_of strings answers
history_kept strings more answers t k = history_more strings more answers (λ i l. answer_stands strings answers t k i l)

tied : (r : Ordering) → is_eq r ≡ true → r ≡ Equal
tied Less h = absurd (cc)
tied Equal h = refl
tied Greater h = absurd (cc)

same_key : (u w : List ℕ) → eq_by_cmp (slice_cmp nat_cmp) u w ≡ true → u ≡ w
same_key u w h = slice_cmp-IsAntisymmetric nat_cmp-IsAntisymmetric u w (tied (slice_cmp nat_cmp u w) h)

-- what a table has after a list that it didn't have is entered
enter_cases : (b : Bool) (t : Numbers) (u w : List ℕ) (s n : ℕ) → eq_by_cmp (slice_cmp nat_cmp) w u ≡ b → get (insert t u s) w ≡ cond b (Some s) (get t w)
enter_cases b t u w s n h = get-insert nat_list_cmp_total t u s w ∙ ap (λ c. cond c (Some s) (get t w)) h

found_by : (b : Bool) (strings : List (List ℕ)) (t : Numbers) (u w : List ℕ) (s n : ℕ) → eq_by_cmp (slice_cmp nat_cmp) w
    u ≡ b → ((v : List ℕ) (m : ℕ) → get t v ≡ Some m → slice_get strings m ≡ Some v) → slice_get strings s ≡ Some u → get (insert t u s) w ≡
    Some n → slice_get strings n ≡ Some w
found_by true strings t u w s n e k h g =
    let m : s ≡ n = some_same s n (sym (enter_cases true t u w s n e) ∙ g) in
    ap (slice_get strings) (sym m) ∙ h ∙ ap Some (sym (same_key w u e))
found_by false strings t u w s n e k h g = k w n (sym (enter_cases false t u w s n e) ∙ g)

answered_by : (b : Bool) (t : Numbers) (u w : List ℕ) (s n : ℕ) → eq_by_cmp (slice_cmp nat_cmp) w u ≡ b → get t u ≡ None → get t w ≡ Some n → get (insert t u s) w ≡ Some n
answered_by true t u w s n e none h = absurd (let p : Some n ≡ None = sym h ∙ ap (get t) (same_key w u e) ∙ none in cc)
answered_by false t u w s n e none h = enter_cases false t u w s n e ∙ h

-- one more list in the table
pub one_entry : (strings : List (List ℕ)) (answers : List ℕ) (t : Numbers) (u : List ℕ) (s : ℕ) → IsConsistent strings answers t → slice_get
    strings s ≡ Some u → get t u ≡ None → IsConsistent strings answers (insert t u s)
one_entry strings answers t u s k h none = record {
  lengths = k.lengths;
  ranges = k.ranges;
  count = k.count;
  found = λ w n g. found_by (eq_by_cmp (slice_cmp nat_cmp) w u) strings t u w s n refl k.found h g;
  answered = λ i l. answered_by (eq_by_cmp (slice_cmp nat_cmp) (plain_units strings (slice_index answers i)) u) t u
      (plain_units strings (slice_index answers i)) s (slice_index answers i) refl none (k.answered i l);
}

push_cases : (answers : List ℕ) (n i : ℕ) → i < length (answers ++ n ∷ []) →
    ((i < length answers) × (slice_index (answers ++ n ∷ []) i ≡ slice_index answers i)) ⊎ (slice_index (answers ++ n ∷ []) i ≡ n)
push_cases [] n zero h = inr refl
push_cases [] n (suc i) h = absurd (omega arith)
push_cases (m ∷ ms) n zero h = inl (omega arith, refl)
push_cases (m ∷ ms) n (suc i) h = elim (push_cases ms n i (omega arith)) [ inl p ↦ inl (omega (arith, p.0), p.1) | inr e ↦ inr e ]

-- one more call, whose number is that of the table
pub one_answer : (strings : List (List ℕ)) (answers : List ℕ) (t : Numbers) (n : ℕ) → IsConsistent strings answers t → get t
    (plain_units strings n) ≡ Some n → IsConsistent strings (answers ++ n ∷ []) t
one_answer strings answers t n k h = record {
  lengths = k.lengths;
  ranges = k.ranges;
  count = k.count;
  found = k.found;
  answered = λ i l. elim (push_cases answers n i l) [
    | inl p ↦ ap (λ m. get t (plain_units strings m)) p.1 ∙ k.answered i p.0 ∙ ap Some (sym p.1)
    | inr e ↦ ap (λ m. get t (plain_units strings m)) e ∙ h ∙ ap Some (sym e)
  ];
}

pub history_push : (strings : List (List ℕ)) (answers : List ℕ) (n : ℕ) → history_of strings (answers ++ n ∷ []) ≡ history_of strings answers ++ (plain_units strings n, n) ∷ []
history_push strings [] n = refl
history_push strings (m ∷ ms) n = cc (history_push strings ms n)

-- what was interned before one more call
interned_still : (strings : List (List ℕ)) (answers : List ℕ) (m : ℕ) (u : List ℕ) (n : ℕ) → Contains (history_of strings answers) (u, n) → Contains (history_of strings (answers ++ m ∷ [])) (u, n)
interned_still strings answers m u n h =
    subst (λ (l : List (List ℕ × ℕ)). Contains l (u, n)) (sym (history_push strings answers m)) (Contains-append_left (history_of strings answers) ((plain_units strings m, m) ∷ []) (u, n) h)

-- what one more call of `intern` keeps
pub grows_answer : (strings now : List (List ℕ)) (answers more : List ℕ) (m : ℕ) (l same : Limit) → now ≡ strings → more ≡ answers ++ m ∷ []
    → same ≡ l → Grows (plain_state strings answers l) (plain_state now more same)
grows_answer strings now answers more m l same e f g = rw (e, f, g) (record {
  known = λ n k. refl;
  settled = λ n k. k;
  shut = λ u k. k;
  interned = λ u n k. interned_still strings answers m u n k;
  used_ids = omega arith;
  used_words = omega arith;
  low_ids = omega arith;
  low_words = omega arith;
  sizes = refl;
  limit = refl;
  bounded = refl;
  sure = refl;
  frame = refl;
})

-- the empty store
pub nothing_yet : IsConsistent [] [] empty
nothing_yet = record {
  lengths = λ n. omega arith;
  ranges = λ n. All-nil (λ (x : ℕ). x < 65536);
  count = omega arith;
  found = λ u n h. absurd (let p : None ≡ Some n = sym (get-empty (slice_cmp nat_cmp) u) ∙ h in cc);
  answered = λ k h. absurd (omega arith);
}

-- the units of a list, each read once
pub in_range : (s u : List ℕ) → s ≡ u → ((k : ℕ) → k < length s → slice_index s k < 65536) → All (λ x. x < 65536) u
in_range s u e h = subst (λ (v : List ℕ). All (λ x. x < 65536) v) e (All-from_get_or (λ (x : ℕ). x < 65536) s 0 h)

-- a push, which may be refused
pub after_push : (b : Bool) (strings : List (List ℕ)) (answers : List ℕ) (t : Numbers) (u : List ℕ) → IsConsistent strings answers t →
    length u ≤ 536870888 → All (λ x. x < 65536) u → length strings < 4294967295 → IsConsistent (if b then strings ++ u ∷ [] else strings) answers t
after_push true strings answers t u k l r room = one_more strings answers t u k l r room
after_push false strings answers t u k l r room = k

-- an entry into the table, which may be refused
pub after_insert : {R E : Type 0} (r : Result R E) (strings : List (List ℕ)) (answers : List ℕ) (t m : Numbers) (u : List ℕ) (s : ℕ) → OnOk
    r (m ≡ insert t u s) → OnErr r (m ≡ t) → IsConsistent strings answers t → slice_get strings s ≡ Some u → get t u ≡ None → IsConsistent strings answers m
after_insert (Ok x) strings answers t m u s p q k h none = subst (λ (x : Numbers). IsConsistent strings answers x) (sym p) (one_entry strings answers t u s k h none)
after_insert (Err x) strings answers t m u s p q k h none = subst (λ (x : Numbers). IsConsistent strings answers x) (sym q) k

pub entered : (t : Numbers) (u : List ℕ) (s : ℕ) → get (insert t u s) u ≡ Some s
entered t u s = get-insert nat_list_cmp_total t u s u ∙ ap (λ b. cond b (Some s) (get t u)) (ap is_eq (tied_itself nat_list_cmp_total u))

-- the units read at a place
pub read_stands : (strings : List (List ℕ)) (s : ℕ) (x u : List ℕ) → s < length strings → x ≡ get_or strings s x → u ≡ x → slice_get strings s ≡ Some u
read_stands strings s x u h e f = slice_get-get_or strings s x h ∙ ap Some (sym e ∙ sym f)

pub read_at : (strings : List (List ℕ)) (s : ℕ) (x u : List ℕ) → s < length strings → x ≡ get_or strings s x → u ≡ x → plain_units strings s ≡ u
read_at strings s x u h e f = at_is strings s u (read_stands strings s x u h e f)
