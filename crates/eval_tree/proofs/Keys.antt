-- Names of up to seven bytes that have one key.
use Rattle.std.proofs.Common.{arith, ◌≡◌, ℕ, ◌+◌, ◌*◌, ◌%◌, ◌<◌, ◌≤◌, zero, suc, List, [], ◌∷◌, length, refl, true, sym, bytes_eq}
use Rattle.std.proofs.lemmas.Slice.Eq.{bytes_eq-Decides}
use Rattle.eval_tree.specs.Keys.{key_of, AreBytes}

-- the greatest key of so many bytes
most : ℕ → ℕ
most zero = 0
most (suc n) = most n * 261 + 256

key_most : (bs : List ℕ) (n : ℕ) → AreBytes bs → length bs ≤ n → key_of bs ≤ most n
unfolding most
key_most [] n h l = omega arith
key_most (b ∷ bs) zero h l = absurd (omega (arith, l))
key_most (b ∷ bs) (suc n) h l =
    let p : key_of bs ≤ most n = key_most bs n (λ i. h (suc i)) (omega (arith, l)) in
    let q : b < 256 = h 0 in
    let r : key_of bs % 36028797018963968 ≤ key_of bs = omega arith in
    omega (arith, p, q, r)

-- of six bytes the key is kept whole
kept : (bs : List ℕ) → AreBytes bs → length bs ≤ 6 → key_of bs % 36028797018963968 ≡ key_of bs
unfolding most
kept bs h l =
    let p : key_of bs ≤ most 6 = key_most bs 6 h l in
    let q : key_of bs < 36028797018963968 = omega (arith, p) in
    omega (arith, q)

same_key : (bs cs : List ℕ) → AreBytes bs → AreBytes cs → length bs ≤ 7 → length cs ≤ 7 → key_of bs ≡ key_of cs → bs ≡ cs
same_key [] [] h k l m e = refl
same_key [] (c ∷ cs) h k l m e = absurd (omega (arith, e))
same_key (b ∷ bs) [] h k l m e = absurd (omega (arith, e))
same_key (b ∷ bs) (c ∷ cs) h k l m e =
    let p : key_of bs % 36028797018963968 ≡ key_of bs = kept bs (λ i. h (suc i)) (omega (arith, l)) in
    let q : key_of cs % 36028797018963968 ≡ key_of cs = kept cs (λ i. k (suc i)) (omega (arith, m)) in
    let x : b < 256 = h 0 in
    let y : c < 256 = k 0 in
    let f : key_of bs ≡ key_of cs = omega (arith, p, q, x, y, e) in
    let g : b ≡ c = omega (arith, p, q, x, y, e) in
    cc (g, same_key bs cs (λ i. h (suc i)) (λ i. k (suc i)) (omega (arith, l)) (omega (arith, m)) f)

pub same_letters : (bs cs : List ℕ) → AreBytes bs → AreBytes cs → length bs ≤ 7 → length cs ≤ 7 → key_of bs ≡ key_of cs → true ≡ bytes_eq bs cs
same_letters bs cs h k l m e = sym ((bytes_eq-Decides bs cs).1 (same_key bs cs h k l m e))
