-- A run of ASCII characters in front of a text is the same run of its bytes.
use Rattle.std.proofs.Common.{◌≡◌, ℕ, ◌<◌, ◌+◌, List, [], ◌∷◌, ◌++◌, zero, suc, length, take, drop, get_or, add-one, Bool, true, false, encode_utf8_all, IsUtf8, refl, sym, ap, ◌∙◌, subst, arith}
use Rattle.std.proofs.lemmas.Bool.{false≢true}
use Rattle.std.proofs.lemmas.List.Sums.{prefix_len-le-length, prefix_len_passes}
use Rattle.std.proofs.lemmas.Str.{encode_ascii, char_from_byte, encodes-chars, chars_from_encodes, IsUtf8-drop, IsCharBoundary-start, IsCharBoundary-after_ascii}
use Rattle.std.specs.List.{prefix_len}
use Rattle.std.specs.Str.{chars, IsCharBoundary}
use Rattle.std.specs.Char.{encode_utf8}

-- a test that only ASCII characters pass
abbrev pub OfAscii : (ℕ → Bool) → Type 0
OfAscii p = (c : ℕ) → p c ≡ true → c < 128

pub take_first : (n c : ℕ) (s : List ℕ) → take (1 + n) (c ∷ s) ≡ c ∷ take n s
take_first n c s = let e : 1 + n ≡ suc n = omega arith in ap (λ k. take k (c ∷ s)) e

pub drop_first : (n c : ℕ) (s : List ℕ) → drop (1 + n) (c ∷ s) ≡ drop n s
drop_first n c s = let e : 1 + n ≡ suc n = omega arith in ap (λ k. drop k (c ∷ s)) e

-- the run of the characters s in their bytes
record SameRun (p : ℕ → Bool) (s : List ℕ) : Type 0 where
  len : prefix_len p (encode_utf8_all s) ≡ prefix_len p s
  run : take (prefix_len p s) (encode_utf8_all s) ≡ take (prefix_len p s) s
  rest : drop (prefix_len p s) (encode_utf8_all s) ≡ encode_utf8_all (drop (prefix_len p s) s)

no_byte : (p : ℕ → Bool) (c : ℕ) (bytes rest : List ℕ) → OfAscii p → bytes ≡ encode_utf8 c ++ rest → p c ≡ false → prefix_len p bytes ≡ 0
no_byte p c [] rest small h e = refl
no_byte p c (b ∷ bytes) rest small h e = go (p b) refl
  where
    go : (d : Bool) → p b ≡ d → prefix_len p (b ∷ bytes) ≡ 0
    go false k = rw k refl
    go true k =
        let same : c ≡ b = char_from_byte (b ∷ bytes) rest c h (small b k) (omega arith) in
        absurd (false≢true (sym e ∙ (ap p same ∙ k)))

same_run : (p : ℕ → Bool) (s : List ℕ) → OfAscii p → SameRun p s
same_run p [] small = record { len = refl; run = refl; rest = refl }
same_run p (c ∷ s) small = go (p c) refl (same_run p s small)
  where
    go : (d : Bool) → p c ≡ d → SameRun p s → SameRun p (c ∷ s)
    go false e h =
        let none : prefix_len p (c ∷ s) ≡ 0 = rw e refl in
        record {
          len = no_byte p c (encode_utf8_all (c ∷ s)) (encode_utf8_all s) small refl e ∙ sym none;
          run = rw e refl;
          rest = rw e refl;
        }
    go true e h =
        let n = prefix_len p s in
        let bytes = encode_utf8_all s in
        let byte : encode_utf8_all (c ∷ s) ≡ c ∷ bytes = ap (λ r. r ++ bytes) (encode_ascii c (small c e)) in
        record {
          len = ap (prefix_len p) byte ∙ rw e (ap (λ n. 1 + n) h.len);
          run = rw e (ap (take (1 + n)) byte ∙ (take_first n c bytes ∙ (ap (λ r. c ∷ r) h.run ∙ sym (take_first n c s))));
          rest = rw e (ap (drop (1 + n)) byte ∙ (drop_first n c bytes ∙ (h.rest ∙ ap encode_utf8_all (sym (drop_first n c s)))));
        }

-- a text of UTF-8 cut behind its run
pub record RunOf (p : ℕ → Bool) (text : List ℕ) (len : ℕ) : Type 0 where
  pub cut : IsCharBoundary text len
  pub run : take len text ≡ take (prefix_len p (chars text)) (chars text)
  pub rest : chars (drop len text) ≡ drop (prefix_len p (chars text)) (chars text)

run_cut : (p : ℕ → Bool) (text : List ℕ) → OfAscii p → IsUtf8 text → IsCharBoundary text (prefix_len p text)
run_cut p text small u = go (prefix_len p text) refl
  where
    go : (n : ℕ) → prefix_len p text ≡ n → IsCharBoundary text n
    go zero e = IsCharBoundary-start text u
    go (suc m) e =
        let on : m < prefix_len p text = omega arith in
        let within : m < length text = omega (arith, prefix_len-le-length p text) in
        subst (IsCharBoundary text) (add-one m) (IsCharBoundary-after_ascii text m u within (small (get_or text m 0) (prefix_len_passes p text m 0 on)))

pub run_of : (p : ℕ → Bool) (text bytes : List ℕ) (len : ℕ) → OfAscii p → IsUtf8 text → bytes ≡ text → len ≡ prefix_len p bytes → RunOf p text len
run_of p text bytes len small u e h =
    let cs = chars text in
    let n = prefix_len p text in
    let k = prefix_len p cs in
    let same = same_run p cs small in
    let whole : encode_utf8_all cs ≡ text = encodes-chars text u in
    let both : n ≡ k = ap (prefix_len p) (sym whole) ∙ same.len in
    let cut = run_cut p text small u in
    let behind : encode_utf8_all (drop k cs) ≡ drop n text = sym same.rest ∙ (ap (drop k) whole ∙ ap (λ i. drop i text) (sym both)) in
    let found : n ≡ len = ap (prefix_len p) (sym e) ∙ sym h in
    subst (RunOf p text) found (record {
      cut = cut;
      run = ap (λ i. take i text) both ∙ (ap (take k) (sym whole) ∙ same.run);
      rest = sym (chars_from_encodes (drop k cs) (drop n text) (IsUtf8-drop text n u cut) behind);
    })
