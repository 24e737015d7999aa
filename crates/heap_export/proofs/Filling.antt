-- The bytes of one code point more, in a part of a list.
use Rattle.std.proofs.Common.{◌≡◌, ℕ, [], ◌+◌, ◌-◌, ◌<◌, ◌≤◌, List, ◌++◌, length, take, drop, get_or, ap, sym, ◌∙◌, arith, append_assoc, length-append}
use Rattle.std.specs.Prelude.{encode_utf8}
use Rattle.std.specs.Char.{len_utf8}
use Rattle.std.proofs.lemmas.Str.{length-encode}
use Rattle.std.proofs.lemmas.List.{append-nil, length-drop, length-take-le}
use borrow.Rule.Slice.PartMut.{post_of, put_mid}
use Rattle.heap_export.specs.declared.faults.Unpaired.{Unpaired}
use Rattle.heap_export.specs.declared.points.Point.{Point}
use Rattle.heap_export.specs.Points.{IsPointAt, written}
use Rattle.heap_export.proofs.AsciiRuns.{same_run, spelled_run}
use Rattle.heap_export.proofs.Bytes.{put_behind}
use Rattle.heap_export.proofs.Spelling.{spelled, spelled_next}

pub part_len : (at : ℕ) (out : List ℕ) → at ≤ length out → length (take (length out - at) (drop at out)) ≡ length out - at
part_len at out h = length-take-le (length out - at) (drop at out) (omega (arith, length-drop at out))

-- a part is put there behind what a list has in front
module _ (at k n : ℕ) (out new part tail : List ℕ) (r : at ≤ length out) (count : n ≡ length part) (bytes : new ≡ part ++ tail) where
  there : put_mid at k out new ≡ take at out ++ (part ++ (tail ++ post_of at k out))
  there = ap (λ (ys : List ℕ). take at out ++ (ys ++ post_of at k out)) bytes ∙ ap (λ (ys : List ℕ). take at out ++ ys) (append_assoc part tail (post_of at k out))

  pub part_room : at + n ≤ length (put_mid at k out new)
  part_room = omega (
    arith,
    count,
    ap length there,
    length-append (take at out) (part ++ (tail ++ post_of at k out)),
    length-append part (tail ++ post_of at k out),
    length-take-le at out r,
  )

  pub part_next : (rest whole : List ℕ) → take at out ++ (part ++ rest) ≡ whole → take (at + n) (put_mid at k out new) ++ rest ≡ whole
  part_next rest whole h = put_behind at n out (put_mid at k out new) part (tail ++ post_of at k out) rest whole r count there h

-- the bytes of one code point
module _ (at k n v : ℕ) (out new tail : List ℕ) (r : at ≤ length out) (count : n ≡ len_utf8 v) (bytes : new ≡ encode_utf8 v ++ tail) where
  pub fill_room : at + n ≤ length (put_mid at k out new)
  fill_room = part_room at k n out new (encode_utf8 v) tail r (count ∙ sym (length-encode v)) bytes

  pub fill_next : (m : Unpaired) (us : List ℕ) (i : ℕ) (p : Point) → IsPointAt us i p → v ≡ written m p.value → take at out ++ spelled m (drop i us) ≡ spelled m us
      → take (at + n) (put_mid at k out new) ++ spelled m (drop (i + p.count) us) ≡ spelled m us
  fill_next m us i p is e h = part_next at k n out new (encode_utf8 v) tail r (count ∙ sym (length-encode v)) bytes
      (spelled m (drop (i + p.count) us)) (spelled m us)
      (ap (λ (bs : List ℕ). take at out ++ bs) (ap (λ (x : ℕ). encode_utf8 x ++ spelled m (drop (i + p.count) us)) e ∙ sym (spelled_next m us i p is)) ∙ h)

pub part_size : (at n : ℕ) (out : List ℕ) → at + n ≤ length out → length (take (at + n - at) (drop at out)) ≡ n
part_size at n out r = let e : at + n - at ≡ n = omega arith in length-take-le (at + n - at) (drop at out) (omega (arith, r, length-drop at out)) ∙ e

-- units of a block, which were put to their place
module _ (at n : ℕ) (out new block : List ℕ) (r : at + n ≤ length out) (long : length new ≡ length (take (at + n - at) (drop at out)))
    (bytes : new ≡ take (length (take (at + n - at) (drop at out))) block) where
  size : length (take (at + n - at) (drop at out)) ≡ n
  size = part_size at n out r

  put : new ≡ take n block
  put = bytes ∙ ap (λ (m : ℕ). take m block) size

  pub run_room : at + n ≤ length (put_mid at (at + n - at) out new)
  run_room = part_room at (at + n - at) n out new new [] (omega (arith, r)) (sym (long ∙ size)) (sym (append-nil new))

  -- which are the next ones of a list
  pub run_put : (us : List ℕ) (i : ℕ) → i + n ≤ length us → ((k : ℕ) → k < n → get_or block k 0 ≡ get_or us (i + k) 0) → (rest whole : List ℕ)
      → take at out ++ (take n (drop i us) ++ rest) ≡ whole → take (at + n) (put_mid at (at + n - at) out new) ++ rest ≡ whole
  run_put us i l same rest whole h =
      part_next at (at + n - at) n out new new [] (omega (arith, r)) (sym (long ∙ size)) (sym (append-nil new)) rest whole
      (ap (λ (ps : List ℕ). take at out ++ (ps ++ rest)) (put ∙ same_run us block i n (sym (ap length put) ∙ (long ∙ size)) l same) ∙ h)

  -- or their UTF-8
  pub run_next : (m : Unpaired) (us : List ℕ) (i : ℕ) → i + n ≤ length us → ((k : ℕ) → k < n → get_or us (i + k) 0 < 128) → ((k : ℕ) → k < n → get_or block k 0 ≡ get_or us (i + k) 0)
      → take at out ++ spelled m (drop i us) ≡ spelled m us → take (at + n) (put_mid at (at + n - at) out new) ++ spelled m (drop (i + n) us) ≡ spelled m us
  run_next m us i l a same h = run_put us i l same (spelled m (drop (i + n) us)) (spelled m us)
      (ap (λ (bs : List ℕ). take at out ++ bs) (sym (spelled_run m us i n l a)) ∙ h)
