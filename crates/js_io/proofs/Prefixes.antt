-- What is taken by one write after the other, and prefixes of it.
use Rattle.std.proofs.Common.{ℕ, List, [], ◌∷◌, ◌++◌, None, Some, sym, ap, ◌∙◌, append_assoc, append-nil, Result, Ok, Err, IsErr, length, ◌≡◌, ◌≤◌, refl, arith}
use Rattle.std.specs.declared.option.Option.{Option}
use Rattle.std.specs.Io.KnownBytes.{Appends, Keeps}
use Rattle.js_io.specs.Counts.{next_count}
use Rattle.js_io.specs.SinkState.{SinkState, TakesBytes, TakesPrefix, WritesAll}

pub Appends-nil : (a : Option (List ℕ)) → Appends a a []
Appends-nil None = tt
Appends-nil (Some x) = sym (append-nil x)

pub Appends-trans : (a b c : Option (List ℕ)) (bs cs : List ℕ) → Appends a b bs → Appends b c cs → Appends a c (bs ++ cs)
Appends-trans None b c bs cs p q = tt
Appends-trans (Some x) None c bs cs p q = absurd p
Appends-trans (Some x) (Some y) None bs cs p q = absurd q
Appends-trans (Some x) (Some y) (Some z) bs cs p q = q ∙ ap (λ l. l ++ cs) p ∙ append_assoc x bs cs

pub Appends-kept : (a b c : Option (List ℕ)) (bs : List ℕ) → Appends a b bs → Keeps b c → Appends a c bs
Appends-kept None b c bs p q = tt
Appends-kept (Some x) None c bs p q = absurd p
Appends-kept (Some x) (Some y) None bs p q = absurd q
Appends-kept (Some x) (Some y) (Some z) bs p q = q ∙ p

-- a prefix of the first of two
pub prefix_first : (a b : SinkState) (bs cs : List ℕ) → TakesPrefix a b bs → TakesPrefix a b (bs ++ cs)
prefix_first a b bs cs (prefix, (byte, rest, split), took) =
    (prefix, (byte, rest ++ cs, ap (λ l. l ++ cs) split ∙ append_assoc prefix (byte ∷ rest) cs), took)

-- the first of two, and a prefix of the second
pub prefix_second : (a b c : SinkState) (bs cs : List ℕ) → TakesBytes a b bs → TakesPrefix b c cs → TakesPrefix a c (bs ++ cs)
prefix_second a b c bs cs first (prefix, (byte, rest, split), took) =
    (bs ++ prefix, (byte, rest, ap (λ l. bs ++ l) split ∙ sym (append_assoc bs prefix (byte ∷ rest))), Appends-trans a.taken b.taken c.taken bs prefix first took)

-- some bytes were taken, and then the write of what was left failed
pub stopped : {E : Type 0} (r : Result Unit E) (a b c : SinkState) (bs done rest : List ℕ) → IsErr r → (length rest ≡ 0 → ⊥) → bs ≡ done ++ rest
    → TakesBytes a b done → b.faults ≡ a.faults → Keeps b.taken c.taken → c.faults ≡ next_count b.faults → b.faults ≤ c.faults → WritesAll r a c bs
stopped (Ok done) a b c bs front rest err some split took calm kept failed counted = cc
stopped (Err e) a b c bs front [] err some split took calm kept failed counted = absurd (some refl)
stopped (Err e) a b c bs front (byte ∷ rest) err some split took calm kept failed counted = record {
  all = tt;
  calm = tt;
  prefix = (front, (byte, rest, split), Appends-kept a.taken b.taken c.taken front took kept);
  once = failed ∙ ap next_count calm;
  counted = omega (arith, calm, counted);
}

-- the first of two writes failed, and the second wasn't tried
pub first_failed : {E : Type 0} (e : E) (a b : SinkState) (bs cs : List ℕ) → WritesAll {E = E} (Err e) a b bs → WritesAll {E = E} (Err e) a b (bs ++ cs)
first_failed e a b bs cs w = record { all = tt; calm = tt; prefix = prefix_first a b bs cs w.prefix; once = w.once; counted = w.counted }

-- the first of two was written, and the second is tried
pub then_second : {E : Type 0} (r : Result Unit E) (a b c : SinkState) (bs cs : List ℕ) → WritesAll {E = E} (Ok tt) a b bs → WritesAll r b c cs → WritesAll r a c (bs ++ cs)
then_second (Ok done) a b c bs cs v w = record {
  all = Appends-trans a.taken b.taken c.taken bs cs v.all w.all;
  calm = w.calm ∙ v.calm;
  prefix = tt;
  once = tt;
  counted = omega (arith, v.counted, w.counted);
}
then_second (Err e) a b c bs cs v w = record {
  all = tt;
  calm = tt;
  prefix = prefix_second a b c bs cs v.all w.prefix;
  once = w.once ∙ ap next_count v.calm;
  counted = omega (arith, v.counted, w.counted);
}
