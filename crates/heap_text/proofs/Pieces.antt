-- Windows on parts of strings, as the source of a new one.
use Rattle.std.proofs.Common.{◌≡◌, ℕ, ◌+◌, ◌<◌, ◌≤◌, ◌⊎◌, inl, inr, false, List, [], length, get_or, drop, sym, refl, ap, ◌∙◌, subst, arith, Option}
use Rattle.std.specs.Prelude.{unwrap_or, Result, Ok, Err, IfOk, IfErr}
use Rattle.std.proofs.lemmas.List.{length-drop, length-take-le, take_all}
use Rattle.std.proofs.lemmas.Grind.{same_number_lists}
use Rattle.heap_rule.specs.declared.view.View.{View}
use Rattle.heap_rule.specs.declared.size.Counters.{Counters}
use Rattle.heap_rule.specs.Births.{part}
use Rattle.heap_rule.specs.Maps.{Has, HasKey}
use Rattle.heap_rule.proofs.MapLemmas.{key_of}
use Rattle.heap_read.specs.declared.string.JsStr.{JsStr}
use Rattle.heap_read.specs.declared.string.Window.{Window}
use Rattle.heap_read.specs.Sources.{ShowsPiece, piece_units}
use Rattle.heap_text.specs.Joins.{IsCopy, IsTextRefused}
use Rattle.heap_text.specs.Texts.{IsSpared, LacksRoom, UsesExactly}
use Rattle.heap_read.specs.Reads.{OnlyLoads}
use Rattle.js_units.specs.Lanes.{is_wide, words_over}
use Rattle.heap_text.specs.declared.faults.TextFull.{TextFull}
use Rattle.heap_text.specs.declared.faults.TextFull.TheVariants.{Ids, Words}
use Rattle.heap_rule.specs.declared.size.Counter.TheVariants as counter
use Rattle.heap_rule.specs.Claims.{loaded_counter}
use Rattle.heap_table.specs.Full.{IsFull}
use Rattle.heap_table.specs.declared.claims.CounterFull.{CounterFull}
use Rattle.std.specs.FinMap.{FinMap}
use Rattle.std.specs.Ordering.{nat_cmp}
use Rattle.js_header.specs.declared.form.Form.TheVariants.{Flat}
use Rattle.heap_rule.specs.declared.size.HeapSize.{HeapSize}
use Rattle.heap_read.specs.Windows.{IsWindow}
use Rattle.heap_read.proofs.Showing.{part_unit}

pub length_part : (o n : ℕ) (us : List ℕ) → o + n ≤ length us → length (part o n us) ≡ n
length_part o n us l = let d = length-drop o us in length-take-le n (drop o us) (omega arith)

-- a part of a part
pub part_part : (o n p m : ℕ) (us : List ℕ) → o + n ≤ length us → p + m ≤ n → part p m (part o n us) ≡ part (o + p) m us
part_part o n p m us l k = let whole = length_part o n us l in
    let left : length (part p m (part o n us)) ≡ m = length_part p m (part o n us) (omega arith) in
    let right : length (part (o + p) m us) ≡ m = length_part (o + p) m us (omega arith) in
    same_number_lists (part p m (part o n us)) (part (o + p) m us) (left ∙ sym right)
    (λ q h. let e : o + (p + q) ≡ o + p + q = omega arith in let small : q < m = omega arith in
    part_unit p m q (part o n us) small ∙ (part_unit o n (p + q) us (omega arith) ∙ (ap (λ (i : ℕ). get_or us i 0) e ∙ sym (part_unit (o + p) m q us small))))

module _ (v : View) (s : JsStr) (us : List ℕ) (known : Has v.units s.id us) where
  pub piece_is : (from : ℕ) (w : Window) → piece_units v (record { of = s; from = from; window = w }) ≡ part from w.len us
  piece_is from w = ap (λ (o : Option (List ℕ)). part from w.len (unwrap_or o [])) known

  pub piece_shows : (from : ℕ) (w : Window) → IsWindow v w (part from w.len us) → ShowsPiece v (record { of = s; from = from; window = w })
  piece_shows from w h = (key_of v.units s.id us known, subst (IsWindow v w) (sym (piece_is from w)) h)

  -- a window on the whole string
  whole_part : (w : Window) → w.len ≡ length us → part 0 w.len us ≡ us
  whole_part w e = take_all w.len us (omega arith)

  pub whole_shows : (w : Window) → w.len ≡ length us → IsWindow v w us → ShowsPiece v (record { of = s; from = 0; window = w })
  whole_shows w e h = piece_shows 0 w (subst (IsWindow v w) (sym (whole_part w e)) h)

  pub whole_is : (w : Window) → w.len ≡ length us → piece_units v (record { of = s; from = 0; window = w }) ≡ us
  whole_is w e = piece_is 0 w ∙ whole_part w e

  -- a window on a part of it
  pub part_shows : (w : Window) (from n : ℕ) → w.len ≡ length us → from + n ≤ length us → IsWindow v w us
      → IsWindow v (record { wide = w.wide; start = w.start; offset = w.offset + from; len = n }) (part from n us)
  part_shows w from n e l h = let m = h.within in let p = h.place in record {
    of = h.of;
    whole = h.whole;
    known = h.known;
    id = h.id;
    before = h.before;
    leads = h.leads;
    fixed = h.fixed;
    form = h.form;
    length_known = h.length_known;
    from = h.from + from;
    place = omega arith;
    within = omega arith;
    shows = ap (part from n) h.shows ∙ part_part h.from w.len from n h.whole h.within (omega arith);
  }

-- uses after loads are those from before them
pub uses_after : (v u w : View) (ids words words' : ℕ) → u.used ≡ v.used → words ≡ words' → UsesExactly u w ids words → UsesExactly v w ids words'
uses_after v u w ids words words' e f h = subst (λ (n : Counters). (w.used.ids ≡ n.ids + ids) × (w.used.words ≡ n.words + words')) e (subst (UsesExactly u w ids) f h)

-- and so is what a refusal spares
pub spared_after : (v u w : View) (words words' : ℕ) (f : TextFull) → OnlyLoads v u → words ≡ words' → IsSpared u w words f → IsSpared v w words' f
spared_after v u w words words' f r e h = let a : u.used.words ≡ v.used.words = ap (λ (n : Counters). n.words) r.used in let b = h.used_words in record {
  used_ids = h.used_ids ∙ ap (λ (n : Counters). n.ids) r.used;
  used_words = omega arith;
  own_ids = h.own_ids ∙ r.own_ids;
  own_words = λ c k. h.own_words c (subst (λ (m : FinMap nat_cmp ℕ). HasKey m c) (sym r.own_words) k);
  claimed = (
    h.claimed.0,
    h.claimed.1,
    h.claimed.2 ∙ ap (λ (n : ℕ). n + h.claimed.1) a,
    h.claimed.3,
    λ q l k. h.claimed.4 q l
        (subst (λ (m : FinMap nat_cmp ℕ). HasKey m (h.claimed.0 + q)) (sym r.own_words) k),
  );
}

-- a call refused for words, which claimed none; and one refused for an id, which keeps the words that it wrote
pub spared_words : (v u w : View) (words end : ℕ) (f : CounterFull) → OnlyLoads v u → IsFull f words end → w.used.ids ≡ u.used.ids → w.used.words ≡ u.used.words → w.own_ids ≡ u.own_ids
    → ((c : ℕ) → HasKey u.own_words c → HasKey w.own_words c) → IsSpared v w words (Words f)
spared_words v u w words end f r full a b c k = let e = full.0 in spared_after v u w words words (Words f) r refl record {
  used_ids = a;
  used_words = omega arith;
  own_ids = c;
  own_words = k;
  claimed = (0, 0, (omega arith), (λ q l. absurd (omega arith)), (λ q l k. absurd (omega arith)));
}

pub spared_ids : (v u w x : View) (start words at : ℕ) (f : CounterFull) → OnlyLoads v u → x ≡ loaded_counter w counter.Ids at → w.used.ids
    ≡ u.used.ids → w.used.words ≡ u.used.words + words → w.own_ids ≡ u.own_ids
    → ((c : ℕ) → HasKey u.own_words c → HasKey w.own_words c) → ((q : ℕ) → q < words → HasKey w.own_words (start + q)) → ((q : ℕ) → q <
    words → HasKey u.own_words (start + q) → ⊥) → IsSpared v x words (Ids f)
spared_ids v u w x start words at f r e a b c k own fresh = subst (λ (y : View). IsSpared v y words (Ids f)) (sym e)
    (spared_after v u (loaded_counter w counter.Ids at) words words (Ids f) r refl record {
      used_ids = a;
      used_words = omega arith;
      own_ids = c;
      own_words = k;
      claimed = (start, words, b, own, fresh);
    })

-- the answer of a copy, after loads
pub copy_answer : (v w x : View) (z : HeapSize) (r : Result JsStr TextFull) (xs us : List ℕ) (n : ℕ) → xs ≡ us → words_over (is_wide xs) n ≡ words_over (is_wide us) (length us) → OnlyLoads v w
    → IfOk r (λ s. Has x.units s.id xs) → IfOk r (λ s. (start : ℕ) × Has x.forms s.id (Flat (is_wide xs) start false)) → IfOk r (λ s. UsesExactly w x 1 (words_over (is_wide xs) n))
    → IfErr r (λ f. LacksRoom x z (words_over (is_wide xs) n) f) → IfErr r (λ f. IsSpared w x (words_over (is_wide xs) n) f)
    → ((t : JsStr) × (r ≡ Ok t) × IsCopy v x t us) ⊎ ((f : TextFull) × (r ≡ Err f) × IsTextRefused v x z us f)
copy_answer v w x z (Ok s) xs us n all words r a b c d e = inl (
  s,
  refl,
  (
    subst (Has x.units s.id) all a,
    (b.0, subst (λ (ys : List ℕ). Has x.forms s.id (Flat (is_wide ys) b.0 false)) all b.1),
    uses_after v w x 1 (words_over (is_wide xs) n) (words_over (is_wide us) (length us)) r.used words c,
  ),
)
copy_answer v w x z (Err f) xs us n all words r a b c d e = inr (
  f,
  refl,
  (subst (λ (m : ℕ). LacksRoom x z m f) words d, spared_after v w x (words_over (is_wide xs) n) (words_over (is_wide us) (length us)) f r words e),
)
