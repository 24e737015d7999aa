-- What is answered after loads, from before them.
use Rattle.std.proofs.Common.{◌≡◌, ℕ, ◌-◌, ⊎_elim, inl, inr, List, ◌++◌, length, refl, ◌∙◌, Option}
use Rattle.std.specs.Prelude.{Result, Ok, Err}
use Rattle.js_units.specs.Lanes.{is_wide, words_over}
use Rattle.heap_rule.specs.declared.size.HeapSize.{HeapSize}
use Rattle.heap_rule.specs.declared.view.View.{View}
use Rattle.heap_rule.specs.Births.{part}
use Rattle.heap_read.specs.declared.string.JsStr.{JsStr}
use Rattle.heap_read.specs.Reads.{OnlyLoads}
use Rattle.heap_read.proofs.Loaded.{reads_trans}
use Rattle.heap_text.specs.declared.faults.JoinFault.{JoinFault}
use Rattle.heap_text.specs.declared.faults.JoinFault.TheVariants.{Full}
use Rattle.heap_text.specs.declared.faults.TextFull.{TextFull}
use Rattle.heap_text.specs.Joins.{IsCopy, IsCut, IsJoined, IsNoId, IsRope, IsTextRefused}
use Rattle.heap_text.proofs.Cutting.{part_after}
use Rattle.heap_text.proofs.Linking.{copied_after}
use Rattle.heap_text.proofs.Pieces.{spared_after, uses_after}
use Rattle.heap_reserve.specs.declared.reserve.Reserve.{Reserve}
use Rattle.heap_reserve.specs.Making.{IsFlatAnswer, IsFlatTaken, IsPartTaken, IsRopeTaken, words_holding}
use Rattle.heap_reserve.specs.Reserves.{IsTakingRefused}
use Rattle.heap_reserve.specs.Trying.{MakesPart, MakesRope}
use Rattle.heap_reserve.proofs.Kept.{refused_after, taken_after}

module _ (v u w : View) (z : HeapSize) (read : OnlyLoads v u) where
  pub joined_after : (most : ℕ) (a b : JsStr) (us vs : List ℕ) (answer : Result JsStr JoinFault) → IsJoined u w z most a b us vs answer → IsJoined v w z most a b us vs answer
  joined_after most a b us vs answer h = let n : ℕ = words_over (is_wide (us ++ vs)) (length (us ++ vs)) in record {
    long = λ l. let t = h.long l in (t.0, t.1 ∙ read.used);
    left_empty = λ l e. let t = h.left_empty l e in (t.0, t.1, (t.2.0, t.2.1 ∙ read.used));
    right_empty = λ l k e. let t = h.right_empty l k e in (t.0, t.1, (t.2.0, t.2.1 ∙ read.used));
    short = λ l p q m. ⊎_elim
        (λ (c : (t : JsStr) × (answer ≡ Ok t) × IsCopy u w t (us ++ vs)). inl (c.0, c.1, (c.2.0, c.2.1, uses_after v u w 1 n n read.used refl c.2.2)))
        (λ (c : (f : TextFull) × (answer ≡ Err (Full f)) × IsTextRefused u w z (us ++ vs) f). inr (c.0, c.1, (c.2.0, spared_after v u w n n c.0 read refl c.2.1))) (h.short l p q m);
    rope = λ l p q m. ⊎_elim
        (λ (c : (t : JsStr) × (answer ≡ Ok t) × IsRope u w a b t (us ++ vs)). inl (c.0, c.1, (c.2.0, c.2.1, uses_after v u w 1 0 0 read.used refl c.2.2)))
        (λ (c : (f : TextFull) × (answer ≡ Err (Full f)) × IsNoId u w z f). inr (c.0, c.1, (c.2.0, c.2.1, spared_after v u w 0 0 c.0 read refl c.2.2))) (h.rope l p q m);
  }

  pub cut_after : (p : JsStr) (from to : ℕ) (us : List ℕ) (answer : Result JsStr TextFull) → IsCut u w z p from to us answer → IsCut v w z p from to us answer
  cut_after p from to us answer h = record {
    whole = λ e l. let t = h.whole e l in (t.0, t.1, (t.2.0, t.2.1 ∙ read.used));
    short = λ o l. copied_after v u w z read (part from (to - from) us) answer (h.short o l);
    long = λ o l. part_after v u w z read p from (part from (to - from) us) answer (h.long o l);
  }

-- what was made with the reserve
module _ (v u w : View) (r s : Reserve) (read : OnlyLoads v u) where
  pub flat_taken_after : (t : JsStr) (us : List ℕ) → IsFlatTaken u w r s t us → IsFlatTaken v w r s t us
  flat_taken_after t us h = record { units = h.units; form = h.form; taken = taken_after v u w r s t.id (words_holding us) read h.taken }

  pub flat_after : (z : HeapSize) (us : List ℕ) (a : Result JsStr TextFull) → IsFlatAnswer u w r s z us a → IsFlatAnswer v w r s z us a
  flat_after z us a h = ⊎_elim
      (λ (c : (t : JsStr) × (a ≡ Ok t) × IsFlatTaken u w r s t us). inl (c.0, c.1, flat_taken_after c.0 us c.2))
      (λ (c : (f : TextFull) × (a ≡ Err f) × IsTakingRefused u w z r s (words_holding us) f). inr (c.0, c.1, refused_after v u w z r s (words_holding us) c.0 read c.2)) h

  pub rope_taken_after : (a b t : JsStr) (us : List ℕ) → IsRopeTaken u w r s a b t us → IsRopeTaken v w r s a b t us
  rope_taken_after a b t us h = record { units = h.units; rope = h.rope; taken = taken_after v u w r s t.id 0 read h.taken }

  pub part_taken_after : (p : JsStr) (from : ℕ) (t : JsStr) (us : List ℕ) → IsPartTaken u w r s p from t us → IsPartTaken v w r s p from t us
  part_taken_after p from t us h = record { units = h.units; part = h.part; taken = taken_after v u w r s t.id 0 read h.taken }

  pub rope_after : (a b : JsStr) (us : List ℕ) (o : Option (Result JsStr TextFull)) → MakesRope u w r s a b us o → MakesRope v w r s a b us o
  rope_after a b us o h = record {
    made = λ e f. let t = h.made e f in (t.0, t.1, rope_taken_after a b t.0 us t.2);
    left = λ none. let t = h.left none in (t.0, t.1, reads_trans v u w read t.2);
  }

  pub cut_made_after : (p : JsStr) (from : ℕ) (us : List ℕ) (o : Option (Result JsStr TextFull)) → MakesPart u w r s p from us o → MakesPart v w r s p from us o
  cut_made_after p from us o h = record {
    made = λ e. let t = h.made e in (t.0, t.1, part_taken_after p from t.0 us t.2);
    left = λ none. let t = h.left none in (t.0, t.1, reads_trans v u w read t.2);
  }
