-- A header that moves: which word is found, and what the view becomes.
use Rattle.std.proofs.Common.{◌≡◌, ◌≢◌, ℕ, ⊎_elim, Bool, true, false, cond, eqb, [], length, sym, ap, ◌∙◌, arith, Some, eq-eqb, ne_eqb, IsTrue, ◌↔◌}
use Rattle.std.specs.Prelude.{unwrap_or}
use Rattle.std.specs.FinMap.{get, insert}
use Rattle.js_header.specs.Form.{IsInRange, word_of, form_of}
use Rattle.js_header.proofs.RoundTrip.{form_of-word_of}
use Rattle.js_header.specs.declared.form.Form.{Form}
use Rattle.js_header.specs.declared.form.Form.TheVariants.{Unborn, Flat, Cons, Sliced, Thin}
use Rattle.heap_rule.specs.declared.view.View.{View}
use Rattle.heap_rule.specs.Maps.{Has}
use Rattle.heap_rule.specs.Forms.{IsCons, IsLater}
use Rattle.heap_rule.specs.Births.{freeze, freeze_form}
use Rattle.heap_rule.specs.HeaderMoves.{seen_form, MayFlatten, flattened, thinned}
use Rattle.heap_core_views.specs.Loading.{loaded_by}
use Rattle.heap_core_views.specs.declared.load.Load.TheVariants.{Turned}
use Rattle.heap_core_births.specs.Moving.{SpellsUnits, IsSameOrLater}

-- no later form is spelt by the same word
later_word : (f g : Form) → IsLater f g → word_of g ≢ word_of f
later_word (Cons a b c) (Flat x y false) l e = omega arith
later_word (Cons a b c) (Thin t) l e = omega arith
later_word (Flat a b false) (Thin t) l e = omega arith
later_word (Sliced a b c) (Thin t) l e = omega arith
later_word (Cons a b c) Unborn l e = absurd (cc)
later_word (Cons a b c) (Flat x y true) l e = absurd (cc)
later_word (Cons a b c) (Cons x y w) l e = absurd (cc)
later_word (Cons a b c) (Sliced x y w) l e = absurd (cc)
later_word (Flat a b true) g l e = absurd (cc)
later_word (Flat a b false) Unborn l e = absurd (cc)
later_word (Flat a b false) (Flat x y w) l e = absurd (cc)
later_word (Flat a b false) (Cons x y w) l e = absurd (cc)
later_word (Flat a b false) (Sliced x y w) l e = absurd (cc)
later_word (Sliced a b c) Unborn l e = absurd (cc)
later_word (Sliced a b c) (Flat x y w) l e = absurd (cc)
later_word (Sliced a b c) (Cons x y w) l e = absurd (cc)
later_word (Sliced a b c) (Sliced x y w) l e = absurd (cc)
later_word Unborn g l e = absurd (cc)
later_word (Thin t) g l e = absurd (cc)

-- another form that stays is spelt by another word
other_word : (old stands : Form) → IsSameOrLater old stands → stands ≢ old → eqb (word_of stands) (word_of old) ≡ false
other_word old stands way ne = ne_eqb (word_of stands) (word_of old) (⊎_elim (λ (e : old ≡ stands). λ _. ne (sym e)) (λ l e. later_word old stands l e) way)

same_word : (old stands : Form) → stands ≡ old → eqb (word_of stands) (word_of old) ≡ true
same_word old stands e = eq-eqb (word_of stands) (word_of old) (ap word_of e)

module _ (v : View) (i : ℕ) (old stands : Form) where
  pub flatten_lost : (new : Form) → IsInRange stands → IsSameOrLater old stands → stands ≢ old → loaded_by v (Turned i stands 0 0) ≡ flattened v i old new (word_of stands)
  flatten_lost new range way ne = let w : View = freeze_form v (length (unwrap_or (get v.units i) [])) new in
      ap (seen_form v i) (sym (form_of-word_of stands range)) ∙ ap (λ (b : Bool). cond b (record w { forms = insert v.forms i new })
      (seen_form v i (form_of (word_of stands)))) (sym (other_word old stands way ne))

  pub flatten_won : (new : Form) (n start count : ℕ) → n ≡ length (unwrap_or (get v.units i) []) → freeze v start count ≡ freeze_form v n
      new → stands ≡ old → loaded_by v (Turned i new start count) ≡ flattened v i old new (word_of stands)
  flatten_won new n start count e f is = let w : View = freeze_form v (length (unwrap_or (get v.units i) [])) new in
      ap (λ (u : View). record u { forms = insert v.forms i new }) (f ∙ ap (λ (m : ℕ). freeze_form v m new) e) ∙ ap
      (λ (b : Bool). cond b (record w { forms = insert v.forms i new }) (seen_form v i (form_of (word_of stands)))) (sym (same_word old stands is))

  pub thin_lost : (t : ℕ) → IsInRange stands → IsSameOrLater old stands → stands ≢ old → loaded_by v (Turned i stands 0 0) ≡ thinned v i old t (word_of stands)
  thin_lost t range way ne = ap (seen_form v i) (sym (form_of-word_of stands range) ∙ ap (λ (b : Bool). cond b (Some (Thin t)) (form_of (word_of stands))) (sym (other_word old stands way ne)))

  pub thin_won : (t : ℕ) → stands ≡ old → loaded_by v (Turned i (Thin t) 0 0) ≡ thinned v i old t (word_of stands)
  thin_won t is = ap (λ (b : Bool). seen_form v i (cond b (Some (Thin t)) (form_of (word_of stands)))) (sym (same_word old stands is))

-- the test of a flattening, by the new form
pub may_flatten_by : (v : View) (i : ℕ) (old : Form) (wide : Bool) (start : ℕ) (b : Bool) → Has v.forms i old → IsCons old → IsTrue b ↔
    SpellsUnits v i wide start → IsTrue b ↔ MayFlatten v i old (Flat wide start false)
may_flatten_by v i old wide start b has cons test = (
  (λ h. let u = test.0 h in (has, cons, u.2.0, (u.0, u.1, u.2.1, u.2.2, u.2.3))),
  (λ m. let u = m.3 in test.1 (u.0, u.1, (m.2, u.2, u.3, u.4))),
)
