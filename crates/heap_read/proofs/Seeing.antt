-- What a load of a form tells.
use Rattle.std.proofs.Common.{◌≡◌, ◌≢◌, ◌∙◌, ℕ, inr, refl, ap, sym, subst, Option, Some, None}
use Rattle.std.specs.FinMap.{get, insert}
use Rattle.js_header.specs.Form.{form_of}
use Rattle.js_header.specs.declared.form.Form.{Form}
use Rattle.js_header.specs.declared.form.Form.TheVariants.{Unborn, Flat, Cons, Sliced, Thin}
use Rattle.heap_rule.specs.declared.view.View.{View}
use Rattle.heap_rule.specs.Learning.{learned_all}
use Rattle.heap_rule.specs.Maps.{HasKey}
use Rattle.heap_rule.specs.Loads.{added_loads, loaded_form, with_form}
use Rattle.heap_rule.proofs.MapLemmas.{insert_other, insert_same, key_of}
use Rattle.heap_read.specs.Sides.{KnowsSide}
use Rattle.heap_read.proofs.Loaded.{key_more}
use Rattle.heap_read.proofs.Learned.{thin_learned}

others_by : (v : View) (i n q : ℕ) (o : Option Form) → q ≢ i → get (learned_all (record (with_form v i o) { form_loads = n })).forms q ≡ get v.forms q
others_by v i n q None ne = refl
others_by v i n q (Some f) ne = insert_other v.forms i q f ne

-- the forms of other strings stay
pub others_stay : (v w : View) (i x q : ℕ) → w ≡ learned_all (loaded_form v i x) → q ≢ i → get w.forms q ≡ get v.forms q
others_stay v w i x q e ne = ap (λ (u : View). get u.forms q) e ∙ others_by v i (added_loads v.form_loads 1) q (form_of x) ne

side_of : (v : View) (i n : ℕ) (f : Form) → KnowsSide (learned_all (record (with_form v i (Some f)) { form_loads = n })) f
side_of v i n Unborn = tt
side_of v i n (Flat wide start fixed) = tt
side_of v i n (Cons wide left right) = inr (key_more (insert v.met left tt) right left tt (key_of (insert v.met left tt) left tt (insert_same v.met left tt)))
side_of v i n (Sliced wide parent offset) = inr (key_of (insert v.met parent tt) parent tt (insert_same v.met parent tt))
side_of v i n (Thin target) = inr (key_of (insert v.met target tt) target tt (insert_same v.met target tt))

-- the string that a form names first is known
pub side_met : (v w : View) (i x : ℕ) (f : Form) → form_of x ≡ Some f → w ≡ learned_all (loaded_form v i x) → KnowsSide w f
side_met v w i x f spelt e = subst (λ (u : View). KnowsSide u f) (sym e)
    (subst (λ (o : Option Form). KnowsSide (learned_all (record (with_form v i o) { form_loads = added_loads v.form_loads 1 })) f) (sym spelt)
    (side_of v i (added_loads v.form_loads 1) f))

loads_by : (v : View) (i n : ℕ) (o : Option Form) → (learned_all (record (with_form v i o) { form_loads = n })).form_loads ≡ n
loads_by v i n None = refl
loads_by v i n (Some f) = refl

-- one more load is counted
pub one_load : (v w : View) (i x : ℕ) → w ≡ learned_all (loaded_form v i x) → w.form_loads ≡ added_loads v.form_loads 1
one_load v w i x e = ap (λ (u : View). u.form_loads) e ∙ loads_by v i (added_loads v.form_loads 1) (form_of x)

-- of a Thin with known units those of the target are known
pub target_met : (v w : View) (i x t : ℕ) (f : Form) → form_of x ≡ Some f → f ≡ Thin t → w ≡ learned_all (loaded_form v i x) → HasKey v.units i → HasKey w.units t
target_met v w i x t f spelt is e h = subst (λ (u : View). HasKey u.units t) (sym e)
    (subst (λ (o : Option Form). HasKey (learned_all (record (with_form v i o) { form_loads = added_loads v.form_loads 1 })).units t) (sym (spelt ∙ ap Some is))
    (thin_learned (record (with_form v i (Some (Thin t))) { form_loads = added_loads v.form_loads 1 }) i t (insert_same v.forms i (Thin t)) h))
