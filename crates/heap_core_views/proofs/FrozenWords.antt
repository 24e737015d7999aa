-- Words that are known to be frozen, by the spans of the Flats and the lengths of their strings.
use Rattle.std.proofs.Common.{◌≡◌, ◌∙◌, ℕ, ◌+◌, ◌-◌, ◌*◌, ◌<◌, ◌≤◌, inr, ⊎_elim, Bool, true, false, refl, sym, arith, IsTrue}
use Rattle.js_units.specs.Lanes.{words_over, lane_count}
use Rattle.js_header.specs.declared.form.Form.{Form}
use Rattle.js_header.specs.declared.form.Form.TheVariants.{Unborn, Flat, Cons, Sliced, Thin}
use Rattle.heap_rule.specs.declared.view.View.{View}
use Rattle.heap_rule.specs.Maps.{Has, HasKey}
use Rattle.heap_rule.specs.Views.{HasLength, IsFrozen}
use Rattle.heap_rule.specs.Loads.{MayLoadWord}
use Rattle.heap_core_views.specs.Loading.{Spans, IsSpanned, EndsPast}

later_part : (v : View) (i n j : ℕ) (f : Form) → Has v.forms j f → EndsPast v i n j f → (m : ℕ) × HasLength v i m × (n < m)
later_part v i n j (Sliced wide parent offset) h e = (offset + e.1.0, inr (j, wide, parent, offset, e.1.0, h, e.1.1, refl, e.0), e.1.2)
later_part v i n j Unborn h e = absurd e
later_part v i n j (Flat a b c) h e = absurd e
later_part v i n j (Cons a b c) h e = absurd e
later_part v i n j (Thin a) h e = absurd e

-- a longer length is the string's own, or the end of a part
pub longer_by : (v : View) (i n : ℕ) (own part : Bool) → own ≡ false → (((m : ℕ) × Has v.lengths i m × (n < m)) → IsTrue own)
    → (IsTrue part → (j : ℕ) × (f : Form) × Has v.forms j f × EndsPast v i n j f) × (((j : ℕ) × (f : Form) × Has v.forms j f × EndsPast v i n j f) → IsTrue part)
    → (IsTrue part → (m : ℕ) × HasLength v i m × (n < m)) × (((m : ℕ) × HasLength v i m × (n < m)) → IsTrue part)
longer_by v i n own part none own_by t = (
  (λ h. let p = t.0 h in later_part v i n p.0 p.1 p.2 p.3),
  (λ p. ⊎_elim (λ h. let a = own_by (p.0, h, p.2) in let e : false ≡ true = sym none ∙ a in absurd (cc))
      (λ q. let e = q.7 in let l = p.2 in t.1 (q.0, Sliced q.1 q.2 q.3, q.5, (q.8, (q.4, q.6, omega arith)))) p.1),
)

within : (wide : Bool) (start c m : ℕ) → start ≤ c → (c - start) * lane_count wide < m → c < start + words_over wide m
within true start c m a b = omega arith
within false start c m a b = omega arith

before : (wide : Bool) (start c m : ℕ) → start ≤ c → c < start + words_over wide m → (c - start) * lane_count wide < m
before true start c m a b = omega arith
before false start c m a b = omega arith

spanned : (v : View) (c i : ℕ) (f : Form) → Has v.forms i f → Spans v c i f → IsFrozen v c
spanned v c i (Flat wide start fixed) h s = inr (i, wide, start, fixed, s.1.0, h, s.1.1, s.0, within wide start c s.1.0 s.0 s.1.2)
spanned v c i Unborn h s = absurd s
spanned v c i (Sliced a b d) h s = absurd s
spanned v c i (Cons a b d) h s = absurd s
spanned v c i (Thin a) h s = absurd s

pub load_by : (v : View) (c : ℕ) (own frozen b : Bool) → own ≡ false → frozen ≡ false → (HasKey v.own_words c → IsTrue own) →
    (HasKey v.frozen c → IsTrue frozen) → (IsTrue b → IsSpanned v c) × (IsSpanned v c → IsTrue b)
    → (IsTrue b → MayLoadWord v c) × (MayLoadWord v c → IsTrue b)
load_by v c own frozen b no_own no_frozen has_own has_frozen t = (
  (λ h. let p = t.0 h in inr (spanned v c p.0 p.1 p.2 p.3)),
  ⊎_elim (λ h. let e : false ≡ true = sym no_own ∙ has_own h in absurd (cc))
      (⊎_elim (λ h. let e : false ≡ true = sym no_frozen ∙ has_frozen h in absurd (cc))
      (λ q. t.1 (q.0, Flat q.1 q.2 q.3, q.5, (q.7, (q.4, q.6, before q.1 q.2 c q.4 q.7 q.8))))),
)
