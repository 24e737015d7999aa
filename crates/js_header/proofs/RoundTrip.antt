-- A form is what its word spells.
use Rattle.std.proofs.Common.{◌≡◌, ℕ, ◌+◌, ◌*◌, ◌/◌, ◌%◌, ◌^◌, ◌<◌, Bool, true, false, cond, sym, refl, ap, ◌∙◌, subst, arith, eqb, eq-eqb, eqb-true, Some, None}
use Rattle.js_header.specs.Form.{bit, packed, IsInRange, word_of, form_by_tag, form_of}
use Rattle.js_header.specs.declared.form.Form.{Form}
use Rattle.js_header.specs.declared.form.Form.TheVariants.{Unborn, Flat, Cons, Sliced, Thin}

tag_of : (t : ℕ) (w x : ℕ) (a b : ℕ) → t < 8 → w < 2 → x < 2 → (t + 8 * w + 16 * x + 32 * a + 17179869184 * b) % 8 ≡ t
tag_of t w x a b l m n = omega arith

wide_of : (t w x a b : ℕ) → t < 8 → w < 2 → x < 2 → (t + 8 * w + 16 * x + 32 * a + 17179869184 * b) / 8 % 2 ≡ w
wide_of t w x a b l m n = omega arith

fixed_of : (t w x a b : ℕ) → t < 8 → w < 2 → x < 2 → (t + 8 * w + 16 * x + 32 * a + 17179869184 * b) / 16 % 2 ≡ x
fixed_of t w x a b l m n = omega arith

first_of : (t w x a b : ℕ) → t < 8 → w < 2 → x < 2 → a < 2 ^ 29 → (t + 8 * w + 16 * x + 32 * a + 17179869184 * b) / 32 % 536870912 ≡ a
first_of t w x a b l m n h = omega arith

second_of : (t w x a b : ℕ) → t < 8 → w < 2 → x < 2 → a < 2 ^ 29 → b < 2 ^ 29 → (t + 8 * w + 16 * x + 32 * a + 17179869184 * b) / 17179869184 % 536870912 ≡ b
second_of t w x a b l m n h k = omega arith

abbrev built : ℕ → ℕ → ℕ → ℕ → ℕ → Form
built t w x a b = cond (eqb t 1) (Flat (eqb w 1) a (eqb x 1)) (cond (eqb t 2) (Cons (eqb w 1) a b) (cond (eqb t 3) (Sliced (eqb w 1) a b) (cond (eqb t 4) (Thin a) Unborn)))

bit_small : (b : Bool) → bit b < 2
bit_small true = omega arith
bit_small false = omega arith

bit_back : (b : Bool) → eqb (bit b) 1 ≡ b
bit_back true = refl
bit_back false = refl

fields_packed : (t : ℕ) (w x : Bool) (a b : ℕ) → t < 8 → a < 2 ^ 29 → b < 2 ^ 29 → form_by_tag (packed t w x a b) ≡ built t (bit w) (bit x) a b
fields_packed t w x a b l h k = let p = bit_small w in let q = bit_small x in
    λ i. built (tag_of t (bit w) (bit x) a b l p q i) (wide_of t (bit w) (bit x) a b l p q i) (fixed_of t (bit w) (bit x) a b l p q i)
    (first_of t (bit w) (bit x) a b l p q h i) (second_of t (bit w) (bit x) a b l p q h k i)

fields_word : (f : Form) → IsInRange f → form_by_tag (word_of f) ≡ f
fields_word Unborn h = refl
fields_word (Flat wide start fixed) h = fields_packed 1 wide fixed start 0 (omega arith) h (omega arith) ∙ (λ i. Flat (bit_back wide i) start (bit_back fixed i))
fields_word (Cons wide left right) h = fields_packed 2 wide false left right (omega arith) h.0 h.1 ∙ (λ i. Cons (bit_back wide i) left right)
fields_word (Sliced wide parent offset) h = fields_packed 3 wide false parent offset (omega arith) h.0 h.1 ∙ (λ i. Sliced (bit_back wide i) parent offset)
fields_word (Thin target) h = fields_packed 4 false false target 0 (omega arith) h (omega arith)

-- a form is what its word spells
pub form_of-word_of : (f : Form) → IsInRange f → form_of (word_of f) ≡ Some f
form_of-word_of f h = let e = fields_word f h in
    subst (λ (g : Form). cond (eqb (word_of g) (word_of f)) (Some g) None ≡ Some f) (sym e) (ap (λ b. cond b (Some f) None) (eq-eqb (word_of f) (word_of f) refl))

-- and the form spells the word: no two words spell one form
same_word : (w : ℕ) (g f : Form) (b : Bool) → (b ≡ true → word_of g ≡ w) → cond b (Some g) None ≡ Some f → word_of f ≡ w
same_word w g f true h e = let same : g ≡ f = cc in ap word_of (sym same) ∙ h refl
same_word w g f false h e = absurd (cc)

pub word_of-form_of : (w : ℕ) (f : Form) → form_of w ≡ Some f → word_of f ≡ w
word_of-form_of w f e = same_word w (form_by_tag w) f (eqb (word_of (form_by_tag w)) w) (λ h. eqb-true (word_of (form_by_tag w)) w h) e
