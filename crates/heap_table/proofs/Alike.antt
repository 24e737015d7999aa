-- What live views have seen of a string is of one line, whatever a step brings.
use Rattle.std.proofs.Common.{◌≡◌, ◌≢◌, ℕ, zero, suc, ◌⊎◌, inl, inr, ⊎_elim, Bool, true, false, cond, List, [], ◌∷◌, ◌++◌, length, set, sym, refl, ap, ◌∙◌, subst, eqb, Option, Some, None}
use Rattle.std.specs.Ordering.{nat_cmp}
use Rattle.std.specs.FinMap.{FinMap, get, insert, empty}
use mathlib.Core.Option.{some-injective, some-ne-none}
use Rattle.js_header.specs.Form.{form_of, word_of}
use Rattle.js_header.specs.declared.form.Form.{Form}
use Rattle.js_header.specs.declared.form.Form.TheVariants.{Unborn, Flat, Cons, Sliced, Thin}
use Rattle.heap_rule.specs.declared.view.View.{View}
use Rattle.heap_rule.specs.declared.size.HeapSize.{HeapSize}
use Rattle.heap_rule.specs.Layout.{form, IsBorn}
use Rattle.heap_rule.specs.Maps.{Has}
use Rattle.heap_rule.specs.Forms.{IsLater, is_later, later_form}
use Rattle.heap_rule.specs.Agents.{joined_view, spent}
use Rattle.heap_rule.specs.Births.{freeze_form}
use Rattle.heap_rule.specs.HeaderMoves.{flattened, seen_form, thinned}
use Rattle.heap_rule.specs.Learning.{learned_all}
use Rattle.std.specs.Prelude.{unwrap_or}
use Rattle.heap_rule.specs.Sound.{At, EachLive, IsSound, StandsAs}
use Rattle.heap_rule.proofs.MapLemmas.{has_insert, nothing_has}
use Rattle.heap_rule.proofs.ListLemmas.{at_set, each_set}
use Rattle.heap_rule.proofs.Splitting.{each_snoc}
use Rattle.heap_rule.proofs.Joining.{laid_has}
use Rattle.heap_table.specs.Rule.{AreOfOneLine, AreSeenAlike}
use Rattle.heap_table.proofs.Fitting.{false_true}

line_self : (f : Form) → AreOfOneLine f f
line_self Unborn = tt
line_self (Flat wide start fixed) = tt
line_self (Cons wide left right) = tt
line_self (Sliced wide parent offset) = tt
line_self (Thin target) = tt

line_back : (f g : Form) → AreOfOneLine f g → AreOfOneLine g f
line_back Unborn Unborn h = tt
line_back Unborn (Flat w s x) h = tt
line_back Unborn (Cons w s x) h = tt
line_back Unborn (Sliced w s x) h = tt
line_back Unborn (Thin t) h = tt
line_back (Flat wide start fixed) Unborn h = tt
line_back (Flat wide start fixed) (Flat w s x) h = tt
line_back (Flat wide start fixed) (Cons w s x) h = tt
line_back (Flat wide start fixed) (Sliced w s x) h = tt
line_back (Flat wide start fixed) (Thin t) h = tt
line_back (Cons wide left right) Unborn h = tt
line_back (Cons wide left right) (Flat w s x) h = tt
line_back (Cons wide left right) (Cons w s x) h = tt
line_back (Cons wide left right) (Sliced w s x) h = h
line_back (Cons wide left right) (Thin t) h = tt
line_back (Sliced wide parent offset) Unborn h = tt
line_back (Sliced wide parent offset) (Flat w s x) h = tt
line_back (Sliced wide parent offset) (Cons w s x) h = h
line_back (Sliced wide parent offset) (Sliced w s x) h = tt
line_back (Sliced wide parent offset) (Thin t) h = tt
line_back (Thin target) Unborn h = tt
line_back (Thin target) (Flat w s x) h = tt
line_back (Thin target) (Cons w s x) h = tt
line_back (Thin target) (Sliced w s x) h = tt
line_back (Thin target) (Thin t) h = tt

-- the form that stands is of one line with each that was seen
line_seen : (now g : Form) → (g ≡ now) ⊎ IsLater g now → AreOfOneLine now g
line_seen now g way = ⊎_elim (λ (e : g ≡ now). subst (AreOfOneLine now) (sym e) (line_self now)) (λ (l : IsLater g now). line_later now g l) way
  where
    line_later : (now g : Form) → IsLater g now → AreOfOneLine now g
    line_later Unborn g l = tt
    line_later (Flat wide start fixed) g l = tt
    line_later (Thin target) g l = tt
    line_later (Cons wide left right) Unborn l = tt
    line_later (Cons wide left right) (Flat w s x) l = tt
    line_later (Cons wide left right) (Cons w s x) l = tt
    line_later (Cons wide left right) (Sliced w s x) l = absurd (false_true l)
    line_later (Cons wide left right) (Thin t) l = tt
    line_later (Sliced wide parent offset) Unborn l = tt
    line_later (Sliced wide parent offset) (Flat w s x) l = tt
    line_later (Sliced wide parent offset) (Cons w s x) l = absurd (false_true l)
    line_later (Sliced wide parent offset) (Sliced w s x) l = tt
    line_later (Sliced wide parent offset) (Thin t) l = tt

-- a form is of one line with all that live views have of a string
abbrev pub IsAlike : List View → ℕ → Form → Type 0
IsAlike vs i f = EachLive vs (λ _ u. (g : Form) → Has u.forms i g → AreOfOneLine f g)

module _ (vs : List View) (h : AreSeenAlike vs) (j : ℕ) (v : View) (at : At vs j v) (live : v.live ≡ true) where
  -- each form of the new view is one that it had, or is alike
  pub alike_set : (w : View) → ((i : ℕ) (f : Form) → Has w.forms i f → Has v.forms i f ⊎ IsAlike vs i f) → AreSeenAlike (set vs j w)
  alike_set w new = let one : (i : ℕ) (f : Form) → Has w.forms i f → IsAlike vs i f = (λ i f e. ⊎_elim
      (λ (o : Has v.forms i f). λ k u a l g c. h j v at live k u a l i f g o c) (λ (o : IsAlike vs i f). o) (new i f e)) in
      each_set (λ _ x. EachLive (set vs j w) (λ _ y. (i : ℕ) (f g : Form) → Has x.forms i f → Has y.forms i g → AreOfOneLine f g)) vs j w
      (each_set (λ _ y. (i : ℕ) (f g : Form) → Has w.forms i f → Has y.forms i g → AreOfOneLine f g) vs j w
      (λ i f g e c. let same : Some f ≡ Some g = sym e ∙ c in let is : f ≡ g = cc in subst (AreOfOneLine f) is (line_self f))
      (λ k u ne a l i f g e c. one i f e k u a l g c))
      (λ k u ne a l. each_set (λ _ y. (i : ℕ) (f g : Form) → Has u.forms i f → Has y.forms i g → AreOfOneLine f g) vs j w
      (λ i f g e c. line_back g f (one i g c k u a l f e))
      (λ q x ne' b m. h k u a l q x b m))

  pub alike_same : (w : View) → w.forms ≡ v.forms → AreSeenAlike (set vs j w)
  alike_same w e = alike_set w (λ i f c. inl (subst (λ (m : FinMap nat_cmp Form). Has m i f) e c))

  pub alike_put : (w : View) (i : ℕ) (f : Form) → w.forms ≡ insert v.forms i f → IsAlike vs i f → AreSeenAlike (set vs j w)
  alike_put w i f e new = alike_set w (λ q g c. ⊎_elim (λ (t : (q ≡ i) × (f ≡ g)). inr
      (subst (λ (y : ℕ × Form). IsAlike vs y.0 y.1) (λ d. (sym t.0 d, t.1 d)) new)) (λ (t : (q ≢ i) × Has v.forms q g). inl t.1)
      (has_insert v.forms i q f g (subst (λ (m : FinMap nat_cmp Form). Has m q g) e c)))

  pub alike_split : (left right : View) → left.forms ≡ v.forms → right.forms ≡ v.forms → AreSeenAlike (set vs j left ++ right ∷ [])
  alike_split left right same alike = let one : List View = set vs j left in let old = alike_same left same in
      let with_v : EachLive one (λ _ u. (i : ℕ) (f g : Form) → Has v.forms i f → Has u.forms i g → AreOfOneLine f g) = each_set
      (λ _ u. (i : ℕ) (f g : Form) → Has v.forms i f → Has u.forms i g → AreOfOneLine f g) vs j left
      (λ i f g a b. h j v at live j v at live i f g a (subst (λ (m : FinMap nat_cmp Form). Has m i g) same b)) (λ k u ne a l. h j v at live k u a l) in
      let back : (i : ℕ) (f : Form) → Has right.forms i f → Has v.forms i f = (λ i f c. subst (λ (m : FinMap nat_cmp Form). Has m i f) alike c) in
      each_snoc (λ _ x. EachLive (one ++ right ∷ []) (λ _ y. (i : ℕ) (f g : Form) → Has x.forms i f → Has y.forms i g → AreOfOneLine f g)) one right
      (λ k u a l. each_snoc (λ _ y. (i : ℕ) (f g : Form) → Has u.forms i f → Has y.forms i g → AreOfOneLine f g) one right (old k u a l)
      (λ i f g e c. line_back g f (with_v k u a l i g f (back i g c) e)))
      (each_snoc (λ _ y. (i : ℕ) (f g : Form) → Has right.forms i f → Has y.forms i g → AreOfOneLine f g) one right
      (λ k u a l i f g e c. with_v k u a l i f g (back i f e) c)
      (λ i f g e c. h j v at live j v at live i f g (back i f e) (back i g c)))

  one_of : (P : ℕ → Form → Type 0) (k : ℕ) (o : Option Form) (x : Form) → ((y : Form) → o ≡ Some y → P k y) → P k x → P k (later_form o x)
  one_of P k None x g p = p
  one_of P k (Some f) x g p = either_way (is_later f x) (g f refl) p
    where
      either_way : (b : Bool) → P k f → P k x → P k (cond b x f)
      either_way true a c = c
      either_way false a c = a

  pub alike_joined : (o : ℕ) (b : View) → At vs o b → b.live ≡ true → AreSeenAlike (set (set vs j (joined_view v b)) o spent)
  alike_joined o b at' live' = let w : View = joined_view v b in
      let one = alike_set w (λ i f e. inr (laid_has later_form (IsAlike vs) (one_of (IsAlike vs)) v.forms b.forms
      (λ q x c k u a l g d. h j v at live k u a l q x g c d) (λ q x c k u a l g d. h o b at' live' k u a l q x g c d) i f e)) in
      λ k x a l q y c m. one k x (gone k x a l) l q y (gone q y c m) m
    where
      gone : (k : ℕ) (x : View) → At (set (set vs j (joined_view v b)) o spent) k x → x.live ≡ true → At (set vs j (joined_view v b)) k x
      gone k x a l = ⊎_elim (λ (t : (k ≡ o) × (spent ≡ x)). absurd (let dead : false ≡ true = ap (λ (y : View). y.live) t.1 ∙ l in cc))
          (λ (t : (k ≢ o) × At (set vs j (joined_view v b)) k x). t.1) (at_set (set vs j (joined_view v b)) o k spent x a)

module _ (z : HeapSize) (agents : ℕ) (W : List ℕ) (vs : List View) (s : IsSound z agents W vs) where
  -- the form that stands
  pub alike_now : (i : ℕ) (now : Form) → form_of (form z W i) ≡ Some now → IsAlike vs i now
  alike_now i now e k u a l g c = let f = (s.knows k u a l).of_forms i g c in let same : Some f.now ≡ Some now = sym f.decodes ∙ e in let is : f.now ≡ now = cc in
      line_seen now g (subst (λ (y : Form). (g ≡ y) ⊎ IsLater g y) is f.later)

  -- any form of a string that is not born
  pub alike_unborn : (i : ℕ) (f : Form) → form z W i ≡ 0 → IsAlike vs i f
  alike_unborn i f e k u a l g c = absurd (((s.knows k u a l).of_forms i g c).born.1 e)

  -- a born string has a form
  pub now_born : (i : ℕ) (now : Form) → IsBorn z W i → form_of (form z W i) ≡ Some now → now ≡ Unborn → ⊥
  now_born i now b e un = let t = s.standing i b in let d : Some t.now ≡ Some now = sym t.decodes ∙ e in let is : t.now ≡ now = cc in subst (StandsAs z W vs i) (is ∙ un) t.stands

  module _ (h : AreSeenAlike vs) (j : ℕ) (v : View) (at : At vs j v) (live : v.live ≡ true) where
    -- a compare-exchange of a header, which puts a form in or finds the one that stands
    alike_seen : (i : ℕ) (o : Option Form) → o ≡ form_of (form z W i) → (w : View) → w.forms ≡ (seen_form v i o).forms → AreSeenAlike (set vs j w)
    alike_seen i None e w same = alike_same vs h j v at live w same
    alike_seen i (Some g) e w same = alike_put vs h j v at live w i g same (alike_now i g (sym e))

    flat_by : (i : ℕ) (new : Form) → IsAlike vs i new → (x n : ℕ) → form z W i ≡ x → (b : Bool) → AreSeenAlike
        (set vs j (learned_all (cond b (record (freeze_form v n new) { forms = insert v.forms i new }) (seen_form v i (form_of x)))))
    flat_by i new alike x n e true = alike_put vs h j v at live (learned_all (record (freeze_form v n new) { forms = insert v.forms i new })) i new refl alike
    flat_by i new alike x n e false = alike_seen i (form_of x) (ap form_of (sym e)) (learned_all (seen_form v i (form_of x))) refl

    pub alike_flattened : (i : ℕ) (old new : Form) → IsAlike vs i new → (x : ℕ) → form z W i ≡ x → AreSeenAlike (set vs j (learned_all (flattened v i old new x)))
    alike_flattened i old new alike x e = flat_by i new alike x (length (unwrap_or (get v.units i) [])) e (eqb x (word_of old))

    thin_by : (i t x : ℕ) → form z W i ≡ x → (b : Bool) → AreSeenAlike (set vs j (learned_all (seen_form v i (cond b (Some (Thin t)) (form_of x)))))
    thin_by i t x e true = alike_put vs h j v at live (learned_all (seen_form v i (Some (Thin t)))) i (Thin t) refl (λ k u a l g c. tt)
    thin_by i t x e false = alike_seen i (form_of x) (ap form_of (sym e)) (learned_all (seen_form v i (form_of x))) refl

    pub alike_thinned : (i t : ℕ) (old : Form) (x : ℕ) → form z W i ≡ x → AreSeenAlike (set vs j (learned_all (thinned v i old t x)))
    alike_thinned i t old x e = thin_by i t x e (eqb x (word_of old))

-- the first view has seen nothing
pub alike_first : (v : View) → v.forms ≡ empty → AreSeenAlike (v ∷ [])
alike_first v e zero u a l q x b m i f g c d =
    let is : v ≡ u = some-injective v u a in absurd (nothing_has i f (subst (λ (y : FinMap nat_cmp Form). Has y i f) (ap (λ (y : View). y.forms) (sym is) ∙ e) c))
alike_first v e (suc k) u a l q x b m i f g c d = absurd (some-ne-none u (sym a))
