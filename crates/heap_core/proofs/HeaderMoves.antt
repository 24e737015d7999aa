-- What the two compare-exchanges of a header do to the machine, as plain data. P says where such a step may come, and F what it makes of the view.
use Rattle.std.proofs.Common.{◌≡◌, ℕ, ◌<◌, Bool, true, false, cond, eqb, List, [], length, get_or, set, sym, refl, ap, ◌∙◌, subst, arith, IsTrue, Option, Some, None, Result, Ok, Err}
use Rattle.std.specs.Prelude.{unwrap_or}
use mathlib.Core.Option.{some-injective}
use Rattle.std.specs.FinMap.{get, insert}
use Rattle.js_header.specs.Form.{IsInRange, form_of, word_of}
use Rattle.js_header.proofs.RoundTrip.{word_of-form_of}
use Rattle.js_header.specs.declared.form.Form.{Form}
use Rattle.js_header.specs.declared.form.Form.TheVariants.{Unborn, Flat, Cons, Sliced, Thin}
use Rattle.heap_rule.specs.declared.view.View.{View}
use Rattle.heap_rule.specs.Layout.{IsLawfulSize, IsBorn, form, form_at}
use Rattle.heap_rule.specs.Maps.{Has}
use Rattle.heap_rule.specs.Births.{freeze_form}
use Rattle.heap_rule.specs.Learning.{learned, MayLearn}
use Rattle.heap_rule.specs.HeaderMoves.{seen_form, MayFlatten, flattened, MayThin, thinned}
use Rattle.heap_rule.specs.Kinds.{KeepsRule, flatten, thin, word_left, access_of}
use Rattle.heap_rule.specs.Sound.{At, AreStanding, IsSound, KnowsForm}
use Rattle.heap_rule.specs.Agents.{spent}
use Rattle.heap_core_views.specs.declared.load.Load.{Load}
use Rattle.heap_core_views.specs.Loading.{loaded_by, HasRoom}
use Rattle.heap_core_births.specs.Moving.{IsSameOrLater}
use Rattle.heap_core.specs.Core.{Core, core}
use Rattle.heap_core.specs.Events.{IsCore, IsSoundCore, LiveIn, view_at, stored, looked, exchanged, CanMove, after_move}
use Rattle.heap_rule.proofs.ListLemmas.{at_index, set_there}
use Rattle.heap_rule.proofs.KindsKept.{kinds_keep}
use Rattle.heap_core.proofs.LoadSteps.{room_of}
use Rattle.heap_core.proofs.StateLemmas.{sound_of, live_tells, Tells}

-- a view stays live
flat_live : (v : View) (i n : ℕ) (new : Form) → (freeze_form v n new).live ≡ v.live
flat_live v i n (Flat a b c) = refl
flat_live v i n Unborn = refl
flat_live v i n (Cons a b c) = refl
flat_live v i n (Sliced a b c) = refl
flat_live v i n (Thin a) = refl

seen_live : (v : View) (i : ℕ) (o : Option Form) → (seen_form v i o).live ≡ v.live
seen_live v i None = refl
seen_live v i (Some f) = refl

either_live : (v : View) (i n : ℕ) (new : Form) (o : Option Form) (b : Bool) → (cond b (record (freeze_form v n new) { forms = insert v.forms i new }) (seen_form v i o)).live ≡ v.live
either_live v i n new o true = flat_live v i n new
either_live v i n new o false = seen_live v i o

module _ (s : Core) (h : IsCore s) (j i : ℕ) where
  abbrev found : ℕ
  found = form s.size s.words i

  -- what is known of the form that was seen
  known : (old : Form) → LiveIn s.views j (λ v. Has v.forms i old) → KnowsForm s.size s.words s.views i old
  known old t = let g : IsSoundCore s = sound_of s j (λ v. Has v.forms i old) h t in (g.knows j t.0 t.1 t.2).of_forms i old t.3

  pub move_stands : (old : Form) → LiveIn s.views j (λ v. Has v.forms i old) → AreStanding s.size s.words × IsBorn s.size s.words i
  move_stands old t = let g : IsSoundCore s = sound_of s j (λ v. Has v.forms i old) h t in ((s.views, g.standing), (known old t).born)

  pub move_stays : (old stands : Form) → LiveIn s.views j (λ v. Has v.forms i old) → form_of found ≡ Some stands → IsSameOrLater old stands
  move_stays old stands t e = let k = known old t in let same : k.now ≡ stands = (let d : Some k.now ≡ Some stands = sym k.decodes ∙ e in cc) in subst (IsSameOrLater old) same k.later

  pub move_inside : (old : Form) → LiveIn s.views j (λ v. Has v.forms i old) → IsLawfulSize s.size × (i < s.size.ids) × (form_at s.size i < length s.words)
  move_inside old t = let g : IsSoundCore s = sound_of s j (λ v. Has v.forms i old) h t in let b = (known old t).born.0 in let n = g.counted.long in (g.lawful, b, omega arith)

  module _ (P : View → Type 0) (F : View → ℕ → View) where
    -- the rule holds after such a step that learns nothing
    abbrev pub Turns : Type 0
    Turns = (v : View) → At s.views j v → v.live ≡ true → P v → ((F v found).live ≡ true) × ((W : List ℕ) × IsSound s.size s.agents W (set s.views j (F v found)))

    pub move_not_may : (names : List ℕ) (v : View) → At s.views j v × (v.live ≡ true) → (P v → IsTrue false) → Tells false (CanMove s j i P F names)
    move_not_may names v is not = ((λ (e : false ≡ true). absurd (cc)), (λ t. not (subst P (some-injective t.0 v (sym t.1 ∙ is.0)) t.3.0)))

    -- what is added where the word that stands is found
    seen_by : (l : Load) (v : View) (stands : Form) → form_of found ≡ Some stands → loaded_by v l ≡ F v (word_of stands) → loaded_by v l ≡ F v found
    seen_by l v stands e is = is ∙ ap (F v) (word_of-form_of found stands e)

    pub room_by : (each : Turns) (l : Load) (stands : Form) (t : LiveIn s.views j P) → form_of found ≡ Some stands → loaded_by t.0 l ≡ F t.0 (word_of stands) → HasRoom (loaded_by t.0 l)
    room_by each l stands t e is = let k = each t.0 t.1 t.2 t.3 in
        subst HasRoom (sym (seen_by l t.0 stands e is)) (room_of s.size s.agents k.1.0 (set s.views j (F t.0 found)) k.1.1 j (F t.0 found) (set_there s.views j (F t.0 found) t.0 t.1) k.0)

    pub move_room : (each : Turns) (l : Load) (stands : Form) (v : View) (t : LiveIn s.views j P) → v ≡ t.0 → form_of found ≡ Some stands →
        loaded_by v l ≡ F v (word_of stands) → HasRoom (loaded_by v l)
    move_room each l stands v t is e seen = subst (λ (y : View). HasRoom (loaded_by y l)) (sym is) (room_by each l stands t e (subst (λ (y : View). loaded_by y l ≡ F y (word_of stands)) is seen))

    pub move_tells : (names : List ℕ) (l : Load) (stands : Form) (b : Bool) (t : LiveIn s.views j P) → form_of found ≡ Some stands → loaded_by t.0 l ≡ F t.0 (word_of stands)
        → Tells b (MayLearn (loaded_by t.0 l) names) → Tells b (CanMove s j i P F names)
    move_tells names l stands b t e is test = let seen : loaded_by t.0 l ≡ F t.0 found = seen_by l t.0 stands e is in
        live_tells s.views j (λ v. P v × MayLearn (F v found) names) t.0 b (t.1, t.2) (
          (λ q. (t.3, subst (λ (y : View). MayLearn y names) seen (test.0 q))),
          (λ p. test.1 (subst (λ (y : View). MayLearn y names) (sym seen) p.1)),
        )

    pub move_became : (old new stands : Form) (names : List ℕ) (l : Load) (t u : Core) (x : ℕ) → form_of found ≡ Some stands → loaded_by (view_at s j) l ≡ F (view_at s j) (word_of stands)
        → u ≡ looked s j (learned (loaded_by (view_at s j) l) names) → t ≡ stored u (form_at u.size i)
        (exchanged u (form_at u.size i) (word_of old) (word_of new)) → x ≡ get_or u.words (form_at u.size i) 0
        → (t ≡ after_move s j i old new F names) × (x ≡ found)
    move_became old new stands names l t u x e is seen left here =
        let same : u ≡ looked s j (learned (F (view_at s j) found) names) = seen ∙ ap (λ (y : View). looked s j (learned y names))
        (seen_by l (view_at s j) stands e is) in
        (left ∙ ap (λ (y : Core). stored y (form_at y.size i) (exchanged y (form_at y.size i) (word_of old) (word_of new))) same, here ∙ ap (λ (y : Core). get_or y.words (form_at y.size i) 0) same)

  -- the two
  pub flatten_turns : (old new : Form) → Turns (λ v. MayFlatten v i old new) (λ v x. flattened v i old new x)
  flatten_turns old new v at live may = let g : IsSoundCore s = sound_of s j (λ v. MayFlatten v i old new) h (v, at, live, may) in
      let k : KeepsRule s.size s.agents s.words (set s.words (form_at s.size i) (word_left (access_of (flatten i old new)) found))
      (set s.views j (learned (flattened v i old new found) [])) = kinds_keep s.size s.agents s.words s.views j v (flatten i old new) [] g at live may in (
        either_live v i (length (unwrap_or (get v.units i) [])) new (form_of found) (eqb found (word_of old)) ∙ live,
        (set s.words (form_at s.size i) (word_left (access_of (flatten i old new)) found), k.0),
      )

  pub thin_turns : (old : Form) (t : ℕ) → Turns (λ v. MayThin v i old t) (λ v x. thinned v i old t x)
  thin_turns old t v at live may = let g : IsSoundCore s = sound_of s j (λ v. MayThin v i old t) h (v, at, live, may) in
      let k : KeepsRule s.size s.agents s.words (set s.words (form_at s.size i) (word_left (access_of (thin i old t)) found))
      (set s.views j (learned (thinned v i old t found) [])) = kinds_keep s.size s.agents s.words s.views j v (thin i old t) [] g at live may in
      (seen_live v i (cond (eqb found (word_of old)) (Some (Thin t)) (form_of found)) ∙ live, (set s.words (form_at s.size i) (word_left (access_of (thin i old t)) found), k.0))

  -- the new forms are spelt by words
  pub thin_range : (old : Form) (t : ℕ) → LiveIn s.views j (λ v. MayThin v i old t) → IsInRange (Thin t)
  thin_range old t live = let g : IsSoundCore s = sound_of s j (λ v. MayThin v i old t) h live in let k = live.3.2 in let o = (g.knows j live.0 live.1 live.2).of_slots k.0 t k.1 in
      let b = (g.slots k.0 t o.0 o.1).born.0 in let z = g.lawful.1 in omega arith

pub flatten_range : (v : View) (i : ℕ) (old new : Form) → MayFlatten v i old new → IsInRange new
flatten_range v i old (Flat wide start false) may = may.2
flatten_range v i old (Flat wide start true) may = absurd may
flatten_range v i old Unborn may = absurd may
flatten_range v i old (Cons a b c) may = absurd may
flatten_range v i old (Sliced a b c) may = absurd may
flatten_range v i old (Thin a) may = absurd may

-- whatever the new form is, the old one was seen
pub flatten_seen : (v : View) (i : ℕ) (old new : Form) → MayFlatten v i old new → Has v.forms i old
flatten_seen v i old (Flat wide start false) may = may.0
flatten_seen v i old (Flat wide start true) may = absurd may
flatten_seen v i old Unborn may = absurd may
flatten_seen v i old (Cons a b c) may = absurd may
flatten_seen v i old (Sliced a b c) may = absurd may
flatten_seen v i old (Thin a) may = absurd may

pub flatten_live : (vs : List View) (j i : ℕ) (old new : Form) → LiveIn vs j (λ v. MayFlatten v i old new) → LiveIn vs j (λ v. Has v.forms i old)
flatten_live vs j i old new t = (t.0, t.1, t.2, flatten_seen t.0 i old new t.3)

pub thin_live : (vs : List View) (j i : ℕ) (old : Form) (target : ℕ) → LiveIn vs j (λ v. MayThin v i old target) → LiveIn vs j (λ v. Has v.forms i old)
thin_live vs j i old target t = (t.0, t.1, t.2, t.3.0)

-- what a compare-exchange of the form word leaves there
pub exchange_done : (s : Core) (i p n : ℕ) (old new stands : Form) → form_of (form s.size s.words i) ≡ Some stands → p ≡ form_at s.size i →
    n ≡ cond (eqb (word_of stands) (word_of old)) (word_of new) (word_of stands)
    → stored s p n ≡ stored s (form_at s.size i) (exchanged s (form_at s.size i) (word_of old) (word_of new))
exchange_done s i p n old new stands e place put = let word : word_of stands ≡ form s.size s.words i = word_of-form_of (form s.size s.words i) stands e in
    λ q. stored s (place q) ((put ∙ ap (λ (x : ℕ). cond (eqb x (word_of old)) (word_of new) x) word) q)
