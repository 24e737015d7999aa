-- What the executable loads do to the machine, as plain data.
use Rattle.std.proofs.Common.{◌≡◌, ℕ, ◌<◌, ◌≤◌, ⊎_elim, Bool, true, false, List, [], length, get_or, set, sym, ap, ◌∙◌, subst, arith, IsTrue, Some, Result, Ok, Err}
use mathlib.Core.Option.{some-injective}
use Rattle.js_units.specs.Lanes.{words_over}
use Rattle.js_header.specs.declared.form.Form.TheVariants.{Flat}
use Rattle.heap_rule.specs.declared.view.View.{View}
use Rattle.heap_core_views.specs.declared.load.Load.{Load}
use Rattle.heap_rule.specs.declared.size.HeapSize.{HeapSize}
use Rattle.heap_rule.specs.Layout.{IsLawfulSize, IsBorn, form, length_word, form_at, length_at, content_at, content}
use Rattle.heap_rule.specs.Views.{MayUse}
use Rattle.heap_rule.specs.Learning.{learned, MayLearn}
use Rattle.heap_rule.specs.Loads.{with_form, added_loads, loaded_form, loaded_length, MayLoadWord, loaded_word}
use Rattle.heap_core_views.specs.Loading.{loaded_by, HasRoom, IsRunCounted}
use Rattle.heap_core.specs.Headers.{IsHeaderLoad}
use Rattle.heap_rule.specs.Agents.{spent}
use Rattle.heap_rule.specs.Sound.{At, IsSound, AreStanding}
use Rattle.heap_core.specs.Core.{Core, core}
use Rattle.heap_core.specs.Events.{IsCore, IsSoundCore, LiveIn, view_at, header_at, header_seen, CanLoadHeader, CanLoadWord, after_load_header, after_load_word, looked}
use Rattle.heap_rule.proofs.MapLemmas.{has_key}
use Rattle.heap_rule.proofs.ListLemmas.{at_index, set_there}
use Rattle.heap_rule.proofs.Loading.{known_born, keeps_loaded_form}
use Rattle.heap_rule.proofs.Loads.{keeps_loaded_length, keeps_loaded_word, frozen_right}
use Rattle.heap_core.proofs.KnowingKept.{word_live}
use Rattle.heap_core.proofs.StateLemmas.{sound_of, Tells, live_tells}

some_words : (wide : Bool) (n : ℕ) → 1 ≤ n → 1 ≤ words_over wide n
some_words true n h = omega arith
some_words false n h = omega arith

-- in a sound state the lanes of every Flat that is known can be counted
pub room_of : (z : HeapSize) (agents : ℕ) (W : List ℕ) (vs : List View) (s : IsSound z agents W vs) (j : ℕ) (v : View) → At vs j v → v.live ≡ true → HasRoom v
room_of z agents W vs s j v at live i wide start fixed n f l h = let k = s.knows j v at live in
    let b = k.of_forms i (Flat wide start fixed) f in let e = (k.of_lengths i n l).1 in let short = (s.standing i b.born).short in
    let some : 1 ≤ words_over wide (length_word z W i) = some_words wide (length_word z W i) (omega arith) in
    let low = (b.shows.1 start (omega arith) (omega arith)).below in let most = s.counted.words_end in let small = s.lawful.3 in omega arith

-- a load of a header freezes nothing
pub header_run : (z : HeapSize) (W : List ℕ) (i : ℕ) (len : Bool) (l : Load) → IsHeaderLoad z W i len l → IsRunCounted l
header_run z W i true l e = subst IsRunCounted (sym e) tt
header_run z W i false l e = subst IsRunCounted (sym e.2) tt

module _ (s : Core) (h : IsCore s) (j : ℕ) where
  pub known_stands : (i : ℕ) → LiveIn s.views j (λ v. MayUse v i) → AreStanding s.size s.words × IsBorn s.size s.words i
  known_stands i t = let g : IsSoundCore s = sound_of s j (λ v. MayUse v i) h t in ((s.views, g.standing), known_born s.size s.agents s.words s.views g j t.0 t.1 t.2 i t.3)

  pub known_inside : (i : ℕ) → LiveIn s.views j (λ v. MayUse v i) → IsLawfulSize s.size × (i < s.size.ids) × (form_at s.size i < length s.words) × (length_at s.size i < length s.words)
  known_inside i t = let g : IsSoundCore s = sound_of s j (λ v. MayUse v i) h t in let b = (known_stands i t).1.0 in let n = g.counted.long in (g.lawful, b, omega arith, omega arith)

  pub header_is : (i : ℕ) (len : Bool) (l : Load) (v : View) → At s.views j v → IsHeaderLoad s.size s.words i len l → header_seen s j i len ≡ loaded_by v l
  header_is i true l v at e = (λ k. loaded_length (at_index s.views j v spent at k) i (length_word s.size s.words i)) ∙ ap (loaded_by v) (sym e)
  header_is i false l v at e = (λ k. record (with_form (at_index s.views j v spent at k) i (e.1 k)) {
    form_loads = added_loads
        (at_index s.views j v spent at k).form_loads 1;
  }) ∙ ap (loaded_by v) (sym e.2)

  pub header_room_by : (i : ℕ) (len : Bool) (l : Load) (t : LiveIn s.views j (λ v. MayUse v i)) → IsHeaderLoad s.size s.words i len l → HasRoom (loaded_by t.0 l)
  header_room_by i true l t e = let g : IsSoundCore s = sound_of s j (λ v. MayUse v i) h t in let v : View = t.0 in let w : View = loaded_length v i (length_word s.size s.words i) in
      subst (λ (q : Load). HasRoom (loaded_by v q)) (sym e)
      (room_of s.size s.agents s.words (set s.views j w) (keeps_loaded_length s.size s.agents s.words s.views g j v t.1 t.2 i t.3) j w (set_there s.views j w v t.1) t.2)
  header_room_by i false l t e = let g : IsSoundCore s = sound_of s j (λ v. MayUse v i) h t in let v : View = t.0 in let x : ℕ = form s.size s.words i in
      let w : View = record (with_form v i (Some e.0)) { form_loads = added_loads v.form_loads 1 } in
      let same : learned (loaded_form v i x) [] ≡ w = (λ k. learned (record (with_form v i (e.1 k)) { form_loads = added_loads v.form_loads 1 }) []) in
      let k : IsSound s.size s.agents s.words (set s.views j w) = subst (λ (u : View). IsSound s.size s.agents s.words (set s.views j u))
      same (keeps_loaded_form s.size s.agents s.words s.views g j v t.1 t.2 i t.3 []) in
      subst (λ (q : Load). HasRoom (loaded_by v q)) (sym e.2) (room_of s.size s.agents s.words (set s.views j w) k j w (set_there s.views j w v t.1) t.2)

  pub header_room : (i : ℕ) (len : Bool) (l : Load) (t : LiveIn s.views j (λ v. MayUse v i)) → IsHeaderLoad s.size s.words i len l → HasRoom (loaded_by (view_at s j) l)
  header_room i len l t e = subst (λ (u : View). HasRoom (loaded_by u l)) (sym (at_index s.views j t.0 spent t.1)) (header_room_by i len l t e)

  -- the answers of the test
  pub header_not_live : (i : ℕ) (len : Bool) (names : List ℕ) → (LiveIn s.views j (λ _. Unit {0}) → ⊥) → Tells false (CanLoadHeader s j i len names)
  header_not_live i len names not = ((λ (e : false ≡ true). absurd (cc)), (λ c. absurd (not (c.0.0, c.0.1, c.0.2, tt))))

  pub header_not_known : (i : ℕ) (len : Bool) (names : List ℕ) (v : View) → At s.views j v × (v.live ≡ true) → (MayUse v i → IsTrue false) → Tells false (CanLoadHeader s j i len names)
  header_not_known i len names v is not = ((λ (e : false ≡ true). absurd (cc)), (λ c. not (subst (λ (u : View). MayUse u i) (some-injective c.0.0 v (sym c.0.1 ∙ is.0)) c.0.3)))

  pub header_tells : (i : ℕ) (len : Bool) (names : List ℕ) (l : Load) (b : Bool) (t : LiveIn s.views j (λ v. MayUse v i)) → IsHeaderLoad
      s.size s.words i len l → Tells b (MayLearn (loaded_by t.0 l) names) → Tells b (CanLoadHeader s j i len names)
  header_tells i len names l b t e test = let is : header_seen s j i len ≡ loaded_by t.0 l = header_is i len l t.0 t.1 e in
      ((λ q. (t, subst (λ (u : View). MayLearn u names) (sym is) (test.0 q))), (λ c. test.1 (subst (λ (u : View). MayLearn u names) is c.1)))

  -- what a load leaves
  pub header_became : (i : ℕ) (len : Bool) (names : List ℕ) (l : Load) (p x : ℕ) (t : Core) → LiveIn s.views j (λ v. MayUse v i) →
      IsHeaderLoad s.size s.words i len l → p ≡ header_at s.size i len → x ≡ get_or s.words p 0
      → t ≡ looked s j (learned (loaded_by (view_at s j) l) names) → (t ≡ after_load_header s j i len names) × (x ≡ get_or s.words (header_at s.size i len) 0)
  header_became i len names l p x t live e place found is =
      let same : loaded_by (view_at s j) l ≡ header_seen s j i len = ap (λ (v : View). loaded_by v l) (at_index s.views j live.0 spent live.1)
      ∙ sym (header_is i len l live.0 live.1 e) in
      (is ∙ ap (λ (v : View). looked s j (learned v names)) same, found ∙ ap (λ (q : ℕ). get_or s.words q 0) place)

  pub place_inside : (i : ℕ) (len : Bool) (p : ℕ) → LiveIn s.views j (λ v. MayUse v i) → p ≡ header_at s.size i len → p < length s.words
  place_inside i true p t e = let l = (known_inside i t).3 in omega arith
  place_inside i false p t e = let l = (known_inside i t).2 in omega arith

  -- the same for a content word
  pub word_inside : (c : ℕ) → LiveIn s.views j (λ v. MayLoadWord v c) → IsLawfulSize s.size × (c < s.size.words) × (content_at s.size c < length s.words)
  word_inside c t = let g : IsSoundCore s = sound_of s j (λ v. MayLoadWord v c) h t in let v : View = t.0 in let end = g.counted.words_end in let n = g.counted.long in
      let low : c < s.size.words = ⊎_elim (λ k. let p = has_key v.own_words c k in let o = ((g.own_words j v t.1 t.2).each c p.0 p.1).0 in omega arith)
      (λ f. let b = (frozen_right s.size s.words s.views g.standing v (g.knows j v t.1 t.2) c f).below in omega arith) t.3 in (g.lawful, low, omega arith)

  pub word_room_by : (c x : ℕ) (l : Load) (t : LiveIn s.views j (λ v. MayLoadWord v c)) → x ≡ content s.size s.words c → loaded_by t.0 l ≡ loaded_word t.0 c x → HasRoom (loaded_by t.0 l)
  word_room_by c x l t found e = let g : IsSoundCore s = sound_of s j (λ v. MayLoadWord v c) h t in let w : View = loaded_word t.0 c (content s.size s.words c) in
      let live : w.live ≡ true = word_live t.0 c (content s.size s.words c) t.2 in
      subst HasRoom (sym (e ∙ ap (loaded_word t.0 c) found)) (room_of s.size s.agents s.words (set s.views j w)
      (keeps_loaded_word s.size s.agents s.words s.views g j t.0 t.1 t.2 c t.3) j w (set_there s.views j w t.0 t.1) live)

  -- the word that is found
  pub word_found : (c p x : ℕ) → p ≡ content_at s.size c → x ≡ get_or s.words p 0 → x ≡ content s.size s.words c
  word_found c p x place found = found ∙ ap (λ (q : ℕ). get_or s.words q 0) place

  pub word_room : (c x : ℕ) (l : Load) (v : View) (t : LiveIn s.views j (λ v. MayLoadWord v c)) → v ≡ t.0 → x ≡ content s.size s.words c → loaded_by v l ≡ loaded_word v c x → HasRoom (loaded_by v l)
  word_room c x l v t is found e = subst (λ (u : View). HasRoom (loaded_by u l)) (sym is) (word_room_by c x l t found (subst (λ (u : View). loaded_by u l ≡ loaded_word u c x) is e))

  pub word_not_live : (c : ℕ) (names : List ℕ) → (LiveIn s.views j (λ _. Unit {0}) → ⊥) → Tells false (CanLoadWord s j c names)
  word_not_live c names not = ((λ (e : false ≡ true). absurd (cc)), (λ t. absurd (not (t.0, t.1, t.2, tt))))

  pub word_not_known : (c : ℕ) (names : List ℕ) (v : View) → At s.views j v × (v.live ≡ true) → (MayLoadWord v c → IsTrue false) → Tells false (CanLoadWord s j c names)
  word_not_known c names v is not = ((λ (e : false ≡ true). absurd (cc)), (λ t. not (subst (λ (u : View). MayLoadWord u c) (some-injective t.0 v (sym t.1 ∙ is.0)) t.3.0)))

  pub word_tells : (c x : ℕ) (names : List ℕ) (l : Load) (b : Bool) (t : LiveIn s.views j (λ v. MayLoadWord v c)) → x ≡ content s.size s.words c → loaded_by t.0 l ≡ loaded_word t.0 c x
      → Tells b (MayLearn (loaded_by t.0 l) names) → Tells b (CanLoadWord s j c names)
  word_tells c x names l b t found e test = let is : loaded_by t.0 l ≡ loaded_word t.0 c (content s.size s.words c) = e ∙ ap (loaded_word t.0 c) found in
      live_tells s.views j (λ v. MayLoadWord v c × MayLearn (loaded_word v c (content s.size s.words c)) names) t.0 b (t.1, t.2) (
        (λ q. (t.3, subst (λ (y : View). MayLearn y names) is (test.0 q))),
        (λ p. test.1 (subst (λ (y : View). MayLearn y names) (sym is) p.1)),
      )

  pub may_word : (c : ℕ) (names : List ℕ) → CanLoadWord s j c names → LiveIn s.views j (λ v. MayLoadWord v c)
  may_word c names t = (t.0, t.1, t.2, t.3.0)

  pub word_became : (c x : ℕ) (names : List ℕ) (l : Load) (t : Core) → x ≡ content s.size s.words c → loaded_by (view_at s j) l ≡
      loaded_word (view_at s j) c x → t ≡ looked s j (learned (loaded_by (view_at s j) l) names)
      → (t ≡ after_load_word s j c names) × (x ≡ get_or s.words (content_at s.size c) 0)
  word_became c x names l t found e is = (is ∙ ap (λ (v : View). looked s j (learned v names)) (e ∙ ap (loaded_word (view_at s j) c) found), found)
