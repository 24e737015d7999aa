-- Each kind of step keeps the rule and the units of every born id.
use Rattle.std.proofs.Common.{◌≡◌, ℕ, zero, suc, ◌+◌, ◌<◌, Bool, true, false, cond, List, [], ◌∷◌, ◌++◌, length, get_or, set, eqb, eqb-true, ne_eqb, arith}
use Rattle.std.proofs.Common.{Option, Some, None, sym, refl, ap, ◌∙◌, subst}
use Rattle.std.specs.Prelude.{unwrap_or}
use Rattle.std.proofs.lemmas.List.{set-get_or}
use Rattle.std.specs.FinMap.{get, insert, contains_key}
use Rattle.js_units.specs.Lanes.{words_over}
use Rattle.js_header.specs.Form.{word_of, form_of}
use Rattle.js_header.specs.declared.form.Form.{Form}
use Rattle.js_header.specs.declared.form.Form.TheVariants.{Unborn, Flat, Cons, Sliced, Thin}
use Rattle.heap_rule.specs.declared.view.View.{View}
use Rattle.heap_rule.specs.declared.size.HeapSize.{HeapSize}
use Rattle.heap_rule.specs.declared.size.Counter.{Counter}
use Rattle.heap_rule.specs.declared.size.Counter.TheVariants.{Ids, Words}
use Rattle.heap_rule.specs.Layout.{counter_at, content_at, form_at, length_at, slot_at}
use Rattle.heap_rule.specs.Maps.{Has, HasKey}
use Rattle.heap_rule.specs.Paths.{rank}
use Rattle.heap_rule.specs.Views.{MayUse}
use Rattle.heap_rule.specs.Claims.{loaded_counter, MayClaim, won_claim}
use Rattle.heap_rule.specs.Births.{freeze, stored_word, MayStoreLength, stored_length, FormFits, MayBear, born_with, born}
use Rattle.heap_rule.specs.Learning.{learned}
use Rattle.heap_rule.specs.Loads.{with_form, loaded_form, loaded_length, MayLoadWord, loaded_word}
use Rattle.heap_rule.specs.HeaderMoves.{seen_form, MayFlatten, flattened, MayThin}
use Rattle.heap_rule.specs.Slots.{with_slot, MayEnter, loaded_slot, Differs, MayTakeSlot, took_slot}
use Rattle.heap_rule.specs.Sound.{At, IsSound}
use Rattle.heap_rule.specs.Kinds.{StepKind, load_counter, claim, store_word, store_length, birth, load_form, load_length, load_word, flatten, thin, load_slot}
use Rattle.heap_rule.specs.Kinds.{take_slot, MayCome, place_of, access_of, word_left, view_after, KeepsRule, KindsKeep}
use Rattle.heap_rule.proofs.ListLemmas.{set_there}
use Rattle.heap_rule.proofs.Agreement.{Agrees, born_then, units_stay}
use Rattle.heap_rule.proofs.Steps.{keeps_loaded_counter, keeps_won_claim, agrees_won_claim, keeps_stored_word, agrees_stored_word, keeps_stored_length, agrees_stored_length, sizes_are}
use Rattle.heap_rule.proofs.Birth.{keeps_birth}
use Rattle.heap_rule.proofs.Birth as flat_birth
use Rattle.heap_rule.proofs.RopeBirth.{keeps_cons_birth, agrees_cons_birth, keeps_sliced_birth, agrees_sliced_birth}
use Rattle.heap_rule.proofs.Loading.{keeps_loaded_form}
use Rattle.heap_rule.proofs.Loads.{keeps_loaded_length, keeps_loaded_word}
use Rattle.heap_rule.proofs.Splitting.{set_twice, keeps_learned}
use Rattle.heap_rule.proofs.Flattening.{keeps_flattening, agrees_flattening}
use Rattle.heap_rule.proofs.Thinning.{keeps_thinning, agrees_thinning}
use Rattle.heap_rule.proofs.Slots.{keeps_took_slot, agrees_took_slot}
use Rattle.heap_rule.proofs.Seen.{keeps_seen_form, keeps_loaded_slot, keeps_with_slot}

-- what is live stays live
claim_live : (v : View) (k : Counter) (a n x : ℕ) (b : Bool) → (cond b (won_claim v k a n) (loaded_counter v k x)).live ≡ v.live
claim_live v Ids a n x true = refl
claim_live v Words a n x true = refl
claim_live v k a n x false = refl

seen_live : (v : View) (i : ℕ) (o : Option Form) → (seen_form v i o).live ≡ v.live
seen_live v i None = refl
seen_live v i (Some f) = refl

form_live : (v : View) (i : ℕ) (o : Option Form) → (with_form v i o).live ≡ v.live
form_live v i None = refl
form_live v i (Some f) = refl

word_live : (v : View) (c x : ℕ) (b : Bool) → (cond b v (record v { frozen = insert v.frozen c x })).live ≡ v.live
word_live v c x true = refl
word_live v c x false = refl

slot_live : (v : View) (k : ℕ) (entry : Option (List ℕ)) (x : ℕ) → (loaded_slot v k entry x).live ≡ v.live
slot_live v k entry zero = refl
slot_live v k entry (suc i) = refl

with_slot_live : (v : View) (k x : ℕ) → (with_slot v k x).live ≡ v.live
with_slot_live v k zero = refl
with_slot_live v k (suc i) = refl

module _ (z : HeapSize) (agents : ℕ) (W : List ℕ) (vs : List View) (s : IsSound z agents W vs) (j : ℕ) (v : View) (at : At vs j v) (live : v.live ≡ true) where
  -- a step that changes no word
  pub still : (vs' : List View) → IsSound z agents W vs' → KeepsRule z agents W W vs'
  still vs' h = (h, λ i b. (b, refl))

  -- a load, or a compare-exchange that fails, leaves the word as it is
  pub same_word : (p : ℕ) (vs' : List View) → KeepsRule z agents W W vs' → KeepsRule z agents W (set W p (get_or W p 0)) vs'
  same_word p vs' h = subst (λ (ws : List ℕ). KeepsRule z agents W ws vs') (sym (set-get_or W p 0)) h

  pub by_agrees : (W' : List ℕ) (vs' : List View) → Agrees z W vs W' vs' → IsSound z agents W' vs' → KeepsRule z agents W W' vs'
  by_agrees W' vs' a h = (h, λ i b. (born_then z W vs s.standing W' vs' a i b, units_stay z W vs s.standing W' vs' a i b))

  -- what is learned comes on top
  pub then_learns : (W' : List ℕ) (w : View) (names : List ℕ) → w.live ≡ true → KeepsRule z agents W W' (set vs j w) → KeepsRule z agents W W' (set vs j (learned w names))
  then_learns W' w names l h = (subst (IsSound z agents W') (set_twice vs j w (learned w names)) (keeps_learned z agents W' (set vs j w) h.0 j w (set_there vs j w v at) l names), h.1)

  -- counters
  pub counter_kept : (k : Counter) → KeepsRule z agents W W (set vs j (loaded_counter v k (get_or W (counter_at k) 0)))
  counter_kept k = still (set vs j (loaded_counter v k (get_or W (counter_at k) 0))) (keeps_loaded_counter z agents W vs s j v at live k (get_or W (counter_at k) 0) refl)

  pub claim_by : (k : Counter) (a want : ℕ) (b : Bool) → MayClaim v k a want → (b ≡ true → get_or W (counter_at k) 0 ≡ a)
      → KeepsRule z agents W (set W (counter_at k) (cond b (a + want) (get_or W (counter_at k) 0))) (set vs j (cond b (won_claim v k a want) (loaded_counter v k (get_or W (counter_at k) 0))))
  claim_by k a want true may won = by_agrees (set W (counter_at k) (a + want)) (set vs j (won_claim v k a want))
      (agrees_won_claim z agents W vs s j v at live k a want (sym (won refl))) (keeps_won_claim z agents W vs s j v at live k a want may.1 (sym (won refl)))
  claim_by k a want false may won = same_word (counter_at k) (set vs j (loaded_counter v k (get_or W (counter_at k) 0))) (counter_kept k)

  -- stores to what is own, and births
  pub word_stored : (c n : ℕ) → HasKey v.own_words c → KeepsRule z agents W (set W (content_at z c) n) (set vs j (stored_word v c n))
  word_stored c n own = by_agrees (set W (content_at z c) n) (set vs j (stored_word v c n))
      (agrees_stored_word z agents W vs s j v at live c n own) (keeps_stored_word z agents W vs s j v at live c n own)

  pub length_stored : (i n : ℕ) → MayStoreLength v i n → KeepsRule z agents W (set W (length_at z i) n) (set vs j (stored_length v i n))
  length_stored i n may = by_agrees (set W (length_at z i) n) (set vs j (stored_length v i n))
      (agrees_stored_length z agents W vs s j v at live i n may.0) (keeps_stored_length z agents W vs s j v at live i n may)

  pub birth_by : (i n : ℕ) (f : Form) → Has v.own_ids i n → FormFits v i n f → KeepsRule z agents W (set W (form_at z i) (word_of f)) (set vs j (born_with v i n f))
  birth_by i n (Flat wide start fixed) own fits = by_agrees _ _ (flat_birth.agrees z agents W vs s j v at live i n own wide start fixed
      fits) (keeps_birth z agents W vs s j v at live i n own wide start fixed fits)
  birth_by i n (Cons wide left right) own fits = by_agrees _ _ (agrees_cons_birth z agents W vs s j v at live i n own wide left right fits)
      (keeps_cons_birth z agents W vs s j v at live i n own wide left right fits)
  birth_by i n (Sliced wide parent offset) own fits = by_agrees _ _ (agrees_sliced_birth z agents W vs s j v at live i n own wide parent
      offset fits) (keeps_sliced_birth z agents W vs s j v at live i n own wide parent offset fits)
  birth_by i n Unborn own fits = absurd fits
  birth_by i n (Thin t) own fits = absurd fits

  birth_live : (i n : ℕ) (f : Form) → FormFits v i n f → (born_with v i n f).live ≡ true
  birth_live i n (Flat wide start fixed) fits = live
  birth_live i n (Cons wide left right) fits = live
  birth_live i n (Sliced wide parent offset) fits = live
  birth_live i n Unborn fits = absurd fits
  birth_live i n (Thin t) fits = absurd fits

  birth_kept : (i : ℕ) (f : Form) (names : List ℕ) → MayBear v i f → KeepsRule z agents W (set W (form_at z i) (word_of f)) (set vs j (learned (born v i f) names))
  birth_kept i f names (n, own, fits) = let is : born v i f ≡ born_with v i n f = ap (λ (o : Option ℕ). born_with v i (unwrap_or o 0) f) own in
      subst (λ (w : View). KeepsRule z agents W (set W (form_at z i) (word_of f)) (set vs j (learned w names))) (sym is)
      (then_learns (set W (form_at z i) (word_of f)) (born_with v i n f) names (birth_live i n f fits) (birth_by i n f own fits))

  -- loads of headers and content words
  pub form_loaded : (i : ℕ) (names : List ℕ) → MayUse v i → KeepsRule z agents W W (set vs j (learned (loaded_form v i (get_or W (form_at z i) 0)) names))
  form_loaded i names known = still (set vs j (learned (loaded_form v i (get_or W (form_at z i) 0)) names)) (keeps_loaded_form z agents W vs s j v at live i known names)

  pub length_loaded : (i : ℕ) (names : List ℕ) → MayUse v i → KeepsRule z agents W W (set vs j (learned (loaded_length v i (get_or W (length_at z i) 0)) names))
  length_loaded i names known = let w : View = loaded_length v i (get_or W (length_at z i) 0) in then_learns W w names live
      (still (set vs j w) (keeps_loaded_length z agents W vs s j v at live i known))

  pub word_loaded : (c : ℕ) (names : List ℕ) → MayLoadWord v c → KeepsRule z agents W W (set vs j (learned (loaded_word v c (get_or W (content_at z c) 0)) names))
  word_loaded c names may = let x : ℕ = get_or W (content_at z c) 0 in
      then_learns W (loaded_word v c x) names (word_live v c x (contains_key v.own_words c) ∙ live) (still (set vs j (loaded_word v c x)) (keeps_loaded_word z agents W vs s j v at live c may))

  -- a compare-exchange of a header that fails
  pub lost_header : (i : ℕ) (old : Form) (names : List ℕ) → Has v.forms i old
      → KeepsRule z agents W (set W (form_at z i) (get_or W (form_at z i) 0)) (set vs j (learned (seen_form v i (form_of (get_or W (form_at z i) 0))) names))
  lost_header i old names has = let x : ℕ = get_or W (form_at z i) 0 in let w : View = seen_form v i (form_of x) in
      same_word (form_at z i) (set vs j (learned w names)) (then_learns W w names (seen_live v i (form_of x) ∙ live) (still (set vs j w) (keeps_seen_form z agents W vs s j v at live i old has)))

  -- flattening; b says whether the Cons was found
  pub flatten_by : (i : ℕ) (old : Form) (wide : Bool) (start : ℕ) (names : List ℕ) (b : Bool) → MayFlatten v i old (Flat wide start false) → (b ≡ true → get_or W (form_at z i) 0 ≡ word_of old)
      → KeepsRule z agents W (set W (form_at z i) (cond b (word_of (Flat wide start false)) (get_or W (form_at z i) 0)))
      (set vs j (learned (cond b (record (freeze v start (words_over wide (length (unwrap_or (get v.units i) [])))) {
        forms = insert v.forms
            i (Flat wide start false);
      }) (seen_form v i (form_of (get_or W (form_at z i) 0)))) names))
  flatten_by i old wide start names true may hit = let f : Form = Flat wide start false in let r = may.3 in let us : List ℕ = r.0 in let W' : List ℕ = set W (form_at z i) (word_of f) in
      let w : View = record (freeze v start (words_over wide (length us))) { forms = insert v.forms i f } in
      subst (λ (o : Option (List ℕ)). KeepsRule z agents W W' (set vs j (learned (record (freeze v start (words_over wide (length (unwrap_or o [])))) { forms = insert v.forms i f }) names))) (sym r.1)
      (then_learns W' w names live (by_agrees W' (set vs j w)
      (agrees_flattening z agents W vs s j v at live i old may.0 may.1 (hit refl) us r.1 wide start may.2 r.2 r.3 r.4)
      (keeps_flattening z agents W vs s j v at live i old may.0 may.1 (hit refl) us r.1 wide start may.2 r.2 r.3 r.4)))
  flatten_by i old wide start names false may hit = lost_header i old names may.0

  flatten_kept : (i : ℕ) (old new : Form) (names : List ℕ) → MayFlatten v i old new
      → KeepsRule z agents W (set W (form_at z i) (word_left (access_of (flatten i old new)) (get_or W (form_at z i) 0))) (set vs j (learned (flattened v i old new (get_or W (form_at z i) 0)) names))
  flatten_kept i old (Flat wide start false) names may = flatten_by i old wide start names (eqb (get_or W (form_at z i) 0) (word_of old)) may (eqb-true (get_or W (form_at z i) 0) (word_of old))
  flatten_kept i old (Flat wide start true) names may = absurd may
  flatten_kept i old Unborn names may = absurd may
  flatten_kept i old (Cons a b c) names may = absurd may
  flatten_kept i old (Sliced a b c) names may = absurd may
  flatten_kept i old (Thin a) names may = absurd may

  -- thinning; b says whether the old form was found
  pub thin_by : (i : ℕ) (old : Form) (t : ℕ) (names : List ℕ) (b : Bool) → MayThin v i old t → (b ≡ true → get_or W (form_at z i) 0 ≡ word_of old)
      → KeepsRule z agents W (set W (form_at z i) (cond b (word_of (Thin t)) (get_or W (form_at z i) 0)))
      (set vs j (learned (seen_form v i (cond b (Some (Thin t)) (form_of (get_or W (form_at z i) 0)))) names))
  thin_by i old t names true may hit = let k = may.2 in let u = may.3 in let W' : List ℕ = set W (form_at z i) (word_of (Thin t)) in let w : View = record v { forms = insert v.forms i (Thin t) } in
      then_learns W' w names live (by_agrees W' (set vs j w)
      (agrees_thinning z agents W vs s j v at live i t old may.0 may.1 (hit refl) k.0 k.1 u.0 u.1 u.2)
      (keeps_thinning z agents W vs s j v at live i t old may.0 may.1 (hit refl) k.0 k.1 u.0 u.1 u.2))
  thin_by i old t names false may hit = lost_header i old names may.0

  -- slots of the table; a claim finds 0, or a string
  pub slot_loaded : (k : ℕ) (entry : Option (List ℕ)) (names : List ℕ) → k < z.slots → MayEnter v k entry → KeepsRule z agents W W
      (set vs j (learned (loaded_slot v k entry (get_or W (slot_at z k) 0)) names))
  slot_loaded k entry names inside may = let w : View = loaded_slot v k entry (get_or W (slot_at z k) 0) in
      then_learns W w names (slot_live v k entry (get_or W (slot_at z k) 0) ∙ live) (still (set vs j w) (keeps_loaded_slot z agents W vs s j v at live k inside entry may))

  pub take_by : (k i : ℕ) (names : List ℕ) (x : ℕ) → k < z.slots → MayTakeSlot v k i → get_or W (slot_at z k) 0 ≡ x
      → KeepsRule z agents W (set W (slot_at z k) (cond (eqb x 0) (i + 1) x)) (set vs j (learned (took_slot v k i x) names))
  take_by k i names zero inside may free = let fixed = may.1 in let r = may.2 in let us : List ℕ = r.0 in let W' : List ℕ = set W (slot_at z k) (i + 1) in
      let w : View = record v { slots = insert v.slots k i; mine = v.mine ++ (us, i) ∷ [] } in
      let before = subst (λ (n : ℕ). (l : ℕ) → l < n → rank us n l < rank us n k → (t : ℕ) × Has v.slots l t × Differs v us t)
      (ap (λ (y : HeapSize). y.slots) (sizes_are z agents W vs s j v at live)) r.2 in
      subst (λ (o : Option (List ℕ)). KeepsRule z agents W W' (set vs j (learned (record v { slots = insert v.slots k i; mine = v.mine ++ (unwrap_or o [], i) ∷ [] }) names))) (sym r.1)
      (then_learns W' w names live (by_agrees W' (set vs j w)
      (agrees_took_slot z agents W vs s j v at live k i us inside fixed.0 fixed.1 fixed.2 r.1 free before)
      (keeps_took_slot z agents W vs s j v at live k i us inside fixed.0 fixed.1 fixed.2 r.1 free before)))
  take_by k i names (suc q) inside may found = let p : ℕ = slot_at z k in let w : View = with_slot v k (suc q) in
      subst (λ (b : Bool). KeepsRule z agents W (set W p (cond b (i + 1) (suc q))) (set vs j (learned w names))) (sym (ne_eqb (suc q) 0 (λ e. omega arith)))
      (subst (λ (x : ℕ). KeepsRule z agents W (set W p x) (set vs j (learned w names))) found
      (same_word p (set vs j (learned w names)) (then_learns W w names live (still (set vs j w)
      (subst (λ (x : ℕ). IsSound z agents W (set vs j (with_slot v k x))) found (keeps_with_slot z agents W vs s j v at live k inside))))))

  -- every kind
  kind_kept : (e : StepKind) (names : List ℕ) → MayCome v e
      → KeepsRule z agents W (set W (place_of z e) (word_left (access_of e) (get_or W (place_of z e) 0))) (set vs j (learned (view_after v e (get_or W (place_of z e) 0)) names))
  kind_kept (load_counter k) names may = same_word (counter_at k) (set vs j
      (learned (loaded_counter v k (get_or W (counter_at k) 0)) names)) (then_learns W (loaded_counter v k (get_or W (counter_at k) 0)) names
      live (counter_kept k))
  kind_kept (claim k a want) names may = let x : ℕ = get_or W (counter_at k) 0 in
      then_learns (set W (counter_at k) (cond (eqb x a) (a + want) x)) (cond (eqb x a) (won_claim v k a want) (loaded_counter v k x)) names
      (claim_live v k a want x (eqb x a) ∙ live) (claim_by k a want (eqb x a) may (eqb-true x a))
  kind_kept (store_word c n) names may = then_learns (set W (content_at z c) n) (stored_word v c n) names live (word_stored c n may)
  kind_kept (store_length i n) names may = then_learns (set W (length_at z i) n) (stored_length v i n) names live (length_stored i n may)
  kind_kept (birth i f) names may = birth_kept i f names may
  kind_kept (load_form i) names may = same_word (form_at z i) (set vs j (learned (loaded_form v i (get_or W (form_at z i) 0)) names)) (form_loaded i names may)
  kind_kept (load_length i) names may = same_word (length_at z i) (set vs j (learned (loaded_length v i (get_or W (length_at z i) 0)) names)) (length_loaded i names may)
  kind_kept (load_word c) names may = same_word (content_at z c) (set vs j (learned (loaded_word v c (get_or W (content_at z c) 0)) names)) (word_loaded c names may)
  kind_kept (flatten i old new) names may = flatten_kept i old new names may
  kind_kept (thin i old t) names may = thin_by i old t names (eqb (get_or W (form_at z i) 0) (word_of old)) may (eqb-true (get_or W (form_at z i) 0) (word_of old))
  kind_kept (load_slot k entry) names may = same_word (slot_at z k) (set vs j (learned (loaded_slot v k entry (get_or W (slot_at z k) 0)) names))
      (slot_loaded k entry names (subst (λ (y : HeapSize). k < y.slots) (sizes_are z agents W vs s j v at live) may.0) may.1)
  kind_kept (take_slot k i) names may = take_by k i names (get_or W (slot_at z k) 0) (subst (λ (y : HeapSize). k < y.slots) (sizes_are z agents W vs s j v at live) may.0) may refl

pub kinds_keep : KindsKeep
kinds_keep z agents W vs j v e names s at live may = kind_kept z agents W vs s j v at live e names may
