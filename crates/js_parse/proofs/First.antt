-- One of the faults of a script's names is the first.
use Rattle.std.proofs.Common.{◌≡◌, ℕ, ◌≤◌, ◌<◌, Bool, true, false, cond, List, [], ◌∷◌, ◌++◌, ◌⊎◌, inl, inr, refl, sym, ap, ◌∙◌, subst, arith, Option, Some, None, option_map}
use Rattle.std.specs.Prelude.{nat_lt}
use Rattle.std.proofs.lemmas.Bool.{ltb-true, ltb-false}
use Rattle.eval_tree.specs.Tree.{Tree}
use Rattle.parse_syntax.specs.declared.token.GrammarToken.{GrammarToken}
use Rattle.parse_syntax.specs.Tables.{TokenTables}
use Rattle.js_parse.specs.Names.{Declaring, NameFault, Duplicate, LoopName, ProtoKey}
use Rattle.js_parse.specs.ProtoKeys.{HasProtoKey, here, later, is_proto}
use Rattle.js_parse.specs.declared.name_fault.NameFault.{NameFault as Told}
use Rattle.js_parse.specs.FirstFault.{fault_rank, HasNameFault, of_name, of_key, IsFirstFault, fault_of, TellsFirst}
use Rattle.js_parse.specs.NameFaults.{faults_of, key_first, opens_entry, proto_fault, proto_behind, proto_faults, earlier, least, offers}
use Rattle.js_parse.proofs.Faults.{In, in_left, in_right, apart, either, sound_among, complete_among}
use Rattle.js_lex.specs.declared.token.Mark.TheVariants.{Colon}
use Rattle.parse_syntax.specs.Terminals.{is_mark}

earlier_is : (f g : NameFault) → ((earlier f g ≡ f) ⊎ (earlier f g ≡ g)) × (fault_rank (earlier f g) ≤ fault_rank f) × (fault_rank (earlier f g) ≤ fault_rank g)
earlier_is f g = go (nat_lt (fault_rank g) (fault_rank f)) refl
  where
    go : (b : Bool) → nat_lt (fault_rank g) (fault_rank f) ≡ b → ((earlier f g ≡ f) ⊎ (earlier f g ≡ g)) × (fault_rank (earlier f g) ≤ fault_rank f) × (fault_rank (earlier f g) ≤ fault_rank g)
    go true e = let l : fault_rank g < fault_rank f = ltb-true (fault_rank g) (fault_rank f) e in
        let s : earlier f g ≡ g = rw e refl in (
          inr s,
          subst (λ h. fault_rank h ≤ fault_rank f) (sym s) (omega arith),
          subst
              (λ h. fault_rank h ≤ fault_rank g) (sym s) (omega arith),
        )
    go false e = let l : fault_rank f ≤ fault_rank g = ltb-false (fault_rank g) (fault_rank f) e in
        let s : earlier f g ≡ f = rw e refl in (
          inl s,
          subst (λ h. fault_rank h ≤ fault_rank f) (sym s) (omega arith),
          subst
              (λ h. fault_rank h ≤ fault_rank g) (sym s) (omega arith),
        )

least_in : (f : NameFault) (gs : List NameFault) → (least f gs ≡ f) ⊎ In (least f gs) gs
least_in f [] = inl refl
least_in f (g ∷ gs) = go (least_in (earlier f g) gs) (earlier_is f g).0
  where
    go : (least (earlier f g) gs ≡ earlier f g) ⊎ In (least (earlier f g) gs) gs → (earlier f g ≡ f) ⊎ (earlier f g ≡ g) → (least (earlier f g) gs ≡ f) ⊎ In (least (earlier f g) gs) (g ∷ gs)
    go (inl a) (inl b) = inl (a ∙ b)
    go (inl a) (inr b) = inr (inl (a ∙ b))
    go (inr h) b = inr (inr h)

least_head : (f : NameFault) (gs : List NameFault) → fault_rank (least f gs) ≤ fault_rank f
least_head f [] = omega arith
least_head f (g ∷ gs) = let a : fault_rank (least (earlier f g) gs) ≤ fault_rank (earlier f g) = least_head (earlier f g) gs in
    let b : fault_rank (earlier f g) ≤ fault_rank f = (earlier_is f g).1 in omega arith

least_first : (f : NameFault) (gs : List NameFault) (h : NameFault) → In h gs → fault_rank (least f gs) ≤ fault_rank h
least_first f [] h i = absurd i
least_first f (g ∷ gs) h (inl e) = let a : fault_rank (least (earlier f g) gs) ≤ fault_rank (earlier f g) = least_head (earlier f g) gs in
    let b : fault_rank (earlier f g) ≤ fault_rank g = (earlier_is f g).2 in let c : fault_rank h ≡ fault_rank g = ap fault_rank e in omega arith
least_first f (g ∷ gs) h (inr i) = least_first (earlier f g) gs h i

-- keys that are __proto__

opened : (o : Bool) (gs : List NameFault) (f : NameFault) → In f (cond o gs []) → (o ≡ true) × In f gs
opened true gs f i = (refl, i)
opened false gs f i = absurd i

only : (f g : NameFault) → In f (g ∷ []) → f ≡ g
only f g (inl e) = e
only f g (inr i) = absurd i

module _ (tables : TokenTables) where
  key_of : (b : GrammarToken) (ts : List GrammarToken) (f : NameFault) → opens_entry b ≡ true → In f (key_first tables ts) → (at : ℕ) × (f ≡ ProtoKey at) × HasProtoKey tables (b ∷ ts) at
  key_of b [] f o i = absurd i
  key_of b (k ∷ []) f o i = absurd i
  key_of b (k ∷ c ∷ ts) f o i =
      let q = opened (is_mark Colon c) (proto_fault tables k) f i in
      let p = opened (is_proto tables k) (ProtoKey k.at ∷ []) f q.1 in
      (k.at, only f (ProtoKey k.at) p.1, here b k c ts o p.0 q.0)

  key_sound : (ts : List GrammarToken) (f : NameFault) → In f (proto_faults tables ts) → (at : ℕ) × (f ≡ ProtoKey at) × HasProtoKey tables ts at
  key_sound [] f i = absurd i
  key_sound (b ∷ ts) f i = either (apart f (proto_behind tables b ts) (proto_faults tables ts) i)
      (λ j. let o = opened (opens_entry b) (key_first tables ts) f j in key_of b ts f o.0 o.1)
      (λ j. let r = key_sound ts f j in (r.0, r.1, later b ts r.0 r.2))

  key_complete : (ts : List GrammarToken) (at : ℕ) → HasProtoKey tables ts at → In (ProtoKey at) (proto_faults tables ts)
  key_complete _ _ (here b k c ts o p q) = in_left (ProtoKey k.at) (proto_behind tables b (k ∷ c ∷ ts)) (proto_faults tables (k ∷ c ∷ ts)) (rw (o, q, p) (inl refl))
  key_complete _ _ (later t ts at h) = in_right (ProtoKey at) (proto_behind tables t ts) (proto_faults tables ts) (key_complete ts at h)

module _ (outer : List (List ℕ)) (tables : TokenTables) (tokens : List GrammarToken) (t : Tree) where
  abbrev pub all_faults : List NameFault
  all_faults = proto_faults tables tokens ++ faults_of outer t

  complete : (f : NameFault) → HasNameFault outer tables tokens t f → In f all_faults
  complete _ (of_name f h) = in_right f (proto_faults tables tokens) (faults_of outer t) (complete_among t.body (Declaring t.top ∷ []) outer f h)
  complete _ (of_key at h) = in_left (ProtoKey at) (proto_faults tables tokens) (faults_of outer t) (key_complete tables tokens at h)

  sound : (f : NameFault) → In f all_faults → HasNameFault outer tables tokens t f
  sound f i = either (apart f (proto_faults tables tokens) (faults_of outer t) i)
      (λ j. let k = key_sound tables tokens f j in subst (HasNameFault outer tables tokens t) (sym k.1) (of_key k.0 k.2))
      (λ j. of_name f (sound_among t.body (Declaring t.top ∷ []) outer f j))

  first_is : (g : NameFault) (gs : List NameFault) → ((f : NameFault) → HasNameFault outer tables tokens t f → In f
      (g ∷ gs)) → ((f : NameFault) → In f (g ∷ gs) → HasNameFault outer tables tokens t f) → IsFirstFault outer tables tokens t (least g gs)
  first_is g gs complete sound = record {
    has = sound (least g gs) (least_in g gs);
    first = λ h has. either (complete h has) (λ e. let a : fault_rank (least g gs) ≤ fault_rank g = least_head g gs in
        let b : fault_rank h ≡ fault_rank g = ap fault_rank e in omega arith) (λ i. least_first g gs h i);
  }

  -- a script's names are right, or one of their faults is the first
  pub right_or_first : ((f : NameFault) → HasNameFault outer tables tokens t f → ⊥) ⊎ ((f : NameFault) × IsFirstFault outer tables tokens t f)
  right_or_first = go all_faults complete sound
    where
      go : (fs : List NameFault) → ((f : NameFault) → HasNameFault outer tables tokens t f → In f fs) → ((f : NameFault) → In f fs →
          HasNameFault outer tables tokens t f) → ((f : NameFault) → HasNameFault outer tables tokens t f → ⊥) ⊎ ((f : NameFault) ×
          IsFirstFault outer tables tokens t f)
      go [] complete sound = inl complete
      go (g ∷ gs) complete sound = inr (least g gs, first_is g gs complete sound)

  -- the first of the list is the first fault
  pub tells_first : (found : Option Told) → option_map fault_of found ≡ offers None all_faults → TellsFirst outer tables tokens t found
  tells_first found e = go all_faults complete sound found e
    where
      some_least : (f : NameFault) (gs : List NameFault) → offers (Some f) gs ≡ Some (least f gs)
      some_least f [] = refl
      some_least f (g ∷ gs) = some_least (earlier f g) gs

      go : (fs : List NameFault) → ((f : NameFault) → HasNameFault outer tables tokens t f → In f fs) → ((f : NameFault) → In f fs →
          HasNameFault outer tables tokens t f) → (found : Option Told) → option_map fault_of found ≡ offers None fs → TellsFirst outer tables tokens t found
      go [] complete sound None e = complete
      go [] complete sound (Some f) e = let q : Some (fault_of f) ≡ None = e in absurd (cc)
      go (g ∷ gs) complete sound None e = let q : None ≡ Some (least g gs) = e ∙ some_least g gs in absurd (cc)
      go (g ∷ gs) complete sound (Some f) e =
          let q : Some (fault_of f) ≡ Some (least g gs) = e ∙ some_least g gs in
          let s : least g gs ≡ fault_of f = cc in
          subst (IsFirstFault outer tables tokens t) s (first_is g gs complete sound)

-- and no other is

same_rank : (f g : NameFault) → fault_rank f ≡ fault_rank g → f ≡ g
same_rank (Duplicate a) (Duplicate b) e = let s : a ≡ b = omega arith in ap Duplicate s
same_rank (LoopName a) (LoopName b) e = let s : a ≡ b = omega arith in ap LoopName s
same_rank (ProtoKey a) (ProtoKey b) e = let s : a ≡ b = omega arith in ap ProtoKey s
same_rank (Duplicate a) (LoopName b) e = absurd (omega arith)
same_rank (Duplicate a) (ProtoKey b) e = absurd (omega arith)
same_rank (LoopName a) (Duplicate b) e = absurd (omega arith)
same_rank (LoopName a) (ProtoKey b) e = absurd (omega arith)
same_rank (ProtoKey a) (Duplicate b) e = absurd (omega arith)
same_rank (ProtoKey a) (LoopName b) e = absurd (omega arith)

pub one_first : (outer : List (List ℕ)) (tables : TokenTables) (tokens : List GrammarToken) (t : Tree) (f g : NameFault) → IsFirstFault
    outer tables tokens t f → IsFirstFault outer tables tokens t g → f ≡ g
one_first outer tables tokens t f g a b = let l : fault_rank f ≤ fault_rank g = a.first g b.has in let m : fault_rank g ≤ fault_rank f = b.first f a.has in same_rank f g (omega arith)
