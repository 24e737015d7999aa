-- All that is known of a reader and its language in one record, and how it is put together.
use Rattle.std.proofs.Common.{◌≡◌, ◌<◌, List, [], ◌∷◌, ◌++◌, length, Bool, true, false, cond, Option, Some, None, refl, sym, ap, ◌∙◌, subst, arith, length-append}
use Rattle.parse_syntax.specs.Lang.{Lang, One, one, Then, both, Bind, bound, Mapped, mapped, Nothing, nothing, Either, left, right, Many, end, Never, if_room, ◌▸◌}
use Rattle.parse_syntax.specs.Reader.{Got, Bad, TokenReader, ◌>>=◌, SyntaxFaultKind, TooDeep, wrong, too_deep, map_by, and_then, and_bind, take_or, one_of}
use Rattle.parse_syntax.specs.Reader.{succeed, opens, choose, all_of, heads, heads_two, allowed, keep_second}
use Rattle.parse_syntax.proofs.Laws.{IsLawful, Holds, then_lawful, one_lawful, map_lawful, choose_lawful, loop_lawful, within, succeed_lawful, no_room_lawful, wrong_lawful}
use Rattle.parse_syntax.proofs.Local.{same_front, Stands, IsLocal, IsTest, IsEating, then_local, one_local, map_local, choose_local, loop_local, deep_local, wrong_local, succeed_local}
use Rattle.parse_syntax.proofs.Wider.{IsIn, itself, then_wider, mapped_wider, either_wider, many_wider, some_of, is_some_of}
use Rattle.parse_syntax.proofs.Bound.{bind_lawful, bind_local}
use Rattle.parse_syntax.proofs.Series.{head_kept, series_local}
use Rattle.std.specs.Prelude.{is_some}

-- how the room above compares with the room here
pub data Rooms (P : SyntaxFaultKind → Type 0) : Bool → Bool → Type 0 where
  same_room : Rooms P true true
  same_end : Rooms P false false
  more_room : (P TooDeep → ⊥) → Rooms P false true

module _ {T : Type 0} where
  -- whatever follows
  abbrev pub anything : List T → Bool
  anything s = true

  -- r reads L: lawful within V, with D one level up, and r' answers the same whatever comes after the first token not taken
  pub record Branch {A : Type 0} (P : SyntaxFaultKind → Type 0) (V L D : Lang T A) (stops : List T → Bool) (r r' : TokenReader T A) : Type 0 where
    pub lawful : IsLawful L V D stops r
    pub wider : IsIn L D
    pub local : IsLocal P r r'

  -- the same for a language that holds something
  pub record Part {A : Type 0} (P : SyntaxFaultKind → Type 0) (L D : Lang T A) (stops : List T → Bool) (r r' : TokenReader T A) : Type 0 where
    pub lawful : IsLawful L L D stops r
    pub wider : IsIn L D
    pub local : IsLocal P r r'
    pub some : Holds L

  pub above : {A : Type 0} {P : SyntaxFaultKind → Type 0} {L D : Lang T A} {stops : List T → Bool} {r r' : TokenReader T A} → Part P L D stops r r' → Holds D
  above p = record { tokens = p.some.tokens; value = p.some.value; spells = p.wider.at p.some.tokens p.some.value p.some.spells }

  pub one_part : {A : Type 0} (P : SyntaxFaultKind → Type 0) (v : T → Option A) (t : T) (x : A) → v t ≡ Some x → Part P (One v) (One v) anything (one_of v) (one_of v)
  one_part P v t x e =
      let some : Holds (One v) = record { tokens = t ∷ []; value = x; spells = one t x e } in
      record { lawful = one_lawful v (One v) anything some; wider = itself (One v); local = one_local P v; some = some }

  pub both_hold : {A B C : Type 0} (f : A → B → C) {L : Lang T A} {M : Lang T B} → Holds L → Holds M → Holds (Then f L M)
  both_hold f a b = record { tokens = a.tokens ++ b.tokens; value = f a.value b.value; spells = both a.tokens b.tokens a.value b.value a.spells b.spells }

  module _ {A B C : Type 0} {P : SyntaxFaultKind → Type 0} (f : A → B → C) {L D : Lang T A} {M E : Lang T B} {stop_r stop_q : List T → Bool} {r r' : TokenReader T A} {q q' : TokenReader T B} where
    pub then_part : Part P L D stop_r r r' → Part P M E stop_q q q' → ((b : List T) (y : B) (rest : List T) → M b y → stop_q rest ≡ true →
        stop_r (b ++ rest) ≡ true) → Part P (Then f L M) (Then f D E) stop_q (and_then f r q) (and_then f r' q')
    then_part p g follows = record {
      lawful = then_lawful f L D M E stop_r stop_q r q p.lawful g.lawful follows g.some p.wider.at (above g);
      wider = then_wider f L D M E p.wider g.wider;
      local = then_local P f r r' q q' p.local g.local;
      some = both_hold f p.some g.some;
    }

  -- after what ends by itself
  module _ {A B C : Type 0} {P : SyntaxFaultKind → Type 0} (f : A → B → C) {L D : Lang T A} {M E : Lang T B} {stop_q : List T → Bool} {r r' : TokenReader T A} {q q' : TokenReader T B} where
    pub next_part : Part P L D anything r r' → Part P M E stop_q q q' → Part P (Then f L M) (Then f D E) stop_q (and_then f r q) (and_then f r' q')
    next_part p g = then_part f p g (λ b y rest h s. refl)

  module _ {A B : Type 0} {P : SyntaxFaultKind → Type 0} (f : A → B) {L D : Lang T A} {stops : List T → Bool} {r r' : TokenReader T A} where
    pub map_part : Part P L D stops r r' → Part P (Mapped f L) (Mapped f D) stops (map_by f r) (map_by f r')
    map_part p = record {
      lawful = map_lawful f L L D stops r p.lawful;
      wider = mapped_wider f L D p.wider;
      local = map_local P f r r' p.local;
      some = record { tokens = p.some.tokens; value = f p.some.value; spells = mapped p.some.tokens p.some.value p.some.spells };
    }

  -- by the first value

  bind_wider : {A B C : Type 0} (f : A → B → C) (L D : Lang T A) (M E : A → Lang T B) →
      IsIn L D → ((a : List T) (x : A) → L a x → IsIn (M x) (E x)) → (ts : List T) (z : C) → Bind f L M ts z → Bind f D E ts z
  bind_wider f L D M E l m _ _ (bound a b x y ha hb) = bound a b x y (l.at a x ha) ((m a x ha).at b y hb)

  module _ {A B C : Type 0} {P : SyntaxFaultKind → Type 0} (f : A → B → C) {L : Lang T A} {M E : A → Lang T B} {stop_q : List T → Bool} {r r' : TokenReader T A} {q q' : A → TokenReader T B} where
    -- M, E and q have the law for each value that L has
    pub bind_part : Part P L L anything r r' → ((a : List T) (x : A) → L a x → Part P (M x) (E x) stop_q (q x) (q' x)) → ((x : A) → IsLocal
        P (q x) (q' x)) → Part P (Bind f L M) (Bind f L E) stop_q (and_bind f r q) (and_bind f r' q')
    bind_part p g l = record {
      lawful = bind_lawful f L L M E anything stop_q r q p.lawful (λ a x h. (g a x h).lawful) (λ x b y rest h s. refl) (λ a x h. (g a x h).some) (λ ts x h. h) (λ a x h. above (g a x h));
      wider = record { at = bind_wider f L L M E (itself L) (λ a x h. (g a x h).wider) };
      local = bind_local P f r r' q q' p.local l;
      some =
          let m = (g p.some.tokens p.some.value p.some.spells).some in
          record { tokens = p.some.tokens ++ m.tokens; value = f p.some.value m.value; spells = bound p.some.tokens m.tokens p.some.value m.value p.some.spells m.spells };
    }

  -- branches of a choice

  module _ {A : Type 0} {P : SyntaxFaultKind → Type 0} {V L D : Lang T A} {stops : List T → Bool} {r r' : TokenReader T A} where
    pub branch : Part P L D stops r r' → ((ts : List T) (x : A) → L ts x → V ts x) → Branch P V L D stops r r'
    branch p inside = record { lawful = within L L V D stops r inside p.lawful; wider = p.wider; local = p.local }

    -- what ends anywhere ends there
    pub sooner : {stops' : List T → Bool} → ((s : List T) → stops' s ≡ true → stops s ≡ true) → Branch P V L D stops r r' → Branch P V L D stops' r r'
    sooner h b = record {
      lawful = record { sound = b.lawful.sound; complete = λ ts x rest m e. b.lawful.complete ts x rest m (h rest e); viable = b.lawful.viable; deep = b.lawful.deep };
      wider = b.wider;
      local = b.local;
    }

  module _ {A : Type 0} {P : SyntaxFaultKind → Type 0} {V D : Lang T A} {stops : List T → Bool} {r r' : TokenReader T A} where
    pub part_of : Branch P V V D stops r r' → Holds V → Part P V D stops r r'
    part_of b some = record { lawful = b.lawful; wider = b.wider; local = b.local; some = some }

  module _ {A : Type 0} {P : SyntaxFaultKind → Type 0} {V L D M E : Lang T A} {stops : List T → Bool} {r r' q q' : TokenReader T A} where
    pub choose_branch : (starts : List T → Bool) → IsTest starts → Branch P V L D stops r r' → Branch P V M E
        stops q q' → ((ts : List T) (x : A) (rest : List T) → L ts x → starts (ts ++ rest) ≡ true) → ((ts : List T) (x : A) (rest : List T) →
        M ts x → stops rest ≡ true → starts (ts ++ rest) ≡ false) → Branch P V (Either L M) (Either D E) stops (choose starts r q) (choose starts r' q')
    choose_branch starts t a b hit miss = record {
      lawful = choose_lawful starts L M D E V stops r q a.lawful b.lawful hit miss;
      wider = either_wider L D M E a.wider b.wider;
      local = choose_local P starts r r' q q' t a.local b.local;
    }

  pub nothing_branch : {A : Type 0} (P : SyntaxFaultKind → Type 0) {V : Lang T A} {stops : List T → Bool} (z : A) → Branch P V (Nothing z) (Nothing z) stops (succeed z) (succeed z)
  nothing_branch P {V = V} {stops = stops} z = record { lawful = succeed_lawful V (Nothing z) stops z; wider = itself (Nothing z); local = succeed_local P z }

  pub heads_test : {A : Type 0} (v : T → Option A) → IsTest (heads v)
  heads_test v = record { same = head_kept v }

  -- where there is room

  -- without such a token it fails there
  pub record IsStrict {A B : Type 0} (v : T → Option B) (r : TokenReader T A) : Type 0 where
    pub fails : (s : List T) → heads v s ≡ false → r s ≡ wrong s

  module _ {A B C : Type 0} (f : A → B → C) (v : T → Option A) (q : TokenReader T B) where
    strict_at : (s : List T) → heads v s ≡ false → and_then f (one_of v) q s ≡ wrong s
    strict_at [] h = refl
    strict_at (t ∷ s) h = go (v t) h
      where
        go : (o : Option _) → is_some o ≡ false → (take_or o t s >>= λ x rest. q rest >>= λ y rest'. Got (f x y) rest') ≡ wrong (t ∷ s)
        go None h = refl
        go (Some x) h = let z : true ≡ false = h in cc

    pub then_strict : IsStrict v (and_then f (one_of v) q)
    then_strict = record { fails = strict_at }

  module _ {A B C D : Type 0} (f : A → B → C) (v : T → Option D) (r : TokenReader T A) (q : TokenReader T B) where
    wrong_first : (t : List T) → (wrong t >>= λ x rest. q rest >>= λ y rest'. Got (f x y) rest') ≡ wrong t
    wrong_first [] = refl
    wrong_first (t ∷ s) = refl

    pub first_strict : IsStrict v r → IsStrict v (and_then f r q)
    first_strict s = record { fails = λ t h. ap (λ a. a >>= λ x rest. q rest >>= λ y rest'. Got (f x y) rest') (s.fails t h) ∙ wrong_first t }

  module _ {A B C : Type 0} (f : A → C) (v : T → Option B) (r : TokenReader T A) (s : IsStrict v r) where
    wrong_mapped : (t : List T) → (wrong t >>= λ x rest. Got (f x) rest) ≡ wrong t
    wrong_mapped [] = refl
    wrong_mapped (t ∷ s) = refl

    pub map_strict : IsStrict v (map_by f r)
    map_strict = record { fails = λ t h. ap (λ a. a >>= λ x rest. Got (f x) rest) (s.fails t h) ∙ wrong_mapped t }

  module _ (P : SyntaxFaultKind → Type 0) {A B : Type 0} (v : T → Option B) (r' : TokenReader T A) where
    -- more room, where nothing is asked of faults for want of room
    room_local : (P TooDeep → ⊥) → IsStrict v r' → IsLocal P (choose (heads v) too_deep wrong) r'
    room_local less strict = record { got = got_of; bad = bad_of }
      where
        none_got : (s : List T) (x : A) (rest : List T) (b : Bool) → cond b (too_deep s) (wrong s) ≡ Got x rest → ⊥
        none_got s x rest true e = cc
        none_got [] x rest false e = cc
        none_got (t ∷ s) x rest false e = cc

        got_of : (s : List T) (x : A) (rest : List T) → choose (heads v) too_deep wrong s ≡ Got x rest → Stands r' (λ w. Got x w) s rest
        got_of s x rest e = absurd (none_got s x rest (heads v s) e)

        bad_here : (s : List T) (k : SyntaxFaultKind) (rest : List T) → P k → (b : Bool) → heads v s ≡ b → cond b (too_deep {A = A} s) (wrong s) ≡ Bad k rest → Stands r' (λ w. Bad k w) s rest
        bad_here s k rest d true h e = let g : TooDeep ≡ k = cc in absurd (less (subst P (sym g) d))
        bad_here s k rest d false h e =
            let a = (wrong_local P {A = A}).bad s k rest d e in
            record {
              front = a.front;
              whole = a.whole;
              always = λ w m. strict.fails (a.front ++ w)
                  (sym (head_kept v (a.front ++ rest) (a.front ++ w) (same_front a.front rest w m)) ∙ ap (heads v) (sym a.whole) ∙ h) ∙ a.always w m;
            }

        bad_of : (s : List T) (k : SyntaxFaultKind) (rest : List T) → P k → choose (heads v) (too_deep {A = A}) wrong s ≡ Bad k rest → Stands r' (λ w. Bad k w) s rest
        bad_of s k rest d e = bad_here s k rest d (heads v s) refl e

  -- at the token that would open, where there is no room
  pub open_branch : {A B : Type 0} {P : SyntaxFaultKind → Type 0} {V L D : Lang T A} {stops : List T → Bool} {r r' : TokenReader T A}
      (room room' : Bool) → Rooms P room room' → (v : T → Option B) → (room ≡ true → Branch P V L D stops r r')
      → Holds V → ((t : T) (y : B) → v t ≡ Some y → (tail : List T) × (x : A) × D (t ∷ tail) x) → IsStrict v r' → Branch P V (if_room room L)
      D stops (opens room (heads v) r) (opens room' (heads v) r')
  open_branch _ _ same_room v b some deeper strict = b refl
  open_branch {P = P} {V = V} {D = D} {stops = stops} {r = r} _ _ same_end v b some deeper strict = record {
    lawful = no_room_lawful V D stops Never (heads v) (λ ts x h. h) some (λ t after h. let y = some_of (v t) h in deeper t y.0 y.1) refl r;
    wider = record { at = λ ts x h. absurd h };
    local = choose_local P (heads v) too_deep too_deep wrong wrong (heads_test v) (deep_local P) (wrong_local P);
  }
  open_branch {P = P} {V = V} {D = D} {stops = stops} {r = r} {r' = r'} _ _ (more_room less) v b some deeper strict = record {
    lawful = no_room_lawful V D stops Never (heads v) (λ ts x h. h) some (λ t after h. let y = some_of (v t) h in deeper t y.0 y.1) refl r;
    wider = record { at = λ ts x h. absurd h };
    local = room_local P v r' less strict;
  }

  -- any number of times

  pub eats_by : {A : Type 0} {L V D : Lang T A} {stops : List T → Bool} {r : TokenReader T A} → IsLawful L V D stops r → ((ts : List T) (x : A) → L ts x → 0 < length ts) → IsEating r
  eats_by l h = record {
    less = λ s x rest e.
        let a = l.sound s x rest e in
        let b = h a.front x a.spells in
        omega (arith, ap length a.whole, length-append a.front rest);
  }

  -- the items are not empty and begin as items do, and what follows an item ends it
  pub record IsItem {A : Type 0} (starts stop_item stops : List T → Bool) (L : Lang T A) : Type 0 where
    pub test : IsTest starts
    pub none : starts [] ≡ false
    pub eats : (ts : List T) (x : A) → L ts x → 0 < length ts
    pub begins : (ts : List T) (x : A) (rest : List T) → L ts x → starts (ts ++ rest) ≡ true
    pub again : (ts : List T) (x : A) (rest : List T) → L ts x → stop_item (ts ++ rest) ≡ true
    pub ends : (rest : List T) → stops rest ≡ true → starts rest ≡ false
    pub over : (rest : List T) → stops rest ≡ true → stop_item rest ≡ true

  pub many_part : {A : Type 0} {P : SyntaxFaultKind → Type 0} {L D : Lang T A} {stop_item : List T → Bool}
      (starts stops : List T → Bool) {r r' : TokenReader T A} → Part P L D stop_item r r' → IsItem starts stop_item stops L → Part P (Many L)
      (Many D) stops (all_of starts r) (all_of starts r')
  many_part {P = P} {L = L} {D = D} {stop_item = stop_item} starts stops {r = r} {r' = r'} p i = record {
    lawful = loop_lawful starts L D stop_item stops r p.lawful (record { eats = i.eats; begins = i.begins; again = i.again; ends = i.ends; over = i.over }) p.wider.at;
    wider = many_wider L D p.wider;
    local = loop_local P starts r r' i.test i.none p.local (eats_by p.lawful i.eats);
    some = record { tokens = []; value = []; spells = end };
  }

  -- items that begin with the tokens v and w, and then perhaps v and something that does not begin with w

  abbrev pub no_such : {A : Type 0} → (T → Option A) → List T → Bool
  no_such v s = cond (heads v s) false true

  pub no_such_is : {A : Type 0} (v : T → Option A) (s : List T) → no_such v s ≡ true → heads v s ≡ false
  no_such_is v s = go (heads v s)
    where
      go : (b : Bool) → cond b false true ≡ true → b ≡ false
      go true e = sym e
      go false e = refl

  module _ {A B R V W : Type 0} {P : SyntaxFaultKind → Type 0} (h : List A
      → B → R) (v : T → Option V) (w : T → Option W) (z : B) {C CD : Lang T A} {B' BD : Lang T B} {c c' : TokenReader T A} {b b' : TokenReader T B} (lacks : (ts : List T) (x : B) (rest : List T)
      → B' ts x → heads w (ts ++ rest) ≡ false) (pv : Part P (One v) (One v) anything (one_of v) (one_of v)) (pw : Part P (One w) (One w)
      anything (one_of w) (one_of w)) (pc : Part P C CD anything c c') (pb : Part P B' BD anything b b') where
    not_two : List T → Bool
    not_two s = cond (heads_two v w s) false true

    not_two_is : (s : List T) → not_two s ≡ true → heads_two v w s ≡ false
    unfolding not_two
    not_two_is s = go (heads_two v w s)
      where
        go : (b : Bool) → cond b false true ≡ true → b ≡ false
        go true e = sym e
        go false e = refl

    is_not_two : (s : List T) → heads_two v w s ≡ false → not_two s ≡ true
    unfolding not_two
    is_not_two s e = rw e refl

    item_part : Part P (One v ▸ One w ▸ C) (One v ▸ One w ▸ CD) anything
        (and_then keep_second (one_of v) (and_then keep_second (one_of w) c)) (and_then keep_second (one_of v) (and_then keep_second (one_of w) c'))
    item_part = next_part keep_second pv (next_part keep_second pw pc)

    inner_two : (u : V) (t : T) → v t ≡ Some u → (d : List T) (x : A) (rest : List T) → (One w ▸ C) d x → heads_two v w ((t ∷ d) ++ rest) ≡ true
    inner_two u t e _ _ rest (both _ d x y (one t2 x2 e2) hd) = rw (e, e2) refl

    two : (ts : List T) (x : A) (rest : List T) → (One v ▸ One w ▸ C) ts x → heads_two v w (ts ++ rest) ≡ true
    two _ _ rest (both _ d x y (one t x2 e) hd) = inner_two x2 t e d y rest hd

    long : (ts : List T) (x : A) → (One v ▸ One w ▸ C) ts x → 0 < length ts
    long _ _ (both _ d x y (one t x2 e) hd) = omega arith

    test_off : (s : List T) → heads v s ≡ false → heads_two v w s ≡ false
    test_off [] e = refl
    test_off (t ∷ s) e = rw e refl

    items_lawful : IsLawful (Many (One v ▸ One w ▸ C)) (Many (One v ▸ One w ▸ C)) (Many (One v ▸ One w ▸ CD)) not_two
        (all_of (heads_two v w) (and_then keep_second (one_of v) (and_then keep_second (one_of w) c)))
    items_lawful = loop_lawful (heads_two v w) (One v ▸ One w ▸ C) (One v ▸ One w ▸ CD) anything not_two
        (and_then keep_second (one_of v) (and_then keep_second (one_of w) c)) item_part.lawful (record {
          eats = long;
          begins = two;
          again = λ ts x rest m. refl;
          ends = not_two_is;
          over = λ rest s. refl;
        }) item_part.wider.at

    last_part : Part P (Either (One v ▸ B') (Nothing z)) (Either (One v ▸ BD) (Nothing z)) (no_such v)
        (choose (heads v) (and_then keep_second (one_of v) b) (succeed z)) (choose (heads v) (and_then keep_second (one_of v) b') (succeed z))
    last_part = part_of
        (choose_branch (heads v) (heads_test v)
        (branch (record {
          lawful = sooner_lawful;
          wider = (next_part keep_second pv pb).wider;
          local = (next_part keep_second pv pb).local;
          some = (next_part keep_second pv pb).some;
        }) (λ ts x m. left ts x m))
        (record { lawful = succeed_lawful (Either (One v ▸ B') (Nothing z)) (Nothing z) (no_such v) z; wider = itself (Nothing z); local = succeed_local P z })
        hit miss)
        (record { tokens = []; value = z; spells = right [] z (nothing z refl) })
      where
        sooner_lawful : IsLawful (One v ▸ B') (One v ▸ B') (One v ▸ BD) (no_such v) (and_then keep_second (one_of v) b)
        sooner_lawful = let l = (next_part keep_second pv pb).lawful in record { sound = l.sound; complete = λ ts x rest m e. l.complete ts x rest m refl; viable = l.viable; deep = l.deep }

        hit : (ts : List T) (x : B) (rest : List T) → (One v ▸ B') ts x → heads v (ts ++ rest) ≡ true
        hit _ _ rest (both _ d x y (one t x2 e) hd) = is_some_of (v t) x2 e

        miss : (ts : List T) (x : B) (rest : List T) → Nothing z ts x → no_such v rest ≡ true → heads v (ts ++ rest) ≡ false
        miss _ _ rest (nothing x e) s = no_such_is v rest s

    follows : (d : List T) (y : B) (rest : List T) → Either (One v ▸ B') (Nothing z) d y → no_such v rest ≡ true → not_two (d ++ rest) ≡ true
    follows _ _ rest (left d y m) s = by_last d y m
      where
        by_last : (d : List T) (y : B) → (One v ▸ B') d y → not_two (d ++ rest) ≡ true
        by_last _ _ (both _ d x y (one t x2 e) hd) = is_not_two (t ∷ d ++ rest) (rw (e, lacks d y rest hd) refl)
    follows _ _ rest (right d y m) s = by_none d y m
      where
        by_none : (d : List T) (y : B) → Nothing z d y → not_two (d ++ rest) ≡ true
        by_none _ _ (nothing x e) = is_not_two rest (test_off rest (no_such_is v rest s))

    pub series_part : Part P (Then h (Many (One v ▸ One w ▸ C)) (Either (One v ▸ B') (Nothing z)))
        (Then h (Many (One v ▸ One w ▸ CD)) (Either (One v ▸ BD) (Nothing z))) (no_such v)
        (and_then h (all_of (heads_two v w) (and_then keep_second (one_of v) (and_then keep_second (one_of w) c)))
        (choose (heads v) (and_then keep_second (one_of v) b) (succeed z)))
        (and_then h (all_of (heads_two v w) (and_then keep_second (one_of v) (and_then keep_second (one_of w) c')))
        (choose (heads v) (and_then keep_second (one_of v) b') (succeed z)))
    series_part = record {
      lawful = then_lawful h (Many (One v ▸ One w ▸ C)) (Many (One v ▸ One w ▸ CD)) (Either (One v ▸ B') (Nothing z))
          (Either (One v ▸ BD) (Nothing z)) not_two (no_such v) (all_of (heads_two v w)
          (and_then keep_second (one_of v) (and_then keep_second (one_of w) c)))
          (choose (heads v) (and_then keep_second (one_of v) b) (succeed z)) items_lawful last_part.lawful follows last_part.some
          (many_wider (One v ▸ One w ▸ C) (One v ▸ One w ▸ CD) item_part.wider).at (above last_part);
      wider = then_wider h (Many (One v ▸ One w ▸ C)) (Many (One v ▸ One w ▸ CD)) (Either (One v ▸ B') (Nothing z))
          (Either (One v ▸ BD) (Nothing z)) (many_wider (One v ▸ One w ▸ C) (One v ▸ One w ▸ CD) item_part.wider) last_part.wider;
      local = series_local P v w z c c' b b' pc.local pb.local h;
      some = both_hold h (record { tokens = []; value = []; spells = end }) last_part.some;
    }

  -- only where there is leave to
  pub never_branch : {A : Type 0} {P : SyntaxFaultKind → Type 0} {V L D : Lang T A} {stops : List
      T → Bool} {r r' : TokenReader T A} (leave : Bool) → Holds V → (leave ≡ true → Branch P V L D stops r r') → Branch P V (if_room leave L)
      (if_room leave D) stops (allowed leave r) (allowed leave r')
  never_branch true some b = b refl
  never_branch {P = P} {V = V} {stops = stops} false some b = record {
    lawful = wrong_lawful V Never stops some;
    wider = record { at = λ ts x h. absurd h };
    local = wrong_local P;
  }
