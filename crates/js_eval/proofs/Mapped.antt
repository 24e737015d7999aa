-- What bindings stand for in a store: each operation on the bindings of the code is the same one on what they stand for.
use Rattle.eval_scopes.specs.Changes.{with_value, with_bound}
use Rattle.std.proofs.Common.{◌≡◌, ℕ, List, [], ◌∷◌, map, refl, ap, sym, Bool, true, false, Option, Some, None, option_map, is_some, bytes_eq, if◌then◌else◌}
use Rattle.std.proofs.lemmas.List.{map-append}
use Rattle.eval_scopes.specs.Bindings.{Bound, BlockFrame, Bindings, bound_in, is_among, look, meant, changed, inside, write, written, declare, declared, entered, turned, outer}
use Rattle.eval_scopes.specs.Blocks.{inner_first}

abbrev pub bound_by : {T V : Type 0} → (T → V) → Bound T → Bound V
bound_by see b = record { name = b.name; constant = b.constant; value = see b.value }

abbrev pub bounds_by : {T V : Type 0} → (T → V) → List (Bound T) → List (Bound V)
bounds_by see bs = map (λ b. bound_by see b) bs

abbrev pub frame_by : {T V : Type 0} → (T → V) → BlockFrame T → BlockFrame V
frame_by see f = record { names = f.names; bound = bounds_by see f.bound }

abbrev pub frames_by : {T V : Type 0} → (T → V) → List (BlockFrame T) → List (BlockFrame V)
frames_by see fs = map (λ f. frame_by see f) fs

abbrev pub bindings_by : {T V : Type 0} → (T → V) → Bindings T → Bindings V
bindings_by see bs = record { blocks = frames_by see bs.blocks; top = bounds_by see bs.top }

module _ {T V : Type 0} (see : T → V) where
  first_found : (b : Bound T) (bs : List (Bound T)) (x : List ℕ) (t : Bool) → bound_in (bounds_by see bs) x ≡ option_map
      (λ b. bound_by see b) (bound_in bs x) → (if t then Some (bound_by see b) else bound_in (bounds_by see bs) x) ≡ option_map
      (λ b. bound_by see b) (if t then Some b else bound_in bs x)
  first_found b bs x true h = refl
  first_found b bs x false h = h

  pub found_by : (bs : List (Bound T)) (x : List ℕ) → bound_in (bounds_by see bs) x ≡ option_map (λ b. bound_by see b) (bound_in bs x)
  found_by [] x = refl
  found_by (b ∷ bs) x = first_found b bs x (bytes_eq b.name x) (found_by bs x)

  inner_by : (o : Option (Bound T)) (d : Bool) (p : Option (Bound T)) → inner_first (option_map (λ b. bound_by see b) o) d
      (option_map (λ b. bound_by see b) p) ≡ option_map (λ b. bound_by see b) (inner_first o d p)
  inner_by (Some b) d p = refl
  inner_by None true p = refl
  inner_by None false p = refl

  look_by : (fs : List (BlockFrame T)) (top : List (Bound T)) (x : List ℕ) → look (frames_by see fs) (bounds_by see top) x ≡ option_map (λ b. bound_by see b) (look fs top x)
  look_by [] top x = found_by top x
  look_by (f ∷ fs) top x = rw (found_by f.bound x, look_by fs top x) (inner_by (bound_in f.bound x) (is_among f.names x) (look fs top x))

  -- what a name means
  pub meant_by : (bs : Bindings T) (x : List ℕ) → meant (bindings_by see bs) x ≡ option_map (λ b. bound_by see b) (meant bs x)
  meant_by bs x = look_by bs.blocks bs.top x

  first_changed : (b : Bound T) (bs : List (Bound T)) (x : List ℕ) (v : T) (t : Bool) → changed (bounds_by see bs) x (see v) ≡ bounds_by see
      (changed bs x v) → (if t then with_value (bound_by see b) (see v) ∷ bounds_by see bs else bound_by see b ∷ changed (bounds_by see bs) x
      (see v)) ≡ bounds_by see (if t then with_value b v ∷ bs else b ∷ changed bs x v)
  first_changed b bs x v true h = refl
  first_changed b bs x v false h = ap (λ q. bound_by see b ∷ q) h

  pub changed_by : (bs : List (Bound T)) (x : List ℕ) (v : T) → changed (bounds_by see bs) x (see v) ≡ bounds_by see (changed bs x v)
  changed_by [] x v = refl
  changed_by (b ∷ bs) x v = first_changed b bs x v (bytes_eq b.name x) (changed_by bs x v)

  first_outer : (fs : List (BlockFrame T)) (top : List (Bound T)) → outer (bindings_by see (record { blocks = fs; top = top })) ≡ bindings_by see (outer (record { blocks = fs; top = top }))
  first_outer [] top = refl
  first_outer (f ∷ fs) top = refl

  pub outer_by : (bs : Bindings T) → outer (bindings_by see bs) ≡ bindings_by see (outer bs)
  outer_by bs = first_outer bs.blocks bs.top

  pub entered_by : (names : List (List ℕ)) (bs : Bindings T) → entered names (bindings_by see bs) ≡ bindings_by see (entered names bs)
  entered_by names bs = refl

  pub turned_by : (x : List ℕ) (v : T) (bs : Bindings T) → turned x (see v) (bindings_by see bs) ≡ bindings_by see (turned x v bs)
  turned_by x v bs = refl

  first_write : (f : BlockFrame T) (fs : List (BlockFrame T)) (top : List (Bound T)) (x : List ℕ) (v : T) (o : Option (Bound T)) → write
      (frames_by see fs) (bounds_by see top) x (see v) ≡ bindings_by see (write fs top x v) →
      (if is_some (option_map (λ b. bound_by see b) o) then record {
        blocks = with_bound (frame_by see f)
            (changed (bounds_by see f.bound) x (see v)) ∷ frames_by see fs;
        top = bounds_by see top;
      } else inside (frame_by see f)
      (write (frames_by see fs) (bounds_by see top) x (see v))) ≡ bindings_by see
      (if is_some o then record { blocks = with_bound f (changed f.bound x v) ∷ fs; top = top } else inside f (write fs top x v))
  first_write f fs top x v (Some b) h = ap (λ q. record { blocks = record { names = f.names; bound = q } ∷ frames_by see fs; top = bounds_by see top }) (changed_by f.bound x v)
  first_write f fs top x v None h = ap (λ q. inside (frame_by see f) q) h

  write_by : (fs : List (BlockFrame T)) (top : List (Bound T)) (x : List ℕ) (v : T) → write (frames_by see fs) (bounds_by see top) x (see v) ≡ bindings_by see (write fs top x v)
  write_by [] top x v = ap (λ q. record { blocks = []; top = q }) (changed_by top x v)
  write_by (f ∷ fs) top x v = rw (found_by f.bound x) (first_write f fs top x v (bound_in f.bound x) (write_by fs top x v))

  pub written_by : (bs : Bindings T) (x : List ℕ) (v : T) → written (bindings_by see bs) x (see v) ≡ bindings_by see (written bs x v)
  written_by bs x v = write_by bs.blocks bs.top x v

  declare_by : (fs : List (BlockFrame T)) (top : List (Bound T)) (b : Bound T) → declare (frames_by see fs) (bounds_by see top) (bound_by see b) ≡ bindings_by see (declare fs top b)
  declare_by [] top b = ap (λ q. record { blocks = []; top = q }) (sym (map-append (λ b. bound_by see b) top (b ∷ [])))
  declare_by (f ∷ fs) top b = ap (λ q. record { blocks = record { names = f.names; bound = q } ∷ frames_by see fs; top = bounds_by see top }) (sym (map-append (λ b. bound_by see b) f.bound (b ∷ [])))

  pub declared_by : (bs : Bindings T) (b : Bound T) → declared (bindings_by see bs) (bound_by see b) ≡ bindings_by see (declared bs b)
  declared_by bs b = declare_by bs.blocks bs.top b
