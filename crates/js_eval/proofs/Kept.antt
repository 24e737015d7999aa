-- What each operation on bindings keeps: that all values may be used.
use Rattle.eval_scopes.specs.Changes.{with_value, with_bound}
use Rattle.std.proofs.Common.{ℕ, List, [], ◌∷◌, ◌++◌, Bool, true, false, Option, Some, None, is_some, bytes_eq, if◌then◌else◌}
use Rattle.js_store.specs.State.{State}
use Rattle.js_texts.specs.Texts.{Every}
use Rattle.js_item.specs.declared.item.Item.{Item}
use Rattle.js_item.specs.Fine.{IsFine}
use Rattle.eval_scopes.specs.Bindings.{Bound, BlockFrame, Bindings, bound_in, is_among, look, meant, changed, inside, write, written, declare, declared, entered, turned, outer}
use Rattle.eval_scopes.specs.Blocks.{inner_first}
use Rattle.js_eval.specs.Seen.{BoundsFine, BindingsFine}

module _ {F R : Type 0} (s : State F) (name : R → ℕ) where
  -- what is asked of the value that a name has, if it has one
  abbrev pub FoundFine : Option (Bound (Item R)) → Type 0
  FoundFine (Some b) = IsFine s name b.value
  FoundFine None = Unit {0}

  first_fine : (t : Bool) (b : Bound (Item R)) (o : Option (Bound (Item R))) → IsFine s name b.value → FoundFine o → FoundFine (if t then Some b else o)
  first_fine true b o h k = h
  first_fine false b o h k = k

  found_fine : (bs : List (Bound (Item R))) (x : List ℕ) → BoundsFine s name bs → FoundFine (bound_in bs x)
  found_fine [] x h = tt
  found_fine (b ∷ bs) x h = first_fine (bytes_eq b.name x) b (bound_in bs x) h.0 (found_fine bs x h.1)

  inner_fine : (o : Option (Bound (Item R))) (d : Bool) (p : Option (Bound (Item R))) → FoundFine o → FoundFine p → FoundFine (inner_first o d p)
  inner_fine (Some b) d p h k = h
  inner_fine None true p h k = tt
  inner_fine None false p h k = k

  look_fine : (fs : List (BlockFrame (Item R))) (top : List (Bound (Item R))) (x : List ℕ) → Every (λ f. BoundsFine s name f.bound) fs → BoundsFine s name top → FoundFine (look fs top x)
  look_fine [] top x h k = found_fine top x k
  look_fine (f ∷ fs) top x h k = inner_fine (bound_in f.bound x) (is_among f.names x) (look fs top x) (found_fine f.bound x h.0) (look_fine fs top x h.1 k)

  pub meant_fine : (bs : Bindings (Item R)) (x : List ℕ) → BindingsFine s name bs → FoundFine (meant bs x)
  meant_fine bs x h = look_fine bs.blocks bs.top x h.blocks h.top

  first_changed : (t : Bool) (b : Bound (Item R)) (bs cs : List (Bound (Item R))) (v : Item R) → IsFine s name v → IsFine s name b.value →
      BoundsFine s name bs → BoundsFine s name cs → BoundsFine s name (if t then with_value b v ∷ bs else b ∷ cs)
  first_changed true b bs cs v f h k l = (f, k)
  first_changed false b bs cs v f h k l = (h, l)

  changed_fine : (bs : List (Bound (Item R))) (x : List ℕ) (v : Item R) → IsFine s name v → BoundsFine s name bs → BoundsFine s name (changed bs x v)
  changed_fine [] x v f h = tt
  changed_fine (b ∷ bs) x v f h = first_changed (bytes_eq b.name x) b bs (changed bs x v) v f h.0 h.1 (changed_fine bs x v f h.1)

  first_write : (t : Bool) (f : BlockFrame (Item R)) (fs : List (BlockFrame (Item R))) (top : List (Bound (Item R))) (cs : List
      (Bound (Item R))) (bs : Bindings (Item R)) → BoundsFine s name f.bound → BoundsFine s name cs → Every (λ g. BoundsFine s name g.bound)
      fs → BoundsFine s name top → BindingsFine s name bs → BindingsFine s name (if t then record { blocks = with_bound f cs ∷ fs; top = top } else inside f bs)
  first_write true f fs top cs bs h k l m n = record { blocks = (k, l); top = m }
  first_write false f fs top cs bs h k l m n = record { blocks = (h, n.blocks); top = n.top }

  write_fine : (fs : List (BlockFrame (Item R))) (top : List (Bound (Item R))) (x : List ℕ) (v : Item R) → IsFine s name v → Every
      (λ f. BoundsFine s name f.bound) fs → BoundsFine s name top → BindingsFine s name (write fs top x v)
  write_fine [] top x v f h k = record { blocks = tt; top = changed_fine top x v f k }
  write_fine (g ∷ fs) top x v f h k = first_write (is_some (bound_in g.bound x)) g fs top (changed g.bound x v) (write fs top x v) h.0
      (changed_fine g.bound x v f h.0) h.1 k (write_fine fs top x v f h.1 k)

  pub written_fine : (bs : Bindings (Item R)) (x : List ℕ) (v : Item R) → IsFine s name v → BindingsFine s name bs → BindingsFine s name (written bs x v)
  written_fine bs x v f h = write_fine bs.blocks bs.top x v f h.blocks h.top

  push_fine : (bs : List (Bound (Item R))) (b : Bound (Item R)) → IsFine s name b.value → BoundsFine s name bs → BoundsFine s name (bs ++ b ∷ [])
  push_fine [] b f h = (f, tt)
  push_fine (c ∷ bs) b f h = (h.0, push_fine bs b f h.1)

  declare_fine : (fs : List (BlockFrame (Item R))) (top : List (Bound (Item R))) (b : Bound (Item R)) → IsFine s name b.value → Every
      (λ f. BoundsFine s name f.bound) fs → BoundsFine s name top → BindingsFine s name (declare fs top b)
  declare_fine [] top b f h k = record { blocks = tt; top = push_fine top b f k }
  declare_fine (g ∷ fs) top b f h k = record { blocks = (push_fine g.bound b f h.0, h.1); top = k }

  pub declared_fine : (bs : Bindings (Item R)) (b : Bound (Item R)) → IsFine s name b.value → BindingsFine s name bs → BindingsFine s name (declared bs b)
  declared_fine bs b f h = declare_fine bs.blocks bs.top b f h.blocks h.top

  pub entered_fine : (names : List (List ℕ)) (bs : Bindings (Item R)) → BindingsFine s name bs → BindingsFine s name (entered names bs)
  entered_fine names bs h = record { blocks = (tt, h.blocks); top = h.top }

  pub turned_fine : (x : List ℕ) (v : Item R) (bs : Bindings (Item R)) → IsFine s name v → BindingsFine s name bs → BindingsFine s name (turned x v bs)
  turned_fine x v bs f h = record { blocks = ((f, tt), h.blocks); top = h.top }

  first_outer : (fs : List (BlockFrame (Item R))) (top : List (Bound (Item R))) → Every (λ f. BoundsFine s name f.bound) fs → BoundsFine s
      name top → BindingsFine s name (outer (record { blocks = fs; top = top }))
  first_outer [] top h k = record { blocks = tt; top = k }
  first_outer (f ∷ fs) top h k = record { blocks = h.1; top = k }

  pub outer_fine : (bs : Bindings (Item R)) → BindingsFine s name bs → BindingsFine s name (outer bs)
  outer_fine bs h = first_outer bs.blocks bs.top h.blocks h.top
