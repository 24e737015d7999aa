-- Slots that are noted for strings: what a note says, what keeps it, and what a load of the slot answers.
use Rattle.std.proofs.Common.{◌≡◌, ℕ, ◌+◌, ◌-◌, ◌<◌, ◌≤◌, ◌⊎◌, inl, inr, ⊎_elim, Bool, true, false, List, [], ◌∷◌, sym, refl, ap, ◌∙◌, subst, arith, Option, Some, None, Ok, IsTrue, eq-eqb, eqb-true}
use Rattle.std.specs.Prelude.{slice_index, Result, Err, IfOk}
use mathlib.Core.Logic.{dite}
use native.Mathlib.Decide.{ℕ_discrete}
use Rattle.std.specs.FinMap.{get}
use Rattle.js_header.specs.declared.form.Form.{Form}
use Rattle.js_header.specs.declared.form.Form.TheVariants.{Unborn, Flat, Cons, Sliced, Thin}
use Rattle.heap_rule.specs.declared.view.View.{View}
use Rattle.heap_rule.specs.declared.size.Counters.{Counters}
use Rattle.heap_rule.specs.Learning.{learned_all}
use Rattle.heap_rule.specs.Maps.{Has}
use Rattle.heap_rule.specs.Slots.{entry_in, loaded_slot}
use Rattle.heap_rule.specs.Sound.{IsPossible}
use Rattle.heap_rule.proofs.MapLemmas.{has_key, key_of}
use Rattle.heap_rule.proofs.SlotTests.{shut_at_decides}
use Rattle.heap_table.specs.Known.{KeepsKnown}
use Rattle.heap_intern.specs.Adopted.{LoadsHere}
use Rattle.heap_intern.specs.Answers.{HeaderPlan, IsBehind, IsFixed, IsForwarded, IsFound, IsInternAnswer, IsPlan, UsesNothing, copy_plan}
use Rattle.heap_intern.specs.Given.{InternsGiven}
use Rattle.heap_intern.specs.SlotLoads.{loads_at}
use Rattle.heap_intern.specs.Visits.{StandsAt}
use Rattle.heap_intern.specs.declared.table.faults.TableFull.{TableFull}
use Rattle.heap_intern.specs.declared.table.probing.Seat.{Seat}
use Rattle.heap_read.specs.Reads.{HoldsForms}
use Rattle.heap_intern.specs.Goes.{AddsCalls}
use Rattle.heap_intern.specs.Seats.{AreSeats, IsSeatFor, IsSeatOf, IsSeated, id_in, is_fixed_form, is_forwarded}
use Rattle.heap_intern.proofs.Adopting.{one_units}
use Rattle.heap_intern.proofs.Again.{found_again}
use Rattle.heap_intern.proofs.Going.{goes_slot}
use Rattle.heap_intern.proofs.Loading.{on_most}
use Rattle.heap_intern.proofs.Seeking.{one_form}
use Rattle.heap_intern.proofs.Visiting.{behind_kept, entered_is}

fixed_by : (o : Option Form) → IsTrue (is_fixed_form o) → (wide : Bool) × (start : ℕ) × (o ≡ Some (Flat wide start true))
fixed_by None h = let e : false ≡ true = h in absurd (cc)
fixed_by (Some Unborn) h = let e : false ≡ true = h in absurd (cc)
fixed_by (Some (Flat wide start fixed)) h = (wide, start, ap (λ (b : Bool). Some (Flat wide start b)) h)
fixed_by (Some (Cons wide left right)) h = let e : false ≡ true = h in absurd (cc)
fixed_by (Some (Sliced wide parent offset)) h = let e : false ≡ true = h in absurd (cc)
fixed_by (Some (Thin target)) h = let e : false ≡ true = h in absurd (cc)

forwarded_by : (t : ℕ) (o : Option Form) → IsTrue (is_forwarded t o) → (o ≡ Some (Thin t)) ⊎ ((wide : Bool) × (start : ℕ) × (o ≡ Some (Flat wide start true)))
forwarded_by t None h = let e : false ≡ true = h in absurd (cc)
forwarded_by t (Some Unborn) h = let e : false ≡ true = h in absurd (cc)
forwarded_by t (Some (Flat wide start fixed)) h = inr (wide, start, ap (λ (b : Bool). Some (Flat wide start b)) h)
forwarded_by t (Some (Cons wide left right)) h = let e : false ≡ true = h in absurd (cc)
forwarded_by t (Some (Sliced wide parent offset)) h = let e : false ≡ true = h in absurd (cc)
forwarded_by t (Some (Thin target)) h = inl (ap (λ (x : ℕ). Some (Thin x)) (eqb-true target t h))

is_forwarded_to : (v : View) (s t : ℕ) → IsForwarded v s t → IsTrue (is_forwarded t (get v.forms s))
is_forwarded_to v s t h = ⊎_elim
    (λ (a : Has v.forms s (Thin t)). subst (λ (o : Option Form). IsTrue (is_forwarded t o)) (sym a) (eq-eqb t t refl))
    (λ (b : (wide : Bool) × (start : ℕ) × Has v.forms s (Flat wide start true)). subst (λ (o : Option Form). IsTrue (is_forwarded t o)) (sym b.2) refl) h

-- what a note says, with its witnesses
pub record IsSeat (v : View) (s k : ℕ) : Type 0 where
  pub target : ℕ
  pub units : List ℕ
  pub here : Has v.units s units
  pub fixed : IsFixed v units target
  pub stands : Has v.slots k target
  pub behind : IsBehind v units k
  pub forwards : IsForwarded v s target

pub seat_of : (v : View) (s k : ℕ) → IsSeated v s k → IsSeat v s k
seat_of v s k h = let u = has_key v.units s h.0 in let t = has_key v.slots k h.1 in let f = h.2 t.0 u.0 t.1 u.1 in let flat = fixed_by (get v.forms t.0) f.0.1 in record {
  target = t.0;
  units = u.0;
  here = u.1;
  fixed = ((flat.0, flat.1, flat.2), f.0.0);
  stands = t.1;
  behind = λ j l r. (shut_at_decides v u.0 j).0 (f.0.2 j l r);
  forwards = forwarded_by t.0 (get v.forms s) f.1;
}

seat_for : (v : View) (s k : ℕ) (x : IsSeat v s k) → IsSeatFor v x.units x.target k × IsTrue (is_forwarded x.target (get v.forms s))
seat_for v s k x = (
  (x.fixed.1, subst (λ (o : Option Form). IsTrue (is_fixed_form o)) (sym x.fixed.0.2) refl, λ j l r. (shut_at_decides v x.units j).1 (x.behind j l r)),
  is_forwarded_to v s x.target x.forwards,
)

pub seated_by : (v : View) (s k : ℕ) → IsSeat v s k → IsSeated v s k
seated_by v s k x = (
  key_of v.units s x.units x.here,
  key_of v.slots k x.target x.stands,
  λ t us at own.
      let e : Some x.target ≡ Some t = sym x.stands ∙ at in let same : x.target ≡ t = cc in
      subst (λ (ws : List ℕ). IsSeatFor v ws t k × IsTrue (is_forwarded t (get v.forms s))) (one_units v s x.units us x.here own)
      (subst (λ (i : ℕ). IsSeatFor v x.units i k × IsTrue (is_forwarded i (get v.forms s))) same (seat_for v s k x)),
)

-- what is known stays known, so a note stays right
module _ (v w : View) (p : IsPossible v) (known : KeepsKnown v w) (sizes : w.sizes ≡ v.sizes) where
  seat_kept : (s k : ℕ) → IsSeat v s k → IsSeat w s k
  seat_kept s k x = record {
    target = x.target;
    units = x.units;
    here = known.units s x.units x.here;
    fixed = ((x.fixed.0.0, x.fixed.0.1, known.flats x.target x.fixed.0.0 x.fixed.0.1 x.fixed.0.2), known.units x.target x.units x.fixed.1);
    stands = known.slots k x.target x.stands;
    behind = behind_kept v w p known x.units sizes k x.behind;
    forwards = ⊎_elim (λ (a : Has v.forms s (Thin x.target)). inl (known.thins s x.target a))
        (λ (b : (wide : Bool) × (start : ℕ) × Has v.forms s (Flat wide start true)). inr (b.0, b.1, known.flats s b.0 b.1 b.2)) x.forwards;
  }

  pub seats_kept : (seats : List ℕ) → AreSeats v seats → AreSeats w seats
  seats_kept seats h s some = seated_by w s (slice_index seats s - 1) (seat_kept s (slice_index seats s - 1) (seat_of v s (slice_index seats s - 1) (h s some)))

-- the slot of a string that was interned is noted
pub seats_with : (w : View) (seats later : List ℕ) (id k : ℕ) → ((i : ℕ) → (slice_index later i ≡ slice_index seats i) ⊎
    ((i ≡ id) × (slice_index later i ≡ k + 1))) → AreSeats w seats → IsSeat w id k → AreSeats w later
seats_with w seats later id k only h x s some = ⊎_elim
    (λ (e : slice_index later s ≡ slice_index seats s). subst (λ (n : ℕ). IsSeated w s (n - 1)) (sym e) (h s (subst (λ (n : ℕ). 0 < n) e some)))
    (λ (t : (s ≡ id) × (slice_index later s ≡ k + 1)). let is : slice_index later s - 1 ≡ k = (let e = t.1 in omega arith) in
    subst (λ (n : ℕ). IsSeated w s n) (sym is) (subst (λ (i : ℕ). IsSeated w i k) (sym t.0) (seated_by w id k x)))
    (only s)

-- the one load of the slot
module _ (v w : View) (s k t : ℕ) (x : IsSeat v s k) (known : KeepsKnown v w) (e : w ≡ learned_all (loaded_slot v k (entry_in v k) (t + 1))) (same : t ≡ x.target) where
  goes : AddsCalls v w ((x.units, x.target) ∷ []) × (w.used ≡ v.used)
  goes = goes_slot v w k (t + 1) (entry_in v k) ((x.units, x.target) ∷ []) (entered_is v k x.target x.units x.stands x.fixed.1) known e

  pub again_unused : UsesNothing v w
  again_unused = (ap (λ (n : Counters). n.ids) goes.1, ap (λ (n : Counters). n.words) goes.1)

  pub again_forwards : IsForwarded w s t
  again_forwards = subst (IsForwarded w s) (sym same) (⊎_elim (λ (a : Has v.forms s (Thin x.target)). inl (known.thins s x.target a))
      (λ (b : (wide : Bool) × (start : ℕ) × Has v.forms s (Flat wide start true)). inr (b.0, b.1, known.flats s b.0 b.1 b.2)) x.forwards)

  found_by : (f : Form) → Has v.forms s f → IsFound v s f
  found_by f h g own = inl (one_form v s g f own h)

  plan_by : (plan : HeaderPlan) × IsPlan v w s x.units plan
  plan_by = ⊎_elim
      (λ (a : Has v.forms s (Thin x.target)). (
        record { words = 0; wide = x.fixed.0.0; start = Some x.fixed.0.1 },
        (
          Thin x.target,
          found_by (Thin x.target) a,
          (refl, (x.fixed.0.1, known.flats x.target x.fixed.0.0 x.fixed.0.1 x.fixed.0.2, λ some. refl)),
          again_unused,
        ),
      ))
      (λ (b : (wide : Bool) × (start : ℕ) × Has v.forms s (Flat wide start true)).
      (record { words = 0; wide = b.0; start = Some b.1 }, (Flat b.0 b.1 true, found_by (Flat b.0 b.1 true) b.2, (refl, refl, λ some. refl), tt)))
      x.forwards

  module _ (sizes : w.sizes ≡ v.sizes) (p : IsPossible v) where
    answer : (plan : HeaderPlan) → IsInternAnswer v w x.units plan (Ok x.target)
    answer plan = let u = again_unused.0 in let m = again_unused.1 in (
      goes.0,
      omega arith,
      omega arith,
      ((x.fixed.0.0, x.fixed.0.1, known.flats x.target x.fixed.0.0 x.fixed.0.1 x.fixed.0.2), known.units x.target x.units x.fixed.1),
      (k, known.slots k x.target x.stands, behind_kept v w p known x.units sizes k x.behind),
      inl again_unused,
    )

    pub again_interns : (us : List ℕ) → Has v.units s us → (plan : HeaderPlan) × IsPlan v w s us plan × IsInternAnswer v w us plan (Ok t)
    again_interns us own = subst (λ (ws : List ℕ). (plan : HeaderPlan) × IsPlan v w s ws plan × IsInternAnswer v w ws plan (Ok t)) (one_units v s x.units us x.here own)
        (plan_by.0, plan_by.1, subst (λ (i : ℕ). IsInternAnswer v w x.units plan_by.0 (Ok i)) (sym same) (answer plan_by.0))

    -- the same as an answer for the units alone
    pub again_given : IsPossible w → HoldsForms v w → ((j : ℕ) → loads_at w j ≤ loads_at v j + 2) → (us : List ℕ) → Has v.units s us → InternsGiven v w us (Ok t)
    again_given q forms few us own = subst (λ (ws : List ℕ). InternsGiven v w ws (Ok t)) (one_units v s x.units us x.here own)
        (let done = subst (λ (i : ℕ). IsInternAnswer v w x.units (copy_plan x.units) (Ok i)) (sym same) (answer (copy_plan x.units)) in record {
          answer = done;
          again = λ i u stands. found_again v w x.units p q i u stands (copy_plan x.units) (Ok t) done;
          forms = forms;
          few = few;
        })

  pub again_sizes : w.sizes ≡ v.sizes
  again_sizes = goes.0.sizes

-- one load of a slot is fewer than three
pub here_few : (v w : View) (k : ℕ) → LoadsHere v w k 1 → (j : ℕ) → loads_at w j ≤ loads_at v j + 2
here_few v w k h j = dite (ℕ_discrete j k)
    (λ e. subst (λ (i : ℕ). loads_at w i ≤ loads_at v i + 2) (sym e) (let a = h.here in let b = on_most (loads_at v k) 1 in omega arith))
    (λ ne. let a = h.others j ne in omega arith)

-- an interned string where it stands
pub seat_itself : (v : View) (us : List ℕ) (x : Seat) → IsFixed v us x.id → StandsAt v us x.slot x.id → IsSeatOf v us x
seat_itself v us x f s = (
  s.0,
  f.1,
  seated_by v x.id x.slot (record {
    target = x.id;
    units = us;
    here = f.1;
    fixed = f;
    stands = s.0;
    behind = s.1;
    forwards = inr f.0;
  }),
)

-- what is known stays known, so it is there still
pub seat_stays : (v w : View) → IsPossible v → KeepsKnown v w → w.sizes ≡ v.sizes → (us : List ℕ) (x : Seat) → IsSeatOf v us x → IsSeatOf w us x
seat_stays v w p known sizes us x h = (
  known.slots x.slot x.id h.0,
  known.units x.id us h.1,
  seated_by w x.id x.slot (seat_kept v w p known sizes x.id x.slot (seat_of v x.id x.slot h.2)),
)

-- an answer of the table, with the slot where it stands
pub seated_all : (v w : View) (us : List ℕ) (plan : HeaderPlan) (W : List ℕ → Type 0) (r : Result Seat TableFull) → W us → IsInternAnswer v w us plan (id_in r) →
    IfOk r (λ s. (ws : List ℕ) → W ws → StandsAt w ws s.slot s.id) → IfOk r (λ s. IsSeatOf w us s)
seated_all v w us plan W (Ok s) wanted h stands = seat_itself w us s h.3 (stands us wanted)
seated_all v w us plan W (Err f) wanted h stands = tt
