-- A string that is looked for: what the walk ends with, from before the loads that found its words, and after what follows.
use Rattle.std.proofs.Common.{◌≡◌, ◌≢◌, ℕ, zero, suc, ◌<◌, inl, inr, List, [], ◌∷◌, refl, sym, ap, ◌∙◌, subst, arith, Option, Some, None, Ok, Err, IsTrue}
use Rattle.std.specs.Prelude.{unwrap_or}
use Rattle.std.specs.FinMap.{FinMap, get}
use Rattle.std.specs.Ordering.{nat_cmp}
use Rattle.js_header.specs.declared.form.Form.{Form}
use Rattle.js_header.specs.declared.form.Form.TheVariants.{Thin}
use Rattle.heap_rule.specs.declared.view.View.{View}
use Rattle.heap_rule.specs.declared.size.HeapSize.{HeapSize}
use Rattle.heap_rule.specs.Maps.{Has}
use Rattle.heap_rule.specs.Paths.{rank}
use Rattle.heap_rule.specs.SlotTests.{shut}
use Rattle.heap_rule.specs.Sound.{IsPossible}
use Rattle.heap_table.specs.Known.{KeepsKnown}
use Rattle.heap_read.specs.Reads.{HoldsForms, OnlyLoads}
use Rattle.heap_intern.specs.declared.table.faults.TableFull.{TableFull}
use Rattle.heap_intern.specs.declared.table.faults.TableFull.TheVariants.{Ids, Words, Slots}
use Rattle.heap_intern.specs.declared.table.given.Given.{Given}
use Rattle.heap_intern.specs.declared.table.searching.Opening.{Opening}
use Rattle.heap_intern.specs.declared.table.strings.StringOpening.{StringOpening}
use Rattle.heap_intern.specs.Answers.{FindsString, HeaderPlan, IsFixed, IsInternAnswer, StandsInSlot, UsesNothing}
use Rattle.heap_intern.specs.Goes.{AddsCalls, LoadsAlone}
use Rattle.heap_intern.specs.Headers.{begins, target_of}
use Rattle.heap_intern.specs.Searching.{IsOpening, IsStringOpening, LoadsUpTo}
use Rattle.heap_intern.specs.SlotLoads.{loads_at}
use Rattle.heap_intern.specs.Taking.{AnswersAt, IsGivenTaken, IsKeyAnswer, without_given}
use Rattle.heap_intern.specs.Wanted.{IsWanted}
use Rattle.heap_intern.specs.declared.table.wanted.Wanted.TheVariants.{Str}
use Rattle.heap_intern.specs.Visits.{IsFreeAt, StandsAt}
use Rattle.heap_intern.proofs.Going.{goes_self, goes_trans, looks_reads, looks_trans}
use Rattle.heap_intern.proofs.Opened.{opening_kept, opening_open}
use Rattle.heap_intern.proofs.Seeking.{frozen_kept, sought_kept}
use Rattle.heap_intern.proofs.Wanting.{wanted_kept}
use Rattle.heap_intern.proofs.Visiting.{behind_kept, fixed_kept, interned_then, open_later, stands_kept}

-- A slot was found free, and a string that was there was put into it, or was found behind it.
pub placed_finds : (v w x : View) (us : List ℕ) (i : ℕ) → LoadsAlone v w → UsesNothing w x → IsKeyAnswer w x us (Ok i) → FindsString v x us (Some i)
placed_finds v w x us i l n h = (goes_trans v w x [] ((us, i) ∷ []) l.goes h.0, (n.0 ∙ l.used, n.1 ∙ l.words), h.1, h.2)

pub placed_shut : (w x : View) (us : List ℕ) (f : TableFull) → IsKeyAnswer w x us (Err f) → IsTrue (shut x us x.sizes.slots)
placed_shut w x us (Slots m) h = h.2
placed_shut w x us (Ids f) h = absurd h
placed_shut w x us (Words f) h = absurd h

goes_refused : (w x : View) (us : List ℕ) (f : TableFull) → IsKeyAnswer w x us (Err f) → AddsCalls w x []
goes_refused w x us (Slots m) h = h.0
goes_refused w x us (Ids f) h = absurd h
goes_refused w x us (Words f) h = absurd h

pub placed_none : (v w x : View) (us : List ℕ) (f : TableFull) → LoadsAlone v w → UsesNothing w x → IsKeyAnswer w x us (Err f) → FindsString v x us None
placed_none v w x us f l n h = (
  record { goes = goes_trans v w x [] [] l.goes (goes_refused w x us f h); used = n.0 ∙ l.used; words = n.1 ∙ l.words },
  inr (placed_shut w x us f h),
)

-- What interning answered with nothing used is what a search finds.
pub finds_ready : (v w : View) (us : List ℕ) (plan : HeaderPlan) (i : ℕ) → UsesNothing v w → IsInternAnswer v w us plan (Ok i) → FindsString v w us (Some i)
finds_ready v w us plan i n h = (h.0, n, h.3, h.4)

-- What a search found, or that every slot differs, is what interning answers.
pub finds_answer : (v w : View) (us : List ℕ) (plan : HeaderPlan) (i : ℕ) → FindsString v w us (Some i) → IsInternAnswer v w us plan (Ok i)
finds_answer v w us plan i f = let a = f.1.0 in let b = f.1.1 in (f.0, omega (arith, a), omega (arith, b), f.2, f.3, inl f.1)

pub shut_answer : (v w : View) (us : List ℕ) (plan : HeaderPlan) (n : ℕ) → LoadsAlone v w → n ≡ w.sizes.slots → IsTrue (shut w us w.sizes.slots) → IsInternAnswer v w us plan (Err (Slots n))
shut_answer v w us plan n l e all = (l.goes, (e, all, inl (l.used, l.words)))

-- Loads before the walk, and a step behind it that loads.
pub finds_around : (a u w x : View) (us : List ℕ) (i : ℕ) → IsPossible w → LoadsAlone a u → FindsString u w us (Some i) → LoadsAlone w x → FindsString a x us (Some i)
finds_around a u w x us i p l f m = let g = goes_trans u w x ((us, i) ∷ []) [] f.0 m.goes in (
  goes_trans a u x [] ((us, i) ∷ []) l.goes g,
  (m.used ∙ (f.1.0 ∙ l.used), m.words ∙ (f.1.1 ∙ l.words)),
  fixed_kept w x p m.goes.known us i f.2,
  stands_kept w x p m.goes.known us m.goes.sizes i f.3,
)

pub stands_around : (w x : View) (us : List ℕ) (k i : ℕ) → IsPossible w → LoadsAlone w x → StandsAt w us k i → StandsAt x us k i
stands_around w x us k i p m s = (m.goes.known.slots k i s.0, behind_kept w x p m.goes.known us m.goes.sizes k s.1)

pub none_before_walk : (a u w : View) (us : List ℕ) → LoadsAlone a u → FindsString u w us None → FindsString a w us None
none_before_walk a u w us l f = (looks_trans a u w l f.0, f.1)

at_loads : (v w : View) → w.slot_loads ≡ v.slot_loads → (k : ℕ) → loads_at w k ≡ loads_at v k
at_loads v w e k = ap (λ (m : FinMap nat_cmp ℕ). unwrap_or (get m k) 0) e

-- A slot was found free.
module _ (a u w x : View) (us : List ℕ) (o : Opening) (p : IsPossible w) (q : IsPossible x) (l : LoadsAlone a u) (first : u.slot_loads ≡ a.slot_loads) (f : FindsString u w us None)
    (e : IsFreeAt u w us o.slot o.rank) (hash : IsOpening w us o) (m : OnlyLoads w x) where
  pub opening_around : IsOpening x us o
  opening_around = opening_kept w x us o p m.known m.sizes m.slots hash

  pub opened_around : FindsString a x us None
  opened_around = (
    looks_trans a w x (looks_trans a u w l f.0) (looks_reads w x m),
    inl (opening_open x x us o q opening_around (goes_self x).known (goes_self x).sizes),
  )

  pub loads_around : LoadsUpTo a x us o
  loads_around = record {
    once = λ k. let b = at_loads a u first k in let c = at_loads w x m.slot_loads k in let d = e.once k in omega (arith, b, c, d);
    ahead = λ k far. at_loads w x m.slot_loads k ∙ (e.ahead k (subst (λ (z : HeapSize). o.rank < rank us z.slots k) m.sizes far) ∙ at_loads a u first k);
  }

-- a form to which no header is known is none that forwards
pub never_thin : (f : Form) → target_of f ≡ None → (t : ℕ) → f ≢ Thin t
never_thin f e t is = let bad : Some t ≡ None = sym (ap target_of is) ∙ e in cc

-- an opening for a string stays one over steps that load no slot and no form
pub string_opening_kept : (v w : View) (us : List ℕ) (o : StringOpening) → IsPossible v → KeepsKnown v w → HoldsForms v w → w.sizes ≡ v.sizes → w.slots ≡ v.slots → IsStringOpening v us o
    → IsStringOpening w us o
string_opening_kept v w us o p known forms sizes slots h = record {
  sought = sought_kept v w known forms o.sought h.sought;
  units = known.units o.sought.id us h.units;
  frozen = frozen_kept v w known o.sought.window h.frozen;
  alone = h.alone;
  wide = h.wide;
  words = h.words;
  opening = opening_kept v w us o.opening p known sizes slots h.opening;
}

-- The header forwards after what was answered.
taken_then : (v w x : View) (us : List ℕ) (plan : HeaderPlan) (g : Given) (i : ℕ) → IsPossible w → IsGivenTaken v w us plan g (Ok i) → KeepsKnown v w → LoadsAlone w x → IsGivenTaken v x us plan g (Ok i)
taken_then v w x us plan g i p h known m = let k = m.goes.known in record {
  settled = (
    goes_trans (without_given v plan.words g) w x ((us, i) ∷ []) [] h.settled.0 m.goes,
    fixed_kept w x p k us i h.settled.1,
    stands_kept w x p k us m.goes.sizes i h.settled.2,
  );
  form = k.flats g.id plan.wide (unwrap_or plan.start g.start) h.form;
  units = k.units g.id us h.units;
  opened = open_later v w x us p k m.goes.sizes h.opened;
}

known_without : (v w : View) (n : ℕ) (g : Given) → KeepsKnown (without_given v n g) w → KeepsKnown v w
known_without v w n g k = record { units = k.units; lengths = k.lengths; flats = k.flats; thins = k.thins; settled = k.settled; frozen = k.frozen; known = k.known; slots = k.slots }

pub answers_then : (v w x : View) (us : List ℕ) (plan : HeaderPlan) (g : Option Given) (i : ℕ) → IsPossible w → AnswersAt v w us plan g (Ok i) → LoadsAlone w x → AnswersAt v x us plan g (Ok i)
answers_then v w x us plan None i p h m = interned_then v w x us plan i p h m
answers_then v w x us plan (Some g) i p h m = (
  taken_then v w x us plan g i p h.0 (known_without v w plan.words g h.0.settled.0.known) m,
  (m.used ∙ h.1.0, m.words ∙ h.1.1),
)

-- what is answered either way
pub record HasAnswered (v w : View) (us : List ℕ) (i : ℕ) : Type 0 where
  pub known : KeepsKnown v w
  pub sizes : w.sizes ≡ v.sizes
  pub fixed : IsFixed w us i
  pub stands : StandsInSlot w us i

pub has_answered : (v w : View) (us : List ℕ) (plan : HeaderPlan) (g : Option Given) (i : ℕ) → AnswersAt v w us plan g (Ok i) → HasAnswered v w us i
has_answered v w us plan None i h = record { known = h.0.known; sizes = h.0.sizes; fixed = h.3; stands = h.4 }
has_answered v w us plan (Some g) i h = let s = h.0.settled in record { known = known_without v w plan.words g s.0.known; sizes = s.0.sizes; fixed = s.1; stands = s.2 }

key_refused : (v w : View) (us : List ℕ) (f : TableFull) → IsKeyAnswer v w us (Err f) → KeepsKnown v w × (w.sizes ≡ v.sizes)
key_refused v w us (Slots n) h = (h.0.known, h.0.sizes)
key_refused v w us (Ids f) h = absurd h
key_refused v w us (Words f) h = absurd h

pub has_refused : (v w : View) (us : List ℕ) (plan : HeaderPlan) (g : Option Given) (f : TableFull) → AnswersAt v w us plan g (Err f) → KeepsKnown v w × (w.sizes ≡ v.sizes)
has_refused v w us plan None f h = (h.0.known, h.0.sizes)
has_refused v w us plan (Some g) f h = let t = key_refused (without_given v plan.words g) w us f h.0.settled in (known_without v w plan.words g t.0, t.1)

-- The header that an opening needs.
pub one_opening : (v : View) (us ws : List ℕ) (o : StringOpening) → IsStringOpening v ws o → Has v.units o.sought.id us → IsStringOpening v us o
one_opening v us ws o h u = let e : Some ws ≡ Some us = sym h.units ∙ u in let same : ws ≡ us = cc in subst (λ (l : List ℕ). IsStringOpening v l o) same h

pub plain_start : (n start first given : ℕ) → (n ≡ 0 → first ≡ 0) → (0 < n → first ≡ start) → given ≡ 0 → first ≡ unwrap_or (begins n start) given
plain_start zero start first given none some e = none refl ∙ sym e
plain_start (suc n) start first given none some e = some (omega arith)

pub opening_wanted : (v w : View) (us : List ℕ) (o : StringOpening) → KeepsKnown v w → HoldsForms v w → IsStringOpening v us o → IsWanted w (Str o.sought) us
opening_wanted v w us o k f h = wanted_kept v w k f (Str o.sought) us (h.sought, h.units, h.frozen)

-- what a search leaves, whatever it ends with
pub search_known : (v w : View) (us : List ℕ) (r : Option ℕ) → FindsString v w us r → KeepsKnown v w × (w.sizes ≡ v.sizes)
search_known v w us (Some i) f = (f.0.known, f.0.sizes)
search_known v w us None f = (f.0.goes.known, f.0.goes.sizes)
