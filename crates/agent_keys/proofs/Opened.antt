-- Interning units: their string is found, no slot is free, or an opening is found, and then what is reserved is renewed, where that is due, and the string made.
use Rattle.std.proofs.Common.{◌≡◌, ◌≢◌, ◌∙◌, ⊎_elim, inl, inr, ℕ, ◌+◌, ◌≤◌, List, Option, None, Some, Result, Ok, Err, ap, refl, subst, sym, arith}
use Rattle.std.specs.Prelude.{Contains, IfOk, IsTrue}
use Rattle.js_header.specs.declared.form.Form.{Form}
use Rattle.js_header.specs.declared.form.Form.TheVariants.{Unborn, Flat, Cons, Sliced, Thin}
use Rattle.heap_rule.specs.declared.view.View.{View}
use Rattle.heap_rule.specs.Maps.{Has}
use Rattle.heap_rule.specs.SlotTests.{shut}
use Rattle.heap_rule.specs.Sound.{IsPossible}
use Rattle.heap_rule.specs.Views.{history}
use Rattle.heap_intern.specs.declared.table.strings.StringOpening.{StringOpening}
use Rattle.heap_table.specs.Known.{KeepsKnown}
use Rattle.heap_read.proofs.Loaded.{known_trans}
use Rattle.heap_intern.specs.declared.table.faults.TableFull.{TableFull}
use Rattle.heap_intern.specs.declared.table.faults.TableFull.TheVariants.{Ids, Words, Slots}
use Rattle.heap_intern.specs.declared.table.searching.KeySearch.TheVariants.{Open}
use Rattle.heap_intern.specs.declared.table.searching.Opening.{Opening}
use Rattle.heap_intern.specs.Answers.{HeaderPlan, IsForwarded, IsFound, IsFoundAgain, IsInternAnswer, IsPlan, IsPlanBy, MakesNone, StandsInSlot, UsesNothing, copy_plan}
use Rattle.heap_intern.specs.Goes.{LoadsAlone}
use Rattle.heap_intern.specs.Taking.{IsKeyAnswer, without_given}
use Rattle.heap_intern.proofs.Giving.{settled_after, without_later}
use Rattle.heap_intern.proofs.Adopting.{one_units}
use Rattle.heap_intern.proofs.Going.{goes_self}
use Rattle.heap_intern.proofs.Planning.{plan_is}
use Rattle.heap_intern.proofs.Visiting.{interns_after, open_before}
use Rattle.heap_read.specs.Reads.{HoldsForms}
use Rattle.heap_intern.specs.Searching.{IsStringOpening, LoadsFrom, SearchesKey, opening_plan}
use Rattle.heap_intern.specs.SlotLoads.{loads_at}
use Rattle.heap_intern.proofs.Opened.{opening_few}
use Rattle.heap_reserve.specs.declared.reserve.Reserve.{Reserve}
use Rattle.heap_reserve.specs.Interning.{InternsAt, InternsKept, IsKeyTaken}
use Rattle.heap_reserve.proofs.Interned.{same_used}
use Rattle.heap_reserve.specs.Reserves.{IsReserve, IsTakenFrom}
use Rattle.heap_text.specs.Texts.{KeepsOwnBut}
use Rattle.heap_ids.specs.declared.ids.IdSet.{IdSet}
use Rattle.heap_ids.specs.Sets.{IsIn}
use Rattle.heap_agents.specs.declared.held.Held.{Held}
use Rattle.heap_notes.specs.declared.seats.Seats.{Seats}
use Rattle.heap_agents.specs.Held.{IsHeld, KeepsMarks, MarksNothing, MarksOnlyKey, StaysMarked, view_by}
use Rattle.heap_agents.specs.Interned.{HasEntered, IsEntered, KeepsCalls}
use Rattle.agent_keys.specs.Keys.{FindsOpening, FoundUnits, InternedString, InternedUnits, InternsByPlan, MarksAnswer, PlansHeader, TakesNone}
use Rattle.heap_notes.specs.Noted.{AreNoted}
use Rattle.agent_keys.specs.Openings.{Interns, TakesKey}
use Rattle.agent_makes.specs.Preparing.{IsPrepared, Prepares}
use Rattle.heap_agents.specs.Shared.{IsSameText, IsThere, SharedText, view_if}
use Rattle.agent_makes.specs.Spending.{IsRenewalDue}
use Rattle.agent_keys.proofs.Answered.{missing_units}
use Rattle.heap_agents.proofs.Calls.{calls_looked, continued}
use Rattle.agent_keys.proofs.Interned.{leaves_at}
use Rattle.heap_agents.proofs.Marks.{noted_spent, same_trans}
use Rattle.agent_makes.proofs.Renewed.{stays_trans}

-- a call that goes on from an opening, by which the text of x became m, what x notes `seats`, and what it has in reserve r
module _ (x : Held) (m : Option SharedText) (seats : Seats) (r : Reserve) (held : IsHeld x) (there : IsThere m) (same : IsSameText x.text m) (right : AreNoted (view_if m) seats)
    (reserved : IsReserve (view_if m) r) (us : List ℕ) (plan : HeaderPlan) (o : Opening) (loads : LoadsFrom (view_by x) (view_if m) us o) where
  abbrev rest : Held
  rest = record x { text = m; seats = seats; reserve = r }

  pub held_at : (a : Result ℕ TableFull) → InternsAt (view_by x) (view_if m) x.reserve r us plan a → IsHeld (record x { text = m; seats = seats; reserve = r })
  held_at a g = let l = leaves_at (view_by x) (view_if m) x.reserve r us plan a g in noted_spent x m held there same l.known.units l.calls l.agents seats r right reserved

  pub refused_at : (f : TableFull) → InternsAt (view_by x) (view_if m) x.reserve r us plan (Err f) → TakesKey x (record x { text = m; seats = seats; reserve = r }) us plan o (Err f)
  refused_at f g = let l = leaves_at (view_by x) (view_if m) x.reserve r us plan (Err f) g in record {
    held = held_at (Err f) g;
    same = same;
    marks = record { known = λ i h. h; interned = λ i h. h; number = λ i. x.number; giver = λ i. x.giver; blocks = λ i. x.blocks };
    marked = (refl, refl);
    known = l.known;
    calls = l.calls;
    entered = tt;
    interns = g;
    loads = loads;
  }

  module _ (y : Held) (is : y.text ≡ m) (i : ℕ) (own : IsHeld y) (keeps : KeepsMarks (record x { text = m; seats = seats; reserve = r }) y)
      (marked : MarksOnlyKey (record x { text = m; seats = seats; reserve = r }) y i) where
    pub marked_at : InternsAt (view_by x) (view_if m) x.reserve r us plan (Ok i) → TakesKey x y us plan o (Ok i)
    marked_at g = let l = leaves_at (view_by x) (view_if m) x.reserve r us plan (Ok i) g in record {
      held = own;
      same = subst (λ (n : Option SharedText). IsSameText x.text n) (sym is) same;
      marks = record { known = keeps.known; interned = keeps.interned; number = keeps.number; giver = keeps.giver; blocks = keeps.blocks };
      marked = record { known = marked.known; interned = marked.interned; only = marked.only; only_interned = marked.only_interned };
      known = subst (λ (n : Option SharedText). KeepsKnown (view_by x) (view_if n)) (sym is) l.known;
      calls = subst (λ (n : Option SharedText). KeepsCalls (view_by x) (view_if n)) (sym is) l.calls;
      entered = subst (λ (n : Option SharedText). HasEntered (view_if n) us i) (sym is) l.entered;
      interns = subst (λ (s : Reserve). InternsAt (view_by x) (view_by y) x.reserve s us plan (Ok i)) (sym keeps.reserve)
          (subst (λ (n : Option SharedText). InternsAt (view_by x) (view_if n) x.reserve r us plan (Ok i)) (sym is) g);
      loads = subst (λ (n : Option SharedText). LoadsFrom (view_by x) (view_if n) us o) (sym is) loads;
    }

stays : (x y : Held) → KeepsMarks x y → StaysMarked x y
stays x y k = record { known = k.known; interned = k.interned; number = k.number; giver = k.giver; blocks = k.blocks }

-- No string was made, so it is as by what is reserved.
answer_none : (v w : View) (us : List ℕ) (plan : HeaderPlan) (a : Result ℕ TableFull) → IsKeyAnswer v w us a → UsesNothing v w → IsInternAnswer v w us plan a
answer_none v w us plan (Ok i) h n = let e = n.0 in let d = n.1 in (h.0, omega (arith, e), omega (arith, d), h.1, h.2, inl n)
answer_none v w us plan (Err (Slots m)) h n = (h.0, (h.1, h.2, inl n))
answer_none v w us plan (Err (Ids f)) h n = absurd h
answer_none v w us plan (Err (Words f)) h n = absurd h

kept_none : (v w : View) (r s : Reserve) (us : List ℕ) (plan : HeaderPlan) (a : Result ℕ TableFull) → s ≡ r → IsKeyAnswer v w us a → UsesNothing v w → IsFoundAgain v w us a
    → InternsKept v w r s us plan a
kept_none v w r s us plan a same h n again = record {
  enough = λ e. record { ways = inl (same, h); used = same_used v w n };
  claimed = λ no. (same, answer_none v w us plan a h n);
  again = λ i u t. let q = again i u t in (q.0, q.1, same);
}

-- A string was made, with what was reserved.
module _ (v u w : View) (r s : Reserve) (us : List ℕ) (plan : HeaderPlan) (o : Opening) (a : Result ℕ TableFull) (f : SearchesKey v u us (Open o)) (h : InternsAt u w r s us plan a) where
  abbrev looks : LoadsAlone v u
  looks = f.finds.answer.0

  pub never_there : (i : ℕ) → Has v.units i us → StandsInSlot v us i → ⊥
  never_there i x t = let bad : None ≡ Some i = f.finds.again i x t in cc

  but_before : (id start n : ℕ) → KeepsOwnBut u w id start n → KeepsOwnBut v w id start n
  but_before id start n k = record { ids = λ i m ne x. k.ids i m ne (looks.goes.own_ids i m x); words = λ c y side x. k.words c y side (looks.goes.own_words c y x) }

  taken_before : (id n : ℕ) → IsTakenFrom u w r s id n → IsTakenFrom v w r s id n
  taken_before id n t = record {
    had_id = λ some. let e = t.had_id some in (e.0, e.1 ∙ looks.used);
    new_id = λ none. let e = t.new_id none in (e.0, e.1 ∙ ap (λ (k : ℕ). k + 1) looks.used);
    had_words = λ fits. let e = t.had_words fits in (e.0, e.1, e.2 ∙ looks.words, but_before id r.start n e.3);
    new_words = λ more. let e = t.new_words more in (e.0, e.1, e.2 ∙ ap (λ (k : ℕ). k + n) looks.words, but_before id 0 0 e.3);
  }

  taken_opened : IsKeyTaken u w r s us plan a → IsKeyTaken v w r s us plan a
  taken_opened k = record {
    given = k.given;
    offered = k.offered;
    interned = record {
      settled = settled_after (without_given v plan.words k.given) (without_given u plan.words k.given) w us a (without_later v u plan.words k.given looks.goes) k.interned.settled;
      form = k.interned.form;
      units = k.interned.units;
      opened = open_before v u w us looks.goes.known k.interned.opened;
    };
    taken = taken_before k.given.id plan.words k.taken;
  }

  pub kept_opened : InternsKept v w r s us plan a
  kept_opened = record {
    enough = λ e. let k = taken_opened (h.enough e) in let i = k.taken.had_id e.0 in let c = k.taken.had_words e.1 in record { ways = inr k; used = same_used v w (i.1, c.2) };
    claimed = λ no. let t = h.claimed no in (t.0, interns_after v u w us plan a looks t.1);
    again = λ i x p. absurd (never_there i x p);
  }

-- It was in the table.
pub found_by_plan : (x y : Held) (us : List ℕ) (plan : HeaderPlan) (i : ℕ) → FoundUnits x y us (Some i) → ((k : ℕ) → loads_at (view_by y) k ≤ loads_at (view_by x) k + 2)
    → Interns x y us plan (Ok i)
found_by_plan x y us plan i f few = let answer : IsKeyAnswer (view_by x) (view_by y) us (Ok i) = (f.finds.0, f.finds.2, f.finds.3) in record {
  held = f.held;
  same = f.same;
  marks = stays x y f.marks;
  marked = f.marked;
  known = f.known;
  calls = f.calls;
  entered = f.entered;
  interns = record {
    kept = λ never. kept_none (view_by x) (view_by y) x.reserve y.reserve us plan (Ok i) f.marks.reserve answer f.finds.1 (λ j h t. (refl, f.finds.1));
    renewed = λ d. inl (f.marks.reserve, f.finds.1, answer);
    again = λ j h s. (refl, f.finds.1, f.marks.reserve);
    few = few;
  };
}

-- No slot is free.
pub shut_by_plan : (x y : Held) (us : List ℕ) (plan : HeaderPlan) (n : ℕ) → FoundUnits x y us None → n ≡ (view_by y).sizes.slots
    → IsTrue (shut (view_by y) us (view_by y).sizes.slots) → ((k : ℕ) → loads_at (view_by y) k ≤ loads_at (view_by x) k + 2) → Interns x y us plan (Err (Slots n))
shut_by_plan x y us plan n f all full few = let answer : IsKeyAnswer (view_by x) (view_by y) us (Err (Slots n)) = (f.finds.0.goes, all, full) in
    let nothing : UsesNothing (view_by x) (view_by y) = (f.finds.0.used, f.finds.0.words) in record {
      held = f.held;
      same = f.same;
      marks = stays x y f.marks;
      marked = f.marked;
      known = f.known;
      calls = f.calls;
      entered = tt;
      interns = record {
        kept = λ never. kept_none (view_by x) (view_by y) x.reserve y.reserve us plan (Err (Slots n)) f.marks.reserve answer nothing
            (λ j h t. let bad : None ≡ Some j = f.again j h t in absurd (cc));
        renewed = λ d. inl (f.marks.reserve, nothing, answer);
        again = λ j h s. (let bad : None ≡ Some j = f.again j h s in absurd (cc));
        few = few;
      };
    }

-- units that lie over a copy, and a string
pub units_interned : (x y : Held) (us : List ℕ) (r : Result ℕ TableFull) → Interns x y us (copy_plan us) r → HoldsForms (view_by x) (view_by y) → InternedUnits x y us r
units_interned x y us r h forms = record {
  held = h.held;
  same = h.same;
  marks = h.marks;
  marked = h.marked;
  known = h.known;
  calls = h.calls;
  entered = h.entered;
  interns = h.interns;
  forms = forms;
}

entered_string : (x y : Held) (s : ℕ) (us : List ℕ) (r : Result ℕ TableFull) → Has (view_by x).units s us → IfOk r (λ i. HasEntered (view_by y) us i) → IfOk r (λ i. IsEntered (view_by x) (view_by y) s i)
entered_string x y s us (Err f) own h = tt
entered_string x y s us (Ok i) own h = record {
  units = λ ws other. subst (λ (l : List ℕ). Has (view_by y).units i l) (one_units (view_by x) s us ws own other) h.units;
  call = λ ws other. subst (λ (l : List ℕ). Contains (history (view_by y)) (l, i)) (one_units (view_by x) s us ws own other) h.call;
  settled = h.settled;
}

pub string_interned : (x y : Held) (s : ℕ) (us : List ℕ) (plan : HeaderPlan) (r : Result ℕ TableFull) → Has (view_by x).units s us → Interns x y us plan r → PlansHeader x y s us plan
    → IfOk r (λ i. IsForwarded (view_by y) s i) → InternedString x y s r
string_interned x y s us plan r own h planned forwards = record {
  held = h.held;
  same = h.same;
  marks = h.marks;
  marked = h.marked;
  known = h.known;
  calls = h.calls;
  entered = entered_string x y s us r own h.entered;
  interns = λ ws other. subst (λ (l : List ℕ). InternsByPlan x y s l r) (one_units (view_by x) s us ws own other) (plan, planned, h.interns);
  forwards = forwards;
}

-- the plan, where nothing was taken
takes_none : (f : Form) (x y : Held) → y.reserve ≡ x.reserve → MakesNone f (view_by x) (view_by y) → TakesNone f x y
takes_none (Thin t) x y e m = (m, e)
takes_none Unborn x y e m = tt
takes_none (Flat wide start fixed) x y e m = tt
takes_none (Cons wide left right) x y e m = tt
takes_none (Sliced wide parent offset) x y e m = tt

pub plans_none : (x y : Held) (s : ℕ) (us : List ℕ) (plan : HeaderPlan) → y.reserve ≡ x.reserve → IsPlan (view_by x) (view_by y) s us plan → PlansHeader x y s us plan
plans_none x y s us plan e p = (p.0, p.1, p.2, takes_none p.0 x y e p.3)

-- and that of a string that doesn't forward
plan_alone : (f : Form) (v w : View) (us : List ℕ) (plan : HeaderPlan) → ((t : ℕ) → f ≢ Thin t) → IsPlanBy v f us plan → IsPlanBy w f us plan
plan_alone (Thin t) v w us plan alone h = absurd (alone t refl)
plan_alone Unborn v w us plan alone h = h
plan_alone (Flat wide start fixed) v w us plan alone h = h
plan_alone (Cons wide left right) v w us plan alone h = h
plan_alone (Sliced wide parent offset) v w us plan alone h = h

takes_alone : (f : Form) (x y : Held) → ((t : ℕ) → f ≢ Thin t) → TakesNone f x y
takes_alone (Thin t) x y alone = absurd (alone t refl)
takes_alone Unborn x y alone = tt
takes_alone (Flat wide start fixed) x y alone = tt
takes_alone (Cons wide left right) x y alone = tt
takes_alone (Sliced wide parent offset) x y alone = tt

pub plans_alone : (x y : Held) (s : ℕ) (us : List ℕ) (v : View) (o : StringOpening) → IsPossible v → IsFound (view_by x) s o.sought.form → IsStringOpening v us o → PlansHeader x y s us (opening_plan o us)
plans_alone x y s us v o p found h = (
  o.sought.form,
  found,
  plan_alone o.sought.form v (view_by y) us (opening_plan o us) h.alone (plan_is v p o.sought us h.sought h.units v (goes_self v).known),
  takes_alone o.sought.form x y h.alone,
)

-- An opening was found.
pub opening_found : (x : Held) (m : Option SharedText) (seats : Seats) → IsHeld x → IsThere m → IsSameText x.text m → AreNoted (view_if m) seats → (us : List ℕ) (o : Opening)
    → SearchesKey (view_by x) (view_if m) us (Open o) → FindsOpening x (record x { text = m; seats = seats }) us o
opening_found x m seats held there same right us o s = let f = missing_units x m seats held there same right us s.finds in
    record { held = f.held; same = f.same; marks = f.marks; marked = f.marked; searched = s }

marks_answer : (x z y : Held) (r : Result ℕ TableFull) → MarksNothing x z → MarksAnswer z y r → MarksAnswer x y r
marks_answer x z y (Ok i) e t = record {
  known = t.known;
  interned = t.interned;
  only = λ j h. ⊎_elim (λ (a : j ≡ i). inl a) (λ (b : IsIn z.known j). inr (subst (λ (s : IdSet). IsIn s j) e.0 b)) (t.only j h);
  only_interned = λ j h. ⊎_elim (λ (a : j ≡ i). inl a) (λ (b : IsIn z.interned j). inr (subst (λ (s : IdSet). IsIn s j) e.1 b)) (t.only_interned j h);
}
marks_answer x z y (Err f) e t = (t.0 ∙ e.0, t.1 ∙ e.1)

calls_trans : (u v w : View) → KeepsCalls u v → KeepsCalls v w → KeepsCalls u w
calls_trans u v w a b = record { calls = λ us i h. b.calls us i (a.calls us i h) }

-- It left u; then what is due was renewed, which left z, and the string made.
module _ (x u z y : Held) (us : List ℕ) (plan : HeaderPlan) (o : Opening) (r : Result ℕ TableFull) (f : FindsOpening x u us o) (p : IsPrepared u z) (t : TakesKey z y us plan o r) where
  at_start : z ≡ u → InternsKept (view_by x) (view_by y) x.reserve y.reserve us plan r
  at_start e = let v = view_by x in let w = view_by y in
      subst (λ (q : Reserve). InternsKept v w q y.reserve us plan r) f.marks.reserve
      (kept_opened v (view_by u) w u.reserve y.reserve us plan o r f.searched
      (subst (λ (q : Held). InternsAt (view_by q) w q.reserve y.reserve us plan r) e t.interns))

  pub opened_by_plan : (IsRenewalDue x plan.words → IsRenewalDue u plan.words) → (IsRenewalDue u plan.words → IsRenewalDue x plan.words)
      → Prepares (IsRenewalDue u plan.words) u z plan.words → ((IsRenewalDue u plan.words → ⊥) → z ≡ u) → Interns x y us plan r
  opened_by_plan to from d left = let l : LoadsAlone (view_by x) (view_by u) = f.searched.finds.answer.0 in let c = p.spends.continues in record {
    held = t.held;
    same = same_trans x.text z.text y.text (same_trans x.text u.text z.text f.same p.spends.same) t.same;
    marks = stays_trans x z y (stays_trans x u z (stays x u f.marks) p.spends.marks) t.marks;
    marked = marks_answer x z y r (p.marked.0 ∙ f.marked.0, p.marked.1 ∙ f.marked.1) t.marked;
    known = known_trans (view_by x) (view_by z) (view_by y) (known_trans (view_by x) (view_by u) (view_by z) l.goes.known c.known) t.known;
    calls = calls_trans (view_by x) (view_by z) (view_by y) (calls_trans (view_by x) (view_by u) (view_by z) (calls_looked (view_by x) (view_by u) l) (continued (view_by u) (view_by z) c)) t.calls;
    entered = t.entered;
    interns = record {
      kept = λ never. at_start (left (λ q. never (from q)));
      renewed = λ q. inr (u, z, o, f, d.renewed (to q), t.interns);
      again = λ j h s. (let bad : None ≡ Some j = f.searched.finds.again j h s in absurd (cc));
      few = opening_few (view_by x) (view_by u) (view_by z) (view_by y) us o c.sizes c.slot_loads f.searched.ends.1 t.loads;
    };
  }
