-- What calls in a row leave of what a handle has.
use Rattle.std.proofs.lemmas.Bool.Decides.{nat_tests}
use lib.Dec.{leb}
use Rattle.std.proofs.Common.{arith, true, ◌≡◌, ℕ, ◌≤◌, List, length, ◌∙◌, Option, None, Some, subst, sym}
use Rattle.heap_rule.specs.Maps.{Has, HasKey}
use Rattle.heap_rule.proofs.MapLemmas.{has_key, key_of}
use Rattle.heap_read.specs.Reads.{Continues}
use Rattle.heap_read.proofs.Going.{continues_trans}
use Rattle.heap_agents.specs.declared.held.Held.{Held}
use Rattle.heap_agents.specs.Held.{KeepsMarks, LeavesStrings, view_by}
use Rattle.heap_table.specs.Known.{KeepsKnown}
use Rattle.heap_agents.specs.Interned.{KeepsCalls}
use Rattle.heap_agents.specs.Searched.{KeepsStrings}
use Rattle.heap_agents.proofs.Calls.{continued}
use Rattle.heap_agents.proofs.Marks.{same_trans}
use Rattle.heap_agents.specs.Ready.{HandleLeaves, HandleSpends, HandleSearches, IsReady, HandleKnows, handle_view}
use Rattle.c_steps.specs.declared.answer.JsAnswer.{JsAnswer}
use Rattle.c_steps.specs.Given.{TestsGiven}
use Rattle.c_steps.specs.Checked.{ReachesLength}

marks_trans : (x y z : Held) → KeepsMarks x y → KeepsMarks y z → KeepsMarks x z
marks_trans x y z a b = record {
  known = λ i h. b.known i (a.known i h);
  interned = λ i h. b.interned i (a.interned i h);
  number = b.number ∙ a.number;
  giver = b.giver ∙ a.giver;
  reserve = b.reserve ∙ a.reserve;
  blocks = b.blocks ∙ a.blocks;
}

leaves_trans : (x y z : Held) → LeavesStrings x y → LeavesStrings y z → LeavesStrings x z
leaves_trans x y z a b = record {
  held = b.held;
  same = same_trans x.text y.text z.text a.same b.same;
  continues = continues_trans (view_by x) (view_by y) (view_by z) a.continues b.continues;
  marks = marks_trans x y z a.marks b.marks;
}

pub goes_trans : (o p q : Option Held) → HandleLeaves o p → HandleLeaves p q → HandleLeaves o q
goes_trans None p q a b = absurd a
goes_trans (Some x) None q a b = absurd a
goes_trans (Some x) (Some y) None a b = absurd b
goes_trans (Some x) (Some y) (Some z) a b = leaves_trans x y z a b

pub goes_continues : (o p : Option Held) → HandleLeaves o p → Continues (handle_view o) (handle_view p)
goes_continues None p a = absurd a
goes_continues (Some x) None a = absurd a
goes_continues (Some x) (Some y) a = a.continues

pub goes_ready : (o p : Option Held) → HandleLeaves o p → IsReady p
goes_ready None p a = absurd a
goes_ready (Some x) None a = absurd a
goes_ready (Some x) (Some y) a = a.held

pub goes_knows : (o p : Option Held) (i : ℕ) → HandleLeaves o p → HandleKnows o i → HandleKnows p i
goes_knows None p i a k = absurd a
goes_knows (Some x) None i a k = absurd a
goes_knows (Some x) (Some y) i a k = a.marks.known i k

pub goes_units : (o p : Option Held) → HandleLeaves o p → (i : ℕ) (us : List ℕ) → Has (handle_view o).units i us → Has (handle_view p).units i us
goes_units o p a = (goes_continues o p a).known.units

pub goes_key : (o p : Option Held) → HandleLeaves o p → (i : ℕ) → HasKey (handle_view o).units i → HasKey (handle_view p).units i
goes_key o p a i k = let u = has_key (handle_view o).units i k in key_of (handle_view p).units i u.0 (goes_units o p a i u.0 u.1)

pub ready_key : (o : Option Held) (i : ℕ) → IsReady o → HandleKnows o i → HasKey (handle_view o).units i
ready_key None i r k = absurd r
ready_key (Some x) i r k = r.marked.known i k

-- the length of a known string is told by one call
module _ (o p : Option Held) (s all n : ℕ) (ready : IsReady o) (known : HandleKnows o s) (long : (us : List ℕ) → Has (handle_view o).units s us → all ≡ length us) where
  pub reaching : n ≤ all → ReachesLength o s n
  reaching le = (known, λ us h. subst (λ (m : ℕ). n ≤ m) (long us h) le)

  pub reached : ReachesLength o s n → n ≤ all
  reached r = let u = has_key (handle_view o).units s (ready_key o s ready known) in subst (λ (m : ℕ). n ≤ m) (sym (long u.0 u.1)) (r.1 u.0 u.1)

  pub still_long : HandleLeaves o p → n ≤ all → (us : List ℕ) → Has (handle_view p).units s us → n ≤ length us
  still_long g le us h = let u = has_key (handle_view o).units s (ready_key o s ready known) in let k = goes_units o p g s u.0 u.1 in
      let same : Some us ≡ Some u.0 = sym h ∙ k in let e : us ≡ u.0 = cc in
      subst (λ (vs : List ℕ). n ≤ length vs) (sym e) (subst (λ (m : ℕ). n ≤ m) (long u.0 u.1) le)

pub leb_of : (m n : ℕ) → m ≤ n → leb m n ≡ true
leb_of m n h = grind (arith, nat_tests, h)

pub goes_known : (o p : Option Held) → HandleLeaves o p → KeepsKnown (handle_view o) (handle_view p)
goes_known o p g = (goes_continues o p g).known

pub goes_calls : (o p : Option Held) → HandleLeaves o p → KeepsCalls (handle_view o) (handle_view p)
goes_calls o p g = continued (handle_view o) (handle_view p) (goes_continues o p g)

-- what a search leaves of a handle's strings
pub searches_strings : (o p : Option Held) → HandleSearches o p → KeepsStrings (handle_view o) (handle_view p)
searches_strings None p g = absurd g
searches_strings (Some x) None g = absurd g
searches_strings (Some x) (Some y) g = g.strings

-- a tested call on given units that is done did what it does
pub does_done : (does : Option Held → Option Held → List ℕ → JsAnswer → Type 0) (o p : Option Held) (us : List ℕ) (r : JsAnswer) → TestsGiven does o p us r → r.status ≡ 0 → does o p us r
does_done does o p us r t e = t.does (λ (x : r.status ≡ 9). absurd (omega (arith, x, e)))

-- a call that may claim in advance, or take what was
pub spends_continues : (o p : Option Held) → HandleSpends o p → Continues (handle_view o) (handle_view p)
spends_continues None p a = absurd a
spends_continues (Some x) None a = absurd a
spends_continues (Some x) (Some y) a = a.continues

pub spends_ready : (o p : Option Held) → HandleSpends o p → IsReady p
spends_ready None p a = absurd a
spends_ready (Some x) None a = absurd a
spends_ready (Some x) (Some y) a = a.held

pub spends_knows : (o p : Option Held) (i : ℕ) → HandleSpends o p → HandleKnows o i → HandleKnows p i
spends_knows None p i a k = absurd a
spends_knows (Some x) None i a k = absurd a
spends_knows (Some x) (Some y) i a k = a.marks.known i k

pub spends_units : (o p : Option Held) → HandleSpends o p → (i : ℕ) (us : List ℕ) → Has (handle_view o).units i us → Has (handle_view p).units i us
spends_units o p a = (spends_continues o p a).known.units

pub spends_key : (o p : Option Held) → HandleSpends o p → (i : ℕ) → HasKey (handle_view o).units i → HasKey (handle_view p).units i
spends_key o p a i k = let u = has_key (handle_view o).units i k in key_of (handle_view p).units i u.0 (spends_units o p a i u.0 u.1)

pub spends_known : (o p : Option Held) → HandleSpends o p → KeepsKnown (handle_view o) (handle_view p)
spends_known o p g = (spends_continues o p g).known

pub spends_calls : (o p : Option Held) → HandleSpends o p → KeepsCalls (handle_view o) (handle_view p)
spends_calls o p g = continued (handle_view o) (handle_view p) (spends_continues o p g)
