-- Texts that are built up, behind a handle.
use Rattle.std.proofs.Common.{◌≡◌, ◌∙◌, ⊎_elim, inl, inr, refl, sym, ap, subst, arith, ℕ, ◌*◌, ◌<◌, ◌≤◌, List, [], ◌++◌, length, Option, None, Some, Result, Ok, Err}
use Rattle.heap_rule.specs.Layout.{MAX}
use Rattle.heap_rule.specs.declared.view.View.{View}
use Rattle.heap_read.specs.Reads.{OnlyLoads}
use Rattle.heap_read.proofs.Going.{continues_reads}
use Rattle.heap_agents.specs.declared.held.Held.{Held}
use Rattle.heap_agents.specs.Held.{view_by}
use Rattle.heap_agents.specs.Ready.{IsReady}
use Rattle.heap_agents.specs.Shared.{IsSameText, IsThere, SharedText}
use Rattle.heap_build.specs.declared.builder.Builder.{Builder}
use Rattle.heap_build.specs.declared.faults.BuildFault.{BuildFault}
use Rattle.heap_build.specs.declared.faults.BuildFault.TheVariants.{NoMemory, TooLong}
use Rattle.heap_build.specs.declared.faults.DecodeFault.{DecodeFault}
use Rattle.heap_build.specs.declared.faults.DecodeFault.TheVariants.{Malformed, NotAdded}
use Rattle.heap_build.specs.Built.{AddsUnits, AddsSpelled, room_in, units_so_far}
use Rattle.c_steps.specs.declared.answer.JsAnswer.{JsAnswer}
use Rattle.c_steps.specs.Building.{AddsSpelledTo, AddsTo, AddsToText, BuildsSpelled, HasText, IsOpened, OutgrowsRoom, build_status, text_so_far, decoded_answer, room}
use Rattle.c_steps.specs.Checked.{OnlyLooks}
use Rattle.c_steps.specs.Reports.{NO_MEMORY, no_memory}

pub is_none : (o : Option Builder) (live n : ℕ) → HasText live n o → live ≡ 0 → o ≡ None
is_none None live n h e = refl
is_none (Some b) live n h e = absurd (omega (arith, h.0, e))

pub is_some : (o : Option Builder) (live n : ℕ) → HasText live n o → ¬ (live ≡ 0) → (b : Builder) × (o ≡ Some b)
is_some None live n h e = absurd (e h.0)
is_some (Some b) live n h e = (b, refl)

pub opened_none : (o : Option Builder) (b : Builder) → o ≡ None → units_so_far b ≡ [] → IsOpened o b
opened_none o b e is = subst (λ (x : Option Builder). IsOpened x b) (sym e) is

pub opened_some : (o : Option Builder) (b : Builder) → o ≡ Some b → IsOpened o b
opened_some o b e = subst (λ (x : Option Builder). IsOpened x b) (sym e) refl

opened_units : (o : Option Builder) (b : Builder) → IsOpened o b → units_so_far b ≡ text_so_far o
opened_units None b i = i
opened_units (Some x) b i = ap units_so_far (sym i)

same_text : (b c : Builder) (us : List ℕ) (t : Result (Unit {0}) BuildFault) → AddsUnits b c us t → AddsTo (Some b) (Some c) us t
same_text b c us (Ok u) a = a
same_text b c us (Err NoMemory) a = (a.0, (a.1, a.2))
same_text b c us (Err TooLong) a = a

adds_some : (o : Option Builder) (b c : Builder) (us : List ℕ) (t : Result (Unit {0}) BuildFault) → IsOpened o b → AddsUnits b c us t → AddsTo o (Some c) us t
adds_some None b c us (Ok u) i a = (a.0 ∙ ap (λ (xs : List ℕ). xs ++ us) i, omega (arith, a.1, ap length i))
adds_some None b c us (Err NoMemory) i a = (a.0 ∙ i, tt)
adds_some None b c us (Err TooLong) i a = (a.0 ∙ i, omega (arith, a.1, ap length i))
adds_some (Some x) b c us t i a = subst (λ (y : Builder). AddsTo (Some y) (Some c) us t) (sym i) (same_text b c us t a)

opened_room : (o : Option Builder) (b : Builder) → IsOpened o b → room o ≤ room_in b
opened_room None b i = omega arith
opened_room (Some x) b i = let e : room_in x ≡ room_in b = ap room_in i in omega (arith, e)

module _ (o p : Option Builder) (x b c : Builder) (opened : IsOpened o x) (same : b ≡ x) (e : p ≡ Some c) (more : room_in b ≤ room_in c) where
  i : IsOpened o b
  i = subst (IsOpened o) (sym same) opened

  still_room : room o ≤ room p
  still_room = let r = opened_room o b i in let q : room p ≡ room_in c = ap room e in omega (arith, more, r, q)

  -- units were added to a text that was opened
  pub builds : (us : List ℕ) (t : Result (Unit {0}) BuildFault) (status : ℕ) → AddsUnits b c us t → status ≡ build_status t → AddsToText o p us status
  builds us t status a s = (t, s, subst (λ (q : Option Builder). AddsTo o q us t) (sym e) (adds_some o b c us t i a), still_room)

  module _ (Spells : List ℕ → List ℕ → Type 0) (bytes : List ℕ) where
    spelled_some : (t : Result (Unit {0}) DecodeFault) → AddsSpelled Spells b c bytes t → AddsSpelledTo Spells o (Some c) bytes t
    spelled_some (Ok u) a = (a.0, a.1, adds_some o b c a.0 (Ok u) i a.2)
    spelled_some (Err (Malformed at)) a = (a.0 ∙ opened_units o b i, a.1)
    spelled_some (Err (NotAdded f)) a = ⊎_elim
        (λ (x : (us : List ℕ) × Spells bytes us × AddsUnits b c us (Err f)). inl (x.0, x.1, adds_some o b c x.0 (Err f) i x.2))
        (λ (x : (f ≡ TooLong) × (3 * MAX < length bytes) × (units_so_far c ≡ units_so_far b)). inr (inl (x.0, x.1, x.2 ∙ opened_units o b i)))
        a

    -- what bytes spell was added to a text that was opened
    pub builds_spelled : (t : Result (Unit {0}) DecodeFault) (r : JsAnswer) → AddsSpelled Spells b c bytes t → r ≡ decoded_answer t → BuildsSpelled Spells o p bytes r
    builds_spelled t r a s = (t, s, subst (λ (q : Option Builder). AddsSpelledTo Spells o q bytes t) (sym e) (spelled_some t a), still_room)

-- no box was made for a text
module _ (o p : Option Builder) (none : o ≡ None) (same : p ≡ o) where
  room_same : room o ≤ room p
  room_same = let e : room p ≡ room o = ap room same in omega (arith, e)

  pub no_box : (us : List ℕ) → AddsToText o p us NO_MEMORY
  no_box us = (Err NoMemory, refl, (ap text_so_far same, subst (λ (x : Option Builder). OutgrowsRoom x us) (sym none) tt), room_same)

  pub no_box_spelled : (Spells : List ℕ → List ℕ → Type 0) (bytes : List ℕ) (r : JsAnswer) → r ≡ no_memory → BuildsSpelled Spells o p bytes r
  no_box_spelled Spells bytes r e = (Err (NotAdded NoMemory), e, inr (inr (refl, none, same)), room_same)

-- a call that is done added its units
pub builds_done : (o p : Option Builder) (us : List ℕ) (status : ℕ) → AddsToText o p us status → status ≡ 0 → text_so_far p ≡ text_so_far o ++ us
builds_done o p us status (Ok u, s, a, r) e = a.0
builds_done o p us status (Err NoMemory, s, a, r) e = absurd (omega (arith, s, e))
builds_done o p us status (Err TooLong, s, a, r) e = absurd (omega (arith, s, e))

same_loads : (v : View) → OnlyLoads v v
same_loads v = record {
  known = record { units = λ i us h. h; lengths = λ i n h. h; flats = λ i wide start h. h; thins = λ i t h. h; settled = λ i h. h; frozen = λ c x h. h; known = λ i h. h; slots = λ k i h. h };
  sizes = refl;
  agents = refl;
  live = refl;
  share = refl;
  used = refl;
  low = refl;
  own_ids = refl;
  own_words = refl;
  slots = refl;
  seen = refl;
  mine = refl;
  slot_loads = refl;
}

same_there : (t : Option SharedText) → IsThere t → IsSameText t t
same_there None r = absurd r
same_there (Some t) r = (refl, refl)

looks_at : (o : Option Held) → IsReady o → OnlyLooks o o
looks_at None r = absurd r
looks_at (Some x) r = let v = view_by x in record {
  leaves = record {
    held = r;
    same = same_there x.text r.there;
    continues = continues_reads v v (same_loads v);
    marks = record { known = λ i h. h; interned = λ i h. h; number = refl; giver = refl; reserve = refl; blocks = refl };
  };
  loads = same_loads v;
  marks = (refl, refl);
}

-- an agent that is as it was
pub looks_same : (o p : Option Held) → IsReady o → p ≡ o → OnlyLooks o p
looks_same o p r e = subst (OnlyLooks o) (sym e) (looks_at o r)
