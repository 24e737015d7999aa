-- What interning a string says on a session, for each function that does it.
use Rattle.std.specs.Prelude.{◌≡◌, ℕ, [], ◌∷◌, ◌++◌, ◌+◌, ◌≤◌, List, length, Result, IfOk, OnErr}
use Rattle.js_store.specs.declared.faults.StoreFault.{StoreFault}
use Rattle.js_store.specs.Faults.{SlotsShut, StoreStep, fault_of}
use Rattle.js_store.specs.Rows.{flat_words, intern_words}
use Rattle.js_store.specs.State.{IsSettled, NamesUnits, text}
use Rattle.heap_read.specs.declared.heap_ref.HeapRef.{Ghosts}
use Rattle.heap_read.specs.declared.string.JsStr.{JsStr}
use Rattle.heap_text.specs.Texts.{KeepsOwn}
use Rattle.heap_intern.specs.Answers.{IsForwarded, IsFoundAgain, copy_plan}
use Rattle.heap_intern.specs.Hashes.{NotesHash}
use Rattle.heap_intern.specs.SlotLoads.{loads_at}
use Rattle.heap_session.specs.declared.session.Session.{Session}
use Rattle.heap_session.specs.Counted.{FoundFree, GoesByPlan, LeavesBy, answered_string}
use Rattle.heap_session.specs.Noted.{PassesNoted}
use Rattle.heap_session.specs.Sessions.{noted_in, session_view, state_in}

module _ {H : Type 0} {g : Ghosts H} where
  -- Session a became b when it interned string s, which it settled first where that was no settled one.
  -- Beside what a store says: s then forwards to the answer, unless it is a fixed Flat; what the agent owned
  -- it owns still; an id was requested only behind slots that were compared; what was used went by a plan for
  -- s; no slot was loaded more than twice, and none that was noted with another hash.
  pub record SettlesAndInterns (a b : Session H g) (s : JsStr) (r : Result JsStr StoreFault) : Type 0 where
    pub ok : IfOk r (λ t. NamesUnits (state_in b) t.id (text (state_in a) s.id)
        × IsSettled (state_in b) t.id × IsSettled (state_in b) s.id)
    pub forwards : IfOk r (λ t. IsForwarded (session_view b) s.id t.id)
    pub step : StoreStep (state_in a) (state_in b) (fault_of r) 1
        (intern_words ((state_in a).settled s.id) (length (text (state_in a) s.id)))
    pub grown : IfOk r (λ t. (state_in b).history
        ≡ (state_in a).history ++ (text (state_in a) s.id, t.id) ∷ [])
    pub kept : OnErr r ((state_in b).history ≡ (state_in a).history)
    pub own : KeepsOwn (session_view a) (session_view b)
    pub shut : SlotsShut (state_in b) (fault_of r) (text (state_in a) s.id)
    pub free : FoundFree (session_view a) (session_view b) (text (state_in a) s.id) (fault_of r)
    pub plan : GoesByPlan (session_view a) (session_view b) s.id (text (state_in a) s.id) r
    pub few : (k : ℕ) → loads_at (session_view b) k ≤ loads_at (session_view a) k + 2
    pub notes : NotesHash (session_view a) (session_view b) (text (state_in a) s.id) (answered_string r)
        (noted_in a) (noted_in b)

  -- Session a became b when it interned a list of units, with no string made of it first. Beside what a store
  -- says: one id was used at most, for a string over a copy; whoever has seen the string with these units in
  -- the table is answered, and uses nothing; what the agent owned it owns still; no slot was loaded more than
  -- twice, and none that was noted with another hash.
  pub record InternsList (a b : Session H g) (us : List ℕ) (r : Result JsStr StoreFault) : Type 0 where
    pub ok : IfOk r (λ t. NamesUnits (state_in b) t.id us × IsSettled (state_in b) t.id)
    pub once : StoreStep (state_in a) (state_in b) (fault_of r) 1 (flat_words us)
    pub grown : IfOk r (λ t. (state_in b).history ≡ (state_in a).history ++ (us, t.id) ∷ [])
    pub kept : OnErr r ((state_in b).history ≡ (state_in a).history)
    pub own : KeepsOwn (session_view a) (session_view b)
    pub shut : SlotsShut (state_in b) (fault_of r) us
    pub again : IsFoundAgain (session_view a) (session_view b) us r
    pub plan : LeavesBy (session_view a) (session_view b) us (copy_plan us) r
    pub few : (k : ℕ) → loads_at (session_view b) k ≤ loads_at (session_view a) k + 2
    pub passes : PassesNoted (noted_in a) (session_view a) (session_view b) us
