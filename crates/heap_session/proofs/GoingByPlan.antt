-- What a session that interns leaves, by the plan of the header: after settling, and for a string that was settled from the beginning.
use Rattle.std.proofs.Common.{ℕ, inl, List, Result, Ok, Err}
use Rattle.js_store.specs.declared.faults.StoreFault.{StoreFault}
use Rattle.heap_rule.specs.declared.view.View.{View}
use Rattle.heap_rule.specs.Sound.{IsPossible}
use Rattle.heap_rule.specs.Views.{IsSeenSettled}
use Rattle.heap_read.specs.declared.string.JsStr.{JsStr}
use Rattle.heap_read.specs.Reads.{OnlyLoads}
use Rattle.heap_text.specs.Settling.{IsSeenLater, IsSettling}
use Rattle.heap_intern.specs.Answers.{HeaderPlan}
use Rattle.heap_session.specs.Counted.{GoesByPlan, IsInternedBy, LeavesBy}
use Rattle.heap_intern.specs.Goes.{LoadsAlone}
use Rattle.heap_intern.proofs.Again.{again_after}
use Rattle.heap_session.proofs.Calls.{planned_then}
use Rattle.heap_intern.proofs.Going.{looks_reads}
use Rattle.heap_intern.proofs.Visiting.{left_after, refused_after}

leaves_after : (v x w : View) (us : List ℕ) (plan : HeaderPlan) (r : Result JsStr StoreFault) → LoadsAlone v x → LeavesBy x w us plan r → LeavesBy v w us plan r
leaves_after v x w us plan (Ok s) l h = (left_after v x w us plan l h.0, h.1)
leaves_after v x w us plan (Err f) l h = (h.0, h.1, refused_after v x w us plan h.0 l h.2)

-- loads alone came before
goes_after : (v x w : View) (id : ℕ) (us : List ℕ) (r : Result JsStr StoreFault) → IsPossible v → LoadsAlone v x → IsSeenLater v x id → IsInternedBy x w id us r → IsInternedBy v w id us r
goes_after v x w id us r p l later h = (h.0, planned_then v x w id us h.0 later (l.used, l.words) h.1, leaves_after v x w us h.0 r l h.2, again_after v x w us r p l h.3)

pub goes_by_plan : (v x w : View) (id : ℕ) (us : List ℕ) (r : Result JsStr StoreFault) → IsPossible v → (IsSeenSettled v id → OnlyLoads v x)
    → (IsSeenSettled v id → IsSeenLater v x id) → IsSettling v x id us → IsSeenSettled x id → IsInternedBy x w id us r → GoesByPlan v w id us r
goes_by_plan v x w id us r p reads later settling settled h = (λ before. goes_after v x w id us r p (looks_reads v x (reads before)) (later before) h, inl (x, settling, settled, h))
