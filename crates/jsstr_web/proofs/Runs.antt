-- A run of the first statements, as the page's answer has it.
use Rattle.std.proofs.Common.{◌≡◌, ℕ, List, ap, subst, ◌∙◌, None}
use Rattle.eval_tree.specs.Tree.{Tree}
use Rattle.heap_rule.specs.declared.size.HeapSize.{HeapSize}
use Rattle.heap_table.specs.Agents.{size_of, view_of}
use Rattle.heap_table.specs.Closing.{IsClosed}
use Rattle.js_store.specs.declared.limit.Limit.{Limit}
use Rattle.run_here.specs.declared.here.Here.{Here}
use Rattle.run_here.specs.Here.{IsHere}
use Rattle.jsstr_web.specs.declared.answer.WebEnd.{WebEnd}
use Rattle.jsstr_web.specs.declared.answer.WebOptions.{WebOptions}
use Rattle.jsstr_web.specs.Statements.{count_of, shortened}
use Rattle.jsstr_web.specs.Told.{BeginsWith, limit_for, size_given}
use Rattle.jsstr_web.specs.Answers.{IsWebRun, first_end, lines_in, ran}

pub is_run : (o : WebOptions) (script shown : Tree) (size : HeapSize) (limit : Limit) (here : Here) (before after old new : List ℕ) (statements : ℕ) (end : WebEnd)
    → size ≡ size_given o → limit ≡ limit_for o → shown ≡ shortened o.statements script → statements ≡ count_of script → IsHere size limit None shown here
    → BeginsWith (lines_in here.ran.scripts.items) before after → end ≡ first_end here.ran.scripts.items statements
    → IsClosed (size_of here.ran.kept.heap) (view_of here.ran.kept.agent) new → IsWebRun o script before after old new end
is_run o script shown size limit here before after old new statements end a b s n is lines told closed = ran here
    (subst (λ (z : HeapSize). IsHere z (limit_for o) None (shortened o.statements script) here) a
    (subst (λ (l : Limit). IsHere size l None (shortened o.statements script) here) b (subst (λ (t : Tree). IsHere size limit None t here) s is)))
    lines (told ∙ ap (λ (k : ℕ). first_end here.ran.scripts.items k) n)
    (subst (λ (z : HeapSize). IsClosed z (view_of here.ran.kept.agent) new) (is.ran.sizes ∙ a) closed)
