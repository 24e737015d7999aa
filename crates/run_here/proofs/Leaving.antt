-- What a prelude and one script leave that are run in a row.
use Rattle.std.proofs.Common.{◌≡◌, ℕ, List, [], ◌∷◌, length, refl, sym, ap, subst, ◌∙◌, arith, Some, None}
use Rattle.std.specs.Prelude.{slice_set}
use Rattle.js_store.specs.State.{State, Grows}
use Rattle.eval_tree.specs.declared.tree.Script.{Script}
use Rattle.eval_tree.specs.Tree.{Tree, tree_of}
use Rattle.eval_scopes.specs.declared.binding_list.Binding.{Binding}
use Rattle.eval_scopes.specs.Bindings.{Bound}
use Rattle.eval_scopes.specs.Seen.{bounds_of}
use Rattle.js_item.specs.declared.item.Item.{Item}
use Rattle.js_item.specs.Seen.{Val}
use Rattle.js_eval.specs.declared.ending.End.{End}
use Rattle.js_eval.specs.declared.ending.End.TheVariants.{Done, Threw, Unsupported, Full, Memory}
use Rattle.js_eval.specs.Evaluates.{Evaluates}
use Rattle.js_eval.specs.Script.{Flow, meaning}
use Rattle.js_eval.specs.Seen.{bounds_seen}
use Rattle.heap_read.specs.declared.string.JsStr.{JsStr}
use Rattle.heap_session.specs.Sessions.{SessionFrame}
use Rattle.heap_session.specs.Shares.{total_by}
use Rattle.run_program.specs.declared.job.Job.{Job}
use Rattle.run_program.specs.declared.job.Outcome.{Outcome}
use Rattle.run_program.specs.Files.{IsOwnEnd}
use Rattle.run_program.specs.Jobs.{number, means, RunsEachJob}
use Rattle.run_program.specs.Stages.{HaveRunFrom, IsUnused}
use Rattle.run_program.proofs.Having.{have_alone, have_behind, have_stopped}
use Rattle.run_program.proofs.Jobs.{ran_one}
use Rattle.run_here.specs.Left.{LeavesMeant, HasLeftFrom}

-- the one place with another outcome
pub one_place : (os : List Outcome) (o : Outcome) → length os ≡ 1 → slice_set os 0 o ≡ o ∷ []
one_place [] o one = absurd (omega (arith, one))
one_place (p ∷ []) o one = refl
one_place (p ∷ q ∷ os) o one = absurd (omega (arith, one))

-- an end of the script's own has the bindings that are meant
pub own_bindings : {F : Type 0} (a b : State F) (x y : List ℕ) (after : List (Bound Val)) (e : End) (m : Flow) → Evaluates a b x y after e m → IsOwnEnd e → after ≡ m.bindings.top
own_bindings a b x y after Done m ev own = ev.bindings
own_bindings a b x y after (Threw k) m ev own = ev.bindings
own_bindings a b x y after (Unsupported at) m ev own = ev.bindings
own_bindings a b x y after (Full r) m ev own = absurd own
own_bindings a b x y after Memory m ev own = absurd own

own_done : (e : End) → e ≡ Done → IsOwnEnd e
own_done e is = subst IsOwnEnd (sym is) tt

-- A script was evaluated from bindings that stand for these.
module _ (a b : State SessionFrame) (script : Script) (o : Outcome) (index : o.index ≡ 0) (g : Grows a b) (env after : List (Binding (Item JsStr)))
    (ev : Evaluates a b [] o.lines (bounds_seen b number (bounds_of after)) o.end (meaning (tree_of script) (bounds_seen a number (bounds_of env)) a.limit)) where
  abbrev job : Job
  job = record { index = 0; script = script }

  one_runs : RunsEachJob a b env (job ∷ []) (o ∷ [])
  one_runs = ran_one (means a env) a b g job o index (bounds_seen b number (bounds_of after)) o.end refl ev

  -- with no prelude
  pub ran_alone : env ≡ [] → IsUnused a → HaveRunFrom a b None (tree_of script ∷ []) None (o ∷ [])
  ran_alone none unused = have_alone a b (job ∷ []) (o ∷ []) unused (refl, tt) (subst (λ (e : List (Binding (Item JsStr))). RunsEachJob a b e (job ∷ []) (o ∷ [])) none one_runs)

  pub left_alone : env ≡ [] → HasLeftFrom a b None (tree_of script) (bounds_of after) (o ∷ [])
  left_alone none own = own_bindings a b [] o.lines (bounds_seen b number (bounds_of after)) o.end (meaning (tree_of script) (bounds_seen a number (bounds_of env)) a.limit) ev own
      ∙ ap (λ (e : List (Binding (Item JsStr))). (meaning (tree_of script) (bounds_seen a number (bounds_of e)) a.limit).bindings.top) none

-- A prelude was evaluated from no bindings, and a script behind it.
module _ (a b c : State SessionFrame) (prelude script : Script) (first o : Outcome) (index : o.index ≡ 0)
    (env after : List (Binding (Item JsStr))) (unused : IsUnused a) (g : Grows a b) (h : Grows b c)
    (one : Evaluates a b [] first.lines (bounds_seen b number (bounds_of env)) first.end (meaning (tree_of prelude) [] a.limit)) (done : first.end ≡ Done)
    (two : Evaluates b c [] o.lines (bounds_seen c number (bounds_of after)) o.end (meaning (tree_of script) (bounds_seen b number (bounds_of env)) b.limit)) where
  pub ran_behind : HaveRunFrom a c (Some (tree_of prelude)) (tree_of script ∷ []) (Some first) (o ∷ [])
  ran_behind = let j : Job = record { index = 0; script = script } in
      have_behind a b prelude first (bounds_seen b number (bounds_of env)) unused g one c env (j ∷ []) (o ∷ []) refl done (one_runs b c script o index h env after two) (refl, tt)

  pub left_behind : HasLeftFrom a c (Some (tree_of prelude)) (tree_of script) (bounds_of after) (o ∷ [])
  left_behind own = own_bindings b c [] o.lines (bounds_seen c number (bounds_of after)) o.end (meaning (tree_of script) (bounds_seen b number (bounds_of env)) b.limit) two own
      ∙ (ap (λ (top : List (Bound Val)). (meaning (tree_of script) top b.limit).bindings.top)
      (own_bindings a b [] first.lines (bounds_seen b number (bounds_of env)) first.end (meaning (tree_of prelude) [] a.limit) one (own_done first.end done))
      ∙ ap (λ (l : ℕ). (meaning (tree_of script) ((meaning (tree_of prelude) [] a.limit).bindings.top) l).bindings.top) g.limit)

-- A prelude alone was evaluated, which didn't end Done.
pub ran_stopped : (a b : State SessionFrame) (prelude : Script) (trees : List Tree) (first : Outcome) (after : List (Bound Val)) (os : List Outcome) → IsUnused a → Grows a b
    → Evaluates a b [] first.lines after first.end (meaning (tree_of prelude) [] a.limit) → (first.end ≡ Done → ⊥) → os ≡ [] → HaveRunFrom a b (Some (tree_of prelude)) trees (Some first) os
ran_stopped a b prelude trees first after os unused g ev never none = subst
    (λ (x : List Outcome). HaveRunFrom a b (Some (tree_of prelude)) trees (Some first) x) (sym none)
    (have_stopped a b prelude first after unused g ev trees never)

-- the reading of both counters changes no string
pub left_total : (s : State SessionFrame) (m : Flow) (bounds : List (Bound (Item JsStr))) (os : List Outcome) → LeavesMeant s m bounds os → LeavesMeant (total_by s) m bounds os
left_total s m bounds [] left = tt
left_total s m bounds (o ∷ os) left = left
