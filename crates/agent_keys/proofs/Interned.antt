-- What interning leaves, for a caller that asks no more than the string and that the call is known.
use Rattle.std.proofs.Common.{◌≡◌, ℕ, arith, length, List, [], ◌∷◌, sym, subst, Option, Some, None, Result, Ok, Err, IfOk, true}
use Rattle.std.specs.Prelude.{IfSome}
use Rattle.std.specs.List.{Contains}
use Rattle.std.proofs.lemmas.List.Elements.{Contains-append_right, Contains-push}
use Rattle.js_header.specs.declared.form.Form.TheVariants.{Flat}
use Rattle.heap_rule.specs.declared.view.View.{View}
use Rattle.heap_rule.specs.Paths.{Calls}
use Rattle.heap_rule.specs.Views.{history}
use Rattle.heap_table.specs.Known.{KeepsKnown}
use Rattle.heap_intern.specs.Adopted.{AdoptsSlot}
use Rattle.heap_intern.specs.Answers.{FindsString, IsInternAnswer, HeaderPlan}
use Rattle.heap_intern.specs.Goes as table
use Rattle.heap_text.specs.Texts.{KeepsOwn}
use Rattle.heap_agents.specs.Interned.{HasEntered, KeepsCalls}
use Rattle.heap_agents.proofs.Calls.{calls_kept, own_goes}
use Rattle.heap_intern.specs.declared.table.faults.TableFull.{TableFull}
use Rattle.heap_intern.specs.declared.table.faults.TableFull.TheVariants.{Ids, Words, Slots}
use Rattle.heap_intern.specs.declared.table.given.Given.{Given}
use Rattle.heap_intern.specs.Taking.{IsKeyAnswer, without_given}
use Rattle.heap_intern.proofs.Giving.{given_known}
use Rattle.heap_reserve.specs.declared.reserve.Reserve.{Reserve}
use Rattle.heap_reserve.specs.Interning.{InternsAt}
use Rattle.heap_reserve.specs.Reserves.{kept_ids, words_kept}
use mathlib.Core.Logic.{dite}
use native.Mathlib.Decide.{ℕ_discrete, dec_le}

module _ (v w : View) where
  entered : (us : List ℕ) (i : ℕ) → table.AddsCalls v w ((us, i) ∷ []) → Contains (history w) (us, i)
  entered us i g = Contains-append_right w.seen w.mine (us, i) (subst (λ (m : Calls). Contains m (us, i)) (sym g.mine) (Contains-push v.mine (us, i)))

  module _ (us : List ℕ) (plan : HeaderPlan) where
    pub own_from : (r : Result ℕ TableFull) → IsInternAnswer v w us plan r → KeepsOwn v w
    own_from (Ok i) h = own_goes v w ((us, i) ∷ []) h.0
    own_from (Err e) h = own_goes v w [] h.0

    pub known_from : (r : Result ℕ TableFull) → IsInternAnswer v w us plan r → KeepsKnown v w
    known_from (Ok i) h = h.0.known
    known_from (Err e) h = h.0.known

    pub agents_from : (r : Result ℕ TableFull) → IsInternAnswer v w us plan r → w.agents ≡ v.agents
    agents_from (Ok i) h = h.0.agents
    agents_from (Err e) h = h.0.agents

    pub sizes_from : (r : Result ℕ TableFull) → IsInternAnswer v w us plan r → w.sizes ≡ v.sizes
    sizes_from (Ok i) h = h.0.sizes
    sizes_from (Err e) h = h.0.sizes

    pub calls_from : (r : Result ℕ TableFull) → IsInternAnswer v w us plan r → KeepsCalls v w
    calls_from (Ok j) h = record { calls = calls_kept v w ((us, j) ∷ []) h.0 }
    calls_from (Err e) h = record { calls = calls_kept v w [] h.0 }

    pub entered_from : (r : Result ℕ TableFull) → IsInternAnswer v w us plan r → IfOk r (λ i. HasEntered w us i)
    entered_from (Ok i) h = record { units = h.3.1; call = entered us i h.0; settled = (Flat h.3.0.0 h.3.0.1 true, h.3.0.2, λ c. c) }
    entered_from (Err e) h = tt

  module _ (us : List ℕ) where
    pub own_found : (r : Option ℕ) → FindsString v w us r → KeepsOwn v w
    own_found (Some i) h = own_goes v w ((us, i) ∷ []) h.0
    own_found None h = own_goes v w [] h.0.goes

    pub known_found : (r : Option ℕ) → FindsString v w us r → KeepsKnown v w
    known_found (Some i) h = h.0.known
    known_found None h = h.0.goes.known

    pub agents_found : (r : Option ℕ) → FindsString v w us r → w.agents ≡ v.agents
    agents_found (Some i) h = h.0.agents
    agents_found None h = h.0.goes.agents

    pub sizes_found : (r : Option ℕ) → FindsString v w us r → w.sizes ≡ v.sizes
    sizes_found (Some i) h = h.0.sizes
    sizes_found None h = h.0.goes.sizes

    pub calls_found : (r : Option ℕ) → FindsString v w us r → KeepsCalls v w
    calls_found (Some j) h = record { calls = calls_kept v w ((us, j) ∷ []) h.0 }
    calls_found None h = record { calls = calls_kept v w [] h.0.goes }

    pub entered_found : (r : Option ℕ) → FindsString v w us r → IfSome r (λ i. HasEntered w us i)
    entered_found (Some i) h = record { units = h.2.1; call = entered us i h.0; settled = (Flat h.2.0.0 h.2.0.1 true, h.2.0.2, λ c. c) }
    entered_found None h = tt

  module _ (k : ℕ) where
    pub own_adopted : (r : Option ℕ) → AdoptsSlot v w k r → KeepsOwn v w
    own_adopted (Some i) h = own_goes v w ((h.units, i) ∷ []) h.goes
    own_adopted None h = own_goes v w [] h.0.goes

    pub known_adopted : (r : Option ℕ) → AdoptsSlot v w k r → KeepsKnown v w
    known_adopted (Some i) h = h.goes.known
    known_adopted None h = h.0.goes.known

    pub agents_adopted : (r : Option ℕ) → AdoptsSlot v w k r → w.agents ≡ v.agents
    agents_adopted (Some i) h = h.goes.agents
    agents_adopted None h = h.0.goes.agents

    pub calls_adopted : (r : Option ℕ) → AdoptsSlot v w k r → KeepsCalls v w
    calls_adopted (Some i) h = record { calls = calls_kept v w ((h.units, i) ∷ []) h.goes }
    calls_adopted None h = record { calls = calls_kept v w [] h.0.goes }

    pub entered_adopted : (r : Option ℕ) → AdoptsSlot v w k r → IfSome r (λ i. (us : List ℕ) × HasEntered w us i)
    entered_adopted (Some i) h = (h.units, record { units = h.fixed.1; call = entered h.units i h.goes; settled = (Flat h.fixed.0.0 h.fixed.0.1 true, h.fixed.0.2, λ c. c) })
    entered_adopted None h = tt

-- what interning leaves that goes on from an opening
pub record Leaves (v w : View) (us : List ℕ) (a : Result ℕ TableFull) : Type 0 where
  pub known : KeepsKnown v w
  pub agents : w.agents ≡ v.agents
  pub sizes : w.sizes ≡ v.sizes
  pub calls : KeepsCalls v w
  pub entered : IfOk a (λ i. HasEntered w us i)

leaves_settled : (v w : View) (us : List ℕ) (a : Result ℕ TableFull) → IsKeyAnswer v w us a → Leaves v w us a
leaves_settled v w us (Ok i) h = record {
  known = h.0.known;
  agents = h.0.agents;
  sizes = h.0.sizes;
  calls = record { calls = calls_kept v w ((us, i) ∷ []) h.0 };
  entered = record { units = h.1.1; call = entered v w us i h.0; settled = (Flat h.1.0.0 h.1.0.1 true, h.1.0.2, λ c. c) };
}
leaves_settled v w us (Err (Slots n)) h = record { known = h.0.known; agents = h.0.agents; sizes = h.0.sizes; calls = record { calls = calls_kept v w [] h.0 }; entered = tt }
leaves_settled v w us (Err (Ids f)) h = absurd h
leaves_settled v w us (Err (Words f)) h = absurd h

leaves_given : (v w : View) (us : List ℕ) (n : ℕ) (p : Given) (a : Result ℕ TableFull) → Leaves (without_given v n p) w us a → Leaves v w us a
leaves_given v w us n p a l = record { known = given_known v w n p l.known; agents = l.agents; sizes = l.sizes; calls = record { calls = l.calls.calls }; entered = l.entered }

leaves_answer : (v w : View) (us : List ℕ) (plan : HeaderPlan) (a : Result ℕ TableFull) → IsInternAnswer v w us plan a → Leaves v w us a
leaves_answer v w us plan a g = record {
  known = known_from v w us plan a g;
  agents = agents_from v w us plan a g;
  sizes = sizes_from v w us plan a g;
  calls = calls_from v w us plan a g;
  entered = entered_from v w us plan a g;
}

pub leaves_at : (v w : View) (r s : Reserve) (us : List ℕ) (plan : HeaderPlan) (a : Result ℕ TableFull) → InternsAt v w r s us plan a → Leaves v w us a
leaves_at v w r s us plan a h = dite (dec_le plan.words (words_kept r))
    (λ l. dite (ℕ_discrete (length (kept_ids r)) 0) (λ z. leaves_answer v w us plan a (h.claimed (λ e. let some = e.0 in omega (arith, some, z))).1)
    (λ nz. let k = h.enough (omega (arith, nz), l) in leaves_given v w us plan.words k.given a (leaves_settled (without_given v plan.words k.given) w us a k.interned.settled)))
    (λ more. leaves_answer v w us plan a (h.claimed (λ e. more e.1)).1)
