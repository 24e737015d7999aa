-- What a session keeps stays true over each call.
use Rattle.std.proofs.Common.{◌≡◌, ◌∙◌, ℕ, ◌+◌, ◌<◌, ◌≤◌, List, get_or, Option, Some, None, Ok, Err, Result, subst, sym, arith}
use Rattle.heap_rule.specs.declared.view.View.{View}
use Rattle.heap_rule.specs.Maps.{Has}
use Rattle.heap_rule.proofs.MapLemmas.{has_key, key_of}
use Rattle.heap_table.specs.Known.{KeepsKnown}
use Rattle.heap_read.specs.Written.{HoldsUnits, held_unit}
use Rattle.heap_read.proofs.Comparison.{unit_held_is}
use Rattle.heap_intern.specs.declared.table.faults.TableFull.{TableFull}
use Rattle.heap_intern.specs.Answers.{FindsString, IsInternAnswer, HeaderPlan}
use Rattle.heap_session.specs.declared.kept.KeptWord.{KeptWord}
use Rattle.heap_session.specs.Lately.{IsWordKept}

same_list : (v : View) (i : ℕ) (us ws : List ℕ) → Has v.units i us → Has v.units i ws → us ≡ ws
same_list v i us ws a b = let e : Some us ≡ Some ws = sym a ∙ b in cc

-- what one list of its units shows
pub kept_by_one : (v : View) (l : KeptWord) (us : List ℕ) → Has v.units l.id us → HoldsUnits us l.held → IsWordKept v l
kept_by_one v l us h r some = (key_of v.units l.id us h, λ ws g. subst (λ (xs : List ℕ). HoldsUnits xs l.held) (same_list v l.id us ws h g) r)

pub kept_by : (v w : View) → KeepsKnown v w → (l : KeptWord) → IsWordKept v l → IsWordKept w l
kept_by v w k l h some = let p = h some in let u = has_key v.units l.id p.0 in
    kept_by_one w l u.0 (k.units l.id u.0 u.1) (p.1 u.0 u.1) some

pub kept_none : (v : View) (l : KeptWord) → l.held.count ≡ 0 → IsWordKept v l
kept_none v l e some = absurd (omega arith)

-- one of its units
pub kept_unit : (v : View) (l : KeptWord) (us : List ℕ) (n i : ℕ) → IsWordKept v l → Has v.units n us → l.id ≡ n → l.held.from ≤ i → i < l.held.from + l.held.count → held_unit l.held i ≡ get_or us i 0
kept_unit v l us n i h g same low high = unit_held_is us l.held i ((h (omega arith)).1 us (subst (λ (m : ℕ). Has v.units m us) (sym same) g)) low high

pub interns_known : (v w : View) (us : List ℕ) (plan : HeaderPlan) (r : Result ℕ TableFull) → IsInternAnswer v w us plan r → KeepsKnown v w
interns_known v w us plan (Ok i) h = h.0.known
interns_known v w us plan (Err f) h = h.0.known

pub interns_sizes : (v w : View) (us : List ℕ) (plan : HeaderPlan) (r : Result ℕ TableFull) → IsInternAnswer v w us plan r → w.sizes ≡ v.sizes
interns_sizes v w us plan (Ok i) h = h.0.sizes
interns_sizes v w us plan (Err f) h = h.0.sizes

pub finds_sizes : (v w : View) (us : List ℕ) (r : Option ℕ) → FindsString v w us r → w.sizes ≡ v.sizes
finds_sizes v w us (Some i) h = h.0.sizes
finds_sizes v w us None h = h.0.goes.sizes
