-- What comparing a string with units, or with bytes, answers.
use Rattle.std.specs.Prelude.{◌≡◌, ◌↔◌, ◌⊎◌, ℕ, List, Option, IsTrue}
use Rattle.js_search.specs.Order.{units_cmp}
use Rattle.heap_build.specs.Spelled.{IsSpelling}
use Rattle.heap_agents.specs.declared.held.Held.{Held}
use Rattle.c_steps.specs.declared.answer.JsOrder.{JsOrder}
use Rattle.c_steps.specs.declared.answer.JsTruth.{JsTruth}
use Rattle.c_steps.specs.Checked.{ReadsSettled}
use Rattle.c_steps.specs.Reports.{DONE, NOT_UTF8, no_order, no_truth, order_answer}

-- r says whether the units of string s, which is settled first, are vs
abbrev pub ComparesUnits : Option Held → Option Held → ℕ → List ℕ → JsTruth → Type 0
ComparesUnits o p s vs r = ReadsSettled o p s r.status (r ≡ no_truth r.status)
    (λ us. (r.status ≡ DONE) × (IsTrue r.holds ↔ (us ≡ vs)))

-- r says the order of the units of string s, which is settled first, and vs
abbrev pub OrdersUnits : Option Held → Option Held → ℕ → List ℕ → JsOrder → Type 0
OrdersUnits o p s vs r = ReadsSettled o p s r.status (r ≡ no_order r.status)
    (λ us. r ≡ order_answer (units_cmp us vs))

-- What a comparison with bytes answers: `answers` of the units that they spell; or they spell none, which is
-- reported by the status alone, `nothing` holds, and nothing has changed.
abbrev pub ComparesSpelled : (List ℕ → List ℕ → Type 0) → Option Held → Option Held → List ℕ → ℕ → Type 0
    → (List ℕ → Type 0) → Type 0
ComparesSpelled Spells o p bytes status nothing answers =
    ((IsSpelling Spells bytes → ⊥) × (status ≡ NOT_UTF8) × nothing × (p ≡ o))
    ⊎ ((us : List ℕ) × Spells bytes us × answers us)
