-- What a function of the parser gives.
use Rattle.std.specs.Prelude.{◌≡◌, List, Result, Ok, Err}
use Rattle.parse_syntax.specs.Reader.{Answer, Got, Bad, SyntaxFaultKind, Wrong, TooDeep}
use Rattle.parse_syntax.specs.declared.token.GrammarToken.{GrammarToken}
use Rattle.parse_statements.specs.declared.fault.Fault.{Fault}
use Rattle.parse_statements.specs.declared.fault.Fault.TheVariants as fault

-- the fault, unless memory ran out
abbrev pub FailsWith : {A : Type 0} → Fault → Answer GrammarToken A → Type 0
FailsWith fault.Memory answer = Unit {0}
FailsWith (fault.Wrong rest) answer = answer ≡ Bad Wrong rest.now
FailsWith (fault.TooDeep rest) answer = answer ≡ Bad TooDeep rest.now

-- what was returned, seen by view and rest, is the answer, unless memory ran out
abbrev pub GivesAnswer : {X A : Type 0} → (X → A) → (X → List GrammarToken) → Result X Fault
    → Answer GrammarToken A → Type 0
GivesAnswer view rest (Ok x) answer = answer ≡ Got (view x) (rest x)
GivesAnswer view rest (Err e) answer = FailsWith e answer

-- a fault other than out of memory
abbrev pub OnFault : {X : Type 0} → Result X Fault → (SyntaxFaultKind → List GrammarToken → Type 0) → Type 0
OnFault (Ok x) P = Unit {0}
OnFault (Err fault.Memory) P = Unit {0}
OnFault (Err (fault.Wrong rest)) P = P Wrong rest.now
OnFault (Err (fault.TooDeep rest)) P = P TooDeep rest.now

-- x, or out of memory
abbrev pub IsFoundOrMemory : {X A : Type 0} → (X → A) → Result X Fault → A → Type 0
IsFoundOrMemory view (Ok y) x = view y ≡ x
IsFoundOrMemory view (Err fault.Memory) x = Unit {0}
IsFoundOrMemory view (Err (fault.Wrong rest)) x = ⊥
IsFoundOrMemory view (Err (fault.TooDeep rest)) x = ⊥
