-- How a method's fault, and a conversion that ends abruptly, stop an evaluation.
use Rattle.std.specs.Prelude.{Result, Ok, Err}
use Rattle.js_texts.specs.declared.faults.MethodFault.{MethodFault}
use Rattle.js_texts.specs.declared.faults.MethodFault.TheVariants as method
use Rattle.eval_values.specs.declared.value.Kind.TheVariants as kind
use Rattle.eval_values.specs.declared.value.Abrupt.{Abrupt}
use Rattle.eval_values.specs.declared.value.Abrupt.TheVariants as abrupt
use Rattle.eval_values.specs.declared.value.Stop.{Stop}
use Rattle.eval_values.specs.declared.value.Stop.TheVariants.{Threw, Unsupported, Store}
use Rattle.eval_values.specs.Outcome.{Ending, threw, unsupported, Converted, into, fails}

-- every fault but the store's is a RangeError
abbrev pub stop_of : MethodFault → Stop
stop_of (method.Store f) = Store f
stop_of (method.RangeError cause) = Threw kind.RangeError

abbrev pub abrupt_stop : Abrupt → Stop
abrupt_stop (abrupt.Threw k) = Threw k
abrupt_stop (abrupt.Unsupported at) = Unsupported at

abbrev pub ending_of : Abrupt → Ending
ending_of (abrupt.Threw k) = threw k
ending_of (abrupt.Unsupported at) = unsupported at

-- what a conversion of the code comes to
abbrev pub converted_of : {A : Type 0} → Result A Abrupt → Converted A
converted_of (Ok x) = into x
converted_of (Err r) = fails (ending_of r)
