use Rattle.std.proofs.Common.{inl, refl, subst, sym, List, ℕ, Err}
use Rattle.heap_build.specs.Built.{AddsUnits}
use Rattle.c_steps.specs.declared.encoding.TextEncoding.{TextEncoding}
use Rattle.c_steps.specs.Encodings.{spells_in}
use Rattle.c_bulk.proofs.building.push_bytes.Goals as goal

pub returns-in-Err-clause-added : goal.returns-in-Err-clause-added
returns-in-Err-clause-added c = let bytes = c.args.bytes.now in
    inl (subst (λ (e : TextEncoding). (us : List ℕ) × spells_in e bytes us × AddsUnits c.args.text.now c.push_latin1.new.self us (Err c.in-Err.fault))
    (sym c.in-Latin1.is) (bytes, refl, c.in-Err.ensures.added))
