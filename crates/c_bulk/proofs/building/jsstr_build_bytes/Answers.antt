use Rattle.std.proofs.Common.{subst}
use Rattle.c_steps.specs.Building.{BuildsSpelled}
use Rattle.c_steps.specs.declared.encoding.TextEncoding.{TextEncoding}
use Rattle.c_steps.specs.Encodings.{encoding_by, spells_in}
use Rattle.c_steps.proofs.Texts.{builds_spelled, no_box_spelled}
use Rattle.c_bulk.proofs.building.jsstr_build_bytes.Goals as goal

pub returns-in-Ok-clause-builds : goal.returns-in-Ok-clause-builds
returns-in-Ok-clause-builds c told = let pushed = c.push_bytes-answer in let text = c.args.text.now.at.value in let bytes = c.args.bytes.now in
    subst (λ (e : TextEncoding). BuildsSpelled (spells_in e) text c.put.new.self.at.value bytes c.of_decoded.result) c.encoding_by.ensures
    (builds_spelled text c.put.new.self.at.value c.in-Ok.opened.value c.deref_mut.result.now pushed.new.text
    c.in-Ok.ensures.opened c.deref_mut.ensures.value c.put.ensures.there pushed.ensures.room (spells_in c.encoding_by.result) bytes pushed.result
    c.of_decoded.result pushed.ensures.added c.of_decoded.ensures.value)

pub returns-in-Err-clause-builds : goal.returns-in-Err-clause-builds
returns-in-Err-clause-builds c told = no_box_spelled c.args.text.now.at.value c.open.new.self.at.value c.in-Err.ensures.none
    c.in-Err.ensures.unchanged (spells_in (encoding_by c.args.encoding)) c.args.bytes.now c.no_memory.result c.no_memory.ensures
