use Rattle.std.proofs.Common.{◌+◌, map, take, drop}
use Rattle.std.proofs.lemmas.Result.{err_from_is_err_and}
use Rattle.std.proofs.lemmas.List.{map_push}
use Rattle.eval_tree.specs.Tree.{tree_of}
use Rattle.run_sources.specs.Answers.{IsShort, source_for}
use Rattle.run_sources.specs.Spelling as spelling
use Rattle.run_sources.specs.Spelling.{AllSpell}
use Rattle.run_sources.proofs.Turns.{mapped_more, mapped_parted, one_of, spell_more}
use Rattle.run_sources.proofs.Stages.{script_halt}
use Rattle.run_sources.proofs.parsing.parse_scripts.Goals as goal

pub loop-source-init : goal.loop-source-init
loop-source-init c = rw (c.new-scripts.ensures.items) (record { spell = spelling.AllSpell.none })

pub loop-source-preserved : goal.loop-source-preserved
loop-source-preserved c =
    let e = c.in_ok-script.ensures in
    let script = c.in_ok-script.script in
    let so_far = c.loop-source.scripts.items in
    let sources = c.args.sources.now in
    let source = c.source-item.result in
    let k = c.loop-source.source-index in
    let texts = mapped_more source_for sources k source c.loop-source-test.true c.source-item.is in
    rw (c.in_ok-push.ensures.items) (record {
      spell = rw (texts, map_push tree_of so_far script)
          (spell_more c.args.outer.now (map source_for (take k sources)) (map tree_of so_far) (source_for source) (tree_of script) c.loop-source.invariant.spell e.spells);
    })

pub returns-in_err-script-clause-refused : goal.returns-in_err-script-clause-refused
returns-in_err-script-clause-refused c =
    let p = err_from_is_err_and c.from_residual.result c.from_residual.ensures.1 in
    let sources = c.args.sources.now in
    let source = c.source-item.result in
    let k = c.loop-source.source-index in
    let texts = mapped_parted source_for sources k source c.loop-source-test.true c.source-item.is in
    rw (p.1, p.2) (script_halt c.args.outer.now (map source_for sources) (map source_for (take k sources)) (map source_for (drop (k + 1) sources)) (map tree_of c.loop-source.scripts.items)
    (source_for source) c.in_err-script.field-0.0 texts c.loop-source.invariant.spell c.in_err-script.ensures.refused)

pub parse_text-requires : goal.parse_text-requires
parse_text-requires c = one_of IsShort source_for c.args.sources.now c.loop-source.source-index c.source-item.result c.loop-source-test.true c.source-item.is c.requires
