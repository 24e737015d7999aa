use Rattle.std.proofs.Common.{arith, ◌≡◌, ◌≤◌, length, [], ◌++◌, ◌∷◌, ap, sym, ◌∙◌, drop, ◌+◌}
use Rattle.std.proofs.lemmas.List.{drop_all}
use Rattle.std.proofs.lemmas.Result.{err_from_is_err_and}
use Rattle.js_units.specs.Text.{utf8}
use Rattle.js_store.specs.State.{IsKnown, text}
use Rattle.js_store.proofs.Laws.{grows_trans, known_still, text_still}
use Rattle.js_json.specs.Printing.{line_rest}
use Rattle.js_texts.specs.Texts.{AllSettled, known_texts, settle_most}
use Rattle.js_texts.proofs.Lists.{every_at, every_map, on_ok_map, settle_front, settled_turn}
use Rattle.js_texts.proofs.Delimited.{kept_trans, rest_front, text_turn}
use Rattle.js_json.proofs.Ends.{all_settled_at_end, uses_no_more, uses_so_far}
use Rattle.js_json.proofs.printing.append_rest.Goals as goal

pub loop-s-preserved : goal.loop-s-preserved
loop-s-preserved g c =
    let state = g.S.Strings.state in
    let number = g.S.Strings.number in
    let a = state c.args.store.now in
    let b = state c.loop-s.store in
    let d = state c.append_string.new.store in
    let rest = c.args.rest.now in
    let r = c.s-item.result in
    let k = c.loop-s.s-index in
    let i = c.loop-s.invariant in
    let e = c.in_ok-append_string.ensures in
    let front = settle_front number b d rest k r c.loop-s-test.true c.s-item.is e.uses.step.grows i.known in
    let words = e.uses.step.within_words in
    let before = i.words in
    let ids = e.uses.step.within_ids in
    let known = every_at (λ q. IsKnown a (number q)) rest k r c.requires c.loop-s-test.true c.s-item.is in
    let same = text_still i.grows (number r) known in
    record {
      grows = grows_trans i.grows e.uses.step.grows;
      history = e.uses.history ∙ i.history;
      known = every_map (λ q h. known_still e.uses.step.grows (number q) h) rest i.known;
      settled = settled_turn number b d rest k r c.loop-s-test.true c.s-item.is e.uses.step.grows i.settled e.settled;
      ids = let done = i.ids in omega (arith, ids, done);
      words = omega (arith, front, words, before);
      bytes =
          text_turn utf8 32 10 c.loop-s.line.items c.push_byte.new.line.items c.append_string.new.line.items (utf8 (text b (number r)))
          (line_rest (known_texts a number (drop (k + 1) rest))) c.in_ok-push_byte.ensures.added e.added
          ∙ ap (λ t. c.loop-s.line.items ++ (32 ∷ utf8 t ++ line_rest (known_texts a number (drop (k + 1) rest)))) same
          ∙ ap (λ w. c.loop-s.line.items ++ w) (sym (rest_front utf8 32 10 number a rest k r c.loop-s-test.true c.s-item.is))
          ∙ i.bytes;
      kept =
          let start = c.args.line.now.items in
          let turn = c.loop-s.line.items in
          let space = c.push_byte.new.line.items in
          let whole = c.append_string.new.line.items in
          kept_trans start space whole (kept_trans start turn space i.kept c.in_ok-push_byte.ensures.kept) e.kept;
    }

pub returns-in_err-append_string-clause-uses : goal.returns-in_err-append_string-clause-uses
returns-in_err-append_string-clause-uses g c =
    let state = g.S.Strings.state in
    let number = g.S.Strings.number in
    let i = c.loop-s.invariant in
    let e = c.in_err-append_string.ensures.uses in
    let p = err_from_is_err_and c.from_residual-in_err-append_string.result c.from_residual-in_err-append_string.ensures.1 in
    let front = settle_front number (state c.loop-s.store) (state c.append_string.new.store) c.args.rest.now c.loop-s.s-index c.s-item.result c.loop-s-test.true c.s-item.is e.step.grows i.known in
    let before = i.words in
    let done = i.ids in
    let words = e.step.within_words in
    let ids = e.step.within_ids in
    rw (p.1, p.2) (record {
      step = record {
        grows = grows_trans i.grows e.step.grows;
        honest = e.step.honest;
        within_ids = omega (arith, done, ids);
        within_words = omega (arith, front, before, words);
      };
      no_slots = e.no_slots;
      history = e.history ∙ i.history;
    })

pub returns-in_err-push_byte-clause-kept : goal.returns-in_err-push_byte-clause-kept
returns-in_err-push_byte-clause-kept g c =
    kept_trans c.args.line.now.items c.loop-s.line.items c.push_byte.new.line.items c.loop-s.invariant.kept c.in_err-push_byte.ensures.kept

pub returns-in_err-append_string-clause-kept : goal.returns-in_err-append_string-clause-kept
returns-in_err-append_string-clause-kept g c =
    let start = c.args.line.now.items in
    let turn = c.loop-s.line.items in
    let space = c.push_byte.new.line.items in
    let whole = c.append_string.new.line.items in
    kept_trans start space whole (kept_trans start turn space c.loop-s.invariant.kept c.in_ok-push_byte.ensures.kept) c.in_err-append_string.ensures.kept

pub returns-clause-kept : goal.returns-clause-kept
returns-clause-kept g c =
    kept_trans c.args.line.now.items c.loop-s.line.items c.push_byte-2.new.line.items c.loop-s.invariant.kept c.push_byte-2.ensures.kept

pub returns-in_err-push_byte-clause-uses : goal.returns-in_err-push_byte-clause-uses
returns-in_err-push_byte-clause-uses g c =
    let state = g.S.Strings.state in
    let i = c.loop-s.invariant in
    let before = i.words in
    let p = err_from_is_err_and c.from_residual.result c.from_residual.ensures.1 in
    let a = state c.args.store.now in
    let most = settle_most a g.S.Strings.number c.args.rest.now in
    rw (p.1, p.2) (uses_no_more a (state c.loop-s.store) most i.grows i.history i.ids (omega (arith, before)) c.in_err-push_byte.ensures.fault)

pub returns-clause-uses : goal.returns-clause-uses
returns-clause-uses g c =
    let state = g.S.Strings.state in
    let i = c.loop-s.invariant in
    let before = i.words in
    let a = state c.args.store.now in
    let most = settle_most a g.S.Strings.number c.args.rest.now in
    uses_so_far a (state c.loop-s.store) most i.grows i.history i.ids (omega (arith, before)) c.push_byte-2.result c.push_byte-2.ensures.fault

pub returns-clause-added : goal.returns-clause-added
returns-clause-added g c =
    let number = g.S.Strings.number in
    let a = g.S.Strings.state c.args.store.now in
    let rest = c.args.rest.now in
    let k = c.loop-s.s-index in
    let over : length rest ≤ k = c.loop-s-test.false in
    let none : c.loop-s.line.items ++ 10 ∷ [] ≡ c.loop-s.line.items ++ line_rest (known_texts a number (drop k rest)) =
    ap (λ q. c.loop-s.line.items ++ line_rest (known_texts a number q)) (sym (drop_all k rest over)) in
    on_ok_map _ _ c.push_byte-2.result (λ e. e ∙ (none ∙ c.loop-s.invariant.bytes)) c.push_byte-2.ensures.added

pub returns-clause-settled : goal.returns-clause-settled
returns-clause-settled g c =
    let number = g.S.Strings.number in
    let b = g.S.Strings.state c.loop-s.store in
    let all : AllSettled b number c.args.rest.now = all_settled_at_end b number c.args.rest.now c.loop-s.s-index c.loop-s-test.false c.loop-s.invariant.settled in
    on_ok_map _ _ c.push_byte-2.result (λ e. all) c.push_byte-2.ensures.added
