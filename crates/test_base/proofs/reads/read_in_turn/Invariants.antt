use Rattle.std.proofs.Common.{◌≡◌, length}
use Rattle.js_store.specs.State.{IsKnown, IsSettled, text}
use Rattle.test_base.proofs.reads.read_in_turn.Given as goal

abbrev pub invariant-loop-turn : goal.invariant-loop-turn
invariant-loop-turn g l =
    let state = g.S.Strings.state in
    let number = g.S.Strings.number in
    record {
      left_known : IsKnown (state l.store) (number l.a);
      left_settled : IsSettled (state l.store) (number l.a);
      left_long : length (text (state l.store) (number l.a)) ≡ 20;
      right_known : IsKnown (state l.store) (number l.b);
      right_settled : IsSettled (state l.store) (number l.b);
      right_long : length (text (state l.store) (number l.b)) ≡ 20;
    }
