use Rattle.std.proofs.Common.{◌≡◌, ◌++◌, ◌∙◌, Ok, Err, refl, ap, subst, arith}
use Rattle.heap_rule.specs.declared.size.HeapSize.{HeapSize}
use Rattle.heap_rule.specs.declared.view.View.{View}
use Rattle.heap_rule.proofs.MapLemmas.{has_key}
use Rattle.heap_rule.proofs.Possible.{possible_short}
use Rattle.heap_table.specs.Agents.{size_of}
use Rattle.heap_text.specs.declared.faults.JoinFault.TheVariants.{TooLong}
use Rattle.heap_text.specs.Joins.{IsCopied, IsLinked}
use Rattle.heap_text.proofs.Owned.{own_reads, own_trans}
use Rattle.heap_text.proofs.Answered.{joined_units}
use Rattle.heap_read.proofs.Going.{continues_reads, continues_trans}
use Rattle.heap_text.proofs.Linking.{copied_after, copied_lifted, linked_after, linked_lifted}
use Rattle.heap_read.proofs.Loaded.{known_trans, reads_trans}
use Rattle.heap_text.proofs.text.Text.concat.Goals as goal

pub returns-then-left-eq0-clause-joined : goal.returns-then-left-eq0-clause-joined
returns-then-left-eq0-clause-joined g c us vs h k =
    let left = c.len-left.ensures.length us h in let none = c.if-left-eq0.true in let right = c.len-right.ensures.length vs (c.len-left.ensures.reads.view.known.units c.args.b.id vs k) in
    let room = c.if-left-right.false in record {
      long = λ l. absurd (omega arith);
      left_empty = λ _ e. (c.args.b, refl, (refl, c.len-right.ensures.reads.view.used ∙ c.len-left.ensures.reads.view.used));
      right_empty = λ _ l e. absurd (omega arith);
      short = λ _ l m n. absurd (omega arith);
      rope = λ _ l m n. absurd (omega arith);
    }

pub returns-then-right-eq0-clause-joined : goal.returns-then-right-eq0-clause-joined
returns-then-right-eq0-clause-joined g c us vs h k =
    let left = c.len-left.ensures.length us h in let some = c.if-left-eq0.false in
    let right = c.len-right.ensures.length vs (c.len-left.ensures.reads.view.known.units c.args.b.id vs k) in let none = c.if-right-eq0.true in
    let room = c.if-left-right.false in record {
      long = λ l. absurd (omega arith);
      left_empty = λ _ e. absurd (some (left ∙ e));
      right_empty = λ _ l e. (c.args.a, refl, (refl, c.len-right.ensures.reads.view.used ∙ c.len-left.ensures.reads.view.used));
      short = λ _ l m n. absurd (omega arith);
      rope = λ _ l m n. absurd (omega arith);
    }

pub overflow_add-left : goal.overflow_add-left
overflow_add-left g c = let v : View = c.args.self.now.reader.agent.seat.me.0 in let p = has_key v.units c.args.a.id c.requires.known.0 in let q = has_key v.units c.args.b.id c.requires.known.1 in
    let left = c.len-left.ensures.length p.0 p.1 in let right = c.len-right.ensures.length q.0 (c.len-left.ensures.reads.view.known.units c.args.b.id q.0 q.1) in
    let a = possible_short v c.args.self.now.reader.belongs.5 c.args.a.id p.0 p.1 in let b = possible_short v c.args.self.now.reader.belongs.5 c.args.b.id q.0 q.1 in omega arith

pub join-requires-clause-known : goal.join-requires-clause-known
join-requires-clause-known g c = let v : View = c.args.self.now.reader.agent.seat.me.0 in
    let w1 : View = c.len-left.new.self.agent.seat.me.0 in let w2 : View = c.len-right.new.self.agent.seat.me.0 in
    let r2 = reads_trans v w1 w2 c.len-left.ensures.reads.view c.len-right.ensures.reads.view in
    let p = has_key v.units c.args.a.id c.requires.known.0 in let q = has_key v.units c.args.b.id c.requires.known.1 in
    let left = c.len-left.ensures.length p.0 p.1 in let right = c.len-right.ensures.length q.0 (c.len-left.ensures.reads.view.known.units c.args.b.id q.0 q.1) in
    let some = c.if-left-eq0.false in let more = c.if-right-eq0.false in
    (p.0, q.0, r2.known.units c.args.a.id p.0 p.1, r2.known.units c.args.b.id q.0 q.1, omega arith, omega arith, omega arith)

pub returns-in-Ok-clause-continues : goal.returns-in-Ok-clause-continues
returns-in-Ok-clause-continues g c = let v : View = c.args.self.now.reader.agent.seat.me.0 in
    let w1 : View = c.len-left.new.self.agent.seat.me.0 in let w2 : View = c.len-right.new.self.agent.seat.me.0 in
    let w : View = c.join.new.reader.agent.seat.me.0 in let r2 = reads_trans v w1 w2 c.len-left.ensures.reads.view c.len-right.ensures.reads.view in
    continues_trans v w2 w (continues_reads v w2 r2) c.join.ensures.continues.view

pub returns-in-Ok-clause-joined : goal.returns-in-Ok-clause-joined
returns-in-Ok-clause-joined g c us vs h k = let v : View = c.args.self.now.reader.agent.seat.me.0 in
    let w1 : View = c.len-left.new.self.agent.seat.me.0 in let w2 : View = c.len-right.new.self.agent.seat.me.0 in
    let w : View = c.join.new.reader.agent.seat.me.0 in let r2 = reads_trans v w1 w2 c.len-left.ensures.reads.view c.len-right.ensures.reads.view in
    let left = c.len-left.ensures.length us h in let right = c.len-right.ensures.length vs (c.len-left.ensures.reads.view.known.units c.args.b.id vs k) in
    let some = c.if-left-eq0.false in let more = c.if-right-eq0.false in let room = c.if-left-right.false in
    let z : HeapSize = size_of (g.H.HeapRef.reached c.args.self.now.reader.heap) in
    let same : size_of (g.H.HeapRef.reached c.len-right.new.self.heap) ≡ z = ap (λ x. size_of (g.H.HeapRef.reached x)) (c.len-right.ensures.reads.heap ∙ c.len-left.ensures.reads.heap) in
    let a = c.args.a in let b = c.args.b in let hl = r2.known.units a.id us h in let hr = r2.known.units b.id vs k in record {
      long = λ l. absurd (omega arith);
      left_empty = λ _ e. absurd (some (left ∙ e));
      right_empty = λ _ _ e. absurd (more (right ∙ e));
      short = λ _ _ _ l. copied_lifted v w z (us ++ vs) (Ok c.in-Ok.s)
          (copied_after v w2 w z r2 (us ++ vs) (Ok c.in-Ok.s) (subst (λ (y : HeapSize). IsCopied w2 w y (us ++ vs) (Ok c.in-Ok.s)) same
          (c.in-Ok.ensures.copied (omega arith) us vs hl hr)));
      rope = λ _ _ _ l. linked_lifted v w z a b (us ++ vs) (Ok c.in-Ok.s)
          (linked_after v w2 w z r2 a b (us ++ vs) (Ok c.in-Ok.s) (subst (λ (y : HeapSize). IsLinked w2 w y a b (us ++ vs) (Ok c.in-Ok.s))
          same (c.in-Ok.ensures.linked (omega arith) us vs hl hr)));
    }

pub returns-in-Err-clause-continues : goal.returns-in-Err-clause-continues
returns-in-Err-clause-continues g c = let v : View = c.args.self.now.reader.agent.seat.me.0 in
    let w1 : View = c.len-left.new.self.agent.seat.me.0 in let w2 : View = c.len-right.new.self.agent.seat.me.0 in
    let w : View = c.join.new.reader.agent.seat.me.0 in let r2 = reads_trans v w1 w2 c.len-left.ensures.reads.view c.len-right.ensures.reads.view in
    continues_trans v w2 w (continues_reads v w2 r2) c.join.ensures.continues.view

pub returns-in-Err-clause-joined : goal.returns-in-Err-clause-joined
returns-in-Err-clause-joined g c us vs h k = let v : View = c.args.self.now.reader.agent.seat.me.0 in
    let w1 : View = c.len-left.new.self.agent.seat.me.0 in let w2 : View = c.len-right.new.self.agent.seat.me.0 in
    let w : View = c.join.new.reader.agent.seat.me.0 in let r2 = reads_trans v w1 w2 c.len-left.ensures.reads.view c.len-right.ensures.reads.view in
    let left = c.len-left.ensures.length us h in let right = c.len-right.ensures.length vs (c.len-left.ensures.reads.view.known.units c.args.b.id vs k) in
    let some = c.if-left-eq0.false in let more = c.if-right-eq0.false in let room = c.if-left-right.false in
    let z : HeapSize = size_of (g.H.HeapRef.reached c.args.self.now.reader.heap) in
    let same : size_of (g.H.HeapRef.reached c.len-right.new.self.heap) ≡ z = ap (λ x. size_of (g.H.HeapRef.reached x)) (c.len-right.ensures.reads.heap ∙ c.len-left.ensures.reads.heap) in
    let a = c.args.a in let b = c.args.b in let hl = r2.known.units a.id us h in let hr = r2.known.units b.id vs k in record {
      long = λ l. absurd (omega arith);
      left_empty = λ _ e. absurd (some (left ∙ e));
      right_empty = λ _ _ e. absurd (more (right ∙ e));
      short = λ _ _ _ l. copied_lifted v w z (us ++ vs) (Err c.in-Err.full)
          (copied_after v w2 w z r2 (us ++ vs) (Err c.in-Err.full) (subst (λ (y : HeapSize). IsCopied w2 w y (us ++ vs) (Err c.in-Err.full))
          same (c.in-Err.ensures.copied (omega arith) us vs hl hr)));
      rope = λ _ _ _ l. linked_lifted v w z a b (us ++ vs) (Err c.in-Err.full)
          (linked_after v w2 w z r2 a b (us ++ vs) (Err c.in-Err.full) (subst
          (λ (y : HeapSize). IsLinked w2 w y a b (us ++ vs) (Err c.in-Err.full)) same (c.in-Err.ensures.linked (omega arith) us vs hl hr)));
    }

pub returns-then-left-eq0-clause-units : goal.returns-then-left-eq0-clause-units
returns-then-left-eq0-clause-units g c us vs h k = let v : View = c.args.self.now.reader.agent.seat.me.0 in
    let w1 : View = c.len-left.new.self.agent.seat.me.0 in let w2 : View = c.len-right.new.self.agent.seat.me.0 in
    let w : View = c.len-right.new.self.agent.seat.me.0 in
    let known = known_trans v w1 w2 c.len-left.ensures.reads.view.known c.len-right.ensures.reads.view.known in joined_units v w
    (size_of (g.H.HeapRef.reached c.args.self.now.reader.heap)) c.args.self.now.limit c.args.a c.args.b c.args.b us vs
    (returns-then-left-eq0-clause-joined g c us vs h k) (known.units c.args.a.id us h) (known.units c.args.b.id vs k)

pub returns-then-right-eq0-clause-units : goal.returns-then-right-eq0-clause-units
returns-then-right-eq0-clause-units g c us vs h k = let v : View = c.args.self.now.reader.agent.seat.me.0 in
    let w1 : View = c.len-left.new.self.agent.seat.me.0 in let w2 : View = c.len-right.new.self.agent.seat.me.0 in
    let w : View = c.len-right.new.self.agent.seat.me.0 in
    let known = known_trans v w1 w2 c.len-left.ensures.reads.view.known c.len-right.ensures.reads.view.known in joined_units v w
    (size_of (g.H.HeapRef.reached c.args.self.now.reader.heap)) c.args.self.now.limit c.args.a c.args.b c.args.a us vs
    (returns-then-right-eq0-clause-joined g c us vs h k) (known.units c.args.a.id us h) (known.units c.args.b.id vs k)

pub returns-in-Ok-clause-units : goal.returns-in-Ok-clause-units
returns-in-Ok-clause-units g c us vs h k = let v : View = c.args.self.now.reader.agent.seat.me.0 in
    let w1 : View = c.len-left.new.self.agent.seat.me.0 in let w2 : View = c.len-right.new.self.agent.seat.me.0 in
    let w : View = c.join.new.reader.agent.seat.me.0 in let r2 = reads_trans v w1 w2 c.len-left.ensures.reads.view c.len-right.ensures.reads.view in
    let known = known_trans v w2 w r2.known c.join.ensures.continues.view.known in
    joined_units v w (size_of (g.H.HeapRef.reached c.args.self.now.reader.heap)) c.args.self.now.limit c.args.a c.args.b c.in-Ok.s us vs
    (returns-in-Ok-clause-joined g c us vs h k) (known.units c.args.a.id us h) (known.units c.args.b.id vs k)

pub returns-then-left-right-clause-continues : goal.returns-then-left-right-clause-continues
returns-then-left-right-clause-continues g c = let v : View = c.args.self.now.reader.agent.seat.me.0 in
    let w1 : View = c.len-left.new.self.agent.seat.me.0 in let w2 : View = c.len-right.new.self.agent.seat.me.0 in
    continues_reads v w2 (reads_trans v w1 w2 c.len-left.ensures.reads.view c.len-right.ensures.reads.view)

pub returns-then-left-right-clause-joined : goal.returns-then-left-right-clause-joined
returns-then-left-right-clause-joined g c us vs h k =
    let left = c.len-left.ensures.length us h in let right = c.len-right.ensures.length vs (c.len-left.ensures.reads.view.known.units c.args.b.id vs k) in
    let over = c.if-left-right.true in record {
      long = λ _. (λ i. Err (TooLong (left i) (right i)), c.len-right.ensures.reads.view.used ∙ c.len-left.ensures.reads.view.used);
      left_empty = λ l _. absurd (omega arith);
      right_empty = λ l _ _. absurd (omega arith);
      short = λ l _ _ _. absurd (omega arith);
      rope = λ l _ _ _. absurd (omega arith);
    }

pub join-requires-clause-most : goal.join-requires-clause-most
join-requires-clause-most g c = let room = c.if-left-right.false in let most = c.args.self.now.within in omega arith

pub returns-in-Ok-clause-own : goal.returns-in-Ok-clause-own
returns-in-Ok-clause-own g c = let v : View = c.args.self.now.reader.agent.seat.me.0 in
    let w1 : View = c.len-left.new.self.agent.seat.me.0 in let w2 : View = c.len-right.new.self.agent.seat.me.0 in
    let r2 = reads_trans v w1 w2 c.len-left.ensures.reads.view c.len-right.ensures.reads.view in
    own_trans v w2 c.join.new.reader.agent.seat.me.0 (own_reads v w2 r2) c.join.ensures.own

pub returns-in-Err-clause-own : goal.returns-in-Err-clause-own
returns-in-Err-clause-own g c = let v : View = c.args.self.now.reader.agent.seat.me.0 in
    let w1 : View = c.len-left.new.self.agent.seat.me.0 in let w2 : View = c.len-right.new.self.agent.seat.me.0 in
    let r2 = reads_trans v w1 w2 c.len-left.ensures.reads.view c.len-right.ensures.reads.view in
    own_trans v w2 c.join.new.reader.agent.seat.me.0 (own_reads v w2 r2) c.join.ensures.own

pub returns-then-left-right-clause-own : goal.returns-then-left-right-clause-own
returns-then-left-right-clause-own g c = let v : View = c.args.self.now.reader.agent.seat.me.0 in
    let w1 : View = c.len-left.new.self.agent.seat.me.0 in let w2 : View = c.len-right.new.self.agent.seat.me.0 in
    let r2 = reads_trans v w1 w2 c.len-left.ensures.reads.view c.len-right.ensures.reads.view in
    own_reads v w2 r2

pub returns-then-left-eq0-clause-own : goal.returns-then-left-eq0-clause-own
returns-then-left-eq0-clause-own g c = let v : View = c.args.self.now.reader.agent.seat.me.0 in
    let w1 : View = c.len-left.new.self.agent.seat.me.0 in let w2 : View = c.len-right.new.self.agent.seat.me.0 in
    let r2 = reads_trans v w1 w2 c.len-left.ensures.reads.view c.len-right.ensures.reads.view in
    own_reads v w2 r2

pub returns-then-right-eq0-clause-own : goal.returns-then-right-eq0-clause-own
returns-then-right-eq0-clause-own g c = let v : View = c.args.self.now.reader.agent.seat.me.0 in
    let w1 : View = c.len-left.new.self.agent.seat.me.0 in let w2 : View = c.len-right.new.self.agent.seat.me.0 in
    let r2 = reads_trans v w1 w2 c.len-left.ensures.reads.view c.len-right.ensures.reads.view in
    own_reads v w2 r2
