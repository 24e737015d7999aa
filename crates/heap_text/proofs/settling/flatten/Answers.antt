use Rattle.std.proofs.Common.{◌≡◌, ℕ, ◌+◌, ◌-◌, ◌/◌, ◌<◌, ◌≤◌, List, length, get_or, refl, ap, sym, subst, ◌∙◌, arith}
use Rattle.std.specs.FinMap.{FinMap, get}
use Rattle.std.specs.Ordering.{nat_cmp}
use Rattle.js_units.specs.Lanes.{lane_count, words_over}
use Rattle.js_header.specs.declared.form.Form.{Form}
use Rattle.js_header.specs.declared.form.Form.TheVariants.{Cons}
use Rattle.heap_rule.specs.declared.size.Counters.{Counters}
use Rattle.heap_rule.specs.declared.size.HeapSize.{HeapSize}
use Rattle.heap_rule.specs.declared.view.View.{View}
use Rattle.heap_rule.specs.Maps.{Has, HasKey}
use Rattle.heap_rule.proofs.MapLemmas.{insert_same}
use Rattle.heap_rule.proofs.Possible.{possible_lawful, possible_length, possible_short}
use Rattle.heap_rule.proofs.Steps.{possible_within}
use Rattle.heap_table.specs.Agents.{size_of}
use Rattle.heap_table.specs.Full.{IsFull}
use Rattle.heap_table.specs.Headers.{header_found}
use Rattle.heap_text.specs.Filling.{IsBoth, units_at}
use Rattle.heap_read.specs.Filling.{IsFilled, own_word}
use Rattle.heap_read.proofs.Placing.{unit_inside}
use Rattle.heap_bytes.proofs.Runs.{run_zero}
use Rattle.heap_text.proofs.Flattened.{filled_span, filled_zeros, is_moving, won_or_lost}
use Rattle.heap_read.proofs.Going.{continues_full_words, continues_reads, continues_trans, continues_words, run_kept, run_keys}
use Rattle.heap_text.proofs.Joined.{both_filled, narrow_units, some_words}
use Rattle.heap_text.proofs.Linking.{narrow_cons}
use Rattle.heap_read.proofs.Loaded.{reads_length, reads_trans, key_kept}
use Rattle.heap_text.proofs.Owned.{own_full, own_moved, own_reads, own_trans}
use Rattle.heap_rule.specs.declared.size.Counter.TheVariants as counter
use Rattle.heap_text.proofs.Pieces.{spared_words}
use Rattle.heap_text.proofs.Progress.{left_fits, right_fits}
use Rattle.heap_text.proofs.Settled.{sides_of}
use Rattle.heap_text.proofs.Sides.{possible_cons, units_are, units_there}
use Rattle.heap_read.proofs.Storing.{continues_writes, forms_length}
use Rattle.heap_text.proofs.Turning.{units_kept}
use Rattle.heap_text.specs.Settling.{HasSides, IsFlattened, IsNoRoom}
use Rattle.heap_text.specs.declared.faults.TextFull.TheVariants.{Words}
use Rattle.heap_text.proofs.settling.flatten.Goals as goal

pub left_length-m-requires-clause-cons : goal.left_length-m-requires-clause-cons
left_length-m-requires-clause-cons g c = let v : View = c.args.reader.now.agent.seat.me.0 in
    let a : View = c.load_length-n.new.self.seat.me.0 in let i = c.args.s.id in let n = c.load_length-n.result in
    let e = c.load_length-n.ensures in let fa = forms_length v a i n e.view in
    (c.args.wide, subst (λ (x : FinMap nat_cmp Form). Has x i (Cons c.args.wide c.args.left c.args.right)) (sym fa.0) c.requires.seen)

pub left_length-m-requires-clause-known : goal.left_length-m-requires-clause-known
left_length-m-requires-clause-known g c = let v : View = c.args.reader.now.agent.seat.me.0 in
    let a : View = c.load_length-n.new.self.seat.me.0 in let i = c.args.s.id in let n = c.load_length-n.result in
    let e = c.load_length-n.ensures in let fa = forms_length v a i n e.view in
    key_kept v a i e.known c.requires.known

pub claim_words-requires-clause-some : goal.claim_words-requires-clause-some
claim_words-requires-clause-some g c = let v : View = c.args.reader.now.agent.seat.me.0 in
    let a : View = c.load_length-n.new.self.seat.me.0 in let b : View = c.left_length-m.new.reader.agent.seat.me.0 in
    let i = c.args.s.id in let wide = c.args.wide in let left = c.args.left in let right = c.args.right in let n = c.load_length-n.result in
    let m = c.left_length-m.result in let e = c.load_length-n.ensures in let d = c.left_length-m.ensures in
    let us : List ℕ = units_at v i in let known = units_there v i c.requires.known in let ra = reads_length v a i n e.known e.view in let fa = forms_length v a i n e.view in
    let count : n ≡ length us = possible_length a e.belongs.5 i n us (e.known.units i us known) (subst (λ (w : View). Has w.lengths i n) (sym e.view) (insert_same v.lengths i n)) in
    let long = possible_cons v c.args.reader.now.belongs.5 i wide left right us c.requires.seen known in
    let ls : List ℕ = units_at b left in let rs : List ℕ = units_at b right in
    let both : IsBoth us ls rs m (length us) = subst (λ (xs : List ℕ). IsBoth xs ls rs m (length xs)) (units_kept v a i e.known c.requires.known) d.sides in
    let narrow = narrow_cons v c.args.reader.now.belongs.5 i wide left right us c.requires.seen known in
    subst (λ (x : ℕ). 1 ≤ x) (sym c.words_for.ensures) (some_words wide n (omega (arith, long, count)))

pub overflow_sub-n : goal.overflow_sub-n
overflow_sub-n g c = let v : View = c.args.reader.now.agent.seat.me.0 in let a : View = c.load_length-n.new.self.seat.me.0 in let b : View = c.left_length-m.new.reader.agent.seat.me.0 in
    let i = c.args.s.id in let wide = c.args.wide in let left = c.args.left in let right = c.args.right in let n = c.load_length-n.result in
    let m = c.left_length-m.result in let e = c.load_length-n.ensures in let d = c.left_length-m.ensures in
    let us : List ℕ = units_at v i in let known = units_there v i c.requires.known in let ra = reads_length v a i n e.known e.view in let fa = forms_length v a i n e.view in
    let count : n ≡ length us = possible_length a e.belongs.5 i n us (e.known.units i us known) (subst (λ (w : View). Has w.lengths i n) (sym e.view) (insert_same v.lengths i n)) in
    let long = possible_cons v c.args.reader.now.belongs.5 i wide left right us c.requires.seen known in
    let ls : List ℕ = units_at b left in let rs : List ℕ = units_at b right in
    let both : IsBoth us ls rs m (length us) = subst (λ (xs : List ℕ). IsBoth xs ls rs m (length xs)) (units_kept v a i e.known c.requires.known) d.sides in
    let narrow = narrow_cons v c.args.reader.now.belongs.5 i wide left right us c.requires.seen known in
    let w : View = c.claim_words.new.self.seat.me.0 in let start = c.in-Ok.start in let ok = c.in-Ok.ensures in let want = c.words_for.result in
    let words : want ≡ words_over wide (length us) = c.words_for.ensures ∙ ap (words_over wide) count in
    let lw : units_at w left ≡ ls = ap (λ (x : View). units_at x left) ok.view in let rw' : units_at w right ≡ rs = ap (λ (x : View). units_at x right) ok.view in
    let run : (q : ℕ) → q < words_over wide (length us) → HasKey w.own_words (start + q) = λ q l. subst
    (λ (x : View). HasKey x.own_words (start + q)) (sym ok.view) (run_keys b.own_words start want q 0 (omega (arith, l, words))) in
    let fits = narrow_units wide us narrow in
    omega (arith, both.right_some, count)

pub fill-requires-clause-known : goal.fill-requires-clause-known
fill-requires-clause-known g c = let v : View = c.args.reader.now.agent.seat.me.0 in let a : View = c.load_length-n.new.self.seat.me.0 in let b : View = c.left_length-m.new.reader.agent.seat.me.0 in
    let i = c.args.s.id in let wide = c.args.wide in let left = c.args.left in let right = c.args.right in let n = c.load_length-n.result in
    let m = c.left_length-m.result in let e = c.load_length-n.ensures in let d = c.left_length-m.ensures in
    let us : List ℕ = units_at v i in let known = units_there v i c.requires.known in let ra = reads_length v a i n e.known e.view in let fa = forms_length v a i n e.view in
    let count : n ≡ length us = possible_length a e.belongs.5 i n us (e.known.units i us known) (subst (λ (w : View). Has w.lengths i n) (sym e.view) (insert_same v.lengths i n)) in
    let long = possible_cons v c.args.reader.now.belongs.5 i wide left right us c.requires.seen known in
    let ls : List ℕ = units_at b left in let rs : List ℕ = units_at b right in
    let both : IsBoth us ls rs m (length us) = subst (λ (xs : List ℕ). IsBoth xs ls rs m (length xs)) (units_kept v a i e.known c.requires.known) d.sides in
    let narrow = narrow_cons v c.args.reader.now.belongs.5 i wide left right us c.requires.seen known in
    let w : View = c.claim_words.new.self.seat.me.0 in let start = c.in-Ok.start in let ok = c.in-Ok.ensures in let want = c.words_for.result in
    let words : want ≡ words_over wide (length us) = c.words_for.ensures ∙ ap (words_over wide) count in
    let lw : units_at w left ≡ ls = ap (λ (x : View). units_at x left) ok.view in let rw' : units_at w right ≡ rs = ap (λ (x : View). units_at x right) ok.view in
    let run : (q : ℕ) → q < words_over wide (length us) → HasKey w.own_words (start + q) = λ q l. subst
    (λ (x : View). HasKey x.own_words (start + q)) (sym ok.view) (run_keys b.own_words start want q 0 (omega (arith, l, words))) in
    let fits = narrow_units wide us narrow in
    subst (λ (x : View). HasKey x.units left) (sym ok.view) d.known.0

pub fill-requires-clause-count : goal.fill-requires-clause-count
fill-requires-clause-count g c = let v : View = c.args.reader.now.agent.seat.me.0 in let a : View = c.load_length-n.new.self.seat.me.0 in let b : View = c.left_length-m.new.reader.agent.seat.me.0 in
    let i = c.args.s.id in let wide = c.args.wide in let left = c.args.left in let right = c.args.right in let n = c.load_length-n.result in
    let m = c.left_length-m.result in let e = c.load_length-n.ensures in let d = c.left_length-m.ensures in
    let us : List ℕ = units_at v i in let known = units_there v i c.requires.known in let ra = reads_length v a i n e.known e.view in let fa = forms_length v a i n e.view in
    let count : n ≡ length us = possible_length a e.belongs.5 i n us (e.known.units i us known) (subst (λ (w : View). Has w.lengths i n) (sym e.view) (insert_same v.lengths i n)) in
    let long = possible_cons v c.args.reader.now.belongs.5 i wide left right us c.requires.seen known in
    let ls : List ℕ = units_at b left in let rs : List ℕ = units_at b right in
    let both : IsBoth us ls rs m (length us) = subst (λ (xs : List ℕ). IsBoth xs ls rs m (length xs)) (units_kept v a i e.known c.requires.known) d.sides in
    let narrow = narrow_cons v c.args.reader.now.belongs.5 i wide left right us c.requires.seen known in
    let w : View = c.claim_words.new.self.seat.me.0 in let start = c.in-Ok.start in let ok = c.in-Ok.ensures in let want = c.words_for.result in
    let words : want ≡ words_over wide (length us) = c.words_for.ensures ∙ ap (words_over wide) count in
    let lw : units_at w left ≡ ls = ap (λ (x : View). units_at x left) ok.view in let rw' : units_at w right ≡ rs = ap (λ (x : View). units_at x right) ok.view in
    let run : (q : ℕ) → q < words_over wide (length us) → HasKey w.own_words (start + q) = λ q l. subst
    (λ (x : View). HasKey x.own_words (start + q)) (sym ok.view) (run_keys b.own_words start want q 0 (omega (arith, l, words))) in
    let fits = narrow_units wide us narrow in
    ap length lw ∙ both.left_count

pub fill-requires-clause-some : goal.fill-requires-clause-some
fill-requires-clause-some g c = let v : View = c.args.reader.now.agent.seat.me.0 in let a : View = c.load_length-n.new.self.seat.me.0 in let b : View = c.left_length-m.new.reader.agent.seat.me.0 in
    let i = c.args.s.id in let wide = c.args.wide in let left = c.args.left in let right = c.args.right in let n = c.load_length-n.result in
    let m = c.left_length-m.result in let e = c.load_length-n.ensures in let d = c.left_length-m.ensures in
    let us : List ℕ = units_at v i in let known = units_there v i c.requires.known in let ra = reads_length v a i n e.known e.view in let fa = forms_length v a i n e.view in
    let count : n ≡ length us = possible_length a e.belongs.5 i n us (e.known.units i us known) (subst (λ (w : View). Has w.lengths i n) (sym e.view) (insert_same v.lengths i n)) in
    let long = possible_cons v c.args.reader.now.belongs.5 i wide left right us c.requires.seen known in
    let ls : List ℕ = units_at b left in let rs : List ℕ = units_at b right in
    let both : IsBoth us ls rs m (length us) = subst (λ (xs : List ℕ). IsBoth xs ls rs m (length xs)) (units_kept v a i e.known c.requires.known) d.sides in
    let narrow = narrow_cons v c.args.reader.now.belongs.5 i wide left right us c.requires.seen known in
    let w : View = c.claim_words.new.self.seat.me.0 in let start = c.in-Ok.start in let ok = c.in-Ok.ensures in let want = c.words_for.result in
    let words : want ≡ words_over wide (length us) = c.words_for.ensures ∙ ap (words_over wide) count in
    let lw : units_at w left ≡ ls = ap (λ (x : View). units_at x left) ok.view in let rw' : units_at w right ≡ rs = ap (λ (x : View). units_at x right) ok.view in
    let run : (q : ℕ) → q < words_over wide (length us) → HasKey w.own_words (start + q) = λ q l. subst
    (λ (x : View). HasKey x.own_words (start + q)) (sym ok.view) (run_keys b.own_words start want q 0 (omega (arith, l, words))) in
    let fits = narrow_units wide us narrow in
    both.left_some

pub fill-requires-clause-short : goal.fill-requires-clause-short
fill-requires-clause-short g c = let v : View = c.args.reader.now.agent.seat.me.0 in let a : View = c.load_length-n.new.self.seat.me.0 in let b : View = c.left_length-m.new.reader.agent.seat.me.0 in
    let i = c.args.s.id in let wide = c.args.wide in let left = c.args.left in let right = c.args.right in let n = c.load_length-n.result in
    let m = c.left_length-m.result in let e = c.load_length-n.ensures in let d = c.left_length-m.ensures in
    let us : List ℕ = units_at v i in let known = units_there v i c.requires.known in let ra = reads_length v a i n e.known e.view in let fa = forms_length v a i n e.view in
    let count : n ≡ length us = possible_length a e.belongs.5 i n us (e.known.units i us known) (subst (λ (w : View). Has w.lengths i n) (sym e.view) (insert_same v.lengths i n)) in
    let long = possible_cons v c.args.reader.now.belongs.5 i wide left right us c.requires.seen known in
    let ls : List ℕ = units_at b left in let rs : List ℕ = units_at b right in
    let both : IsBoth us ls rs m (length us) = subst (λ (xs : List ℕ). IsBoth xs ls rs m (length xs)) (units_kept v a i e.known c.requires.known) d.sides in
    let narrow = narrow_cons v c.args.reader.now.belongs.5 i wide left right us c.requires.seen known in
    let w : View = c.claim_words.new.self.seat.me.0 in let start = c.in-Ok.start in let ok = c.in-Ok.ensures in let want = c.words_for.result in
    let words : want ≡ words_over wide (length us) = c.words_for.ensures ∙ ap (words_over wide) count in
    let lw : units_at w left ≡ ls = ap (λ (x : View). units_at x left) ok.view in let rw' : units_at w right ≡ rs = ap (λ (x : View). units_at x right) ok.view in
    let run : (q : ℕ) → q < words_over wide (length us) → HasKey w.own_words (start + q) = λ q l. subst
    (λ (x : View). HasKey x.own_words (start + q)) (sym ok.view) (run_keys b.own_words start want q 0 (omega (arith, l, words))) in
    let fits = narrow_units wide us narrow in
    let s = possible_short v c.args.reader.now.belongs.5 i us known in omega (arith, s, both.right_some)

pub fill-requires-clause-own : goal.fill-requires-clause-own
fill-requires-clause-own g c o l h = let v : View = c.args.reader.now.agent.seat.me.0 in
    let a : View = c.load_length-n.new.self.seat.me.0 in let b : View = c.left_length-m.new.reader.agent.seat.me.0 in
    let i = c.args.s.id in let wide = c.args.wide in let left = c.args.left in let right = c.args.right in let n = c.load_length-n.result in
    let m = c.left_length-m.result in let e = c.load_length-n.ensures in let d = c.left_length-m.ensures in
    let us : List ℕ = units_at v i in let known = units_there v i c.requires.known in let ra = reads_length v a i n e.known e.view in let fa = forms_length v a i n e.view in
    let count : n ≡ length us = possible_length a e.belongs.5 i n us (e.known.units i us known) (subst (λ (w : View). Has w.lengths i n) (sym e.view) (insert_same v.lengths i n)) in
    let long = possible_cons v c.args.reader.now.belongs.5 i wide left right us c.requires.seen known in
    let ls : List ℕ = units_at b left in let rs : List ℕ = units_at b right in
    let both : IsBoth us ls rs m (length us) = subst (λ (xs : List ℕ). IsBoth xs ls rs m (length xs)) (units_kept v a i e.known c.requires.known) d.sides in
    let narrow = narrow_cons v c.args.reader.now.belongs.5 i wide left right us c.requires.seen known in
    let w : View = c.claim_words.new.self.seat.me.0 in let start = c.in-Ok.start in let ok = c.in-Ok.ensures in let want = c.words_for.result in
    let words : want ≡ words_over wide (length us) = c.words_for.ensures ∙ ap (words_over wide) count in
    let lw : units_at w left ≡ ls = ap (λ (x : View). units_at x left) ok.view in let rw' : units_at w right ≡ rs = ap (λ (x : View). units_at x right) ok.view in
    let run : (q : ℕ) → q < words_over wide (length us) → HasKey w.own_words (start + q) = λ q l. subst
    (λ (x : View). HasKey x.own_words (start + q)) (sym ok.view) (run_keys b.own_words start want q 0 (omega (arith, l, words))) in
    let fits = narrow_units wide us narrow in
    run (o / lane_count wide) (unit_inside wide (length us) o (omega (arith, h, both.right_some)))

pub fill-requires-clause-fits : goal.fill-requires-clause-fits
fill-requires-clause-fits g c z k l = let v : View = c.args.reader.now.agent.seat.me.0 in
    let a : View = c.load_length-n.new.self.seat.me.0 in let b : View = c.left_length-m.new.reader.agent.seat.me.0 in
    let i = c.args.s.id in let wide = c.args.wide in let left = c.args.left in let right = c.args.right in let n = c.load_length-n.result in
    let m = c.left_length-m.result in let e = c.load_length-n.ensures in let d = c.left_length-m.ensures in
    let us : List ℕ = units_at v i in let known = units_there v i c.requires.known in let ra = reads_length v a i n e.known e.view in let fa = forms_length v a i n e.view in
    let count : n ≡ length us = possible_length a e.belongs.5 i n us (e.known.units i us known) (subst (λ (w : View). Has w.lengths i n) (sym e.view) (insert_same v.lengths i n)) in
    let long = possible_cons v c.args.reader.now.belongs.5 i wide left right us c.requires.seen known in
    let ls : List ℕ = units_at b left in let rs : List ℕ = units_at b right in
    let both : IsBoth us ls rs m (length us) = subst (λ (xs : List ℕ). IsBoth xs ls rs m (length xs)) (units_kept v a i e.known c.requires.known) d.sides in
    let narrow = narrow_cons v c.args.reader.now.belongs.5 i wide left right us c.requires.seen known in
    let w : View = c.claim_words.new.self.seat.me.0 in let start = c.in-Ok.start in let ok = c.in-Ok.ensures in let want = c.words_for.result in
    let words : want ≡ words_over wide (length us) = c.words_for.ensures ∙ ap (words_over wide) count in
    let lw : units_at w left ≡ ls = ap (λ (x : View). units_at x left) ok.view in let rw' : units_at w right ≡ rs = ap (λ (x : View). units_at x right) ok.view in
    let run : (q : ℕ) → q < words_over wide (length us) → HasKey w.own_words (start + q) = λ q l. subst
    (λ (x : View). HasKey x.own_words (start + q)) (sym ok.view) (run_keys b.own_words start want q 0 (omega (arith, l, words))) in
    let fits = narrow_units wide us narrow in
    subst (λ (xs : List ℕ). get_or xs k 0 < 256) (sym lw) (left_fits wide us ls rs m (length us) both fits z k l)

pub fill_right-requires-clause-known : goal.fill_right-requires-clause-known
fill_right-requires-clause-known g c = let v : View = c.args.reader.now.agent.seat.me.0 in let a : View = c.load_length-n.new.self.seat.me.0 in let b : View = c.left_length-m.new.reader.agent.seat.me.0 in
    let i = c.args.s.id in let wide = c.args.wide in let left = c.args.left in let right = c.args.right in let n = c.load_length-n.result in
    let m = c.left_length-m.result in let e = c.load_length-n.ensures in let d = c.left_length-m.ensures in
    let us : List ℕ = units_at v i in let known = units_there v i c.requires.known in let ra = reads_length v a i n e.known e.view in let fa = forms_length v a i n e.view in
    let count : n ≡ length us = possible_length a e.belongs.5 i n us (e.known.units i us known) (subst (λ (w : View). Has w.lengths i n) (sym e.view) (insert_same v.lengths i n)) in
    let long = possible_cons v c.args.reader.now.belongs.5 i wide left right us c.requires.seen known in
    let ls : List ℕ = units_at b left in let rs : List ℕ = units_at b right in
    let both : IsBoth us ls rs m (length us) = subst (λ (xs : List ℕ). IsBoth xs ls rs m (length xs)) (units_kept v a i e.known c.requires.known) d.sides in
    let narrow = narrow_cons v c.args.reader.now.belongs.5 i wide left right us c.requires.seen known in
    let w : View = c.claim_words.new.self.seat.me.0 in let start = c.in-Ok.start in let ok = c.in-Ok.ensures in let want = c.words_for.result in
    let words : want ≡ words_over wide (length us) = c.words_for.ensures ∙ ap (words_over wide) count in
    let lw : units_at w left ≡ ls = ap (λ (x : View). units_at x left) ok.view in let rw' : units_at w right ≡ rs = ap (λ (x : View). units_at x right) ok.view in
    let run : (q : ℕ) → q < words_over wide (length us) → HasKey w.own_words (start + q) = λ q l. subst
    (λ (x : View). HasKey x.own_words (start + q)) (sym ok.view) (run_keys b.own_words start want q 0 (omega (arith, l, words))) in
    let fits = narrow_units wide us narrow in
    let f1 : View = c.fill.new.reader.agent.seat.me.0 in let r1 = c.fill.ensures in let key : HasKey w.units right = subst (λ (x : View). HasKey x.units right) (sym ok.view) d.known.1 in
    let rf : units_at f1 right ≡ rs = units_kept w f1 right r1.writes.view.known key ∙ rw' in
    key_kept w f1 right r1.writes.view.known key

pub fill_right-requires-clause-before : goal.fill_right-requires-clause-before
fill_right-requires-clause-before g c = let v : View = c.args.reader.now.agent.seat.me.0 in let a : View = c.load_length-n.new.self.seat.me.0 in let b : View = c.left_length-m.new.reader.agent.seat.me.0 in
    let i = c.args.s.id in let wide = c.args.wide in let left = c.args.left in let right = c.args.right in let n = c.load_length-n.result in
    let m = c.left_length-m.result in let e = c.load_length-n.ensures in let d = c.left_length-m.ensures in
    let us : List ℕ = units_at v i in let known = units_there v i c.requires.known in let ra = reads_length v a i n e.known e.view in let fa = forms_length v a i n e.view in
    let count : n ≡ length us = possible_length a e.belongs.5 i n us (e.known.units i us known) (subst (λ (w : View). Has w.lengths i n) (sym e.view) (insert_same v.lengths i n)) in
    let long = possible_cons v c.args.reader.now.belongs.5 i wide left right us c.requires.seen known in
    let ls : List ℕ = units_at b left in let rs : List ℕ = units_at b right in
    let both : IsBoth us ls rs m (length us) = subst (λ (xs : List ℕ). IsBoth xs ls rs m (length xs)) (units_kept v a i e.known c.requires.known) d.sides in
    let narrow = narrow_cons v c.args.reader.now.belongs.5 i wide left right us c.requires.seen known in
    let w : View = c.claim_words.new.self.seat.me.0 in let start = c.in-Ok.start in let ok = c.in-Ok.ensures in let want = c.words_for.result in
    let words : want ≡ words_over wide (length us) = c.words_for.ensures ∙ ap (words_over wide) count in
    let lw : units_at w left ≡ ls = ap (λ (x : View). units_at x left) ok.view in let rw' : units_at w right ≡ rs = ap (λ (x : View). units_at x right) ok.view in
    let run : (q : ℕ) → q < words_over wide (length us) → HasKey w.own_words (start + q) = λ q l. subst
    (λ (x : View). HasKey x.own_words (start + q)) (sym ok.view) (run_keys b.own_words start want q 0 (omega (arith, l, words))) in
    let fits = narrow_units wide us narrow in
    let f1 : View = c.fill.new.reader.agent.seat.me.0 in let r1 = c.fill.ensures in let key : HasKey w.units right = subst (λ (x : View). HasKey x.units right) (sym ok.view) d.known.1 in
    let lkey : HasKey w.units left = subst (λ (x : View). HasKey x.units left) (sym ok.view) d.known.0 in
    ap length (units_kept w f1 left r1.writes.view.known lkey ∙ lw) ∙ both.left_count

pub fill_right-requires-clause-count : goal.fill_right-requires-clause-count
fill_right-requires-clause-count g c = let v : View = c.args.reader.now.agent.seat.me.0 in let a : View = c.load_length-n.new.self.seat.me.0 in let b : View = c.left_length-m.new.reader.agent.seat.me.0 in
    let i = c.args.s.id in let wide = c.args.wide in let left = c.args.left in let right = c.args.right in let n = c.load_length-n.result in
    let m = c.left_length-m.result in let e = c.load_length-n.ensures in let d = c.left_length-m.ensures in
    let us : List ℕ = units_at v i in let known = units_there v i c.requires.known in let ra = reads_length v a i n e.known e.view in let fa = forms_length v a i n e.view in
    let count : n ≡ length us = possible_length a e.belongs.5 i n us (e.known.units i us known) (subst (λ (w : View). Has w.lengths i n) (sym e.view) (insert_same v.lengths i n)) in
    let long = possible_cons v c.args.reader.now.belongs.5 i wide left right us c.requires.seen known in
    let ls : List ℕ = units_at b left in let rs : List ℕ = units_at b right in
    let both : IsBoth us ls rs m (length us) = subst (λ (xs : List ℕ). IsBoth xs ls rs m (length xs)) (units_kept v a i e.known c.requires.known) d.sides in
    let narrow = narrow_cons v c.args.reader.now.belongs.5 i wide left right us c.requires.seen known in
    let w : View = c.claim_words.new.self.seat.me.0 in let start = c.in-Ok.start in let ok = c.in-Ok.ensures in let want = c.words_for.result in
    let words : want ≡ words_over wide (length us) = c.words_for.ensures ∙ ap (words_over wide) count in
    let lw : units_at w left ≡ ls = ap (λ (x : View). units_at x left) ok.view in let rw' : units_at w right ≡ rs = ap (λ (x : View). units_at x right) ok.view in
    let run : (q : ℕ) → q < words_over wide (length us) → HasKey w.own_words (start + q) = λ q l. subst
    (λ (x : View). HasKey x.own_words (start + q)) (sym ok.view) (run_keys b.own_words start want q 0 (omega (arith, l, words))) in
    let fits = narrow_units wide us narrow in
    let f1 : View = c.fill.new.reader.agent.seat.me.0 in let r1 = c.fill.ensures in let key : HasKey w.units right = subst (λ (x : View). HasKey x.units right) (sym ok.view) d.known.1 in
    let rf : units_at f1 right ≡ rs = units_kept w f1 right r1.writes.view.known key ∙ rw' in
    ap length rf ∙ (both.right_count ∙ ap (λ (k : ℕ). k - m) (sym count))

pub fill_right-requires-clause-held : goal.fill_right-requires-clause-held
fill_right-requires-clause-held g c k l = let d = c.left_length-m.ensures in let left = c.args.left in let w : View = c.claim_words.new.self.seat.me.0 in let ok = c.in-Ok.ensures in
    let f1 : View = c.fill.new.reader.agent.seat.me.0 in let r1 = c.fill.ensures in
    let lkey : HasKey w.units left = subst (λ (x : View). HasKey x.units left) (sym ok.view) d.known.0 in
    r1.filled.inside k l ∙ ap (λ (xs : List ℕ). get_or xs k 0) (sym (units_kept w f1 left r1.writes.view.known lkey))

pub fill_right-requires-clause-some : goal.fill_right-requires-clause-some
fill_right-requires-clause-some g c = let v : View = c.args.reader.now.agent.seat.me.0 in let a : View = c.load_length-n.new.self.seat.me.0 in let b : View = c.left_length-m.new.reader.agent.seat.me.0 in
    let i = c.args.s.id in let wide = c.args.wide in let left = c.args.left in let right = c.args.right in let n = c.load_length-n.result in
    let m = c.left_length-m.result in let e = c.load_length-n.ensures in let d = c.left_length-m.ensures in
    let us : List ℕ = units_at v i in let known = units_there v i c.requires.known in let ra = reads_length v a i n e.known e.view in let fa = forms_length v a i n e.view in
    let count : n ≡ length us = possible_length a e.belongs.5 i n us (e.known.units i us known) (subst (λ (w : View). Has w.lengths i n) (sym e.view) (insert_same v.lengths i n)) in
    let long = possible_cons v c.args.reader.now.belongs.5 i wide left right us c.requires.seen known in
    let ls : List ℕ = units_at b left in let rs : List ℕ = units_at b right in
    let both : IsBoth us ls rs m (length us) = subst (λ (xs : List ℕ). IsBoth xs ls rs m (length xs)) (units_kept v a i e.known c.requires.known) d.sides in
    let narrow = narrow_cons v c.args.reader.now.belongs.5 i wide left right us c.requires.seen known in
    let w : View = c.claim_words.new.self.seat.me.0 in let start = c.in-Ok.start in let ok = c.in-Ok.ensures in let want = c.words_for.result in
    let words : want ≡ words_over wide (length us) = c.words_for.ensures ∙ ap (words_over wide) count in
    let lw : units_at w left ≡ ls = ap (λ (x : View). units_at x left) ok.view in let rw' : units_at w right ≡ rs = ap (λ (x : View). units_at x right) ok.view in
    let run : (q : ℕ) → q < words_over wide (length us) → HasKey w.own_words (start + q) = λ q l. subst
    (λ (x : View). HasKey x.own_words (start + q)) (sym ok.view) (run_keys b.own_words start want q 0 (omega (arith, l, words))) in
    let fits = narrow_units wide us narrow in
    let f1 : View = c.fill.new.reader.agent.seat.me.0 in let r1 = c.fill.ensures in let key : HasKey w.units right = subst (λ (x : View). HasKey x.units right) (sym ok.view) d.known.1 in
    let rf : units_at f1 right ≡ rs = units_kept w f1 right r1.writes.view.known key ∙ rw' in
    omega (arith, both.right_some, count)

pub fill_right-requires-clause-short : goal.fill_right-requires-clause-short
fill_right-requires-clause-short g c = let v : View = c.args.reader.now.agent.seat.me.0 in let a : View = c.load_length-n.new.self.seat.me.0 in let b : View = c.left_length-m.new.reader.agent.seat.me.0 in
    let i = c.args.s.id in let wide = c.args.wide in let left = c.args.left in let right = c.args.right in let n = c.load_length-n.result in
    let m = c.left_length-m.result in let e = c.load_length-n.ensures in let d = c.left_length-m.ensures in
    let us : List ℕ = units_at v i in let known = units_there v i c.requires.known in let ra = reads_length v a i n e.known e.view in let fa = forms_length v a i n e.view in
    let count : n ≡ length us = possible_length a e.belongs.5 i n us (e.known.units i us known) (subst (λ (w : View). Has w.lengths i n) (sym e.view) (insert_same v.lengths i n)) in
    let long = possible_cons v c.args.reader.now.belongs.5 i wide left right us c.requires.seen known in
    let ls : List ℕ = units_at b left in let rs : List ℕ = units_at b right in
    let both : IsBoth us ls rs m (length us) = subst (λ (xs : List ℕ). IsBoth xs ls rs m (length xs)) (units_kept v a i e.known c.requires.known) d.sides in
    let narrow = narrow_cons v c.args.reader.now.belongs.5 i wide left right us c.requires.seen known in
    let w : View = c.claim_words.new.self.seat.me.0 in let start = c.in-Ok.start in let ok = c.in-Ok.ensures in let want = c.words_for.result in
    let words : want ≡ words_over wide (length us) = c.words_for.ensures ∙ ap (words_over wide) count in
    let lw : units_at w left ≡ ls = ap (λ (x : View). units_at x left) ok.view in let rw' : units_at w right ≡ rs = ap (λ (x : View). units_at x right) ok.view in
    let run : (q : ℕ) → q < words_over wide (length us) → HasKey w.own_words (start + q) = λ q l. subst
    (λ (x : View). HasKey x.own_words (start + q)) (sym ok.view) (run_keys b.own_words start want q 0 (omega (arith, l, words))) in
    let fits = narrow_units wide us narrow in
    let f1 : View = c.fill.new.reader.agent.seat.me.0 in let r1 = c.fill.ensures in let key : HasKey w.units right = subst (λ (x : View). HasKey x.units right) (sym ok.view) d.known.1 in
    let rf : units_at f1 right ≡ rs = units_kept w f1 right r1.writes.view.known key ∙ rw' in
    let s = possible_short v c.args.reader.now.belongs.5 i us known in omega (arith, s, both.right_some, count)

pub fill_right-requires-clause-own : goal.fill_right-requires-clause-own
fill_right-requires-clause-own g c o h = let v : View = c.args.reader.now.agent.seat.me.0 in
    let a : View = c.load_length-n.new.self.seat.me.0 in let b : View = c.left_length-m.new.reader.agent.seat.me.0 in
    let i = c.args.s.id in let wide = c.args.wide in let left = c.args.left in let right = c.args.right in let n = c.load_length-n.result in
    let m = c.left_length-m.result in let e = c.load_length-n.ensures in let d = c.left_length-m.ensures in
    let us : List ℕ = units_at v i in let known = units_there v i c.requires.known in let ra = reads_length v a i n e.known e.view in let fa = forms_length v a i n e.view in
    let count : n ≡ length us = possible_length a e.belongs.5 i n us (e.known.units i us known) (subst (λ (w : View). Has w.lengths i n) (sym e.view) (insert_same v.lengths i n)) in
    let long = possible_cons v c.args.reader.now.belongs.5 i wide left right us c.requires.seen known in
    let ls : List ℕ = units_at b left in let rs : List ℕ = units_at b right in
    let both : IsBoth us ls rs m (length us) = subst (λ (xs : List ℕ). IsBoth xs ls rs m (length xs)) (units_kept v a i e.known c.requires.known) d.sides in
    let narrow = narrow_cons v c.args.reader.now.belongs.5 i wide left right us c.requires.seen known in
    let w : View = c.claim_words.new.self.seat.me.0 in let start = c.in-Ok.start in let ok = c.in-Ok.ensures in let want = c.words_for.result in
    let words : want ≡ words_over wide (length us) = c.words_for.ensures ∙ ap (words_over wide) count in
    let lw : units_at w left ≡ ls = ap (λ (x : View). units_at x left) ok.view in let rw' : units_at w right ≡ rs = ap (λ (x : View). units_at x right) ok.view in
    let run : (q : ℕ) → q < words_over wide (length us) → HasKey w.own_words (start + q) = λ q l. subst
    (λ (x : View). HasKey x.own_words (start + q)) (sym ok.view) (run_keys b.own_words start want q 0 (omega (arith, l, words))) in
    let fits = narrow_units wide us narrow in
    let f1 : View = c.fill.new.reader.agent.seat.me.0 in let r1 = c.fill.ensures in let key : HasKey w.units right = subst (λ (x : View). HasKey x.units right) (sym ok.view) d.known.1 in
    let rf : units_at f1 right ≡ rs = units_kept w f1 right r1.writes.view.known key ∙ rw' in
    r1.writes.view.own_words (start + o / lane_count wide) (run (o / lane_count wide) (unit_inside wide (length us) o (omega (arith, h, both.right_some, count))))

pub fill_right-requires-clause-fits : goal.fill_right-requires-clause-fits
fill_right-requires-clause-fits g c z k l = let v : View = c.args.reader.now.agent.seat.me.0 in
    let a : View = c.load_length-n.new.self.seat.me.0 in let b : View = c.left_length-m.new.reader.agent.seat.me.0 in
    let i = c.args.s.id in let wide = c.args.wide in let left = c.args.left in let right = c.args.right in let n = c.load_length-n.result in
    let m = c.left_length-m.result in let e = c.load_length-n.ensures in let d = c.left_length-m.ensures in
    let us : List ℕ = units_at v i in let known = units_there v i c.requires.known in let ra = reads_length v a i n e.known e.view in let fa = forms_length v a i n e.view in
    let count : n ≡ length us = possible_length a e.belongs.5 i n us (e.known.units i us known) (subst (λ (w : View). Has w.lengths i n) (sym e.view) (insert_same v.lengths i n)) in
    let long = possible_cons v c.args.reader.now.belongs.5 i wide left right us c.requires.seen known in
    let ls : List ℕ = units_at b left in let rs : List ℕ = units_at b right in
    let both : IsBoth us ls rs m (length us) = subst (λ (xs : List ℕ). IsBoth xs ls rs m (length xs)) (units_kept v a i e.known c.requires.known) d.sides in
    let narrow = narrow_cons v c.args.reader.now.belongs.5 i wide left right us c.requires.seen known in
    let w : View = c.claim_words.new.self.seat.me.0 in let start = c.in-Ok.start in let ok = c.in-Ok.ensures in let want = c.words_for.result in
    let words : want ≡ words_over wide (length us) = c.words_for.ensures ∙ ap (words_over wide) count in
    let lw : units_at w left ≡ ls = ap (λ (x : View). units_at x left) ok.view in let rw' : units_at w right ≡ rs = ap (λ (x : View). units_at x right) ok.view in
    let run : (q : ℕ) → q < words_over wide (length us) → HasKey w.own_words (start + q) = λ q l. subst
    (λ (x : View). HasKey x.own_words (start + q)) (sym ok.view) (run_keys b.own_words start want q 0 (omega (arith, l, words))) in
    let fits = narrow_units wide us narrow in
    let f1 : View = c.fill.new.reader.agent.seat.me.0 in let r1 = c.fill.ensures in let key : HasKey w.units right = subst (λ (x : View). HasKey x.units right) (sym ok.view) d.known.1 in
    let rf : units_at f1 right ≡ rs = units_kept w f1 right r1.writes.view.known key ∙ rw' in
    subst (λ (xs : List ℕ). get_or xs k 0 < 256) (sym rf) (right_fits wide us ls rs m (length us) both fits z k (omega (arith, l, count)))

pub flatten_step-requires-clause-may : goal.flatten_step-requires-clause-may
flatten_step-requires-clause-may g c = let v : View = c.args.reader.now.agent.seat.me.0 in
    let a : View = c.load_length-n.new.self.seat.me.0 in let b : View = c.left_length-m.new.reader.agent.seat.me.0 in
    let i = c.args.s.id in let wide = c.args.wide in let left = c.args.left in let right = c.args.right in let n = c.load_length-n.result in
    let m = c.left_length-m.result in let e = c.load_length-n.ensures in let d = c.left_length-m.ensures in
    let us : List ℕ = units_at v i in let known = units_there v i c.requires.known in let ra = reads_length v a i n e.known e.view in let fa = forms_length v a i n e.view in
    let count : n ≡ length us = possible_length a e.belongs.5 i n us (e.known.units i us known) (subst (λ (w : View). Has w.lengths i n) (sym e.view) (insert_same v.lengths i n)) in
    let long = possible_cons v c.args.reader.now.belongs.5 i wide left right us c.requires.seen known in
    let ls : List ℕ = units_at b left in let rs : List ℕ = units_at b right in
    let both : IsBoth us ls rs m (length us) = subst (λ (xs : List ℕ). IsBoth xs ls rs m (length xs)) (units_kept v a i e.known c.requires.known) d.sides in
    let narrow = narrow_cons v c.args.reader.now.belongs.5 i wide left right us c.requires.seen known in
    let w : View = c.claim_words.new.self.seat.me.0 in let start = c.in-Ok.start in let ok = c.in-Ok.ensures in let want = c.words_for.result in
    let words : want ≡ words_over wide (length us) = c.words_for.ensures ∙ ap (words_over wide) count in
    let lw : units_at w left ≡ ls = ap (λ (x : View). units_at x left) ok.view in let rw' : units_at w right ≡ rs = ap (λ (x : View). units_at x right) ok.view in
    let run : (q : ℕ) → q < words_over wide (length us) → HasKey w.own_words (start + q) = λ q l. subst
    (λ (x : View). HasKey x.own_words (start + q)) (sym ok.view) (run_keys b.own_words start want q 0 (omega (arith, l, words))) in
    let fits = narrow_units wide us narrow in
    let f1 : View = c.fill.new.reader.agent.seat.me.0 in let r1 = c.fill.ensures in let key : HasKey w.units right = subst (λ (x : View). HasKey x.units right) (sym ok.view) d.known.1 in
    let rf : units_at f1 right ≡ rs = units_kept w f1 right r1.writes.view.known key ∙ rw' in
    let f2 : View = c.fill_right.new.reader.agent.seat.me.0 in let r2 = c.fill_right.ensures in
    let own : (q : ℕ) → q < words_over wide (length us) → HasKey f2.own_words (start + q) = λ q l. r2.writes.view.own_words (start + q) (r1.writes.view.own_words (start + q) (run q l)) in
    let f1l : IsFilled wide start (own_word w.own_words) (own_word f1.own_words) 0 m (λ k. get_or ls k 0) = subst
    (λ (xs : List ℕ). IsFilled wide start (own_word w.own_words) (own_word f1.own_words) 0 m (λ k. get_or xs k 0)) lw r1.filled in
    let f2r : IsFilled wide start (own_word f1.own_words) (own_word f2.own_words) m (length us - m) (λ k. get_or rs k 0) = subst
    (λ (k : ℕ). IsFilled wide start (own_word f1.own_words) (own_word f2.own_words) m (k - m) (λ k. get_or rs k 0)) count
    (subst (λ (xs : List ℕ). IsFilled wide start (own_word f1.own_words) (own_word f2.own_words) m (n - m) (λ k. get_or xs k 0)) rf r2.filled) in
    let f = both_filled wide start (own_word w.own_words) (own_word f1.own_words) (own_word f2.own_words) us ls rs m both f1l f2r in
    let zero : (q : ℕ) → q < words_over wide (length us) → Has w.own_words (start + q) 0 = λ q l. subst
    (λ (x : View). Has x.own_words (start + q) 0) (sym ok.view) (run_zero b.own_words start want q (omega (arith, l, words))) in
    let some : 1 ≤ words_over wide (length us) = some_words wide (length us) (omega (arith, long)) in
    let inside = (possible_within f2 c.fill_right.new.reader.belongs.5).words (start + 0) (own 0 some) in let lawful = (possible_lawful f2 c.fill_right.new.reader.belongs.5).3 in
    let form : Has f2.forms i (Cons wide left right) = r2.above i wide left right d.below.1
    (r1.above i wide left right d.below.0 (ap (λ (x : View). get x.forms i) ok.view ∙
    (ap (λ (x : FinMap nat_cmp Form). get x i) (d.forms.0 ∙ fa.0) ∙ c.requires.seen))) in
    let units : Has f2.units i us = r2.writes.view.known.units i us (r1.writes.view.known.units i us
    (subst (λ (x : View). Has x.units i us) (sym ok.view) (d.reads.view.known.units i us (e.known.units i us known)))) in (
      form,
      tt,
      omega (arith, inside, lawful),
      (
        us,
        units,
        λ q lo hi. let at : start + (q - start) ≡ q = omega (arith, lo) in subst (HasKey f2.own_words) at (own (q - start) (omega (arith, lo, hi))),
        filled_zeros f2 w.own_words wide start us f own zero,
        filled_span f2 w.own_words wide start us f own,
      ),
    )

pub returns-in-Err-clause-continues : goal.returns-in-Err-clause-continues
returns-in-Err-clause-continues g c = let v : View = c.args.reader.now.agent.seat.me.0 in
    let a : View = c.load_length-n.new.self.seat.me.0 in let b : View = c.left_length-m.new.reader.agent.seat.me.0 in
    let i = c.args.s.id in let wide = c.args.wide in let left = c.args.left in let right = c.args.right in let n = c.load_length-n.result in
    let m = c.left_length-m.result in let e = c.load_length-n.ensures in let d = c.left_length-m.ensures in
    let us : List ℕ = units_at v i in let known = units_there v i c.requires.known in let ra = reads_length v a i n e.known e.view in let fa = forms_length v a i n e.view in
    let count : n ≡ length us = possible_length a e.belongs.5 i n us (e.known.units i us known) (subst (λ (w : View). Has w.lengths i n) (sym e.view) (insert_same v.lengths i n)) in
    let long = possible_cons v c.args.reader.now.belongs.5 i wide left right us c.requires.seen known in
    let ls : List ℕ = units_at b left in let rs : List ℕ = units_at b right in
    let both : IsBoth us ls rs m (length us) = subst (λ (xs : List ℕ). IsBoth xs ls rs m (length xs)) (units_kept v a i e.known c.requires.known) d.sides in
    let narrow = narrow_cons v c.args.reader.now.belongs.5 i wide left right us c.requires.seen known in
    let w : View = c.claim_words.new.self.seat.me.0 in
    record {
      heap = cc;
      view = continues_trans v b w (continues_reads v b (reads_trans v a b ra d.reads.view))
          (continues_full_words b w c.in-Err.full.at c.in-Err.ensures.refused.0 c.claim_words.ensures.low);
    }

pub returns-clause-continues : goal.returns-clause-continues
returns-clause-continues g c = let v : View = c.args.reader.now.agent.seat.me.0 in let a : View = c.load_length-n.new.self.seat.me.0 in let b : View = c.left_length-m.new.reader.agent.seat.me.0 in
    let i = c.args.s.id in let wide = c.args.wide in let left = c.args.left in let right = c.args.right in let n = c.load_length-n.result in
    let m = c.left_length-m.result in let e = c.load_length-n.ensures in let d = c.left_length-m.ensures in
    let us : List ℕ = units_at v i in let known = units_there v i c.requires.known in let ra = reads_length v a i n e.known e.view in let fa = forms_length v a i n e.view in
    let count : n ≡ length us = possible_length a e.belongs.5 i n us (e.known.units i us known) (subst (λ (w : View). Has w.lengths i n) (sym e.view) (insert_same v.lengths i n)) in
    let long = possible_cons v c.args.reader.now.belongs.5 i wide left right us c.requires.seen known in
    let ls : List ℕ = units_at b left in let rs : List ℕ = units_at b right in
    let both : IsBoth us ls rs m (length us) = subst (λ (xs : List ℕ). IsBoth xs ls rs m (length xs)) (units_kept v a i e.known c.requires.known) d.sides in
    let narrow = narrow_cons v c.args.reader.now.belongs.5 i wide left right us c.requires.seen known in
    let w : View = c.claim_words.new.self.seat.me.0 in let start = c.in-Ok.start in let ok = c.in-Ok.ensures in let want = c.words_for.result in
    let words : want ≡ words_over wide (length us) = c.words_for.ensures ∙ ap (words_over wide) count in
    let lw : units_at w left ≡ ls = ap (λ (x : View). units_at x left) ok.view in let rw' : units_at w right ≡ rs = ap (λ (x : View). units_at x right) ok.view in
    let run : (q : ℕ) → q < words_over wide (length us) → HasKey w.own_words (start + q) = λ q l. subst
    (λ (x : View). HasKey x.own_words (start + q)) (sym ok.view) (run_keys b.own_words start want q 0 (omega (arith, l, words))) in
    let fits = narrow_units wide us narrow in
    let f1 : View = c.fill.new.reader.agent.seat.me.0 in let r1 = c.fill.ensures in let key : HasKey w.units right = subst (λ (x : View). HasKey x.units right) (sym ok.view) d.known.1 in
    let rf : units_at f1 right ≡ rs = units_kept w f1 right r1.writes.view.known key ∙ rw' in
    let f2 : View = c.fill_right.new.reader.agent.seat.me.0 in let r2 = c.fill_right.ensures in
    let own : (q : ℕ) → q < words_over wide (length us) → HasKey f2.own_words (start + q) = λ q l. r2.writes.view.own_words (start + q) (r1.writes.view.own_words (start + q) (run q l)) in
    let x : View = c.flatten_step.new.self.seat.me.0 in let st = c.flatten_step.ensures in
    let moving = is_moving f2 x i (Cons wide left right) wide start (header_found (Cons wide left right) c.flatten_step.result) st.view st.known in
    record {
      heap = cc;
      view = continues_trans v b x (continues_reads v b (reads_trans v a b ra d.reads.view)) (continues_trans b w x (continues_words b w start want ok.view c.claim_words.ensures.low)
          (continues_trans w f1 x (continues_writes w f1 r1.writes.view) (continues_trans f1 f2 x (continues_writes f1 f2 r2.writes.view) moving.continues)));
    }

pub returns-clause-flat : goal.returns-clause-flat
returns-clause-flat g c xs h = let v : View = c.args.reader.now.agent.seat.me.0 in let a : View = c.load_length-n.new.self.seat.me.0 in let b : View = c.left_length-m.new.reader.agent.seat.me.0 in
    let i = c.args.s.id in let wide = c.args.wide in let left = c.args.left in let right = c.args.right in let n = c.load_length-n.result in
    let m = c.left_length-m.result in let e = c.load_length-n.ensures in let d = c.left_length-m.ensures in
    let us : List ℕ = units_at v i in let known = units_there v i c.requires.known in let ra = reads_length v a i n e.known e.view in let fa = forms_length v a i n e.view in
    let count : n ≡ length us = possible_length a e.belongs.5 i n us (e.known.units i us known) (subst (λ (w : View). Has w.lengths i n) (sym e.view) (insert_same v.lengths i n)) in
    let long = possible_cons v c.args.reader.now.belongs.5 i wide left right us c.requires.seen known in
    let ls : List ℕ = units_at b left in let rs : List ℕ = units_at b right in
    let both : IsBoth us ls rs m (length us) = subst (λ (xs : List ℕ). IsBoth xs ls rs m (length xs)) (units_kept v a i e.known c.requires.known) d.sides in
    let narrow = narrow_cons v c.args.reader.now.belongs.5 i wide left right us c.requires.seen known in
    let w : View = c.claim_words.new.self.seat.me.0 in let start = c.in-Ok.start in let ok = c.in-Ok.ensures in let want = c.words_for.result in
    let words : want ≡ words_over wide (length us) = c.words_for.ensures ∙ ap (words_over wide) count in
    let lw : units_at w left ≡ ls = ap (λ (x : View). units_at x left) ok.view in let rw' : units_at w right ≡ rs = ap (λ (x : View). units_at x right) ok.view in
    let run : (q : ℕ) → q < words_over wide (length us) → HasKey w.own_words (start + q) = λ q l. subst
    (λ (x : View). HasKey x.own_words (start + q)) (sym ok.view) (run_keys b.own_words start want q 0 (omega (arith, l, words))) in
    let fits = narrow_units wide us narrow in
    let f1 : View = c.fill.new.reader.agent.seat.me.0 in let r1 = c.fill.ensures in let key : HasKey w.units right = subst (λ (x : View). HasKey x.units right) (sym ok.view) d.known.1 in
    let rf : units_at f1 right ≡ rs = units_kept w f1 right r1.writes.view.known key ∙ rw' in
    let f2 : View = c.fill_right.new.reader.agent.seat.me.0 in let r2 = c.fill_right.ensures in
    let own : (q : ℕ) → q < words_over wide (length us) → HasKey f2.own_words (start + q) = λ q l. r2.writes.view.own_words (start + q) (r1.writes.view.own_words (start + q) (run q l)) in
    let x : View = c.flatten_step.new.self.seat.me.0 in let st = c.flatten_step.ensures in
    let moving = is_moving f2 x i (Cons wide left right) wide start (header_found (Cons wide left right) c.flatten_step.result) st.view st.known in
    let is : xs ≡ us = sym (units_are v i xs h) in let rb = reads_trans v a b ra d.reads.view in subst (λ (ys : List ℕ). IsFlattened v x i ys wide) (sym is) record {
      narrow = narrow;
      used = (
        let r : x.used.ids ≡ v.used.ids = ap (λ (k : Counters). k.ids) (moving.used ∙ (r2.writes.view.used ∙ r1.writes.view.used)) ∙
            (ap (λ (y : View). y.used.ids) ok.view ∙ ap (λ (k : Counters). k.ids) rb.used) in omega (arith, r),
        ap (λ (k : Counters). k.words) (moving.used ∙ (r2.writes.view.used ∙ r1.writes.view.used)) ∙
            (ap (λ (y : View). y.used.words) ok.view ∙ (ap (λ (k : Counters). k.words + want) rb.used ∙ ap (λ (k : ℕ). v.used.words + k) words)),
      );
      own_ids = moving.own_ids ∙ (r2.writes.view.own_ids ∙ (r1.writes.view.own_ids ∙ (ap (λ (y : View). y.own_ids) ok.view ∙ rb.own_ids)));
      own_words = λ q k. let here : HasKey b.own_words q = subst (λ (y : FinMap nat_cmp ℕ). HasKey y q) (sym rb.own_words) k in
          moving.own_words q (ok.above_own q here) (r2.writes.view.own_words q
          (r1.writes.view.own_words q (subst (λ (y : View). HasKey y.own_words q) (sym ok.view) (run_kept b.own_words start want q 0 here))));
      sides = sides_of b x i left right m us (continues_trans b w x (continues_words b w start want ok.view c.claim_words.ensures.low)
          (continues_trans w f1 x (continues_writes w f1 r1.writes.view) (continues_trans f1 f2 x (continues_writes f1 f2 r2.writes.view) moving.continues))).known d.below d.known both;
      words = (
        start,
        λ q l k. let low = ok.above_own (start + q) (subst (λ (y : FinMap nat_cmp ℕ). HasKey y (start + q)) (sym rb.own_words)
            k) in omega arith,
        won_or_lost f2 x i (Cons wide left right) wide start (words_over wide (length us)) c.flatten_step.result st.step st.view own,
      );
    }

pub returns-in-Err-clause-rope : goal.returns-in-Err-clause-rope
returns-in-Err-clause-rope g c xs h = let v : View = c.args.reader.now.agent.seat.me.0 in
    let a : View = c.load_length-n.new.self.seat.me.0 in let b : View = c.left_length-m.new.reader.agent.seat.me.0 in
    let i = c.args.s.id in let wide = c.args.wide in let left = c.args.left in let right = c.args.right in let n = c.load_length-n.result in
    let m = c.left_length-m.result in let e = c.load_length-n.ensures in let d = c.left_length-m.ensures in
    let us : List ℕ = units_at v i in let known = units_there v i c.requires.known in let ra = reads_length v a i n e.known e.view in let fa = forms_length v a i n e.view in
    let count : n ≡ length us = possible_length a e.belongs.5 i n us (e.known.units i us known) (subst (λ (w : View). Has w.lengths i n) (sym e.view) (insert_same v.lengths i n)) in
    let long = possible_cons v c.args.reader.now.belongs.5 i wide left right us c.requires.seen known in
    let ls : List ℕ = units_at b left in let rs : List ℕ = units_at b right in
    let both : IsBoth us ls rs m (length us) = subst (λ (xs : List ℕ). IsBoth xs ls rs m (length xs)) (units_kept v a i e.known c.requires.known) d.sides in
    let narrow = narrow_cons v c.args.reader.now.belongs.5 i wide left right us c.requires.seen known in
    let w : View = c.claim_words.new.self.seat.me.0 in let is : xs ≡ us = sym (units_are v i xs h) in
    subst (λ (ys : List ℕ). HasSides w i ys) (sym is) (sides_of b w i left right m us
    (continues_full_words b w c.in-Err.full.at c.in-Err.ensures.refused.0 c.claim_words.ensures.low).known d.below d.known both)

pub returns-in-Err-clause-refused : goal.returns-in-Err-clause-refused
returns-in-Err-clause-refused g c xs h = let v : View = c.args.reader.now.agent.seat.me.0 in
    let a : View = c.load_length-n.new.self.seat.me.0 in let b : View = c.left_length-m.new.reader.agent.seat.me.0 in
    let i = c.args.s.id in let wide = c.args.wide in let left = c.args.left in let right = c.args.right in let n = c.load_length-n.result in
    let m = c.left_length-m.result in let e = c.load_length-n.ensures in let d = c.left_length-m.ensures in
    let us : List ℕ = units_at v i in let known = units_there v i c.requires.known in let ra = reads_length v a i n e.known e.view in let fa = forms_length v a i n e.view in
    let count : n ≡ length us = possible_length a e.belongs.5 i n us (e.known.units i us known) (subst (λ (w : View). Has w.lengths i n) (sym e.view) (insert_same v.lengths i n)) in
    let long = possible_cons v c.args.reader.now.belongs.5 i wide left right us c.requires.seen known in
    let ls : List ℕ = units_at b left in let rs : List ℕ = units_at b right in
    let both : IsBoth us ls rs m (length us) = subst (λ (xs : List ℕ). IsBoth xs ls rs m (length xs)) (units_kept v a i e.known c.requires.known) d.sides in
    let narrow = narrow_cons v c.args.reader.now.belongs.5 i wide left right us c.requires.seen known in
    let w : View = c.claim_words.new.self.seat.me.0 in let full = c.in-Err.full in let f = c.in-Err.ensures.refused in
    let words : c.words_for.result ≡ words_over wide (length us) = c.words_for.ensures ∙ ap (words_over wide) count in
    let is : xs ≡ us = sym (units_are v i xs h) in let rb = reads_trans v a b ra d.reads.view in
    let same : size_of (g.H.HeapRef.reached c.left_length-m.new.reader.heap) ≡ size_of (g.H.HeapRef.reached c.args.reader.now.heap) = ap (λ y. size_of (g.H.HeapRef.reached y)) d.reads.heap in
    let no_room : IsFull full (words_over wide (length us)) (size_of (g.H.HeapRef.reached c.left_length-m.new.reader.heap)).words = subst
    (λ (k : ℕ). IsFull full k (size_of (g.H.HeapRef.reached c.left_length-m.new.reader.heap)).words) words
    (subst (λ (z : HeapSize). IsFull full c.words_for.result z.words) (ap size_of c.heap-2.ensures) f.1) in
    subst (λ (ys : List ℕ). IsNoRoom v w (size_of (g.H.HeapRef.reached c.args.reader.now.heap)) ys (Words full) wide) (sym is) record {
      narrow = narrow;
      words = (full, refl);
      told = (subst (λ (z : HeapSize). IsFull full (words_over wide (length us)) z.words) same no_room, ap (λ (y : View). y.low.words) f.0);
      spared = spared_words v b w (words_over wide (length us)) (size_of (g.H.HeapRef.reached c.left_length-m.new.reader.heap)).words full
          rb no_room (ap (λ (y : View). y.used.ids) f.0) (ap (λ (y : View). y.used.words) f.0) (ap (λ (y : View). y.own_ids) f.0)
          (λ q k. subst (λ (y : View). HasKey y.own_words q) (sym f.0) k);
    }

pub returns-in-Err-clause-loads : goal.returns-in-Err-clause-loads
returns-in-Err-clause-loads g c l j h = let v : View = c.args.reader.now.agent.seat.me.0 in
    let a : View = c.load_length-n.new.self.seat.me.0 in let b : View = c.left_length-m.new.reader.agent.seat.me.0 in
    let i = c.args.s.id in let wide = c.args.wide in let left = c.args.left in let right = c.args.right in let n = c.load_length-n.result in
    let m = c.left_length-m.result in let e = c.load_length-n.ensures in let d = c.left_length-m.ensures in
    let us : List ℕ = units_at v i in let known = units_there v i c.requires.known in let ra = reads_length v a i n e.known e.view in let fa = forms_length v a i n e.view in
    let count : n ≡ length us = possible_length a e.belongs.5 i n us (e.known.units i us known) (subst (λ (w : View). Has w.lengths i n) (sym e.view) (insert_same v.lengths i n)) in
    let long = possible_cons v c.args.reader.now.belongs.5 i wide left right us c.requires.seen known in
    let ls : List ℕ = units_at b left in let rs : List ℕ = units_at b right in
    let both : IsBoth us ls rs m (length us) = subst (λ (xs : List ℕ). IsBoth xs ls rs m (length xs)) (units_kept v a i e.known c.requires.known) d.sides in
    let narrow = narrow_cons v c.args.reader.now.belongs.5 i wide left right us c.requires.seen known in
    let w : View = c.claim_words.new.self.seat.me.0 in
    let still : w.form_loads ≡ v.form_loads = ap (λ (y : View). y.form_loads) c.in-Err.ensures.refused.0 ∙ (d.forms.1 ∙ fa.1) in omega (arith, still, h)

pub returns-clause-loads : goal.returns-clause-loads
returns-clause-loads g c l j h = let v : View = c.args.reader.now.agent.seat.me.0 in let a : View = c.load_length-n.new.self.seat.me.0 in let b : View = c.left_length-m.new.reader.agent.seat.me.0 in
    let i = c.args.s.id in let wide = c.args.wide in let left = c.args.left in let right = c.args.right in let n = c.load_length-n.result in
    let m = c.left_length-m.result in let e = c.load_length-n.ensures in let d = c.left_length-m.ensures in
    let us : List ℕ = units_at v i in let known = units_there v i c.requires.known in let ra = reads_length v a i n e.known e.view in let fa = forms_length v a i n e.view in
    let count : n ≡ length us = possible_length a e.belongs.5 i n us (e.known.units i us known) (subst (λ (w : View). Has w.lengths i n) (sym e.view) (insert_same v.lengths i n)) in
    let long = possible_cons v c.args.reader.now.belongs.5 i wide left right us c.requires.seen known in
    let ls : List ℕ = units_at b left in let rs : List ℕ = units_at b right in
    let both : IsBoth us ls rs m (length us) = subst (λ (xs : List ℕ). IsBoth xs ls rs m (length xs)) (units_kept v a i e.known c.requires.known) d.sides in
    let narrow = narrow_cons v c.args.reader.now.belongs.5 i wide left right us c.requires.seen known in
    let w : View = c.claim_words.new.self.seat.me.0 in let start = c.in-Ok.start in let ok = c.in-Ok.ensures in let want = c.words_for.result in
    let words : want ≡ words_over wide (length us) = c.words_for.ensures ∙ ap (words_over wide) count in
    let lw : units_at w left ≡ ls = ap (λ (x : View). units_at x left) ok.view in let rw' : units_at w right ≡ rs = ap (λ (x : View). units_at x right) ok.view in
    let run : (q : ℕ) → q < words_over wide (length us) → HasKey w.own_words (start + q) = λ q l. subst
    (λ (x : View). HasKey x.own_words (start + q)) (sym ok.view) (run_keys b.own_words start want q 0 (omega (arith, l, words))) in
    let fits = narrow_units wide us narrow in
    let f1 : View = c.fill.new.reader.agent.seat.me.0 in let r1 = c.fill.ensures in let key : HasKey w.units right = subst (λ (x : View). HasKey x.units right) (sym ok.view) d.known.1 in
    let rf : units_at f1 right ≡ rs = units_kept w f1 right r1.writes.view.known key ∙ rw' in
    let f2 : View = c.fill_right.new.reader.agent.seat.me.0 in let r2 = c.fill_right.ensures in
    let own : (q : ℕ) → q < words_over wide (length us) → HasKey f2.own_words (start + q) = λ q l. r2.writes.view.own_words (start + q) (r1.writes.view.own_words (start + q) (run q l)) in
    let x : View = c.flatten_step.new.self.seat.me.0 in let st = c.flatten_step.ensures in
    let moving = is_moving f2 x i (Cons wide left right) wide start (header_found (Cons wide left right) c.flatten_step.result) st.view st.known in
    let still : w.form_loads ≡ v.form_loads = ap (λ (y : View). y.form_loads) ok.view ∙ (d.forms.1 ∙ fa.1) in omega
    (arith, moving.loads, r2.loads f1.form_loads 0 (omega (arith, r1.loads)), r1.loads, still, h, r1.more, r2.more, r1.steps, r2.steps)

pub returns-in-Err-clause-steps : goal.returns-in-Err-clause-steps
returns-in-Err-clause-steps g c xs h = let v : View = c.args.reader.now.agent.seat.me.0 in
    let a : View = c.load_length-n.new.self.seat.me.0 in let b : View = c.left_length-m.new.reader.agent.seat.me.0 in
    let i = c.args.s.id in let wide = c.args.wide in let left = c.args.left in let right = c.args.right in let n = c.load_length-n.result in
    let m = c.left_length-m.result in let e = c.load_length-n.ensures in let d = c.left_length-m.ensures in
    let us : List ℕ = units_at v i in let known = units_there v i c.requires.known in let ra = reads_length v a i n e.known e.view in let fa = forms_length v a i n e.view in
    let count : n ≡ length us = possible_length a e.belongs.5 i n us (e.known.units i us known) (subst (λ (w : View). Has w.lengths i n) (sym e.view) (insert_same v.lengths i n)) in
    let long = possible_cons v c.args.reader.now.belongs.5 i wide left right us c.requires.seen known in
    let ls : List ℕ = units_at b left in let rs : List ℕ = units_at b right in
    let both : IsBoth us ls rs m (length us) = subst (λ (xs : List ℕ). IsBoth xs ls rs m (length xs)) (units_kept v a i e.known c.requires.known) d.sides in
    let narrow = narrow_cons v c.args.reader.now.belongs.5 i wide left right us c.requires.seen known in
    let is : xs ≡ us = sym (units_are v i xs h) in let n : length xs ≡ length us = ap length is in omega (arith, n, long)

pub returns-clause-steps : goal.returns-clause-steps
returns-clause-steps g c xs h = let v : View = c.args.reader.now.agent.seat.me.0 in let a : View = c.load_length-n.new.self.seat.me.0 in let b : View = c.left_length-m.new.reader.agent.seat.me.0 in
    let i = c.args.s.id in let wide = c.args.wide in let left = c.args.left in let right = c.args.right in let n = c.load_length-n.result in
    let m = c.left_length-m.result in let e = c.load_length-n.ensures in let d = c.left_length-m.ensures in
    let us : List ℕ = units_at v i in let known = units_there v i c.requires.known in let ra = reads_length v a i n e.known e.view in let fa = forms_length v a i n e.view in
    let count : n ≡ length us = possible_length a e.belongs.5 i n us (e.known.units i us known) (subst (λ (w : View). Has w.lengths i n) (sym e.view) (insert_same v.lengths i n)) in
    let long = possible_cons v c.args.reader.now.belongs.5 i wide left right us c.requires.seen known in
    let ls : List ℕ = units_at b left in let rs : List ℕ = units_at b right in
    let both : IsBoth us ls rs m (length us) = subst (λ (xs : List ℕ). IsBoth xs ls rs m (length xs)) (units_kept v a i e.known c.requires.known) d.sides in
    let narrow = narrow_cons v c.args.reader.now.belongs.5 i wide left right us c.requires.seen known in
    let w : View = c.claim_words.new.self.seat.me.0 in let start = c.in-Ok.start in let ok = c.in-Ok.ensures in let want = c.words_for.result in
    let words : want ≡ words_over wide (length us) = c.words_for.ensures ∙ ap (words_over wide) count in
    let lw : units_at w left ≡ ls = ap (λ (x : View). units_at x left) ok.view in let rw' : units_at w right ≡ rs = ap (λ (x : View). units_at x right) ok.view in
    let run : (q : ℕ) → q < words_over wide (length us) → HasKey w.own_words (start + q) = λ q l. subst
    (λ (x : View). HasKey x.own_words (start + q)) (sym ok.view) (run_keys b.own_words start want q 0 (omega (arith, l, words))) in
    let fits = narrow_units wide us narrow in
    let f1 : View = c.fill.new.reader.agent.seat.me.0 in let r1 = c.fill.ensures in let key : HasKey w.units right = subst (λ (x : View). HasKey x.units right) (sym ok.view) d.known.1 in
    let rf : units_at f1 right ≡ rs = units_kept w f1 right r1.writes.view.known key ∙ rw' in
    let f2 : View = c.fill_right.new.reader.agent.seat.me.0 in let r2 = c.fill_right.ensures in
    let own : (q : ℕ) → q < words_over wide (length us) → HasKey f2.own_words (start + q) = λ q l. r2.writes.view.own_words (start + q) (r1.writes.view.own_words (start + q) (run q l)) in
    let is : xs ≡ us = sym (units_are v i xs h) in let k : length xs ≡ length us = ap length is in omega (arith, k, r1.steps, r2.steps, count, both.right_some)

pub returns-in-Err-clause-own : goal.returns-in-Err-clause-own
returns-in-Err-clause-own g c = let v : View = c.args.reader.now.agent.seat.me.0 in let a : View = c.load_length-n.new.self.seat.me.0 in let b : View = c.left_length-m.new.reader.agent.seat.me.0 in
    let e = c.load_length-n.ensures in let ra = reads_length v a c.args.s.id c.load_length-n.result e.known e.view in
    own_full v b c.claim_words.new.self.seat.me.0 counter.Words c.in-Err.full.at c.in-Err.ensures.refused.0 (own_reads v b (reads_trans v a b ra c.left_length-m.ensures.reads.view))

pub returns-clause-own : goal.returns-clause-own
returns-clause-own g c = let v : View = c.args.reader.now.agent.seat.me.0 in let a : View = c.load_length-n.new.self.seat.me.0 in let b : View = c.left_length-m.new.reader.agent.seat.me.0 in
    let i = c.args.s.id in let wide = c.args.wide in let e = c.load_length-n.ensures in let ra = reads_length v a i c.load_length-n.result e.known e.view in
    let w : View = c.claim_words.new.self.seat.me.0 in let start = c.in-Ok.start in let ok = c.in-Ok.ensures in
    let f1 : View = c.fill.new.reader.agent.seat.me.0 in let r1 = c.fill.ensures in let f2 : View = c.fill_right.new.reader.agent.seat.me.0 in let r2 = c.fill_right.ensures in
    let x : View = c.flatten_step.new.self.seat.me.0 in let st = c.flatten_step.ensures in let cons = Cons wide c.args.left c.args.right in
    let moving = is_moving f2 x i cons wide start (header_found cons c.flatten_step.result) st.view st.known in
    own_trans v b x (own_reads v b (reads_trans v a b ra c.left_length-m.ensures.reads.view))
    (own_moved b w f2 x start c.words_for.result ok.view ok.above_own (r2.writes.view.own_ids ∙ r1.writes.view.own_ids) (λ q y l h. r2.below q y l (r1.below q y l h)) moving.own_ids moving.below)
