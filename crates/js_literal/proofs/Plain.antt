-- Runs of characters that stand for themselves.
use Rattle.std.proofs.Common.{◌≡◌, ℕ, ◌≤◌, ◌+◌, List, [], ◌∷◌, ◌++◌, length, take, drop, Bool, true, false, cond, if◌then◌else◌, IsUtf8, refl, sym, ap, ◌∙◌, subst, append_assoc, arith, rules}
use Rattle.std.proofs.lemmas.Bool.Decides.{nat_tests}
use Rattle.std.proofs.lemmas.List.{append-nil}
use Rattle.std.specs.List.{prefix_len}
use Rattle.std.specs.Str.{chars, IsCharBoundary}
use Rattle.js_literal.specs.Literal.{is_quote}
use Rattle.js_literal.specs.Reader.{reading, Take, is_plain, plain_run, after_plain}
use Rattle.js_literal.proofs.AsciiRun.{OfAscii, take_first, drop_first, run_of}
use Rattle.js_literal.proofs.Pieces.{Closes, Fails, closes_more, fails_more}

plain_reads : (q c : ℕ) (s : List ℕ) → is_plain q c ≡ true → Take (c ∷ []) s ≡ reading q (c ∷ s)
unfolding reading
plain_reads q c s e = search rules

-- the code's run of bytes
plain_ascii : (q : ℕ) → OfAscii (is_plain q)
plain_ascii q c e = grind (arith, nat_tests)

run_taken : (q : ℕ) (s : List ℕ) → take (prefix_len (is_plain q) s) s ≡ plain_run q s
run_taken q [] = refl
run_taken q (c ∷ s) = go (is_plain q c) (run_taken q s)
  where
    go : (b : Bool) → take (prefix_len (is_plain q) s) s ≡ plain_run q s → take (cond b (1 + prefix_len (is_plain q) s) 0) (c ∷ s) ≡ (if b then c ∷ plain_run q s else [])
    go false h = refl
    go true h = take_first (prefix_len (is_plain q) s) c s ∙ ap (λ r. c ∷ r) h

run_dropped : (q : ℕ) (s : List ℕ) → drop (prefix_len (is_plain q) s) s ≡ after_plain q s
run_dropped q [] = refl
run_dropped q (c ∷ s) = go (is_plain q c) (run_dropped q s)
  where
    go : (b : Bool) → drop (prefix_len (is_plain q) s) s ≡ after_plain q s → drop (cond b (1 + prefix_len (is_plain q) s) 0) (c ∷ s) ≡ (if b then after_plain q s else c ∷ s)
    go false h = refl
    go true h = drop_first (prefix_len (is_plain q) s) c s ∙ h

-- a text cut behind its run
pub record Split (q : ℕ) (text : List ℕ) (len : ℕ) : Type 0 where
  pub cut : IsCharBoundary text len
  pub run : take len text ≡ plain_run q (chars text)
  pub rest : chars (drop len text) ≡ after_plain q (chars text)

pub split_at : (q : ℕ) (text bytes : List ℕ) (len : ℕ) → IsUtf8 text → bytes ≡ text → len ≡ prefix_len (is_plain q) bytes → Split q text len
split_at q text bytes len u e h =
    let r = run_of (is_plain q) text bytes len (plain_ascii q) u e h in
    record { cut = r.cut; run = r.run ∙ run_taken q (chars text); rest = r.rest ∙ run_dropped q (chars text) }

pub closes_run : (q : ℕ) (whole units s : List ℕ) → is_quote q ≡ true → Closes q whole units s → Closes q whole (units ++ plain_run q s) (after_plain q s)
closes_run q whole units [] hq h = subst (λ w. Closes q whole w []) (sym (append-nil units)) h
closes_run q whole units (c ∷ s) hq h = go (is_plain q c) refl (closes_run q whole (units ++ c ∷ []) s hq)
  where
    go : (b : Bool) → is_plain q c ≡ b → (Closes q whole (units ++ c ∷ []) s → Closes q whole ((units ++ c ∷ []) ++ plain_run q s)
        (after_plain q s)) → Closes q whole (units ++ (if b then c ∷ plain_run q s else [])) (if b then after_plain q s else c ∷ s)
    go false e more = subst (λ w. Closes q whole w (c ∷ s)) (sym (append-nil units)) h
    go true e more = subst (λ w. Closes q whole w (after_plain q s)) (append_assoc units (c ∷ []) (plain_run q s)) (more (closes_more q whole units (c ∷ s) (c ∷ []) s hq (plain_reads q c s e) h))

pub fails_run : (q : ℕ) (whole s : List ℕ) → is_quote q ≡ true → Fails q whole s → Fails q whole (after_plain q s)
fails_run q whole [] hq h = h
fails_run q whole (c ∷ s) hq h = go (is_plain q c) refl (fails_run q whole s hq)
  where
    go : (b : Bool) → is_plain q c ≡ b → (Fails q whole s → Fails q whole (after_plain q s)) → Fails q whole (if b then after_plain q s else c ∷ s)
    go false e more = h
    go true e more = more (fails_more q whole (c ∷ s) (c ∷ []) s hq (plain_reads q c s e) h)

pub run_shorter : (q : ℕ) (s : List ℕ) → length (after_plain q s) ≤ length s
run_shorter q [] = omega arith
run_shorter q (c ∷ s) = go (is_plain q c) (run_shorter q s)
  where
    go : (b : Bool) → length (after_plain q s) ≤ length s → length (if b then after_plain q s else c ∷ s) ≤ length (c ∷ s)
    go false h = omega arith
    go true h = omega (arith, h)

-- the same where the code has the run and what follows it
pub closes_behind : (q : ℕ) (whole units s run more behind : List ℕ) → is_quote q ≡ true → more ≡ units ++ run → run ≡ plain_run q s →
    behind ≡ after_plain q s → Closes q whole units s → Closes q whole more behind
closes_behind q whole units s run more behind hq hm hr hb h =
    let e : units ++ plain_run q s ≡ more = ap (λ r. units ++ r) (sym hr) ∙ sym hm in
    subst (λ w. Closes q whole w behind) e (subst (Closes q whole (units ++ plain_run q s)) (sym hb) (closes_run q whole units s hq h))

pub fails_behind : (q : ℕ) (whole s behind : List ℕ) → is_quote q ≡ true → behind ≡ after_plain q s → Fails q whole s → Fails q whole behind
fails_behind q whole s behind hq hb h = subst (Fails q whole) (sym hb) (fails_run q whole s hq h)

pub behind_shorter : (q : ℕ) (s behind : List ℕ) → behind ≡ after_plain q s → length behind ≤ length s
behind_shorter q s behind hb = omega (arith, ap length hb, run_shorter q s)
