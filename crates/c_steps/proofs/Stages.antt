-- Calls that settle one string or two, and then read or search: each stage that a call may end at.
use Rattle.std.proofs.Common.{◌≡◌, ◌≢◌, ◌∙◌, ℕ, List, Option, inl, inr, refl, subst, sym, ⊎_elim, arith}
use Rattle.heap_rule.specs.Maps.{Has}
use Rattle.heap_agents.specs.declared.held.Held.{Held}
use Rattle.heap_agents.specs.Ready.{HandleLeaves, HandleKnows, HandleSearches, handle_view}
use Rattle.std.specs.declared.cmp.Ordering.{Ordering}
use Rattle.c_steps.specs.declared.answer.JsAnswer.{JsAnswer}
use Rattle.c_steps.specs.declared.answer.JsOrder.{JsOrder}
use Rattle.c_steps.specs.Checked.{IsPairRefused, IsSameOrMeasured, ReadsLength, OnlyLooks, ReadsSettled, RefusesSettling, SeeksSettled, SettlesString, SettlesFirst}
use Rattle.c_steps.specs.Pairs.{SettlesPair}
use Rattle.c_steps.specs.Reports.{bad_argument, done, order_answer, order_number}
use Rattle.c_steps.proofs.Going.{goes_knows, goes_trans, goes_units}
use Rattle.c_steps.proofs.Settled.{measures_trans, one_knows, refuses_before, settles_before}

-- string s was settled, and what is answered is told of its units
module _ (o m : Option Held) (s : ℕ) (r : JsAnswer) (first : SettlesFirst o m s r) where
  pub settled_first : r.status ≡ 0 → SettlesString o m s
  settled_first e = (first.done e).1

  pub leaves_first : r.status ≡ 0 → HandleLeaves o m
  leaves_first e = (settled_first e).leaves

  pub units_first : r.status ≡ 0 → (us : List ℕ) → Has (handle_view o).units s us → Has (handle_view m).units s us
  units_first e = goes_units o m (leaves_first e) s

  known_first : r.status ≡ 0 → ¬ (HandleKnows o s) → ⊥
  known_first e n = n (subst (λ (x : Option Held). HandleKnows x s) (first.unknown n) (one_knows o m s (settled_first e).marks))

  -- it could not be settled, or may not be
  pub stops : (status : ℕ) (nothing : Type 0) (tells : List ℕ → Type 0) → status ≡ r.status → r.status ≢ 0 → nothing → ReadsSettled o m s status nothing tells
  stops status nothing tells e ne t = record {
    unknown = first.unknown;
    bad = λ b. (t, (first.bad (sym e ∙ b)).1);
    refused = λ f. let w : r.status ≡ 4 = sym e ∙ f in (t, (r, e, first.refused (λ (x : r.status ≡ 9). absurd (omega (arith, x, w))) ne));
    done = λ nb nw. absurd (nw (e ∙ (first.refused (λ (x : r.status ≡ 9). nb (e ∙ x)) ne).words));
  }

  -- and memory is not why
  pub not_memory : (status : ℕ) → status ≡ r.status → r.status ≢ 0 → status ≢ 1
  not_memory status e ne one = let m : r.status ≡ 1 = sym e ∙ one in let w = (first.refused (λ (x : r.status ≡ 9). absurd (omega (arith, x, m))) ne).words in omega (arith, w, m)

  -- it was settled, and read
  pub goes_on : (p : Option Held) (status : ℕ) (nothing : Type 0) (tells : List ℕ → Type 0) → r.status ≡ 0 → OnlyLooks m p → status ≢ 9 → status ≢ 4
      → ((us : List ℕ) → Has (handle_view m).units s us → tells us) → ReadsSettled o p s status nothing tells
  goes_on p status nothing tells e looks nb nw told = record {
    unknown = λ n. absurd (known_first e n);
    bad = λ b. absurd (nb b);
    refused = λ w. absurd (nw w);
    done = λ x y. ((m, settled_first e, looks), λ us h. told us (units_first e us h));
  }

-- strings a and b were settled, and what is answered is told of their units
module _ (o m : Option Held) (a b r : ℕ) (pair : SettlesPair o m a b r) where
  pub leaves_pair : r ≡ 0 → HandleLeaves o m
  leaves_pair e = let s = pair.done e in goes_trans o s.0 m s.1.leaves s.2.leaves

  pub stops_both : (status : ℕ) (nothing : Type 0) (tells : List ℕ → List ℕ → Type 0) → status ≡ r → r ≢ 0 → nothing → SeeksSettled o m a b status nothing tells
  stops_both status nothing tells e ne t = record {
    unknown = pair.unknown;
    bad = λ x. (t, pair.bad (sym e ∙ x));
    refused = λ f. let w : r ≡ 4 = sym e ∙ f in
        (t, subst (λ (n : ℕ). IsPairRefused o m a b n) (sym e) (pair.refused (λ (x : r ≡ 9). absurd (omega (arith, x, w))) ne).1);
    done = λ nb nw. absurd (nw (e ∙ (pair.refused (λ (x : r ≡ 9). nb (e ∙ x)) ne).0));
  }

  known_both : r ≡ 0 → ¬ (HandleKnows o a × HandleKnows o b) → ⊥
  known_both e n = let s = pair.done e in let same = pair.unknown n in
      n (
        subst (λ (x : Option Held). HandleKnows x a) same (goes_knows s.0 m a s.2.leaves (one_knows o s.0 a s.1.marks)),
        subst
            (λ (x : Option Held). HandleKnows x b) same (one_knows s.0 m b s.2.marks),
      )

  pub seeks_on : (p : Option Held) (status : ℕ) (nothing : Type 0) (tells : List ℕ → List ℕ → Type 0) → r ≡ 0 → HandleSearches m p → status ≢ 9 → status ≢ 4
      → ((us vs : List ℕ) → Has (handle_view m).units a us → Has (handle_view m).units b vs → tells us vs) → SeeksSettled o p a b status nothing tells
  seeks_on p status nothing tells e searches nb nw told = record {
    unknown = λ n. absurd (known_both e n);
    bad = λ x. absurd (nb x);
    refused = λ w. absurd (nw w);
    done = λ x y. ((m, pair.done e, searches), λ us vs h k. told us vs (goes_units o m (leaves_pair e) a us h) (goes_units o m (leaves_pair e) b vs k));
  }

-- two strings, where the length of the first was read before
pub pair_before : (o m p : Option Held) (a b status : ℕ) → ReadsLength o m → HandleKnows o a → HandleKnows o b → SettlesPair m p a b status → SettlesPair o p a b status
pair_before o m p a b status g ka kb s = record {
  unknown = λ n. absurd (n (ka, kb));
  bad = λ e. inr (⊎_elim (λ (x : p ≡ m). subst (ReadsLength o) (sym x) g) (λ (h : ReadsLength m p). measures_trans o m p g h) (s.bad e));
  refused = λ nb nd. let t = s.refused nb nd in (
    t.0,
    (
      t.1.0,
      t.1.1,
      ⊎_elim (λ (f : RefusesSettling m p a t.1.0). inl (refuses_before o m p a g t.1.0 f))
          (λ (f : (n : Option Held) × SettlesString m n a × RefusesSettling n p b t.1.0). inr (f.0, settles_before o m f.0 a g f.1, f.2)) t.1.2,
    ),
  );
  done = λ e. let t = s.done e in (t.0, settles_before o m t.0 a g t.1, t.2);
}

-- a condition failed
pub never : (o m : Option Held) (s : ℕ) (r : JsAnswer) → r ≡ bad_argument → IsSameOrMeasured o m → (¬ (HandleKnows o s) → m ≡ o) → SettlesFirst o m s r
never o m s r is looked unknown = subst (SettlesFirst o m s) (sym is) record {
  unknown = unknown;
  bad = λ e. (refl, looked);
  refused = λ nb nd. absurd (nb refl);
  done = λ (e : 9 ≡ 0). absurd (omega (arith, e));
}

-- a condition held
pub then_settled : (o m p : Option Held) (s : ℕ) (r : JsAnswer) → IsSameOrMeasured o m → HandleKnows o s → r.status ≢ 9 → (r.status ≡ 0 → (r ≡ done s) × SettlesString m p s)
    → (r.status ≢ 0 → RefusesSettling m p s r) → SettlesFirst o p s r
then_settled o m p s r looked known told does fails = record {
  unknown = λ n. absurd (n known);
  bad = λ e. absurd (told e);
  refused = λ nb nd. ⊎_elim (λ (e : m ≡ o). subst (λ (x : Option Held). RefusesSettling x p s r) e (fails nd)) (λ (g : ReadsLength o m). refuses_before o m p s g r (fails nd)) looked;
  done = λ e. let d = does e in (d.0, ⊎_elim (λ (e : m ≡ o). subst (λ (x : Option Held). SettlesString x p s) e d.1) (λ (g : ReadsLength o m). settles_before o m p s g d.1) looked);
}

-- the same of two strings
pub never_both : (o m : Option Held) (a b : ℕ) → IsSameOrMeasured o m → (¬ (HandleKnows o a × HandleKnows o b) → m ≡ o) → SettlesPair o m a b 9
never_both o m a b looked unknown = record { unknown = unknown; bad = λ e. looked; refused = λ nb nd. absurd (nb refl); done = λ (e : 9 ≡ 0). absurd (omega (arith, e)) }

pub left_refused : (o m : Option Held) (a b : ℕ) (r : JsAnswer) → HandleKnows o a → HandleKnows o b → RefusesSettling o m a r → SettlesPair o m a b r.status
left_refused o m a b r ka kb f = let w = f.words in record {
  unknown = λ n. absurd (n (ka, kb));
  bad = λ e. absurd (omega (arith, e, w));
  refused = λ nb nd. (w, (r, refl, inl f));
  done = λ e. absurd (omega (arith, e, w));
}

pub right_ends : (o m p : Option Held) (a b : ℕ) (r : JsAnswer) → HandleKnows o a → HandleKnows o b → SettlesString o m a → r.status ≢ 9 → (r.status ≡ 0 → SettlesString m p b)
    → (r.status ≢ 0 → RefusesSettling m p b r) → SettlesPair o p a b r.status
right_ends o m p a b r ka kb one told does fails = record {
  unknown = λ n. absurd (n (ka, kb));
  bad = λ e. absurd (told e);
  refused = λ nb nd. ((fails nd).words, (r, refl, inr (m, one, fails nd)));
  done = λ e. (m, one, does e);
}

pub orders : (r : JsOrder) (o : Ordering) → r.status ≡ 0 → r.order ≡ order_number o → r ≡ order_answer o
orders r o e f = λ i. record { status = e i; order = f i }
