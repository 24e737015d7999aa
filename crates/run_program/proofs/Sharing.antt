-- Jobs side by side, on two sessions of a split that are joined afterwards.
use Rattle.std.proofs.Common.{◌≡◌, ℕ, ◌+◌, ◌-◌, ◌/◌, ◌<◌, ◌≤◌, List, [], ◌++◌, length, take, drop, sym, ap, subst, ◌∙◌, arith, append_assoc, All, Contains}
use Rattle.std.proofs.lemmas.List.{append-nil}
use Rattle.std.proofs.lemmas.List.Elements.{All-take, All-drop, Contains-append_left}
use Rattle.js_store.specs.State.{State, Grows}
use Rattle.js_store.proofs.Laws.{known_still}
use Rattle.eval_tree.specs.Tree.{tree_of}
use Rattle.eval_scopes.specs.declared.binding_list.Binding.{Binding}
use Rattle.eval_scopes.specs.Bindings.{Bound}
use Rattle.eval_scopes.specs.Seen.{bounds_of}
use Rattle.js_item.specs.declared.item.Item.{Item}
use Rattle.js_item.specs.Seen.{Val}
use Rattle.js_eval.specs.Script.{Flow, meaning}
use Rattle.js_eval.specs.Seen.{BoundsFine, bounds_seen}
use Rattle.heap_rule.specs.Paths.{StartsWith}
use Rattle.heap_read.specs.declared.string.JsStr.{JsStr}
use Rattle.heap_session.specs.Sessions.{SessionFrame}
use Rattle.heap_session.specs.Shares.{IsSessionJoined, MayJoinSession, giver_after, right_by}
use Rattle.run_program.specs.declared.job.Job.{Job}
use Rattle.run_program.specs.declared.job.Outcome.{Outcome}
use Rattle.run_program.specs.Jobs.{number, means, CameOf, pairs_of, Later, RanJobs, RunsEachJob, HasNoLines, MayRun}
use Rattle.run_program.proofs.Copies.{bounds_still}
use Rattle.run_program.proofs.Jobs.{each_weaker, each_append, pairs_append, ids_append, words_append, came_later}

-- what jobs mean is what they mean at an earlier moment
pub runs_still : {F : Type 0} (a b c : State F) (env : List (Binding (Item JsStr))) (js : List Job) (os : List Outcome) → Grows a b →
    BoundsFine a number (bounds_of env) → RunsEachJob b c env js os → RanJobs (means a env) b c js os
runs_still a b c env js os g h r =
    subst (λ (n : ℕ). RanJobs (λ j. meaning (tree_of j.script) (bounds_seen a number (bounds_of env)) n) b c js os) g.limit
    (subst (λ (bs : List (Bound Val)). RanJobs (λ j. meaning (tree_of j.script) bs b.limit) b c js os) (bounds_still a b number g (bounds_of env) h) r)

-- what one session of a split did, and what the other did, once they are joined
module _ (mean : Job → Flow) (v a b : State SessionFrame) (give : ℕ) (js : List Job) (os : List Outcome) (ks : List Job) (us : List Outcome)
    (less : give < v.frame.share) (r : RanJobs mean (giver_after v give) a js os) (s : RanJobs mean (right_by v give) b ks us) where
  began : b.frame.seen ≡ v.history
  began = ap (λ f. f.seen) s.grows.frame

  pub beside_may_join : StartsWith v.history v.frame.seen → MayJoinSession a b
  beside_may_join starts = record {
    table = ap (λ f. f.table) s.grows.frame ∙ sym (ap (λ f. f.table) r.grows.frame);
    sizes = s.grows.sizes ∙ sym r.grows.sizes;
    limit = s.grows.limit ∙ sym r.grows.limit;
    first = (starts.0, began ∙ (starts.1 ∙ ap (λ f. f.seen ++ starts.0) (sym r.grows.frame)));
    second = (pairs_of r.parts, r.history ∙ ap (λ h. h ++ pairs_of r.parts) (sym began));
  }

  module _ (w : State SessionFrame) (j : IsSessionJoined a b w) (bounded : w.bounded ≡ a.bounded) (sure : w.sure ≡ a.sure) where
    later_left : Later a w
    later_left = record {
      known = j.known;
      shut = j.shut;
      low_ids = omega (arith, j.low_ids);
      low_words = omega (arith, j.low_words);
      sizes = j.sizes;
    }

    later_right : Later b w
    later_right = record {
      known = j.known_of_other;
      shut = j.shut_of_other;
      low_ids = omega (arith, j.low_ids);
      low_words = omega (arith, j.low_words);
      sizes = j.sizes ∙ (r.grows.sizes ∙ sym s.grows.sizes);
    }

    joined_history : w.history ≡ v.history ++ pairs_of (r.parts ++ s.parts)
    joined_history = j.history (pairs_of s.parts) (s.history ∙ ap (λ h. h ++ pairs_of s.parts) (sym began))
        ∙ (ap (λ h. h ++ pairs_of s.parts) r.history
        ∙ (append_assoc v.history (pairs_of r.parts) (pairs_of s.parts) ∙ ap (λ h. v.history ++ h) (sym (pairs_append r.parts s.parts))))

    shares : a.frame.share + b.frame.share ≡ v.frame.share
    shares = omega (arith, ap (λ f. f.share) r.grows.frame, ap (λ f. f.share) s.grows.frame, less)

    joined_frame : w.frame ≡ v.frame
    joined_frame = j.frame
        ∙ (ap (λ (f : SessionFrame). record f { share = a.frame.share + b.frame.share }) r.grows.frame
        ∙ ap (λ (n : ℕ). record v.frame { share = n }) shares)

    joined_grows : Grows v w
    joined_grows = record {
      known = λ n k. j.known n (known_still r.grows n k) ∙ r.grows.known n k;
      settled = λ n k. j.settled n (r.grows.settled n k);
      shut = λ u k. j.shut u (r.grows.shut u k);
      interned = λ u n k. subst (λ h. Contains h (u, n)) (sym joined_history) (Contains-append_left v.history (pairs_of (r.parts ++ s.parts)) (u, n) k);
      used_ids = omega (arith, r.grows.used_ids, j.used_ids);
      used_words = omega (arith, r.grows.used_words, j.used_words);
      low_ids = omega (arith, r.grows.low_ids, j.low_ids);
      low_words = omega (arith, r.grows.low_words, j.low_words);
      sizes = j.sizes ∙ r.grows.sizes;
      limit = j.limit ∙ r.grows.limit;
      bounded = bounded ∙ r.grows.bounded;
      sure = sure ∙ r.grows.sure;
      frame = joined_frame;
    }

    pub ran_beside : RanJobs mean v w (js ++ ks) (os ++ us)
    ran_beside = record {
      grows = joined_grows;
      parts = r.parts ++ s.parts;
      each = each_append (λ j. CameOf w (mean j) j) js os r.parts ks us s.parts
          (each_weaker (λ j. CameOf a (mean j) j) (λ j. CameOf w (mean j) j) (λ j. came_later later_left (mean j) j) js os r.parts r.each)
          (each_weaker (λ j. CameOf b (mean j) j) (λ j. CameOf w (mean j) j) (λ j. came_later later_right (mean j) j) ks us s.parts s.each);
      history = joined_history;
      used_ids = omega (arith, j.used_ids, r.used_ids, s.used_ids, ids_append r.parts s.parts);
      used_words = omega (arith, j.used_words, r.used_words, s.used_words, words_append r.parts s.parts);
    }

-- the two halves of jobs that may be run
pub may_left : (v x : State SessionFrame) (groups : ℕ) (env : List (Binding (Item JsStr))) (js front : List Job) (os low : List Outcome) (count : ℕ) → MayRun v groups env js os → 2 ≤ groups
    → x ≡ giver_after v (groups - groups / 2) → low ≡ take count os → length low ≡ length front → MayRun x (groups / 2) env front low
may_left v x groups env js front os low count m two is lows lengths = subst (λ (y : State SessionFrame). MayRun y (groups / 2) env front low) (sym is) (record {
  some = omega arith;
  share = omega (arith, m.share);
  lengths = lengths;
  empty = subst (λ (l : List Outcome). All HasNoLines l) (sym lows) (All-take HasNoLines count os m.empty);
  fine = m.fine;
  begins = m.begins;
})

pub may_right : (v x : State SessionFrame) (groups : ℕ) (env : List (Binding (Item JsStr))) (js back : List Job) (os high : List Outcome) (count : ℕ) → MayRun v groups env js os → 2 ≤ groups
    → x ≡ right_by v (groups - groups / 2) → high ≡ drop count os → length high ≡ length back → MayRun x (groups - groups / 2) env back high
may_right v x groups env js back os high count m two is highs lengths = subst (λ (y : State SessionFrame). MayRun y (groups - groups / 2) env back high) (sym is) (record {
  some = omega arith;
  share = omega arith;
  lengths = lengths;
  empty = subst (λ (l : List Outcome). All HasNoLines l) (sym highs) (All-drop HasNoLines count os m.empty);
  fine = m.fine;
  begins = ([], sym (append-nil v.history));
})
