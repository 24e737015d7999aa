-- Renewing: what is done before a string is made, and what making it after that is from before.
use Rattle.std.proofs.Common.{◌≡◌, ◌∙◌, ◌⊎◌, ⊎_elim, inl, inr, ℕ, ◌+◌, ◌-◌, ◌++◌, ◌<◌, ◌≤◌, List, length, Option, None, Some, Result, Ok, Err, refl, subst, sym, ap, arith}
use Rattle.std.specs.Prelude.{max}
use Rattle.heap_rule.specs.declared.size.HeapSize.{HeapSize}
use Rattle.heap_rule.specs.declared.view.View.{View}
use Rattle.heap_rule.specs.Births.{part}
use Rattle.heap_rule.specs.Layout.{MAX}
use Rattle.heap_rule.specs.Maps.{Has, HasKey}
use Rattle.heap_rule.proofs.MapLemmas.{has_key, key_of}
use Rattle.heap_rule.proofs.Possible.{possible_short}
use Rattle.heap_read.specs.declared.string.JsStr.{JsStr}
use Rattle.heap_read.specs.Reads.{OnlyLoads}
use Rattle.heap_read.proofs.Going.{continues_reads, continues_trans}
use Rattle.heap_read.proofs.Loaded.{reads_refl, reads_trans}
use Rattle.heap_text.specs.declared.faults.JoinFault.{JoinFault}
use Rattle.heap_text.specs.declared.faults.TextFull.{TextFull}
use Rattle.heap_text.specs.declared.faults.TextFull.TheVariants as full
use Rattle.heap_text.specs.Texts.{KeepsOwn}
use Rattle.heap_text.proofs.Linking.{copied_after}
use Rattle.heap_text.proofs.Owned.{own_reads}
use Rattle.heap_reserve.specs.declared.faults.ReserveFault.{ReserveFault}
use Rattle.heap_reserve.specs.declared.faults.ReserveFault.TheVariants.{Memory, Full}
use Rattle.heap_reserve.specs.declared.reserve.Reserve.{Reserve}
use Rattle.heap_reserve.specs.Claims.{IsClaimAnswer}
use Rattle.heap_reserve.specs.Making.{IsCutBy, IsFlatTaken, IsJoinedBy, IsMade, words_holding}
use Rattle.std.specs.FinMap.{FinMap}
use Rattle.std.specs.Ordering.{nat_cmp}
use Rattle.heap_text.specs.declared.faults.JoinFault.TheVariants as join
use Rattle.heap_reserve.specs.Reserves.{IsClaimed, IsGrown, IsTakingRefused, kept_ids, words_kept}
use Rattle.heap_reserve.proofs.After.{cut_after, flat_after, flat_taken_after, joined_after, part_taken_after, rope_taken_after}
use Rattle.heap_reserve.proofs.Kept.{refused_after}
use Rattle.heap_agents.specs.declared.held.Held.{Held}
use Rattle.heap_agents.specs.Held.{IsHeld, LeavesStrings, MarksMade, MarksNothing, SpendsReserve, StaysMarked, held_size, limit_by, view_by}
use Rattle.agent_makes.specs.Preparing.{IsPrepared, Prepares}
use Rattle.heap_ids.specs.Sets.{IsIn}
use Rattle.heap_ids.specs.declared.ids.IdSet.{IdSet}
use Rattle.heap_agents.specs.Shared.{IsSameText, IsThere, SharedText, limit_if, view_if}
use Rattle.agent_makes.specs.Spending.{AreClaimedFor, CutsRenewing, IsRenewalDue, JoinsRenewing, MakesRenewing, Renews, RenewsForBoth, RenewsForPart, most_words}
use Rattle.heap_agents.proofs.Marks.{possible_in, same_sizes, same_trans}

same_refl : (t : Option SharedText) → IsThere t → IsSameText t t
same_refl None r = absurd r
same_refl (Some t) r = (refl, refl)

same_limit : (x y : Option SharedText) → IsSameText x y → limit_if y ≡ limit_if x
same_limit None y s = absurd s
same_limit (Some a) None s = absurd s
same_limit (Some a) (Some b) s = s.1

own_trans : (u v w : View) → KeepsOwn u v → KeepsOwn v w → KeepsOwn u w
own_trans u v w a b = record { ids = λ i n h. b.ids i n (a.ids i n h); words = λ c x h. b.words c x (a.words c x h) }

pub stays_trans : (x y z : Held) → StaysMarked x y → StaysMarked y z → StaysMarked x z
stays_trans x y z a b = record {
  known = λ i h. b.known i (a.known i h);
  interned = λ i h. b.interned i (a.interned i h);
  number = b.number ∙ a.number;
  giver = b.giver ∙ a.giver;
  blocks = b.blocks ∙ a.blocks;
}

pub spends_trans : (x y z : Held) → SpendsReserve x y → SpendsReserve y z → SpendsReserve x z
spends_trans x y z a b = record {
  held = b.held;
  same = same_trans x.text y.text z.text a.same b.same;
  continues = continues_trans (view_by x) (view_by y) (view_by z) a.continues b.continues;
  marks = stays_trans x y z a.marks b.marks;
}

pub leaves_trans : (x y z : Held) → LeavesStrings x y → LeavesStrings y z → LeavesStrings x z
leaves_trans x y z a b = record {
  held = b.held;
  same = same_trans x.text y.text z.text a.same b.same;
  continues = continues_trans (view_by x) (view_by y) (view_by z) a.continues b.continues;
  marks = record {
    known = λ i h. b.marks.known i (a.marks.known i h);
    interned = λ i h. b.marks.interned i (a.marks.interned i h);
    number = b.marks.number ∙ a.marks.number;
    giver = b.marks.giver ∙ a.marks.giver;
    reserve = b.marks.reserve ∙ a.marks.reserve;
    blocks = b.marks.blocks ∙ a.marks.blocks;
  };
}

pub limit_left : (x y : Held) → LeavesStrings x y → limit_by y ≡ limit_by x
limit_left x y l = same_limit x.text y.text l.same

pub key_left : (x y : Held) → LeavesStrings x y → (i : ℕ) → HasKey (view_by x).units i → HasKey (view_by y).units i
key_left x y l i k = let u = has_key (view_by x).units i k in key_of (view_by y).units i u.0 (l.continues.known.units i u.0 u.1)

spends_leaves : (x y : Held) → LeavesStrings x y → SpendsReserve x y
spends_leaves x y l = record {
  held = l.held;
  same = l.same;
  continues = l.continues;
  marks = record { known = l.marks.known; interned = l.marks.interned; number = l.marks.number; giver = l.marks.giver; blocks = l.marks.blocks };
}

pub key_then : (x z : Held) → IsPrepared x z → (i : ℕ) → HasKey (view_by x).units i → HasKey (view_by z).units i
key_then x z p i k = let u = has_key (view_by x).units i k in key_of (view_by z).units i u.0 (p.spends.continues.known.units i u.0 u.1)

-- Nothing is done.
pub prepared_not : (x : Held) → IsHeld x → IsPrepared x x
prepared_not x held = record {
  spends = record {
    held = held;
    same = same_refl x.text held.there;
    continues = continues_reads (view_by x) (view_by x) (reads_refl (view_by x));
    marks = record { known = λ i h. h; interned = λ i h. h; number = refl; giver = refl; blocks = refl };
  };
  marked = (refl, refl);
}

pub prepares_not : (D : Type 0) (x : Held) (n : ℕ) → (D → ⊥) → Prepares D x x n
prepares_not D x n never = record { renewed = λ d. absurd (never d); left = λ f. (reads_refl (view_by x), refl) }

-- Loads come first, which left y.
pub prepared_after : (x y z : Held) → LeavesStrings x y → MarksNothing x y → IsPrepared y z → IsPrepared x z
prepared_after x y z l m p = record {
  spends = spends_trans x y z (spends_leaves x y l) p.spends;
  marked = (p.marked.0 ∙ m.0, p.marked.1 ∙ m.1);
}

pub prepared_reads : (x y : Held) → LeavesStrings x y → MarksNothing x y → IsPrepared x y
prepared_reads x y l m = record { spends = spends_leaves x y l; marked = m }

module _ (v u w : View) (z : HeapSize) (r s : Reserve) (read : OnlyLoads v u) where
  grown_after : (n : ℕ) → IsGrown u r s n → IsGrown v r s n
  grown_after n g = ⊎_elim (λ c. inl c)
      (λ c. inr (c.0, c.1, c.2, λ k low high own. c.3 k low high (subst (λ (m : FinMap nat_cmp ℕ). HasKey m k) (sym read.own_words) own))) g

  claimed_after : (ids words : ℕ) → IsClaimed u w r s ids words → IsClaimed v w r s ids words
  claimed_after ids words c = record {
    used = (c.used.0 ∙ (λ i. (read.used i).ids + ids), c.used.1 ∙ (λ i. (read.used i).words + words));
    added = c.added;
    run = grown_after words c.run;
  }

  claim_after : (ids words : ℕ) (t : Result (Unit {0}) ReserveFault) → IsClaimAnswer u w z r s ids words t → IsClaimAnswer v w z r s ids words t
  claim_after ids words (Ok a) h = claimed_after ids words h
  claim_after ids words (Err (Full (full.Words f))) h = (h.0, h.1, claimed_after 0 0 h.2)
  claim_after ids words (Err (Full (full.Ids f))) h = (h.0, h.1, (h.2.0, h.2.1, claimed_after h.2.0 words h.2.2))
  claim_after ids words (Err Memory) h = ⊎_elim (λ c. inl (claimed_after 0 0 c)) (λ c. inr (c.0, c.1, c.2, claimed_after c.0 words c.3)) h

  pub made_by_after : (us : List ℕ) (a : Result JsStr TextFull) → IsMade u w r s z us a → IsMade v w r s z us a
  made_by_after us a h = record {
    taken = λ e. flat_after v u w r s read z us a (h.taken e);
    claimed = λ e. let t = h.claimed e in (t.0, own_trans v u w (own_reads v u read) t.1, copied_after v u w z read us a t.2);
  }

  pub joined_by_after : (most : ℕ) (a b : JsStr) (us vs : List ℕ) (o : Result JsStr JoinFault) → IsJoinedBy u w z r s most a b us vs o → IsJoinedBy v w z r s most a b us vs o
  joined_by_after most a b us vs o h = record {
    short = λ e. ⊎_elim
        (λ (c : (t : JsStr) × (o ≡ Ok t) × IsFlatTaken u w r s t (us ++ vs)). inl (c.0, c.1, flat_taken_after v u w r s read c.0 (us ++ vs) c.2))
        (λ (c : (f : TextFull) × (o ≡ Err (join.Full f)) × IsTakingRefused u w z r s (words_holding (us ++ vs)) f). inr (c.0, c.1, refused_after v u w z r s (words_holding (us ++ vs)) c.0 read c.2)) (h.short e);
    long = λ e. let t = h.long e in (t.0, t.1, rope_taken_after v u w r s read a b t.0 (us ++ vs) t.2);
    claimed = λ e f. let t = h.claimed e f in (t.0, own_trans v u w (own_reads v u read) t.1, joined_after v u w z read most a b us vs o t.2);
  }

  pub cut_by_after : (p : JsStr) (from to : ℕ) (us : List ℕ) (o : Result JsStr TextFull) → IsCutBy u w z r s p from to us o → IsCutBy v w z r s p from to us o
  cut_by_after p from to us o h = record {
    short = λ e. flat_after v u w r s read z (part from (to - from) us) o (h.short e);
    long = λ e. let t = h.long e in (t.0, t.1, part_taken_after v u w r s read p from t.0 (part from (to - from) us) t.2);
    claimed = λ e f. let t = h.claimed e f in (t.0, own_trans v u w (own_reads v u read) t.1, cut_after v u w z read p from to us o t.2);
  }

-- What is due stays due over loads, and what is renewed after them is from before them.
module _ (x y : Held) (l : LeavesStrings x y) (read : OnlyLoads (view_by x) (view_by y)) (m : MarksNothing x y) where
  same_ids : y.blocks.ids ≡ x.blocks.ids
  same_ids i = (l.marks.blocks i).ids

  same_words : y.blocks.words ≡ x.blocks.words
  same_words i = (l.marks.blocks i).words

  pub due_after : (n : ℕ) → IsRenewalDue x n → IsRenewalDue y n
  due_after n d = record {
    due = subst (λ (r : Reserve). (length (kept_ids r) ≡ 0) ⊎ (words_kept r < n)) (sym l.marks.reserve) d.due;
    ids = λ e. let f = ap (λ (r : Reserve). length (kept_ids r)) l.marks.reserve in subst (λ (k : ℕ). 0 < k) (sym same_ids) (d.ids (sym f ∙ e));
    words = λ e. subst (λ (k : ℕ). 0 < k) (sym same_words) (d.words (subst (λ (r : Reserve). words_kept r < n) l.marks.reserve e));
  }

  pub due_before : (n : ℕ) → IsRenewalDue y n → IsRenewalDue x n
  due_before n d = record {
    due = subst (λ (r : Reserve). (length (kept_ids r) ≡ 0) ⊎ (words_kept r < n)) l.marks.reserve d.due;
    ids = λ e. let f = ap (λ (r : Reserve). length (kept_ids r)) l.marks.reserve in subst (λ (k : ℕ). 0 < k) same_ids (d.ids (f ∙ e));
    words = λ e. subst (λ (k : ℕ). 0 < k) same_words (d.words (subst (λ (r : Reserve). words_kept r < n) (sym l.marks.reserve) e));
  }

  claimed_for : (n ids words : ℕ) → AreClaimedFor y n ids words → AreClaimedFor x n ids words
  claimed_for n ids words c = let f = ap (λ (r : Reserve). length (kept_ids r)) l.marks.reserve in record {
    ids = λ e. c.ids (f ∙ e) ∙ (λ i. (l.marks.blocks i).ids);
    no_ids = λ e. c.no_ids (λ g. e (sym f ∙ g));
    words = λ e. subst (λ (k : ℕ). words ≡ max k n) (λ i. (l.marks.blocks i).words) (c.words (subst (λ (r : Reserve). words_kept r < n) (sym l.marks.reserve) e));
    no_words = λ e. c.no_words (λ g. e (subst (λ (r : Reserve). words_kept r < n) l.marks.reserve g));
  }

  renews_after : (z : Held) (n : ℕ) → Renews y z n → Renews x z n
  renews_after z n r = let c = r.4 in let v : View = view_by x in let u : View = view_by y in let w : View = view_by z in (
    r.0,
    r.1,
    r.2,
    claimed_for n r.0 r.1 r.3,
    record {
      spends = spends_trans x y z (spends_leaves x y l) c.spends;
      own = own_trans v u w (own_reads v u read) c.own;
      marked = (c.marked.0 ∙ m.0, c.marked.1 ∙ m.1);
      claims = subst (λ (q : HeapSize). IsClaimAnswer v w q x.reserve z.reserve r.0 r.1 r.2) (same_sizes x.text y.text l.same)
          (subst (λ (o : Reserve). IsClaimAnswer v w (held_size y) o z.reserve r.0 r.1 r.2) l.marks.reserve (claim_after v u w (held_size y) y.reserve z.reserve read r.0 r.1 r.2 c.claims));
    },
  )

  -- D says of x what E says of y
  pub prepares_after : (D E : Type 0) (z : Held) (n : ℕ) → (D → E) → (E → D) → Prepares E y z n → Prepares D x z n
  prepares_after D E z n to from p = record {
    renewed = λ d. renews_after z n (p.renewed (to d));
    left = λ never. let k = p.left (λ e. never (from e)) in (reads_trans (view_by x) (view_by y) (view_by z) read k.0, k.1 ∙ l.marks.reserve);
  }

  pub prepares_reads : (D : Type 0) (n : ℕ) → (D → ⊥) → Prepares D x y n
  prepares_reads D n never = record { renewed = λ d. absurd (never d); left = λ f. (read, l.marks.reserve) }

-- a known string is short
short_in : (t : Option SharedText) → IsThere t → (i : ℕ) (us : List ℕ) → Has (view_if t).units i us → length us ≤ MAX
short_in t there i us h = possible_short (view_if t) (possible_in t there) i us h

pub length_short : (x : Held) → IsHeld x → (i n : ℕ) → HasKey (view_by x).units i → ((us : List ℕ) → Has (view_by x).units i us → n ≡ length us) → n ≤ MAX
length_short x held i n key told = let u = has_key (view_by x).units i key in let e = told u.0 u.1 in let s = short_in x.text held.there i u.0 u.1 in omega (arith, e, s)

-- The string is made then, which leaves y.
module _ (x z y : Held) (p : IsPrepared x z) where
  pub marks_then : {E : Type 0} → (r : Result JsStr E) → MarksMade z y r → MarksMade x y r
  marks_then (Ok s) m = record {
    known = m.known;
    only = λ j h. ⊎_elim (λ e. inl e) (λ k. inr (subst (λ (a : IdSet). IsIn a j) p.marked.0 k)) (m.only j h);
    interned = m.interned ∙ p.marked.1;
  }
  marks_then (Err e) m = (m.0 ∙ p.marked.0, m.1 ∙ p.marked.1)

  abbrev v : View
  v = view_by x

  abbrev u : View
  u = view_by z

  abbrev w : View
  w = view_by y

  at_start : (P : HeapSize → Reserve → ℕ → Type 0) → z.reserve ≡ x.reserve → P (held_size z) z.reserve (limit_by z) → P (held_size x) x.reserve (limit_by x)
  at_start P r h = subst (λ (q : HeapSize). P q x.reserve (limit_by x)) (same_sizes x.text z.text p.spends.same)
      (subst (λ (o : Reserve). P (held_size z) o (limit_by x)) r (subst (λ (k : ℕ). P (held_size z) z.reserve k) (same_limit x.text z.text p.spends.same) h))

  pub makes_then : (us : List ℕ) (r : Result JsStr TextFull) → Prepares (IsRenewalDue x (words_holding us)) x z (words_holding us)
      → IsMade (view_by z) (view_by y) z.reserve y.reserve (held_size z) us r → MakesRenewing x y us r
  makes_then us r d h = record {
    made = λ never. let l = d.left never in made_by_after v u w (held_size x) x.reserve y.reserve l.0 us r (at_start (λ q o k. IsMade u w o y.reserve q us r) l.1 h);
    renewed = λ due. (z, d.renewed due, h);
  }

  pub joins_then : (a b : JsStr) (us vs : List ℕ) (r : Result JsStr JoinFault) → Prepares (RenewsForBoth x us vs) x z (most_words (length us + length vs))
      → IsJoinedBy (view_by z) (view_by y) (held_size z) z.reserve y.reserve (limit_by z) a b us vs r → JoinsRenewing x y a b us vs r
  joins_then a b us vs r d h = record {
    joined = λ never. let l = d.left never in joined_by_after v u w (held_size x) x.reserve y.reserve l.0 (limit_by x) a b us vs r
        (at_start (λ q o k. IsJoinedBy u w q o y.reserve k a b us vs r) l.1 h);
    renewed = λ due. (z, d.renewed due, h);
  }

  pub cuts_then : (s : JsStr) (from to : ℕ) (us : List ℕ) (r : Result JsStr TextFull) → Prepares (RenewsForPart x from to us) x z (most_words (to - from))
      → IsCutBy (view_by z) (view_by y) (held_size z) z.reserve y.reserve s from to us r → CutsRenewing x y s from to us r
  cuts_then s from to us r d h = record {
    cut = λ never. let l = d.left never in cut_by_after v u w (held_size x) x.reserve y.reserve l.0 s from to us r (at_start (λ q o k. IsCutBy u w q o y.reserve s from to us r) l.1 h);
    renewed = λ due. (z, d.renewed due, h);
  }
