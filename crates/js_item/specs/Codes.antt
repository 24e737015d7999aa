-- Contents as codes, by which proofs distinguish them.
use Rattle.std.specs.Prelude.{◌≡◌, ℕ, refl}
use Rattle.std.proofs.Common.{sym, ap, subst}
use Rattle.std.specs.Coded.{Coded, coded_bool, coded_ℤ, coded_list}
use base.Stored.{Gv, gnil, gnum, gcons, num}
use Rattle.js_number.specs.declared.Num.{Num}
use Rattle.js_number.specs.declared.Num.TheVariants.{Int, NaN, PosInf, NegInf}
use Rattle.js_item.specs.Contents.{Content, undefined, null, bool, number, text, symbol, list, object}
use Rattle.js_item.specs.Contents.{Fields, no_fields, field}

abbrev head : Gv → Gv
head gnil = gnil
head (gnum n) = gnil
head (gcons a b) = a

abbrev tail : Gv → Gv
tail gnil = gnil
tail (gnum n) = gnil
tail (gcons a b) = b

abbrev IsConsCode : Gv → Type 0
IsConsCode gnil = ⊥
IsConsCode (gnum n) = ⊥
IsConsCode (gcons a b) = Unit {0}

abbrev num_tree : Num → Gv
num_tree (Int z) = gcons (gnum 0) (coded_ℤ.code z)
num_tree NaN = gcons (gnum 1) gnil
num_tree PosInf = gcons (gnum 2) gnil
num_tree NegInf = gcons (gnum 3) gnil

-- the number in front of a code says the case
num_one : (m n : Num) → num_tree m ≡ num_tree n → m ≡ n
num_one (Int z) (Int w) e = ap Int (coded_ℤ.inj z w (ap tail e))
num_one (Int z) NaN e = let t : ◌≡◌ {A = ℕ} 0 1 = ap (λ g. num (head g)) e in cc
num_one (Int z) PosInf e = let t : ◌≡◌ {A = ℕ} 0 2 = ap (λ g. num (head g)) e in cc
num_one (Int z) NegInf e = let t : ◌≡◌ {A = ℕ} 0 3 = ap (λ g. num (head g)) e in cc
num_one NaN (Int z) e = let t : ◌≡◌ {A = ℕ} 1 0 = ap (λ g. num (head g)) e in cc
num_one NaN NaN e = refl
num_one NaN PosInf e = let t : ◌≡◌ {A = ℕ} 1 2 = ap (λ g. num (head g)) e in cc
num_one NaN NegInf e = let t : ◌≡◌ {A = ℕ} 1 3 = ap (λ g. num (head g)) e in cc
num_one PosInf (Int z) e = let t : ◌≡◌ {A = ℕ} 2 0 = ap (λ g. num (head g)) e in cc
num_one PosInf NaN e = let t : ◌≡◌ {A = ℕ} 2 1 = ap (λ g. num (head g)) e in cc
num_one PosInf PosInf e = refl
num_one PosInf NegInf e = let t : ◌≡◌ {A = ℕ} 2 3 = ap (λ g. num (head g)) e in cc
num_one NegInf (Int z) e = let t : ◌≡◌ {A = ℕ} 3 0 = ap (λ g. num (head g)) e in cc
num_one NegInf NaN e = let t : ◌≡◌ {A = ℕ} 3 1 = ap (λ g. num (head g)) e in cc
num_one NegInf PosInf e = let t : ◌≡◌ {A = ℕ} 3 2 = ap (λ g. num (head g)) e in cc
num_one NegInf NegInf e = refl

module _ {R : Type 0} (c : Coded R) where
  abbrev mutual
    pub content_tree : Content R → Gv
    content_tree undefined = gcons (gnum 0) gnil
    content_tree null = gcons (gnum 1) gnil
    content_tree (bool b) = gcons (gnum 2) (coded_bool.code b)
    content_tree (number n) = gcons (gnum 3) (num_tree n)
    content_tree (text r) = gcons (gnum 4) (c.code r)
    content_tree (symbol r) = gcons (gnum 5) (c.code r)
    content_tree (list rs) = gcons (gnum 6) ((coded_list c).code rs)
    content_tree (object fs) = gcons (gnum 7) (fields_tree fs)

    pub fields_tree : Fields R → Gv
    fields_tree no_fields = gnil
    fields_tree (field key value rest) = gcons (gcons (c.code key) (content_tree value)) (fields_tree rest)

  mutual
    pub content_one : (x y : Content R) → content_tree x ≡ content_tree y → x ≡ y
    content_one undefined undefined e = refl
    content_one undefined null e = let t : ◌≡◌ {A = ℕ} 0 1 = ap (λ g. num (head g)) e in cc
    content_one undefined (bool b') e = let t : ◌≡◌ {A = ℕ} 0 2 = ap (λ g. num (head g)) e in cc
    content_one undefined (number n') e = let t : ◌≡◌ {A = ℕ} 0 3 = ap (λ g. num (head g)) e in cc
    content_one undefined (text r') e = let t : ◌≡◌ {A = ℕ} 0 4 = ap (λ g. num (head g)) e in cc
    content_one undefined (symbol r') e = let t : ◌≡◌ {A = ℕ} 0 5 = ap (λ g. num (head g)) e in cc
    content_one undefined (list rs') e = let t : ◌≡◌ {A = ℕ} 0 6 = ap (λ g. num (head g)) e in cc
    content_one undefined (object fs') e = let t : ◌≡◌ {A = ℕ} 0 7 = ap (λ g. num (head g)) e in cc
    content_one null undefined e = let t : ◌≡◌ {A = ℕ} 1 0 = ap (λ g. num (head g)) e in cc
    content_one null null e = refl
    content_one null (bool b') e = let t : ◌≡◌ {A = ℕ} 1 2 = ap (λ g. num (head g)) e in cc
    content_one null (number n') e = let t : ◌≡◌ {A = ℕ} 1 3 = ap (λ g. num (head g)) e in cc
    content_one null (text r') e = let t : ◌≡◌ {A = ℕ} 1 4 = ap (λ g. num (head g)) e in cc
    content_one null (symbol r') e = let t : ◌≡◌ {A = ℕ} 1 5 = ap (λ g. num (head g)) e in cc
    content_one null (list rs') e = let t : ◌≡◌ {A = ℕ} 1 6 = ap (λ g. num (head g)) e in cc
    content_one null (object fs') e = let t : ◌≡◌ {A = ℕ} 1 7 = ap (λ g. num (head g)) e in cc
    content_one (bool b) undefined e = let t : ◌≡◌ {A = ℕ} 2 0 = ap (λ g. num (head g)) e in cc
    content_one (bool b) null e = let t : ◌≡◌ {A = ℕ} 2 1 = ap (λ g. num (head g)) e in cc
    content_one (bool b) (bool b') e = ap bool (coded_bool.inj b b' (ap tail e))
    content_one (bool b) (number n') e = let t : ◌≡◌ {A = ℕ} 2 3 = ap (λ g. num (head g)) e in cc
    content_one (bool b) (text r') e = let t : ◌≡◌ {A = ℕ} 2 4 = ap (λ g. num (head g)) e in cc
    content_one (bool b) (symbol r') e = let t : ◌≡◌ {A = ℕ} 2 5 = ap (λ g. num (head g)) e in cc
    content_one (bool b) (list rs') e = let t : ◌≡◌ {A = ℕ} 2 6 = ap (λ g. num (head g)) e in cc
    content_one (bool b) (object fs') e = let t : ◌≡◌ {A = ℕ} 2 7 = ap (λ g. num (head g)) e in cc
    content_one (number n) undefined e = let t : ◌≡◌ {A = ℕ} 3 0 = ap (λ g. num (head g)) e in cc
    content_one (number n) null e = let t : ◌≡◌ {A = ℕ} 3 1 = ap (λ g. num (head g)) e in cc
    content_one (number n) (bool b') e = let t : ◌≡◌ {A = ℕ} 3 2 = ap (λ g. num (head g)) e in cc
    content_one (number n) (number n') e = ap number (num_one n n' (ap tail e))
    content_one (number n) (text r') e = let t : ◌≡◌ {A = ℕ} 3 4 = ap (λ g. num (head g)) e in cc
    content_one (number n) (symbol r') e = let t : ◌≡◌ {A = ℕ} 3 5 = ap (λ g. num (head g)) e in cc
    content_one (number n) (list rs') e = let t : ◌≡◌ {A = ℕ} 3 6 = ap (λ g. num (head g)) e in cc
    content_one (number n) (object fs') e = let t : ◌≡◌ {A = ℕ} 3 7 = ap (λ g. num (head g)) e in cc
    content_one (text r) undefined e = let t : ◌≡◌ {A = ℕ} 4 0 = ap (λ g. num (head g)) e in cc
    content_one (text r) null e = let t : ◌≡◌ {A = ℕ} 4 1 = ap (λ g. num (head g)) e in cc
    content_one (text r) (bool b') e = let t : ◌≡◌ {A = ℕ} 4 2 = ap (λ g. num (head g)) e in cc
    content_one (text r) (number n') e = let t : ◌≡◌ {A = ℕ} 4 3 = ap (λ g. num (head g)) e in cc
    content_one (text r) (text r') e = ap text (c.inj r r' (ap tail e))
    content_one (text r) (symbol r') e = let t : ◌≡◌ {A = ℕ} 4 5 = ap (λ g. num (head g)) e in cc
    content_one (text r) (list rs') e = let t : ◌≡◌ {A = ℕ} 4 6 = ap (λ g. num (head g)) e in cc
    content_one (text r) (object fs') e = let t : ◌≡◌ {A = ℕ} 4 7 = ap (λ g. num (head g)) e in cc
    content_one (symbol r) undefined e = let t : ◌≡◌ {A = ℕ} 5 0 = ap (λ g. num (head g)) e in cc
    content_one (symbol r) null e = let t : ◌≡◌ {A = ℕ} 5 1 = ap (λ g. num (head g)) e in cc
    content_one (symbol r) (bool b') e = let t : ◌≡◌ {A = ℕ} 5 2 = ap (λ g. num (head g)) e in cc
    content_one (symbol r) (number n') e = let t : ◌≡◌ {A = ℕ} 5 3 = ap (λ g. num (head g)) e in cc
    content_one (symbol r) (text r') e = let t : ◌≡◌ {A = ℕ} 5 4 = ap (λ g. num (head g)) e in cc
    content_one (symbol r) (symbol r') e = ap symbol (c.inj r r' (ap tail e))
    content_one (symbol r) (list rs') e = let t : ◌≡◌ {A = ℕ} 5 6 = ap (λ g. num (head g)) e in cc
    content_one (symbol r) (object fs') e = let t : ◌≡◌ {A = ℕ} 5 7 = ap (λ g. num (head g)) e in cc
    content_one (list rs) undefined e = let t : ◌≡◌ {A = ℕ} 6 0 = ap (λ g. num (head g)) e in cc
    content_one (list rs) null e = let t : ◌≡◌ {A = ℕ} 6 1 = ap (λ g. num (head g)) e in cc
    content_one (list rs) (bool b') e = let t : ◌≡◌ {A = ℕ} 6 2 = ap (λ g. num (head g)) e in cc
    content_one (list rs) (number n') e = let t : ◌≡◌ {A = ℕ} 6 3 = ap (λ g. num (head g)) e in cc
    content_one (list rs) (text r') e = let t : ◌≡◌ {A = ℕ} 6 4 = ap (λ g. num (head g)) e in cc
    content_one (list rs) (symbol r') e = let t : ◌≡◌ {A = ℕ} 6 5 = ap (λ g. num (head g)) e in cc
    content_one (list rs) (list rs') e = ap list ((coded_list c).inj rs rs' (ap tail e))
    content_one (list rs) (object fs') e = let t : ◌≡◌ {A = ℕ} 6 7 = ap (λ g. num (head g)) e in cc
    content_one (object fs) undefined e = let t : ◌≡◌ {A = ℕ} 7 0 = ap (λ g. num (head g)) e in cc
    content_one (object fs) null e = let t : ◌≡◌ {A = ℕ} 7 1 = ap (λ g. num (head g)) e in cc
    content_one (object fs) (bool b') e = let t : ◌≡◌ {A = ℕ} 7 2 = ap (λ g. num (head g)) e in cc
    content_one (object fs) (number n') e = let t : ◌≡◌ {A = ℕ} 7 3 = ap (λ g. num (head g)) e in cc
    content_one (object fs) (text r') e = let t : ◌≡◌ {A = ℕ} 7 4 = ap (λ g. num (head g)) e in cc
    content_one (object fs) (symbol r') e = let t : ◌≡◌ {A = ℕ} 7 5 = ap (λ g. num (head g)) e in cc
    content_one (object fs) (list rs') e = let t : ◌≡◌ {A = ℕ} 7 6 = ap (λ g. num (head g)) e in cc
    content_one (object fs) (object fs') e = ap object (fields_one fs fs' (ap tail e))

    pub fields_one : (x y : Fields R) → fields_tree x ≡ fields_tree y → x ≡ y
    fields_one no_fields no_fields e = refl
    fields_one no_fields (field k' v' fs') e = absurd (subst IsConsCode (sym e) tt)
    fields_one (field k v fs) no_fields e = absurd (subst IsConsCode e tt)
    fields_one (field k v fs) (field k' v' fs') e =
        let key : k ≡ k' = c.inj k k' (ap (λ g. head (head g)) e) in
        let value : v ≡ v' = content_one v v' (ap (λ g. tail (head g)) e) in
        let rest : fs ≡ fs' = fields_one fs fs' (ap tail e) in
        cc

  abbrev pub fields_code : Coded (Fields R)
  fields_code = record { code = fields_tree; inj = fields_one }
