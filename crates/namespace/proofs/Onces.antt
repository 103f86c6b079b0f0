-- Objects that stand once in a list, with one more at its end or one less.
use Rattle.std.proofs.Common.{ℕ, ◌≡◌, ◌∙◌, refl, sym, ap, subst, Bool, true, false, not, ◌||◌, nat_eq, nat_cmp, List, [], ◌∷◌, ◌++◌, append_assoc}
use Rattle.std.proofs.lemmas.List.{append-nil}
use Rattle.std.proofs.Math.Bool.{cond}
use Rattle.std.proofs.lemmas.Bool.{eqb-true}
use Rattle.std.proofs.lemmas.List.Folds.{list_any-append}
use Rattle.std.specs.BTreeMap.{is_at}
use Rattle.std.specs.BTreeSet.{BTreeSet, contains}
use Rattle.std.specs.Cmp.{unsigned_tied}
use Rattle.std.specs.List.{list_any}
use Rattle.permissions.specs.Roles.{Role}
use Rattle.evaluator.specs.declared.reply.Shown.{Shown}
use Rattle.namespace.specs.Once.{AreOnce}

abbrev IsNew : Shown → List Shown → Type 0
IsNew x xs = list_any (λ (s : Shown). nat_eq s.oid x.oid) xs ≡ false

pub once_more : (former xs : List Shown) (x : Shown) → AreOnce former xs → IsNew x (former ++ xs) → AreOnce former (xs ++ x ∷ [])
once_more former [] x once new = (subst (IsNew x) (append-nil former) new, tt)
once_more former (y ∷ ys) x once new = (once.0, once_more (former ++ y ∷ []) ys x once.1 (subst (IsNew x) (sym (append_assoc former (y ∷ []) ys)) new))

pub once_less : (former xs : List Shown) (x : Shown) → AreOnce former (xs ++ x ∷ []) → AreOnce former xs × IsNew x (former ++ xs)
once_less former [] x once = (tt, subst (IsNew x) (sym (append-nil former)) once.0)
once_less former (y ∷ ys) x once =
    let less = once_less (former ++ y ∷ []) ys x once.1 in
    ((once.0, less.0), subst (IsNew x) (append_assoc former (y ∷ []) ys) less.1)

abbrev AreIn : BTreeSet ℕ → List Shown → Type 0
AreIn oids list = (o : ℕ) → contains nat_cmp oids o ≡ list_any (λ (x : Shown). nat_eq x.oid o) list

not_true : (b : Bool) → true ≡ not b → b ≡ false
not_true true e = absurd (let bad = e in cc)
not_true false e = refl

or_none : (b : Bool) → (b || false) ≡ b
or_none true = refl
or_none false = refl

or_some : (b : Bool) → (b || true) ≡ true
or_some true = refl
or_some false = refl

-- the ids with one more
pub more_in : (oids more : BTreeSet ℕ) (list longer : List Shown) (oid : ℕ) (role : Role) → AreIn oids list → ((o : ℕ) → contains nat_cmp more o ≡ cond (is_at (nat_cmp oid) o) true (contains nat_cmp oids o)) →
    longer ≡ list ++ record { oid = oid; role = role } ∷ [] → AreIn more longer
more_in oids more list longer oid role are updates is = λ o.
    updates o
    ∙ at o (nat_eq oid o) refl
    ∙ sym (ap (list_any (λ (x : Shown). nat_eq x.oid o)) is ∙ list_any-append (λ (x : Shown). nat_eq x.oid o) list (record { oid = oid; role = role } ∷ []))
  where
    at : (o : ℕ) (same : Bool) → nat_eq oid o ≡ same → cond (is_at (nat_cmp oid) o) true (contains nat_cmp oids o) ≡ (list_any (λ (x : Shown). nat_eq x.oid o) list || (nat_eq oid o || false))
    at o true e =
        ap (λ b. cond b true (contains nat_cmp oids o)) (unsigned_tied oid o ∙ e)
        ∙ sym (ap (λ b. list_any (λ (x : Shown). nat_eq x.oid o) list || (b || false)) e ∙ or_some (list_any (λ (x : Shown). nat_eq x.oid o) list))
    at o false e =
        ap (λ b. cond b true (contains nat_cmp oids o)) (unsigned_tied oid o ∙ e)
        ∙ are o
        ∙ sym (ap (λ b. list_any (λ (x : Shown). nat_eq x.oid o) list || (b || false)) e ∙ or_none (list_any (λ (x : Shown). nat_eq x.oid o) list))

-- one that wasn't among the ids
pub once_taken : (oids : BTreeSet ℕ) (list longer : List Shown) (oid : ℕ) (role : Role) → AreIn oids list → AreOnce [] list → true ≡ not (contains nat_cmp oids oid) → longer ≡ list ++ record { oid = oid; role = role } ∷ [] → AreOnce [] longer
once_taken oids list longer oid role are once added is =
    subst (AreOnce []) (sym is) (once_more [] list (record { oid = oid; role = role }) once (sym (are oid) ∙ not_true (contains nat_cmp oids oid) added))

-- the ids of those that are left, once the last one's is taken away
pub left_in : (oids fewer : BTreeSet ℕ) (list left : List Shown) (last : Shown) (oid : ℕ) → oid ≡ last.oid → AreIn oids list → list ≡ left ++ last ∷ [] → IsNew last left →
    ((o : ℕ) → contains nat_cmp fewer o ≡ cond (is_at (nat_cmp oid) o) false (contains nat_cmp oids o)) → AreIn fewer left
left_in oids fewer list left last oid same_oid are is new updates = λ o. updates o ∙ ap (λ n. cond (is_at (nat_cmp n) o) false (contains nat_cmp oids o)) same_oid ∙ at o (nat_eq last.oid o) refl
  where
    at : (o : ℕ) (same : Bool) → nat_eq last.oid o ≡ same → cond (is_at (nat_cmp last.oid) o) false (contains nat_cmp oids o) ≡ list_any (λ (x : Shown). nat_eq x.oid o) left
    at o true e =
        ap (λ b. cond b false (contains nat_cmp oids o)) (unsigned_tied last.oid o ∙ e)
        ∙ sym (subst (λ n. list_any (λ (s : Shown). nat_eq s.oid n) left ≡ false) (eqb-true last.oid o e) new)
    at o false e =
        ap (λ b. cond b false (contains nat_cmp oids o)) (unsigned_tied last.oid o ∙ e)
        ∙ are o
        ∙ ap (list_any (λ (x : Shown). nat_eq x.oid o)) is
        ∙ list_any-append (λ (x : Shown). nat_eq x.oid o) left (last ∷ [])
        ∙ ap (λ b. list_any (λ (x : Shown). nat_eq x.oid o) left || (b || false)) e
        ∙ or_none (list_any (λ (x : Shown). nat_eq x.oid o) left)
