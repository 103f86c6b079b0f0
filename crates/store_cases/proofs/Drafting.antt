-- Drafts of one entry keep the rules of a change.
use Rattle.std.proofs.Common.{◌≡◌, ◌≢◌, ℕ, arith, ◌<◌, ◌≤◌, List, [], ◌∷◌, Option, Some, None, refl, sym, ap, subst, ◌∙◌, map, length, inr}
use Rattle.std.specs.Prelude.{count_by, AllPairs, Contains}
use Rattle.std.specs.List.{AllByRecursion}
use Rattle.evaluator.specs.declared.ask.Ask.{Ask}
use Rattle.evaluator.specs.declared.draft.Draft.{Draft}
use Rattle.evaluator.specs.declared.draft.Entry.{Entry}
use Rattle.evaluator.specs.declared.draft.Hole.{Hole}
use Rattle.evaluator.specs.declared.draft.Name.{Name}
use Rattle.evaluator.specs.declared.fact.Fact.{Fact}
use Rattle.evaluator.specs.declared.fact.Part.{Part}
use Rattle.evaluator.specs.Change.{named, is_new, made, most_new, IsEntry, IsChange}
use Rattle.fs_store.specs.Stores.{IsDraft}

one_entry : (known : Ask → Option Fact) (d : Draft) (e : Entry) → d.entries ≡ e ∷ [] → length d.user ≤ 65535 → length d.description ≤ 65535
    → ((k : ℕ) → k < made d → Contains (map named d.entries) (Name.New k)) → made d < most_new → IsEntry known (made d) e → IsChange known d
one_entry known d e is user description numbered few entry = record {
  user = user;
  description = description;
  distinct = subst (λ es. AllPairs (λ a b. named a ≢ named b) es) (sym is) (λ i j x lt within. absurd (omega (arith, lt, within)));
  numbered = numbered;
  few = few;
  each = subst (AllByRecursion (IsEntry known (made d))) (sym is) (entry, tt);
}

made_one : (d : Draft) (e : Entry) → d.entries ≡ e ∷ [] → made d ≡ count_by (λ x. is_new (named x)) (e ∷ [])
made_one d e is = ap (count_by (λ x. is_new (named x))) is

pub written_draft : (d : Draft) (o : ℕ) (bytes text : List ℕ) (holes : List Hole) → d.entries ≡ Entry.Write (Name.Old o) bytes holes ∷ [] → bytes ≡ text → 0 < length text → holes ≡ [] → length d.user ≤ 65535 → length d.description ≤ 65535 → IsDraft d
written_draft d o bytes text holes is same some no_holes user description =
    let plain : d.entries ≡ Entry.Write (Name.Old o) text [] ∷ [] = is ∙ ap (λ b. Entry.Write (Name.Old o) b holes ∷ []) same ∙ ap (λ h. Entry.Write (Name.Old o) text h ∷ []) no_holes in
    let none : made d ≡ 0 = made_one d (Entry.Write (Name.Old o) text []) plain in
    (λ ask. None, one_entry (λ ask. None) d (Entry.Write (Name.Old o) text []) plain user description (λ k lt. absurd (omega (arith, lt, none))) (subst (λ n. n < most_new) (sym none) (omega arith)) ((λ lt. absurd (omega (arith, lt, none))), some, tt, (λ i j x lt within. absurd (omega (arith, within)))))

pub restored_draft : (d : Draft) (o t : ℕ) → d.entries ≡ Entry.Restore o t ∷ [] → length d.user ≤ 65535 → length d.description ≤ 65535 → IsDraft d
restored_draft d o t is user description =
    let none : made d ≡ 0 = made_one d (Entry.Restore o t) is in
    (known, one_entry known d (Entry.Restore o t) is user description (λ k lt. absurd (omega (arith, lt, none))) (subst (λ n. n < most_new) (sym none) (omega arith)) ((λ lt. absurd (omega (arith, lt, none))), inr (1, parts, part, refl, (0, omega arith, refl), refl, refl)))
  where
    part : Part
    part = record { oid = o; after = None; before = None; before_serial = t }

    parts : List Part
    parts = part ∷ []

    known : Ask → Option Fact
    known ask = Some (Fact.Transaction 1 (Some parts))

pub new_draft : (d : Draft) (bytes text : List ℕ) (holes : List Hole) → d.entries ≡ Entry.Write (Name.New 0) bytes holes ∷ [] → bytes ≡ text → 9 ≤ length text → holes ≡ record { at = 1; new = 0 } ∷ [] → length d.user ≤ 65535 → length d.description ≤ 65535 → IsDraft d
new_draft d bytes text holes is same some one_hole user description =
    let hole : Hole = record { at = 1; new = 0 } in
    let plain : d.entries ≡ Entry.Write (Name.New 0) text (hole ∷ []) ∷ [] = is ∙ ap (λ b. Entry.Write (Name.New 0) b holes ∷ []) same ∙ ap (λ h. Entry.Write (Name.New 0) text h ∷ []) one_hole in
    let one : made d ≡ 1 = made_one d (Entry.Write (Name.New 0) text (hole ∷ [])) plain in (
      λ ask. None,
      one_entry (λ ask. None) d (Entry.Write (Name.New 0) text (hole ∷ [])) plain user description
          (λ k lt. subst (λ es. Contains (map named es) (Name.New k)) (sym plain) (0, omega arith, ap (λ n. Name.New n) (omega (arith, lt, one))))
          (subst (λ n. n < most_new) (sym one) (omega arith))
          (omega (arith, one), omega (arith, some), ((omega (arith, some), omega (arith, one)), tt), (λ i j x lt within. absurd (omega (arith, lt, within)))),
    )
