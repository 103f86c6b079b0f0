-- Pieces that are open, one after the other.
use Rattle.std.specs.Prelude.{OnErr, OnOk}
use Rattle.std.proofs.lemmas.List.{length-map, map-append}
use Rattle.std.proofs.Common.{Result, length-append, ◌≡◌, ◌++◌, ◌∙◌, ◌<◌, ◌≤◌, ℕ, zero, suc, List, [], ◌∷◌, length, get_or, map, Option, None, Some, IfSome, refl, sym, ap, subst, arith}
use Rattle.std.specs.Option.{option_map}
use Rattle.zbase.specs.Faults.{Counter, IsFaultless}
use Rattle.zdisk.specs.Disk.{Told, synced}
use Rattle.zio.specs.Shelves.{Entry, Holds, TakesBack, file_at}
use Rattle.repozo.specs.declared.index.PieceRow.{PieceRow}
use Rattle.backups.specs.Opened.{AreSound, IsMissingAt}
use Rattle.backups.specs.Standing.{AreOpen}
use Rattle.backups.proofs.Closing.{opened, unchanged}

pub open_more : (all : List Entry) (rows : List PieceRow) (ds : List (Option Told)) (e : PieceRow) (d : Option Told) → length ds < length rows → Holds all (get_or rows (length ds) e).name d → AreOpen all rows ds → AreOpen all rows (ds ++ d ∷ [])
open_more all [] ds e d lt held opens = absurd (omega arith)
open_more all (r ∷ rs) [] e d lt held opens = (held, tt)
open_more all (r ∷ rs) (x ∷ ds) e d lt held opens = (opens.0, open_more all rs ds e d (omega arith) held opens.1)

pub open_less : (all : List Entry) (rows : List PieceRow) (ds : List (Option Told)) (e : PieceRow) (d : Option Told) → AreOpen all rows (ds ++ d ∷ []) → AreOpen all rows ds × Holds all (get_or rows (length ds) e).name d
open_less all [] [] e d opens = absurd opens
open_less all [] (x ∷ ds) e d opens = absurd opens
open_less all (r ∷ rs) [] e d opens = (tt, opens.0)
open_less all (r ∷ rs) (x ∷ ds) e d opens = let rest = open_less all rs ds e d opens.1 in ((opens.0, rest.0), rest.1)

pub sound_more : (cs : List Counter) (c : Counter) → IsFaultless c → AreSound cs → AreSound (cs ++ c ∷ [])
sound_more [] c one all = (one, tt)
sound_more (x ∷ cs) c one all = (all.0, sound_more cs c one all.1)

pub missing_at : (all : List Entry) (rows : List PieceRow) (n : ℕ) (e : PieceRow) → n < length rows → file_at all (get_or rows n e).name ≡ None → IsMissingAt all rows n
missing_at all [] n e lt none = absurd (omega arith)
missing_at all (r ∷ rs) zero e lt none = none
missing_at all (r ∷ rs) (suc n) e lt none = missing_at all rs n e (omega arith) none

-- where a shelf tells

pub open_none : (files : Option (List Entry)) (rows : List PieceRow) → IfSome files (λ all. AreOpen all rows [])
open_none None rows = tt
open_none (Some all) [] = tt
open_none (Some all) (r ∷ rs) = tt

pub open_next : (was now : Option (List Entry)) (rows : List PieceRow) (ds : List (Option Told)) (e : PieceRow) (d : Option Told) → now ≡ was → length ds < length rows → IfSome was (λ all. AreOpen all rows ds)
    → IfSome now (λ all. d ≡ option_map synced (file_at all (get_or rows (length ds) e).name)) → IfSome now (λ all. file_at all (get_or rows (length ds) e).name ≡ None → ⊥) → IfSome was (λ all. AreOpen all rows (ds ++ d ∷ []))
open_next was now rows ds e d same lt opens found there =
    let holds : IfSome now (λ all. Holds all (get_or rows (length ds) e).name d) = opened now (get_or rows (length ds) e).name d found there in
    go was (subst (λ (o : Option (List Entry)). IfSome o (λ all. Holds all (get_or rows (length ds) e).name d)) same holds) opens
  where
    go : (o : Option (List Entry)) → IfSome o (λ all. Holds all (get_or rows (length ds) e).name d) → IfSome o (λ all. AreOpen all rows ds) → IfSome o (λ all. AreOpen all rows (ds ++ d ∷ []))
    go None holds opens = tt
    go (Some all) holds opens = open_more all rows ds e d lt holds opens

pub open_last : (files : Option (List Entry)) (rows : List PieceRow) (ds : List (Option Told)) (e : PieceRow) (d : Option Told) → IfSome files (λ all. AreOpen all rows (ds ++ d ∷ []))
    → (IfSome files (λ all. AreOpen all rows ds)) × (IfSome files (λ all. Holds all (get_or rows (length ds) e).name d))
open_last None rows ds e d opens = (tt, tt)
open_last (Some all) rows ds e d opens = open_less all rows ds e d opens

pub missing_here : (was now : Option (List Entry)) (rows : List PieceRow) (n : ℕ) (e : PieceRow) → now ≡ was → n < length rows → IfSome now (λ all. file_at all (get_or rows n e).name ≡ None) → IfSome was (λ all. IsMissingAt all rows n)
missing_here None now rows n e same lt none = tt
missing_here (Some all) now rows n e same lt none =
    missing_at all rows n e lt (subst (λ (o : Option (List Entry)). IfSome o (λ x. file_at x (get_or rows n e).name ≡ None)) same none)

-- ---- in the two loops

pub opened_one : {S : Type 0} (told : S → Option Told) (was now : Option (List Entry)) (rows : List PieceRow) (old new : List S) (d : S) (i : ℕ) (row : PieceRow) (name : List ℕ) → IfSome was (λ all. AreOpen all rows (map told old)) → new ≡ old ++ d ∷ [] → length old ≡ i → i < length rows
    → name ≡ (get_or rows i row).name → now ≡ was → IfSome now (λ all. told d ≡ option_map synced (file_at all name)) → IfSome now (λ all. file_at all name ≡ None → ⊥) → IfSome was (λ all. AreOpen all rows (map told new))
opened_one told was now rows old new d i row name opens items many lt named same found there =
    let at : name ≡ (get_or rows (length (map told old)) row).name = named ∙ ap (λ (k : ℕ). (get_or rows k row).name) (sym many ∙ sym (length-map old told)) in
    let next = open_next was now rows (map told old) row (told d) same (omega (arith, lt, many, length-map old told)) opens
    (subst (λ (n : List ℕ). IfSome now (λ all. told d ≡ option_map synced (file_at all n))) at found) (subst (λ (n : List ℕ). IfSome now (λ all. file_at all n ≡ None → ⊥)) at there) in
    subst (λ (ds : List (Option Told)). IfSome was (λ all. AreOpen all rows ds)) (sym (ap (map told) items ∙ map-append told old (d ∷ []))) next

pub sound_one : {S : Type 0} (counter : S → Counter) (old new : List S) (d : S) → new ≡ old ++ d ∷ [] → IsFaultless (counter d) → AreSound (map counter old) → AreSound (map counter new)
sound_one counter old new d items one all = subst AreSound (sym (ap (map counter) items ∙ map-append counter old (d ∷ []))) (sound_more (map counter old) (counter d) one all)

pub missing_one : (was now : Option (List Entry)) (rows : List PieceRow) (n i : ℕ) (row : PieceRow) (name : List ℕ) → now ≡ was → n ≡ i → i < length rows → name ≡ (get_or rows i row).name → IfSome now (λ all. file_at all name ≡ None) → (n < length rows) × IfSome was (λ all. IsMissingAt all rows n)
missing_one was now rows n i row name same many lt named none =
    let here : IfSome was (λ all. IsMissingAt all rows i) = missing_here was now rows i row same lt (subst (λ (m : List ℕ). IfSome now (λ all. file_at all m ≡ None)) named none) in
    (omega (arith, many, lt), subst (λ (k : ℕ). IfSome was (λ all. IsMissingAt all rows k)) (sym many) here)

pub closed_one : {S T E : Type 0} (told : S → Option Told) (files mid now : Option (List Entry)) (rows : List PieceRow) (old new : List S) (d : S) (n : ℕ) (row : PieceRow) (name : List ℕ) (r : Result T E) → IfSome files (λ all. AreOpen all rows (map told old)) → length old ≤ length rows
    → old ≡ new ++ d ∷ [] → n ≡ length new → name ≡ (get_or rows n row).name → mid ≡ files → OnOk r (TakesBack mid name (told d) now) → OnErr r (now ≡ mid)
    → (IfSome files (λ all. AreOpen all rows (map told new))) × (length new ≤ length rows) × (now ≡ files)
closed_one told files mid now rows old new d n row name r opens few items long named same closed kept =
    let apart : IfSome files (λ all. AreOpen all rows (map told new ++ told d ∷ [])) = subst (λ (ds : List (Option Told)). IfSome files (λ all. AreOpen all rows ds)) (ap (map told) items ∙ map-append told new (d ∷ [])) opens in
    let both = open_last files rows (map told new) row (told d) apart in
    let at : (get_or rows (length (map told new)) row).name ≡ name = ap (λ (k : ℕ). (get_or rows k row).name) (length-map new told ∙ sym long) ∙ sym named in
    let held : IfSome files (λ all. Holds all name (told d)) = subst (λ (m : List ℕ). IfSome files (λ all. Holds all m (told d))) at both.1 in
    (both.0, omega (arith, few, ap length items, length-append new (d ∷ [])), unchanged files mid now name (told d) (told d) r held same refl closed kept)
