-- What calls on a catalog keep: forms, and agreement.
use Rattle.std.proofs.Common.{ℕ, ◌≡◌, sym, subst, [], ◌∷◌, length, Result, Ok, Err}
use Rattle.std.specs.Prelude.{IfOk}
use Rattle.std.specs.List.{AllByRecursion}
use Rattle.catalog.specs.declared.document.Contents.{Contents}
use Rattle.catalog.specs.declared.document.Entry.{Entry}
use Rattle.catalog.specs.declared.document.Index.{Index}
use Rattle.catalog.specs.declared.document.IndexKind.{IndexKind}
use Rattle.catalog.specs.Agreeing.{Agrees, AreIndexes, catalogued, uncatalogued, with_index}
use Rattle.catalog.specs.Forms.{ArePostings, AreValues, IsOid}
use Rattle.catalog.proofs.Agreed.{calls_keep, reindexed_right, unindexed_right}
use Rattle.catalog.proofs.Rising.{each_joined}

-- what holds of a catalog holds of what a call answers, where that is the catalog
kept : {M : Type 0} (P : Contents → Type 0) (c : Contents) (r : Result Contents M) → IfOk r (λ new. new ≡ c) → P c → IfOk r P
kept P c (Ok new) is holds = subst P (sym is) holds
kept P c (Err e) is holds = tt

abbrev HasForm : Contents → Type 0
HasForm c = AreIndexes c.indexes

pub added_form : {M : Type 0} (kind : IndexKind) (c : Contents) (r : Result Contents M) → IfOk r (λ new. new ≡ with_index kind c) → AreIndexes c.indexes → IfOk r (λ new. AreIndexes new.indexes)
added_form kind c r is are = kept HasForm (with_index kind c) r is (each_joined (λ (x : Index). ArePostings x.postings) c.indexes (record { kind = kind; postings = [] } ∷ []) are (record { each = tt; rise = tt }, tt))

pub added_agrees : {M : Type 0} (kind : IndexKind) (c : Contents) (r : Result Contents M) → IfOk r (λ new. new ≡ with_index kind c) → Agrees c → IfOk r Agrees
added_agrees kind c r is agrees = kept Agrees (with_index kind c) r is (calls_keep.index_added kind c agrees)

pub entered_form : {M : Type 0} (e : Entry) (c : Contents) (r : Result Contents M) → IfOk r (λ new. new ≡ catalogued e c) → IsOid e.oid → AllByRecursion AreValues e.values → AreIndexes c.indexes → IfOk r (λ new. AreIndexes new.indexes)
entered_form e c r is small values are = kept HasForm (catalogued e c) r is (reindexed_right 0 e c.indexes small values are)

pub entered_agrees : {M : Type 0} (e : Entry) (c : Contents) (r : Result Contents M) → IfOk r (λ new. new ≡ catalogued e c) → IsOid e.oid → AllByRecursion AreValues e.values → Agrees c → length e.values ≡ length c.indexes → IfOk r Agrees
entered_agrees e c r is small values agrees wide = kept Agrees (catalogued e c) r is (calls_keep.entry_made e c (record { oid = small; wide = wide; values = values }) agrees)

pub removed_form : {M : Type 0} (o : ℕ) (c : Contents) (r : Result Contents M) → IfOk r (λ new. new ≡ uncatalogued o c) → AreIndexes c.indexes → IfOk r (λ new. AreIndexes new.indexes)
removed_form o c r is are = kept HasForm (uncatalogued o c) r is (unindexed_right o c.indexes are)

pub removed_agrees : {M : Type 0} (o : ℕ) (c : Contents) (r : Result Contents M) → IfOk r (λ new. new ≡ uncatalogued o c) → Agrees c → IfOk r Agrees
removed_agrees o c r is agrees = kept Agrees (uncatalogued o c) r is (calls_keep.entry_removed o c agrees)
