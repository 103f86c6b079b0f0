-- What is put back, and where its data stands.
use Rattle.std.proofs.Common.{◌≡◌, ℕ, ◌<◌, ◌==◌, Bool, true, false, List, [], ◌∷◌, ◌++◌, length, drop, take, Option, Some, None, IfSome, Result, Ok, Err, IfOk, refl, sym, ap, subst, ◌∙◌, arith, ne_eqb, inl, inr}
use Rattle.std.specs.Prelude.{◌||◌, All}
use Rattle.std.specs.List.{AllByRecursion}
use Rattle.std.proofs.lemmas.List.{drop_at, take_at}
use Rattle.std.proofs.lemmas.List.Elements.{All-head, All-tail}
use Rattle.zbase.specs.History.{History, IsHistory, IsPrefixOf}
use Rattle.zbase.specs.HistoryLaws.{upto_stays}
use Rattle.zbase.specs.Values.{upto, value, value_of as value_in}
use Rattle.zdisk.specs.Crashes.{Becomes}
use Rattle.zdisk.specs.Disk.{Told, content}
use Rattle.evaluator.specs.declared.draft.Draft.{Draft}
use Rattle.fs_record.specs.declared.body.Body.TheVariants.{Back}
use Rattle.fs_record.specs.declared.body.Item.{Item}
use Rattle.fs_record.specs.declared.body.TxnTexts.{TxnTexts}
use Rattle.fs_record.specs.File.{Earlier, is_right_body, rows, value_of}
use Rattle.fs_record.specs.FileLaws.{file_history}
use Rattle.fs_record.specs.Spelling.{block_spelling}
use Rattle.fs_record.specs.Written.{records_of, transaction}
use Rattle.fs_record.specs.Standing.{IsPlace}
use Rattle.fs_scan.specs.Backs.{HasDataOf}
use Rattle.fs_scan.specs.Present.{AllStand}
use Rattle.fs_store.specs.declared.finding.Record.{Record}
use Rattle.fs_store.specs.declared.file.OpenFile.{OpenFile}
use Rattle.fs_store.specs.declared.settling.Settled.{Settled}
use Rattle.fs_store.specs.Finding.{FoundAt, FoundNone}
use Rattle.fs_store.specs.Fronts.{file_at, front_at, history_at, records_at}
use Rattle.fs_store.specs.Kept.{IsKept}
use Rattle.fs_store.specs.Knowing.{IsKnown}
use Rattle.fs_store.specs.Pointing.{IsDirect, PointsToData}
use Rattle.fs_store.specs.Settled.{SettlesAs}
use Rattle.fs_store.proofs.Loadings.{all_stand}

-- ---- none

no_transactions : History → History
no_transactions h = record { floor = h.floor; transactions = [] }

-- up to 0 there is no transaction
none_upto : (h : History) (oid : ℕ) → IsHistory h → value (upto h 0) oid ≡ None
unfolding no_transactions
none_upto h oid good =
    let first : IsPrefixOf (no_transactions h) h = record { floor = refl; rest = h.transactions; transactions = refl } in
    ap (λ (g : History). value g oid) (upto_stays {p = no_transactions h} {h = h} 0 first good (omega arith))

pub back_to_none : (o : Option Told) (known : OpenFile) (oid t : ℕ) → IsKnown o known → t ≡ 0 → IfSome o (λ told. value_of (records_at told known.end) (Back 0) ≡ value (upto (history_at told known.end) t) oid)
back_to_none None known oid t k e = tt
back_to_none (Some told) known oid t k e =
    rw e (sym (none_upto (history_at told known.end) oid (file_history (file_at told known.end) (front_at told known.end) k.0.file)))

pub back_none : (told : Told) (end oid t : ℕ) → FoundNone told end oid t → value_of (records_at told end) (Back 0) ≡ value (upto (history_at told end) t) oid
back_none told end oid t f = sym (ap value_in f.none)

-- ---- the record that has the data

pub back_data : (told : Told) (end oid t at : ℕ) (found : Record) → FoundAt told end oid t found.place found.head → HasDataOf (content told) (records_at told end) oid found.place at → value_of (records_at told end) (Back at) ≡ value (upto (history_at told end) t) oid
back_data told end oid t at found f (inl none) = rw none.0 (sym none.1 ∙ sym (ap value_in f.newest_is))
back_data told end oid t at found f (inr has) = rw (ne_eqb at 0 (λ e. omega (arith, e, has.0))) (has.3 ∙ sym (ap value_in f.newest_is))

or_right : (a b : Bool) → b ≡ true → (a || b) ≡ true
or_right true b e = refl
or_right false b e = e

pub right_data : (told : Told) (end oid at : ℕ) (found : Record) → HasDataOf (content told) (records_at told end) oid found.place at → is_right_body (rows (records_at told end)) oid (Back at) ≡ true
right_data told end oid at found (inl none) = rw none.0 refl
right_data told end oid at found (inr has) = or_right (at == 0) _ has.2

pub direct_data : (told : Told) (end oid at : ℕ) (found : Record) → HasDataOf (content told) (records_at told end) oid found.place at → IsDirect (content told) (Back at)
direct_data told end oid at found (inl none) = inl none.0
direct_data told end oid at found (inr has) = inr has.1

-- what follows of the place that was found
pub data_there : {E : Type 0} (o given : Option Told) (known : OpenFile) (oid t : ℕ) (found : Record) (r : Result ℕ E) (P : Told → ℕ → Type 0) → given ≡ o → IsKnown o known → IfSome o (λ told. FoundAt told known.end oid t found.place found.head)
    → IfOk r (λ at. IfSome given (λ told. (records : List Earlier) (oid : ℕ) → AllStand (content told) records → IsPlace records oid found.place → 0 < found.place → HasDataOf (content told) records oid found.place at))
    → ((told : Told) (at : ℕ) → FoundAt told known.end oid t found.place found.head → HasDataOf (content told) (records_at told known.end) oid found.place at → P told at) → IfOk r (λ at. IfSome o (λ told. P told at))
data_there o given known oid t found (Err e) P same k f stands to = tt
data_there None given known oid t found (Ok at) P same k f stands to = tt
data_there (Some told) given known oid t found (Ok at) P same k f stands to =
    let there = subst (λ (x : Option Told). IfSome x (λ told. (records : List Earlier) (oid : ℕ) → AllStand (content told) records → IsPlace records oid found.place → 0 < found.place → HasDataOf (content told) records oid found.place at)) same stands in
    to told at f (there (records_at told known.end) oid (all_stand told known k.0) f.is_place f.above)

-- ---- what is written

all_direct : (file : List ℕ) (tid start : ℕ) (items : List Item) → All (λ item. IsDirect file item.body) items → AllByRecursion (λ d. IsDirect file d.body) (records_of tid start items)
all_direct file tid start [] all = tt
all_direct file tid start (i ∷ is) all = (All-head (λ item. IsDirect file item.body) i is all, all_direct file tid start is (All-tail (λ item. IsDirect file item.body) i is all))

written_direct : (t u : Told) (end tid : ℕ) (texts : TxnTexts) (items : List Item) → end ≡ length (content t) → content u ≡ content t ++ block_spelling (transaction end tid 99 texts items) → All (λ item. IsDirect (content t) item.body) items → PointsToData (content u) end
written_direct t u end tid texts items at is direct =
    let piece = block_spelling (transaction end tid 99 texts items) in
    let file : take end (content u) ≡ content t = ap (take end) is ∙ take_at (content t) piece end (sym at) in
    record {
      block = transaction end tid 99 texts items;
      records = records_of tid end items;
      inside = refl;
      spelled = ap (drop end) is ∙ drop_at (content t) piece end (sym at);
      direct = subst (λ (b : List ℕ). AllByRecursion (λ d. IsDirect b d.body) (records_of tid end items)) (sym file) (all_direct (content t) tid end items direct);
    }

pub voted_direct : (o u : Option Told) (k : OpenFile) (limit calls bytes tid : ℕ) (d : Draft) (s : Settled) → IsKept o k limit None calls bytes → IfSome o (λ t. SettlesAs t k.end d s) → Becomes o u (λ file. file ++ block_spelling (transaction k.end tid 99 s.texts s.items)) → IfSome u (λ t. PointsToData (content t) k.end)
voted_direct None None k limit calls bytes tid d s kept settles became = tt
voted_direct None (Some u) k limit calls bytes tid d s kept settles became = absurd became
voted_direct (Some t) None k limit calls bytes tid d s kept settles became = absurd became
voted_direct (Some t) (Some u) k limit calls bytes tid d s kept settles became = written_direct t u k.end tid s.texts s.items (kept.alone refl) became.1 settles.direct
