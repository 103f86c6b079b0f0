use Rattle.std.proofs.Common.{◌≡◌, ℕ, ◌+◌, ◌≤◌, ◌++◌, Option, Result, Ok, Err, List, length, sym, ap, subst, ◌∙◌, arith}
use Rattle.std.specs.Prelude.{All, OnErr}
use Rattle.zdisk.specs.Crashes.{Becomes, LeavesFrom}
use Rattle.zdisk.specs.Disk.{Told}
use Rattle.fs_index.specs.Places.{HasRoom}
use Rattle.fs_record.specs.declared.body.Item.{Item}
use Rattle.fs_record.specs.declared.body.TxnTexts.{TxnTexts}
use Rattle.fs_record.specs.FileReading.{status_at}
use Rattle.fs_record.specs.Spelling.{block_spelling}
use Rattle.fs_record.specs.Written.{IsWritable, transaction}
use Rattle.evaluator.specs.declared.draft.Draft.{Draft}
use Rattle.fs_store.specs.declared.file.OpenFile.{OpenFile}
use Rattle.fs_store.specs.declared.settling.Settled.{Settled}
use Rattle.fs_store.specs.Settled.{IsSettled}
use Rattle.fs_store.specs.Stores.{most_length}
use Rattle.fs_store.specs.Verdicts.{IsFree}
use Rattle.fs_store.proofs.Files.{fits_limit, long_settled, piece_fits, still_opens, torn_history, torn_opens, torn_read, voted_kept, voted_out_is}
use Rattle.fs_store.proofs.Fitting.{fits_draft}
use Rattle.fs_store.proofs.PutBack.{voted_direct}
use Rattle.fs_store.proofs.Unsettling.{still_unsettled, torn_unsettled}
use Rattle.fs_store.proofs.file.OpenFile.wait_on.Goals as goal

pub settle-requires-clause-fits : goal.settle-requires-clause-fits
settle-requires-clause-fits g c = fits_draft c.args.self.now.last c.args.self.now.next c.args.self.now.end c.args.limit c.args.draft c.requires.rules c.requires.free

pub returns-in_err-texts-clause-any_moment : goal.returns-in_err-texts-clause-any_moment
returns-in_err-texts-clause-any_moment g c = still_opens _ _ c.args.self.now _ _ _ c.in_err-texts.ensures.only_reads.same c.requires.kept

pub returns-in_err-reserve_all-clause-any_moment : goal.returns-in_err-reserve_all-clause-any_moment
returns-in_err-reserve_all-clause-any_moment g c = still_opens _ _ c.args.self.now _ _ _ c.in_ok-texts.ensures.only_reads.same c.requires.kept

pub write_behind-requires-clause-fits : goal.write_behind-requires-clause-fits
write_behind-requires-clause-fits g c =
    let within = fits_limit c.args.self.now c.args.limit c.args.draft c.requires.limit c.requires.free in
    let long = ap (λ (is : List Item). length (block_spelling (transaction c.args.self.now.end c.args.tid 99 c.in_ok-texts.field-0.texts is))) c.as_slice-2.ensures ∙ long_settled c.args.self.now.end c.args.tid 99 c.args.draft c.in_ok-texts.field-0 c.in_ok-texts.ensures.settled in
    omega (arith, within, long, c.requires.limit)

-- with the record that is written the file isn't longer than a file may be
fits_too : (k : OpenFile) (limit tid : ℕ) (d : Draft) (s : Settled) (items : List Item) → items ≡ s.items → limit ≤ most_length → IsFree k.last k.next k.end limit d → IsSettled d s → k.end + length (block_spelling (transaction k.end tid 99 s.texts items)) ≤ most_length
fits_too k limit tid d s items same most free settled =
    subst (λ (is : List Item). k.end + length (block_spelling (transaction k.end tid 99 s.texts is)) ≤ most_length) (sym same) (piece_fits k limit tid 99 d s most free settled)

moved : (given o u : Option Told) (P : List ℕ → List ℕ → Type 0) → given ≡ o → LeavesFrom given u P → LeavesFrom o u P
moved given o u P same all = subst (λ (x : Option Told). LeavesFrom x u P) same all

became : (given o u : Option Told) (start tid : ℕ) (texts : TxnTexts) (is items : List Item) → given ≡ o → is ≡ items → Becomes given u (λ file. file ++ block_spelling (transaction start tid 99 texts is)) → Becomes o u (λ file. file ++ block_spelling (transaction start tid 99 texts items))
became given o u start tid texts is items same e b =
    subst (λ (x : Option Told). Becomes x u (λ file. file ++ block_spelling (transaction start tid 99 texts items))) same
    (subst (λ (l : List Item). Becomes given u (λ file. file ++ block_spelling (transaction start tid 99 texts l))) e b)

pub returns-in_err-write_behind-clause-history : goal.returns-in_err-write_behind-clause-history
returns-in_err-write_behind-clause-history g c = torn_history _ _ c.args.self.now _ _ _ _ c.requires.kept (moved _ _ _ _ c.in_ok-texts.ensures.only_reads.same c.in_err-write_behind.ensures.any_moment)

pub returns-in_err-write_behind-clause-read : goal.returns-in_err-write_behind-clause-read
returns-in_err-write_behind-clause-read g c = λ oid s seen. torn_read _ _ c.args.self.now _ _ _ _ oid s c.requires.kept (moved _ _ _ _ c.in_ok-texts.ensures.only_reads.same c.in_err-write_behind.ensures.any_moment) seen

pub returns-in_err-write_behind-clause-any_moment : goal.returns-in_err-write_behind-clause-any_moment
returns-in_err-write_behind-clause-any_moment g c =
    torn_opens _ _ c.args.self.now _ _ _ _ (status_at c.args.self.now.end c.args.tid 99 c.in_ok-texts.field-0.texts c.as_slice-2.result.now)
    (fits_too c.args.self.now c.args.limit c.args.tid c.args.draft c.in_ok-texts.field-0 c.as_slice-2.result.now c.as_slice-2.ensures c.requires.limit c.requires.free c.in_ok-texts.ensures.settled) c.requires.kept (moved _ _ _ _ c.in_ok-texts.ensures.only_reads.same c.in_err-write_behind.ensures.any_moment)

pub returns-clause-any_moment : goal.returns-clause-any_moment
returns-clause-any_moment g c =
    torn_opens _ _ c.args.self.now _ _ _ _ (status_at c.args.self.now.end c.args.tid 99 c.in_ok-texts.field-0.texts c.as_slice-2.result.now)
    (fits_too c.args.self.now c.args.limit c.args.tid c.args.draft c.in_ok-texts.field-0 c.as_slice-2.result.now c.as_slice-2.ensures c.requires.limit c.requires.free c.in_ok-texts.ensures.settled) c.requires.kept (moved _ _ _ _ c.in_ok-texts.ensures.only_reads.same c.in_ok-write_behind.ensures.any_moment)

pub returns-clause-history : goal.returns-clause-history
returns-clause-history g c = torn_history _ _ c.args.self.now _ _ _ _ c.requires.kept (moved _ _ _ _ c.in_ok-texts.ensures.only_reads.same c.in_ok-write_behind.ensures.any_moment)

pub returns-clause-read : goal.returns-clause-read
returns-clause-read g c = λ oid s seen. torn_read _ _ c.args.self.now _ _ _ _ oid s c.requires.kept (moved _ _ _ _ c.in_ok-texts.ensures.only_reads.same c.in_ok-write_behind.ensures.any_moment) seen

pub returns-clause-kept : goal.returns-clause-kept
returns-clause-kept g c =
    let k = c.args.self.now in
    let s = c.in_ok-texts.field-0 in
    let e = c.in_ok-texts.ensures in
    let w = c.in_ok-write_behind.ensures in
    let room = subst (λ (is : List Item). All (λ item. HasRoom c.reserve_all.new.index item.oid) is) c.as_slice.ensures c.in_ok-reserve_all.ensures.room in
    let writable = subst (λ (is : List Item). IsWritable k.end c.args.tid 99 s.texts is) c.as_slice-2.ensures w.writable in
    voted_kept (g.D.Disk.told c.args.disk.now) (g.D.Disk.told c.write_behind.new.disk) k c.reserve_all.new.index c.saturating_add-self.result c.args.limit _ _ _ _ c.args.holder c.args.tid c.size_of-size.result c.args.draft s
    c.requires.limit c.requires.kept c.requires.free c.requires.later e.settles e.settled c.in_ok-reserve_all.ensures.places room writable c.size_of-size.ensures c.saturating_add-self.ensures w.spare.0 w.spare.1
    (became _ _ _ k.end c.args.tid s.texts c.as_slice-2.result.now s.items e.only_reads.same c.as_slice-2.ensures w.written)

pub returns-clause-waits : goal.returns-clause-waits
returns-clause-waits g c =
    let k = c.args.self.now in
    let s = c.in_ok-texts.field-0 in
    let e = c.in_ok-texts.ensures in
    voted_out_is (g.D.Disk.told c.args.disk.now) (g.D.Disk.told c.write_behind.new.disk) k c.args.limit _ _ c.args.holder c.args.tid c.size_of-size.result c.args.draft s
    c.requires.limit c.requires.kept c.requires.free e.settles c.size_of-size.ensures
    (became _ _ _ k.end c.args.tid s.texts c.as_slice-2.result.now s.items e.only_reads.same c.as_slice-2.ensures c.in_ok-write_behind.ensures.written)

on_err : {T E : Type 0} (r : Result T E) (P : Type 0) → P → OnErr r P
on_err (Ok x) P p = tt
on_err (Err e) P p = p

pub returns-in_err-texts-clause-unsettled : goal.returns-in_err-texts-clause-unsettled
returns-in_err-texts-clause-unsettled g c = on_err c.from_residual.result _ (still_unsettled _ _ c.args.self.now _ _ _ c.in_err-texts.ensures.only_reads.same c.requires.kept)

pub returns-in_err-reserve_all-clause-unsettled : goal.returns-in_err-reserve_all-clause-unsettled
returns-in_err-reserve_all-clause-unsettled g c = on_err c.from_residual-in_err-reserve_all.result _ (still_unsettled _ _ c.args.self.now _ _ _ c.in_ok-texts.ensures.only_reads.same c.requires.kept)

pub returns-in_err-write_behind-clause-unsettled : goal.returns-in_err-write_behind-clause-unsettled
returns-in_err-write_behind-clause-unsettled g c =
    on_err c.from_residual-in_err-write_behind.result _ (torn_unsettled _ _ c.args.self.now _ _ _ _ (status_at c.args.self.now.end c.args.tid 99 c.in_ok-texts.field-0.texts c.as_slice-2.result.now)
    (fits_too c.args.self.now c.args.limit c.args.tid c.args.draft c.in_ok-texts.field-0 c.as_slice-2.result.now c.as_slice-2.ensures c.requires.limit c.requires.free c.in_ok-texts.ensures.settled) c.requires.kept (moved _ _ _ _ c.in_ok-texts.ensures.only_reads.same c.in_err-write_behind.ensures.any_moment))

pub returns-clause-direct : goal.returns-clause-direct
returns-clause-direct g c =
    let k = c.args.self.now in
    let s = c.in_ok-texts.field-0 in
    let e = c.in_ok-texts.ensures in
    voted_direct (g.D.Disk.told c.args.disk.now) (g.D.Disk.told c.write_behind.new.disk) k _ _ _ c.args.tid c.args.draft s c.requires.kept e.settles
    (became _ _ _ k.end c.args.tid s.texts c.as_slice-2.result.now s.items e.only_reads.same c.as_slice-2.ensures c.in_ok-write_behind.ensures.written)
