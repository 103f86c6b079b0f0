use Rattle.std.proofs.Common.{◌≡◌, ◌++◌, List, ℕ, Option, refl, sym, ap, subst, ◌∙◌}
use Rattle.zdisk.specs.Crashes.{IsTorn, LeavesFrom}
use Rattle.zdisk.specs.Disk.{Told, content}
use Rattle.fs_record.specs.Spelling.{block_spelling}
use Rattle.fs_record.specs.Written.{transaction}
use Rattle.fs_store.proofs.Images.{one_image, torn_nothing, unmoved}
use Rattle.fs_store.proofs.voting.write_behind.Goals as goal

pub returns-in_err-write_txn-clause-any_moment : goal.returns-in_err-write_txn-clause-any_moment
returns-in_err-write_txn-clause-any_moment g c =
    let piece = block_spelling (transaction c.args.end c.args.tid 99 c.args.texts.now c.args.items.now) in
    let o = g.D.Disk.told c.args.disk.now in
    unmoved o o (λ file image. IsTorn file piece image) refl (λ s is image of. subst (IsTorn (content s) piece) (sym (one_image s.now image (c.requires.synced s is).0 of)) (torn_nothing (content s) piece))

pub returns-in_err-reserve-clause-any_moment : goal.returns-in_err-reserve-clause-any_moment
returns-in_err-reserve-clause-any_moment g c =
    let piece = block_spelling (transaction c.args.end c.args.tid 99 c.args.texts.now c.args.items.now) in
    let o = g.D.Disk.told c.args.disk.now in
    unmoved o (g.D.Disk.told c.reserve.new.self) (λ file image. IsTorn file piece image) c.in_err-reserve.ensures.same (λ s is image of. subst (IsTorn (content s) piece) (sym (one_image s.now image (c.requires.synced s is).0 of)) (torn_nothing (content s) piece))

pub append_and_sync-requires-clause-synced : goal.append_and_sync-requires-clause-synced
append_and_sync-requires-clause-synced g c = λ s is. c.requires.synced s (sym c.in_ok-reserve.ensures.same ∙ is)

moved_on : (given told after : Option Told) (bytes piece : List ℕ) → given ≡ told → bytes ≡ piece → LeavesFrom given after (λ file image. IsTorn file bytes image) → LeavesFrom told after (λ file image. IsTorn file piece image)
moved_on given told after bytes piece same is all =
    subst (λ (x : Option Told). LeavesFrom x after (λ file image. IsTorn file piece image)) same (subst (λ (p : List ℕ). LeavesFrom given after (λ file image. IsTorn file p image)) is all)

pub returns-in_err-append_and_sync-clause-any_moment : goal.returns-in_err-append_and_sync-clause-any_moment
returns-in_err-append_and_sync-clause-any_moment g c =
    let piece = block_spelling (transaction c.args.end c.args.tid 99 c.args.texts.now c.args.items.now) in
    let bytes = c.as_slice.ensures ∙ c.in_ok-write_txn.ensures.ok ∙ ap (λ (x : List ℕ). x ++ piece) c.new-piece.ensures in
    moved_on _ (g.D.Disk.told c.args.disk.now) _ c.as_slice.result.now piece c.in_ok-reserve.ensures.same bytes c.in_err-append_and_sync.ensures.any_moment

pub returns-clause-any_moment : goal.returns-clause-any_moment
returns-clause-any_moment g c =
    let piece = block_spelling (transaction c.args.end c.args.tid 99 c.args.texts.now c.args.items.now) in
    let bytes = c.as_slice.ensures ∙ c.in_ok-write_txn.ensures.ok ∙ ap (λ (x : List ℕ). x ++ piece) c.new-piece.ensures in
    moved_on _ (g.D.Disk.told c.args.disk.now) _ c.as_slice.result.now piece c.in_ok-reserve.ensures.same bytes c.in_ok-append_and_sync.ensures.any_moment
