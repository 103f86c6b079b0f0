use Rattle.std.proofs.Common.{◌∷◌, ◌++◌, [], ap, sym, ◌∙◌}
use Rattle.evaluator.specs.declared.fact.LogRow.{LogRow}
use Rattle.fs_store.specs.Parts.{row_of}
use Rattle.fs_store.proofs.Tellings.{always, on_told}
use Rattle.fs_store.proofs.Walking.{AddsRow, adds_none, adds_one, no_texts, the_row}
use Rattle.fs_store.proofs.logging.add_row.Goals as goal

pub returns-then-not-is_logged-clause-added : goal.returns-then-not-is_logged-clause-added
returns-then-not-is_logged-clause-added g c =
    always (g.D.Disk.told c.args.disk.now) (λ told. AddsRow told c.args.txn.now.place c.args.txn.now.head c.args.span.now.floor c.args.span.now.at c.args.rows.now c.args.rows.now)
    (λ told b more s is. adds_none c.args.rows.now _ (row_of b) (sym c.is_logged.ensures ∙ c.if-not-is_logged.true))

pub returns-in_default-clause-added : goal.returns-in_default-clause-added
returns-in_default-clause-added g c =
    on_told (g.D.Disk.told c.args.disk.now) _ (λ told. AddsRow told c.args.txn.now.place c.args.txn.now.head c.args.span.now.floor c.args.span.now.at c.args.rows.now c.args.rows.now) (λ told t b more s is. no_texts b (t b more s is)) (rw c.in_default.is at c.in_ok-texts.ensures.texts)

pub returns-clause-added : goal.returns-clause-added
returns-clause-added g c =
    on_told (g.D.Disk.told c.args.disk.now) _ (λ told. AddsRow told c.args.txn.now.place c.args.txn.now.head c.args.span.now.floor c.args.span.now.at c.args.rows.now c.push.new.self)
    (λ told t b more s is. adds_one c.args.rows.now c.push.new.self _ (row_of b) (sym c.is_logged.ensures ∙ c.if-not-is_logged.false)
    (c.in_ok-push.ensures.ok ∙ ap (λ (r : LogRow). c.args.rows.now ++ r ∷ []) (the_row b c.args.txn.now.head c.in-Some.texts is (t b more s is)))) (rw c.in-Some.is at c.in_ok-texts.ensures.texts)
