use Rattle.std.proofs.Common.{inr, refl, rules}
use Rattle.backups.specs.Calls.{calls_as, calls_then}
use Rattle.backups.proofs.Filling.{left_numbered, puts_numbered}
use Rattle.backups.proofs.NewPiece.{on_err}
use Rattle.backups.proofs.putting.replace_index.Goals as goal

pub returns-in_err-name-clause-calls : goal.returns-in_err-name-clause-calls
returns-in_err-name-clause-calls g c = calls_as c.in_err-name.ensures.calls (λ f. search rules)

pub returns-in_err-fill_file-clause-left : goal.returns-in_err-fill_file-clause-left
returns-in_err-fill_file-clause-left g c =
    on_err c.from_residual-in_err-fill_file.result _
    (left_numbered (g.F.Shelf.files c.args.files.now) _ _ (g.F.Shelf.files c.fill_file.new.files) c.args.index.now c.as_str-new.result.now _ c.requires.there (search rules) c.in_ok-name.ensures.free c.in_ok-name.ensures.made c.fill_file.ensures.left refl)

pub returns-in_err-fill_file-clause-calls : goal.returns-in_err-fill_file-clause-calls
returns-in_err-fill_file-clause-calls g c =
    calls_then c.create_numbered.ensures.calls (λ s. (c.create_numbered.ensures.calls.sound s, c.in_ok-name.ensures.sound s)) c.in_err-fill_file.ensures.calls (λ f. inr (search rules))

pub returns-in-Ok-clause-put : goal.returns-in-Ok-clause-put
returns-in-Ok-clause-put g c =
    puts_numbered _ _ _ _ c.as_str-new.result.now _ c.args.index.now c.args.text.now (search rules) c.in_ok-name.ensures.free c.in_ok-name.ensures.made c.in_ok-fill_file.ensures.filled c.in-Ok.ensures.replaced

pub returns-in-Err-Failed-clause-left : goal.returns-in-Err-Failed-clause-left
returns-in-Err-Failed-clause-left g c =
    left_numbered _ _ _ _ c.args.index.now c.as_str-new.result.now _ c.requires.there (search rules) c.in_ok-name.ensures.free c.in_ok-name.ensures.made c.fill_file.ensures.left c.in-Err-Failed.ensures.kept

pub returns-in-Err-Missing-clause-left : goal.returns-in-Err-Missing-clause-left
returns-in-Err-Missing-clause-left g c =
    left_numbered _ _ _ _ c.args.index.now c.as_str-new.result.now _ c.requires.there (search rules) c.in_ok-name.ensures.free c.in_ok-name.ensures.made c.fill_file.ensures.left c.in-Err-Missing.ensures.kept

pub returns-in-Err-Memory-clause-left : goal.returns-in-Err-Memory-clause-left
returns-in-Err-Memory-clause-left g c =
    left_numbered _ _ _ _ c.args.index.now c.as_str-new.result.now _ c.requires.there (search rules) c.in_ok-name.ensures.free c.in_ok-name.ensures.made c.fill_file.ensures.left c.in-Err-Memory.ensures.kept
