use Rattle.std.proofs.Common.{◌∙◌, ap, ap₂}
use Rattle.std.proofs.lemmas.Result.{IfOk-weaker}
use Rattle.clap.specs.Words.{App, with_subcommand}
use Rattle.words.proofs.command_line.zope.Goals as goal

pub returns : goal.returns
returns c =
    let e1 = c.in_ok-subcommand.ensures.shape c.in_ok-init.ensures.globals ∙ ap₂ with_subcommand c.bare.ensures (ap (λ (a : App). a.top) c.in_ok-init.ensures.app) in
    let e2 = c.in_ok-subcommand-2.ensures.shape c.in_ok-over_schedule.ensures.globals ∙ ap₂ with_subcommand e1 (ap (λ (a : App). a.top) c.in_ok-over_schedule.ensures.app) in
    let e3 = c.in_ok-subcommand-3.ensures.shape c.in_ok-serve.ensures.globals ∙ ap₂ with_subcommand e2 (ap (λ (a : App). a.top) c.in_ok-serve.ensures.app) in
    let e4 = c.in_ok-subcommand-4.ensures.shape c.in_ok-over_file.ensures.globals ∙ ap₂ with_subcommand e3 (ap (λ (a : App). a.top) c.in_ok-over_file.ensures.app) in
    let e5 = c.in_ok-subcommand-5.ensures.shape c.in_ok-over_file-2.ensures.globals ∙ ap₂ with_subcommand e4 (ap (λ (a : App). a.top) c.in_ok-over_file-2.ensures.app) in
    let e6 = c.in_ok-subcommand-6.ensures.shape c.in_ok-backup.ensures.globals ∙ ap₂ with_subcommand e5 (ap (λ (a : App). a.top) c.in_ok-backup.ensures.app) in
    let e7 = c.in_ok-subcommand-7.ensures.shape c.in_ok-restore.ensures.globals ∙ ap₂ with_subcommand e6 (ap (λ (a : App). a.top) c.in_ok-restore.ensures.app) in
    let e8 = c.in_ok-subcommand-8.ensures.shape c.in_ok-pack.ensures.globals ∙ ap₂ with_subcommand e7 (ap (λ (a : App). a.top) c.in_ok-pack.ensures.app) in
    let e9 = c.in_ok-subcommand-9.ensures.shape c.in_ok-over_schedule-2.ensures.globals ∙ ap₂ with_subcommand e8 (ap (λ (a : App). a.top) c.in_ok-over_schedule-2.ensures.app) in
    IfOk-weaker c.subcommand-10.result _ _ (λ r a. a.shape c.in_ok-drawn.ensures.globals ∙ ap₂ with_subcommand e9 (ap (λ (a : App). a.top) c.in_ok-drawn.ensures.app)) c.subcommand-10.ensures
