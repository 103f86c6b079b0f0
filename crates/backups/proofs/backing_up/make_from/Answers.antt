use Rattle.std.proofs.Common.{◌≡◌, ◌≤◌, Option, length, rules, subst}
use Rattle.std.specs.Prelude.{IfSome}
use Rattle.zdisk.specs.Disk.{Told, content}
use Rattle.fs_record.specs.declared.layout.TheConstants.{MAX_LENGTH}
use Rattle.fs_record.specs.Opening.{Damaged}
use Rattle.backups.specs.BackedUp.{Fits}
use Rattle.backups.specs.Putting.{SpendsDue}
use Rattle.backups.proofs.Backing.{fits_read, fits_told, if_with}
use Rattle.backups.proofs.Planning.{calls_before}
use Rattle.backups.proofs.backing_up.make_from.Goals as goal

pub returns-clause-spent : goal.returns-clause-spent
returns-clause-spent g c = λ f bytes reads.
    (let told = g.F.D.Disk.told c.args.file.now in
    let long : IfSome told (λ t. c.in_ok-len.len ≡ length (content t)) = search rules in
    let le : c.in_ok-len.len ≤ MAX_LENGTH = search rules in
    if_with (g.F.Shelf.files c.args.files.now) (Fits bytes) (λ all. SpendsDue all c.args.repo.now c.args.index.now c.args.full bytes) (fits_read told c.in_ok-len.len bytes long le reads) (c.make_next.ensures.spent f bytes (search rules)))

pub returns-clause-damaged : goal.returns-clause-damaged
returns-clause-damaged g c = λ kind place f.
    (let told = g.F.D.Disk.told c.args.file.now in
    let long : IfSome told (λ t. c.in_ok-len.len ≡ length (content t)) = search rules in
    let le : c.in_ok-len.len ≤ MAX_LENGTH = search rules in
    fits_told told c.in_ok-len.len (λ bytes. Damaged bytes place kind) long le (subst (λ (o : Option Told). IfSome o (λ t. Damaged (content t) place kind)) (search rules) (c.make_next.ensures.damaged kind place f)))

pub returns-clause-calls : goal.returns-clause-calls
returns-clause-calls g c = calls_before c.make_next.ensures.calls (λ x. (c.len.ensures.counts.calm x).0)
