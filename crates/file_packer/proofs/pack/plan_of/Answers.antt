use Rattle.std.proofs.Common.{◌≡◌, ◌≤◌, ◌∙◌, Err, IfSome, ap, length, rules}
use Rattle.std.proofs.lemmas.Result.{err_from_is_err_and}
use Rattle.zdisk.specs.Disk.{content}
use Rattle.fs_record.specs.declared.layout.TheConstants.{MAX_LENGTH}
use Rattle.fs_pack.specs.declared.refusal.PackRefusal.{PackRefusal}
use Rattle.file_packer.specs.Making.{PlanCause}
use Rattle.file_packer.specs.Refusals.{of_pack}
use Rattle.file_packer.proofs.Planned.{plan_cause}
use Rattle.file_packer.proofs.Shelving.{on_refusal}
use Rattle.file_packer.proofs.pack.plan_of.Goals as goal

pub returns-in_err-plan-clause-cause : goal.returns-in_err-plan-clause-cause
returns-in_err-plan-clause-cause g c =
    let p = err_from_is_err_and c.from_residual-in_err-plan.result c.from_residual-in_err-plan.ensures.1 in
    let e = c.in_err-plan.field-0.0 in
    let told = g.D.Disk.told in
    let long : IfSome (told c.args.disk.now) (λ d. c.in_ok-len.len ≡ length (content d)) = search rules in
    let le : c.in_ok-len.len ≤ MAX_LENGTH = search rules in
    let why = c.in_err-plan.ensures in
    on_refusal c.from_residual-in_err-plan.result (of_pack e) (PlanCause g.L.Links.linked c.args.before (told c.args.disk.now)) (p.1 ∙ ap (λ k. Err k) p.2)
    (plan_cause g.L.Links.linked c.args.before c.in_ok-len.len (told c.args.disk.now) (told c.len.new.self) e c.len.ensures.same long le
    (λ kind place is. why.damaged kind place (ap (λ (k : PackRefusal). Err k) is))
    (λ o is. why.unreadable o (ap (λ (k : PackRefusal). Err k) is))
    (λ need most is. why.full need most (ap (λ (k : PackRefusal). Err k) is)))
