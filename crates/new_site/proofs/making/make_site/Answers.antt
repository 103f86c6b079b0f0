use Rattle.std.proofs.Common.{ℕ, ◌<◌, ◌∙◌, List, length, subst, sym, refl}
use Rattle.new_site.specs.SiteLaws.{site_long}
use Rattle.new_site.proofs.Moments.{IsEmpty, begun, not_begun, whole}
use Rattle.new_site.proofs.making.make_site.Goals as goal

pub returns-in_err-bytes-clause-any_moment : goal.returns-in_err-bytes-clause-any_moment
returns-in_err-bytes-clause-any_moment g c =
    not_begun c.args.stamp c.args.name.now c.args.password.now c.one_image.ensures.only (g.D.Disk.told c.args.disk.now) (g.D.Disk.told c.args.disk.now) refl c.requires.empty

pub returns-in_err-reserve-clause-any_moment : goal.returns-in_err-reserve-clause-any_moment
returns-in_err-reserve-clause-any_moment g c =
    not_begun c.args.stamp c.args.name.now c.args.password.now c.one_image.ensures.only (g.D.Disk.told c.args.disk.now) (g.D.Disk.told c.reserve.new.self) c.in_err-reserve.ensures.same c.requires.empty

pub put_file-requires-clause-empty : goal.put_file-requires-clause-empty
put_file-requires-clause-empty g c = subst IsEmpty (sym c.in_ok-reserve.ensures.same) c.requires.empty

pub put_file-requires-clause-long : goal.put_file-requires-clause-long
put_file-requires-clause-long g c =
    subst (λ (piece : List ℕ). 20 < length piece) (sym (c.as_slice.ensures ∙ c.in_ok-bytes.ensures)) (site_long c.args.stamp 99 c.args.name.now c.args.password.now)

pub returns-in_err-put_file-clause-any_moment : goal.returns-in_err-put_file-clause-any_moment
returns-in_err-put_file-clause-any_moment g c =
    begun c.args.stamp c.args.name.now c.args.password.now (g.D.Disk.told c.args.disk.now) (g.D.Disk.told c.reserve.new.self) (g.D.Disk.told c.put_file.new.disk) c.as_slice.result.now
    c.in_ok-reserve.ensures.same (c.as_slice.ensures ∙ c.in_ok-bytes.ensures) c.in_err-put_file.ensures.any_moment

pub returns-clause-made : goal.returns-clause-made
returns-clause-made g c =
    whole c.args.stamp c.args.name.now c.args.password.now (g.D.Disk.told c.args.disk.now) (g.D.Disk.told c.reserve.new.self) (g.D.Disk.told c.put_file.new.disk) c.as_slice.result.now
    c.in_ok-reserve.ensures.same (c.as_slice.ensures ∙ c.in_ok-bytes.ensures) c.in_ok-put_file.ensures.put

pub returns-clause-any_moment : goal.returns-clause-any_moment
returns-clause-any_moment g c =
    begun c.args.stamp c.args.name.now c.args.password.now (g.D.Disk.told c.args.disk.now) (g.D.Disk.told c.reserve.new.self) (g.D.Disk.told c.put_file.new.disk) c.as_slice.result.now
    c.in_ok-reserve.ensures.same (c.as_slice.ensures ∙ c.in_ok-bytes.ensures) c.in_ok-put_file.ensures.any_moment
