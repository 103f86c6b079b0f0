use Rattle.std.proofs.Common.{List, ℕ, Some, subst, sym, arith}
use Rattle.fs_record.specs.declared.body.Body.TheVariants.{Full}
use Rattle.fs_scan.proofs.BodiesRead.{HasBody, no_body, no_room, reads_back, reads_full}
use Rattle.fs_scan.proofs.following.body_behind.Goals as goal
use Rattle.fs_scan.proofs.following.body_behind.Goals.{then-head-eq0, else-head-eq0}

pub returns-then-left-clause-body : goal.returns-then-left-clause-body
returns-then-left-clause-body g c = no_body (g.D.Disk.told c.args.disk.now) c.args.len c.args.at c.saturating_sub-left.result c.args.head.now c.requires (omega (arith, c.saturating_sub-left.ensures)) (omega (arith, c.if-left.true))

pub returns-then-left-size-clause-body : goal.returns-then-left-size-clause-body
returns-then-left-size-clause-body g c =
    no_room (g.D.Disk.told c.args.disk.now) c.args.len c.args.at c.saturating_sub-left.result c.if-head-eq0.size c.args.head.now c.requires (omega (arith, c.saturating_sub-left.ensures))
    (λ none. elim c.if-head-eq0.branch [
      | then-head-eq0 w ↦ w.size-is
      | else-head-eq0 w ↦ absurd (w.if-head-eq0.false none)
    ])
    (λ some. elim c.if-head-eq0.branch [
      | then-head-eq0 w ↦ absurd (some w.if-head-eq0.true)
      | else-head-eq0 w ↦ w.size-is
    ])
    (omega (arith, c.if-left-size.true))

pub returns-then-head-eq0-2-clause-body : goal.returns-then-head-eq0-2-clause-body
returns-then-head-eq0-2-clause-body g c =
    reads_back (g.D.Disk.told c.args.disk.now) c.args.at c.if-head-eq0.size c.args.head.now c.in_ok-behind.behind.items c.u64_at.result c.in_ok-behind.ensures.bytes c.if-head-eq0-2.true
    (elim c.if-head-eq0.branch [
      | then-head-eq0 w ↦ w.size-is
      | else-head-eq0 w ↦ absurd (w.if-head-eq0.false c.if-head-eq0-2.true)
    ])
    (rw c.deref.ensures.value at c.u64_at.ensures) c.u64_at.type_inv

pub returns-clause-body : goal.returns-clause-body
returns-clause-body g c =
    subst (λ (bytes : List ℕ). HasBody (g.D.Disk.told c.args.disk.now) c.args.at c.args.head.now (Some (Full bytes))) (sym c.from_vec.ensures)
    (reads_full (g.D.Disk.told c.args.disk.now) c.args.at c.if-head-eq0.size c.args.head.now c.in_ok-behind.behind.items c.in_ok-behind.ensures.bytes c.if-head-eq0-2.false
    (elim c.if-head-eq0.branch [
      | then-head-eq0 w ↦ absurd (c.if-head-eq0-2.false w.if-head-eq0.true)
      | else-head-eq0 w ↦ w.size-is
    ]))
