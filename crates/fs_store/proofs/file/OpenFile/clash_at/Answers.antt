use Rattle.std.proofs.Common.{◌≡◌, IfSome, Option, Some, None, sym, ap, subst, ◌∙◌}
use Rattle.fs_record.specs.declared.heads.DataHead.{DataHead}
use Rattle.fs_store.specs.Fronts.{history_at}
use Rattle.fs_store.specs.Verdicts.{clash_at}
use Rattle.fs_store.proofs.Clashes.{clash_here, no_clash, some_head}
use Rattle.fs_store.proofs.Tellings.{on_both, on_three}
use Rattle.fs_store.proofs.WayBack.{Tells}
use Rattle.fs_store.proofs.file.OpenFile.clash_at.Goals as goal

pub returns-then-place-seen-clause-clash : goal.returns-then-place-seen-clause-clash
returns-then-place-seen-clause-clash g c =
    on_both (g.D.Disk.told c.args.disk.now) _ _ (λ told. None ≡ clash_at (history_at told c.args.self.now.end) c.args.seen.now)
    (λ told k s. no_clash told c.args.self.now c.args.seen.now k.0 s (sym c.place-place.ensures ∙ c.if-place-seen.true)) c.requires.known c.requires.seen

pub returns-in-Some-clause-clash : goal.returns-in-Some-clause-clash
returns-in-Some-clause-clash g c =
    let o = g.D.Disk.told c.args.disk.now in
    let tells = subst (λ (h : Option DataHead). IfSome o (λ told. Tells told c.place-place.result h)) c.in-Some.is c.in_ok-head.ensures.head in
    on_three o _ _ _ (λ told. Some c.clash_with.result ≡ clash_at (history_at told c.args.self.now.end) c.args.seen.now)
    (λ told k s t. ap (λ x. Some x) c.clash_with.ensures ∙ clash_here told c.args.self.now c.args.seen.now c.place-place.result c.in-Some.head k.0 s c.place-place.ensures (λ e. c.if-place-seen.false e) t) c.requires.known c.requires.seen tells

pub returns-in-None-clause-clash : goal.returns-in-None-clause-clash
returns-in-None-clause-clash g c =
    let o = g.D.Disk.told c.args.disk.now in
    let tells = subst (λ (h : Option DataHead). IfSome o (λ told. Tells told c.place-place.result h)) c.in-None.is c.in_ok-head.ensures.head in
    on_three o _ _ _ (λ told. Some c.clash_with-in-None.result ≡ clash_at (history_at told c.args.self.now.end) c.args.seen.now)
    (λ told k s t. some_head told c.args.self.now c.args.seen.now c.place-place.result k.0 s c.place-place.ensures (λ e. c.if-place-seen.false e) t) c.requires.known c.requires.seen tells
