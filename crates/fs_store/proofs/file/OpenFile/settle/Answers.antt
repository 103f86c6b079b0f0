use Rattle.std.proofs.Common.{List, IfSome, sym, ap₂, subst, ◌∙◌}
use Rattle.fs_record.specs.declared.body.Item.{Item}
use Rattle.fs_record.specs.declared.body.TxnTexts.{TxnTexts}
use Rattle.fs_store.specs.declared.settling.Settled.{Settled}
use Rattle.fs_store.specs.Settled.{IsSettled, SettlesAs}
use Rattle.fs_store.proofs.InOrder.{is_settled, settles}
use Rattle.fs_store.proofs.Tellings.{on_both}
use Rattle.fs_store.proofs.file.OpenFile.settle.Goals as goal

abbrev with : TxnTexts → List Item → Settled
with texts items = record { texts = texts; items = items }

pub returns-clause-settles : goal.returns-clause-settles
returns-clause-settles g c =
    let o = g.D.Disk.told c.args.disk.now in
    let d = c.args.draft in
    let same = ap₂ with c.in_ok-texts.ensures (c.from_vec.ensures ∙ c.in_ok-items-2.ensures) in
    subst (λ (s : Settled). IfSome o (λ told. SettlesAs told c.args.self.now.end d s)) (sym same)
    (on_both o _ _ _ (λ told a direct. settles told c.args.self.now.end d c.in_ok-items.items.items a direct) c.in_ok-items.ensures.are c.in_ok-items.ensures.direct)

pub returns-clause-settled : goal.returns-clause-settled
returns-clause-settled g c =
    let d = c.args.draft in
    let same = ap₂ with c.in_ok-texts.ensures (c.from_vec.ensures ∙ c.in_ok-items-2.ensures) in
    subst (IsSettled d) (sym same) (is_settled d c.in_ok-items.items.items c.in_ok-items.ensures.bodies c.in_ok-items.ensures.size)
