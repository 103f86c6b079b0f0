use Rattle.std.proofs.Common.{List, All, ◌∙◌, sym, subst, arith}
use Rattle.fs_record.specs.Spelling.{block_spelling}
use Rattle.fs_record.specs.Written.{HasBody, transaction}
use Rattle.fs_record.specs.declared.body.Item.{Item}
use Rattle.fs_record.specs.declared.body.TxnTexts.{TxnTexts}
use Rattle.new_site.specs.NewSite.{items, texts}
use Rattle.new_site.specs.SiteLaws.{site_bodies, site_fits}
use Rattle.new_site.proofs.making.file_with.Goals as goal

pub write_txn-requires-clause-bodies : goal.write_txn-requires-clause-bodies
write_txn-requires-clause-bodies c =
    subst (λ (all : List Item). All HasBody all) (sym (c.as_slice.ensures ∙ c.in_ok-items.ensures)) (site_bodies c.args.name.now c.args.password.now)

pub write_txn-requires-clause-fits : goal.write_txn-requires-clause-fits
write_txn-requires-clause-fits c =
    let is = c.as_slice.ensures ∙ c.in_ok-items.ensures in
    rw is (rw c.new.ensures (rw c.new-2.ensures (rw c.in_ok-from_slice.ensures (omega (arith, site_fits c.args.stamp c.args.status c.args.name.now c.args.password.now c.requires.name)))))
