use Rattle.replay.proofs.Closing.{no_fault}
use Rattle.replay.proofs.PackMaking.{made_fits, made_undamaged, opened_made}
use Rattle.replay.proofs.pack.open_pack.Goals as goal

pub returns-in-Ok-clause-opened : goal.returns-in-Ok-clause-opened
returns-in-Ok-clause-opened c = λ told h end is opens. opened_made told h end c.args.limit c.in-Ok.store _ is opens c.in-Ok.ensures.opened (c.is_sound.ensures.undecided c.in-Ok.ensures.opened.fresh)

pub returns-in-Ok-clause-spends : goal.returns-in-Ok-clause-spends
returns-in-Ok-clause-spends c = c.in-Ok.ensures.calm.arms.spends (λ none. none)

pub unreachable-requires-in-Err-Damaged-default : goal.unreachable-requires-in-Err-Damaged-default
unreachable-requires-in-Err-Damaged-default c =
    let o = c.requires.opens in
    made_undamaged o.0 o.1.1.0 o.1.1.1.0 c.in-Err-Damaged-default.field-0-0-0 c.in-Err-Damaged-default.field-0-0-1 _ o.1.0 o.1.1.1.1 (rw c.in-Err-Damaged-default.field-0-0-is at c.in-Err-Damaged-default.ensures.refused)

pub unreachable-requires-in-Err-TooLong-default : goal.unreachable-requires-in-Err-TooLong-default
unreachable-requires-in-Err-TooLong-default c =
    let o = c.requires.opens in
    made_fits o.0 o.1.1.0 o.1.1.1.0 c.in-Err-TooLong-default.field-0-0-0 _ o.1.0 o.1.1.1.1 (rw c.in-Err-TooLong-default.field-0-0-is at c.in-Err-TooLong-default.ensures.refused)

pub unreachable-requires : goal.unreachable-requires
unreachable-requires c = no_fault _ _ _ c.requires.calm c.in-Err-Disk-default.ensures.counts c.in-Err-Disk-default.field-0-0-is
