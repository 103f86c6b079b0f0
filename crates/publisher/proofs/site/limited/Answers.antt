use Rattle.publisher.proofs.site.limited.Goals as goal

pub outcome_of-requires : goal.outcome_of-requires
outcome_of-requires c = rw c.known.ensures (record { lawful = c.requires.holds.rules; once = c.requires.once; progress = c.requires.progress })
