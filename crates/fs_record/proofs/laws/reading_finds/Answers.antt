use Rattle.fs_record.specs.ReadingLaws.{block_both, no_block_both, cut_both, damaged_both}
use Rattle.fs_record.proofs.laws.reading_finds.Goals as goal

pub returns : goal.returns
returns c = record { block = block_both; no_block = no_block_both; cut = cut_both; damaged = damaged_both }
