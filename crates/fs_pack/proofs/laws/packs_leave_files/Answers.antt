use Rattle.fs_pack.specs.EntryLaws.{packed_file, packed_size}
use Rattle.fs_pack.proofs.laws.packs_leave_files.Goals as goal

pub returns-clause-file : goal.returns-clause-file
returns-clause-file c blocks keep t right short = packed_file blocks keep t right short

pub returns-clause-size : goal.returns-clause-size
returns-clause-size c blocks keep t = packed_size blocks keep t
