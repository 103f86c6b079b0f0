-- What the words ask for, without where it lies in memory.
use Rattle.words.specs.Asking as asking
use Rattle.words.specs.declared.asking.Asked.{Asked}
use Rattle.words.specs.declared.asking.Asked.TheVariants.{Backup, Check, Dump, Gen, Init, Pack, Replay, Restore, Serial, Serve}

abbrev pub view : Asked → asking.Asked
view (Init file name password) = asking.Init file.now name.now password.now
view (Replay file limit) = asking.Replay file.now limit
view (Serve file port connections clients record_) = asking.Serve file.now port connections clients record_.now
view (Check file) = asking.Check file.now
view (Dump file) = asking.Dump file.now
view (Backup file repo full) = asking.Backup file.now repo.now full
view (Restore repo out) = asking.Restore repo.now out.now
view (Pack file before) = asking.Pack file.now before
view (Serial file limit) = asking.Serial file.now limit
view (Gen number) = asking.Gen number
