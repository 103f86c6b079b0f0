-- What a recorded file tells.
use Rattle.zdisk.specs.Disk.{Told}
use Rattle.zdisk.specs.Recorded.{Buffer, told_by}
use Rattle.zdisk.specs.declared.recorded.RecordedFile.{RecordedFile}

abbrev pub buffer_of : RecordedFile → Buffer
buffer_of file = record { bytes = file.bytes.items; len = file.len; covered = file.covered.items }

abbrev pub told_in : RecordedFile → Told
told_in file = told_by (buffer_of file) file.entries.items
