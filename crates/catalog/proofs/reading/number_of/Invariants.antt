use Rattle.std.proofs.Common.{◌≡◌, drop}
use Rattle.catalog.specs.Reading.{number_from}
use Rattle.catalog.proofs.reading.number_of.Given as goal

abbrev pub invariant-loop-digit : goal.invariant-loop-digit
invariant-loop-digit l = number_from l.number (drop l.digit-index l.digits) ≡ number_from 0 l.digits
