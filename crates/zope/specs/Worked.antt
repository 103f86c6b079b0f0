-- A worked run: a check of a file without transactions, where nothing outside fails, and which writes nothing.
use Rattle.std.specs.Prelude.{ℕ, List, [], ◌∷◌, None, Some, codes, true}
use Rattle.zbase.specs.Faults.{Counter, no_arms}
use Rattle.zio.specs.Hubs.{Peers}
use Rattle.fs_record.specs.File.{magic}
use Rattle.zope.specs.Outside.{OutsideView, outside}

abbrev pub checking : List (List ℕ)
checking = codes "check" ∷ codes "a" ∷ []

abbrev pub calm : Counter
calm = record { count = 0; sound = true; calls = 0; arms = no_arms }

abbrev pub nobody : Peers
nobody = record { port = None; accepted = []; coming = [] }

-- the moment before the run, and behind one that gave up at once
abbrev pub untouched : OutsideView
untouched = outside (Some ((codes "a", magic) ∷ [])) (Unit {0}) (λ name. Unit {0}) calm (Some []) calm (Some []) calm (Some nobody) calm (Some []) calm
