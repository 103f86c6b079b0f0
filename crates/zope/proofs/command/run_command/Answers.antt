use Rattle.words.specs.Asking.{Replay, Serial}
use Rattle.zope.proofs.Commands.{caused_as}
use Rattle.zope.proofs.Limits.{clients_within, limit_within, serial_within}
use Rattle.zope.proofs.command.run_command.Goals as goal

pub replay_file-requires : goal.replay_file-requires
replay_file-requires g c = record { limit = limit_within c.requires.asked.0 c.in-Replay.file.now c.in-Replay.limit (rw c.in-Replay.is at c.requires.asked.1) }

pub serial_file-requires : goal.serial_file-requires
serial_file-requires g c = record { limit = serial_within c.requires.asked.0 c.in-Serial.file.now c.in-Serial.limit (rw c.in-Serial.is at c.requires.asked.1) }

pub serve_site-requires : goal.serve_site-requires
serve_site-requires g c = record { plan = clients_within c.requires.asked.0 c.in-Serve.file.now c.in-Serve.port c.in-Serve.connections c.in-Serve.clients c.in-Serve.record.now (rw c.in-Serve.is at c.requires.asked.1) }

pub returns-in-Replay-clause-cause : goal.returns-in-Replay-clause-cause
returns-in-Replay-clause-cause g c words asks = caused_as words (Replay c.in-Replay.file.now c.in-Replay.limit) _ _ c.replay_file.result (rw c.in-Replay.is at asks) c.replay_file.ensures.cause

pub returns-in-Serial-clause-cause : goal.returns-in-Serial-clause-cause
returns-in-Serial-clause-cause g c words asks = caused_as words (Serial c.in-Serial.file.now c.in-Serial.limit) _ _ c.serial_file.result (rw c.in-Serial.is at asks) c.serial_file.ensures.cause
