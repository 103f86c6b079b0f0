use Rattle.std.proofs.Common.{inr}
use Rattle.backups.specs.Calls.{calls_then}
use Rattle.backups.proofs.Closing.{calls_one}
use Rattle.backups.proofs.Filling.{left_made, own_name, puts_made}
use Rattle.backups.proofs.putting.put_index.Goals as goal

pub returns-in-Ok-clause-put : goal.returns-in-Ok-clause-put
returns-in-Ok-clause-put g c = puts_made c.fill_file.result _ _ _ c.args.index.now c.args.text.now c.in-Ok.ensures.new c.in-Ok.ensures.made c.fill_file.ensures.filled

pub returns-in-Ok-clause-left : goal.returns-in-Ok-clause-left
returns-in-Ok-clause-left g c = left_made c.fill_file.result _ _ _ c.args.index.now c.args.index.now (own_name _ c.args.index.now c.in-Ok.ensures.new) c.in-Ok.ensures.made c.fill_file.ensures.left

pub returns-in-Ok-clause-calls : goal.returns-in-Ok-clause-calls
returns-in-Ok-clause-calls g c =
    calls_then (calls_one c.in-Ok.ensures.counts c.in-Ok.ensures.stays_sound (λ f. f)) (λ s. (c.in-Ok.ensures.stays_sound s, c.in-Ok.ensures.sound s)) c.fill_file.ensures.calls (λ f. inr f)

pub returns-in-Err-Exists-clause-calls : goal.returns-in-Err-Exists-clause-calls
returns-in-Err-Exists-clause-calls g c =
    calls_then (calls_one c.in-Err-Exists.ensures.counts c.in-Err-Exists.ensures.stays_sound (λ f. f)) c.in-Err-Exists.ensures.stays_sound c.replace_index.ensures.calls (λ f. inr f)
