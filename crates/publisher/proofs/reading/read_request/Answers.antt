use Rattle.std.proofs.Common.{[]}
use Rattle.std.proofs.lemmas.Result.{err_from_is_err_and}
use Rattle.form_fields.specs.Fields.{fields_of}
use Rattle.user_folder.specs.Credentials.{credentials_of}
use Rattle.publisher.specs.Faults as faults
use Rattle.publisher.specs.Site.{authorization, bad_credentials}
use Rattle.publisher.proofs.Stages.{credentials_stop, fields_stop, was_read}
use Rattle.publisher.proofs.reading.read_request.Goals as goal

pub returns-in_err-fields-clause-refused : goal.returns-in_err-fields-clause-refused
returns-in_err-fields-clause-refused c =
    let p = err_from_is_err_and c.from_residual.result c.from_residual.ensures.1 in
    rw (p.1, p.2) (λ rows. fields_stop rows c.args.request.now _ (c.in_err-fields.ensures rows))

pub returns-in_err-credentials-clause-refused : goal.returns-in_err-credentials-clause-refused
returns-in_err-credentials-clause-refused c =
    let p = err_from_is_err_and c.from_residual-in_err-credentials.result c.from_residual-in_err-credentials.ensures.1 in
    rw (p.1, p.2) (λ rows. credentials_stop rows c.args.request.now c.in_ok-fields.fields _ (was_read [] faults.NotANumber (fields_of c.args.request.now) c.in_ok-fields.fields (c.in_ok-fields.ensures [])) (c.in_err-credentials.ensures rows))

pub returns-clause-read : goal.returns-clause-read
returns-clause-read c = record {
  fields = was_read [] faults.NotANumber (fields_of c.args.request.now) c.in_ok-fields.fields (c.in_ok-fields.ensures []);
  credentials = was_read [] bad_credentials (credentials_of (authorization c.args.request.now)) c.in_ok-credentials.credentials (c.in_ok-credentials.ensures []);
}
