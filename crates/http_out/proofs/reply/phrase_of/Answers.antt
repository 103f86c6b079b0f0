use Rattle.std.proofs.Common.{◌∙◌, [], ap, unwrap_or}
use Rattle.http.specs.StatusCode.{reason_phrase}
use Rattle.http_out.proofs.Phrases.{is_phrase, unwrap_or-through}
use Rattle.http_out.proofs.reply.phrase_of.Goals as goal

pub returns-in-Ok : goal.returns-in-Ok
returns-in-Ok c =
    ap (λ s. s.now) c.unwrap_or.ensures
    ∙ unwrap_or-through (λ s. s.now) c.canonical_reason.result _
    ∙ ap (λ o. unwrap_or o []) c.canonical_reason.ensures.value
    ∙ ap (λ n. unwrap_or (reason_phrase n) []) c.in-Ok.ensures.1
    ∙ is_phrase c.args.status c.requires
