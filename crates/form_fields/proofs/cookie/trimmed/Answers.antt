use Rattle.std.proofs.Common.{◌∙◌, ap}
use Rattle.form_fields.specs.Cookies.{before_spaces}
use Rattle.form_fields.proofs.Trimming.{front_trimmed, end_trimmed}
use Rattle.form_fields.proofs.cookie.trimmed.Goals as goal

pub returns : goal.returns
returns c =
    end_trimmed c.trim_start_matches.result.now c.trim_end_matches.result.now c.trim_end_matches.ensures.matches
    ∙ ap before_spaces (front_trimmed c.args.piece.now c.trim_start_matches.result.now c.trim_start_matches.ensures.matches)
