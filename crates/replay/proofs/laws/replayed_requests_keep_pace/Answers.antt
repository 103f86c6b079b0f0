use Rattle.std.proofs.Common.{refl, subst}
use Rattle.zbase.specs.History.{IsHistory}
use Rattle.fs_record.specs.FileLaws.{file_history}
use Rattle.replay.specs.Printed.{terms_of}
use Rattle.replay.proofs.laws.replayed_requests_keep_pace.Goals as goal

pub returns : goal.returns
returns g c = λ links limit bytes items disk arms old new ran w q during unhindered.
    let cut = ran.opens.cut in
    let is = subst IsHistory ran.opens.is (file_history cut.1.file ran.opens.front cut.1.is_file) in
    c.requests_keep_pace.ensures.steps (terms_of g.E.Evaluator.takes g.E.Evaluator.meaning links limit ran.end) ran.history items ran.report ran.explained refl is w q during unhindered
