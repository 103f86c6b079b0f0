use Rattle.std.proofs.Common.{◌≡◌, ◌∙◌, List, ℕ, sym, subst}
use Rattle.std.specs.Prelude.{IfOk}
use Rattle.std.proofs.lemmas.Str.{utf8_lossy-IsUtf8}
use Rattle.http_in.proofs.headers.lossy_text.Goals as goal

pub returns-in-Ok : goal.returns-in-Ok
returns-in-Ok c =
    subst (λ (x : List ℕ). IfOk c.from_str.result (λ it. it ≡ x)) (c.in-Ok.ensures.cases.0 ∙ sym (utf8_lossy-IsUtf8 c.args.bytes.now c.in-Ok.ensures.cases.1)) c.from_str.ensures
