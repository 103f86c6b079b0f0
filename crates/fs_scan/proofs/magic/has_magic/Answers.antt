use Rattle.std.proofs.Common.{◌≡◌, ◌∙◌, ◌++◌, List, ℕ, sym, ap, take, drop}
use Rattle.std.proofs.lemmas.Bool.{false≢true}
use Rattle.std.proofs.lemmas.List.{take-append-drop}
use Rattle.std.proofs.lemmas.Slice.Eq.{bytes_eq-Decides}
use Rattle.fs_record.specs.File.{magic}
use Rattle.fs_scan.proofs.magic.has_magic.Goals as goal

pub returns-clause-yes : goal.returns-clause-yes
returns-clause-yes c is =
    let bytes = c.args.bytes.now in
    let same : magic ≡ take 4 bytes = (bytes_eq-Decides magic (take 4 bytes)).0 (sym c.starts_with.ensures.value ∙ is) in
    sym (take-append-drop 4 bytes) ∙ ap (λ (front : List ℕ). front ++ drop 4 bytes) (sym same)

pub returns-clause-no : goal.returns-clause-no
returns-clause-no c is more e =
    let bytes = c.args.bytes.now in
    let same : magic ≡ take 4 bytes = sym (ap (take 4) e) in
    false≢true (sym is ∙ c.starts_with.ensures.value ∙ (bytes_eq-Decides magic (take 4 bytes)).1 same)
