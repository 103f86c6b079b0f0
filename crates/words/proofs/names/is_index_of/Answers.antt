use Rattle.std.proofs.Common.{◌≡◌, ◌∙◌, ◌++◌, ◌-◌, List, ℕ, ap, ap₂, codes, drop, length, sym}
use Rattle.std.specs.Str.{bytes_eq}
use Rattle.std.proofs.lemmas.List.{take-append-drop}
use Rattle.std.proofs.lemmas.Slice.Eq.{bytes_eq-Decides}
use Rattle.words.proofs.Suffixes.{with_suffix, without_suffix}
use Rattle.words.proofs.names.is_index_of.Goals as goal

pub returns-in-Some : goal.returns-in-Some
returns-in-Some c =
    let place = length c.args.file.now - 4 in
    let parts = rw c.as_bytes.ensures.value at c.in-Some.ensures.cases in
    let ends : drop place c.args.file.now ≡ codes ".dat" = (bytes_eq-Decides (drop place c.args.file.now) (codes ".dat")).0 parts.0 in
    let whole : c.in-Some.before.now ++ codes ".dat" ≡ c.args.file.now = ap₂ (λ (a b : List ℕ). a ++ b) parts.1 (sym ends) ∙ take-append-drop place c.args.file.now in
    c.eq.ensures ∙ ap (λ (r : List ℕ). bytes_eq c.in-Some.before.now r) c.as_bytes-in-Some.ensures.value ∙ with_suffix c.in-Some.before.now (codes ".dat") c.args.repo.now c.args.file.now whole

pub returns-in-None : goal.returns-in-None
returns-in-None c = without_suffix (codes ".dat") c.args.repo.now c.args.file.now (rw c.as_bytes.ensures.value at c.in-None.ensures.cases)
