-- Where no record is left, what was picked is all.
use Rattle.std.proofs.Common.{◌≡◌, ℕ, Bool, List, [], ◌∷◌, ◌++◌, length, refl, sym, ap, ◌∙◌, append-nil, arith}
use Rattle.zbase.specs.History.{Value}
use Rattle.fs_scan.specs.Wholes.{records_in}
use Rattle.fs_scan.specs.declared.wholes.OidValue.{OidValue}
use Rattle.fs_pack.specs.Chosen.{picked}

picks_none : (ms : List Bool) → picked ms [] ≡ []
picks_none [] = refl
picks_none (m ∷ ms) = refl

pub all_picked : (stay rest : List OidValue) (ms : List Bool) (wanted : List (ℕ × Value)) → length rest ≡ 0 → records_in stay ++ picked ms (records_in rest) ≡ wanted → records_in stay ≡ wanted
all_picked stay [] ms wanted none is = sym (ap (λ (rs : List (ℕ × Value)). records_in stay ++ rs) (picks_none ms) ∙ append-nil (records_in stay)) ∙ is
all_picked stay (v ∷ rest) ms wanted none is = absurd (omega (arith, none))
