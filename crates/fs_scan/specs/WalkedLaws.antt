-- A place of bytes has one front.
use Rattle.std.specs.Prelude.{◌≡◌, ℕ, true, List, [], take, Option, Some, None}
use Rattle.std.proofs.Common.{refl, sym, ap, ◌∙◌, append-nil}
use Rattle.std.proofs.lemmas.List.{take_at}
use Rattle.fs_record.specs.File.{Front}
use Rattle.fs_record.specs.Opening.{is_end, SplitsAt, Cut}
use Rattle.fs_record.specs.OpeningLaws.{one_cut}
use Rattle.fs_scan.specs.Walked.{FrontAt}

end_of_none : is_end [] ≡ true
unfolding is_end
end_of_none = refl

cut_there : (bytes rest : List ℕ) (place : ℕ) (front : Front) → SplitsAt bytes place front rest → Cut (take place bytes) front place
cut_there bytes rest place front s =
    let file : s.file ≡ take place bytes = sym (ap (take place) s.joined ∙ take_at s.file rest place (sym s.at)) in
    ([], record { file = s.file; is_file = s.is_file; joined = sym file ∙ sym (append-nil s.file); at = s.at }, end_of_none)

-- the file before a place says one front
pub one_front : (bytes : List ℕ) (place : Option ℕ) (f g : Front) → FrontAt bytes place f → FrontAt bytes place g → f ≡ g
one_front bytes None f g a b = a ∙ sym b
one_front bytes (Some place) f g a b = (one_cut (take place bytes) f g place place (cut_there bytes a.0 place f a.1) (cut_there bytes b.0 place g b.1)).0
