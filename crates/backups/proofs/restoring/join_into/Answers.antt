use Rattle.std.proofs.Common.{◌≡◌, ◌∙◌, ℕ, List, Option, get_or, length, map, ap, inr, refl, rules, subst, sym}
use Rattle.std.proofs.lemmas.List.{length-map}
use Rattle.std.specs.Prelude.{IfSome, IsFalse, IsTrue}
use Rattle.zdisk.specs.Disk.{Told}
use Rattle.repozo.specs.declared.index.PieceRow.{PieceRow}
use Rattle.repozo.specs.Disks.{AllRight}
use Rattle.backups.specs.Calls.{calls_as, calls_then}
use Rattle.backups.specs.Opened.{IsMissingAt}
use Rattle.backups.specs.Standing.{AreOpen}
use Rattle.backups.proofs.Causes.{same_length}
use Rattle.backups.proofs.Closing.{no_piece_fault, stay_sound}
use Rattle.backups.proofs.Joining.{bad_told, exists_right, joined, missing_told, still_open}
use Rattle.backups.proofs.restoring.join_into.Goals as goal

pub returns-in-Err-Failed-clause-calls : goal.returns-in-Err-Failed-clause-calls
returns-in-Err-Failed-clause-calls g c = calls_as c.in-Err-Failed.ensures.calls (λ f. rw c.in-Err-Failed.field-0-is refl)

pub returns-in_err-check_all-clause-bad : goal.returns-in_err-check_all-clause-bad
returns-in_err-check_all-clause-bad g c = λ name f.
    bad_told (g.F.Shelf.files c.args.files.now) c.args.rows.now (map g.F.D.Disk.told c.open_pieces.new.pieces.items) name (subst (λ (rs : List PieceRow). IfSome (g.F.Shelf.files c.args.files.now) (λ all. AreOpen all rs (map g.F.D.Disk.told c.open_pieces.new.pieces.items))) c.as_slice.ensures c.open_pieces.ensures.open) (c.in_err-check_all.ensures.bad name (search rules))

pub returns-in_err-check_all-clause-calls : goal.returns-in_err-check_all-clause-calls
returns-in_err-check_all-clause-calls g c = record {
  later = c.open_pieces.ensures.calls.later;
  sound = c.open_pieces.ensures.calls.sound;
  cause = λ f. inr (λ s. no_piece_fault _ _ (c.open_pieces.ensures.sound s) c.in_err-check_all.ensures.counts (search rules));
}

pub returns-then-not-is_whole-clause-bad : goal.returns-then-not-is_whole-clause-bad
returns-then-not-is_whole-clause-bad g c = λ name f.
    (let items = c.open_pieces.new.pieces.items in
    let told = g.F.D.Disk.told in
    let no : IsFalse c.in-Ok.is_whole = search rules in
    let missing = c.in-Ok.ensures.missing no in
    let count : c.len.result ≡ length c.check_all.new.pieces.items = search rules in
    let long : length items ≡ c.len.result = sym (same_length told c.check_all.new.pieces.items items c.check_all.ensures.same) ∙ sym count in
    let named : c.in_ok-copy.field-0 ≡ name = cc in
    missing_told (g.F.Shelf.files c.args.files.now) c.args.rows.now (map told items) c.index-as_slice-len.result (length items) name (sym (length-map items told))
    (ap (λ (k : ℕ). (get_or c.args.rows.now k c.index-as_slice-len.result).name) long ∙ ap (λ (rs : List PieceRow). (get_or rs c.len.result c.index-as_slice-len.result).name) (sym c.as_slice-then-not-is_whole.ensures) ∙ ap (λ (r : PieceRow). r.name) (sym c.index-as_slice-len.is) ∙ sym c.in_ok-copy.ensures ∙ named)
    (subst (λ (rs : List PieceRow). IfSome (g.F.Shelf.files c.args.files.now) (λ all. AreOpen all rs (map told items))) c.as_slice.ensures c.open_pieces.ensures.open) c.in_ok-check_all.ensures.right
    (subst (λ (rs : List PieceRow). IfSome (g.F.Shelf.files c.args.files.now) (λ all. IsMissingAt all rs (length items))) c.as_slice.ensures missing.1))

-- what is known once the pieces were checked
pub returns-clause-joins : goal.returns-clause-joins
returns-clause-joins g c =
    let files = g.F.Shelf.files in
    let told = g.F.D.Disk.told in
    let same = c.check_all.ensures.same in
    let yes : IsTrue c.in-Ok.is_whole = search rules in
    let ds = map told c.check_all.new.pieces.items in
    let opens = subst (λ (xs : List (Option Told)). IfSome (files c.args.files.now) (λ all. AreOpen all c.args.rows.now xs)) (sym same) (subst (λ (rs : List PieceRow). IfSome (files c.args.files.now) (λ all. AreOpen all rs (map told c.open_pieces.new.pieces.items))) c.as_slice.ensures c.open_pieces.ensures.open) in
    let right = subst (λ (xs : List (Option Told)). AllRight xs c.args.rows.now) (sym same) c.in_ok-check_all.ensures.right in
    let long : length ds ≡ length c.args.rows.now = length-map c.check_all.new.pieces.items told ∙ same_length told c.check_all.new.pieces.items c.open_pieces.new.pieces.items same ∙ c.in-Ok.ensures.whole yes ∙ ap length c.as_slice.ensures in
    joined c.put_file.result (files c.args.files.now) (files c.open_pieces.new.files) (files c.put_file.new.files) c.args.rows.now c.args.out.now ds c.open_pieces.ensures.same opens long right c.requires.rows c.put_file.ensures.made c.put_file.ensures.size c.put_file.ensures.left

pub returns-clause-exists : goal.returns-clause-exists
returns-clause-exists g c = λ f.
    (let files = g.F.Shelf.files in
    let told = g.F.D.Disk.told in
    let yes : IsTrue c.in-Ok.is_whole = search rules in
    let items = c.open_pieces.new.pieces.items in
    exists_right (files c.args.files.now) (files c.open_pieces.new.files) c.args.rows.now c.args.out.now (map told items) c.open_pieces.ensures.same
    (subst (λ (rs : List PieceRow). IfSome (files c.args.files.now) (λ all. AreOpen all rs (map told items))) c.as_slice.ensures c.open_pieces.ensures.open) (length-map items told ∙ c.in-Ok.ensures.whole yes ∙ ap length c.as_slice.ensures) c.in_ok-check_all.ensures.right (c.put_file.ensures.exists f).0)

pub returns-clause-open : goal.returns-clause-open
returns-clause-open g c =
    let files = g.F.Shelf.files in
    let told = g.F.D.Disk.told in
    let same : map told c.put_file.new.pieces.items ≡ map told c.open_pieces.new.pieces.items = c.put_file.ensures.same_pieces ∙ c.check_all.ensures.same in
    still_open (files c.args.files.now) (files c.open_pieces.new.files) (files c.put_file.new.files) c.args.rows.now c.args.out.now (map told c.put_file.new.pieces.items) c.open_pieces.ensures.same
    (subst (λ (xs : List (Option Told)). IfSome (files c.args.files.now) (λ all. AreOpen all c.args.rows.now xs)) (sym same) (subst (λ (rs : List PieceRow). IfSome (files c.args.files.now) (λ all. AreOpen all rs (map told c.open_pieces.new.pieces.items))) c.as_slice.ensures c.open_pieces.ensures.open)) c.put_file.ensures.left

pub returns-clause-calls : goal.returns-clause-calls
returns-clause-calls g c =
    calls_then c.open_pieces.ensures.calls (λ s. (c.open_pieces.ensures.calls.sound s, stay_sound _ _ _ (c.open_pieces.ensures.sound s) c.check_all.ensures.counts)) c.put_file.ensures.calls (λ h. inr h)
