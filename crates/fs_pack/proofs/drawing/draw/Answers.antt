use Rattle.std.proofs.Common.{◌<◌, ◌∙◌, length, ap, ap₂, arith, ℕ, List, None, false, replicate}
use Rattle.std.proofs.lemmas.List.{take_all}
use Rattle.fs_pack.specs.Chosen.{marks_of}
use Rattle.fs_pack.specs.Marked.{is_in}
use Rattle.fs_pack.specs.Numbered.{last_number, marked_at, oids_of}
use Rattle.fs_pack.specs.NumberedLaws.{marks_more, marks_none}
use Rattle.fs_pack.proofs.drawing.draw.Goals as goal

pub kept-init : goal.kept-init
kept-init c =
    let all = c.in_ok-marks.ensures.items_if_clones_equal (λ y h. h) in
    record {
      drawn = λ rs long numbered. all ∙ ap (λ (n : ℕ). replicate n false) long ∙ marks_none rs;
      within = omega arith;
    }

pub kept-preserved : goal.kept-preserved
kept-preserved c =
    let i = c.kept.invariant in
    let lt : c.kept.next < length c.args.kept.now = omega arith in
    record {
      drawn = λ rs long numbered.
          c.mark.ensures
          ∙ ap₂ marked_at (c.get-number.ensures ∙ numbered c.get-oid.result ∙ ap (λ (o : ℕ). last_number o None 0 (oids_of rs)) c.get-oid.ensures) (i.drawn rs long numbered)
          ∙ marks_more c.args.kept.now c.kept.next rs lt;
      within = omega arith;
    }

pub returns : goal.returns
returns c = λ rs long numbered.
    c.kept.invariant.drawn rs long numbered ∙ ap (λ (os : List ℕ). marks_of (is_in os) rs) (take_all c.kept.next c.args.kept.now (omega arith))
