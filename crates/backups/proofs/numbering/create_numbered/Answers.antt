use Rattle.std.proofs.Common.{◌∙◌, refl, rules}
use Rattle.backups.proofs.Closing.{calls_next}
use Rattle.backups.proofs.Trying.{taken_more}
use Rattle.backups.proofs.numbering.create_numbered.Goals as goal

pub trying-preserved : goal.trying-preserved
trying-preserved g c =
    let files = g.F.Shelf.files in
    record {
      taken = taken_more (files c.args.files.now) (files c.trying.files) c.args.base.now c.as_str.result.now c.trying.n c.trying.invariant.same (search rules) c.trying.invariant.taken (c.in-Err-Exists.ensures.exists (rw c.in-Err-Exists.field-0-is refl));
      same = c.in-Err-Exists.ensures.kept ∙ c.trying.invariant.same;
      lasting = λ name was. c.in-Err-Exists.ensures.lasting name (c.trying.invariant.lasting name was);
      calls = calls_next c.trying.invariant.calls c.in-Err-Exists.ensures.counts c.in-Err-Exists.ensures.stays_sound (λ f. absurd f);
    }
