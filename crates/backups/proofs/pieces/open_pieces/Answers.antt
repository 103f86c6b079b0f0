use Rattle.std.proofs.Common.{◌≡◌, ◌∙◌, ◌++◌, ◌∷◌, [], ap, length, refl, rules}
use Rattle.backups.proofs.Closing.{calls_next, opened, unchanged}
use Rattle.backups.proofs.Open.{missing_one, opened_one, sound_one}
use Rattle.backups.proofs.pieces.open_pieces.Goals as goal

pub returns-in-Err-clause-same : goal.returns-in-Err-clause-same
returns-in-Err-clause-same g c =
    let files = g.F.Shelf.files in
    let told = g.F.D.Disk.told in
    unchanged (files c.opening.files) (files c.open.new.self) (files c.close.new.self) c.as_str-name.result.now (told c.in-Ok.disk) (told c.in-Err.full.value) c.close.result
    (opened (files c.opening.files) c.as_str-name.result.now (told c.in-Ok.disk) c.in-Ok.ensures.found c.in-Ok.ensures.there) c.in-Ok.ensures.same (ap told c.in-Err.ensures.value_returned) c.close.ensures.closed c.close.ensures.kept
    ∙ c.opening.invariant.same

pub returns-in-Err-Missing-clause-missing : goal.returns-in-Err-Missing-clause-missing
returns-in-Err-Missing-clause-missing g c = λ no.
    missing_one (g.F.Shelf.files c.args.files.now) (g.F.Shelf.files c.opening.files) c.args.rows.now (length c.opening.pieces.items) c.opening.i c.index-rows-i.result c.as_str-name.result.now
    c.opening.invariant.same c.opening.invariant.many c.opening-test.true c.as_str-name.ensures (c.in-Err-Missing.ensures.missing (rw c.in-Err-Missing.field-0-is refl))

pub opening-preserved : goal.opening-preserved
opening-preserved g c =
    let files = g.F.Shelf.files in
    let items : c.push.new.self.items ≡ c.opening.pieces.items ++ c.in-Ok.disk ∷ [] = search rules in
    record {
      opens = opened_one g.F.D.Disk.told (files c.args.files.now) (files c.opening.files) c.args.rows.now c.opening.pieces.items c.push.new.self.items c.in-Ok.disk c.opening.i c.index-rows-i.result c.as_str-name.result.now
          c.opening.invariant.opens items c.opening.invariant.many c.opening-test.true c.as_str-name.ensures c.opening.invariant.same c.in-Ok.ensures.found c.in-Ok.ensures.there;
      many = search rules;
      sound = λ s. sound_one g.F.D.Disk.counter c.opening.pieces.items c.push.new.self.items c.in-Ok.disk items (c.in-Ok.ensures.sound (c.opening.invariant.calls.sound s)) (c.opening.invariant.sound s);
      same = c.in-Ok.ensures.same ∙ c.opening.invariant.same;
      calls = calls_next c.opening.invariant.calls c.in-Ok.ensures.counts c.in-Ok.ensures.stays_sound (λ f. absurd f);
    }
