use Rattle.std.proofs.Common.{◌≡◌, ◌∙◌, length, rules}
use Rattle.backups.proofs.Open.{closed_one}
use Rattle.backups.proofs.pieces.close_pieces.Goals as goal

pub closing-preserved : goal.closing-preserved
closing-preserved g c =
    let files = g.F.Shelf.files in
    let long : c.len.result ≡ length c.pop.new.self.items = search rules in
    let all = closed_one g.F.D.Disk.told (files c.args.files.now) (files c.closing.files) (files c.close.new.self) c.args.rows.now c.closing.pieces.items c.pop.new.self.items c.in-Some.disk c.len.result c.index-rows-len.result c.as_str-name.result.now c.close.result
    c.closing.invariant.opens c.closing.invariant.few c.in-Some.ensures.items long c.as_str-name.ensures c.closing.invariant.same c.close.ensures.closed c.close.ensures.kept in
    record {
      opens = all.0;
      few = all.1;
      same = all.2;
      sound = λ s. c.close.ensures.stays_sound (c.closing.invariant.sound s);
      uncounted = c.close.ensures.uncounted ∙ c.closing.invariant.uncounted;
    }
