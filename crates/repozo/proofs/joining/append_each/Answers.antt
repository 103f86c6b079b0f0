use Rattle.std.proofs.Common.{◌≡◌, ◌∙◌, ◌+◌, ◌-◌, ◌<◌, ◌≤◌, ℕ, [], ap, arith, get_or, length, refl, rules, subst, sym}
use Rattle.std.specs.Option.{ForSome}
use Rattle.zbase.specs.Faults.{Counts, counts_as, counts_none}
use Rattle.zdisk.specs.Disk.{Told, content}
use Rattle.repozo.specs.Pieces.{size_of}
use Rattle.repozo.proofs.Checked.{long_there, read_there}
use Rattle.repozo.proofs.Joined.{joined_all, joined_more, right_rest, step_at, whole_piece}
use Rattle.repozo.proofs.Several.{calm_none, calm_set, one_calm, one_set, same_set}
use Rattle.repozo.proofs.Windows.{end_at, grows_none}
use Rattle.repozo.proofs.joining.append_each.Goals as goal

pub pieces-init : goal.pieces-init
pieces-init g c = record {
  right = c.requires.right;
  joined = λ held all. grows_none (g.O.Disk.told c.args.out.now);
  chained = c.requires.chained;
  end = refl;
  stands = λ told is. ap length (c.requires.empty told is);
  room = omega (arith, c.requires.room);
  space = omega (arith, c.requires.space);
  tells = refl;
  same = refl;
  calm = calm_none g.D.Disk.counter c.args.pieces.now;
  out_counts = counts_none (g.O.Disk.counter c.args.out.now) ⊥ (λ n. n);
}

pub append_part-requires-clause-room : goal.append_part-requires-clause-room
append_part-requires-clause-room g c =
    let le : c.pieces.i < length c.args.rows.now = search rules in
    let step = step_at c.pieces.at c.pieces.i c.args.rows.now c.index-rows-i.result c.requires.lines le c.pieces.invariant.chained c.pieces.invariant.end in
    omega (arith, c.pieces.invariant.room, step.within, step.some, le)

pub append_part-requires-clause-space : goal.append_part-requires-clause-space
append_part-requires-clause-space g c =
    let le : c.pieces.i < length c.args.rows.now = search rules in
    let step = step_at c.pieces.at c.pieces.i c.args.rows.now c.index-rows-i.result c.requires.lines le c.pieces.invariant.chained c.pieces.invariant.end in
    omega (arith, c.pieces.invariant.space, step.within, step.some)

pub returns-in-Err-From-clause-same : goal.returns-in-Err-From-clause-same
returns-in-Err-From-clause-same g c =
    let lt : c.pieces.i < length c.pieces.pieces = search rules in
    same_set g.D.Disk.told c.pieces.pieces c.pieces.i c.append_part.new.from c.index-pieces-i.result lt c.append_part.ensures.same ∙ c.pieces.invariant.same

pub returns-in-Err-From-clause-piece_counts : goal.returns-in-Err-From-clause-piece_counts
returns-in-Err-From-clause-piece_counts g c =
    let lt : c.pieces.i < length c.pieces.pieces = search rules in
    one_set g.D.Disk.counter c.args.pieces.now c.pieces.pieces c.pieces.i c.append_part.new.from c.index-pieces-i.result c.pieces.invariant.calm lt (counts_as c.in-Err-From.ensures.from_counts (λ f. search rules) (λ f. search rules))

pub returns-in-Err-To-clause-same : goal.returns-in-Err-To-clause-same
returns-in-Err-To-clause-same g c =
    let lt : c.pieces.i < length c.pieces.pieces = search rules in
    same_set g.D.Disk.told c.pieces.pieces c.pieces.i c.append_part.new.from c.index-pieces-i.result lt c.append_part.ensures.same ∙ c.pieces.invariant.same

pub returns-in-Err-To-clause-piece_counts : goal.returns-in-Err-To-clause-piece_counts
returns-in-Err-To-clause-piece_counts g c =
    let lt : c.pieces.i < length c.pieces.pieces = search rules in
    one_set g.D.Disk.counter c.args.pieces.now c.pieces.pieces c.pieces.i c.append_part.new.from c.index-pieces-i.result c.pieces.invariant.calm lt (counts_as c.in-Err-To.ensures.from_counts (λ f. search rules) (λ f. search rules))

pub pieces-preserved : goal.pieces-preserved
pieces-preserved g c =
    let lt : c.pieces.i < length c.pieces.pieces = search rules in
    let le : c.pieces.i < length c.args.rows.now = search rules in
    let count = g.D.Disk.counter in
    let step = step_at c.pieces.at c.pieces.i c.args.rows.now c.index-rows-i.result c.requires.lines le c.pieces.invariant.chained c.pieces.invariant.end in
    let rest = right_rest g.D.Disk.told c.pieces.pieces c.args.rows.now c.pieces.i c.append_part.new.from c.index-pieces-i.result c.index-rows-i.result lt le c.pieces.invariant.right in
    let spare = c.in-Ok.ensures.spare in
    let one : Counts (count (get_or c.pieces.pieces c.pieces.i c.index-pieces-i.result)) (count c.append_part.new.from) ⊥ = counts_as c.in-Ok.ensures.from_counts (λ f. search rules) (λ n. absurd n) in
    let size : (get_or c.args.rows.now c.pieces.i c.index-rows-i.result).end - c.pieces.at ≡ size_of (get_or c.args.rows.now c.pieces.i c.index-rows-i.result) = ap (λ (n : ℕ). (get_or c.args.rows.now c.pieces.i c.index-rows-i.result).end - n) (sym step.start) in
    let sum : c.pieces.at + ((get_or c.args.rows.now c.pieces.i c.index-rows-i.result).end - c.pieces.at) ≡ (get_or c.args.rows.now c.pieces.i c.index-rows-i.result).end = omega (arith, step.some) in
    record {
      right = rest.1;
      joined = λ held all. joined_more _ _ _ held c.pieces.i c.in-Ok.ensures.appended.bytes (omega (arith, lt, long_there g.D.Disk.told c.args.pieces.now c.pieces.pieces held c.pieces.invariant.same all))
          (whole_piece (g.D.Disk.told (get_or c.pieces.pieces c.pieces.i c.index-pieces-i.result)) (get_or held c.pieces.i []) c.in-Ok.ensures.appended.bytes (get_or c.args.rows.now c.pieces.i c.index-rows-i.result) _
          (read_there g.D.Disk.told c.args.pieces.now c.pieces.pieces held c.pieces.i c.index-pieces-i.result c.pieces.invariant.same all lt) rest.0 c.in-Ok.ensures.appended.read size)
          (c.pieces.invariant.joined held all) c.in-Ok.ensures.appended.grown;
      chained = step.chained;
      end = step.end;
      stands = subst (λ (n : ℕ). ForSome (g.O.Disk.told c.append_part.new.to) (λ (t : Told). length (content t) ≡ n)) sum (end_at _ 0 _ _ _ _ _ c.pieces.at c.pieces.invariant.stands c.in-Ok.ensures.appended);
      room = omega (arith, c.pieces.invariant.room, spare.0, step.some);
      space = omega (arith, c.pieces.invariant.space, spare.1, step.some);
      tells = search rules;
      same = same_set g.D.Disk.told c.pieces.pieces c.pieces.i c.append_part.new.from c.index-pieces-i.result lt c.append_part.ensures.same ∙ c.pieces.invariant.same;
      calm = calm_set count c.args.pieces.now c.pieces.pieces c.pieces.i c.append_part.new.from c.index-pieces-i.result c.pieces.invariant.calm lt one;
      out_counts = search rules;
    }

pub returns-clause-joined : goal.returns-clause-joined
returns-clause-joined g c = λ held all.
    (let end : length c.args.rows.now ≤ c.pieces.i = search rules in
    joined_all _ _ held c.pieces.i (omega (arith, end, c.requires.paired, long_there g.D.Disk.told c.args.pieces.now c.args.pieces.now held refl all)) (c.pieces.invariant.joined held all))

pub returns-clause-piece_counts : goal.returns-clause-piece_counts
returns-clause-piece_counts g c = one_calm g.D.Disk.counter c.args.pieces.now c.pieces.pieces c.pieces.invariant.calm (λ f. search rules)
