use Rattle.std.proofs.Common.{◌+◌, ◌∙◌, List, Option, Some, IfSome, ap, refl, sym, subst, arith}
use Rattle.zbase.specs.History.{Transaction}
use Rattle.zdisk.specs.Disk.{Told, content}
use Rattle.fs_scan.specs.Ahead.{IsAhead}
use Rattle.fs_scan.specs.OnlyReads.{reads_as, reads_then}
use Rattle.replay.specs.SecondWalk.{Left, Nexts, Second, moved}
use Rattle.replay.proofs.SecondWalking.{Heads, Leaves, comes, comes_none, goes_over}
use Rattle.replay.proofs.second_walk.SecondWalk.next.Goals as goal

pub undone-preserved : goal.undone-preserved
undone-preserved g c =
    let i = c.undone.invariant in
    let h = c.in_ok-head.ensures in
    let told = g.D.Disk.told c.args.disk.now in
    let heads = subst (λ (d : Option Told). Heads d c.undone.at c.in_ok-head.head) i.only.same h.head in
    let ahead = subst (λ (d : Option Told). IsAhead d c.head_at.new.self.ahead) i.only.same h.ahead in
    record {
      leaves = subst (λ (s : Second). Leaves told c.args.self.now (moved (c.undone.at + (c.in_ok-head.head.length + 8)) c.head_at.new.self.ahead s)) (sym h.same)
          (goes_over told c.args.self.now (moved c.undone.at c.undone.self.ahead c.undone.self) c.head_at.new.self.ahead c.in_ok-head.head (c.undone.at + (c.in_ok-head.head.length + 8)) i.leaves (omega (arith, c.undone-test.true, ap (λ (s : Second). s.end) c.self-in-undone.view_is)) heads ahead refl c.if-head-ne-STATUS_UNDONE.false);
      stays = h.same ∙ ap (λ (s : Second). moved s.place c.head_at.new.self.ahead s) i.stays;
      ahead = ahead;
      rises = omega (arith, i.rises);
      only = reads_then i.only (λ none. none) (reads_as h.only_reads (λ e. cc) (λ none. absurd none));
    }

pub returns-clause-next : goal.returns-clause-next
returns-clause-next g c =
    comes_none (g.D.Disk.told c.args.disk.now) c.args.self.now (moved c.undone.at c.undone.self.ahead c.undone.self) c.undone.self c.undone.invariant.leaves (omega (arith, c.undone-test.false, ap (λ (s : Second). s.end) c.self-in-undone.view_is))

pub returns-then-head-ne-STATUS_UNDONE-clause-next : goal.returns-then-head-ne-STATUS_UNDONE-clause-next
returns-then-head-ne-STATUS_UNDONE-clause-next g c =
    let i = c.undone.invariant in
    let h = c.in_ok-head.ensures in
    let w = c.in_ok-whole.ensures in
    let told = g.D.Disk.told c.args.disk.now in
    let behind = c.undone.at + (c.in_ok-head.head.length + 8) in
    let seen = c.whole_at.new.self.ahead in
    let heads = subst (λ (d : Option Told). Heads d c.undone.at c.in_ok-head.head) i.only.same h.head in
    let ahead = subst (λ (d : Option Told). IsAhead d seen) (h.only_reads.same ∙ i.only.same) w.ahead in
    let same = sym (ap (λ (s : Second). moved behind seen s) w.same ∙ ap (λ (s : Second). moved behind seen s) h.same) ∙ sym (ap (λ (s : Second). moved behind s.ahead s) c.self-then-head-ne-STATUS_UNDONE.view_is) in
    subst (λ (s : Second). IfSome told (λ told. (xs : List Transaction) → Left (content told) c.args.self.now xs → Nexts (content told) s xs (Some c.in_ok-whole.whole))) same
    (comes told (g.D.Disk.told c.head_at.new.disk) c.args.self.now (moved c.undone.at c.undone.self.ahead c.undone.self) seen c.in_ok-head.head behind c.in_ok-whole.whole (h.only_reads.same ∙ i.only.same) i.leaves
    (omega (arith, c.undone-test.true, ap (λ (s : Second). s.end) c.self-in-undone.view_is)) heads ahead refl c.if-head-ne-STATUS_UNDONE.true w.means)
