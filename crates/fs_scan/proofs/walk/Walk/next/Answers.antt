use Rattle.std.proofs.Common.{Option, Some, IfSome, ap, ◌∙◌, ◌≡◌, ◌++◌, drop, subst, sym, arith}
use Rattle.zbase.specs.Faults.{counts_as}
use Rattle.zdisk.specs.Disk.{Told, content}
use Rattle.fs_record.specs.File.{magic}
use Rattle.fs_scan.specs.Ahead.{IsAhead}
use Rattle.fs_scan.specs.Keeping.{KeepsOn}
use Rattle.fs_scan.specs.OnlyReads.{reads_as, reads_then}
use Rattle.fs_scan.specs.Stepped.{StepsOn}
use Rattle.fs_scan.specs.Walked.{Course}
use Rattle.fs_scan.proofs.Walking.{anew, breaks, ends, entered, found_later, goes_on, goes_over, keeps_on, on_ahead, on_either, on_of, passes, read_on, same_last, stands_ahead, stands_there, stays_on, walked_of, walks_over}
use Rattle.fs_scan.proofs.walk.Walk.next.Goals as goal

pub enter-requires-clause-ahead : goal.enter-requires-clause-ahead
enter-requires-clause-ahead g c = subst (λ (d : Option Told). IsAhead d c.args.self.now.ahead) (sym c.in_ok-len.ensures.same) (on_ahead (g.D.Disk.told c.args.disk.now) c.args.self.now c.requires)

pub undone-init : goal.undone-init
undone-init g c =
    let n = c.in_ok-len.ensures in
    let i = c.in_ok-at.ensures in
    record {
      underway = entered (g.D.Disk.told c.args.disk.now) c.args.self.now c.enter.new.self c.in_ok-at.at c.requires i.entered.0 i.entered.1
          (subst (λ (d : Option Told). IsAhead d c.enter.new.self.ahead) n.same i.ahead)
          (λ none. subst (λ (d : Option Told). IfSome d (λ told. content told ≡ magic ++ drop 4 (content told))) n.same (i.magic none));
      length = n.value;
      here = ap (λ (course : Course). course.place) i.entered.1;
      last = ap (λ (course : Course). course.last) i.entered.1;
      rises = omega (arith, i.entered.0);
      only = reads_then (record { same = n.same; spare = n.spare; counts = counts_as n.counts (λ e. cc) (λ none. absurd none) }) (λ none. none) (reads_as i.only_reads (λ e. cc) (λ none. absurd none));
    }

pub step-requires-clause-keeps : goal.step-requires-clause-keeps
step-requires-clause-keeps g c =
    let i = c.undone.invariant in
    subst (λ (d : Option Told). IfSome d (λ told. KeepsOn (content told) c.undone.self.kept)) (sym i.only.same) (keeps_on (g.D.Disk.told c.args.disk.now) c.args.self.now c.undone.self c.undone.at i.underway)

pub step-requires-clause-ahead : goal.step-requires-clause-ahead
step-requires-clause-ahead g c =
    let i = c.undone.invariant in
    subst (λ (d : Option Told). IsAhead d c.undone.self.ahead) (sym i.only.same) (stands_ahead (g.D.Disk.told c.args.disk.now) c.args.self.now c.undone.self c.undone.at i.underway)

pub whole_in-requires-clause-ahead : goal.whole_in-requires-clause-ahead
whole_in-requires-clause-ahead g c = subst (λ (d : Option Told). IsAhead d c.step.new.self.ahead) (sym c.in_ok-step.ensures.only_reads.same) c.in_ok-step.ensures.ahead

pub returns-in_err-at-clause-on : goal.returns-in_err-at-clause-on
returns-in_err-at-clause-on g c =
    read_on (g.D.Disk.told c.args.disk.now) c.args.self.now c.enter.new.self c.requires c.in_err-at.ensures.stays (subst (λ (d : Option Told). IsAhead d c.enter.new.self.ahead) c.in_ok-len.ensures.same c.in_err-at.ensures.ahead)

pub returns-in_err-step-clause-on : goal.returns-in_err-step-clause-on
returns-in_err-step-clause-on g c = anew (g.D.Disk.told c.args.disk.now) c.step.new.self c.in_err-step.ensures.err

pub returns-in-End-clause-walked : goal.returns-in-End-clause-walked
returns-in-End-clause-walked g c =
    let i = c.undone.invariant in
    let s = c.in_ok-step.ensures in
    let says = subst (λ (d : Option Told). IfSome d (λ told. StepsOn (content told) c.undone.at c.undone.self.last c.undone.self.kept c.step.new.self.kept c.in_ok-step.field-0)) i.only.same s.says in
    let ahead = subst (λ (d : Option Told). IsAhead d c.step.new.self.ahead) i.only.same s.ahead in
    walked_of _ _ (g.D.Disk.told c.args.disk.now) (ends (g.D.Disk.told c.args.disk.now) c.in_ok-len.len c.args.self.now c.undone.self c.step.new.self c.undone.at i.underway ahead (rw c.in-End.is at says) (rw c.in-End.is at s.goes))

pub returns-in-End-clause-on : goal.returns-in-End-clause-on
returns-in-End-clause-on g c =
    let i = c.undone.invariant in
    let s = c.in_ok-step.ensures in
    let says = subst (λ (d : Option Told). IfSome d (λ told. StepsOn (content told) c.undone.at c.undone.self.last c.undone.self.kept c.step.new.self.kept c.in_ok-step.field-0)) i.only.same s.says in
    let ahead = subst (λ (d : Option Told). IsAhead d c.step.new.self.ahead) i.only.same s.ahead in
    on_of _ _ (g.D.Disk.told c.args.disk.now) (ends (g.D.Disk.told c.args.disk.now) c.in_ok-len.len c.args.self.now c.undone.self c.step.new.self c.undone.at i.underway ahead (rw c.in-End.is at says) (rw c.in-End.is at s.goes))

pub returns-in-Damaged-clause-damaged : goal.returns-in-Damaged-clause-damaged
returns-in-Damaged-clause-damaged g c = λ kind place is.
    let i = c.undone.invariant in
    let s = c.in_ok-step.ensures in
    let says = subst (λ (d : Option Told). IfSome d (λ told. StepsOn (content told) c.undone.at c.undone.self.last c.undone.self.kept c.step.new.self.kept c.in_ok-step.field-0)) i.only.same s.says in
    let ahead = subst (λ (d : Option Told). IsAhead d c.step.new.self.ahead) i.only.same s.ahead in
    let k : c.in-Damaged.kind ≡ kind = cc in
    let p : c.undone.at ≡ place = cc in
    breaks (g.D.Disk.told c.args.disk.now) c.in_ok-len.len c.args.self.now c.undone.self c.step.new.self c.undone.at i.underway ahead c.in-Damaged.kind kind place (rw c.in-Damaged.is at says) k p

pub returns-in-Damaged-clause-on : goal.returns-in-Damaged-clause-on
returns-in-Damaged-clause-on g c =
    let i = c.undone.invariant in
    let s = c.in_ok-step.ensures in
    let says = subst (λ (d : Option Told). IfSome d (λ told. StepsOn (content told) c.undone.at c.undone.self.last c.undone.self.kept c.step.new.self.kept c.in_ok-step.field-0)) i.only.same s.says in
    let ahead = subst (λ (d : Option Told). IsAhead d c.step.new.self.ahead) i.only.same s.ahead in
    stays_on (g.D.Disk.told c.args.disk.now) c.in_ok-len.len c.args.self.now c.undone.self c.step.new.self c.undone.at i.underway ahead c.in-Damaged.kind (rw c.in-Damaged.is at says) (rw c.in-Damaged.is at s.goes)

pub returns-then-extent-ne-STATUS_UNDONE-clause-walked : goal.returns-then-extent-ne-STATUS_UNDONE-clause-walked
returns-then-extent-ne-STATUS_UNDONE-clause-walked g c =
    let i = c.undone.invariant in
    let s = c.in_ok-step.ensures in
    let says = subst (λ (d : Option Told). IfSome d (λ told. StepsOn (content told) c.undone.at c.undone.self.last c.undone.self.kept c.step.new.self.kept c.in_ok-step.field-0)) i.only.same s.says in
    let ahead = subst (λ (d : Option Told). IsAhead d c.step.new.self.ahead) i.only.same s.ahead in
    walks_over (g.D.Disk.told c.args.disk.now) _ c.args.self.now c.step.new.self c.whole_in.new.self c.undone.at c.in-Right.extent c.whole_in.result c.whole_in.ensures.means c.whole_in.ensures.ok
    (λ whole same means. passes (g.D.Disk.told c.args.disk.now) c.in_ok-len.len c.args.self.now c.undone.self c.step.new.self c.undone.at i.underway ahead c.in-Right.extent (rw c.in-Right.is at says) (rw c.in-Right.is at s.goes) _ c.whole_in.new.self whole (s.only_reads.same ∙ i.only.same) same c.if-extent-ne-STATUS_UNDONE.true means)

pub returns-then-extent-ne-STATUS_UNDONE-clause-on : goal.returns-then-extent-ne-STATUS_UNDONE-clause-on
returns-then-extent-ne-STATUS_UNDONE-clause-on g c =
    let i = c.undone.invariant in
    let s = c.in_ok-step.ensures in
    let says = subst (λ (d : Option Told). IfSome d (λ told. StepsOn (content told) c.undone.at c.undone.self.last c.undone.self.kept c.step.new.self.kept c.in_ok-step.field-0)) i.only.same s.says in
    let ahead = subst (λ (d : Option Told). IsAhead d c.step.new.self.ahead) i.only.same s.ahead in
    on_either (g.D.Disk.told c.args.disk.now) c.step.new.self c.whole_in.new.self c.whole_in.result c.whole_in.ensures.ok c.whole_in.ensures.err
    (subst (λ (d : Option Told). IsAhead d c.whole_in.new.self.ahead) (s.only_reads.same ∙ i.only.same) c.whole_in.ensures.ahead)
    (goes_on (g.D.Disk.told c.args.disk.now) c.in_ok-len.len c.args.self.now c.undone.self c.step.new.self c.undone.at i.underway ahead c.in-Right.extent (rw c.in-Right.is at says) (rw c.in-Right.is at s.goes))

pub returns-then-extent-ne-STATUS_UNDONE-clause-later : goal.returns-then-extent-ne-STATUS_UNDONE-clause-later
returns-then-extent-ne-STATUS_UNDONE-clause-later g c =
    found_later c.in_ok-len.len _ c.args.self.now c.undone.self c.step.new.self c.whole_in.new.self c.undone.at c.in-Right.extent c.whole_in.result c.undone.invariant.last (rw c.in-Right.is at c.in_ok-step.ensures.goes) c.if-extent-ne-STATUS_UNDONE.true c.whole_in.ensures.means c.whole_in.ensures.ok

pub returns-then-extent-ne-STATUS_UNDONE-clause-damaged : goal.returns-then-extent-ne-STATUS_UNDONE-clause-damaged
returns-then-extent-ne-STATUS_UNDONE-clause-damaged g c = λ kind place is.
    let i = c.undone.invariant in
    let s = c.in_ok-step.ensures in
    let says = subst (λ (d : Option Told). IfSome d (λ told. StepsOn (content told) c.undone.at c.undone.self.last c.undone.self.kept c.step.new.self.kept c.in_ok-step.field-0)) i.only.same s.says in
    let ahead = subst (λ (d : Option Told). IsAhead d c.step.new.self.ahead) i.only.same s.ahead in
    stands_there (g.D.Disk.told c.args.disk.now) c.in_ok-len.len c.args.self.now c.undone.self c.step.new.self c.undone.at i.underway ahead c.in-Right.extent (rw c.in-Right.is at says) (rw c.in-Right.is at s.goes) _ kind place (s.only_reads.same ∙ i.only.same) c.if-extent-ne-STATUS_UNDONE.true (c.whole_in.ensures.damaged kind place is)

pub returns-then-extent-ne-STATUS_UNDONE-clause-only_reads : goal.returns-then-extent-ne-STATUS_UNDONE-clause-only_reads
returns-then-extent-ne-STATUS_UNDONE-clause-only_reads g c =
    reads_then (reads_then c.undone.invariant.only (λ none. none) (reads_as c.in_ok-step.ensures.only_reads (λ e. cc) (λ none. absurd none))) (λ none. none) c.whole_in.ensures.only_reads

pub undone-preserved : goal.undone-preserved
undone-preserved g c =
    let i = c.undone.invariant in
    let s = c.in_ok-step.ensures in
    let says = subst (λ (d : Option Told). IfSome d (λ told. StepsOn (content told) c.undone.at c.undone.self.last c.undone.self.kept c.step.new.self.kept c.in_ok-step.field-0)) i.only.same s.says in
    let ahead = subst (λ (d : Option Told). IsAhead d c.step.new.self.ahead) i.only.same s.ahead in
    let goes = rw c.in-Right.is at s.goes in
    record {
      underway = goes_over (g.D.Disk.told c.args.disk.now) c.in_ok-len.len c.args.self.now c.undone.self c.step.new.self c.undone.at i.underway ahead c.in-Right.extent (rw c.in-Right.is at says) goes _ (omega arith) c.if-extent-ne-STATUS_UNDONE.false;
      length = i.length;
      here = ap (λ (course : Course). course.place) goes.there ∙ ap Some (omega arith);
      last = same_last c.undone.self.last c.in-Right.extent c.if-extent-ne-STATUS_UNDONE.false (ap (λ (course : Course). course.last) goes.there) ∙ i.last;
      rises = omega (arith, i.rises);
      only = reads_then i.only (λ none. none) (reads_as s.only_reads (λ e. cc) (λ none. absurd none));
    }
