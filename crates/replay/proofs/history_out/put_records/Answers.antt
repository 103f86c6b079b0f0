use Rattle.zbase.specs.Faults.{counts_as, counts_then}
use Rattle.fs_scan.specs.declared.wholes.OidValue.{OidValue}
use Rattle.schedule.specs.Explained.{record_line}
use Rattle.replay.proofs.PrintSteps.{prints_next_line}
use Rattle.replay.proofs.history_out.put_records.Goals as goal

pub loop-written-preserved : goal.loop-written-preserved
loop-written-preserved g c =
    record {
      printed = prints_next_line record_line (λ (v : OidValue). (v.oid, v.value)) _ _ _ c.args.values.now c.loop-written.written-index c.written-item.result c.loop-written-test.true c.written-item.is c.loop-written.invariant.printed c.in_ok-put_record.ensures.ok;
      counts = counts_then c.loop-written.invariant.counts (λ none. none) (counts_as c.in_ok-put_record.ensures.counts (λ e. cc) (λ none. absurd none));
    }
