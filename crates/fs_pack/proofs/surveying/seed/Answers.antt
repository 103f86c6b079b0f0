use Rattle.std.proofs.Common.{◌∙◌, sym, ap, List}
use Rattle.fs_scan.specs.Wholes.{records_in}
use Rattle.fs_scan.specs.declared.wholes.OidValue.{OidValue}
use Rattle.fs_pack.specs.Surveyed.{failing, seeded}
use Rattle.fs_pack.proofs.Steps.{fail_step, none_left, seed_step}
use Rattle.fs_pack.proofs.surveying.seed.Goals as goal

pub loop-value-preserved : goal.loop-value-preserved
loop-value-preserved g c =
    let i = c.loop-value.invariant in
    record {
      kept = seed_step g.L.Links.linked c.loop-value.value-index c.args.values.now c.value-item.result c.loop-value.kept c.add.new.self c.lead.new.marks _ c.value-item.is c.loop-value-test.true c.in_ok-add.ensures.ok c.in_ok-none.ensures.added i.kept;
      broken = fail_step g.L.Links.linked c.loop-value.value-index c.args.values.now c.value-item.result c.in_ok-none.none c.loop-value.broken c.broken_by-broken.result _ c.value-item.is c.loop-value-test.true c.in_ok-none.ensures.none c.broken_by-broken.ensures i.broken;
    }

pub returns-clause-kept : goal.returns-clause-kept
returns-clause-kept g c =
    sym (ap (λ (vs : List OidValue). seeded g.L.Links.linked (records_in vs) c.loop-value.kept) (none_left c.loop-value.value-index c.args.values.now c.loop-value-test.false)) ∙ c.loop-value.invariant.kept

pub returns-clause-broken : goal.returns-clause-broken
returns-clause-broken g c =
    sym (ap (λ (vs : List OidValue). failing g.L.Links.linked (records_in vs) c.loop-value.broken) (none_left c.loop-value.value-index c.args.values.now c.loop-value-test.false)) ∙ c.loop-value.invariant.broken
