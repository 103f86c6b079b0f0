use Rattle.std.proofs.Common.{◌∙◌, sym, ap, arith, List}
use Rattle.fs_index.specs.Places.{place_of}
use Rattle.fs_scan.specs.Wholes.{records_in}
use Rattle.fs_scan.specs.declared.wholes.OidValue.{OidValue}
use Rattle.fs_pack.specs.Numbered.{last_number, oids_of}
use Rattle.fs_pack.proofs.Steps.{none_left, number_step}
use Rattle.fs_pack.proofs.surveying.number_on.Goals as goal

pub loop-value-preserved : goal.loop-value-preserved
loop-value-preserved c =
    let i = c.loop-value.invariant in
    record {
      newest = λ o. number_step o c.loop-value.number c.loop-value.value-index c.args.values.now c.value-item.result (place_of c.loop-value.newest o) (place_of c.reserve.new.self o) (place_of c.put.new.self o) _ c.value-item.is c.loop-value-test.true (c.in_ok-reserve.ensures.places o) (c.put.ensures.places o) (i.newest o);
      records = omega (arith, i.records);
    }

pub returns-clause-newest : goal.returns-clause-newest
returns-clause-newest c = λ o.
    let i = c.loop-value.invariant in
    sym (ap (λ (vs : List OidValue). last_number o (place_of c.loop-value.newest o) c.loop-value.number (oids_of (records_in vs))) (none_left c.loop-value.value-index c.args.values.now c.loop-value-test.false)) ∙ i.newest o
