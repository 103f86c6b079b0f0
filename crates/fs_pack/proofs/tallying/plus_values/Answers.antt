use Rattle.std.proofs.Common.{◌∙◌, sym, ap, List}
use Rattle.fs_scan.specs.Wholes.{records_in}
use Rattle.fs_scan.specs.declared.wholes.OidValue.{OidValue}
use Rattle.fs_pack.specs.Measured.{plus_records}
use Rattle.fs_pack.proofs.Steps.{none_left, size_step}
use Rattle.fs_pack.proofs.tallying.plus_values.Goals as goal

pub loop-value-preserved : goal.loop-value-preserved
loop-value-preserved c =
    size_step c.loop-value.value-index c.args.values.now c.value-item.result c.loop-value.size c.plus.result c.plus-size.result _ c.value_size.result c.value-item.is c.loop-value-test.true c.plus.ensures c.value_size.ensures c.plus-size.ensures c.loop-value.invariant

pub returns : goal.returns
returns c =
    sym (ap (λ (vs : List OidValue). plus_records c.loop-value.size (records_in vs)) (none_left c.loop-value.value-index c.args.values.now c.loop-value-test.false)) ∙ c.loop-value.invariant
