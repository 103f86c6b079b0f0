use Rattle.std.proofs.Common.{◌≡◌, ◌++◌, map}
use Rattle.form_urlencoded.specs.Parse.{pairs_left}
use Rattle.form_fields.specs.Pairs.{decoded, pairs_of}
use Rattle.form_fields.specs.Views.{pair_views}
use Rattle.form_fields.proofs.pairs.add_pairs.Given as goal

abbrev pub invariant-loop-pair : goal.invariant-loop-pair
invariant-loop-pair l = pair_views l.all ++ map decoded (pairs_left l.pair-iterator) ≡ pair_views l.initial.all ++ pairs_of l.text
