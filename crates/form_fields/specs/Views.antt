-- What the code's answers mean.
use Rattle.std.specs.Prelude.{ℕ, List, map}
use Rattle.form_fields.specs.declared.pairs.Pair.{Pair}
use Rattle.form_fields.specs.declared.names.Named.{Named as NamedAnswer}
use Rattle.form_fields.specs.Names.{Named}

abbrev pub pair_views : List Pair → List (List ℕ × List ℕ)
pair_views all = map (λ x. (x.name, x.value)) all

abbrev pub named_view : NamedAnswer → Named
named_view x = record { name = x.name.now; is_int = x.is_int; is_list = x.is_list }
