use Rattle.std.proofs.Common.{◌∙◌, sym, ap}
use Rattle.std.specs.List.{find}
use Rattle.std.specs.Str.{bytes_eq}
use Rattle.zobject.specs.declared.object.Property.{Property}
use Rattle.namespace.specs.Viewing.{lent, lent_as, lent_property}
use Rattle.namespace.proofs.viewed.lent.Goals as goal

pub returns-in-Other : goal.returns-in-Other
unfolding lent
returns-in-Other c =
    c.line_in.ensures ∙ ap lent_property (c.property_of.ensures ∙ ap (find (λ (p : Property). bytes_eq p.name c.args.name.now)) c.as_slice.ensures)
    ∙ ap (λ w. lent_as w c.args.name.now c.args.object.now) (sym c.in-Other.is ∙ c.word_of.ensures)
