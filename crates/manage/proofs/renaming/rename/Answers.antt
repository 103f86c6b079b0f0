use Rattle.std.proofs.Common.{◌∙◌, ap, sym}
use Rattle.zobject.specs.Shapes.{child_in, form_of}
use Rattle.manage.specs.Fields.{text_of as said}
use Rattle.manage.specs.declared.refusal.FieldName.TheVariants as field
use Rattle.manage.proofs.Renamed.{child_is}
use Rattle.manage.proofs.renaming.rename.Goals as goal

pub rename_child-requires-clause-folder : goal.rename_child-requires-clause-folder
rename_child-requires-clause-folder c =
    c.requires.right.0 c.in-Some.child
    (sym (child_is (said field.Id c.args.fields.now) c.args.folder.now.part) ∙ ap (λ name. child_in name (form_of c.args.folder.now.part)) (sym (c.as_str.ensures ∙ c.in_ok-id.ensures))
    ∙ sym c.child_in.ensures ∙ c.in-Some.is)
