use Rattle.std.proofs.Common.{◌≡◌, sym, subst, IfOk}
use Rattle.std.specs.List.{IsDistinct}
use Rattle.std.specs.Str.{bytes_eq}
use Rattle.form_fields.specs.declared.field.Field.{Field}
use Rattle.form_fields.specs.declared.rows.Row.{Row}
use Rattle.form_fields.proofs.Apart.{apart_fields}
use Rattle.form_fields.proofs.grouping.grouped.Goals as goal

pub returns-then-branch : goal.returns-then-branch
returns-then-branch c =
    let distinct = subst (IsDistinct (λ (r q : Row). bytes_eq r.name q.name)) c.as_slice.ensures.value (c.in_ok-names_differ.ensures c.if-branch.true) in
    subst (λ fs. IfOk c.each_alone.result (λ fields. fields ≡ fs)) (sym (apart_fields c.args.rows.items distinct)) c.each_alone.ensures
