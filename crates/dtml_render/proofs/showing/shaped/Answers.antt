use Rattle.std.proofs.Common.{◌∙◌, sym, ap, List, ℕ, Ok}
use Rattle.std.proofs.lemmas.Result.{err_from_is_err_and}
use Rattle.dtml_format.specs.Shaping.{shape}
use Rattle.dtml_parse.specs.Views.{arg_view, marks_view}
use Rattle.dtml_values.specs.StepLaws.{goes, stops}
use Rattle.dtml_values.specs.Told.{told}
use Rattle.dtml_render.specs.Rendering.{shaped_by, text_of}
use Rattle.dtml_render.proofs.PlainLaws.{plain_stays}
use Rattle.dtml_render.proofs.showing.shaped.Goals as goal

pub returns-in_err-text : goal.returns-in_err-text
returns-in_err-text c = λ k shown.
    let p = err_from_is_err_and c.from_residual.result c.from_residual.ensures.1 in
    rw (p.1, p.2) (stops k shown (text_of c.args.at (arg_view c.args.tag.now.arg) c.args.tag.now.missing c.args.found) (shaped_by (marks_view c.args.tag.now)) (told c.in_err-text.field-0.0) (c.in_err-text.ensures k shown))

pub returns-then-is_plain : goal.returns-then-is_plain
returns-then-is_plain c = λ k shown.
    goes k shown (text_of c.args.at (arg_view c.args.tag.now.arg) c.args.tag.now.missing c.args.found) (shaped_by (marks_view c.args.tag.now)) c.in_ok-text.text shown _ (c.in_ok-text.ensures k shown)
    (ap (λ (t : List ℕ). Ok (t, shown)) (plain_stays (marks_view c.args.tag.now) c.in_ok-text.text (sym c.if-is_plain.ensures)))

pub returns : goal.returns
returns c = λ k shown.
    goes k shown (text_of c.args.at (arg_view c.args.tag.now.arg) c.args.tag.now.missing c.args.found) (shaped_by (marks_view c.args.tag.now)) c.in_ok-text.text shown _ (c.in_ok-text.ensures k shown)
    (ap (λ (t : List ℕ). Ok (t, shown)) (sym (c.in_ok-shape.ensures ∙ ap (λ (t : List ℕ). shape t c.in_ok-marks.marks) c.as_str.ensures ∙ ap (shape c.in_ok-text.text) c.in_ok-marks.ensures)))
