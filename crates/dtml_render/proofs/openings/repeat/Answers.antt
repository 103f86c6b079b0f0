use Rattle.std.proofs.Common.{◌∙◌, ap, sym, Some}
use Rattle.std.specs.Prelude.{if◌then◌else◌}
use Rattle.std.proofs.lemmas.Result.{err_from_is_err_and}
use Rattle.dtml_parse.specs.Views.{arg_view, otherwise_view}
use Rattle.dtml_values.specs.Told.{told}
use Rattle.dtml_render.specs.Frames.{opening_view}
use Rattle.dtml_render.specs.Loops.{loop_view}
use Rattle.dtml_render.specs.Rendering.{state, turned}
use Rattle.dtml_render.specs.Resuming.{Turning, else_opening}
use Rattle.dtml_render.specs.Spots.{block_in}
use Rattle.dtml_render.proofs.OpeningLaws.{repeated_so, repeated_stops, repeated_unmet}
use Rattle.dtml_render.proofs.openings.repeat.Goals as goal
use Rattle.std.proofs.Common.{refl}

pub returns-in_err-value : goal.returns-in_err-value
returns-in_err-value c = λ k shown out left block.
    let p = err_from_is_err_and c.from_residual.result c.from_residual.ensures.1 in
    rw (p.1, p.2) (repeated_unmet k shown c.args.tag.now.at (arg_view c.args.tag.now.arg.now) c.args.tag.now.reverse c.args.tag.now.skip block (otherwise_view c.args.tag.now.otherwise.now) out c.args.found left (told c.in_err-value.field-0.0) (c.in_err-value.ensures k shown left))

pub returns-in_err-items : goal.returns-in_err-items
returns-in_err-items c = λ k shown out left block.
    let p = err_from_is_err_and c.from_residual-in_err-items.result c.from_residual-in_err-items.ensures.1 in
    rw (p.1, p.2) (repeated_stops k shown c.args.tag.now.at (arg_view c.args.tag.now.arg.now) c.args.tag.now.reverse c.args.tag.now.skip block (otherwise_view c.args.tag.now.otherwise.now) out c.args.found left c.in_ok-value.value (told c.in_err-items.field-0.0) (c.in_ok-value.ensures k shown left) (c.in_err-items.ensures k shown))

pub returns-then-is_empty : goal.returns-then-is_empty
unfolding block_in
returns-then-is_empty c = λ k shown out left block.
    repeated_so k shown c.args.tag.now.at (arg_view c.args.tag.now.arg.now) c.args.tag.now.reverse c.args.tag.now.skip block (otherwise_view c.args.tag.now.otherwise.now) out c.args.found left c.in_ok-value.value c.in_ok-items.items (opening_view (Some (loop_view c.args.tag.now block)) (state out left) c.else_opening.result) (c.in_ok-value.ensures k shown left) (c.in_ok-items.ensures k shown)
    (ap (λ b. if b then else_opening (otherwise_view c.args.tag.now.otherwise.now) (state out left) else Turning c.args.tag.now.skip (turned c.args.tag.now.reverse c.in_ok-items.items) block (state out left)) (sym c.is_empty.ensures ∙ c.if-is_empty.true)
    ∙ sym (c.else_opening.ensures (loop_view c.args.tag.now block) (state out left) refl))

pub returns : goal.returns
returns c = λ k shown out left block.
    repeated_so k shown c.args.tag.now.at (arg_view c.args.tag.now.arg.now) c.args.tag.now.reverse c.args.tag.now.skip block (otherwise_view c.args.tag.now.otherwise.now) out c.args.found left c.in_ok-value.value c.in_ok-items.items (opening_view (Some (loop_view c.args.tag.now block)) (state out left) c.turning.result) (c.in_ok-value.ensures k shown left) (c.in_ok-items.ensures k shown)
    (ap (λ b. if b then else_opening (otherwise_view c.args.tag.now.otherwise.now) (state out left) else Turning c.args.tag.now.skip (turned c.args.tag.now.reverse c.in_ok-items.items) block (state out left)) (sym c.is_empty.ensures ∙ c.if-is_empty.false)
    ∙ sym (c.turning.ensures block (state out left)))
