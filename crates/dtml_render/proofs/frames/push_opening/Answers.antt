use Rattle.std.proofs.Common.{◌∙◌, refl, sym, ap}
use Rattle.namespace.specs.Names.{Space}
use Rattle.dtml_render.specs.declared.openings.Opening.{Opening as OpeningCode}
use Rattle.dtml_render.specs.Frames.{frames_view, layers_of, node_view, opening_view, spot_view}
use Rattle.dtml_render.specs.Resuming.{after_opening}
use Rattle.dtml_render.specs.Spots.{asking_under, block_under}
use Rattle.dtml_render.proofs.Standing.{ask_deep, asked_so, nested_more, on_ok, turning_so, within_so}
use Rattle.dtml_render.proofs.frames.push_opening.Goals as goal

pub returns-in-Ended-clause-goes : goal.returns-in-Ended-clause-goes
unfolding after_opening
returns-in-Ended-clause-goes c = λ renders s. sym (ap (λ (o : OpeningCode). after_opening (opening_view (node_view c.args.tag) s o) (frames_view c.args.frames.now.items) renders c.args.stack.now.scope) c.in-Ended.is)

pub returns-in_ok-inner-in-Within-clause-goes : goal.returns-in_ok-inner-in-Within-clause-goes
returns-in_ok-inner-in-Within-clause-goes c = on_ok _ _ c.push_block.result
    (λ is renders s.
    within_so c.args.stack.now.scope c.push_layer.new.stack.scope (layers_of c.in-Within.layer) (frames_view c.args.frames.now.items) (frames_view c.push_block.new.frames.items) (ap (λ (space : Space). space.scope) c.in_ok-push_layer-in-Within.ensures.ok) renders s
    (spot_view c.in_ok-inner-in-Within.field-0.value) (block_under c.in-Within.part (node_view c.args.tag)) c.in_ok-inner-in-Within.ensures is
    ∙ sym (ap (λ (o : OpeningCode). after_opening (opening_view (node_view c.args.tag) s o) (frames_view c.args.frames.now.items) renders c.args.stack.now.scope) c.in-Within.is))
    c.push_block.ensures

pub returns-in_ok-inner-in-Within-clause-nested : goal.returns-in_ok-inner-in-Within-clause-nested
returns-in_ok-inner-in-Within-clause-nested c = on_ok _ _ c.push_block.result
    (λ is low nested.
    nested_more low c.args.stack.now.scope c.push_layer.new.stack.scope (layers_of c.in-Within.layer) _ (frames_view c.args.frames.now.items) (frames_view c.push_block.new.frames.items) (ap (λ (space : Space). space.scope) c.in_ok-push_layer-in-Within.ensures.ok) refl is nested)
    c.push_block.ensures

pub returns-in_ok-push_layer-in-Asked-clause-goes : goal.returns-in_ok-push_layer-in-Asked-clause-goes
returns-in_ok-push_layer-in-Asked-clause-goes c = on_ok _ _ c.push_ask.result
    (λ is renders s.
    asked_so c.args.stack.now.scope c.push_layer-in-Asked.new.stack.scope (layers_of c.in-Asked.layer) (frames_view c.args.frames.now.items) (frames_view c.push_ask.new.frames.items) (ap (λ (space : Space). space.scope) c.in_ok-push_layer-in-Asked.ensures.ok) renders s
    (asking_under c.in-Asked.part (node_view c.args.tag)) is
    ∙ sym (ap (λ (o : OpeningCode). after_opening (opening_view (node_view c.args.tag) s o) (frames_view c.args.frames.now.items) renders c.args.stack.now.scope) c.in-Asked.is))
    c.push_ask.ensures

pub returns-in_ok-push_layer-in-Asked-clause-nested : goal.returns-in_ok-push_layer-in-Asked-clause-nested
returns-in_ok-push_layer-in-Asked-clause-nested c = on_ok _ _ c.push_ask.result
    (λ is low nested.
    nested_more low c.args.stack.now.scope c.push_layer-in-Asked.new.stack.scope (layers_of c.in-Asked.layer) _ (frames_view c.args.frames.now.items) (frames_view c.push_ask.new.frames.items) (ap (λ (space : Space). space.scope) c.in_ok-push_layer-in-Asked.ensures.ok) (ask_deep _ _) is nested)
    c.push_ask.ensures

pub returns-in_ok-inner-in-Turning-clause-goes : goal.returns-in_ok-inner-in-Turning-clause-goes
returns-in_ok-inner-in-Turning-clause-goes c = on_ok _ _ c.push_turns.result
    (λ is renders s.
    turning_so c.args.stack.now.scope (frames_view c.args.frames.now.items) (frames_view c.push_turns.new.frames.items) renders s c.in-Turning.skip c.in-Turning.items.items (spot_view c.in_ok-inner-in-Turning.field-0.value) (block_under 0 (node_view c.args.tag)) c.in_ok-inner-in-Turning.ensures is
    ∙ sym (ap (λ (o : OpeningCode). after_opening (opening_view (node_view c.args.tag) s o) (frames_view c.args.frames.now.items) renders c.args.stack.now.scope) c.in-Turning.is))
    c.push_turns.ensures
