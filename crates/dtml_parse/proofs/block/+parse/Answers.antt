use Rattle.std.proofs.Common.{◌≡◌, ◌∙◌, inl, inr, ℕ, suc, Option, Some, None, IfSome, true, false, refl, sym, ap, subst, rules, arith}
use Rattle.std.proofs.lemmas.Result.{err_from_is_err_and}
use Rattle.dtml_lex.specs.declared.part.TagName.TheVariants as tags
use Rattle.dtml_lex.specs.declared.part.SourcePart.{SourcePart}
use Rattle.dtml_lex.specs.Source.{IsPartAt}
use Rattle.dtml_lex.specs.declared.refusal.DtmlRefusal.TheVariants as refusals
use Rattle.dtml_parse.specs.Trees as trees
use Rattle.dtml_parse.specs.Pieces as pieces
use Rattle.dtml_parse.specs.Grammar.{Stands, IsItem, IsBlock, AreArms}
use Rattle.dtml_parse.specs.Refusals.{if_else}
use Rattle.dtml_parse.specs.Parsing.{ends_block, stop_at}
use Rattle.dtml_parse.specs.Views.{arg_view, bounds_view, list_view, view, arm_list_view, piece_view, node_view}
use Rattle.dtml_parse.specs.declared.piece.Piece.{Piece}
use Rattle.dtml_parse.specs.declared.tree.Arms.{roll-Arms}
use Rattle.dtml_parse.proofs.Steps.{inner, not_lexed, no_stray, no_piece, one_more, snoc, snoc_arm, stands_forward, item_forward, block_forward, memory_first, in_arm, behind_block, done_arms, next_tag, in_single, in_loop, too_deep, encloses}
use Rattle.dtml_parse.specs.ViewLaws.{arms_made, if_view, loop_view, unless_view, with_view, let_view, comment_view}
use Rattle.dtml_parse.proofs.ViewLemmas.{list_view_push, arm_list_push, closes_if, closes_in}
use Rattle.dtml_parse.proofs.block.+parse.Goals as goal

pub block_of-parts-init : goal.block_of-parts-init
block_of-parts-init t c =
    record { read = rw c.in_ok-items.ensures refl; boundary = assumption (c.requires.1) }

pub block_of-returns-in_err-items-clause-refused : goal.block_of-returns-in_err-items-clause-refused
block_of-returns-in_err-items-clause-refused t c =
    let p = err_from_is_err_and c.from_residual.result c.from_residual.ensures.1 in
    rw (p.1, p.2) (λ outer. memory_first c.args.source.now c.args.levels outer c.args.start)

pub block_of-returns-in_err-part-clause-refused : goal.block_of-returns-in_err-part-clause-refused
block_of-returns-in_err-part-clause-refused t c =
    let p = err_from_is_err_and c.from_residual-in_err-part.result c.from_residual-in_err-part.ensures.1 in
    rw (p.1, p.2) (λ outer. behind_block c.args.source.now c.args.levels outer (list_view c.parts.items.items) c.args.start c.parts.at c.in_err-part.field-0.0 c.parts.invariant.read
    (not_lexed c.args.source.now c.args.levels outer c.parts.at c.in_err-part.field-0.0 c.in_err-part.ensures.refused))

pub block_of-returns-in_err-piece-clause-refused : goal.block_of-returns-in_err-piece-clause-refused
block_of-returns-in_err-piece-clause-refused t c =
    let p = err_from_is_err_and c.from_residual-in_err-piece.result c.from_residual-in_err-piece.ensures.1 in
    let part = subst (λ (o : Option SourcePart). IfSome o (IsPartAt c.args.source.now c.parts.at)) c.in-Some.is c.in_ok-part.ensures.part in
    let inside : ends_block c.in-Some.part.kind ≡ false = sym c.ends_block.ensures ∙ c.if-ends_block.false in
    rw (p.1, p.2) (λ outer. behind_block c.args.source.now c.args.levels outer (list_view c.parts.items.items) c.args.start c.parts.at c.in_err-piece.field-0.0 c.parts.invariant.read
    (no_piece c.args.source.now c.args.levels outer c.in-Some.part c.parts.at c.in_err-piece.field-0.0 part (no_stray outer c.in-Some.part.kind inside) c.in_err-piece.ensures.refused))

pub block_of-returns-in_err-push-clause-refused : goal.block_of-returns-in_err-push-clause-refused
block_of-returns-in_err-push-clause-refused t c =
    let p = err_from_is_err_and c.from_residual-in_err-push.result c.from_residual-in_err-push.ensures.1 in
    rw (p.1, p.2) (λ outer. memory_first c.args.source.now c.args.levels outer c.args.start)

pub block_of-parts-smaller : goal.block_of-parts-smaller
block_of-parts-smaller t c =
    let forward = item_forward c.args.source.now (node_view c.in_ok-node.node) c.args.levels c.parts.at c.in_ok-node.behind c.in_ok-node.ensures.read in
    omega (arith, forward.0, forward.1.0)

pub block_of-parts-preserved : goal.block_of-parts-preserved
block_of-parts-preserved t c =
    let forward = item_forward c.args.source.now (node_view c.in_ok-node.node) c.args.levels c.parts.at c.in_ok-node.behind c.in_ok-node.ensures.read in
    let pushed : list_view c.push.new.items.items ≡ snoc (list_view c.parts.items.items) (node_view c.in_ok-node.node) = ap list_view c.in_ok-push.ensures ∙ list_view_push c.parts.items.items c.in_ok-node.node in
    record {
      read = subst (λ (b : trees.Items). IsBlock c.args.source.now b c.args.levels c.args.start c.in_ok-node.behind) (sym pushed)
          (one_more c.args.source.now (list_view c.parts.items.items) (node_view c.in_ok-node.node) c.args.levels c.args.start c.parts.at c.in_ok-node.behind c.parts.invariant.read c.in_ok-node.ensures.read);
      boundary = forward.1;
    }

pub whole_block-returns-in_err-end-clause-refused : goal.whole_block-returns-in_err-end-clause-refused
whole_block-returns-in_err-end-clause-refused t c =
    let p = err_from_is_err_and c.from_residual-in_err-end.result c.from_residual-in_err-end.ensures.1 in
    rw (p.1, p.2) (behind_block c.args.source.now c.args.levels (Some (record { at = c.args.at; name = c.args.name; goes_on = false })) (view c.in_ok-block.block) c.args.start (stop_at c.args.source.now c.in_ok-block.stop) c.in_err-end.field-0.0 c.in_ok-block.ensures.read
    (c.in_err-end.ensures.refused c.args.source.now c.args.levels c.in_ok-block.ensures.stops))

pub in_of-returns-in_err-block-clause-refused : goal.in_of-returns-in_err-block-clause-refused
in_of-returns-in_err-block-clause-refused t c =
    let p = err_from_is_err_and c.from_residual.result c.from_residual.ensures.1 in
    rw (p.1, p.2) (inl (c.in_err-block.ensures.refused (Some (record { at = c.args.at; name = tags.In; goes_on = true }))))

pub in_of-returns-in_err-piece-clause-refused : goal.in_of-returns-in_err-piece-clause-refused
in_of-returns-in_err-piece-clause-refused t c =
    let p = err_from_is_err_and c.from_residual-in_err-piece.result c.from_residual-in_err-piece.ensures.1 in
    rw (p.1, p.2) (inl (behind_block c.args.source.now c.args.levels (Some (record { at = c.args.at; name = tags.In; goes_on = true })) (view c.in_ok-block.block) c.args.start (stop_at c.args.source.now c.in_ok-block.stop) c.in_err-piece.field-0.0 c.in_ok-block.ensures.read (c.in_err-piece.ensures.refused c.args.source.now c.args.levels c.in_ok-block.ensures.stops)))

pub in_of-whole_block-requires : goal.in_of-whole_block-requires
in_of-whole_block-requires t c =
    let turn = c.in_ok-piece.ensures.read c.args.source.now c.in_ok-block.ensures.stops in
    (search rules, (search rules, (stands_forward c.args.source.now (piece_view c.in_ok-piece.piece) (stop_at c.args.source.now c.in_ok-block.stop) c.in_ok-piece.end turn).1))

pub in_of-returns-in_err-otherwise-clause-refused : goal.in_of-returns-in_err-otherwise-clause-refused
in_of-returns-in_err-otherwise-clause-refused t c =
    let turn = c.in_ok-piece.ensures.read c.args.source.now c.in_ok-block.ensures.stops in
    let other = subst (λ (x : Piece). Stands c.args.source.now (stop_at c.args.source.now c.in_ok-block.stop) (piece_view x) c.in_ok-piece.end) c.in-Else.is turn in
    let p = err_from_is_err_and c.from_residual-in_err-otherwise.result c.from_residual-in_err-otherwise.ensures.1 in
    rw (p.1, p.2) (inr (view c.in_ok-block.block, stop_at c.args.source.now c.in_ok-block.stop, c.in_ok-block.ensures.read, (c.in_ok-piece.end, other, c.in_err-otherwise.ensures.refused)))

pub in_of-returns-in_default-clause-read : goal.in_of-returns-in_default-clause-read
in_of-returns-in_default-clause-read t c =
    let turn = c.in_ok-piece.ensures.read c.args.source.now c.in_ok-block.ensures.stops in
    let last = closes_in c.in_ok-piece.piece (c.in_ok-piece.ensures.turns c.args.source.now c.in_ok-block.ensures.stops) c.in_default.not-Else in
    let close = subst (λ (x : pieces.Piece). Stands c.args.source.now (stop_at c.args.source.now c.in_ok-block.stop) x c.in_ok-piece.end) last turn in
    ((stop_at c.args.source.now c.in_ok-block.stop), (stop_at c.args.source.now c.in_ok-block.stop), c.in_ok-block.ensures.read, refl, close)

pub if_of-returns-in_err-block-clause-refused : goal.if_of-returns-in_err-block-clause-refused
if_of-returns-in_err-block-clause-refused t c =
    let p = err_from_is_err_and c.from_residual.result c.from_residual.ensures.1 in
    rw (p.1, p.2) (in_arm c.args.source.now c.args.levels c.args.at (arm_list_view c.arms.items.items) (arg_view c.arms.arm_arg) c.arms.arm_at c.arms.arm_start c.in_err-block.field-0.0 c.arms.invariant.arms c.arms.invariant.stands (c.in_err-block.ensures.refused (Some (record { at = c.args.at; name = tags.If; goes_on = true }))))

pub if_of-returns-in_err-push-clause-refused : goal.if_of-returns-in_err-push-clause-refused
if_of-returns-in_err-push-clause-refused t c =
    let p = err_from_is_err_and c.from_residual-in_err-push.result c.from_residual-in_err-push.ensures.1 in
    rw (p.1, p.2) (in_arm c.args.source.now c.args.levels c.args.at (arm_list_view c.arms.items.items) (arg_view c.arms.arm_arg) c.arms.arm_at c.arms.arm_start refusals.Memory c.arms.invariant.arms c.arms.invariant.stands (memory_first c.args.source.now c.args.levels (Some (record { at = c.args.at; name = tags.If; goes_on = true })) c.arms.arm_start))

pub if_of-returns-in_err-piece-clause-refused : goal.if_of-returns-in_err-piece-clause-refused
if_of-returns-in_err-piece-clause-refused t c =
    let p = err_from_is_err_and c.from_residual-in_err-piece.result c.from_residual-in_err-piece.ensures.1 in
    rw (p.1, p.2) (in_arm c.args.source.now c.args.levels c.args.at (arm_list_view c.arms.items.items) (arg_view c.arms.arm_arg) c.arms.arm_at c.arms.arm_start c.in_err-piece.field-0.0 c.arms.invariant.arms c.arms.invariant.stands
    (behind_block c.args.source.now c.args.levels (Some (record { at = c.args.at; name = tags.If; goes_on = true })) (view c.in_ok-block.block) c.arms.arm_start (stop_at c.args.source.now c.in_ok-block.stop) c.in_err-piece.field-0.0 c.in_ok-block.ensures.read (c.in_err-piece.ensures.refused c.args.source.now c.args.levels c.in_ok-block.ensures.stops)))

pub if_of-arms-smaller : goal.if_of-arms-smaller
if_of-arms-smaller t c =
    let turn = c.in_ok-piece.ensures.read c.args.source.now c.in_ok-block.ensures.stops in
    let ahead = stands_forward c.args.source.now (piece_view c.in_ok-piece.piece) (stop_at c.args.source.now c.in_ok-block.stop) c.in_ok-piece.end turn in
    let within = block_forward c.args.source.now (view c.in_ok-block.block) c.args.levels c.arms.arm_start (stop_at c.args.source.now c.in_ok-block.stop) c.in_ok-block.ensures.read in
    omega (arith, ahead.0, ahead.1.0, within)

pub if_of-arms-preserved : goal.if_of-arms-preserved
if_of-arms-preserved t c =
    let turn = c.in_ok-piece.ensures.read c.args.source.now c.in_ok-block.ensures.stops in
    let pushed : arm_list_view c.push.new.items.items ≡ snoc_arm (arm_list_view c.arms.items.items) c.arms.arm_at (arg_view c.arms.arm_arg) (view c.in_ok-block.block) = ap arm_list_view c.in_ok-push.ensures ∙ arm_list_push c.arms.items.items _ in
    let done = done_arms c.args.source.now (arm_list_view c.arms.items.items) (arm_list_view c.push.new.items.items) c.args.levels c.args.at c.arms.arm_at (arg_view c.arms.arm_arg) (view c.in_ok-block.block) c.arms.arm_start (stop_at c.args.source.now c.in_ok-block.stop) pushed c.arms.invariant.arms c.arms.invariant.stands c.in_ok-block.ensures.read in
    let tag = subst (λ (x : Piece). Stands c.args.source.now (stop_at c.args.source.now c.in_ok-block.stop) (piece_view x) c.in_ok-piece.end) c.in-Elif.is turn in
    let here = c.in_ok-piece.ensures.place c.args.source.now in
    record {
      arms = subst (λ (n : ℕ). AreArms c.args.source.now (arm_list_view c.push.new.items.items) c.args.levels pieces.If c.args.at n) (sym here) done.1;
      stands = next_tag c.args.source.now (arm_list_view c.arms.items.items) (arm_list_view c.push.new.items.items) c.arms.arm_at (arg_view c.arms.arm_arg) (view c.in_ok-block.block) (arg_view c.in-Elif.arg) c.in_ok-piece.turn_at c.in_ok-piece.end pushed
          (subst (λ (n : ℕ). Stands c.args.source.now n (pieces.Elif (arg_view c.in-Elif.arg)) c.in_ok-piece.end) (sym here) tag);
    }

pub if_of-whole_block-requires : goal.if_of-whole_block-requires
if_of-whole_block-requires t c =
    let turn = c.in_ok-piece.ensures.read c.args.source.now c.in_ok-block.ensures.stops in
    (search rules, (search rules, (stands_forward c.args.source.now (piece_view c.in_ok-piece.piece) (stop_at c.args.source.now c.in_ok-block.stop) c.in_ok-piece.end turn).1))

pub if_of-returns-in_err-otherwise-in-Else-clause-refused : goal.if_of-returns-in_err-otherwise-in-Else-clause-refused
if_of-returns-in_err-otherwise-in-Else-clause-refused t c =
    let turn = c.in_ok-piece.ensures.read c.args.source.now c.in_ok-block.ensures.stops in
    let other = subst (λ (x : Piece). Stands c.args.source.now (stop_at c.args.source.now c.in_ok-block.stop) (piece_view x) c.in_ok-piece.end) c.in-Else.is turn in
    let pushed : arm_list_view c.push.new.items.items ≡ snoc_arm (arm_list_view c.arms.items.items) c.arms.arm_at (arg_view c.arms.arm_arg) (view c.in_ok-block.block) = ap arm_list_view c.in_ok-push.ensures ∙ arm_list_push c.arms.items.items _ in
    let done = done_arms c.args.source.now (arm_list_view c.arms.items.items) (arm_list_view c.push.new.items.items) c.args.levels c.args.at c.arms.arm_at (arg_view c.arms.arm_arg) (view c.in_ok-block.block) c.arms.arm_start (stop_at c.args.source.now c.in_ok-block.stop) pushed c.arms.invariant.arms c.arms.invariant.stands c.in_ok-block.ensures.read in
    let p = err_from_is_err_and c.from_residual-in_err-otherwise-in-Else.result c.from_residual-in_err-otherwise-in-Else.ensures.1 in
    rw (p.1, p.2) (record { at = c.args.at; name = tags.If; goes_on = false }, c.in_ok-piece.end, if_else (arm_list_view c.push.new.items.items) (stop_at c.args.source.now c.in_ok-block.stop) done.0 done.1 other, c.in_err-otherwise-in-Else.ensures.refused)

pub if_of-returns-in-Else-clause-read : goal.if_of-returns-in-Else-clause-read
if_of-returns-in-Else-clause-read t c =
    let turn = c.in_ok-piece.ensures.read c.args.source.now c.in_ok-block.ensures.stops in
    let other = subst (λ (x : Piece). Stands c.args.source.now (stop_at c.args.source.now c.in_ok-block.stop) (piece_view x) c.in_ok-piece.end) c.in-Else.is turn in
    let pushed : arm_list_view c.push.new.items.items ≡ snoc_arm (arm_list_view c.arms.items.items) c.arms.arm_at (arg_view c.arms.arm_arg) (view c.in_ok-block.block) = ap arm_list_view c.in_ok-push.ensures ∙ arm_list_push c.arms.items.items _ in
    let done = done_arms c.args.source.now (arm_list_view c.arms.items.items) (arm_list_view c.push.new.items.items) c.args.levels c.args.at c.arms.arm_at (arg_view c.arms.arm_arg) (view c.in_ok-block.block) c.arms.arm_start (stop_at c.args.source.now c.in_ok-block.stop) pushed c.arms.invariant.arms c.arms.invariant.stands c.in_ok-block.ensures.read in
    let rest = c.in_ok-otherwise-in-Else.ensures.read in
    let seen = if_view (roll-Arms (record { items = c.push.new.items })) (Some c.in_ok-otherwise-in-Else.otherwise) ∙ ap (λ (a : trees.Arms). trees.If a (trees.present (view c.in_ok-otherwise-in-Else.otherwise))) (arms_made c.push.new.items) in
    subst (λ (i : trees.Item). IsItem c.args.source.now i (suc c.args.levels) c.args.at c.in_ok-otherwise-in-Else.end) (sym seen) (done.0, (c.args.levels, refl, ((stop_at c.args.source.now c.in_ok-block.stop), rest.0, done.1, (c.in_ok-piece.end, other, rest.1), rest.2)))

pub if_of-returns-in_default : goal.if_of-returns-in_default
if_of-returns-in_default t c =
    let turn = c.in_ok-piece.ensures.read c.args.source.now c.in_ok-block.ensures.stops in
    let pushed : arm_list_view c.push.new.items.items ≡ snoc_arm (arm_list_view c.arms.items.items) c.arms.arm_at (arg_view c.arms.arm_arg) (view c.in_ok-block.block) = ap arm_list_view c.in_ok-push.ensures ∙ arm_list_push c.arms.items.items _ in
    let done = done_arms c.args.source.now (arm_list_view c.arms.items.items) (arm_list_view c.push.new.items.items) c.args.levels c.args.at c.arms.arm_at (arg_view c.arms.arm_arg) (view c.in_ok-block.block) c.arms.arm_start (stop_at c.args.source.now c.in_ok-block.stop) pushed c.arms.invariant.arms c.arms.invariant.stands c.in_ok-block.ensures.read in
    let last = closes_if tags.If c.in_ok-piece.piece (c.in_ok-piece.ensures.turns c.args.source.now c.in_ok-block.ensures.stops) c.in_default.not-Elif c.in_default.not-Else in
    let close = subst (λ (x : pieces.Piece). Stands c.args.source.now (stop_at c.args.source.now c.in_ok-block.stop) x c.in_ok-piece.end) last turn in
    let seen = if_view (roll-Arms (record { items = c.push.new.items })) None ∙ ap (λ (a : trees.Arms). trees.If a trees.absent) (arms_made c.push.new.items) in
    record {
      read = subst (λ (i : trees.Item). IsItem c.args.source.now i (suc c.args.levels) c.args.at c.in_ok-piece.end) (sym seen) (done.0, (c.args.levels, refl, ((stop_at c.args.source.now c.in_ok-block.stop), (stop_at c.args.source.now c.in_ok-block.stop), done.1, refl, close)));
      refused = tt;
    }

pub node_of-returns-in_err-inner-in-If-clause-refused : goal.node_of-returns-in_err-inner-in-If-clause-refused
node_of-returns-in_err-inner-in-If-clause-refused t c =
    let stood : Stands c.args.source.now c.args.at (piece_view c.args.piece) c.args.behind = assumption (c.requires.1) in
    let stands = subst (λ (x : Piece). Stands c.args.source.now c.args.at (piece_view x) c.args.behind) c.in-If.is stood in
    let p = err_from_is_err_and c.from_residual.result c.from_residual.ensures.1 in
    rw (p.1, p.2, c.in_err-inner-in-If.ensures.1) (λ outer. too_deep c.args.source.now c.args.levels c.args.at c.args.behind (pieces.If (arg_view c.in-If.arg)) outer c.in_err-inner-in-If.ensures.0 stands refl)

pub node_of-returns-in_err-inner-in-Unless-clause-refused : goal.node_of-returns-in_err-inner-in-Unless-clause-refused
node_of-returns-in_err-inner-in-Unless-clause-refused t c =
    let stood : Stands c.args.source.now c.args.at (piece_view c.args.piece) c.args.behind = assumption (c.requires.1) in
    let stands = subst (λ (x : Piece). Stands c.args.source.now c.args.at (piece_view x) c.args.behind) c.in-Unless.is stood in
    let p = err_from_is_err_and c.from_residual-in_err-inner-in-Unless.result c.from_residual-in_err-inner-in-Unless.ensures.1 in
    rw (p.1, p.2, c.in_err-inner-in-Unless.ensures.1) (λ outer. too_deep c.args.source.now c.args.levels c.args.at c.args.behind (pieces.Unless (arg_view c.in-Unless.arg)) outer c.in_err-inner-in-Unless.ensures.0 stands refl)

pub node_of-returns-in_err-block-in-Unless-clause-refused : goal.node_of-returns-in_err-block-in-Unless-clause-refused
node_of-returns-in_err-block-in-Unless-clause-refused t c =
    let stood : Stands c.args.source.now c.args.at (piece_view c.args.piece) c.args.behind = assumption (c.requires.1) in
    let stands = subst (λ (x : Piece). Stands c.args.source.now c.args.at (piece_view x) c.args.behind) c.in-Unless.is stood in
    let p = err_from_is_err_and c.from_residual-in_err-block-in-Unless.result c.from_residual-in_err-block-in-Unless.ensures.1 in
    rw (p.1, p.2) (λ outer. in_single c.args.source.now c.args.levels c.in_ok-inner-in-Unless.inner c.args.at c.args.behind (pieces.Unless (arg_view c.in-Unless.arg)) tags.Unless outer c.in_err-block-in-Unless.field-0.0 c.in_ok-inner-in-Unless.ensures refl stands c.in_err-block-in-Unless.ensures.refused)

pub node_of-returns-in-Unless-clause-read : goal.node_of-returns-in-Unless-clause-read
node_of-returns-in-Unless-clause-read t c =
    let stood : Stands c.args.source.now c.args.at (piece_view c.args.piece) c.args.behind = assumption (c.requires.1) in
    let stands = subst (λ (x : Piece). Stands c.args.source.now c.args.at (piece_view x) c.args.behind) c.in-Unless.is stood in
    let rest = c.in_ok-block-in-Unless.ensures.read in
    subst (λ (i : trees.Item). IsItem c.args.source.now i c.args.levels c.args.at c.in_ok-block-in-Unless.end) (sym (unless_view c.args.at c.in-Unless.arg c.in_ok-block-in-Unless.block))
    (refl, encloses c.args.source.now c.args.levels c.in_ok-inner-in-Unless.inner c.args.at c.args.behind rest.0 c.in_ok-block-in-Unless.end (pieces.Unless (arg_view c.in-Unless.arg)) tags.Unless (view c.in_ok-block-in-Unless.block) c.in_ok-inner-in-Unless.ensures stands rest.1 rest.2)

pub node_of-returns-in_err-inner-in-In-clause-refused : goal.node_of-returns-in_err-inner-in-In-clause-refused
node_of-returns-in_err-inner-in-In-clause-refused t c =
    let stood : Stands c.args.source.now c.args.at (piece_view c.args.piece) c.args.behind = assumption (c.requires.1) in
    let stands = subst (λ (x : Piece). Stands c.args.source.now c.args.at (piece_view x) c.args.behind) c.in-In.is stood in
    let p = err_from_is_err_and c.from_residual-in_err-inner-in-In.result c.from_residual-in_err-inner-in-In.ensures.1 in
    rw (p.1, p.2, c.in_err-inner-in-In.ensures.1) (λ outer. too_deep c.args.source.now c.args.levels c.args.at c.args.behind (pieces.In (arg_view c.in-In.arg) c.in-In.reverse c.in-In.skip_unauthorized) outer c.in_err-inner-in-In.ensures.0 stands refl)

pub node_of-returns-in_err-block-in-In-clause-refused : goal.node_of-returns-in_err-block-in-In-clause-refused
node_of-returns-in_err-block-in-In-clause-refused t c =
    let stood : Stands c.args.source.now c.args.at (piece_view c.args.piece) c.args.behind = assumption (c.requires.1) in
    let stands = subst (λ (x : Piece). Stands c.args.source.now c.args.at (piece_view x) c.args.behind) c.in-In.is stood in
    let p = err_from_is_err_and c.from_residual-in_err-block-in-In.result c.from_residual-in_err-block-in-In.ensures.1 in
    rw (p.1, p.2) (λ outer. inner c.args.levels c.in_ok-inner-in-In.inner c.args.source.now outer c.in_err-block-in-In.field-0.0 c.args.at c.in_ok-inner-in-In.ensures (in_loop c.args.source.now c.in_ok-inner-in-In.inner c.args.at c.args.behind (arg_view c.in-In.arg) c.in-In.reverse c.in-In.skip_unauthorized c.in_err-block-in-In.field-0.0 stands c.in_err-block-in-In.ensures.refused))

pub node_of-returns-in-In-clause-read : goal.node_of-returns-in-In-clause-read
node_of-returns-in-In-clause-read t c =
    let stood : Stands c.args.source.now c.args.at (piece_view c.args.piece) c.args.behind = assumption (c.requires.1) in
    let stands = subst (λ (x : Piece). Stands c.args.source.now c.args.at (piece_view x) c.args.behind) c.in-In.is stood in
    let rest = c.in_ok-block-in-In.ensures.read in
    subst (λ (i : trees.Item). IsItem c.args.source.now i c.args.levels c.args.at c.in_ok-block-in-In.end) (sym (loop_view c.args.at c.in-In.arg c.in-In.reverse c.in-In.skip_unauthorized c.in_ok-block-in-In.block c.in_ok-block-in-In.otherwise))
    (refl, (c.in_ok-inner-in-In.inner, c.in_ok-inner-in-In.ensures, (c.args.behind, rest.1, stands, (rest.0, rest.2, rest.3), rest.4)))

pub node_of-returns-in_err-inner-in-With-clause-refused : goal.node_of-returns-in_err-inner-in-With-clause-refused
node_of-returns-in_err-inner-in-With-clause-refused t c =
    let stood : Stands c.args.source.now c.args.at (piece_view c.args.piece) c.args.behind = assumption (c.requires.1) in
    let stands = subst (λ (x : Piece). Stands c.args.source.now c.args.at (piece_view x) c.args.behind) c.in-With.is stood in
    let p = err_from_is_err_and c.from_residual-in_err-inner-in-With.result c.from_residual-in_err-inner-in-With.ensures.1 in
    rw (p.1, p.2, c.in_err-inner-in-With.ensures.1) (λ outer. too_deep c.args.source.now c.args.levels c.args.at c.args.behind (pieces.With (arg_view c.in-With.arg)) outer c.in_err-inner-in-With.ensures.0 stands refl)

pub node_of-returns-in_err-block-in-With-clause-refused : goal.node_of-returns-in_err-block-in-With-clause-refused
node_of-returns-in_err-block-in-With-clause-refused t c =
    let stood : Stands c.args.source.now c.args.at (piece_view c.args.piece) c.args.behind = assumption (c.requires.1) in
    let stands = subst (λ (x : Piece). Stands c.args.source.now c.args.at (piece_view x) c.args.behind) c.in-With.is stood in
    let p = err_from_is_err_and c.from_residual-in_err-block-in-With.result c.from_residual-in_err-block-in-With.ensures.1 in
    rw (p.1, p.2) (λ outer. in_single c.args.source.now c.args.levels c.in_ok-inner-in-With.inner c.args.at c.args.behind (pieces.With (arg_view c.in-With.arg)) tags.With outer c.in_err-block-in-With.field-0.0 c.in_ok-inner-in-With.ensures refl stands c.in_err-block-in-With.ensures.refused)

pub node_of-returns-in-With-clause-read : goal.node_of-returns-in-With-clause-read
node_of-returns-in-With-clause-read t c =
    let stood : Stands c.args.source.now c.args.at (piece_view c.args.piece) c.args.behind = assumption (c.requires.1) in
    let stands = subst (λ (x : Piece). Stands c.args.source.now c.args.at (piece_view x) c.args.behind) c.in-With.is stood in
    let rest = c.in_ok-block-in-With.ensures.read in
    subst (λ (i : trees.Item). IsItem c.args.source.now i c.args.levels c.args.at c.in_ok-block-in-With.end) (sym (with_view c.args.at c.in-With.arg c.in_ok-block-in-With.block))
    (refl, encloses c.args.source.now c.args.levels c.in_ok-inner-in-With.inner c.args.at c.args.behind rest.0 c.in_ok-block-in-With.end (pieces.With (arg_view c.in-With.arg)) tags.With (view c.in_ok-block-in-With.block) c.in_ok-inner-in-With.ensures stands rest.1 rest.2)

pub node_of-returns-in_err-inner-in-Let-clause-refused : goal.node_of-returns-in_err-inner-in-Let-clause-refused
node_of-returns-in_err-inner-in-Let-clause-refused t c =
    let stood : Stands c.args.source.now c.args.at (piece_view c.args.piece) c.args.behind = assumption (c.requires.1) in
    let stands = subst (λ (x : Piece). Stands c.args.source.now c.args.at (piece_view x) c.args.behind) c.in-Let.is stood in
    let p = err_from_is_err_and c.from_residual-in_err-inner-in-Let.result c.from_residual-in_err-inner-in-Let.ensures.1 in
    rw (p.1, p.2, c.in_err-inner-in-Let.ensures.1) (λ outer. too_deep c.args.source.now c.args.levels c.args.at c.args.behind (pieces.Let (bounds_view c.in-Let.bindings)) outer c.in_err-inner-in-Let.ensures.0 stands refl)

pub node_of-returns-in_err-block-in-Let-clause-refused : goal.node_of-returns-in_err-block-in-Let-clause-refused
node_of-returns-in_err-block-in-Let-clause-refused t c =
    let stood : Stands c.args.source.now c.args.at (piece_view c.args.piece) c.args.behind = assumption (c.requires.1) in
    let stands = subst (λ (x : Piece). Stands c.args.source.now c.args.at (piece_view x) c.args.behind) c.in-Let.is stood in
    let p = err_from_is_err_and c.from_residual-in_err-block-in-Let.result c.from_residual-in_err-block-in-Let.ensures.1 in
    rw (p.1, p.2) (λ outer. in_single c.args.source.now c.args.levels c.in_ok-inner-in-Let.inner c.args.at c.args.behind (pieces.Let (bounds_view c.in-Let.bindings)) tags.Let outer c.in_err-block-in-Let.field-0.0 c.in_ok-inner-in-Let.ensures refl stands c.in_err-block-in-Let.ensures.refused)

pub node_of-returns-in-Let-clause-read : goal.node_of-returns-in-Let-clause-read
node_of-returns-in-Let-clause-read t c =
    let stood : Stands c.args.source.now c.args.at (piece_view c.args.piece) c.args.behind = assumption (c.requires.1) in
    let stands = subst (λ (x : Piece). Stands c.args.source.now c.args.at (piece_view x) c.args.behind) c.in-Let.is stood in
    let rest = c.in_ok-block-in-Let.ensures.read in
    subst (λ (i : trees.Item). IsItem c.args.source.now i c.args.levels c.args.at c.in_ok-block-in-Let.end) (sym (let_view c.args.at c.in-Let.bindings c.in_ok-block-in-Let.block))
    (refl, encloses c.args.source.now c.args.levels c.in_ok-inner-in-Let.inner c.args.at c.args.behind rest.0 c.in_ok-block-in-Let.end (pieces.Let (bounds_view c.in-Let.bindings)) tags.Let (view c.in_ok-block-in-Let.block) c.in_ok-inner-in-Let.ensures stands rest.1 rest.2)

pub node_of-returns-in_err-inner-in-Comment-clause-refused : goal.node_of-returns-in_err-inner-in-Comment-clause-refused
node_of-returns-in_err-inner-in-Comment-clause-refused t c =
    let stood : Stands c.args.source.now c.args.at (piece_view c.args.piece) c.args.behind = assumption (c.requires.1) in
    let stands = subst (λ (x : Piece). Stands c.args.source.now c.args.at (piece_view x) c.args.behind) c.in-Comment.is stood in
    let p = err_from_is_err_and c.from_residual-in_err-inner-in-Comment.result c.from_residual-in_err-inner-in-Comment.ensures.1 in
    rw (p.1, p.2, c.in_err-inner-in-Comment.ensures.1) (λ outer. too_deep c.args.source.now c.args.levels c.args.at c.args.behind pieces.Comment outer c.in_err-inner-in-Comment.ensures.0 stands refl)

pub node_of-returns-in_err-block-in-Comment-clause-refused : goal.node_of-returns-in_err-block-in-Comment-clause-refused
node_of-returns-in_err-block-in-Comment-clause-refused t c =
    let stood : Stands c.args.source.now c.args.at (piece_view c.args.piece) c.args.behind = assumption (c.requires.1) in
    let stands = subst (λ (x : Piece). Stands c.args.source.now c.args.at (piece_view x) c.args.behind) c.in-Comment.is stood in
    let p = err_from_is_err_and c.from_residual-in_err-block-in-Comment.result c.from_residual-in_err-block-in-Comment.ensures.1 in
    rw (p.1, p.2) (λ outer. in_single c.args.source.now c.args.levels c.in_ok-inner-in-Comment.inner c.args.at c.args.behind pieces.Comment tags.Comment outer c.in_err-block-in-Comment.field-0.0 c.in_ok-inner-in-Comment.ensures refl stands c.in_err-block-in-Comment.ensures.refused)

pub node_of-returns-in-Comment-clause-read : goal.node_of-returns-in-Comment-clause-read
node_of-returns-in-Comment-clause-read t c =
    let stood : Stands c.args.source.now c.args.at (piece_view c.args.piece) c.args.behind = assumption (c.requires.1) in
    let stands = subst (λ (x : Piece). Stands c.args.source.now c.args.at (piece_view x) c.args.behind) c.in-Comment.is stood in
    let rest = c.in_ok-block-in-Comment.ensures.read in
    subst (λ (i : trees.Item). IsItem c.args.source.now i c.args.levels c.args.at c.in_ok-block-in-Comment.end) (sym (comment_view c.args.at c.in_ok-block-in-Comment.block))
    (refl, encloses c.args.source.now c.args.levels c.in_ok-inner-in-Comment.inner c.args.at c.args.behind rest.0 c.in_ok-block-in-Comment.end pieces.Comment tags.Comment (view c.in_ok-block-in-Comment.block) c.in_ok-inner-in-Comment.ensures stands rest.1 rest.2)

pub in_of-returns-clause-read : goal.in_of-returns-clause-read
in_of-returns-clause-read t c =
    let turn = c.in_ok-piece.ensures.read c.args.source.now c.in_ok-block.ensures.stops in
    let other = subst (λ (x : Piece). Stands c.args.source.now (stop_at c.args.source.now c.in_ok-block.stop) (piece_view x) c.in_ok-piece.end) c.in-Else.is turn in
    let rest = c.in_ok-otherwise.ensures.read in
    (stop_at c.args.source.now c.in_ok-block.stop, rest.0, c.in_ok-block.ensures.read, (c.in_ok-piece.end, other, rest.1), rest.2)
