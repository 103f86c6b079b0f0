use Rattle.std.proofs.Common.{◌+◌, ◌*◌, ◌-◌, length}
use Rattle.std.specs.Str.{IsCharBoundary}
use Rattle.dtml_parse.specs.Pieces as pieces
use Rattle.dtml_parse.specs.Grammar.{Stands, IsBlock, AreArms}
use Rattle.dtml_parse.specs.Refusals.{arm_tag}
use Rattle.dtml_parse.specs.Views.{arg_view, list_view, arm_list_view}
use Rattle.dtml_parse.proofs.block.+parse.Given as goal

abbrev pub decreases-node_of : goal.decreases-node_of
decreases-node_of l = l.levels * 5

abbrev pub decreases-block_of : goal.decreases-block_of
decreases-block_of l = l.levels * 5 + 1

abbrev pub decreases-whole_block : goal.decreases-whole_block
decreases-whole_block l = l.levels * 5 + 2

abbrev pub decreases-in_of : goal.decreases-in_of
decreases-in_of l = l.levels * 5 + 3

abbrev pub decreases-if_of : goal.decreases-if_of
decreases-if_of l = l.levels * 5 + 3

-- the nodes so far stand up to here
abbrev pub invariant-block_of-parts : goal.invariant-block_of-parts
invariant-block_of-parts l = record { read : IsBlock l.source (list_view l.items.items) l.levels l.start l.at; boundary : IsCharBoundary l.source l.at }

abbrev pub decreases-block_of-parts : goal.decreases-block_of-parts
decreases-block_of-parts l = length l.source - l.at

-- the arms so far stand up to the tag of the next one
abbrev pub invariant-if_of-arms : goal.invariant-if_of-arms
invariant-if_of-arms l = record {
  arms : AreArms l.source (arm_list_view l.items.items) l.levels pieces.If l.at l.arm_at;
  stands : Stands l.source l.arm_at (arm_tag (arm_list_view l.items.items) (arg_view l.arm_arg)) l.arm_start;
}

abbrev pub decreases-if_of-arms : goal.decreases-if_of-arms
decreases-if_of-arms l = length l.source - l.arm_start
