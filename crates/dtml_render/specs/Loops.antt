-- An `in` tag without its block, as contracts see it.
use Rattle.dtml_parse.specs.Trees.{Item, Items}
use Rattle.dtml_parse.specs.Trees as trees
use Rattle.dtml_parse.specs.Views.{arg_view, otherwise_view}
use Rattle.dtml_render.specs.declared.openings.Loop.{Loop}
use Rattle.dtml_render.specs.Resuming.{ToRepeat, Waiting}

-- the node, with its block
abbrev pub loop_view : Loop → Items → Item
loop_view tag block = trees.Loop tag.at (arg_view tag.arg.now) tag.reverse tag.skip block (otherwise_view tag.otherwise.now)

abbrev pub loop_waiting : Loop → Items → Waiting
loop_waiting tag block = ToRepeat tag.at (arg_view tag.arg.now) tag.reverse tag.skip block (otherwise_view tag.otherwise.now)
