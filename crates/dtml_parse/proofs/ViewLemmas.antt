-- Trees as contracts see them: what lies in memory in rows is seen as lists.
use Rattle.std.proofs.Common.{◌≡◌, List, [], ◌∷◌, ◌++◌, refl, ap}
use Rattle.dtml_parse.specs.Trees as trees
use Rattle.dtml_parse.specs.Views.{arg_view, node_view, list_view, view, arm_list_view, piece_view}
use Rattle.dtml_parse.specs.declared.tree.Arg.{Arg}
use Rattle.dtml_parse.specs.declared.tree.Arm.{Arm}
use Rattle.dtml_parse.specs.declared.tree.Node.{Node}
use Rattle.dtml_lex.specs.declared.part.TagName.{TagName}
use Rattle.dtml_lex.specs.declared.part.TagName.TheVariants as tags
use Rattle.dtml_parse.specs.Pieces as pieces
use Rattle.dtml_parse.specs.Parsing.{Turns}
use Rattle.dtml_parse.specs.declared.piece.Piece.{Piece}
use Rattle.dtml_parse.specs.declared.piece.Piece.TheVariants as piece
use Rattle.dtml_parse.proofs.Steps.{snoc, snoc_arm}

-- one more at the end
pub list_view_push : (nodes : List Node) (n : Node) → list_view (nodes ++ n ∷ []) ≡ snoc (list_view nodes) (node_view n)
list_view_push [] n = refl
list_view_push (x ∷ nodes) n = ap (λ (t : trees.Items). trees.more (node_view x) t) (list_view_push nodes n)

pub arm_list_push : (arms : List Arm) (a : Arm) → arm_list_view (arms ++ a ∷ []) ≡ snoc_arm (arm_list_view arms) a.at (arg_view a.arg) (view a.block)
arm_list_push [] a = refl
arm_list_push (x ∷ arms) a = ap (λ (t : trees.Arms). trees.arm x.at (arg_view x.arg) (view x.block) t) (arm_list_push arms a)

-- ---- pieces behind a block

pub closes_if : (name : TagName) (p : Piece) → Turns name (piece_view p) → ((a : Arg) → p ≡ piece.Elif a → ⊥) → (p ≡ piece.Else → ⊥) → piece_view p ≡ pieces.Close name
closes_if name (piece.Close own) t f g = ap pieces.Close t
closes_if name piece.Else t f g = absurd (g refl)
closes_if name (piece.Elif arg) t f g = absurd (f arg refl)
closes_if name _ t f g = absurd t

pub closes_in : (p : Piece) → Turns tags.In (piece_view p) → (p ≡ piece.Else → ⊥) → piece_view p ≡ pieces.Close tags.In
closes_in (piece.Close own) t g = ap pieces.Close t
closes_in piece.Else t g = absurd (g refl)
closes_in (piece.Elif arg) t g = absurd cc
closes_in _ t g = absurd t
