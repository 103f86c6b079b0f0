-- What stands at a place of a source is one.
use Rattle.std.proofs.Common.{◌≡◌, ◌∙◌, ℕ, List, [], ◌∷◌, length, drop, length-drop, Option, Some, None, refl, sym, ap, ap₂, subst, arith}
use Rattle.dtml_lex.specs.declared.part.TagName.{TagName}
use Rattle.dtml_lex.specs.declared.part.TagName.TheVariants as tags
use Rattle.dtml_lex.specs.declared.part.Attribute.{Attribute}
use Rattle.dtml_lex.specs.declared.part.PartKind.{PartKind}
use Rattle.dtml_lex.specs.declared.part.PartKind.TheVariants as kinds
use Rattle.dtml_lex.specs.declared.part.SourcePart.{SourcePart}
use Rattle.dtml_lex.specs.Source.{IsPartAt}
use Rattle.dtml_expr.specs.Trees as exprs
use Rattle.dtml_expr.specs.Grammar.{IsExpr}
use Rattle.dtml_parse.specs.Trees.{Arg, Marks, Bound}
use Rattle.dtml_parse.specs.Trees as trees
use Rattle.dtml_parse.specs.Table.{Given, Name, Expression, argument, binding}
use Rattle.dtml_parse.specs.Pieces as pieces
use Rattle.dtml_parse.specs.Pieces.{Piece, IsArg, Says, IsBound, AreBound, Opens, IsPiece, Means}
use Rattle.dtml_parse.specs.Grammar.{Stands}

abbrev pub OneExpr : Type 0
OneExpr = (text : List ℕ) (a b : exprs.Tree) → IsExpr text a → IsExpr text b → a ≡ b

abbrev pub found : PartKind × List ℕ → Option (PartKind × List ℕ)
found x = Some x

found_is : (x y : PartKind × List ℕ) → found x ≡ found y → x ≡ y
found_is x y e = cc

pub part_once : (source : List ℕ) (at : ℕ) (p q : SourcePart) → IsPartAt source at p → IsPartAt source at q → (p.kind ≡ q.kind) × (p.end ≡ q.end)
part_once source at p q hp hq =
    let same = found_is (p.kind, drop p.end source) (q.kind, drop q.end source) (sym hp.read ∙ hq.read) in
    let lengths : length (drop p.end source) ≡ length (drop q.end source) = ap (λ (x : PartKind × List ℕ). length x.1) same in
    (ap (λ (x : PartKind × List ℕ). x.0) same, omega (arith, lengths, length-drop p.end source, length-drop q.end source, hp.boundary.0, hq.boundary.0))

arg_once : OneExpr → (given : Given) (a b : Arg) → IsArg given a → IsArg given b → a ≡ b
arg_once one (Name name) a b ha hb = ha ∙ sym hb
arg_once one (Expression text) a b ha hb = ha.2 ∙ (ap trees.Expression (one text ha.0 hb.0 ha.1 hb.1) ∙ sym hb.2)

says_once : OneExpr → (o : Option Given) (a b : Arg) → Says o a → Says o b → a ≡ b
says_once one None a b ha hb = absurd ha
says_once one (Some given) a b ha hb = arg_once one given a b ha hb

bound_once : OneExpr → (o : Option (List ℕ × Given)) (a b : Bound) → IsBound o a → IsBound o b → a ≡ b
bound_once one None a b ha hb = absurd ha
bound_once one (Some x) a b ha hb = ap₂ (λ (n : List ℕ) (g : Arg). record { name = n; arg = g }) (ha.0 ∙ sym hb.0) (arg_once one x.1 a.arg b.arg ha.1 hb.1)

bounds_once : OneExpr → (attributes : List Attribute) (a b : List Bound) → AreBound attributes a → AreBound attributes b → a ≡ b
bounds_once one [] [] [] ha hb = refl
bounds_once one [] (x ∷ a) b ha hb = absurd ha
bounds_once one [] [] (y ∷ b) ha hb = absurd hb
bounds_once one (t ∷ ts) [] b ha hb = absurd ha
bounds_once one (t ∷ ts) (x ∷ a) [] ha hb = absurd hb
bounds_once one (t ∷ ts) (x ∷ a) (y ∷ b) ha hb = ap₂ (λ (z : Bound) (zs : List Bound). z ∷ zs) (bound_once one (binding t) x y ha.0 hb.0) (bounds_once one ts a b ha.1 hb.1)

with_arg : OneExpr → (o : Option Given) (make : Arg → Piece) (p q : Piece) → ((arg : Arg) × Says o arg × (p ≡ make arg)) → ((arg : Arg) × Says o arg × (q ≡ make arg)) → p ≡ q
with_arg one o make p q ha hb = ha.2 ∙ (ap make (says_once one o ha.0 hb.0 ha.1 hb.1) ∙ sym hb.2)

opens_once : OneExpr → (name : TagName) (attributes : List Attribute) (p q : Piece) → Opens name attributes p → Opens name attributes q → p ≡ q
opens_once one tags.Var attrs p q hp hq = with_arg one (argument attrs) _ p q hp hq
opens_once one tags.Call attrs p q hp hq = with_arg one (argument attrs) pieces.Call p q hp hq
opens_once one tags.If attrs p q hp hq = with_arg one (argument attrs) pieces.If p q hp hq
opens_once one tags.Elif attrs p q hp hq = with_arg one (argument attrs) pieces.Elif p q hp hq
opens_once one tags.Else attrs p q hp hq = hp ∙ sym hq
opens_once one tags.Unless attrs p q hp hq = with_arg one (argument attrs) pieces.Unless p q hp hq
opens_once one tags.In attrs p q hp hq = with_arg one (argument attrs) _ p q hp hq
opens_once one tags.With attrs p q hp hq = with_arg one (argument attrs) pieces.With p q hp hq
opens_once one tags.Let attrs p q hp hq = hp.2 ∙ (ap pieces.Let (bounds_once one attrs hp.0 hq.0 hp.1 hq.1) ∙ sym hq.2)
opens_once one tags.Comment attrs p q hp hq = hp ∙ sym hq

pub means_once : OneExpr → (kind : PartKind) (p q : Piece) → Means kind p → Means kind q → p ≡ q
means_once one (kinds.Plain text) p q hp hq = hp ∙ sym hq
means_once one (kinds.Entity name) p q hp hq = hp ∙ sym hq
means_once one (kinds.Opening name attributes) p q hp hq = opens_once one name attributes p q hp hq
means_once one (kinds.Closing name attributes) p q hp hq = hp ∙ sym hq

pub stands_once : OneExpr → (source : List ℕ) (at : ℕ) (p q : Piece) (to end : ℕ) → Stands source at p to → Stands source at q end → (p ≡ q) × (to ≡ end)
stands_once one source at p q to end hp hq =
    let same = part_once source at hp.0 hq.0 hp.1 hq.1 in
    (means_once one hp.0.kind p q hp.2.1 (subst (λ (k : PartKind). Means k q) (sym same.0) hq.2.1), hp.3 ∙ (same.1 ∙ sym hq.3))
