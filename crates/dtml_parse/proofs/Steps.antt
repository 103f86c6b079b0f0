-- What the parts of the reader need to know of the grammar and of the refusals, step by step.
use Rattle.std.proofs.Common.{◌≡◌, ◌∙◌, inl, inr, ℕ, zero, suc, ◌≤◌, ◌<◌, Bool, true, false, not, List, length, Option, Some, None, refl, sym, ap, subst, arith}
use Rattle.std.specs.Str.{IsCharBoundary}
use Rattle.zbase.specs.declared.limits.TheConstants.{MOST_SOURCE}
use Rattle.dtml_lex.specs.declared.part.TagName.{TagName}
use Rattle.dtml_lex.specs.declared.part.TagName.TheVariants as tags
use Rattle.dtml_lex.specs.declared.part.Attribute.{Attribute}
use Rattle.dtml_lex.specs.declared.part.PartKind.{PartKind}
use Rattle.dtml_lex.specs.declared.part.PartKind.TheVariants as kinds
use Rattle.dtml_lex.specs.declared.part.SourcePart.{SourcePart}
use Rattle.dtml_lex.specs.declared.refusal.DtmlRefusal.{DtmlRefusal}
use Rattle.dtml_lex.specs.declared.refusal.DtmlRefusal.TheVariants as refusals
use Rattle.dtml_lex.specs.Source as lex
use Rattle.dtml_lex.specs.Source.{IsPartAt}
use Rattle.dtml_parse.specs.Trees.{Arg, Item, Items, Arms, Otherwise, Plain, Var, Call, If, Unless, Loop, With, Let, Comment, none, more, last, arm, absent, present}
use Rattle.dtml_parse.specs.Table.{is_none}
use Rattle.dtml_parse.specs.Pieces as pieces
use Rattle.dtml_parse.specs.Pieces.{Piece, IsPiece, Means, is_lawful}
use Rattle.dtml_parse.specs.Grammar.{Stands, Encloses, Within, HasArm, IsItem, IsBlock, AreArms, IsElse}
use Rattle.dtml_parse.specs.Refusals.{Open, is_tag, strays, has_block, single_tag, arm_tag, IsRefused, only_block, loop_block, loop_else, arm_block, IsNext, IsFirst, Refuses}
use Rattle.dtml_parse.specs.Parsing.{ends_block, is_ending, IsNoPiece, Turns, IsInside, IsOfLoop}

-- ---- refusals

pub now : (levels : ℕ) (source : List ℕ) (outer : Option Open) (refusal : DtmlRefusal) (at : ℕ) → IsRefused source levels outer at refusal → IsNext levels source outer refusal at
now zero source outer refusal at h = h
now (suc levels) source outer refusal at h = inl h

pub inner : (levels inside : ℕ) (source : List ℕ) (outer : Option Open) (refusal : DtmlRefusal) (at : ℕ) → levels ≡ suc inside → IsInside source inside at refusal → IsNext levels source outer refusal at
inner levels inside source outer refusal at e h = subst (λ (l : ℕ). IsNext l source outer refusal at) (sym e) (inr h)

pub not_lexed : (source : List ℕ) (levels : ℕ) (outer : Option Open) (at : ℕ) (refusal : DtmlRefusal) → lex.Refuses source at refusal → IsRefused source levels outer at refusal
not_lexed source levels outer at refusals.Memory h = tt
not_lexed source levels outer at (refusals.BadTag place) h = h
not_lexed source levels outer at (refusals.Unclosed place) h = absurd h
not_lexed source levels outer at (refusals.Stray place) h = absurd h
not_lexed source levels outer at (refusals.BadAttribute place) h = absurd h
not_lexed source levels outer at (refusals.BadExpression place) h = absurd h
not_lexed source levels outer at (refusals.TooLarge most) h = absurd h
not_lexed source levels outer at (refusals.TooDeep place) h = absurd h

pub no_stray : (outer : Option Open) (kind : PartKind) → ends_block kind ≡ false → strays outer kind ≡ false
no_stray None (kinds.Plain text) e = refl
no_stray None (kinds.Entity name) e = refl
no_stray None (kinds.Opening tags.Elif attributes) e = absurd cc
no_stray None (kinds.Opening tags.Else attributes) e = absurd cc
no_stray None (kinds.Opening _ attributes) e = refl
no_stray None (kinds.Closing name attributes) e = absurd cc
no_stray (Some tag) (kinds.Plain text) e = refl
no_stray (Some tag) (kinds.Entity name) e = refl
no_stray (Some tag) (kinds.Opening tags.Elif attributes) e = absurd cc
no_stray (Some tag) (kinds.Opening tags.Else attributes) e = absurd cc
no_stray (Some tag) (kinds.Opening _ attributes) e = refl
no_stray (Some tag) (kinds.Closing name attributes) e = absurd cc

pub stray_outside : (kind : PartKind) → ends_block kind ≡ true → strays None kind ≡ true
stray_outside (kinds.Plain text) e = absurd cc
stray_outside (kinds.Entity name) e = absurd cc
stray_outside (kinds.Opening tags.Elif attributes) e = refl
stray_outside (kinds.Opening tags.Else attributes) e = refl
stray_outside (kinds.Opening _ attributes) e = absurd cc
stray_outside (kinds.Closing name attributes) e = refl

pub no_piece : (source : List ℕ) (levels : ℕ) (outer : Option Open) (part : SourcePart) (at : ℕ) (refusal : DtmlRefusal) → IsPartAt source at part → strays outer part.kind ≡ false → IsNoPiece at part.kind refusal
    → IsRefused source levels outer at refusal
no_piece source levels outer part at refusals.Memory is s h = tt
no_piece source levels outer part at (refusals.BadTag place) is s h = absurd h
no_piece source levels outer part at (refusals.Unclosed place) is s h = absurd h
no_piece source levels outer part at (refusals.Stray place) is s h = absurd h
no_piece source levels outer part at (refusals.BadAttribute place) is s h = (h.0, part, is, s, h.1)
no_piece source levels outer part at (refusals.BadExpression place) is s h = (h.0, part, is, s, h.1, h.2)
no_piece source levels outer part at (refusals.TooLarge most) is s h = absurd h
no_piece source levels outer part at (refusals.TooDeep place) is s h = absurd h

never_large : (levels : ℕ) (source : List ℕ) (outer : Option Open) (most at : ℕ) → IsNext levels source outer (refusals.TooLarge most) at → ⊥
never_large zero source outer most at h = h
never_large (suc levels) source outer most at (inl h) = h
never_large (suc levels) source outer most at (inr h) = never_large levels source (Some h.0) most h.3.1 h.3.3

pub refuses : (source : List ℕ) (refusal : DtmlRefusal) → length source ≤ MOST_SOURCE → IsFirst source 64 None 0 refusal → Refuses source refusal
refuses source refusals.Memory small h = tt
refuses source (refusals.BadTag place) small h = (small, h)
refuses source (refusals.Unclosed place) small h = (small, h)
refuses source (refusals.Stray place) small h = (small, h)
refuses source (refusals.BadAttribute place) small h = (small, h)
refuses source (refusals.BadExpression place) small h = (small, h)
refuses source (refusals.TooLarge most) small h = absurd (never_large 64 source None most h.1 h.3)
refuses source (refusals.TooDeep place) small h = (small, h)

-- ---- places

pub stands_forward : (source : List ℕ) (piece : Piece) (at to : ℕ) → Stands source at piece to → (at < to) × IsCharBoundary source to
stands_forward source piece at to h = (omega (arith, h.1.forward, h.3), subst (λ (x : ℕ). IsCharBoundary source x) (sym h.3) h.1.boundary)

enclosed_forward : (source : List ℕ) (piece : Piece) (name : TagName) (at to first behind : ℕ) → Stands source at piece first → first ≤ behind → Stands source behind (pieces.Close name) to → (at < to) × IsCharBoundary source to
enclosed_forward source piece name at to first behind o le s =
    let a = stands_forward source piece at first o in
    let z = stands_forward source (pieces.Close name) behind to s in
    (omega (arith, a.0, le, z.0), z.1)

mutual
  pub item_forward : (source : List ℕ) (item : Item) (levels at to : ℕ) → IsItem source item levels at to → (at < to) × IsCharBoundary source to
  item_forward source (Plain text) levels at to h = stands_forward source (pieces.Plain text) at to h
  item_forward source (Var place arg marks) levels at to h = stands_forward source (pieces.Var arg marks) at to h.1
  item_forward source (Call place arg) levels at to h = stands_forward source (pieces.Call arg) at to h.1
  item_forward source (If arms otherwise) levels at to h =
      let s = stands_forward source (pieces.Close tags.If) h.1.2.1 to h.1.2.4 in
      let a = arms_forward source arms h.1.0 pieces.If at h.1.2.0 h.1.2.2 in
      let o = else_forward source otherwise h.1.0 h.1.2.0 h.1.2.1 h.1.2.3 in
      (omega (arith, s.0, a, o), s.1)
  item_forward source (Unless place arg block) levels at to h = enclosed_forward source (pieces.Unless arg) tags.Unless at to h.1.2.0 h.1.2.1 h.1.2.2 (block_forward source block h.1.0 h.1.2.0 h.1.2.1 h.1.2.3) h.1.2.4
  item_forward source (Loop place arg reverse skip block otherwise) levels at to h =
      let b = block_forward source block h.1.0 h.1.2.0 h.1.2.3.0 h.1.2.3.1 in
      let o = else_forward source otherwise h.1.0 h.1.2.3.0 h.1.2.1 h.1.2.3.2 in
      enclosed_forward source (pieces.In arg reverse skip) tags.In at to h.1.2.0 h.1.2.1 h.1.2.2 (omega (arith, b, o)) h.1.2.4
  item_forward source (With place arg block) levels at to h = enclosed_forward source (pieces.With arg) tags.With at to h.1.2.0 h.1.2.1 h.1.2.2 (block_forward source block h.1.0 h.1.2.0 h.1.2.1 h.1.2.3) h.1.2.4
  item_forward source (Let place bounds block) levels at to h = enclosed_forward source (pieces.Let bounds) tags.Let at to h.1.2.0 h.1.2.1 h.1.2.2 (block_forward source block h.1.0 h.1.2.0 h.1.2.1 h.1.2.3) h.1.2.4
  item_forward source (Comment place block) levels at to h = enclosed_forward source pieces.Comment tags.Comment at to h.1.2.0 h.1.2.1 h.1.2.2 (block_forward source block h.1.0 h.1.2.0 h.1.2.1 h.1.2.3) h.1.2.4

  pub block_forward : (source : List ℕ) (block : Items) (levels at to : ℕ) → IsBlock source block levels at to → at ≤ to
  block_forward source none levels at to h = omega (arith, h)
  block_forward source (more item rest) levels at to h = omega (arith, (item_forward source item levels at h.0 h.1).0, block_forward source rest levels h.0 to h.2)

  arms_forward : (source : List ℕ) (arms : Arms) (levels : ℕ) (head : Arg → Piece) (at to : ℕ) → AreArms source arms levels head at to → at ≤ to
  arms_forward source last levels head at to h = omega (arith, h)
  arms_forward source (arm place arg block rest) levels head at to h =
      omega (arith, (stands_forward source (head arg) at h.1 h.3).0, block_forward source block levels h.1 h.2 h.4, arms_forward source rest levels pieces.Elif h.2 to h.5)

  else_forward : (source : List ℕ) (otherwise : Otherwise) (levels at to : ℕ) → IsElse source otherwise levels at to → at ≤ to
  else_forward source absent levels at to h = omega (arith, h)
  else_forward source (present block) levels at to h = omega (arith, (stands_forward source pieces.Else at h.0 h.1).0, block_forward source block levels h.0 to h.2)

-- ---- one more at the end

abbrev pub snoc : Items → Item → Items
snoc none item = more item none
snoc (more first rest) item = more first (snoc rest item)

pub one_more : (source : List ℕ) (block : Items) (item : Item) (levels at middle to : ℕ) → IsBlock source block levels at middle → IsItem source item levels middle to → IsBlock source (snoc block item) levels at to
one_more source none item levels at middle to h i = (to, subst (λ (x : ℕ). IsItem source item levels x to) (sym h) i, refl)
one_more source (more first rest) item levels at middle to h i = (h.0, h.1, one_more source rest item levels h.0 middle to h.2 i)

abbrev pub snoc_arm : Arms → ℕ → Arg → Items → Arms
snoc_arm last place arg block = arm place arg block last
snoc_arm (arm first given inside rest) place arg block = arm first given inside (snoc_arm rest place arg block)

pub has_arm : (arms : Arms) (place : ℕ) (arg : Arg) (block : Items) → HasArm (snoc_arm arms place arg block)
has_arm last place arg block = tt
has_arm (arm first given inside rest) place arg block = tt

-- arms behind an arm
rest_more : (source : List ℕ) (arms : Arms) (levels at middle : ℕ) (arg : Arg) (block : Items) (first to : ℕ) → AreArms source arms levels pieces.Elif at middle → Stands source middle (pieces.Elif arg) first
    → IsBlock source block levels first to → AreArms source (snoc_arm arms middle arg block) levels pieces.Elif at to
rest_more source last levels at middle arg block first to h s b = (sym h, first, to, subst (λ (x : ℕ). Stands source x (pieces.Elif arg) first) (sym h) s, b, refl)
rest_more source (arm place given inside rest) levels at middle arg block first to h s b = (h.0, h.1, h.2, h.3, h.4, rest_more source rest levels h.2 middle arg block first to h.5 s b)

pub arm_more : (source : List ℕ) (arms : Arms) (levels at middle : ℕ) (arg : Arg) (block : Items) (first to : ℕ) → AreArms source arms levels pieces.If at middle → Stands source middle (arm_tag arms arg) first
    → IsBlock source block levels first to → AreArms source (snoc_arm arms middle arg block) levels pieces.If at to
arm_more source last levels at middle arg block first to h s b = (sym h, first, to, subst (λ (x : ℕ). Stands source x (pieces.If arg) first) (sym h) s, b, refl)
arm_more source (arm place given inside rest) levels at middle arg block first to h s b = (h.0, h.1, h.2, h.3, h.4, rest_more source rest levels h.2 middle arg block first to h.5 s b)

-- ---- what stands behind a block

pub same_name : (own name : TagName) → is_tag own name ≡ true → own ≡ name
same_name tags.Var tags.Var e = refl
same_name tags.Call tags.Call e = refl
same_name tags.If tags.If e = refl
same_name tags.Elif tags.Elif e = refl
same_name tags.Else tags.Else e = refl
same_name tags.Unless tags.Unless e = refl
same_name tags.In tags.In e = refl
same_name tags.With tags.With e = refl
same_name tags.Let tags.Let e = refl
same_name tags.Comment tags.Comment e = refl
same_name _ _ e = absurd cc

pub not_false : (b : Bool) → not b ≡ false → b ≡ true
not_false true e = refl
not_false false e = absurd cc

-- the closing tag of a name
pub closes : (source : List ℕ) (part : SourcePart) (own name : TagName) (attributes : List Attribute) → IsPartAt source part.start part → part.kind ≡ kinds.Closing own attributes → is_tag own name ≡ true → is_none attributes ≡ true
    → Stands source part.start (pieces.Close name) part.end
closes source part own name attributes h k t n =
    (part, h, subst (λ (x : PartKind). IsPiece x (pieces.Close name)) (sym k) (n, ap pieces.Close (sym (same_name own name t))), refl)

-- what isn't the closing tag strays behind a block that nothing else may follow
pub strays_closed : (at : ℕ) (name : TagName) (kind : PartKind) → ends_block kind ≡ true → ((own : TagName) (attributes : List Attribute) → kind ≡ kinds.Closing own attributes → is_tag own name ≡ false)
    → strays (Some (record { at = at; name = name; goes_on = false })) kind ≡ true
strays_closed at name (kinds.Plain text) e f = absurd cc
strays_closed at name (kinds.Entity text) e f = absurd cc
strays_closed at name (kinds.Opening tags.Elif attributes) e f = refl
strays_closed at name (kinds.Opening tags.Else attributes) e f = refl
strays_closed at name (kinds.Opening _ attributes) e f = absurd cc
strays_closed at name (kinds.Closing own attributes) e f = ap not (f own attributes refl)

pub turns : (at : ℕ) (name : TagName) (kind : PartKind) (piece : Piece) → ends_block kind ≡ true → strays (Some (record { at = at; name = name; goes_on = true })) kind ≡ false → Means kind piece → Turns name piece
turns at name (kinds.Plain text) piece e s h = absurd cc
turns at name (kinds.Entity text) piece e s h = absurd cc
turns at name (kinds.Opening tags.Elif attributes) piece e s h = subst (Turns name) (sym h.2) (same_name name tags.If (not_false (is_tag name tags.If) s))
turns at name (kinds.Opening tags.Else attributes) piece e s h = subst (Turns name) (sym h) tt
turns at name (kinds.Opening _ attributes) piece e s h = absurd cc
turns at name (kinds.Closing own attributes) piece e s h = subst (Turns name) (sym h) (same_name own name (not_false (is_tag own name) s))

pub begins_node : (kind : PartKind) (piece : Piece) → Means kind piece → ends_block kind ≡ false → is_ending piece ≡ false
begins_node (kinds.Plain text) piece h e = ap is_ending h
begins_node (kinds.Entity name) piece h e = ap is_ending h
begins_node (kinds.Opening tags.Elif attributes) piece h e = absurd cc
begins_node (kinds.Opening tags.Else attributes) piece h e = absurd cc
begins_node (kinds.Opening tags.Comment attributes) piece h e = ap is_ending h
begins_node (kinds.Opening _ attributes) piece h e = ap is_ending h.2
begins_node (kinds.Closing name attributes) piece h e = absurd cc

pub inside : (source : List ℕ) (at : ℕ) (piece : Piece) (behind : ℕ) → Stands source at piece behind → at < length source
inside source at piece behind h = omega (arith, h.1.forward, h.1.boundary.0)

-- a refusal of a tag's only block
pub in_single : (source : List ℕ) (levels inside at start : ℕ) (piece : Piece) (name : TagName) (outer : Option Open) (refusal : DtmlRefusal) → levels ≡ suc inside → single_tag piece ≡ Some name → Stands source at piece start
    → IsFirst source inside (Some (record { at = at; name = name; goes_on = false })) start refusal → IsNext levels source outer refusal at
in_single source levels inside at start piece name outer refusal e n s h = inner levels inside source outer refusal at e (record { at = at; name = name; goes_on = false }, start, only_block piece name n s, h)

-- a refusal of a block of an `in`
pub in_loop : (source : List ℕ) (levels at start : ℕ) (arg : Arg) (reverse skip : Bool) (refusal : DtmlRefusal) → Stands source at (pieces.In arg reverse skip) start → IsOfLoop source levels at start refusal → IsInside source levels at refusal
in_loop source levels at start arg reverse skip refusal s (inl first) = (record { at = at; name = tags.In; goes_on = true }, start, loop_block arg reverse skip s, first)
in_loop source levels at start arg reverse skip refusal s (inr (block, behind, stands, (to, other, first))) = (record { at = at; name = tags.In; goes_on = false }, to, loop_else arg reverse skip block start behind s stands other, first)

pub too_deep : (source : List ℕ) (levels at behind : ℕ) (piece : Piece) (outer : Option Open) → levels ≡ 0 → Stands source at piece behind → has_block piece ≡ true → IsNext levels source outer (refusals.TooDeep at) at
too_deep source levels at behind piece outer e s b = now levels source outer (refusals.TooDeep at) at (refl, e, piece, behind, s, b)

-- a node with one block
pub encloses : (source : List ℕ) (levels inside at start behind to : ℕ) (piece : Piece) (name : TagName) (block : Items) → levels ≡ suc inside → Stands source at piece start → IsBlock source block inside start behind → Stands source behind (pieces.Close name) to
    → Within levels (λ inner. Encloses source piece name (IsBlock source block inner) at to)
encloses source levels inside at start behind to piece name block e s b c = (inside, e, (start, behind, s, b, c))

pub arm_tag_more : (arms : Arms) (place : ℕ) (own : Arg) (block : Items) (arg : Arg) → arm_tag (snoc_arm arms place own block) arg ≡ pieces.Elif arg
arm_tag_more last place own block arg = refl
arm_tag_more (arm p given inside rest) place own block arg = refl

pub not_turned : (name : TagName) (piece : Piece) → Turns name piece → (piece ≡ pieces.Else → ⊥) → ((arg : Arg) → piece ≡ pieces.Elif arg → ⊥) → piece ≡ pieces.Close name
not_turned name (pieces.Close own) t f g = ap pieces.Close t
not_turned name pieces.Else t f g = absurd (f refl)
not_turned name (pieces.Elif arg) t f g = absurd (g arg refl)
not_turned name _ t f g = absurd t

-- ---- refusals inside a tag

pub memory_first : (source : List ℕ) (levels : ℕ) (outer : Option Open) (at : ℕ) → IsFirst source levels outer at refusals.Memory
memory_first source levels outer at = (none, at, refl, now levels source outer refusals.Memory at tt)

-- a refusal of an arm's block
pub in_arm : (source : List ℕ) (levels at : ℕ) (arms : Arms) (arg : Arg) (behind start : ℕ) (refusal : DtmlRefusal) → AreArms source arms levels pieces.If at behind → Stands source behind (arm_tag arms arg) start
    → IsFirst source levels (Some (record { at = at; name = tags.If; goes_on = true })) start refusal → IsInside source levels at refusal
in_arm source levels at arms arg behind start refusal a s h = (record { at = at; name = tags.If; goes_on = true }, start, arm_block arms arg behind a s, h)

-- a refusal of what stands behind a block
pub behind_block : (source : List ℕ) (levels : ℕ) (outer : Option Open) (block : Items) (start stop : ℕ) (refusal : DtmlRefusal) → IsBlock source block levels start stop → IsRefused source levels outer stop refusal → IsFirst source levels outer start refusal
behind_block source levels outer block start stop refusal b h = (block, stop, b, now levels source outer refusal stop h)

-- the arms with one more
pub done_arms : (source : List ℕ) (old new : Arms) (levels at middle : ℕ) (own : Arg) (block : Items) (start stop : ℕ) → new ≡ snoc_arm old middle own block → AreArms source old levels pieces.If at middle → Stands source middle (arm_tag old own) start
    → IsBlock source block levels start stop → HasArm new × AreArms source new levels pieces.If at stop
done_arms source old new levels at middle own block start stop e a s b =
    (subst HasArm (sym e) (has_arm old middle own block), subst (λ (x : Arms). AreArms source x levels pieces.If at stop) (sym e) (arm_more source old levels at middle own block start stop a s b))

pub next_tag : (source : List ℕ) (old new : Arms) (middle : ℕ) (own : Arg) (block : Items) (arg : Arg) (stop end : ℕ) → new ≡ snoc_arm old middle own block → Stands source stop (pieces.Elif arg) end → Stands source stop (arm_tag new arg) end
next_tag source old new middle own block arg stop end e s = subst (λ (p : Piece). Stands source stop p end) (sym (ap (λ (x : Arms). arm_tag x arg) e ∙ arm_tag_more old middle own block arg)) s
