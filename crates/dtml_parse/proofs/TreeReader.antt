-- What reads a whole source reads what the grammar and the refusals say.
use Rattle.std.proofs.Common.{◌≡◌, ◌∙◌, ◌⊎◌, inl, inr, ℕ, zero, suc, ◌+◌, ◌≤◌, ◌<◌, nat_lt, Bool, true, false, List, length, drop, Option, Some, None, Ok, Err, refl, sym, ap, subst, arith, if◌then◌else◌}
use Rattle.std.specs.Prelude.{MatchOption, MatchResult}
use Rattle.std.specs.Str.{IsUtf8}
use Rattle.std.proofs.lemmas.Bool.Decides.{nat_tests}
use Rattle.zbase.specs.declared.limits.TheConstants.{MOST_SOURCE}
use Rattle.dtml_lex.specs.declared.part.TagName.{TagName}
use Rattle.dtml_lex.specs.declared.part.TagName.TheVariants as tags
use Rattle.dtml_lex.specs.declared.part.PartKind.{PartKind}
use Rattle.dtml_lex.specs.declared.part.PartKind.TheVariants as kinds
use Rattle.dtml_lex.specs.declared.part.SourcePart.{SourcePart}
use Rattle.dtml_lex.specs.declared.refusal.DtmlRefusal.{DtmlRefusal}
use Rattle.dtml_lex.specs.declared.refusal.DtmlRefusal.TheVariants as refusals
use Rattle.dtml_lex.specs.Laws.{ReadIsSpelled}
use Rattle.dtml_lex.specs.Reading.{part_at}
use Rattle.dtml_lex.specs.Source.{IsPartAt}
use Rattle.dtml_parse.specs.Trees.{Arg, Item, Items, Arms, Otherwise, If, Unless, Loop, With, Let, Comment, none, more, last, arm, present}
use Rattle.dtml_parse.specs.Pieces as pieces
use Rattle.dtml_parse.specs.Pieces.{Piece, IsPiece, Means, MeansNothing, is_lawful}
use Rattle.dtml_parse.specs.PieceReading.{piece_at, ReadsParts}
use Rattle.dtml_parse.specs.Grammar.{Stands, Encloses, Within, HasArm, IsItem, IsBlock, AreArms, IsElse, Reads}
use Rattle.dtml_parse.specs.Refusals.{Open, is_tag, strays, has_block, single_tag, arm_tag, IsRefused, if_else, IsNext, IsFirst, Refuses}
use Rattle.dtml_parse.specs.Parsing.{ends_block, is_ending, IsNoPiece, Turns, IsInside, IsOfLoop}
use Rattle.dtml_parse.specs.Laws.{OneTree, RefusedIsNoTree, OneRefusal}
use Rattle.dtml_parse.specs.TreeReading.{Answer, Read, Nodes, ◌>>=◌, part_from, next_part, or_refused, said, closing, going_on, turn_from, turn_at, last_block, else_at, loop_at, rest_at, arms_at, single_at, node_from, nodes_from, nodes_at, whole, template_at, ReadsTrees, ReadsRefusals}
use Rattle.dtml_parse.proofs.Once.{part_once}
use Rattle.dtml_parse.proofs.Places.{stands}
use Rattle.dtml_parse.proofs.Refused.{part_inside}
use Rattle.dtml_parse.proofs.Steps as steps
use Rattle.dtml_parse.proofs.Steps.{now, no_stray, stray_outside, no_piece, refuses, stands_forward, item_forward, block_forward, snoc_arm, same_name, not_false, turns, begins_node, in_single, in_loop, too_deep, in_arm, behind_block, done_arms, next_tag}

abbrev Real : DtmlRefusal → Type 0
Real refusal = refusal ≡ refusals.Memory → ⊥

-- ---- answers

then_match : {A B : Type 0} (P : A → Type 0) (Q : DtmlRefusal → Type 0) (R : B → Type 0) (S : DtmlRefusal → Type 0) (answer : Answer A) (go : A → Answer B)
    → MatchResult answer P Q → ((x : A) → P x → MatchResult (go x) R S) → ((refusal : DtmlRefusal) → Q refusal → S refusal) → MatchResult (answer >>= go) R S
then_match P Q R S (Ok x) go m on stop = on x m
then_match P Q R S (Err refusal) go m on stop = stop refusal m

weaker : {A : Type 0} (P R : A → Type 0) (Q : DtmlRefusal → Type 0) (answer : Answer A) → MatchResult answer P Q → ((x : A) → P x → R x) → MatchResult answer R Q
weaker P R Q (Ok x) m on = on x m
weaker P R Q (Err refusal) m on = m

-- ---- tags

-- behind a block that nothing else may follow stands the closing tag
closed_by : (at : ℕ) (name : TagName) (kind : PartKind) (piece : Piece) → ends_block kind ≡ true → strays (Some (closing at name)) kind ≡ false → Means kind piece → piece ≡ pieces.Close name
closed_by at name (kinds.Plain text) piece e s h = absurd cc
closed_by at name (kinds.Entity text) piece e s h = absurd cc
closed_by at name (kinds.Opening tags.Elif attributes) piece e s h = absurd cc
closed_by at name (kinds.Opening tags.Else attributes) piece e s h = absurd cc
closed_by at name (kinds.Opening _ attributes) piece e s h = absurd cc
closed_by at name (kinds.Closing own attributes) piece e s h = h ∙ ap pieces.Close (same_name own name (not_false (is_tag own name) s))

no_elif : (piece : Piece) (arg : Arg) → Turns tags.In piece → piece ≡ pieces.Elif arg → ⊥
no_elif piece arg t e = let same : tags.In ≡ tags.If = subst (Turns tags.In) e t in cc

module _ (spelled : ReadIsSpelled) (says : ReadsParts) (source : List ℕ) (text : IsUtf8 source) where
  -- ---- parts

  abbrev IsNextPart : ℕ → Option SourcePart → Type 0
  IsNextPart at None = at ≡ length source
  IsNextPart at (Some part) = IsPartAt source at part

  abbrev IsBadTag : ℕ → DtmlRefusal → Type 0
  IsBadTag at refusal = (refusal ≡ refusals.BadTag at) × (at < length source) × (part_at (drop at source) ≡ None)

  part_is : (at : ℕ) → at < length source → (o : Option (PartKind × List ℕ)) → part_at (drop at source) ≡ o → MatchResult (part_from source at o) (IsNextPart at) (IsBadTag at)
  part_is at inside None e = (refl, inside, e)
  part_is at inside (Some x) e = stands source text spelled at x.0 x.1 inside e

  next_is : (at : ℕ) → at ≤ length source → MatchResult (next_part source at) (IsNextPart at) (IsBadTag at)
  next_is at le = (elim (nat_lt at (length source)) as (λ t. nat_lt at (length source) ≡ t → MatchResult (if t then part_from source at (part_at (drop at source)) else Ok None) (IsNextPart at) (IsBadTag at)) [
    | true ↦ λ e. let inside : at < length source = grind (arith, nat_tests) in part_is at inside (part_at (drop at source)) refl
    | false ↦ λ e. let outside : length source ≤ at = grind (arith, nat_tests) in omega (arith, le, outside)
  ]) refl

  bad_tag : (levels : ℕ) (outer : Option Open) (at : ℕ) (refusal : DtmlRefusal) → IsBadTag at refusal → Real refusal × IsRefused source levels outer at refusal
  bad_tag levels outer at refusal b = subst (λ (r : DtmlRefusal). Real r × IsRefused source levels outer at r) (sym b.0) (λ e. cc, (refl, b.1, b.2))

  abbrev IsUnsaid : ℕ → PartKind → DtmlRefusal → Type 0
  IsUnsaid at kind refusal = Real refusal × IsNoPiece at kind refusal

  or_is : (at : ℕ) (kind : PartKind) → is_lawful kind ≡ true → (o : Option Piece) → MatchOption o (MeansNothing kind) (λ piece. Means kind piece) → MatchResult (or_refused (refusals.BadExpression at) o) (IsPiece kind) (IsUnsaid at kind)
  or_is at kind lawful None m = (λ e. cc, (refl, lawful, m))
  or_is at kind lawful (Some piece) m = (lawful, m)

  said_is : (at : ℕ) (kind : PartKind) → MatchResult (said at kind) (IsPiece kind) (IsUnsaid at kind)
  said_is at kind = (elim (is_lawful kind) as (λ t. is_lawful kind ≡ t → MatchResult (if t then or_refused (refusals.BadExpression at) (piece_at kind) else Err (refusals.BadAttribute at)) (IsPiece kind) (IsUnsaid at kind)) [
    | true ↦ λ e. or_is at kind e (piece_at kind) (says kind e)
    | false ↦ λ e. (λ r. cc, (refl, e))
  ]) refl

  -- ---- what stands behind a block

  abbrev Ended : ℕ → Type 0
  Ended at = (at ≡ length source) ⊎ ((part : SourcePart) × IsPartAt source at part × (ends_block part.kind ≡ true))

  ended_within : (at : ℕ) → Ended at → at ≤ length source
  ended_within at (inl e) = omega (arith, e)
  ended_within at (inr h) = let inside = part_inside source at h.0 h.1 in omega (arith, inside)

  abbrev Turned : Open → ℕ → Piece × ℕ → Type 0
  Turned outer at x = (part : SourcePart) × IsPartAt source at part × (ends_block part.kind ≡ true) × (strays (Some outer) part.kind ≡ false) × IsPiece part.kind x.0 × (x.1 ≡ part.end)

  abbrev Unturned : ℕ → Open → ℕ → DtmlRefusal → Type 0
  Unturned levels outer at refusal = Real refusal × IsRefused source levels (Some outer) at refusal

  turn_part : (levels : ℕ) (outer : Open) (at : ℕ) (part : SourcePart) → IsPartAt source at part → ends_block part.kind ≡ true → MatchResult (turn_from outer at (Some part)) (Turned outer at) (Unturned levels outer at)
  turn_part levels outer at part is ends = (elim (strays (Some outer) part.kind) as (λ t. strays (Some outer) part.kind ≡ t
      → MatchResult (if t then Err (refusals.Stray at) else (said at part.kind >>= λ piece. Ok (piece, part.end))) (Turned outer at) (Unturned levels outer at)) [
        | true ↦ λ e. (λ r. cc, (refl, part, is, e))
        | false ↦ λ e. then_match (IsPiece part.kind) (IsUnsaid at part.kind) (Turned outer at) (Unturned levels outer at) (said at part.kind) (λ piece. Ok (piece, part.end)) (said_is at part.kind)
            (λ piece m. (part, is, ends, e, m, refl)) (λ refusal m. (m.0, no_piece source levels (Some outer) part at refusal is e m.1))
      ]) refl

  turn_next : (levels : ℕ) (outer : Open) (at : ℕ) → Ended at → (o : Option SourcePart) → IsNextPart at o → MatchResult (turn_from outer at o) (Turned outer at) (Unturned levels outer at)
  turn_next levels outer at ended None e = (λ r. cc, (refl, e))
  turn_next levels outer at (inl e) (Some part) is = absurd (let inside = part_inside source at part is in omega (arith, e, inside))
  turn_next levels outer at (inr h) (Some part) is = turn_part levels outer at part is (ap ends_block (part_once source at part h.0 is h.1).0 ∙ h.2)

  turn_is : (levels : ℕ) (outer : Open) (at : ℕ) → Ended at → MatchResult (turn_at source outer at) (Turned outer at) (Unturned levels outer at)
  turn_is levels outer at ended =
      then_match (IsNextPart at) (IsBadTag at) (Turned outer at) (Unturned levels outer at) (next_part source at) (turn_from outer at) (next_is at (ended_within at ended))
      (turn_next levels outer at ended) (bad_tag levels (Some outer) at)

  turn_stands : (outer : Open) (at : ℕ) (x : Piece × ℕ) → Turned outer at x → Stands source at x.0 x.1
  turn_stands outer at x t = (t.0, t.1, t.4, t.5)

  turn_closes : (place : ℕ) (name : TagName) (at : ℕ) (x : Piece × ℕ) → Turned (closing place name) at x → Stands source at (pieces.Close name) x.1
  turn_closes place name at x t = subst (λ (p : Piece). Stands source at p x.1) (closed_by place name t.0.kind x.0 t.2 t.3 t.4.1) (turn_stands (closing place name) at x t)

  turn_turns : (place : ℕ) (name : TagName) (at : ℕ) (x : Piece × ℕ) → Turned (going_on place name) at x → Turns name x.0
  turn_turns place name at x t = turns place name t.0.kind x.0 t.2 t.3 t.4.1

  -- ---- blocks

  abbrev IsNodes : ℕ → ℕ → Items × ℕ → Type 0
  IsNodes levels at x = IsBlock source x.0 levels at x.1 × Ended x.1

  abbrev IsNodesRefused : ℕ → ℕ → DtmlRefusal → Type 0
  IsNodesRefused levels at refusal = Real refusal × ((outer : Option Open) → IsFirst source levels outer at refusal)

  -- these are the nodes that stand there, wherever no more bytes are left than the fuel
  abbrev ReadsNodes : ℕ → ℕ → Nodes → Type 0
  ReadsNodes fuel levels nodes = (at : ℕ) → at ≤ length source → length source ≤ at + fuel → MatchResult (nodes at) (IsNodes levels at) (IsNodesRefused levels at)

  abbrev IsLast : ℕ → TagName → ℕ → Items × ℕ → Type 0
  IsLast levels name start x = (behind : ℕ) × IsBlock source x.0 levels start behind × Stands source behind (pieces.Close name) x.1

  abbrev IsFirstIn : ℕ → Open → ℕ → DtmlRefusal → Type 0
  IsFirstIn levels outer start refusal = Real refusal × IsFirst source levels (Some outer) start refusal

  module _ (fuel levels : ℕ) (nodes : Nodes) (reads : ReadsNodes fuel levels nodes) where
    last_is : (at : ℕ) (name : TagName) (start : ℕ) → start ≤ length source → length source ≤ start + fuel → MatchResult (last_block source nodes at name start) (IsLast levels name start) (IsFirstIn levels (closing at name) start)
    last_is at name start le left =
        let outer = closing at name in
        then_match (IsNodes levels start) (IsNodesRefused levels start) (IsLast levels name start) (IsFirstIn levels outer start) (nodes start) _ (reads start le left)
        (λ block n. then_match (Turned outer block.1) (Unturned levels outer block.1) (IsLast levels name start) (IsFirstIn levels outer start) (turn_at source outer block.1) (λ turn. Ok (block.0, turn.1)) (turn_is levels outer block.1 n.1)
        (λ turn t. (block.1, n.0, turn_closes at name block.1 turn t))
        (λ refusal u. (u.0, behind_block source levels (Some outer) block.0 start block.1 refusal n.0 u.1)))
        (λ refusal r. (r.0, r.1 (Some outer)))

    abbrev IsOther : TagName → ℕ → Otherwise × ℕ → Type 0
    IsOther name middle x = (behind : ℕ) × IsElse source x.0 levels middle behind × Stands source behind (pieces.Close name) x.1

    abbrev IsOtherRefused : ℕ → TagName → ℕ → DtmlRefusal → Type 0
    IsOtherRefused at name middle refusal = Real refusal × ((to : ℕ) × Stands source middle pieces.Else to × IsFirst source levels (Some (closing at name)) to refusal)

    else_is : (at : ℕ) (name : TagName) (middle : ℕ) (piece : Piece) (start : ℕ) → Turns name piece → ((arg : Arg) → piece ≡ pieces.Elif arg → ⊥) → Stands source middle piece start → length source ≤ middle + fuel
        → MatchResult (else_at source nodes at name piece start) (IsOther name middle) (IsOtherRefused at name middle)
    else_is at name middle pieces.Else start t f s left =
        let ahead = stands_forward source pieces.Else middle start s in
        then_match (IsLast levels name start) (IsFirstIn levels (closing at name) start) (IsOther name middle) (IsOtherRefused at name middle) (last_block source nodes at name start) (λ block. Ok (present block.0, block.1))
        (last_is at name start ahead.1.0 (omega (arith, left, ahead.0)))
        (λ block c. (c.0, (start, s, c.1), c.2))
        (λ refusal r. (r.0, (start, s, r.1)))
    else_is at name middle (pieces.Close own) start t f s left = (middle, refl, subst (λ (n : TagName). Stands source middle (pieces.Close n) start) t s)
    else_is at name middle (pieces.Elif arg) start t f s left = absurd (f arg refl)
    else_is at name middle piece start t f s left = absurd t

    abbrev IsLoop : ℕ → (Items × Otherwise) × ℕ → Type 0
    IsLoop start x = (middle : ℕ) × (behind : ℕ) × IsBlock source x.0.0 levels start middle × IsElse source x.0.1 levels middle behind × Stands source behind (pieces.Close tags.In) x.1

    abbrev IsLoopRefused : ℕ → ℕ → DtmlRefusal → Type 0
    IsLoopRefused at start refusal = Real refusal × IsOfLoop source levels at start refusal

    loop_is : (at start : ℕ) → start ≤ length source → length source ≤ start + fuel → MatchResult (loop_at source nodes at start) (IsLoop start) (IsLoopRefused at start)
    loop_is at start le left =
        let outer = going_on at tags.In in
        then_match (IsNodes levels start) (IsNodesRefused levels start) (IsLoop start) (IsLoopRefused at start) (nodes start) _ (reads start le left)
        (λ block n. then_match (Turned outer block.1) (Unturned levels outer block.1) (IsLoop start) (IsLoopRefused at start) (turn_at source outer block.1) _ (turn_is levels outer block.1 n.1)
        (λ turn t.
        let further = block_forward source block.0 levels start block.1 n.0 in
        let fits = turn_turns at tags.In block.1 turn t in
        then_match (IsOther tags.In block.1) (IsOtherRefused at tags.In block.1) (IsLoop start) (IsLoopRefused at start) (else_at source nodes at tags.In turn.0 turn.1) (λ otherwise. Ok ((block.0, otherwise.0), otherwise.1))
        (else_is at tags.In block.1 turn.0 turn.1 fits (λ arg. no_elif turn.0 arg fits) (turn_stands outer block.1 turn t) (omega (arith, left, further)))
        (λ otherwise o. (block.1, o.0, n.0, o.1, o.2))
        (λ refusal r. (r.0, inr (block.0, block.1, n.0, r.1))))
        (λ refusal u. (u.0, inl (behind_block source levels (Some outer) block.0 start block.1 refusal n.0 u.1))))
        (λ refusal r. (r.0, inl (r.1 (Some outer))))

    -- ---- arms

    abbrev AreRead : (Arg → Piece) → ℕ → (Arms × Otherwise) × ℕ → Type 0
    AreRead head place x = (stop : ℕ) × (behind : ℕ) × AreArms source x.0.0 levels head place stop × IsElse source x.0.1 levels stop behind × Stands source behind (pieces.Close tags.If) x.1

    abbrev HaveArm : (Arg → Piece) → ℕ → (Arms × Otherwise) × ℕ → Type 0
    HaveArm head place x = HasArm x.0.0 × AreRead head place x

    abbrev IsInsideRefused : ℕ → DtmlRefusal → Type 0
    IsInsideRefused at refusal = Real refusal × IsInside source levels at refusal

    -- the `else` behind such arms, or the closing tag
    ends_is : (at middle : ℕ) (front : Arms) → HasArm front → AreArms source front levels pieces.If at middle → (piece : Piece) (start : ℕ) → Turns tags.If piece → ((arg : Arg) → piece ≡ pieces.Elif arg → ⊥) → Stands source middle piece start
        → length source ≤ middle + fuel → MatchResult (else_at source nodes at tags.If piece start >>= λ otherwise. Ok ((last, otherwise.0), otherwise.1)) (AreRead pieces.Elif middle) (IsInsideRefused at)
    ends_is at middle front has are piece start t f s left =
        then_match (IsOther tags.If middle) (IsOtherRefused at tags.If middle) (AreRead pieces.Elif middle) (IsInsideRefused at) (else_at source nodes at tags.If piece start) (λ otherwise. Ok ((last, otherwise.0), otherwise.1))
        (else_is at tags.If middle piece start t f s left)
        (λ otherwise o. (middle, o.0, refl, o.1, o.2))
        (λ refusal r. (r.0, (closing at tags.If, r.1.0, if_else front middle has are r.1.1, r.1.2)))

    rest_is : (at middle : ℕ) (front : Arms) → HasArm front → AreArms source front levels pieces.If at middle → (arms : Arg → ℕ → Read (Arms × Otherwise))
        → ((arg : Arg) (start : ℕ) → Stands source middle (pieces.Elif arg) start → MatchResult (arms arg start) (HaveArm pieces.Elif middle) (IsInsideRefused at))
        → (piece : Piece) (start : ℕ) → Turns tags.If piece → Stands source middle piece start → length source ≤ middle + fuel → MatchResult (rest_at source nodes at arms piece start) (AreRead pieces.Elif middle) (IsInsideRefused at)
    rest_is at middle front has are arms again (pieces.Elif arg) start t s left = weaker (HaveArm pieces.Elif middle) (AreRead pieces.Elif middle) (IsInsideRefused at) (arms arg start) (again arg start s) (λ x h. h.1)
    rest_is at middle front has are arms again pieces.Else start t s left = ends_is at middle front has are pieces.Else start t (λ arg e. cc) s left
    rest_is at middle front has are arms again (pieces.Close own) start t s left = ends_is at middle front has are (pieces.Close own) start t (λ arg e. cc) s left
    rest_is at middle front has are arms again piece start t s left = absurd t

    arms_is : (at k : ℕ) (front : Arms) (head : Arg → Piece) (place : ℕ) (arg : Arg) (start : ℕ) → AreArms source front levels pieces.If at place → Stands source place (arm_tag front arg) start → Stands source place (head arg) start
        → length source ≤ start + fuel → length source ≤ start + k → MatchResult (arms_at source nodes at k place arg start) (HaveArm head place) (IsInsideRefused at)
    unfolding arms_at
    arms_is at zero front head place arg start are s h left few =
        let ahead = stands_forward source (head arg) place start h in
        (λ e. cc, in_arm source levels at front arg place start (refusals.Unclosed at) are s (none, start, refl, now levels source (Some (going_on at tags.If)) (refusals.Unclosed at) start (refl, omega (arith, few, ahead.1.0))))
    arms_is at (suc k) front head place arg start are s h left few =
        let outer = going_on at tags.If in
        let ahead = stands_forward source (head arg) place start h in
        then_match (IsNodes levels start) (IsNodesRefused levels start) (HaveArm head place) (IsInsideRefused at) (nodes start) _ (reads start ahead.1.0 left)
        (λ block n. then_match (Turned outer block.1) (Unturned levels outer block.1) (HaveArm head place) (IsInsideRefused at) (turn_at source outer block.1) _ (turn_is levels outer block.1 n.1)
        (λ turn t.
        let new = snoc_arm front place arg block.0 in
        let done = done_arms source front new levels at place arg block.0 start block.1 refl are s n.0 in
        let further = block_forward source block.0 levels start block.1 n.0 in
        then_match (AreRead pieces.Elif block.1) (IsInsideRefused at) (HaveArm head place) (IsInsideRefused at) (rest_at source nodes at (arms_at source nodes at k block.1) turn.0 turn.1) (λ rest. Ok ((arm place arg block.0 rest.0.0, rest.0.1), rest.1))
        (rest_is at block.1 new done.0 done.1 (arms_at source nodes at k block.1)
        (λ own begin stand.
        let beyond = stands_forward source (pieces.Elif own) block.1 begin stand in
        arms_is at k new pieces.Elif block.1 own begin done.1 (next_tag source front new place arg block.0 own block.1 begin refl stand) stand (omega (arith, left, further, beyond.0)) (omega (arith, few, further, beyond.0)))
        turn.0 turn.1 (turn_turns at tags.If block.1 turn t) (turn_stands outer block.1 turn t) (omega (arith, left, further)))
        (λ rest r. (tt, (r.0, r.1, (refl, start, block.1, h, n.0, r.2), r.3, r.4)))
        (λ refusal r. r))
        (λ refusal u. (u.0, in_arm source levels at front arg place start refusal are s (behind_block source levels (Some outer) block.0 start block.1 refusal n.0 u.1))))
        (λ refusal r. (r.0, in_arm source levels at front arg place start refusal are s (r.1 (Some outer))))

  -- ---- nodes

  abbrev Rightly : ℕ → (ℕ → Nodes) → Type 0
  Rightly fuel nodes = (levels : ℕ) → ReadsNodes fuel levels (nodes levels)

  abbrev IsNode : ℕ → ℕ → Item × ℕ → Type 0
  IsNode levels at x = IsItem source x.0 levels at x.1

  abbrev IsNodeRefused : ℕ → ℕ → DtmlRefusal → Type 0
  IsNodeRefused levels at refusal = Real refusal × ((outer : Option Open) → IsNext levels source outer refusal at)

  module _ (fuel : ℕ) (nodes : ℕ → Nodes) (rightly : Rightly fuel nodes) where
    deep : (at start : ℕ) (piece : Piece) → Stands source at piece start → has_block piece ≡ true → IsNodeRefused 0 at (refusals.TooDeep at)
    deep at start piece s b = (λ e. cc, λ outer. too_deep source 0 at start piece outer refl s b)

    single_is : (levels at : ℕ) (piece : Piece) (name : TagName) (make : Items → Item) (start : ℕ) → Stands source at piece start → single_tag piece ≡ Some name → has_block piece ≡ true → length source ≤ start + fuel
        → ((block : Items) (to : ℕ) → Within levels (λ inner. Encloses source piece name (IsBlock source block inner) at to) → IsItem source (make block) levels at to)
        → MatchResult (single_at source nodes levels at name make start) (IsNode levels at) (IsNodeRefused levels at)
    single_is zero at piece name make start s n b left wrap = deep at start piece s b
    single_is (suc levels) at piece name make start s n b left wrap =
        let ahead = stands_forward source piece at start s in
        then_match (IsLast levels name start) (IsFirstIn levels (closing at name) start) (IsNode (suc levels) at) (IsNodeRefused (suc levels) at) (last_block source (nodes levels) at name start) (λ block. Ok (make block.0, block.1))
        (last_is fuel levels (nodes levels) (rightly levels) at name start ahead.1.0 left)
        (λ block c. wrap block.0 block.1 (levels, refl, (start, c.0, s, c.1, c.2)))
        (λ refusal r. (r.0, λ outer. in_single source (suc levels) levels at start piece name outer refusal refl n s r.1))

    if_is : (levels at : ℕ) (arg : Arg) (start : ℕ) → Stands source at (pieces.If arg) start → length source ≤ start + fuel → MatchResult (node_from source nodes fuel levels at (pieces.If arg) start) (IsNode levels at) (IsNodeRefused levels at)
    if_is zero at arg start s left = deep at start (pieces.If arg) s refl
    if_is (suc levels) at arg start s left =
        then_match (HaveArm fuel levels (nodes levels) (rightly levels) pieces.If at) (IsInsideRefused fuel levels (nodes levels) (rightly levels) at) (IsNode (suc levels) at) (IsNodeRefused (suc levels) at)
        (arms_at source (nodes levels) at fuel at arg start) (λ arms. Ok (If arms.0.0 arms.0.1, arms.1))
        (arms_is fuel levels (nodes levels) (rightly levels) at fuel last pieces.If at arg start refl s s left left)
        (λ arms h. (h.0, (levels, refl, h.1)))
        (λ refusal r. (r.0, λ outer. steps.inner (suc levels) levels source outer refusal at refl r.1))

    in_is : (levels at : ℕ) (arg : Arg) (reverse skip : Bool) (start : ℕ) → Stands source at (pieces.In arg reverse skip) start → length source ≤ start + fuel
        → MatchResult (node_from source nodes fuel levels at (pieces.In arg reverse skip) start) (IsNode levels at) (IsNodeRefused levels at)
    in_is zero at arg reverse skip start s left = deep at start (pieces.In arg reverse skip) s refl
    in_is (suc levels) at arg reverse skip start s left =
        let ahead = stands_forward source (pieces.In arg reverse skip) at start s in
        then_match (IsLoop fuel levels (nodes levels) (rightly levels) start) (IsLoopRefused fuel levels (nodes levels) (rightly levels) at start) (IsNode (suc levels) at) (IsNodeRefused (suc levels) at)
        (loop_at source (nodes levels) at start) (λ blocks. Ok (Loop at arg reverse skip blocks.0.0 blocks.0.1, blocks.1))
        (loop_is fuel levels (nodes levels) (rightly levels) at start ahead.1.0 left)
        (λ blocks h. (refl, (levels, refl, (start, h.1, s, (h.0, h.2, h.3), h.4))))
        (λ refusal r. (r.0, λ outer. steps.inner (suc levels) levels source outer refusal at refl (in_loop source levels at start arg reverse skip refusal s r.1)))

    node_is : (levels at : ℕ) (piece : Piece) (start : ℕ) → Stands source at piece start → is_ending piece ≡ false → length source ≤ start + fuel → MatchResult (node_from source nodes fuel levels at piece start) (IsNode levels at) (IsNodeRefused levels at)
    node_is levels at (pieces.Plain text) start s e left = s
    node_is levels at (pieces.Var arg marks) start s e left = (refl, s)
    node_is levels at (pieces.Call arg) start s e left = (refl, s)
    node_is levels at (pieces.If arg) start s e left = if_is levels at arg start s left
    node_is levels at (pieces.Unless arg) start s e left = single_is levels at (pieces.Unless arg) tags.Unless (Unless at arg) start s refl refl left (λ block to w. (refl, w))
    node_is levels at (pieces.In arg reverse skip) start s e left = in_is levels at arg reverse skip start s left
    node_is levels at (pieces.With arg) start s e left = single_is levels at (pieces.With arg) tags.With (With at arg) start s refl refl left (λ block to w. (refl, w))
    node_is levels at (pieces.Let bounds) start s e left = single_is levels at (pieces.Let bounds) tags.Let (Let at bounds) start s refl refl left (λ block to w. (refl, w))
    node_is levels at pieces.Comment start s e left = single_is levels at pieces.Comment tags.Comment (Comment at) start s refl refl left (λ block to w. (refl, w))
    node_is levels at (pieces.Elif arg) start s e left = absurd cc
    node_is levels at pieces.Else start s e left = absurd cc
    node_is levels at (pieces.Close name) start s e left = absurd cc

    -- a node, and those behind it
    one_and_rest : (levels at : ℕ) (part : SourcePart) → IsPartAt source at part → ends_block part.kind ≡ false → length source ≤ at + suc fuel → (piece : Piece) → IsPiece part.kind piece
        → MatchResult (node_from source nodes fuel levels at piece part.end >>= λ node. nodes levels node.1 >>= λ rest. Ok (more node.0 rest.0, rest.1)) (IsNodes levels at) (IsNodesRefused levels at)
    one_and_rest levels at part is e left piece p =
        then_match (IsNode levels at) (IsNodeRefused levels at) (IsNodes levels at) (IsNodesRefused levels at) (node_from source nodes fuel levels at piece part.end) (λ node. nodes levels node.1 >>= λ rest. Ok (more node.0 rest.0, rest.1))
        (node_is levels at piece part.end (part, is, p, refl) (begins_node part.kind piece p.1 e) (let forward = is.forward in omega (arith, left, forward)))
        (λ node i.
        let forward = item_forward source node.0 levels at node.1 i in
        then_match (IsNodes levels node.1) (IsNodesRefused levels node.1) (IsNodes levels at) (IsNodesRefused levels at) (nodes levels node.1) (λ rest. Ok (more node.0 rest.0, rest.1))
        (rightly levels node.1 forward.1.0 (omega (arith, left, forward.0)))
        (λ rest n. ((node.1, i, n.0), n.1))
        (λ refusal r. (r.0, λ outer. let h = r.1 outer in (more node.0 h.0, h.1, (node.1, i, h.2), h.3))))
        (λ refusal r. (r.0, λ outer. (none, at, refl, r.1 outer)))

    nodes_next : (levels at : ℕ) → length source ≤ at + suc fuel → (o : Option SourcePart) → IsNextPart at o → MatchResult (nodes_from source nodes fuel levels at o) (IsNodes levels at) (IsNodesRefused levels at)
    nodes_next levels at left None e = (refl, inl e)
    nodes_next levels at left (Some part) is = (elim (ends_block part.kind) as (λ t. ends_block part.kind ≡ t
        → MatchResult (if t then Ok (none, at) else (said at part.kind >>= λ piece. node_from source nodes fuel levels at piece part.end >>= λ node. nodes levels node.1 >>= λ rest. Ok (more node.0 rest.0, rest.1))) (IsNodes levels at) (IsNodesRefused levels at)) [
          | true ↦ λ e. (refl, inr (part, is, e))
          | false ↦ λ e. then_match (IsPiece part.kind) (IsUnsaid at part.kind) (IsNodes levels at) (IsNodesRefused levels at) (said at part.kind) _ (said_is at part.kind)
              (one_and_rest levels at part is e left)
              (λ refusal u. (u.0, λ outer. (none, at, refl, now levels source outer refusal at (no_piece source levels outer part at refusal is (no_stray outer part.kind e) u.1))))
        ]) refl

  nodes_are : (fuel : ℕ) → Rightly fuel (nodes_at source fuel)
  unfolding nodes_at
  nodes_are zero levels at le left = (refl, inl (omega (arith, le, left)))
  nodes_are (suc fuel) levels at le left =
      then_match (IsNextPart at) (IsBadTag at) (IsNodes levels at) (IsNodesRefused levels at) (next_part source at) (nodes_from source (nodes_at source fuel) fuel levels at) (next_is at le)
      (nodes_next fuel (nodes_at source fuel) (nodes_are fuel) levels at left)
      (λ refusal b. ((bad_tag levels None at refusal b).0, λ outer. (none, at, refl, now levels source outer refusal at (bad_tag levels outer at refusal b).1)))

  -- ---- the whole source

  abbrev IsRightRefusal : DtmlRefusal → Type 0
  IsRightRefusal refusal = Refuses source refusal × Real refusal

  all_stray : length source ≤ MOST_SOURCE → (x : Items × ℕ) → IsNodes 64 0 x → x.1 < length source → IsRightRefusal (refusals.Stray x.1)
  all_stray small x (is, inl e) inside = absurd (omega (arith, e, inside))
  all_stray small x (is, inr h) inside = ((small, (x.0, x.1, is, now 64 source None (refusals.Stray x.1) x.1 (refl, h.0, h.1, stray_outside h.0.kind h.2))), λ e. cc)

  whole_is : length source ≤ MOST_SOURCE → (x : Items × ℕ) → IsNodes 64 0 x → MatchResult (whole source x) (Reads source) IsRightRefusal
  whole_is small x n = (elim (nat_lt x.1 (length source)) as (λ t. nat_lt x.1 (length source) ≡ t → MatchResult (if t then Err (refusals.Stray x.1) else Ok x.0) (Reads source) IsRightRefusal) [
    | true ↦ λ e. let inside : x.1 < length source = grind (arith, nat_tests) in all_stray small x n inside
    | false ↦ λ e.
        let outside : length source ≤ x.1 = grind (arith, nat_tests) in
        let within = ended_within x.1 n.1 in
        let end : x.1 ≡ length source = omega (arith, outside, within) in
        (small, subst (λ (to : ℕ). IsBlock source x.0 64 0 to) end n.0)
  ]) refl

  template_is : (fuel : ℕ) → length source ≤ fuel → MatchResult (template_at fuel source) (Reads source) IsRightRefusal
  unfolding template_at
  template_is fuel le = (elim (nat_lt MOST_SOURCE (length source)) as (λ t. nat_lt MOST_SOURCE (length source) ≡ t
      → MatchResult (if t then Err (refusals.TooLarge MOST_SOURCE) else (nodes_at source fuel 64 0 >>= whole source)) (Reads source) IsRightRefusal) [
        | true ↦ λ e. let large : MOST_SOURCE < length source = grind (arith, nat_tests) in ((refl, large), λ r. cc)
        | false ↦ λ e.
            let small : length source ≤ MOST_SOURCE = grind (arith, nat_tests) in
            then_match (IsNodes 64 0) (IsNodesRefused 64 0) (Reads source) IsRightRefusal (nodes_at source fuel 64 0) (whole source) (nodes_are fuel 64 0 (omega arith) (omega (arith, le)))
            (whole_is small)
            (λ refusal r. (refuses source refusal small (r.1 None), r.0))
      ]) refl

  tree_answered : OneTree → RefusedIsNoTree → (tree : Items) → Reads source tree → (answer : Answer Items) → MatchResult answer (Reads source) IsRightRefusal → answer ≡ Ok tree
  tree_answered one never tree h (Ok other) m = ap (λ (t : Items). let answer : Answer Items = Ok t in answer) (one source other tree m h)
  tree_answered one never tree h (Err refusal) m = absurd (never source tree refusal m.1 m.0 h)

  refusal_answered : RefusedIsNoTree → OneRefusal → (refusal : DtmlRefusal) → IsRightRefusal refusal → (answer : Answer Items) → MatchResult answer (Reads source) IsRightRefusal → answer ≡ Err refusal
  refusal_answered never one refusal h (Ok tree) m = absurd (never source tree refusal h.1 h.0 m)
  refusal_answered never one refusal h (Err other) m = ap (λ (r : DtmlRefusal). let answer : Answer Items = Err r in answer) (one source other refusal m.1 h.1 m.0 h.0)

  abbrev Right : Answer Items → Type 0
  Right answer = MatchResult answer (Reads source) IsRightRefusal

pub reads_trees : ReadIsSpelled → ReadsParts → OneTree → RefusedIsNoTree → ReadsTrees
reads_trees spelled says one never source fuel tree text le =
    let is = template_is spelled says source text fuel le in
    (λ e. subst (Right spelled says source text) e is, λ h. tree_answered spelled says source text one never tree h (template_at fuel source) is)

pub reads_refusals : ReadIsSpelled → ReadsParts → RefusedIsNoTree → OneRefusal → ReadsRefusals
reads_refusals spelled says never one source fuel refusal text le =
    let is = template_is spelled says source text fuel le in
    (λ e. subst (Right spelled says source text) e is, λ h. refusal_answered spelled says source text never one refusal h (template_at fuel source) is)
