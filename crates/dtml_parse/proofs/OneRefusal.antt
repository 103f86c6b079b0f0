-- A source has one first refusal.
use Rattle.std.proofs.Common.{◌≡◌, ◌∙◌, ◌⊎◌, inl, inr, ℕ, zero, suc, ◌≤◌, ◌<◌, Bool, true, false, List, length, Option, Some, None, refl, sym, ap, subst, arith}
use Rattle.zbase.specs.declared.limits.TheConstants.{MOST_SOURCE}
use Rattle.dtml_lex.specs.declared.part.TagName.{TagName}
use Rattle.dtml_lex.specs.declared.part.TagName.TheVariants as tags
use Rattle.dtml_lex.specs.declared.part.SourcePart.{SourcePart}
use Rattle.dtml_lex.specs.declared.refusal.DtmlRefusal.{DtmlRefusal}
use Rattle.dtml_lex.specs.declared.refusal.DtmlRefusal.TheVariants as refusals
use Rattle.dtml_lex.specs.Source.{IsPartAt}
use Rattle.dtml_parse.specs.Trees.{Arg, Items, Arms, none, more, last, arm}
use Rattle.dtml_parse.specs.Pieces as pieces
use Rattle.dtml_parse.specs.Pieces.{Piece, MeansNothing, is_lawful}
use Rattle.dtml_parse.specs.Grammar.{Stands, HasArm, IsItem, IsBlock, AreArms}
use Rattle.dtml_parse.specs.Refusals.{Open, strays, has_block, single_tag, arm_tag, IsOpenAt, IsRefused, Enters, only_block, loop_block, loop_else, arm_block, if_else, Behind, IsNext, IsFirst, Refuses}
use Rattle.dtml_parse.proofs.Once.{OneExpr, part_once, stands_once}
use Rattle.dtml_parse.proofs.Trees.{inside, same_item, same_block, same_first}
use Rattle.dtml_parse.proofs.Refused.{strays_is, means_not, true_false, part_inside, block_code, no_stray_code, enters_piece, Follows, Whole, refused_not, elif_ends, first_arms, refutes, walk}

abbrev Real : DtmlRefusal → Type 0
Real refusal = refusal ≡ refusals.Memory → ⊥

open_once : (outer : Option Open) (p q : ℕ) → IsOpenAt outer p → IsOpenAt outer q → p ≡ q
open_once None p q h k = absurd h
open_once (Some outer) p q h k = h ∙ sym k

-- the name of a tag that has one block alone, told twice
single_once : (p q : Piece) (m n : TagName) → p ≡ q → single_tag p ≡ Some m → single_tag q ≡ Some n → m ≡ n
single_once p q m n e h k = let f : Some m ≡ Some n = sym h ∙ (ap single_tag e ∙ k) in cc

single_not_in : (p : Piece) (n : TagName) (arg : Arg) (reverse skip : Bool) → single_tag p ≡ Some n → p ≡ pieces.In arg reverse skip → ⊥
single_not_in p n arg reverse skip h e = let f = sym h ∙ ap single_tag e in cc

single_not_if : (p : Piece) (n : TagName) (arg : Arg) → single_tag p ≡ Some n → p ≡ pieces.If arg → ⊥
single_not_if p n arg h e = let f = sym h ∙ ap single_tag e in cc

in_not_if : (arg : Arg) (reverse skip : Bool) (other : Arg) → pieces.In arg reverse skip ≡ pieces.If other → ⊥
in_not_if arg reverse skip other e = cc

module _ (one : OneExpr) (source : List ℕ) where
  straight : (outer : Option Open) (at : ℕ) (part : SourcePart) (piece : Piece) (to : ℕ) → IsPartAt source at part → Stands source at piece to → has_block piece ≡ true → strays outer part.kind ≡ false
  straight outer at part piece to is s b =
      ap (strays outer) (part_once source at part s.0 is s.1).0 ∙ (strays_is outer s.0.kind piece s.2.1 ∙ no_stray_code outer piece (omega (arith, block_code piece b)))

  stray_other : (outer : Option Open) (at : ℕ) (p q : SourcePart) → IsPartAt source at p → IsPartAt source at q → strays outer p.kind ≡ true → strays outer q.kind ≡ false → ⊥
  stray_other outer at p q hp hq t f = true_false (strays outer q.kind) (sym (ap (strays outer) (part_once source at p q hp hq).0) ∙ t) f

  unlawful_other : (at : ℕ) (p q : SourcePart) → IsPartAt source at p → IsPartAt source at q → is_lawful p.kind ≡ false → is_lawful q.kind ≡ true → ⊥
  unlawful_other at p q hp hq f t = true_false (is_lawful q.kind) t (sym (ap is_lawful (part_once source at p q hp hq).0) ∙ f)

  no_part : (at : ℕ) (refusal : DtmlRefusal) (place : ℕ) (levels : ℕ) (outer : Option Open) (part : SourcePart) → IsRefused source levels outer at (refusals.BadTag place) → IsPartAt source at part → ⊥
  no_part at refusal place levels outer part h is = let k = is.read in let n = h.2 in cc

  -- of two refusals of one part, the second doesn't stand before the first
  refused_once : (levels : ℕ) (outer : Option Open) (at : ℕ) (r q : DtmlRefusal) → Real r → Real q → IsRefused source levels outer at r → IsRefused source levels outer at q → r ≡ q
  refused_once levels outer at refusals.Memory q rr rq h k = absurd (rr refl)
  refused_once levels outer at r refusals.Memory rr rq h k = absurd (rq refl)
  refused_once levels outer at (refusals.TooLarge m) q rr rq h k = absurd h
  refused_once levels outer at r (refusals.TooLarge m) rr rq h k = absurd k
  refused_once levels outer at (refusals.BadTag a) (refusals.BadTag b) rr rq h k = ap refusals.BadTag (h.0 ∙ sym k.0)
  refused_once levels outer at (refusals.BadTag a) (refusals.Unclosed b) rr rq h k = absurd (omega (arith, h.1, k.1))
  refused_once levels outer at (refusals.BadTag a) (refusals.Stray b) rr rq h k = absurd (no_part at (refusals.Stray b) a levels outer k.1 h k.2)
  refused_once levels outer at (refusals.BadTag a) (refusals.BadAttribute b) rr rq h k = absurd (no_part at (refusals.Stray b) a levels outer k.1 h k.2)
  refused_once levels outer at (refusals.BadTag a) (refusals.BadExpression b) rr rq h k = absurd (no_part at (refusals.Stray b) a levels outer k.1 h k.2)
  refused_once levels outer at (refusals.BadTag a) (refusals.TooDeep b) rr rq h k = absurd (no_part at (refusals.Stray b) a levels outer k.4.0 h k.4.1)
  refused_once levels outer at (refusals.Unclosed a) (refusals.BadTag b) rr rq h k = absurd (omega (arith, h.1, k.1))
  refused_once levels outer at (refusals.Unclosed a) (refusals.Unclosed b) rr rq h k = ap refusals.Unclosed (open_once outer a b h.0 k.0)
  refused_once levels outer at (refusals.Unclosed a) (refusals.Stray b) rr rq h k = absurd (omega (arith, h.1, part_inside source at k.1 k.2))
  refused_once levels outer at (refusals.Unclosed a) (refusals.BadAttribute b) rr rq h k = absurd (omega (arith, h.1, part_inside source at k.1 k.2))
  refused_once levels outer at (refusals.Unclosed a) (refusals.BadExpression b) rr rq h k = absurd (omega (arith, h.1, part_inside source at k.1 k.2))
  refused_once levels outer at (refusals.Unclosed a) (refusals.TooDeep b) rr rq h k = absurd (omega (arith, h.1, inside source at k.2 k.3 k.4))
  refused_once levels outer at (refusals.Stray a) (refusals.BadTag b) rr rq h k = absurd (no_part at (refusals.Stray b) b levels outer h.1 k h.2)
  refused_once levels outer at (refusals.Stray a) (refusals.Unclosed b) rr rq h k = absurd (omega (arith, k.1, part_inside source at h.1 h.2))
  refused_once levels outer at (refusals.Stray a) (refusals.Stray b) rr rq h k = ap refusals.Stray (h.0 ∙ sym k.0)
  refused_once levels outer at (refusals.Stray a) (refusals.BadAttribute b) rr rq h k = absurd (stray_other outer at h.1 k.1 h.2 k.2 h.3 k.3)
  refused_once levels outer at (refusals.Stray a) (refusals.BadExpression b) rr rq h k = absurd (stray_other outer at h.1 k.1 h.2 k.2 h.3 k.3)
  refused_once levels outer at (refusals.Stray a) (refusals.TooDeep b) rr rq h k = absurd (true_false (strays outer h.1.kind) h.3 (straight outer at h.1 k.2 k.3 h.2 k.4 k.5))
  refused_once levels outer at (refusals.BadAttribute a) (refusals.BadTag b) rr rq h k = absurd (no_part at (refusals.Stray b) b levels outer h.1 k h.2)
  refused_once levels outer at (refusals.BadAttribute a) (refusals.Unclosed b) rr rq h k = absurd (omega (arith, k.1, part_inside source at h.1 h.2))
  refused_once levels outer at (refusals.BadAttribute a) (refusals.Stray b) rr rq h k = absurd (stray_other outer at k.1 h.1 k.2 h.2 k.3 h.3)
  refused_once levels outer at (refusals.BadAttribute a) (refusals.BadAttribute b) rr rq h k = ap refusals.BadAttribute (h.0 ∙ sym k.0)
  refused_once levels outer at (refusals.BadAttribute a) (refusals.BadExpression b) rr rq h k = absurd (unlawful_other at h.1 k.1 h.2 k.2 h.4 k.4)
  refused_once levels outer at (refusals.BadAttribute a) (refusals.TooDeep b) rr rq h k = absurd (unlawful_other at h.1 k.4.0 h.2 k.4.1 h.4 k.4.2.0)
  refused_once levels outer at (refusals.BadExpression a) (refusals.BadTag b) rr rq h k = absurd (no_part at (refusals.Stray b) b levels outer h.1 k h.2)
  refused_once levels outer at (refusals.BadExpression a) (refusals.Unclosed b) rr rq h k = absurd (omega (arith, k.1, part_inside source at h.1 h.2))
  refused_once levels outer at (refusals.BadExpression a) (refusals.Stray b) rr rq h k = absurd (stray_other outer at k.1 h.1 k.2 h.2 k.3 h.3)
  refused_once levels outer at (refusals.BadExpression a) (refusals.BadAttribute b) rr rq h k = absurd (unlawful_other at k.1 h.1 k.2 h.2 k.4 h.4)
  refused_once levels outer at (refusals.BadExpression a) (refusals.BadExpression b) rr rq h k = ap refusals.BadExpression (h.0 ∙ sym k.0)
  refused_once levels outer at (refusals.BadExpression a) (refusals.TooDeep b) rr rq h k = absurd (means_not k.4.0.kind k.2 k.4.2.1 (subst MeansNothing (part_once source at h.1 k.4.0 h.2 k.4.1).0 h.5))
  refused_once levels outer at (refusals.TooDeep a) (refusals.BadTag b) rr rq h k = absurd (no_part at (refusals.Stray b) b levels outer h.4.0 k h.4.1)
  refused_once levels outer at (refusals.TooDeep a) (refusals.Unclosed b) rr rq h k = absurd (omega (arith, k.1, inside source at h.2 h.3 h.4))
  refused_once levels outer at (refusals.TooDeep a) (refusals.Stray b) rr rq h k = absurd (true_false (strays outer k.1.kind) k.3 (straight outer at k.1 h.2 h.3 k.2 h.4 h.5))
  refused_once levels outer at (refusals.TooDeep a) (refusals.BadAttribute b) rr rq h k = absurd (unlawful_other at k.1 h.4.0 k.2 h.4.1 k.4 h.4.2.0)
  refused_once levels outer at (refusals.TooDeep a) (refusals.BadExpression b) rr rq h k = absurd (means_not h.4.0.kind h.2 h.4.2.1 (subst MeansNothing (part_once source at k.1 h.4.0 k.2 h.4.1).0 k.5))
  refused_once levels outer at (refusals.TooDeep a) (refusals.TooDeep b) rr rq h k = ap refusals.TooDeep (h.0 ∙ sym k.0)

  -- Two blocks that are entered at one place are one, or the one that begins first is whole.
  abbrev Compared : ℕ → Open → ℕ → Open → ℕ → Type 0
  Compared levels m start n begin = (((m ≡ n) × (start ≡ begin)) ⊎ Whole source levels m start) ⊎ Whole source levels n begin

  elif_follows : (rest : Arms) (levels at behind start place : ℕ) (arg : Arg) → AreArms source rest levels pieces.Elif at behind → Stands source behind (pieces.Elif arg) start → Follows source (Some (record { at = place; name = tags.If; goes_on = true })) at
  elif_follows last levels at behind start place arg h s = (pieces.Elif arg, start, subst (λ (x : ℕ). Stands source x (pieces.Elif arg) start) (sym h) s, refl, refl)
  elif_follows (arm p own block rest) levels at behind start place arg h s = (pieces.Elif own, h.1, h.3, refl, refl)

  abbrev IfOpen : ℕ → Open
  IfOpen place = record { at = place; name = tags.If; goes_on = true }

  rest_both : (as_ bs : Arms) (levels at place behind stop start begin : ℕ) (a b : Arg) → AreArms source as_ levels pieces.Elif at behind → Stands source behind (pieces.Elif a) start → AreArms source bs levels pieces.Elif at stop → Stands source stop (pieces.Elif b) begin
      → Compared levels (IfOpen place) start (IfOpen place) begin
  rest_both last last levels at place behind stop start begin a b ha sa hb sb =
      inl (inl (refl, (stands_once one source behind (pieces.Elif a) (pieces.Elif b) start begin sa (subst (λ (x : ℕ). Stands source x (pieces.Elif b) begin) (sym hb ∙ ha) sb)).1))
  rest_both last (arm p own block rest) levels at place behind stop start begin a b ha sa hb sb =
      let m = (stands_once one source at (pieces.Elif own) (pieces.Elif a) hb.1 start hb.3 (subst (λ (x : ℕ). Stands source x (pieces.Elif a) start) (sym ha) sa)).1 in
      inl (inr (block, hb.2, subst (λ (x : ℕ). IsBlock source block levels x hb.2) m hb.4, elif_follows rest levels hb.2 stop begin place b hb.5 sb))
  rest_both (arm p own block rest) last levels at place behind stop start begin a b ha sa hb sb =
      let m = (stands_once one source at (pieces.Elif own) (pieces.Elif b) ha.1 begin ha.3 (subst (λ (x : ℕ). Stands source x (pieces.Elif b) begin) (sym hb) sb)).1 in
      inr (block, ha.2, subst (λ (x : ℕ). IsBlock source block levels x ha.2) m ha.4, elif_follows rest levels ha.2 behind start place a ha.5 sa)
  rest_both (arm p own block rest) (arm p' own' block' rest') levels at place behind stop start begin a b ha sa hb sb =
      let m = (stands_once one source at (pieces.Elif own) (pieces.Elif own') ha.1 hb.1 ha.3 hb.3).1 in
      let k = (same_block one source block block' levels ha.1 ha.2 hb.2 ha.4 (subst (λ (x : ℕ). IsBlock source block' levels x hb.2) (sym m) hb.4)
      (inr (elif_ends one source rest levels ha.2 behind start a ha.5 sa)) (inr (elif_ends one source rest' levels hb.2 stop begin b hb.5 sb))).1 in
      rest_both rest rest' levels ha.2 place behind stop start begin a b ha.5 sa (subst (λ (x : ℕ). AreArms source rest' levels pieces.Elif x stop) (sym k) hb.5) sb

  first_both : (as_ bs : Arms) (levels at behind stop start begin : ℕ) (a b : Arg) → AreArms source as_ levels pieces.If at behind → Stands source behind (arm_tag as_ a) start → AreArms source bs levels pieces.If at stop → Stands source stop (arm_tag bs b) begin
      → Compared levels (IfOpen at) start (IfOpen at) begin
  first_both last last levels at behind stop start begin a b ha sa hb sb =
      inl (inl (refl, (stands_once one source behind (pieces.If a) (pieces.If b) start begin sa (subst (λ (x : ℕ). Stands source x (pieces.If b) begin) (sym hb ∙ ha) sb)).1))
  first_both last (arm p own block rest) levels at behind stop start begin a b ha sa hb sb =
      let m = (stands_once one source at (pieces.If own) (pieces.If a) hb.1 start hb.3 (subst (λ (x : ℕ). Stands source x (pieces.If a) start) (sym ha) sa)).1 in
      inl (inr (block, hb.2, subst (λ (x : ℕ). IsBlock source block levels x hb.2) m hb.4, elif_follows rest levels hb.2 stop begin at b hb.5 sb))
  first_both (arm p own block rest) last levels at behind stop start begin a b ha sa hb sb =
      let m = (stands_once one source at (pieces.If own) (pieces.If b) ha.1 begin ha.3 (subst (λ (x : ℕ). Stands source x (pieces.If b) begin) (sym hb) sb)).1 in
      inr (block, ha.2, subst (λ (x : ℕ). IsBlock source block levels x ha.2) m ha.4, elif_follows rest levels ha.2 behind start at a ha.5 sa)
  first_both (arm p own block rest) (arm p' own' block' rest') levels at behind stop start begin a b ha sa hb sb =
      let m = (stands_once one source at (pieces.If own) (pieces.If own') ha.1 hb.1 ha.3 hb.3).1 in
      let k = (same_block one source block block' levels ha.1 ha.2 hb.2 ha.4 (subst (λ (x : ℕ). IsBlock source block' levels x hb.2) (sym m) hb.4)
      (inr (elif_ends one source rest levels ha.2 behind start a ha.5 sa)) (inr (elif_ends one source rest' levels hb.2 stop begin b hb.5 sb))).1 in
      rest_both rest rest' levels ha.2 at behind stop start begin a b ha.5 sa (subst (λ (x : ℕ). AreArms source rest' levels pieces.Elif x stop) (sym k) hb.5) sb

  -- the `if` that arms or the next arm begin with
  if_stands : (arms : Arms) (levels at behind start : ℕ) (arg : Arg) → AreArms source arms levels pieces.If at behind → Stands source behind (arm_tag arms arg) start → (own : Arg) × (to : ℕ) × Stands source at (pieces.If own) to
  if_stands last levels at behind start arg h s = (arg, start, subst (λ (x : ℕ). Stands source x (pieces.If arg) start) (sym h) s)
  if_stands (arm p own block rest) levels at behind start arg h s = (own, h.1, h.3)

  arms_stand : (arms : Arms) (levels at behind : ℕ) → HasArm arms → AreArms source arms levels pieces.If at behind → (own : Arg) × (to : ℕ) × Stands source at (pieces.If own) to
  arms_stand last levels at behind has h = absurd has
  arms_stand (arm p own block rest) levels at behind has h = (own, h.1, h.3)

  single_in : {A : Type 0} (at start begin : ℕ) (p : Piece) (n : TagName) (arg : Arg) (reverse skip : Bool) → single_tag p ≡ Some n → Stands source at p start → Stands source at (pieces.In arg reverse skip) begin → A
  single_in at start begin p n arg reverse skip e s t = absurd (single_not_in p n arg reverse skip e (stands_once one source at p (pieces.In arg reverse skip) start begin s t).0)

  single_if : {A : Type 0} (at start : ℕ) (p : Piece) (n : TagName) → single_tag p ≡ Some n → Stands source at p start → ((own : Arg) × (to : ℕ) × Stands source at (pieces.If own) to) → A
  single_if at start p n e s t = absurd (single_not_if p n t.0 e (stands_once one source at p (pieces.If t.0) start t.1 s t.2).0)

  in_if : {A : Type 0} (at start : ℕ) (arg : Arg) (reverse skip : Bool) → Stands source at (pieces.In arg reverse skip) start → ((own : Arg) × (to : ℕ) × Stands source at (pieces.If own) to) → A
  in_if at start arg reverse skip s t = absurd (in_not_if arg reverse skip t.0 (stands_once one source at (pieces.In arg reverse skip) (pieces.If t.0) start t.1 s t.2).0)

  entered : (levels at : ℕ) (m : Open) (start : ℕ) (n : Open) (begin : ℕ) → Enters source levels at m start → Enters source levels at n begin → Compared levels m start n begin
  entered levels at m start n begin (only_block p x e s) (only_block q y f t) =
      let k = stands_once one source at p q start begin s t in
      inl (inl (ap (λ (z : TagName). record { at = at; name = z; goes_on = false }) (single_once p q x y k.0 e f), k.1))
  entered levels at m start n begin (only_block p x e s) (loop_block arg reverse skip t) = single_in at start begin p x arg reverse skip e s t
  entered levels at m start n begin (only_block p x e s) (loop_else arg reverse skip block first behind t b u) = single_in at start first p x arg reverse skip e s t
  entered levels at m start n begin (only_block p x e s) (arm_block arms arg behind h t) = single_if at start p x e s (if_stands arms levels at behind begin arg h t)
  entered levels at m start n begin (only_block p x e s) (if_else arms behind has h t) = single_if at start p x e s (arms_stand arms levels at behind has h)
  entered levels at m start n begin (loop_block arg reverse skip s) (only_block q y f t) = single_in at begin start q y arg reverse skip f t s
  entered levels at m start n begin (loop_block arg reverse skip s) (loop_block arg' reverse' skip' t) = inl (inl (refl, (stands_once one source at _ _ start begin s t).1))
  entered levels at m start n begin (loop_block arg reverse skip s) (loop_else arg' reverse' skip' block first behind t b u) =
      let k = (stands_once one source at _ _ first start t s).1 in
      inl (inr (block, behind, subst (λ (x : ℕ). IsBlock source block levels x behind) k b, (pieces.Else, begin, u, refl, refl)))
  entered levels at m start n begin (loop_block arg reverse skip s) (arm_block arms own behind h t) = in_if at start arg reverse skip s (if_stands arms levels at behind begin own h t)
  entered levels at m start n begin (loop_block arg reverse skip s) (if_else arms behind has h t) = in_if at start arg reverse skip s (arms_stand arms levels at behind has h)
  entered levels at m start n begin (loop_else arg reverse skip block first behind s b u) (only_block q y f t) = single_in at begin first q y arg reverse skip f t s
  entered levels at m start n begin (loop_else arg reverse skip block first behind s b u) (loop_block arg' reverse' skip' t) =
      let k = (stands_once one source at _ _ first begin s t).1 in
      inr (block, behind, subst (λ (x : ℕ). IsBlock source block levels x behind) k b, (pieces.Else, start, u, refl, refl))
  entered levels at m start n begin (loop_else arg reverse skip block first behind s b u) (loop_else arg' reverse' skip' block' first' behind' s' b' u') =
      let k = (stands_once one source at _ _ first first' s s').1 in
      let l = (same_block one source block block' levels first behind behind' b (subst (λ (x : ℕ). IsBlock source block' levels x behind') (sym k) b') (inr (pieces.Else, start, u, refl)) (inr (pieces.Else, begin, u', refl))).1 in
      inl (inl (refl, (stands_once one source behind pieces.Else pieces.Else start begin u (subst (λ (x : ℕ). Stands source x pieces.Else begin) (sym l) u')).1))
  entered levels at m start n begin (loop_else arg reverse skip block first behind s b u) (arm_block arms own stop h t) = in_if at first arg reverse skip s (if_stands arms levels at stop begin own h t)
  entered levels at m start n begin (loop_else arg reverse skip block first behind s b u) (if_else arms stop has h t) = in_if at first arg reverse skip s (arms_stand arms levels at stop has h)
  entered levels at m start n begin (arm_block arms own behind h t) (only_block q y f s) = single_if at begin q y f s (if_stands arms levels at behind start own h t)
  entered levels at m start n begin (arm_block arms own behind h t) (loop_block arg reverse skip s) = in_if at begin arg reverse skip s (if_stands arms levels at behind start own h t)
  entered levels at m start n begin (arm_block arms own behind h t) (loop_else arg reverse skip block first stop s b u) = in_if at first arg reverse skip s (if_stands arms levels at behind start own h t)
  entered levels at m start n begin (arm_block arms own behind h t) (arm_block arms' own' behind' h' t') = first_both arms arms' levels at behind behind' start begin own own' h t h' t'
  entered levels at m start n begin (arm_block arms own behind h t) (if_else arms' behind' has h' t') = inl (inr (first_arms one source arms arms' levels at behind behind' start own has h t h' (pieces.Else, begin, t', inl refl)))
  entered levels at m start n begin (if_else arms behind has h t) (only_block q y f s) = single_if at begin q y f s (arms_stand arms levels at behind has h)
  entered levels at m start n begin (if_else arms behind has h t) (loop_block arg reverse skip s) = in_if at begin arg reverse skip s (arms_stand arms levels at behind has h)
  entered levels at m start n begin (if_else arms behind has h t) (loop_else arg reverse skip block first stop s b u) = in_if at first arg reverse skip s (arms_stand arms levels at behind has h)
  entered levels at m start n begin (if_else arms behind has h t) (arm_block arms' own' behind' h' t') = inr (first_arms one source arms' arms levels at behind' behind begin own' has h' t' h (pieces.Else, start, t, inl refl))
  entered levels at m start n begin (if_else arms behind has h t) (if_else arms' behind' has' h' t') =
      let l = (same_first one source arms arms' levels at behind behind' has has' h h' (pieces.Else, start, t, inl refl) (pieces.Else, begin, t', inl refl)).1 in
      inl (inl (refl, (stands_once one source behind pieces.Else pieces.Else start begin t (subst (λ (x : ℕ). Stands source x pieces.Else begin) (sym l) t')).1))

  refused_entered : {A : Type 0} (levels : ℕ) (outer : Option Open) (at : ℕ) (refusal : DtmlRefusal) (n : Open) (begin : ℕ) → Real refusal → IsRefused source (suc levels) outer at refusal → Enters source levels at n begin → A
  refused_entered levels outer at refusal n begin real h e =
      let p = enters_piece source levels at n begin e in
      absurd (refused_not one source (suc levels) outer at refusal p.0 p.1 real p.2 (no_stray_code outer p.0 (omega (arith, block_code p.0 p.3))) (λ b. omega arith) h)

  abbrev Once : ℕ → Type 0
  Once levels = (outer : Option Open) (r q : DtmlRefusal) (at : ℕ) → Real r → Real q → IsNext levels source outer r at → IsNext levels source outer q at → r ≡ q

  fronts : (levels : ℕ) → Once levels → (a b : Items) (outer : Option Open) (r q : DtmlRefusal) (at middle end : ℕ) → Real r → Real q → IsBlock source a levels at middle → IsNext levels source outer r middle → IsBlock source b levels at end
      → IsNext levels source outer q end → r ≡ q
  fronts levels once none none outer r q at middle end rr rq a h b k = once outer r q middle rr rq h (subst (λ (x : ℕ). IsNext levels source outer q x) (sym b ∙ a) k)
  fronts levels once none (more item rest) outer r q at middle end rr rq a h b k =
      absurd ((refutes one source levels outer middle r rr h).1 item b.0 (subst (λ (x : ℕ). IsItem source item levels x b.0) a b.1))
  fronts levels once (more item rest) none outer r q at middle end rr rq a h b k =
      absurd ((refutes one source levels outer end q rq k).1 item a.0 (subst (λ (x : ℕ). IsItem source item levels x a.0) b a.1))
  fronts levels once (more item rest) (more item' rest') outer r q at middle end rr rq a h b k =
      let s = same_item one source item item' levels at a.0 b.0 a.1 b.1 in
      fronts levels once rest rest' outer r q a.0 middle end rr rq a.2 h (subst (λ (x : ℕ). IsBlock source rest' levels x end) (sym s.1) b.2) k

  both_entered : (levels : ℕ) → Once levels → (r q : DtmlRefusal) (m : Open) (start : ℕ) (n : Open) (begin : ℕ) → Real r → Real q → Compared levels m start n begin → Behind source levels start (IsNext levels source (Some m) r)
      → Behind source levels begin (IsNext levels source (Some n) q) → r ≡ q
  both_entered levels once r q m start n begin rr rq (inl (inl e)) h k =
      let k' = subst (λ (x : ℕ). Behind source levels x (IsNext levels source (Some m) q)) (sym e.1) (subst (λ (o : Open). Behind source levels begin (IsNext levels source (Some o) q)) (sym e.0) k) in
      fronts levels once h.0 k'.0 (Some m) r q start h.1 k'.1 rr rq h.2 h.3 k'.2 k'.3
  both_entered levels once r q m start n begin rr rq (inl (inr w)) h k = absurd (walk one source levels (refutes one source levels) h.0 w.0 (Some m) r start h.1 w.1 rr h.2 h.3 w.2 w.3)
  both_entered levels once r q m start n begin rr rq (inr w) h k = absurd (walk one source levels (refutes one source levels) k.0 w.0 (Some n) q begin k.1 w.1 rq k.2 k.3 w.2 w.3)

  once : (levels : ℕ) → Once levels
  once zero outer r q at rr rq h k = refused_once zero outer at r q rr rq h k
  once (suc levels) outer r q at rr rq (inl h) (inl k) = refused_once (suc levels) outer at r q rr rq h k
  once (suc levels) outer r q at rr rq (inl h) (inr k) = refused_entered levels outer at r k.0 k.1 rr h k.2
  once (suc levels) outer r q at rr rq (inr h) (inl k) = refused_entered levels outer at q h.0 h.1 rq k h.2
  once (suc levels) outer r q at rr rq (inr h) (inr k) = both_entered levels (once levels) r q h.0 h.1 k.0 k.1 rr rq (entered levels at h.0 h.1 k.0 k.1 h.2 k.2) h.3 k.3

  -- a source that is too long, or its first refusal
  parts : (r : DtmlRefusal) → Real r → Refuses source r → ((r ≡ refusals.TooLarge MOST_SOURCE) × (MOST_SOURCE < length source)) ⊎ ((length source ≤ MOST_SOURCE) × IsFirst source 64 None 0 r)
  parts refusals.Memory real h = absurd (real refl)
  parts (refusals.BadTag place) real h = inr (h.0, h.1)
  parts (refusals.Unclosed place) real h = inr (h.0, h.1)
  parts (refusals.Stray place) real h = inr (h.0, h.1)
  parts (refusals.BadAttribute place) real h = inr (h.0, h.1)
  parts (refusals.BadExpression place) real h = inr (h.0, h.1)
  parts (refusals.TooLarge most) real h = inl (ap refusals.TooLarge h.0, h.1)
  parts (refusals.TooDeep place) real h = inr (h.0, h.1)

  joined : (r q : DtmlRefusal) → Real r → Real q → ((r ≡ refusals.TooLarge MOST_SOURCE) × (MOST_SOURCE < length source)) ⊎ ((length source ≤ MOST_SOURCE) × IsFirst source 64 None 0 r)
      → ((q ≡ refusals.TooLarge MOST_SOURCE) × (MOST_SOURCE < length source)) ⊎ ((length source ≤ MOST_SOURCE) × IsFirst source 64 None 0 q) → r ≡ q
  joined r q rr rq (inl h) (inl k) = h.0 ∙ sym k.0
  joined r q rr rq (inl h) (inr k) = absurd (omega (arith, h.1, k.0))
  joined r q rr rq (inr h) (inl k) = absurd (omega (arith, h.0, k.1))
  joined r q rr rq (inr h) (inr k) = fronts 64 (once 64) h.1.0 k.1.0 None r q 0 h.1.1 k.1.1 rr rq h.1.2 h.1.3 k.1.2 k.1.3

  pub one_refusal : (r q : DtmlRefusal) → Real r → Real q → Refuses source r → Refuses source q → r ≡ q
  one_refusal r q rr rq h k = joined r q rr rq (parts r rr h) (parts q rq k)
