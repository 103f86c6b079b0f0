-- A block that stands at a place, up to a part that ends it or to the end, is one.
use Rattle.std.proofs.Common.{◌≡◌, ◌∙◌, ◌⊎◌, inl, inr, ℕ, suc, ◌<◌, true, List, length, refl, sym, ap, ap₂, subst, arith}
use Rattle.dtml_lex.specs.declared.part.TagName.{TagName}
use Rattle.dtml_lex.specs.declared.part.TagName.TheVariants as tags
use Rattle.dtml_parse.specs.Trees.{Arg, Item, Items, Arms, Otherwise, Plain, Var, Call, If, Unless, Loop, With, Let, Comment, none, more, last, arm, absent, present}
use Rattle.dtml_parse.specs.Pieces as pieces
use Rattle.dtml_parse.specs.Pieces.{Piece}
use Rattle.dtml_parse.specs.Parsing.{is_ending}
use Rattle.dtml_parse.specs.Grammar.{Stands, Encloses, Within, HasArm, IsItem, IsBlock, AreArms, IsElse}
use Rattle.dtml_parse.proofs.Once.{OneExpr, stands_once}

-- kinds of pieces and of nodes, by numbers; 0 is for the pieces that begin no node
abbrev pub code : Piece → ℕ
code (pieces.Plain text) = 1
code (pieces.Var arg marks) = 2
code (pieces.Call arg) = 3
code (pieces.If arg) = 4
code (pieces.Unless arg) = 5
code (pieces.In arg reverse skip) = 6
code (pieces.With arg) = 7
code (pieces.Let bounds) = 8
code pieces.Comment = 9
code (pieces.Elif arg) = 0
code pieces.Else = 0
code (pieces.Close name) = 0

abbrev pub item_code : Item → ℕ
item_code (Plain text) = 1
item_code (Var place arg marks) = 2
item_code (Call place arg) = 3
item_code (If arms otherwise) = 4
item_code (Unless place arg block) = 5
item_code (Loop place arg reverse skip block otherwise) = 6
item_code (With place arg block) = 7
item_code (Let place bounds block) = 8
item_code (Comment place block) = 9

-- a node begins with a piece of its kind
abbrev pub Begins : List ℕ → Item → ℕ → Type 0
Begins source item at = (piece : Piece) × (behind : ℕ) × Stands source at piece behind × (code piece ≡ item_code item)

pub begins : (source : List ℕ) (item : Item) (levels at to : ℕ) → IsItem source item levels at to → Begins source item at
begins source (Plain text) levels at to h = (pieces.Plain text, to, h, refl)
begins source (Var place arg marks) levels at to h = (pieces.Var arg marks, to, h.1, refl)
begins source (Call place arg) levels at to h = (pieces.Call arg, to, h.1, refl)
begins source (If last otherwise) levels at to h = absurd h.0
begins source (If (arm place arg block rest) otherwise) levels at to h = (pieces.If arg, h.1.2.2.1, h.1.2.2.3, refl)
begins source (Unless place arg block) levels at to h = (pieces.Unless arg, h.1.2.0, h.1.2.2, refl)
begins source (Loop place arg reverse skip block otherwise) levels at to h = (pieces.In arg reverse skip, h.1.2.0, h.1.2.2, refl)
begins source (With place arg block) levels at to h = (pieces.With arg, h.1.2.0, h.1.2.2, refl)
begins source (Let place bounds block) levels at to h = (pieces.Let bounds, h.1.2.0, h.1.2.2, refl)
begins source (Comment place block) levels at to h = (pieces.Comment, h.1.2.0, h.1.2.2, refl)

some_code : (item : Item) → 0 < item_code item
some_code (Plain text) = omega arith
some_code (Var place arg marks) = omega arith
some_code (Call place arg) = omega arith
some_code (If arms otherwise) = omega arith
some_code (Unless place arg block) = omega arith
some_code (Loop place arg reverse skip block otherwise) = omega arith
some_code (With place arg block) = omega arith
some_code (Let place bounds block) = omega arith
some_code (Comment place block) = omega arith

ending_code : (piece : Piece) → is_ending piece ≡ true → code piece ≡ 0
ending_code (pieces.Elif arg) e = refl
ending_code pieces.Else e = refl
ending_code (pieces.Close name) e = refl
ending_code _ e = absurd cc

-- a part that ends a block stands at a place
abbrev pub Ends : List ℕ → ℕ → Type 0
Ends source at = (piece : Piece) × (behind : ℕ) × Stands source at piece behind × (is_ending piece ≡ true)

-- a block ends at a place
abbrev pub Ceases : List ℕ → ℕ → Type 0
Ceases source at = (at ≡ length source) ⊎ Ends source at

-- what stands behind arms and behind the block of an `in`: an `else` or the closing tag
abbrev pub Turn : List ℕ → TagName → ℕ → Type 0
Turn source name at = (piece : Piece) × (next : ℕ) × Stands source at piece next × ((piece ≡ pieces.Else) ⊎ (piece ≡ pieces.Close name))

pub inside : (source : List ℕ) (at : ℕ) (piece : Piece) (behind : ℕ) → Stands source at piece behind → at < length source
inside source at piece behind h = omega (arith, h.1.forward, h.1.boundary.0)

pub else_begins : (source : List ℕ) (otherwise : Otherwise) (levels : ℕ) (name : TagName) (at behind to : ℕ) → IsElse source otherwise levels at behind → Stands source behind (pieces.Close name) to → Turn source name at
else_begins source absent levels name at behind to e h = (pieces.Close name, to, subst (λ (x : ℕ). Stands source x (pieces.Close name) to) (sym e) h, inr refl)
else_begins source (present block) levels name at behind to e h = (pieces.Else, e.0, e.1, inl refl)

ending_turn : (name : TagName) (piece : Piece) → (piece ≡ pieces.Else) ⊎ (piece ≡ pieces.Close name) → is_ending piece ≡ true
ending_turn name piece (inl e) = ap is_ending e
ending_turn name piece (inr e) = ap is_ending e

pub turn_ends : (source : List ℕ) (name : TagName) (at : ℕ) → Turn source name at → Ends source at
turn_ends source name at t = (t.0, t.1, t.2, ending_turn name t.0 t.3)

no_elif : (name : TagName) (arg : Arg) (piece : Piece) → (piece ≡ pieces.Else) ⊎ (piece ≡ pieces.Close name) → piece ≡ pieces.Elif arg → ⊥
no_elif name arg piece (inl e) f = let no : pieces.Else ≡ pieces.Elif arg = sym e ∙ f in cc
no_elif name arg piece (inr e) f = let no : pieces.Close name ≡ pieces.Elif arg = sym e ∙ f in cc

pub arms_end : (source : List ℕ) (arms : Arms) (levels : ℕ) (name : TagName) (at to : ℕ) → AreArms source arms levels pieces.Elif at to → Turn source name to → Ends source at
arms_end source last levels name at to h t = subst (λ (x : ℕ). Ends source x) (sym h) (turn_ends source name to t)
arms_end source (arm place arg block rest) levels name at to h t = (pieces.Elif arg, h.1, h.3, refl)

-- the levels inside are one number
levels_once : (levels a b : ℕ) → levels ≡ suc a → levels ≡ suc b → a ≡ b
levels_once levels a b e f = omega arith

module _ (one : OneExpr) (source : List ℕ) where
  pub codes : (a b : Item) (levels at to end : ℕ) → IsItem source a levels at to → IsItem source b levels at end → item_code a ≡ item_code b
  codes a b levels at to end ha hb =
      let x = begins source a levels at to ha in
      let y = begins source b levels at end hb in
      sym x.3 ∙ (ap code (stands_once one source at x.0 y.0 x.1 y.1 x.2 y.2).0 ∙ y.3)

  pub ceases_not : (item : Item) (levels at to : ℕ) → Ceases source at → IsItem source item levels at to → ⊥
  ceases_not item levels at to (inl e) h = let b = begins source item levels at to h in let lt = inside source at b.0 b.1 b.2 in omega (arith, e, lt)
  ceases_not item levels at to (inr e) h =
      let b = begins source item levels at to h in
      let same : code e.0 ≡ code b.0 = ap code (stands_once one source at e.0 b.0 e.1 b.1 e.2 b.2).0 in
      omega (arith, same, b.3, ending_code e.0 e.3, some_code item)

  turn_is_no_arm : (name : TagName) (arg : Arg) (at first : ℕ) → Turn source name at → Stands source at (pieces.Elif arg) first → ⊥
  turn_is_no_arm name arg at first t s = no_elif name arg t.0 t.3 (stands_once one source at t.0 (pieces.Elif arg) t.1 first t.2 s).0

  -- the closing tag is met in the same place by two
  abbrev SameBlocks : Items → Items → ℕ → ℕ → ℕ → ℕ → Type 0
  SameBlocks a b levels at to end = IsBlock source a levels at to → IsBlock source b levels at end → Ceases source to → Ceases source end → (a ≡ b) × (to ≡ end)

  -- two tags with a block each, at one place
  single : (piece other : Piece) (name : TagName) (a b : Items) → ((levels first behind stop : ℕ) → SameBlocks a b levels first behind stop) → (levels at to end : ℕ)
      → Within levels (λ inner. Encloses source piece name (IsBlock source a inner) at to) → Within levels (λ inner. Encloses source other name (IsBlock source b inner) at end)
      → (piece ≡ other) × (a ≡ b) × (to ≡ end)
  single piece other name a b same levels at to end ha hb =
      let e : hb.0 ≡ ha.0 = levels_once levels hb.0 ha.0 hb.1 ha.1 in
      let s = stands_once one source at piece other ha.2.0 hb.2.0 ha.2.2 hb.2.2 in
      let block : IsBlock source b ha.0 ha.2.0 hb.2.1 = subst (λ (x : ℕ). IsBlock source b ha.0 x hb.2.1) (sym s.1) (subst (λ (x : ℕ). IsBlock source b x hb.2.0 hb.2.1) e hb.2.3) in
      let t = same ha.0 ha.2.0 ha.2.1 hb.2.1 ha.2.3 block (inr (pieces.Close name, to, ha.2.4, refl)) (inr (pieces.Close name, end, hb.2.4, refl)) in
      let close : Stands source ha.2.1 (pieces.Close name) end = subst (λ (x : ℕ). Stands source x (pieces.Close name) end) (sym t.1) hb.2.4 in
      (s.0, t.0, (stands_once one source ha.2.1 (pieces.Close name) (pieces.Close name) to end ha.2.4 close).1)

  mutual
    pub same_item : (a b : Item) (levels at to end : ℕ) → IsItem source a levels at to → IsItem source b levels at end → (a ≡ b) × (to ≡ end)
    same_item (Plain text) (Plain other) levels at to end ha hb =
        let s = stands_once one source at (pieces.Plain text) (pieces.Plain other) to end ha hb in
        let same = s.0 in
        let e : text ≡ other = cc in
        (ap Plain e, s.1)
    same_item (Plain text) b levels at to end ha hb = let e = codes (Plain text) b levels at to end ha hb in absurd (omega (arith, e))
    same_item (Var place arg marks) (Var place' arg' marks') levels at to end ha hb =
        let s = stands_once one source at (pieces.Var arg marks) (pieces.Var arg' marks') to end ha.1 hb.1 in
        let same = s.0 in
        let here : place ≡ place' = ha.0 ∙ sym hb.0 in
        let e : Var place arg marks ≡ Var place' arg' marks' = cc in
        (e, s.1)
    same_item (Var place arg marks) b levels at to end ha hb = let e = codes (Var place arg marks) b levels at to end ha hb in absurd (omega (arith, e))
    same_item (Call place arg) (Call place' arg') levels at to end ha hb =
        let s = stands_once one source at (pieces.Call arg) (pieces.Call arg') to end ha.1 hb.1 in
        let same = s.0 in
        let here : place ≡ place' = ha.0 ∙ sym hb.0 in
        let e : Call place arg ≡ Call place' arg' = cc in
        (e, s.1)
    same_item (Call place arg) b levels at to end ha hb = let e = codes (Call place arg) b levels at to end ha hb in absurd (omega (arith, e))
    same_item (If arms otherwise) (If arms' otherwise') levels at to end ha hb =
        let l : hb.1.0 ≡ ha.1.0 = levels_once levels hb.1.0 ha.1.0 hb.1.1 ha.1.1 in
        let x = ha.1.2 in
        let y = subst (λ (inner : ℕ). (middle : ℕ) × (behind : ℕ) × AreArms source arms' inner pieces.If at middle × IsElse source otherwise' inner middle behind × Stands source behind (pieces.Close tags.If) end) l hb.1.2 in
        let s = same_first arms arms' ha.1.0 at x.0 y.0 ha.0 hb.0 x.2 y.2 (else_begins source otherwise ha.1.0 tags.If x.0 x.1 to x.3 x.4) (else_begins source otherwise' ha.1.0 tags.If y.0 y.1 end y.3 y.4) in
        let o = same_else otherwise otherwise' ha.1.0 tags.If x.0 x.1 y.1 to end x.3 (subst (λ (m : ℕ). IsElse source otherwise' ha.1.0 m y.1) (sym s.1) y.3) x.4 y.4 in
        (ap₂ If s.0 o.0, o.1)
    same_item (If arms otherwise) b levels at to end ha hb = let e = codes (If arms otherwise) b levels at to end ha hb in absurd (omega (arith, e))
    same_item (Unless place arg block) (Unless place' arg' block') levels at to end ha hb =
        let s = single (pieces.Unless arg) (pieces.Unless arg') tags.Unless block block' (same_block block block') levels at to end ha.1 hb.1 in
        let same = s.0 in
        let blocks = s.1 in
        let here : place ≡ place' = ha.0 ∙ sym hb.0 in
        let e : Unless place arg block ≡ Unless place' arg' block' = cc in
        (e, s.2)
    same_item (Unless place arg block) b levels at to end ha hb = let e = codes (Unless place arg block) b levels at to end ha hb in absurd (omega (arith, e))
    same_item (Loop place arg reverse skip block otherwise) (Loop place' arg' reverse' skip' block' otherwise') levels at to end ha hb =
        let l : hb.1.0 ≡ ha.1.0 = levels_once levels hb.1.0 ha.1.0 hb.1.1 ha.1.1 in
        let x = ha.1.2 in
        let y = subst (λ (inner : ℕ). Encloses source (pieces.In arg' reverse' skip') tags.In (λ first behind. (middle : ℕ) × IsBlock source block' inner first middle × IsElse source otherwise' inner middle behind) at end) l hb.1.2 in
        let s = stands_once one source at (pieces.In arg reverse skip) (pieces.In arg' reverse' skip') x.0 y.0 x.2 y.2 in
        let tx = else_begins source otherwise ha.1.0 tags.In x.3.0 x.1 to x.3.2 x.4 in
        let ty = else_begins source otherwise' ha.1.0 tags.In y.3.0 y.1 end y.3.2 y.4 in
        let t = same_block block block' ha.1.0 x.0 x.3.0 y.3.0 x.3.1 (subst (λ (n : ℕ). IsBlock source block' ha.1.0 n y.3.0) (sym s.1) y.3.1) (inr (turn_ends source tags.In x.3.0 tx)) (inr (turn_ends source tags.In y.3.0 ty)) in
        let o = same_else otherwise otherwise' ha.1.0 tags.In x.3.0 x.1 y.1 to end x.3.2 (subst (λ (m : ℕ). IsElse source otherwise' ha.1.0 m y.1) (sym t.1) y.3.2) x.4 y.4 in
        let same = s.0 in
        let blocks = t.0 in
        let elses = o.0 in
        let here : place ≡ place' = ha.0 ∙ sym hb.0 in
        let e : Loop place arg reverse skip block otherwise ≡ Loop place' arg' reverse' skip' block' otherwise' = cc in
        (e, o.1)
    same_item (Loop place arg reverse skip block otherwise) b levels at to end ha hb = let e = codes (Loop place arg reverse skip block otherwise) b levels at to end ha hb in absurd (omega (arith, e))
    same_item (With place arg block) (With place' arg' block') levels at to end ha hb =
        let s = single (pieces.With arg) (pieces.With arg') tags.With block block' (same_block block block') levels at to end ha.1 hb.1 in
        let same = s.0 in
        let blocks = s.1 in
        let here : place ≡ place' = ha.0 ∙ sym hb.0 in
        let e : With place arg block ≡ With place' arg' block' = cc in
        (e, s.2)
    same_item (With place arg block) b levels at to end ha hb = let e = codes (With place arg block) b levels at to end ha hb in absurd (omega (arith, e))
    same_item (Let place bounds block) (Let place' bounds' block') levels at to end ha hb =
        let s = single (pieces.Let bounds) (pieces.Let bounds') tags.Let block block' (same_block block block') levels at to end ha.1 hb.1 in
        let same = s.0 in
        let blocks = s.1 in
        let here : place ≡ place' = ha.0 ∙ sym hb.0 in
        let e : Let place bounds block ≡ Let place' bounds' block' = cc in
        (e, s.2)
    same_item (Let place bounds block) b levels at to end ha hb = let e = codes (Let place bounds block) b levels at to end ha hb in absurd (omega (arith, e))
    same_item (Comment place block) (Comment place' block') levels at to end ha hb =
        let s = single pieces.Comment pieces.Comment tags.Comment block block' (same_block block block') levels at to end ha.1 hb.1 in
        let blocks = s.1 in
        let here : place ≡ place' = ha.0 ∙ sym hb.0 in
        let e : Comment place block ≡ Comment place' block' = cc in
        (e, s.2)
    same_item (Comment place block) b levels at to end ha hb = let e = codes (Comment place block) b levels at to end ha hb in absurd (omega (arith, e))

    pub same_block : (a b : Items) (levels at to end : ℕ) → IsBlock source a levels at to → IsBlock source b levels at end → Ceases source to → Ceases source end → (a ≡ b) × (to ≡ end)
    same_block none none levels at to end ha hb ta tb = (refl, sym ha ∙ hb)
    same_block none (more item rest) levels at to end ha hb ta tb = absurd (ceases_not item levels at hb.0 (subst (λ (x : ℕ). Ceases source x) (sym ha) ta) hb.1)
    same_block (more item rest) none levels at to end ha hb ta tb = absurd (ceases_not item levels at ha.0 (subst (λ (x : ℕ). Ceases source x) (sym hb) tb) ha.1)
    same_block (more item rest) (more item' rest') levels at to end ha hb ta tb =
        let s = same_item item item' levels at ha.0 hb.0 ha.1 hb.1 in
        let t = same_block rest rest' levels ha.0 to end ha.2 (subst (λ (x : ℕ). IsBlock source rest' levels x end) (sym s.1) hb.2) ta tb in
        (ap₂ more s.0 t.0, t.1)

    -- the arms of two `if` tags at one place
    pub same_first : (a b : Arms) (levels at to end : ℕ) → HasArm a → HasArm b → AreArms source a levels pieces.If at to → AreArms source b levels pieces.If at end → Turn source tags.If to → Turn source tags.If end → (a ≡ b) × (to ≡ end)
    same_first last b levels at to end na nb ha hb ta tb = absurd na
    same_first (arm place arg block rest) last levels at to end na nb ha hb ta tb = absurd nb
    same_first (arm place arg block rest) (arm place' arg' block' rest') levels at to end na nb ha hb ta tb =
        let s = stands_once one source at (pieces.If arg) (pieces.If arg') ha.1 hb.1 ha.3 hb.3 in
        let t = same_block block block' levels ha.1 ha.2 hb.2 ha.4 (subst (λ (x : ℕ). IsBlock source block' levels x hb.2) (sym s.1) hb.4)
        (inr (arms_end source rest levels tags.If ha.2 to ha.5 ta)) (inr (arms_end source rest' levels tags.If hb.2 end hb.5 tb)) in
        let r = same_arms rest rest' levels ha.2 to end ha.5 (subst (λ (x : ℕ). AreArms source rest' levels pieces.Elif x end) (sym t.1) hb.5) ta tb in
        let same = s.0 in
        let blocks = t.0 in
        let rests = r.0 in
        let here : place ≡ place' = ha.0 ∙ sym hb.0 in
        let e : arm place arg block rest ≡ arm place' arg' block' rest' = cc in
        (e, r.1)

    same_arms : (a b : Arms) (levels at to end : ℕ) → AreArms source a levels pieces.Elif at to → AreArms source b levels pieces.Elif at end → Turn source tags.If to → Turn source tags.If end → (a ≡ b) × (to ≡ end)
    same_arms last last levels at to end ha hb ta tb = (refl, sym ha ∙ hb)
    same_arms last (arm place arg block rest) levels at to end ha hb ta tb = absurd (turn_is_no_arm tags.If arg at hb.1 (subst (λ (x : ℕ). Turn source tags.If x) (sym ha) ta) hb.3)
    same_arms (arm place arg block rest) last levels at to end ha hb ta tb = absurd (turn_is_no_arm tags.If arg at ha.1 (subst (λ (x : ℕ). Turn source tags.If x) (sym hb) tb) ha.3)
    same_arms (arm place arg block rest) (arm place' arg' block' rest') levels at to end ha hb ta tb =
        let s = stands_once one source at (pieces.Elif arg) (pieces.Elif arg') ha.1 hb.1 ha.3 hb.3 in
        let t = same_block block block' levels ha.1 ha.2 hb.2 ha.4 (subst (λ (x : ℕ). IsBlock source block' levels x hb.2) (sym s.1) hb.4)
        (inr (arms_end source rest levels tags.If ha.2 to ha.5 ta)) (inr (arms_end source rest' levels tags.If hb.2 end hb.5 tb)) in
        let r = same_arms rest rest' levels ha.2 to end ha.5 (subst (λ (x : ℕ). AreArms source rest' levels pieces.Elif x end) (sym t.1) hb.5) ta tb in
        let same = s.0 in
        let blocks = t.0 in
        let rests = r.0 in
        let here : place ≡ place' = ha.0 ∙ sym hb.0 in
        let e : arm place arg block rest ≡ arm place' arg' block' rest' = cc in
        (e, r.1)

    same_else : (a b : Otherwise) (levels : ℕ) (name : TagName) (at stop halt to end : ℕ) → IsElse source a levels at stop → IsElse source b levels at halt → Stands source stop (pieces.Close name) to → Stands source halt (pieces.Close name) end
        → (a ≡ b) × (to ≡ end)
    same_else absent absent levels name at stop halt to end ha hb ca cb =
        (refl, (stands_once one source stop (pieces.Close name) (pieces.Close name) to end ca (subst (λ (x : ℕ). Stands source x (pieces.Close name) end) (sym hb ∙ ha) cb)).1)
    same_else absent (present block) levels name at stop halt to end ha hb ca cb =
        let s = (stands_once one source at pieces.Else (pieces.Close name) hb.0 to hb.1 (subst (λ (x : ℕ). Stands source x (pieces.Close name) to) (sym ha) ca)).0 in absurd cc
    same_else (present block) absent levels name at stop halt to end ha hb ca cb =
        let s = (stands_once one source at pieces.Else (pieces.Close name) ha.0 end ha.1 (subst (λ (x : ℕ). Stands source x (pieces.Close name) end) (sym hb) cb)).0 in absurd cc
    same_else (present block) (present block') levels name at stop halt to end ha hb ca cb =
        let s = stands_once one source at pieces.Else pieces.Else ha.0 hb.0 ha.1 hb.1 in
        let t = same_block block block' levels ha.0 stop halt ha.2 (subst (λ (x : ℕ). IsBlock source block' levels x halt) (sym s.1) hb.2) (inr (pieces.Close name, to, ca, refl)) (inr (pieces.Close name, end, cb, refl)) in
        (ap present t.0, (stands_once one source stop (pieces.Close name) (pieces.Close name) to end ca (subst (λ (x : ℕ). Stands source x (pieces.Close name) end) (sym t.1) cb)).1)
