-- Where a source has a refusal, it is no template.
use Rattle.std.proofs.Common.{◌≡◌, ◌∙◌, ◌⊎◌, inl, inr, ℕ, zero, suc, ◌≤◌, ◌<◌, Bool, true, false, not, ◌&&◌, List, [], ◌∷◌, length, Option, Some, None, refl, sym, ap, subst, arith}
use Rattle.dtml_lex.specs.declared.part.TagName.{TagName}
use Rattle.dtml_lex.specs.declared.part.TagName.TheVariants as tags
use Rattle.dtml_lex.specs.declared.part.Attribute.{Attribute}
use Rattle.dtml_lex.specs.declared.part.PartKind.{PartKind}
use Rattle.dtml_lex.specs.declared.part.PartKind.TheVariants as kinds
use Rattle.dtml_lex.specs.declared.part.SourcePart.{SourcePart}
use Rattle.dtml_lex.specs.declared.refusal.DtmlRefusal.{DtmlRefusal}
use Rattle.dtml_lex.specs.declared.refusal.DtmlRefusal.TheVariants as refusals
use Rattle.dtml_lex.specs.Source.{IsPartAt}
use Rattle.dtml_parse.specs.Trees.{Arg, Bound, Item, Items, Arms, Otherwise, Plain, Var, Call, If, Unless, Loop, With, Let, Comment, none, more, last, arm, absent, present}
use Rattle.dtml_parse.specs.Table.{Given, Name, Expression, argument, binding}
use Rattle.dtml_parse.specs.Pieces as pieces
use Rattle.dtml_parse.specs.Pieces.{Piece, Says, SaysNothing, IsBound, BindsNothing, AreBound, OneBindsNothing, Means, MeansNothing, is_lawful}
use Rattle.dtml_parse.specs.Parsing.{is_ending}
use Rattle.dtml_parse.specs.Grammar.{Stands, Encloses, Within, HasArm, IsItem, IsBlock, AreArms, IsElse, Reads}
use Rattle.dtml_parse.specs.Refusals.{Open, is_tag, strays, has_block, single_tag, arm_tag, IsRefused, Enters, only_block, loop_block, loop_else, arm_block, if_else, IsNext, IsFirst, Refuses}
use Rattle.dtml_parse.proofs.Once.{OneExpr, part_once, stands_once}
use Rattle.dtml_parse.proofs.Trees.{code, item_code, begins, inside, Ends, Ceases, Turn, else_begins, turn_ends, arms_end, ceases_not, same_item, same_block, same_first}

-- whether a piece belongs to another tag than the innermost open one
abbrev pub stray_piece : Option Open → Piece → Bool
stray_piece None (pieces.Close name) = true
stray_piece None (pieces.Elif arg) = true
stray_piece None pieces.Else = true
stray_piece None _ = false
stray_piece (Some outer) (pieces.Close name) = not (is_tag name outer.name)
stray_piece (Some outer) (pieces.Elif arg) = not (outer.goes_on && is_tag outer.name tags.If)
stray_piece (Some outer) pieces.Else = not outer.goes_on
stray_piece (Some outer) _ = false

pub strays_is : (outer : Option Open) (kind : PartKind) (piece : Piece) → Means kind piece → strays outer kind ≡ stray_piece outer piece
strays_is None (kinds.Plain text) piece h = sym (ap (stray_piece None) h)
strays_is None (kinds.Entity name) piece h = sym (ap (stray_piece None) h)
strays_is None (kinds.Opening tags.Else attributes) piece h = sym (ap (stray_piece None) h)
strays_is None (kinds.Opening tags.Comment attributes) piece h = sym (ap (stray_piece None) h)
strays_is None (kinds.Opening _ attributes) piece h = sym (ap (stray_piece None) h.2)
strays_is None (kinds.Closing name attributes) piece h = sym (ap (stray_piece None) h)
strays_is (Some outer) (kinds.Plain text) piece h = sym (ap (stray_piece (Some outer)) h)
strays_is (Some outer) (kinds.Entity name) piece h = sym (ap (stray_piece (Some outer)) h)
strays_is (Some outer) (kinds.Opening tags.Else attributes) piece h = sym (ap (stray_piece (Some outer)) h)
strays_is (Some outer) (kinds.Opening tags.Comment attributes) piece h = sym (ap (stray_piece (Some outer)) h)
strays_is (Some outer) (kinds.Opening _ attributes) piece h = sym (ap (stray_piece (Some outer)) h.2)
strays_is (Some outer) (kinds.Closing name attributes) piece h = sym (ap (stray_piece (Some outer)) h)

says_not : (o : Option Given) (arg : Arg) → Says o arg → SaysNothing o → ⊥
says_not None arg h n = n
says_not (Some (Name name)) arg h n = n
says_not (Some (Expression text)) arg h n = n h.0 h.1

binds_not : (o : Option (List ℕ × Given)) (bound : Bound) → IsBound o bound → BindsNothing o → ⊥
binds_not None bound h n = n
binds_not (Some x) bound h n = says_not (Some x.1) bound.arg h.1 n

bounds_not : (attributes : List Attribute) (bounds : List Bound) → AreBound attributes bounds → OneBindsNothing attributes → ⊥
bounds_not [] bounds h n = n
bounds_not (a ∷ as_) [] h n = h
bounds_not (a ∷ as_) (b ∷ bs) h (inl n) = binds_not (binding a) b h.0 n
bounds_not (a ∷ as_) (b ∷ bs) h (inr n) = bounds_not as_ bs h.1 n

pub means_not : (kind : PartKind) (piece : Piece) → Means kind piece → MeansNothing kind → ⊥
means_not (kinds.Plain text) piece h n = n
means_not (kinds.Entity name) piece h n = n
means_not (kinds.Opening tags.Let attributes) piece h n = bounds_not attributes h.0 h.1 n
means_not (kinds.Opening tags.Else attributes) piece h n = n
means_not (kinds.Opening tags.Comment attributes) piece h n = n
means_not (kinds.Opening _ attributes) piece h n = says_not (argument attributes) h.0 h.1 n
means_not (kinds.Closing name attributes) piece h n = n

pub true_false : (b : Bool) → b ≡ true → b ≡ false → ⊥
true_false b t f = cc

pub part_inside : (source : List ℕ) (at : ℕ) (part : SourcePart) → IsPartAt source at part → at < length source
part_inside source at part h = omega (arith, h.forward, h.boundary.0)

ending_has_none : (piece : Piece) → is_ending piece ≡ true → has_block piece ≡ true → ⊥
ending_has_none (pieces.Elif arg) e b = cc
ending_has_none pieces.Else e b = cc
ending_has_none (pieces.Close name) e b = cc
ending_has_none _ e b = cc

pub block_code : (piece : Piece) → has_block piece ≡ true → 4 ≤ code piece
block_code (pieces.If arg) e = omega arith
block_code (pieces.Unless arg) e = omega arith
block_code (pieces.In arg reverse skip) e = omega arith
block_code (pieces.With arg) e = omega arith
block_code (pieces.Let bounds) e = omega arith
block_code pieces.Comment e = omega arith
block_code _ e = absurd cc

pub no_stray_code : (outer : Option Open) (piece : Piece) → 0 < code piece → stray_piece outer piece ≡ false
no_stray_code outer (pieces.Elif arg) lt = absurd (omega (arith, lt))
no_stray_code outer pieces.Else lt = absurd (omega (arith, lt))
no_stray_code outer (pieces.Close name) lt = absurd (omega (arith, lt))
no_stray_code None _ lt = refl
no_stray_code (Some o) _ lt = refl

item_deep : (source : List ℕ) (item : Item) (levels at to : ℕ) → IsItem source item levels at to → 4 ≤ item_code item → 0 < levels
item_deep source (Plain text) levels at to h le = absurd (omega (arith, le))
item_deep source (Var place arg marks) levels at to h le = absurd (omega (arith, le))
item_deep source (Call place arg) levels at to h le = absurd (omega (arith, le))
item_deep source (If arms otherwise) levels at to h le = omega (arith, h.1.1)
item_deep source (Unless place arg block) levels at to h le = omega (arith, h.1.1)
item_deep source (Loop place arg reverse skip block otherwise) levels at to h le = omega (arith, h.1.1)
item_deep source (With place arg block) levels at to h le = omega (arith, h.1.1)
item_deep source (Let place bounds block) levels at to h le = omega (arith, h.1.1)
item_deep source (Comment place block) levels at to h le = omega (arith, h.1.1)

some_item_code : (item : Item) → 0 < item_code item
some_item_code (Plain text) = omega arith
some_item_code (Var place arg marks) = omega arith
some_item_code (Call place arg) = omega arith
some_item_code (If arms otherwise) = omega arith
some_item_code (Unless place arg block) = omega arith
some_item_code (Loop place arg reverse skip block otherwise) = omega arith
some_item_code (With place arg block) = omega arith
some_item_code (Let place bounds block) = omega arith
some_item_code (Comment place block) = omega arith

same_tag : (name : TagName) → is_tag name name ≡ true
same_tag tags.Var = refl
same_tag tags.Call = refl
same_tag tags.If = refl
same_tag tags.Elif = refl
same_tag tags.Else = refl
same_tag tags.Unless = refl
same_tag tags.In = refl
same_tag tags.With = refl
same_tag tags.Let = refl
same_tag tags.Comment = refl

-- a block inside such a tag may end at a place
abbrev pub Follows : List ℕ → Option Open → ℕ → Type 0
Follows source None at = at ≡ length source
Follows source (Some outer) at = (piece : Piece) × (behind : ℕ) × Stands source at piece behind × (is_ending piece ≡ true) × (stray_piece (Some outer) piece ≡ false)

follows_ceases : (source : List ℕ) (outer : Option Open) (at : ℕ) → Follows source outer at → Ceases source at
follows_ceases source None at h = inl h
follows_ceases source (Some outer) at h = inr (h.0, h.1, h.2, h.3)

not_same_tag : (name : TagName) → not (is_tag name name) ≡ false
not_same_tag name = ap not (same_tag name)

closing_follows : (source : List ℕ) (at to place : ℕ) (name : TagName) (goes_on : Bool) → Stands source at (pieces.Close name) to → Follows source (Some (record { at = place; name = name; goes_on = goes_on })) at
closing_follows source at to place name goes_on s = (pieces.Close name, to, s, refl, not_same_tag name)

turn_piece : (place : ℕ) (name : TagName) (piece : Piece) → (piece ≡ pieces.Else) ⊎ (piece ≡ pieces.Close name) → (is_ending piece ≡ true) × (stray_piece (Some (record { at = place; name = name; goes_on = true })) piece ≡ false)
turn_piece place name piece (inl e) = (ap is_ending e, ap (stray_piece (Some (record { at = place; name = name; goes_on = true }))) e)
turn_piece place name piece (inr e) = (ap is_ending e, ap (stray_piece (Some (record { at = place; name = name; goes_on = true }))) e ∙ not_same_tag name)

turn_follows : (source : List ℕ) (at place : ℕ) (name : TagName) → Turn source name at → Follows source (Some (record { at = place; name = name; goes_on = true })) at
turn_follows source at place name t = let p = turn_piece place name t.0 t.3 in (t.0, t.1, t.2, p.0, p.1)

-- what stands behind an arm
arm_follows : (source : List ℕ) (rest : Arms) (levels at middle place : ℕ) → AreArms source rest levels pieces.Elif at middle → Turn source tags.If middle → Follows source (Some (record { at = place; name = tags.If; goes_on = true })) at
arm_follows source last levels at middle place h t = subst (λ (x : ℕ). Follows source (Some (record { at = place; name = tags.If; goes_on = true })) x) (sym h) (turn_follows source middle place tags.If t)
arm_follows source (arm p arg block rest) levels at middle place h t = (pieces.Elif arg, h.1, h.3, refl, refl)

single_block : (piece : Piece) (name : TagName) → single_tag piece ≡ Some name → has_block piece ≡ true
single_block (pieces.Unless arg) name e = refl
single_block (pieces.With arg) name e = refl
single_block (pieces.Let bounds) name e = refl
single_block pieces.Comment name e = refl
single_block _ name e = absurd cc

pub enters_piece : (source : List ℕ) (levels at : ℕ) (inner : Open) (start : ℕ) → Enters source levels at inner start → (piece : Piece) × (behind : ℕ) × Stands source at piece behind × (has_block piece ≡ true)
enters_piece source levels at inner start (only_block piece name is s) = (piece, start, s, single_block piece name is)
enters_piece source levels at inner start (loop_block arg reverse skip s) = (pieces.In arg reverse skip, start, s, refl)
enters_piece source levels at inner start (loop_else arg reverse skip block begin behind s b e) = (pieces.In arg reverse skip, begin, s, refl)
enters_piece source levels at inner start (arm_block last arg behind a s) = (pieces.If arg, start, subst (λ (x : ℕ). Stands source x (pieces.If arg) start) (sym a) s, refl)
enters_piece source levels at inner start (arm_block (arm p own block rest) arg behind a s) = (pieces.If own, a.1, a.3, refl)
enters_piece source levels at inner start (if_else last behind has a s) = absurd has
enters_piece source levels at inner start (if_else (arm p own block rest) behind has a s) = (pieces.If own, a.1, a.3, refl)

no_elif_piece : (arg : Arg) (piece : Piece) → (piece ≡ pieces.Else) ⊎ (piece ≡ pieces.Close tags.If) → piece ≡ pieces.Elif arg → ⊥
no_elif_piece arg piece (inl e) f = let real : pieces.Else ≡ pieces.Elif arg = sym e ∙ f in cc
no_elif_piece arg piece (inr e) f = let real : pieces.Close tags.If ≡ pieces.Elif arg = sym e ∙ f in cc

-- a block that begins at a place, and ends where one inside such a tag may end
abbrev pub Whole : List ℕ → ℕ → Open → ℕ → Type 0
Whole source levels inner start = (block : Items) × (to : ℕ) × IsBlock source block levels start to × Follows source (Some inner) to

module _ (one : OneExpr) (source : List ℕ) where
  pub refused_not : (levels : ℕ) (outer : Option Open) (at : ℕ) (refusal : DtmlRefusal) (piece : Piece) (behind : ℕ) → (refusal ≡ refusals.Memory → ⊥) → Stands source at piece behind → stray_piece outer piece ≡ false
      → (has_block piece ≡ true → 0 < levels) → IsRefused source levels outer at refusal → ⊥
  refused_not levels outer at refusals.Memory piece behind real s straight deep h = real refl
  refused_not levels outer at (refusals.BadTag place) piece behind real s straight deep h = let k = s.1.read in let n = h.2 in cc
  refused_not levels outer at (refusals.Unclosed place) piece behind real s straight deep h = omega (arith, h.1, inside source at piece behind s)
  refused_not levels outer at (refusals.Stray place) piece behind real s straight deep h =
      true_false (strays outer h.1.kind) h.3 (ap (strays outer) (part_once source at h.1 s.0 h.2 s.1).0 ∙ (strays_is outer s.0.kind piece s.2.1 ∙ straight))
  refused_not levels outer at (refusals.BadAttribute place) piece behind real s straight deep h =
      true_false (is_lawful h.1.kind) (ap is_lawful (part_once source at h.1 s.0 h.2 s.1).0 ∙ s.2.0) h.4
  refused_not levels outer at (refusals.BadExpression place) piece behind real s straight deep h =
      means_not s.0.kind piece s.2.1 (subst MeansNothing (part_once source at h.1 s.0 h.2 s.1).0 h.5)
  refused_not levels outer at (refusals.TooDeep place) piece behind real s straight deep h =
      omega (arith, h.1, deep (ap has_block (stands_once one source at piece h.2 behind h.3 s h.4).0 ∙ h.5))
  refused_not levels outer at (refusals.TooLarge most) piece behind real s straight deep h = h

  refused_end : (levels : ℕ) (outer : Option Open) (at : ℕ) (refusal : DtmlRefusal) → (refusal ≡ refusals.Memory → ⊥) → Follows source outer at → IsRefused source levels outer at refusal → ⊥
  refused_end levels (Some outer) at refusal real f h = refused_not levels (Some outer) at refusal f.0 f.1 real f.2 f.4 (λ b. absurd (ending_has_none f.0 f.3 b)) h
  refused_end levels None at refusals.Memory real f h = real refl
  refused_end levels None at (refusals.BadTag place) real f h = omega (arith, f, h.1)
  refused_end levels None at (refusals.Unclosed place) real f h = h.0
  refused_end levels None at (refusals.Stray place) real f h = omega (arith, f, part_inside source at h.1 h.2)
  refused_end levels None at (refusals.BadAttribute place) real f h = omega (arith, f, part_inside source at h.1 h.2)
  refused_end levels None at (refusals.BadExpression place) real f h = omega (arith, f, part_inside source at h.1 h.2)
  refused_end levels None at (refusals.TooDeep place) real f h = omega (arith, f, inside source at h.2 h.3 h.4)
  refused_end levels None at (refusals.TooLarge most) real f h = h

  refused_item : (levels : ℕ) (outer : Option Open) (at : ℕ) (refusal : DtmlRefusal) (item : Item) (to : ℕ) → (refusal ≡ refusals.Memory → ⊥) → IsItem source item levels at to → IsRefused source levels outer at refusal → ⊥
  refused_item levels outer at refusal item to real i h =
      let b = begins source item levels at to i in
      refused_not levels outer at refusal b.0 b.1 real b.2 (no_stray_code outer b.0 (omega (arith, b.3, some_item_code item)))
      (λ deep. item_deep source item levels at to i (omega (arith, b.3, block_code b.0 deep))) h

  enters_end : (levels : ℕ) (outer : Option Open) (at : ℕ) (inner : Open) (start : ℕ) → Follows source outer at → Enters source levels at inner start → ⊥
  enters_end levels None at inner start f e = let p = enters_piece source levels at inner start e in omega (arith, f, inside source at p.0 p.1 p.2)
  enters_end levels (Some outer) at inner start f e =
      let p = enters_piece source levels at inner start e in
      ending_has_none f.0 f.3 (ap has_block (stands_once one source at f.0 p.0 f.1 p.1 f.2 p.2).0 ∙ p.3)

  -- the block of a tag that has one alone
  one_block : (levels at to start : ℕ) (piece own : Piece) (name : TagName) (block : Items) → Stands source at piece start → Within (suc levels) (λ inner. Encloses source own name (IsBlock source block inner) at to)
      → Whole source levels (record { at = at; name = name; goes_on = false }) start
  one_block levels at to start piece own name block s h =
      let l : h.0 ≡ levels = omega (arith, h.1) in
      let t = (stands_once one source at own piece h.2.0 start h.2.2 s).1 in
      (block, h.2.1, subst (λ (x : ℕ). IsBlock source block levels x h.2.1) t (subst (λ (x : ℕ). IsBlock source block x h.2.0 h.2.1) l h.2.3), closing_follows source h.2.1 to at name false h.2.4)

  mismatch : {A : Type 0} (item : Item) (levels at to start : ℕ) (piece : Piece) → IsItem source item levels at to → Stands source at piece start → (code piece ≡ item_code item → ⊥) → A
  mismatch item levels at to start piece i s real =
      let b = begins source item levels at to i in
      absurd (real (ap code (stands_once one source at piece b.0 start b.1 s b.2).0 ∙ b.3))

  single_item : (item : Item) (levels at to start : ℕ) (piece : Piece) (name : TagName) → IsItem source item (suc levels) at to → single_tag piece ≡ Some name → Stands source at piece start
      → Whole source levels (record { at = at; name = name; goes_on = false }) start
  single_item (Unless place arg block) levels at to start (pieces.Unless own) name i e s =
      let n : tags.Unless ≡ name = cc in
      subst (λ (x : TagName). Whole source levels (record { at = at; name = x; goes_on = false }) start) n (one_block levels at to start (pieces.Unless own) (pieces.Unless arg) tags.Unless block s i.1)
  single_item item levels at to start (pieces.Unless own) name i e s = mismatch item (suc levels) at to start (pieces.Unless own) i s (λ c. omega (arith, c))
  single_item (With place arg block) levels at to start (pieces.With own) name i e s =
      let n : tags.With ≡ name = cc in
      subst (λ (x : TagName). Whole source levels (record { at = at; name = x; goes_on = false }) start) n (one_block levels at to start (pieces.With own) (pieces.With arg) tags.With block s i.1)
  single_item item levels at to start (pieces.With own) name i e s = mismatch item (suc levels) at to start (pieces.With own) i s (λ c. omega (arith, c))
  single_item (Let place bounds block) levels at to start (pieces.Let own) name i e s =
      let n : tags.Let ≡ name = cc in
      subst (λ (x : TagName). Whole source levels (record { at = at; name = x; goes_on = false }) start) n (one_block levels at to start (pieces.Let own) (pieces.Let bounds) tags.Let block s i.1)
  single_item item levels at to start (pieces.Let own) name i e s = mismatch item (suc levels) at to start (pieces.Let own) i s (λ c. omega (arith, c))
  single_item (Comment place block) levels at to start pieces.Comment name i e s =
      let n : tags.Comment ≡ name = cc in
      subst (λ (x : TagName). Whole source levels (record { at = at; name = x; goes_on = false }) start) n (one_block levels at to start pieces.Comment pieces.Comment tags.Comment block s i.1)
  single_item item levels at to start pieces.Comment name i e s = mismatch item (suc levels) at to start pieces.Comment i s (λ c. omega (arith, c))
  single_item item levels at to start piece name i e s = absurd cc

  -- where an `else` stands, its block follows
  else_block : (o : Otherwise) (levels at behind to start place : ℕ) (name : TagName) → IsElse source o levels at behind → Stands source behind (pieces.Close name) to → Stands source at pieces.Else start
      → Whole source levels (record { at = place; name = name; goes_on = false }) start
  else_block absent levels at behind to start place name h c s =
      let e = (stands_once one source at pieces.Else (pieces.Close name) start to s (subst (λ (x : ℕ). Stands source x (pieces.Close name) to) (sym h) c)).0 in absurd cc
  else_block (present block) levels at behind to start place name h c s =
      let t = (stands_once one source at pieces.Else pieces.Else h.0 start h.1 s).1 in
      (block, behind, subst (λ (x : ℕ). IsBlock source block levels x behind) t h.2, closing_follows source behind to place name false c)

  loop_first : (item : Item) (levels at to start : ℕ) (arg : Arg) (reverse skip : Bool) → IsItem source item (suc levels) at to → Stands source at (pieces.In arg reverse skip) start
      → Whole source levels (record { at = at; name = tags.In; goes_on = true }) start
  loop_first (Loop place own r k block o) levels at to start arg reverse skip i s =
      let l : i.1.0 ≡ levels = omega (arith, i.1.1) in
      let x = subst (λ (n : ℕ). Encloses source (pieces.In own r k) tags.In (λ first behind. (middle : ℕ) × IsBlock source block n first middle × IsElse source o n middle behind) at to) l i.1.2 in
      let t = (stands_once one source at (pieces.In own r k) (pieces.In arg reverse skip) x.0 start x.2 s).1 in
      (block, x.3.0, subst (λ (n : ℕ). IsBlock source block levels n x.3.0) t x.3.1, turn_follows source x.3.0 at tags.In (else_begins source o levels tags.In x.3.0 x.1 to x.3.2 x.4))
  loop_first item levels at to start arg reverse skip i s = mismatch item (suc levels) at to start (pieces.In arg reverse skip) i s (λ c. omega (arith, c))

  loop_second : (item : Item) (levels at to start : ℕ) (arg : Arg) (reverse skip : Bool) (block : Items) (begin behind : ℕ) → IsItem source item (suc levels) at to → Stands source at (pieces.In arg reverse skip) begin
      → IsBlock source block levels begin behind → Stands source behind pieces.Else start → Whole source levels (record { at = at; name = tags.In; goes_on = false }) start
  loop_second (Loop place own r k block' o) levels at to start arg reverse skip block begin behind i s b e =
      let l : i.1.0 ≡ levels = omega (arith, i.1.1) in
      let x = subst (λ (n : ℕ). Encloses source (pieces.In own r k) tags.In (λ first behind. (middle : ℕ) × IsBlock source block' n first middle × IsElse source o n middle behind) at to) l i.1.2 in
      let t = (stands_once one source at (pieces.In own r k) (pieces.In arg reverse skip) x.0 begin x.2 s).1 in
      let turn = else_begins source o levels tags.In x.3.0 x.1 to x.3.2 x.4 in
      let m = (same_block one source block block' levels begin behind x.3.0 b (subst (λ (n : ℕ). IsBlock source block' levels n x.3.0) t x.3.1) (inr (pieces.Else, start, e, refl)) (inr (turn_ends source tags.In x.3.0 turn))).1 in
      else_block o levels x.3.0 x.1 to start at tags.In x.3.2 x.4 (subst (λ (n : ℕ). Stands source n pieces.Else start) m e)
  loop_second item levels at to start arg reverse skip block begin behind i s b e = mismatch item (suc levels) at to begin (pieces.In arg reverse skip) i s (λ c. omega (arith, c))

  pub elif_ends : (rest : Arms) (levels at behind start : ℕ) (arg : Arg) → AreArms source rest levels pieces.Elif at behind → Stands source behind (pieces.Elif arg) start → Ends source at
  elif_ends last levels at behind start arg h s = (pieces.Elif arg, start, subst (λ (x : ℕ). Stands source x (pieces.Elif arg) start) (sym h) s, refl)
  elif_ends (arm p own block rest) levels at behind start arg h s = (pieces.Elif own, h.1, h.3, refl)

  turn_no_elif : (at next : ℕ) (arg : Arg) → Turn source tags.If at → Stands source at (pieces.Elif arg) next → ⊥
  turn_no_elif at next arg t s = no_elif_piece arg t.0 t.3 (stands_once one source at t.0 (pieces.Elif arg) t.1 next t.2 s).0

  pub rest_arms : (arms all : Arms) (levels at behind middle start place : ℕ) (arg : Arg) → AreArms source arms levels pieces.Elif at behind → Stands source behind (pieces.Elif arg) start → AreArms source all levels pieces.Elif at middle
      → Turn source tags.If middle → Whole source levels (record { at = place; name = tags.If; goes_on = true }) start
  rest_arms last last levels at behind middle start place arg a s h t = absurd (turn_no_elif middle start arg t (subst (λ (x : ℕ). Stands source x (pieces.Elif arg) start) (sym a ∙ h) s))
  rest_arms last (arm p own block rest) levels at behind middle start place arg a s h t =
      let m = (stands_once one source at (pieces.Elif own) (pieces.Elif arg) h.1 start h.3 (subst (λ (x : ℕ). Stands source x (pieces.Elif arg) start) (sym a) s)).1 in
      (block, h.2, subst (λ (x : ℕ). IsBlock source block levels x h.2) m h.4, arm_follows source rest levels h.2 middle place h.5 t)
  rest_arms (arm p own block rest) last levels at behind middle start place arg a s h t = absurd (turn_no_elif at a.1 own (subst (λ (x : ℕ). Turn source tags.If x) (sym h) t) a.3)
  rest_arms (arm p own block rest) (arm p' own' block' rest') levels at behind middle start place arg a s h t =
      let m = (stands_once one source at (pieces.Elif own) (pieces.Elif own') a.1 h.1 a.3 h.3).1 in
      let k = (same_block one source block block' levels a.1 a.2 h.2 a.4 (subst (λ (x : ℕ). IsBlock source block' levels x h.2) (sym m) h.4) (inr (elif_ends rest levels a.2 behind start arg a.5 s)) (inr (arms_end source rest' levels tags.If h.2 middle h.5 t))).1 in
      rest_arms rest rest' levels a.2 behind middle start place arg a.5 s (subst (λ (x : ℕ). AreArms source rest' levels pieces.Elif x middle) (sym k) h.5) t

  pub first_arms : (arms all : Arms) (levels at behind middle start : ℕ) (arg : Arg) → HasArm all → AreArms source arms levels pieces.If at behind → Stands source behind (arm_tag arms arg) start → AreArms source all levels pieces.If at middle
      → Turn source tags.If middle → Whole source levels (record { at = at; name = tags.If; goes_on = true }) start
  first_arms arms last levels at behind middle start arg has a s h t = absurd has
  first_arms last (arm p own block rest) levels at behind middle start arg has a s h t =
      let m = (stands_once one source at (pieces.If own) (pieces.If arg) h.1 start h.3 (subst (λ (x : ℕ). Stands source x (pieces.If arg) start) (sym a) s)).1 in
      (block, h.2, subst (λ (x : ℕ). IsBlock source block levels x h.2) m h.4, arm_follows source rest levels h.2 middle at h.5 t)
  first_arms (arm p own block rest) (arm p' own' block' rest') levels at behind middle start arg has a s h t =
      let m = (stands_once one source at (pieces.If own) (pieces.If own') a.1 h.1 a.3 h.3).1 in
      let k = (same_block one source block block' levels a.1 a.2 h.2 a.4 (subst (λ (x : ℕ). IsBlock source block' levels x h.2) (sym m) h.4) (inr (elif_ends rest levels a.2 behind start arg a.5 s)) (inr (arms_end source rest' levels tags.If h.2 middle h.5 t))).1 in
      rest_arms rest rest' levels a.2 behind middle start at arg a.5 s (subst (λ (x : ℕ). AreArms source rest' levels pieces.Elif x middle) (sym k) h.5) t

  if_arm : (item : Item) (levels at to start : ℕ) (arms : Arms) (arg : Arg) (behind : ℕ) → IsItem source item (suc levels) at to → AreArms source arms levels pieces.If at behind → Stands source behind (arm_tag arms arg) start
      → Whole source levels (record { at = at; name = tags.If; goes_on = true }) start
  if_arm (If all o) levels at to start arms arg behind i a s =
      let l : i.1.0 ≡ levels = omega (arith, i.1.1) in
      let x = subst (λ (n : ℕ). (middle : ℕ) × (behind : ℕ) × AreArms source all n pieces.If at middle × IsElse source o n middle behind × Stands source behind (pieces.Close tags.If) to) l i.1.2 in
      first_arms arms all levels at behind x.0 start arg i.0 a s x.2 (else_begins source o levels tags.If x.0 x.1 to x.3 x.4)
  if_arm item levels at to start last arg behind i a s = mismatch item (suc levels) at to start (pieces.If arg) i (subst (λ (x : ℕ). Stands source x (pieces.If arg) start) (sym a) s) (λ c. omega (arith, c))
  if_arm item levels at to start (arm p own block rest) arg behind i a s = mismatch item (suc levels) at to a.1 (pieces.If own) i a.3 (λ c. omega (arith, c))

  if_last : (item : Item) (levels at to start : ℕ) (arms : Arms) (behind : ℕ) → HasArm arms → IsItem source item (suc levels) at to → AreArms source arms levels pieces.If at behind → Stands source behind pieces.Else start
      → Whole source levels (record { at = at; name = tags.If; goes_on = false }) start
  if_last (If all o) levels at to start arms behind has i a s =
      let l : i.1.0 ≡ levels = omega (arith, i.1.1) in
      let x = subst (λ (n : ℕ). (middle : ℕ) × (behind : ℕ) × AreArms source all n pieces.If at middle × IsElse source o n middle behind × Stands source behind (pieces.Close tags.If) to) l i.1.2 in
      let m = (same_first one source arms all levels at behind x.0 has i.0 a x.2 (pieces.Else, start, s, inl refl) (else_begins source o levels tags.If x.0 x.1 to x.3 x.4)).1 in
      else_block o levels x.0 x.1 to start at tags.If x.3 x.4 (subst (λ (n : ℕ). Stands source n pieces.Else start) m s)
  if_last item levels at to start last behind has i a s = absurd has
  if_last item levels at to start (arm p own block rest) behind has i a s = mismatch item (suc levels) at to a.1 (pieces.If own) i a.3 (λ c. omega (arith, c))

  -- a block that is entered in a node is whole
  enters_item : (item : Item) (levels at to : ℕ) (inner : Open) (start : ℕ) → IsItem source item (suc levels) at to → Enters source levels at inner start → Whole source levels inner start
  enters_item item levels at to inner start i (only_block piece name is s) = single_item item levels at to start piece name i is s
  enters_item item levels at to inner start i (loop_block arg reverse skip s) = loop_first item levels at to start arg reverse skip i s
  enters_item item levels at to inner start i (loop_else arg reverse skip block begin behind s b e) = loop_second item levels at to start arg reverse skip block begin behind i s b e
  enters_item item levels at to inner start i (arm_block arms arg behind a s) = if_arm item levels at to start arms arg behind i a s
  enters_item item levels at to inner start i (if_else arms behind has a s) = if_last item levels at to start arms behind has i a s

  -- where something is refused, no node stands, and no block ends
  abbrev pub Refutes : ℕ → Type 0
  Refutes levels = (outer : Option Open) (at : ℕ) (refusal : DtmlRefusal) → (refusal ≡ refusals.Memory → ⊥) → IsNext levels source outer refusal at
      → (Follows source outer at → ⊥) × ((item : Item) (to : ℕ) → IsItem source item levels at to → ⊥)

  pub walk : (levels : ℕ) → Refutes levels → (front block : Items) (outer : Option Open) (refusal : DtmlRefusal) (at middle to : ℕ) → (refusal ≡ refusals.Memory → ⊥) → IsBlock source front levels at middle → IsNext levels source outer refusal middle
      → IsBlock source block levels at to → Follows source outer to → ⊥
  walk levels refutes none none outer refusal at middle to real f n b e = (refutes outer middle refusal real n).0 (subst (λ (x : ℕ). Follows source outer x) (sym b ∙ f) e)
  walk levels refutes none (more item rest) outer refusal at middle to real f n b e = (refutes outer middle refusal real n).1 item b.0 (subst (λ (x : ℕ). IsItem source item levels x b.0) f b.1)
  walk levels refutes (more item rest) none outer refusal at middle to real f n b e = ceases_not one source item levels at f.0 (subst (λ (x : ℕ). Ceases source x) (sym b) (follows_ceases source outer to e)) f.1
  walk levels refutes (more item rest) (more item' rest') outer refusal at middle to real f n b e =
      let s = same_item one source item item' levels at f.0 b.0 f.1 b.1 in
      walk levels refutes rest rest' outer refusal f.0 middle to real f.2 n (subst (λ (x : ℕ). IsBlock source rest' levels x to) (sym s.1) b.2) e

  pub refutes : (levels : ℕ) → Refutes levels
  refutes zero outer at refusal real h = (λ f. refused_end zero outer at refusal real f h, λ item to i. refused_item zero outer at refusal item to real i h)
  refutes (suc levels) outer at refusal real (inl h) = (λ f. refused_end (suc levels) outer at refusal real f h, λ item to i. refused_item (suc levels) outer at refusal item to real i h)
  refutes (suc levels) outer at refusal real (inr h) = (
    λ f. enters_end levels outer at h.0 h.1 f h.2,
    λ item to i. let w = enters_item item levels at to h.0 h.1 i h.2 in walk levels (refutes levels) h.3.0 w.0 (Some h.0) refusal h.1 h.3.1 w.1 real h.3.2 h.3.3 w.2 w.3,
  )

  refused_first : (refusal : DtmlRefusal) (tree : Items) → (refusal ≡ refusals.Memory → ⊥) → IsFirst source 64 None 0 refusal → IsBlock source tree 64 0 (length source) → ⊥
  refused_first refusal tree real h r = walk 64 (refutes 64) h.0 tree None refusal 0 h.1 (length source) real h.2 h.3 r refl

  pub refused_is_no_tree : (tree : Items) (refusal : DtmlRefusal) → (refusal ≡ refusals.Memory → ⊥) → Refuses source refusal → Reads source tree → ⊥
  refused_is_no_tree tree refusals.Memory real h r = real refl
  refused_is_no_tree tree (refusals.BadTag place) real h r = refused_first (refusals.BadTag place) tree real h.1 r.1
  refused_is_no_tree tree (refusals.Unclosed place) real h r = refused_first (refusals.Unclosed place) tree real h.1 r.1
  refused_is_no_tree tree (refusals.Stray place) real h r = refused_first (refusals.Stray place) tree real h.1 r.1
  refused_is_no_tree tree (refusals.BadAttribute place) real h r = refused_first (refusals.BadAttribute place) tree real h.1 r.1
  refused_is_no_tree tree (refusals.BadExpression place) real h r = refused_first (refusals.BadExpression place) tree real h.1 r.1
  refused_is_no_tree tree (refusals.TooLarge most) real h r = omega (arith, h.1, r.0)
  refused_is_no_tree tree (refusals.TooDeep place) real h r = refused_first (refusals.TooDeep place) tree real h.1 r.1

  pub one_tree : (tree other : Items) → Reads source tree → Reads source other → tree ≡ other
  one_tree tree other h k = (same_block one source tree other 64 0 (length source) (length source) h.1 k.1 (inl refl) (inl refl)).0
