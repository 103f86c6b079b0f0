-- The evaluator of cells keeps the laws of an evaluator: its questions ask once, and its changes and replies keep
-- their rules.
use Rattle.std.proofs.Common.{◌≡◌, ℕ, ◌≤◌, ◌<◌, List, [], ◌∷◌, length, Option, Some, None, refl, ap, subst, arith, lit≤, lit<, length-append, codes, decimal}
use Rattle.zbase.specs.History.{Value}
use Rattle.zbase.specs.Query.{Done, run, go_on, IsWithin}
use Rattle.evaluator.specs.declared.ask.Ask.{Ask}
use Rattle.evaluator.specs.declared.cells.CellRequest.{CellRequest}
use Rattle.evaluator.specs.declared.draft.Draft.{Draft}
use Rattle.evaluator.specs.declared.draft.Name.{Name}
use Rattle.evaluator.specs.declared.fact.Fact.{Fact}
use Rattle.evaluator.specs.declared.outcome.Outcome.{Outcome}
use Rattle.evaluator.specs.declared.reply.Reply.{Reply}
use Rattle.evaluator.specs.Cells.{cell_question, eval_cell, line_reply, shown_value, shown_parts, shows, with_plus, writes, written, value_in, rows_in, parts_in}
use Rattle.evaluator.specs.Change.{IsChange, IsReply}
use Rattle.evaluator.specs.Exec.{IsLawful, IsTrail, most_asks}
use Rattle.evaluator.specs.Facts.{look}
use Rattle.evaluator.specs.Questions.{IsCareful, outcome}
use Rattle.evaluator.specs.QuestionLaws.{lawful, object_lasts, trail_short}

cell_careful : (q : CellRequest) → IsCareful (cell_question q)
cell_careful (CellRequest.Read a) = λ f is. (λ l. tt, λ l. tt)
cell_careful (CellRequest.Copy a b) = λ f is. (λ l. tt, λ l. absurd (let lasts = object_lasts a f is in cc))
cell_careful (CellRequest.New a) = λ f is. (λ l. tt, λ l. absurd (let lasts = object_lasts a f is in cc))
cell_careful CellRequest.Log = λ f is. (λ l. tt, λ l. tt)
cell_careful (CellRequest.Part t) = λ f is. (λ l. tt, λ l. tt)

pub cells_lawful : IsLawful eval_cell
cells_lawful = lawful cell_question cell_careful

cell_asks_once : (q : CellRequest) → IsWithin most_asks (cell_question q)
cell_asks_once (CellRequest.Read a) = λ f. tt
cell_asks_once (CellRequest.Copy a b) = λ f. tt
cell_asks_once (CellRequest.New a) = λ f. tt
cell_asks_once CellRequest.Log = λ f. tt
cell_asks_once (CellRequest.Part t) = λ f. tt

pub cells_ask_few : (facts : List Fact) (q : CellRequest) → IsTrail (λ known. eval_cell (look known) q) facts → length facts ≤ most_asks
cells_ask_few facts q trail = trail_short most_asks (cell_question q) (cell_asks_once q) [] facts trail

-- ---- the rules of changes and replies

line_keeps : (text : List ℕ) → IsReply (line_reply text)
line_keeps text = record { status = refl; denied = tt; distinct = λ i j d h k. absurd (omega arith); roles = tt }

plus_is_some : (v : Value) → 0 < length (with_plus v)
plus_is_some None = lit< tt
plus_is_some (Some bytes) = omega (arith, length-append bytes (43 ∷ []))

-- one object is written, which has a value
old_keeps : (known : Ask → Option Fact) (b : ℕ) (v : Value) → IsChange known (written (Name.Old b) (with_plus v))
old_keeps known b v = record {
  user = lit≤ tt;
  description = lit≤ tt;
  distinct = λ i j d h k. absurd (omega arith);
  numbered = λ k h. absurd (omega arith);
  few = lit< tt;
  each = ((λ h. absurd (omega arith), plus_is_some v, tt, λ i j d h k. absurd (omega arith)), tt);
}

new_keeps : (known : Ask → Option Fact) (v : Value) → IsChange known (written (Name.New 0) (with_plus v))
new_keeps known v = record {
  user = lit≤ tt;
  description = lit≤ tt;
  distinct = λ i j d h k. absurd (omega arith);
  numbered = λ k h. (let first : 0 ≡ k = omega arith in (0, lit< tt, ap Name.New first));
  few = lit< tt;
  each = ((lit< tt, plus_is_some v, tt, λ i j d h k. absurd (omega arith)), tt);
}

-- what an evaluation comes to keeps the rules
abbrev KeepsRules : (Ask → Option Fact) → Outcome → Type 0
KeepsRules known (Outcome.Need ask) = Unit {0}
KeepsRules known (Outcome.Answer x) = IsReply x
KeepsRules known (Outcome.Change x d) = IsChange known d × IsReply x

cell_keeps : (known : Ask → Option Fact) (q : CellRequest) → KeepsRules known (eval_cell known q)
cell_keeps known (CellRequest.Read a) = go (known (Ask.Object a))
  where
    go : (o : Option Fact) → KeepsRules known (outcome (go_on (Ask.Object a) (λ f. run known (Done (shows (shown_value (value_in f))))) o))
    go None = tt
    go (Some f) = line_keeps (shown_value (value_in f))
cell_keeps known (CellRequest.Copy a b) = go (known (Ask.Object a))
  where
    go : (o : Option Fact) → KeepsRules known (outcome (go_on (Ask.Object a) (λ f. run known (Done (writes (Name.Old b) (with_plus (value_in f))))) o))
    go None = tt
    go (Some f) = (old_keeps known b (value_in f), line_keeps (codes "done"))
cell_keeps known (CellRequest.New a) = go (known (Ask.Object a))
  where
    go : (o : Option Fact) → KeepsRules known (outcome (go_on (Ask.Object a) (λ f. run known (Done (writes (Name.New 0) (with_plus (value_in f))))) o))
    go None = tt
    go (Some f) = (new_keeps known (value_in f), line_keeps (codes "done"))
cell_keeps known CellRequest.Log = go (known Ask.Log)
  where
    go : (o : Option Fact) → KeepsRules known (outcome (go_on Ask.Log (λ f. run known (Done (shows (decimal (length (rows_in f)))))) o))
    go None = tt
    go (Some f) = line_keeps (decimal (length (rows_in f)))
cell_keeps known (CellRequest.Part t) = go (known (Ask.Transaction t))
  where
    go : (o : Option Fact) → KeepsRules known (outcome (go_on (Ask.Transaction t) (λ f. run known (Done (shows (shown_parts (parts_in f))))) o))
    go None = tt
    go (Some f) = line_keeps (shown_parts (parts_in f))

pub cell_changes : (known : Ask → Option Fact) (q : CellRequest) (x : Reply) (d : Draft) → eval_cell known q ≡ Outcome.Change x d → IsChange known d × IsReply x
cell_changes known q x d e = subst (KeepsRules known) e (cell_keeps known q)

pub cell_replies : (known : Ask → Option Fact) (q : CellRequest) (x : Reply) → eval_cell known q ≡ Outcome.Answer x → IsReply x
cell_replies known q x e = subst (KeepsRules known) e (cell_keeps known q)
