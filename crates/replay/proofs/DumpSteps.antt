-- A dump under way: a walk, and the lines of the transactions that it went over.
use Rattle.std.proofs.Common.{◌≡◌, ℕ, List, [], ◌∷◌, ◌++◌, length, flat_map, Option, Some, None, IfSome, Result, Err, refl, sym, ap, ap₂, subst, ◌∙◌, append-nil, append_assoc}
use Rattle.std.proofs.lemmas.Grind.{flat_map-append}
use Rattle.zbase.specs.History.{History, Transaction}
use Rattle.zdisk.specs.Disk.{Told, content}
use Rattle.fs_record.specs.declared.damage.Damage.{Damage as Kind}
use Rattle.fs_record.specs.File.{Front}
use Rattle.fs_record.specs.Opening.{Cut, Damaged}
use Rattle.std.specs.Prelude.{IsErrOf}
use Rattle.fs_scan.specs.declared.opening.ScanRefusal.{ScanRefusal}
use Rattle.fs_scan.specs.declared.opening.Scanned.{Scanned}
use Rattle.fs_scan.specs.declared.wholes.Whole.{Whole}
use Rattle.fs_scan.specs.Scanned.{Tells}
use Rattle.fs_scan.specs.Wholes.{transaction_in}
use Rattle.schedule.specs.declared.line.Line.{Line}
use Rattle.schedule.specs.Explained.{history_head, history_lines, transaction_lines}
use Rattle.replay.specs.declared.dumping.DumpRefusal.{DumpRefusal}
use Rattle.replay.specs.Dumped.{Dumps, PutsHistory, of_scan}
use Rattle.replay.specs.Printed.{Prints}
use Rattle.replay.specs.SecondWalk.{Left, Nexts, Second}
use Rattle.replay.proofs.SecondWalking.{IsLeft}
use Rattle.replay.proofs.PrintSteps.{prints_then}

-- the history's head, and the lines of these transactions
abbrev pub so_far : History → List Transaction → List Line
so_far h gone = history_head (length h.transactions) h.floor ++ flat_map transaction_lines gone

-- the bytes open to a history; the transactions that the walk went over are printed, and the others are left
pub record Printed (bytes : List ℕ) (walk : Second) (old now : Option (List ℕ)) : Type 0 where
  pub front : Front
  pub end : ℕ
  pub opens : Cut bytes front end
  pub gone : List Transaction
  pub left : List Transaction
  pub all : front.history.transactions ≡ gone ++ left
  pub stands : Left bytes walk left
  pub lines : Prints old now (so_far front.history gone)

pub printed_first : (disk again : Option Told) (s : Scanned) (walk : Second) (old now : Option (List ℕ)) → again ≡ disk → IfSome disk (λ told. Tells (content told) s)
    → IfSome again (λ told. (front : Front) → Cut (content told) front s.end → Left (content told) walk front.history.transactions) → Prints old now (history_head s.count s.floor) → IfSome disk (λ told. Printed (content told) walk old now)
printed_first None again s walk old now same t left lines = tt
printed_first (Some told) again s walk old now same t left lines =
    let begun = subst (λ (d : Option Told). IfSome d (λ t. (front : Front) → Cut (content t) front s.end → Left (content t) walk front.history.transactions)) same left in
    let head : history_head s.count s.floor ≡ so_far t.front.history [] = ap₂ history_head t.count t.floor ∙ sym (append-nil (history_head (length t.front.history.transactions) t.front.history.floor)) in
    record { front = t.front; end = s.end; opens = t.cut; gone = []; left = t.front.history.transactions; all = refl; stands = begun t.front t.cut; lines = subst (Prints old now) head lines }

one_longer : (h : History) (gone : List Transaction) (x : Transaction) → so_far h gone ++ transaction_lines x ≡ so_far h (gone ++ x ∷ [])
one_longer h gone x =
    let head = history_head (length h.transactions) h.floor in
    append_assoc head (flat_map transaction_lines gone) (transaction_lines x)
    ∙ ap (λ (ls : List Line). head ++ ls) (sym (flat_map-append transaction_lines gone (x ∷ []) ∙ ap (λ (ls : List Line). flat_map transaction_lines gone ++ ls) (append-nil (transaction_lines x))))

pub printed_next : (disk again : Option Told) (walk next : Second) (whole : Whole) (old now new : Option (List ℕ)) → again ≡ disk → IfSome disk (λ told. Printed (content told) walk old now)
    → IfSome again (λ told. (xs : List Transaction) → Left (content told) walk xs → Nexts (content told) next xs (Some whole)) → Prints now new (transaction_lines (transaction_in whole)) → IfSome disk (λ told. Printed (content told) next old new)
printed_next None again walk next whole old now new same p step lines = tt
printed_next (Some told) again walk next whole old now new same p step lines =
    let n = subst (λ (d : Option Told). IfSome d (λ t. (xs : List Transaction) → Left (content t) walk xs → Nexts (content t) next xs (Some whole))) same step p.left p.stands in
    let x = transaction_in whole in
    record {
      front = p.front;
      end = p.end;
      opens = p.opens;
      gone = p.gone ++ x ∷ [];
      left = n.0;
      all = p.all ∙ ap (λ (xs : List Transaction). p.gone ++ xs) n.1 ∙ sym (append_assoc p.gone (x ∷ []) n.0);
      stands = n.2;
      lines = subst (Prints old new) (one_longer p.front.history p.gone x) (prints_then old now new (so_far p.front.history p.gone) (transaction_lines x) p.lines lines);
    }

pub printed_last : (disk again : Option Told) (walk next : Second) (old now : Option (List ℕ)) → again ≡ disk → IfSome disk (λ told. Printed (content told) walk old now)
    → IfSome again (λ told. (xs : List Transaction) → Left (content told) walk xs → Nexts (content told) next xs None) → IfSome disk (λ told. PutsHistory (content told) old now)
printed_last None again walk next old now same p step = tt
printed_last (Some told) again walk next old now same p step =
    let none : p.left ≡ [] = subst (λ (d : Option Told). IfSome d (λ t. (xs : List Transaction) → Left (content t) walk xs → Nexts (content t) next xs None)) same step p.left p.stands in
    let gone : p.gone ≡ p.front.history.transactions = sym (p.all ∙ ap (λ (xs : List Transaction). p.gone ++ xs) none ∙ append-nil p.gone) in
    record { front = p.front; end = p.end; opens = p.opens; printed = subst (λ (xs : List Transaction). Prints old now (so_far p.front.history xs)) gone p.lines }

-- a report's last line behind the history
pub ended : (disk : Option Told) (old now after : Option (List ℕ)) → IfSome disk (λ told. PutsHistory (content told) old now) → Prints now after (Line.End ∷ []) → IfSome disk (λ told. Dumps (content told) old after)
ended None old now after p last = tt
ended (Some told) old now after p last = record { front = p.front; end = p.end; opens = p.opens; printed = prints_then old now after (history_lines p.front.history) (Line.End ∷ []) p.printed last }

-- some transactions are left, or none
pub still_left : (disk again : Option Told) (walk : Second) (old now : Option (List ℕ)) → again ≡ disk → IfSome disk (λ told. Printed (content told) walk old now) → IsLeft again walk
still_left disk again walk old now same p = λ told is. the_left disk (sym same ∙ is) p
  where
    the_same : (a b : Told) → Some a ≡ Some b → a ≡ b
    the_same a b is = cc

    the_left : (d : Option Told) {told : Told} → d ≡ Some told → IfSome d (λ t. Printed (content t) walk old now) → (xs : List Transaction) × Left (content told) walk xs
    the_left None is p = absurd cc
    the_left (Some one) {told} is p = subst (λ (t : Told). (xs : List Transaction) × Left (content t) walk xs) (the_same one told is) (p.left, p.stands)

-- the damage that the scan met is the dump's
pub damaged_told : {T U : Type 0} (disk : Option Told) (r : ScanRefusal) (result : Result U DumpRefusal) (X : Type 0) → X → result ≡ Err (of_scan r) → ((kind : Kind) (place : ℕ) → IsErrOf {T = T} (Err r) (ScanRefusal.Damaged kind place) → IfSome disk (λ told. Damaged (content told) place kind))
    → (kind : Kind) (place : ℕ) → IsErrOf result (DumpRefusal.Damaged kind place) → IfSome disk (λ told. Damaged (content told) place kind × X)
damaged_told None r result X x same scanned kind place is = tt
damaged_told (Some told) (ScanRefusal.Damaged k p) result X x same scanned kind place is =
    let kinds : k ≡ kind = cc in
    let places : p ≡ place = cc in
    (subst (λ (n : ℕ). Damaged (content told) n kind) places (subst (λ (d : Kind). Damaged (content told) p d) kinds (scanned k p refl)), x)
damaged_told (Some told) ScanRefusal.Disk result X x same scanned kind place is = absurd cc
damaged_told (Some told) ScanRefusal.Memory result X x same scanned kind place is = absurd cc

-- a walk names no damage where the disk tells
pub none_damaged : {T U : Type 0} (disk again : Option Told) (r : ScanRefusal) (result : Result U DumpRefusal) (X : Type 0) → again ≡ disk → result ≡ Err (of_scan r) → ((kind : Kind) (place : ℕ) → IsErrOf {T = T} (Err r) (ScanRefusal.Damaged kind place) → IfSome again (λ told. ⊥))
    → (kind : Kind) (place : ℕ) → IsErrOf result (DumpRefusal.Damaged kind place) → IfSome disk (λ told. Damaged (content told) place kind × X)
none_damaged None again r result X e same none kind place is = tt
none_damaged (Some told) again (ScanRefusal.Damaged k p) result X e same none kind place is = absurd (subst (λ (d : Option Told). IfSome d (λ t. ⊥)) e (none k p refl))
none_damaged (Some told) again ScanRefusal.Disk result X e same none kind place is = absurd cc
none_damaged (Some told) again ScanRefusal.Memory result X e same none kind place is = absurd cc
