-- What a step over a transaction costs.
use Rattle.std.proofs.Common.{◌≡◌, ℕ, ◌+◌, ◌≤◌, Option, Some, None, IfSome, Result, Ok, Err, refl, subst, arith}
use Rattle.std.specs.Prelude.{OnOk}
use Rattle.zdisk.specs.Disk.{Told, content}
use Rattle.fs_scan.specs.Ahead.{Shown}
use Rattle.fs_scan.specs.Pacing.{Forward, IsPiece, Paces, Spends}
use Rattle.fs_scan.specs.Stepped.{gone}
use Rattle.fs_scan.specs.declared.opening.ScanRefusal.{ScanRefusal}
use Rattle.fs_scan.specs.declared.step.Step.{Step}
use Rattle.fs_scan.proofs.Pacing.{paces_forward, paces_from, paces_more, paces_then, spends_more}

-- where it failed
pub paces_err : (disk : Option Told) (len at to : ℕ) (old new : Shown) (calls more : ℕ) (r : Result Step ScanRefusal) (e : ScanRefusal) → r ≡ Err e → Paces disk at to old new calls more → to ≤ len → Paces disk at (gone len at r) old new calls more
paces_err disk len at to old new calls more r e is p le = rw is (paces_more disk at to len old new calls more p le)

-- the records of a transaction, and its second length
pub paces_read : (disk : Option Told) (place from long : ℕ) (s m t : Shown) (calls now more : ℕ) → Paces disk (place + from) (place + long) s m calls now → Forward (place + long) m t now more → Paces disk place (place + long) s t calls more
paces_read disk place from long s m t calls now more p f =
    paces_from disk place (place + from) (place + long) s t calls more (omega arith)
    (paces_then disk disk (place + from) (place + long) (place + long) s m t calls now more refl p (paces_forward disk (place + long) (place + long) (place + long) m t now more f (omega arith) (omega arith)))

-- its head, and what stands behind it
pub paces_step : (disk given : Option Told) (len at place : ℕ) (s m t : Shown) (calls now more : ℕ) (r : Result Step ScanRefusal) → given ≡ disk → place ≡ at → Forward at s m calls now
    → (IsPiece len place m → place ≤ len → Paces given place (gone len place r) m t now more) → IsPiece len at m → at ≤ len → Paces disk at (gone len at r) s t calls more
paces_step disk given len at place s m t calls now more r same here f k p le =
    let behind = subst (λ (n : ℕ). IsPiece len n m → n ≤ len → Paces given n (gone len n r) m t now more) here k in
    paces_then disk given at at (gone len at r) s m t calls now more same (paces_forward disk at at at s m calls now f (omega arith) (omega arith)) (behind p le)

pub piece_step : (len at place : ℕ) (s m t : Shown) (r : Result Step ScanRefusal) → place ≡ at → (IsPiece len at s → IsPiece len at m) → OnOk r (IsPiece len place m → place ≤ len → IsPiece len (gone len place r) t) → OnOk r (IsPiece len at s → at ≤ len → IsPiece len (gone len at r) t)
piece_step len at place s m t r here first k = by_result r (subst (λ (n : ℕ). OnOk r (IsPiece len n m → n ≤ len → IsPiece len (gone len n r) t)) here k)
  where
    by_result : (x : Result Step ScanRefusal) → OnOk x (IsPiece len at m → at ≤ len → IsPiece len (gone len at x) t) → OnOk x (IsPiece len at s → at ≤ len → IsPiece len (gone len at x) t)
    by_result (Ok y) k = λ p. k (first p)
    by_result (Err e) k = tt

-- by what a walk keeps
pub spends_ok : (disk : Option Told) (len at : ℕ) (old new : Shown) (calls more : ℕ) (r : Result Step ScanRefusal) (s : Step) → r ≡ Ok s → Paces disk at (gone len at r) old new calls more
    → IfSome disk (λ told. Spends (content told) at (gone len at (Ok s)) old.from new.from calls more)
spends_ok disk len at old new calls more r s is p = subst (λ (x : Result Step ScanRefusal). IfSome disk (λ told. Spends (content told) at (gone len at x) old.from new.from calls more)) is p.spends

pub spends_err : (disk : Option Told) (len at : ℕ) (old new : Shown) (calls more : ℕ) (r : Result Step ScanRefusal) (e : ScanRefusal) → r ≡ Err e → Paces disk at (gone len at r) old new calls more
    → IfSome disk (λ told. Spends (content told) at len old.from len calls more)
spends_err disk len at old new calls more r e is p = by_disk disk q.spends
  where
    q : Paces disk at len old new calls more
    q = subst (λ (x : Result Step ScanRefusal). Paces disk at (gone len at x) old new calls more) is p

    by_disk : (d : Option Told) → IfSome d (λ told. Spends (content told) at len old.from new.from calls more) → IfSome d (λ told. Spends (content told) at len old.from len calls more)
    by_disk None h = tt
    by_disk (Some told) h = spends_more (content told) at len len old.from new.from len calls more h (omega arith) q.reached
