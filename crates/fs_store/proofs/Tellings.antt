-- What is said of a disk where it tells.
use Rattle.std.proofs.Common.{◌≡◌, Option, Some, None, IfSome, Result, Ok, Err, IfOk, sym, subst}
use Rattle.zdisk.specs.Disk.{Told}

pub always : (o : Option Told) (Q : Told → Type 0) → ((s : Told) → Q s) → IfSome o Q
always None Q f = tt
always (Some s) Q f = f s

pub on_told : (o : Option Told) (P Q : Told → Type 0) → ((s : Told) → P s → Q s) → IfSome o P → IfSome o Q
on_told None P Q f p = tt
on_told (Some s) P Q f p = f s p

pub on_both : (o : Option Told) (P Q R : Told → Type 0) → ((s : Told) → P s → Q s → R s) → IfSome o P → IfSome o Q → IfSome o R
on_both None P Q R f p q = tt
on_both (Some s) P Q R f p q = f s p q

pub on_three : (o : Option Told) (P Q R S : Told → Type 0) → ((s : Told) → P s → Q s → R s → S s) → IfSome o P → IfSome o Q → IfSome o R → IfSome o S
on_three None P Q R S f p q r = tt
on_three (Some s) P Q R S f p q r = f s p q r

pub on_four : (o : Option Told) (P Q R S T : Told → Type 0) → ((s : Told) → P s → Q s → R s → S s → T s) → IfSome o P → IfSome o Q → IfSome o R → IfSome o S → IfSome o T
on_four None P Q R S T f p q r t = tt
on_four (Some s) P Q R S T f p q r t = f s p q r t

-- the same of a disk that tells the same
pub moved : (o u : Option Told) (P : Told → Type 0) → u ≡ o → IfSome o P → IfSome u P
moved o u P same p = subst (λ (x : Option Told). IfSome x P) (sym same) p

-- the same of what a call answers at Ok
pub on_ok : {X E : Type 0} (r : Result X E) (P Q : X → Type 0) → ((x : X) → P x → Q x) → IfOk r P → IfOk r Q
on_ok (Ok x) P Q f p = f x p
on_ok (Err e) P Q f p = tt
