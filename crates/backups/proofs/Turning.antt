-- Calls of a shelf behind one another, where it tells.
use Rattle.std.proofs.Common.{◌≡◌, ◌∙◌, ℕ, List, Option, None, Some, Result, Ok, Err, IfSome, refl, sym, ap, subst}
use Rattle.std.specs.Prelude.{OnErr, OnOk}
use Rattle.std.specs.Option.{option_map}
use Rattle.zdisk.specs.Disk.{Told, content}
use Rattle.zio.specs.Shelves.{Entry, Holds, TakesBack, file_at}
use Rattle.repozo.specs.Disks.{Reads}
use Rattle.backups.specs.BackedUp.{HasFile, Turned}
use Rattle.backups.specs.Restored.{Turns}
use Rattle.backups.proofs.Closing.{unchanged}

pub turns_same : (old new : Option (List Entry)) (P : List Entry → List Entry → Type 0) → new ≡ old → ((all : List Entry) → P all all) → Turns old new P
turns_same None new P same so = same
turns_same (Some all) new P same so = (all, same, so all)

pub turns_as : (old new : Option (List Entry)) (P Q : List Entry → List Entry → Type 0) → Turns old new P → ((all now : List Entry) → P all now → Q all now) → Turns old new Q
turns_as None new P Q turns so = turns
turns_as (Some all) new P Q (now, is, p) so = (now, is, so all now p)

pub turns_then : (old mid new : Option (List Entry)) (P Q R : List Entry → List Entry → Type 0) → Turns old mid P → Turns mid new Q → ((a b c : List Entry) → P a b → Q b c → R a c) → Turns old new R
turns_then None mid new P Q R one two so = subst (λ (m : Option (List Entry)). Turns m new Q) one two
turns_then (Some a) mid new P Q R (b, is, p) two so =
    let next : Turns (Some b) new Q = subst (λ (m : Option (List Entry)). Turns m new Q) is two in
    (next.0, next.1, so a b next.0 p next.2)

-- a shelf that tells

pub turned : (old new : Option (List Entry)) (P : List Entry → List Entry → Type 0) → Turns old new P → Turned old new P
turned None new P turns = tt
turned (Some all) new P turns = turns

pub turned_same : (old new : Option (List Entry)) (P : List Entry → List Entry → Type 0) → new ≡ old → ((all : List Entry) → P all all) → Turned old new P
turned_same None new P same so = tt
turned_same (Some all) new P same so = (all, same, so all)

pub turned_as : (old new : Option (List Entry)) (P Q : List Entry → List Entry → Type 0) → Turned old new P → ((all now : List Entry) → P all now → Q all now) → Turned old new Q
turned_as None new P Q turns so = tt
turned_as (Some all) new P Q (now, is, p) so = (now, is, so all now p)

pub turned_then : (old mid new : Option (List Entry)) (P Q R : List Entry → List Entry → Type 0) → Turned old mid P → Turned mid new Q → ((a b c : List Entry) → P a b → Q b c → R a c) → Turned old new R
turned_then None mid new P Q R one two so = tt
turned_then (Some a) mid new P Q R (b, is, p) two so =
    let next : Turned (Some b) new Q = subst (λ (m : Option (List Entry)). Turned m new Q) is two in
    (next.0, next.1, so a b next.0 p next.2)

-- a file that was read, and stays, is given back
pub still : {T E : Type 0} (old mid now : Option (List Entry)) (name : List ℕ) (was told : Option Told) (r : Result T E) (P : List Entry → List Entry → Type 0) → IfSome old (λ all. Holds all name was) → Turns old mid P
    → ((a b : List Entry) → P a b → (bytes : List ℕ) → file_at a name ≡ Some bytes → file_at b name ≡ Some bytes) → told ≡ was → OnOk r (TakesBack mid name told now) → OnErr r (now ≡ mid) → Turns old now P
still None mid now name was told (Ok x) P held turns stays same back failed = subst (λ (m : Option (List Entry)). TakesBack m name told now) turns back
still None mid now name was told (Err e) P held turns stays same back failed = failed ∙ turns
still (Some all) mid now name was told r P held (m, is, p) stays same back failed =
    let holds : IfSome mid (λ x. Holds x name was) = subst (λ (o : Option (List Entry)). IfSome o (λ x. Holds x name was)) (sym is) (held.0, stays all m p held.0 held.1, held.2) in
    (m, unchanged mid mid now name was told r holds refl same back failed ∙ is, p)

-- and until then its disk holds it
pub still_held : (old mid : Option (List Entry)) (name : List ℕ) (was told : Option Told) (P : List Entry → List Entry → Type 0) → IfSome old (λ all. Holds all name was) → Turns old mid P
    → ((a b : List Entry) → P a b → (bytes : List ℕ) → file_at a name ≡ Some bytes → file_at b name ≡ Some bytes) → told ≡ was → IfSome mid (λ all. Holds all name told)
still_held None mid name was told P held turns stays same = subst (λ (o : Option (List Entry)). IfSome o (λ all. Holds all name told)) (sym turns) tt
still_held (Some all) mid name was told P held (m, is, p) stays same =
    subst (λ (o : Option (List Entry)). IfSome o (λ all. Holds all name told)) (sym is) (held.0, stays all m p held.0 held.1, same ∙ held.2)

-- what is so of all bytes that the disk reads is so of its file's
pub of_held : (old mid : Option (List Entry)) (name : List ℕ) (was : Option Told) (P : List ℕ → List Entry → List Entry → Type 0) → IfSome old (λ all. Holds all name was) → Turns old mid (λ all now. (bytes : List ℕ) → Reads was bytes → P bytes all now)
    → Turns old mid (λ all now. HasFile all name (λ bytes. P bytes all now))
of_held None mid name was P held turns = turns
of_held (Some all) mid name was P held (now, is, so) = (now, is, (held.0, held.1, so held.0 (ap (option_map content) held.2)))

pub if_held : (old : Option (List Entry)) (name : List ℕ) (was : Option Told) (P : List ℕ → List Entry → Type 0) → IfSome old (λ all. Holds all name was) → ((bytes : List ℕ) → Reads was bytes → IfSome old (P bytes)) → IfSome old (λ all. HasFile all name (λ bytes. P bytes all))
if_held None name was P held so = tt
if_held (Some all) name was P held so = (held.0, held.1, so held.0 (ap (option_map content) held.2))
