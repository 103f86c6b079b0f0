-- What a disk holds once its store or its core is closed.
use Rattle.std.proofs.Common.{◌≡◌, ◌+◌, ℕ, Bool, true, false, List, Option, None, Some, IfSome, inl, inr, refl, subst}
use Rattle.zdisk.specs.Disk.{Held, Told, content}
use Rattle.zdisk.specs.Images.{IsImage}
use Rattle.fs_store.specs.Moments.{OpensAsKnown}
use Rattle.fs_store.specs.Stores.{StoreView, settled, staled, voting}
use Rattle.txn_core.specs.Slots.{Closes}
use Rattle.file_server.specs.Ending.{MayHold}

-- each image opens to what is known, and what is read is an image
abbrev pub EachKnown : StoreView → Option Told → Type 0
EachKnown s told = IfSome told (λ t. (image : List ℕ) → IsImage t.now image → OpensAsKnown s image)

known_holds : (s : StoreView) (bytes : List ℕ) → OpensAsKnown s bytes → MayHold s bytes
known_holds s bytes (inl opens) = (s, inl refl, s.end, opens)
known_holds s bytes (inr (o, is, opens)) = (settled s (Some o) s.disk, inr (o, is, refl), s.end + o.size, opens)

closed_known : (old new : StoreView) (fault : Bool) (bytes : List ℕ) → Closes old fault new → OpensAsKnown new bytes → OpensAsKnown old bytes
closed_known old new false bytes (inl same) known = subst (λ (s : StoreView). OpensAsKnown s bytes) same known
closed_known old new false bytes (inr idle) known =
    let so : OpensAsKnown (voting old None new.disk) bytes = subst (λ (s : StoreView). OpensAsKnown s bytes) idle known in
    so
closed_known old new true bytes stale known =
    let so : OpensAsKnown (staled old new.disk) bytes = subst (λ (s : StoreView). OpensAsKnown s bytes) stale known in
    elim so [ inl opens ↦ inl opens | inr rest ↦ absurd (let bad : None ≡ Some rest.0 = rest.1 in cc) ]

pub closed_holds : (old new : StoreView) (fault : Bool) (told : Option Told) → ((held : Held) → IsImage held held.now) → Closes old fault new → EachKnown new told → IfSome told (λ t. MayHold old (content t))
closed_holds old new fault None own closes known = tt
closed_holds old new fault (Some t) own closes known = known_holds old (content t) (closed_known old new fault (content t) closes (known (content t) (own t.now)))
