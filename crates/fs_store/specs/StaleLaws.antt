-- What a stale store's history becomes, also where a stop came first.
use Rattle.std.proofs.Common.{◌≡◌, ℕ, ◌+◌, List, [], ◌∷◌, Option, Some, None, refl, sym, ap, subst, ◌∙◌, append-nil, arith, inl, inr}
use Rattle.std.specs.Prelude.{◌⊎◌}
use Rattle.zbase.specs.History.{History, IsPrefixOf, added}
use Rattle.zdisk.specs.Disk.{Told, content}
use Rattle.fs_record.specs.declared.damage.Damage.{Damage as Kind}
use Rattle.fs_record.specs.File.{Front}
use Rattle.fs_record.specs.Opening.{Damaged}
use Rattle.fs_record.specs.OpeningLaws.{not_both, one_cut}
use Rattle.fs_store.specs.declared.opening.OpenRefusal.{OpenRefusal}
use Rattle.fs_store.specs.Moments.{OpensAsKnown, OpensTo}
use Rattle.fs_store.specs.Opened.{IsRefusedFor, Opens, OpensAs, WhereTold}
use Rattle.fs_store.specs.Stores.{Out, Settles, StoreView}

-- a store that is opened over bytes has the history to which they open, and its end
pub opened_history : (bytes left : List ℕ) (h : History) (end : ℕ) (s : StoreView) (torn : ℕ) → OpensTo bytes h end → OpensAs bytes left s torn → (s.history ≡ h) × (s.end ≡ end)
opened_history bytes left h end s torn opens o =
    let one = one_cut bytes o.front opens.front s.end end o.cut opens.cut in
    (o.history ∙ ap (λ (f : Front). f.history) one.0 ∙ opens.is, one.1)

-- the history before and its end, or that and the transaction that was undecided
abbrev pub MaySettle : StoreView → History → ℕ → Type 0
MaySettle old h end = ((h ≡ old.history) × (end ≡ old.end)) ⊎ ((o : Out) × (old.undecided ≡ Some o) × (h ≡ added old.history o.transaction) × (end ≡ old.end + o.size))

image_settles : (old new : StoreView) (image left : List ℕ) (torn : ℕ) → OpensAsKnown old image → OpensAs image left new torn → MaySettle old new.history new.end
image_settles old new image left torn (inl x) o = inl (opened_history image left old.history old.end new torn x o)
image_settles old new image left torn (inr x) o =
    let is = opened_history image left (added old.history x.0.transaction) (old.end + x.0.size) new torn x.2 o in
    inr (x.0, x.1, is.0, is.1)

-- A stop left an image, and a store was opened over it: its history is one of the two.
pub stopped_settles : (old new : StoreView) (told : Told) (limit : ℕ) → OpensAsKnown old (content told) → Opens (Some told) limit new → MaySettle old new.history new.end
stopped_settles old new told limit opens o = go new.disk.told o.told
  where
    go : (after : Option Told) → WhereTold (Some told) after (λ before next. OpensAs (content before) (content next) new o.torn) → MaySettle old new.history new.end
    go None none = absurd none
    go (Some next) as' = image_settles old new (content told) (content next) o.torn opens as'

-- bytes that open have no damage, and aren't too long
pub not_damaged : (bytes : List ℕ) (h : History) (end : ℕ) (kind : Kind) (place : ℕ) → OpensTo bytes h end → Damaged bytes place kind → ⊥
not_damaged bytes h end kind place opens damaged = not_both bytes opens.front end place kind opens.cut damaged

pub stopped_undamaged : (old : StoreView) (told : Told) (kind : Kind) (place : ℕ) → OpensAsKnown old (content told) → IsRefusedFor (Some told) (OpenRefusal.Damaged kind place) → ⊥
stopped_undamaged old told kind place (inl x) refused = not_damaged (content told) old.history old.end kind place x refused.1
stopped_undamaged old told kind place (inr x) refused = not_damaged (content told) (added old.history x.0.transaction) (old.end + x.0.size) kind place x.2 refused.1

pub stopped_fits : (old : StoreView) (told : Told) (long : ℕ) → OpensAsKnown old (content told) → IsRefusedFor (Some told) (OpenRefusal.TooLong long) → ⊥
stopped_fits old told long (inl x) refused = omega (arith, x.fits, refused.0, refused.1)
stopped_fits old told long (inr x) refused = omega (arith, x.2.fits, refused.0, refused.1)

settles_may : (old new : StoreView) → Settles old new → MaySettle old new.history new.end
settles_may old new (inl s) = inl (ap (λ (v : StoreView). v.history) s, ap (λ (v : StoreView). v.end) s)
settles_may old new (inr s) = inr (s.0, s.1, ap (λ (v : StoreView). v.history) s.2, ap (λ (v : StoreView). v.end) s.2)

-- the history before is a prefix of the settled one
pub prefix_may : (old : StoreView) (h : History) (end : ℕ) → MaySettle old h end → IsPrefixOf old.history h
prefix_may old h end (inl e) = subst (IsPrefixOf old.history) (sym e.0) (record { floor = refl; rest = []; transactions = append-nil old.history.transactions })
prefix_may old h end (inr e) = subst (IsPrefixOf old.history) (sym e.2) (record { floor = refl; rest = e.0.transaction ∷ []; transactions = refl })

pub prefix_settled : (old new : StoreView) → Settles old new → IsPrefixOf old.history new.history
prefix_settled old new s = prefix_may old new.history new.end (settles_may old new s)
