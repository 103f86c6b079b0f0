-- The images of a disk that is opened, once or again behind a stop.
use Rattle.std.proofs.Common.{◌≡◌, ◌⊎◌, ℕ, ◌≤◌, List, length, Option, Some, None, IfSome, IsSome, refl, sym, ap, subst, inl, inr, arith}
use Rattle.std.proofs.lemmas.List.{ext_get_or}
use Rattle.std.specs.Option.{option_map}
use Rattle.zbase.specs.Faults.{Counter, Counts, Spends, no_arms}
use Rattle.zbase.specs.History.{History}
use Rattle.zdisk.specs.Arming.{counter_of, last_seed}
use Rattle.zdisk.specs.Crashes.{LeavesFrom, Piles}
use Rattle.zdisk.specs.Disk.{Held, Told, content, synced}
use Rattle.zdisk.specs.Effects.{image_left}
use Rattle.zdisk.specs.Images.{IsImage, moment}
use Rattle.zdisk.specs.MomentLaws.{held_now, piles_later, piles_none, piles_then}
use Rattle.zdisk.specs.SeedLaws.{image_named}
use Rattle.fs_record.specs.declared.damage.Damage.{Damage as Kind}
use Rattle.fs_store.specs.declared.opening.OpenRefusal.{OpenRefusal}
use Rattle.fs_store.specs.Moments.{EachOpensTo, KeepsGiven, OpensAsKnown, OpensTo}
use Rattle.fs_store.specs.Opened.{IsRefusedFor, Opens, OpensAs, WhereTold}
use Rattle.fs_store.specs.StaleLaws.{not_damaged, opened_history}
use Rattle.fs_store.specs.Stores.{IsTold, StoreView, most_length, settled}
use Rattle.connection.specs.Telling.{tells_forth}
use Rattle.txn_core.specs.Slots.{IsLeft, Possible}
use Rattle.replay.specs.Replayed.{Runs}
use Rattle.replay.specs.Restarts.{OpensAnew}

-- what reads give is an image
own_image : (held : Held) → IsImage held held.now
own_image held = record { long = inl refl; each = λ i lt. inl refl }

the_first : {A : Type 0} → A ⊎ ⊥ → A
the_first (inl a) = a
the_first (inr none) = absurd none

-- a synced file has no other
only_image : (bytes image : List ℕ) → IsImage (synced bytes).now image → image ≡ bytes
only_image bytes image is = ext_get_or 0 image bytes (the_first is.long) (λ i lt. the_first (is.each i lt))

each_synced : (bytes : List ℕ) (h : History) (end : ℕ) → OpensTo bytes h end → EachOpensTo h end (synced bytes)
each_synced bytes h end opens = λ image is. subst (λ b. OpensTo b h end) (sym (only_image bytes image is)) opens

-- ---- the first opening

leaves_piles : (old : Told) (new : Option Told) (P : List ℕ → List ℕ → Type 0) (told : Told) → LeavesFrom (Some old) new P → new ≡ Some told → Piles old told
leaves_piles old None P told leaves e = absurd leaves
leaves_piles old (Some next) P told leaves e = (let same : next ≡ told = cc in subst (Piles old) same leaves.0)

runs_synced : (bytes : List ℕ) (limit : ℕ) (s : StoreView) → Opens (Some (synced bytes)) limit s → KeepsGiven (Some (synced bytes)) s.disk.told → Counts (counter_of 0 0 no_arms) s.disk.counter ⊥ → Runs bytes limit s
runs_synced bytes limit s o keeps counts = go s.disk.told refl o.told
  where
    go : (after : Option Told) → s.disk.told ≡ after → WhereTold (Some (synced bytes)) after (λ old new. OpensAs (content old) (content new) s o.torn) → Runs bytes limit s
    go None e none = absurd none
    go (Some next) e left =
        let opens : OpensTo bytes s.history s.end = record { fits = left.fits; front = left.front; cut = left.cut; is = sym left.history } in
        let spends : Spends no_arms s.disk.counter.arms = counts.arms.spends (λ f. f) in
        record {
          opens = opens;
          limit_is = o.limit_is;
          idle = o.idle;
          fresh = o.fresh;
          told = subst IsSome (sym e) refl;
          running = spends.stopped;
          unarmed = spends.queue;
          unhit = spends.hits;
          begins = λ told at. leaves_piles (synced bytes) s.disk.told (λ file image. OpensTo image s.history s.end) told (keeps s.history s.end (each_synced bytes s.history s.end opens)) at;
        }

-- a store that was opened over given bytes
pub opened_runs : (bytes : List ℕ) (limit : ℕ) (disk : Option Told) (old : Counter) (s : StoreView) → disk ≡ Some (synced bytes) → old ≡ counter_of 0 0 no_arms → Opens disk limit s → KeepsGiven disk s.disk.told → Counts old s.disk.counter ⊥ → Runs bytes limit s
opened_runs bytes limit disk old s told unarmed o keeps counts =
    runs_synced bytes limit s (subst (λ d. Opens d limit s) told o) (subst (λ d. KeepsGiven d s.disk.told) told keeps) (subst (λ c. Counts c s.disk.counter ⊥) unarmed counts)

-- ---- openings behind a stop

-- what a stop leaves is a synced file that opens as each image did
pub anew_stopped : (h : History) (end seed : ℕ) (disk : Option Told) → OpensAnew h end disk → OpensAnew h end (option_map (λ told. synced (image_left seed told)) disk)
anew_stopped h end seed disk a =
    let image = image_left seed a.told in
    let opens : OpensTo image h end = a.each image (image_named seed a.told.now) in
    record { told = synced image; is = ap (option_map (λ told. synced (image_left seed told))) a.is; image = image; opens = opens; begins = piles_none (synced image); each = each_synced image h end opens }

-- what an opening leaves, whether it failed or not
pub anew_kept : (h : History) (end : ℕ) (old new : Option Told) → OpensAnew h end old → KeepsGiven old new → OpensAnew h end new
anew_kept h end old new a keeps =
    let given : IfSome old (EachOpensTo h end) = subst (λ d. IfSome d (EachOpensTo h end)) (sym a.is) a.each in
    go new refl (subst (λ d. LeavesFrom d new (λ file image. OpensTo image h end)) a.is (keeps h end given))
  where
    go : (after : Option Told) → new ≡ after → LeavesFrom (Some a.told) after (λ file image. OpensTo image h end) → OpensAnew h end new
    go None e leaves = absurd leaves
    go (Some next) e leaves = record {
      told = next;
      is = e;
      image = a.image;
      opens = a.opens;
      begins = piles_then (synced a.image) a.told next a.begins leaves.0;
      each = λ image is. leaves.1 next.now (held_now next (moment a.told) (piles_later a.told next leaves.0)) image is;
    }

-- so it isn't refused for its bytes
pub anew_undamaged : (h : History) (end : ℕ) (disk : Option Told) (kind : Kind) (place : ℕ) → OpensAnew h end disk → IsRefusedFor disk (OpenRefusal.Damaged kind place) → ⊥
anew_undamaged h end disk kind place a refused =
    let of = subst (λ d. IsRefusedFor d (OpenRefusal.Damaged kind place)) a.is refused in
    not_damaged (content a.told) h end kind place (a.each (content a.told) (own_image a.told.now)) of.1

pub anew_fits : (h : History) (end : ℕ) (disk : Option Told) (long : ℕ) → OpensAnew h end disk → IsRefusedFor disk (OpenRefusal.TooLong long) → ⊥
anew_fits h end disk long a refused =
    let of = subst (λ d. IsRefusedFor d (OpenRefusal.TooLong long)) a.is refused in
    let fits : length (content a.told) ≤ most_length = (a.each (content a.told) (own_image a.told.now)).fits in
    omega (arith, fits, of.0, of.1)

-- and a store that is opened over it has its history
pub anew_opened : (h : History) (end limit : ℕ) (disk : Option Told) (s : StoreView) → OpensAnew h end disk → Opens disk limit s → KeepsGiven disk s.disk.told → (s.history ≡ h) × (s.end ≡ end) × OpensAnew h end s.disk.told
anew_opened h end limit disk s a o keeps =
    let is = go s.disk.told (subst (λ d. WhereTold d s.disk.told (λ old new. OpensAs (content old) (content new) s o.torn)) a.is o.told) in
    (is.0, is.1, anew_kept h end disk s.disk.told a keeps)
  where
    go : (after : Option Told) → WhereTold (Some a.told) after (λ old new. OpensAs (content old) (content new) s o.torn) → (s.history ≡ h) × (s.end ≡ end)
    go None none = absurd none
    go (Some next) left = opened_history (content a.told) (content next) h end s o.torn (a.each (content a.told) (own_image a.told.now)) left

-- ---- what was lost

-- a store that may have stood behind one that a stop cut off, to whose history what the stop left opens
pub record LeftBy (s : StoreView) (disk : Option Told) : Type 0 where
  pub may : StoreView
  pub possible : Possible s may
  pub anew : OpensAnew may.history may.end disk

left_image : (s : StoreView) (image : List ℕ) → OpensAsKnown s image → (may : StoreView) × Possible s may × OpensTo image may.history may.end
left_image s image (inl before) = (s, inl refl, before)
left_image s image (inr (o, undecided, opens)) = (settled s (Some o) s.disk, inr (o, undecided, refl), opens)

pub lost_left : (s : StoreView) (disk : Option Told) (counter : Counter) → IsTold s → IsLeft s disk counter → IfSome disk (λ told. (image : List ℕ) → IsImage told.now image → OpensAsKnown s image) → LeftBy s (option_map (λ told. synced (image_left (last_seed counter.arms.hits) told)) disk)
lost_left s disk counter told left images = go disk (tells_forth s.disk.told disk left.tells told) images
  where
    go : (d : Option Told) → IsSome d → IfSome d (λ t. (image : List ℕ) → IsImage t.now image → OpensAsKnown s image) → LeftBy s (option_map (λ t. synced (image_left (last_seed counter.arms.hits) t)) d)
    go None some each = absurd cc
    go (Some t) some each =
        let image = image_left (last_seed counter.arms.hits) t in
        let is = left_image s image (each image (image_named (last_seed counter.arms.hits) t.now)) in
        record { may = is.0; possible = is.1; anew = record { told = synced image; is = refl; image = image; opens = is.2; begins = piles_none (synced image); each = each_synced image is.0.history is.0.end is.2 } }
