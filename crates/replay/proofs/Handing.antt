-- What a run keeps of its disk, item by item.
use Rattle.std.proofs.Common.{◌≡◌, ℕ, ◌+◌, ◌≤◌, List, [], ◌∷◌, ◌++◌, length, refl, sym, ap, ◌∙◌, inl, inr, subst, arith}
use Rattle.std.proofs.lemmas.List.{length-append}
use Rattle.zbase.specs.History.{History, IsHistory, IsPrefixOf}
use Rattle.zbase.specs.HistoryLaws.{last_grows, prefix_refl, upto_prefix, upto_stays}
use Rattle.zbase.specs.Values.{last, upto}
use Rattle.zdisk.specs.Crashes.{IsSynced, Piles}
use Rattle.zdisk.specs.Disk.{Held, Told, content, synced}
use Rattle.zdisk.specs.Images.{moment}
use Rattle.schedule.specs.declared.line.Line.{Line}
use Rattle.replay.specs.Handed.{Acknowledges, As_given, At_pack, At_restart, Beginning, BeginsWith, HasMoments, HeldAt, OpenedAt, OpensToHistory, acknowledged, begun_anew, begun_at, moments, with_line}

pub held_piles : (more hs : List Held) (k : ℕ) (held : Held) → HeldAt hs k held → HeldAt (more ++ hs) k held
held_piles [] hs k held h = h
held_piles (x ∷ more) hs k held h = inr (held_piles more hs k held h)

pub opened_piles : (old new : Told) (k : ℕ) (h : History) → Piles old new → OpenedAt old k h → OpenedAt new k h
opened_piles old new k h piles o = (o.0, subst (λ hs. HeldAt hs k o.0) (sym piles.1) (held_piles piles.0 (moments old) k o.0 o.1), o.2, o.3)

pub moment_piles : (old new : Told) → Piles old new → moment old ≤ moment new
moment_piles old new piles =
    let long : length (moments new) ≡ length piles.0 + length (moments old) = ap length piles.1 ∙ length-append piles.0 (moments old) in
    let a : length (moments new) ≡ moment new + 1 = omega arith in
    let b : length (moments old) ≡ moment old + 1 = omega arith in
    omega (arith, long, a, b)

moments_pile : (old new : Told) (h : History) (from : ℕ) (ts : List ℕ) → Piles old new → HasMoments old h from ts → HasMoments new h from ts
moments_pile old new h from [] piles all = tt
moments_pile old new h from (t ∷ ts) piles all =
    let later : moment old ≤ moment new = moment_piles old new piles in
    (all.0, all.1, omega (arith, all.2, later), all.3, opened_piles old new all.0 (upto h t) piles all.4, moments_pile old new h all.0 ts piles all.5)

moments_grow : (told : Told) (p h : History) (from : ℕ) (ts : List ℕ) → IsPrefixOf p h → IsHistory h → HasMoments told p from ts → HasMoments told h from ts
moments_grow told p h from [] grows is all = tt
moments_grow told p h from (t ∷ ts) grows is all =
    let longer : last p ≤ last h = last_grows grows is in
    (all.0, all.1, all.2, omega (arith, all.3, longer), subst (OpenedAt told all.0) (sym (upto_stays t grows is all.3)) all.4, moments_grow told p h all.0 ts grows is all.5)

-- a commit: the disk is synced then, and opens to the history as it is
moments_commit : (told : Told) (h : History) (from : ℕ) (ts : List ℕ) → IsHistory h → from ≤ moment told → IsSynced told → OpensToHistory (content told) h → HasMoments told h from ts → HasMoments told h from (ts ++ last h ∷ [])
moments_commit told h from [] is le is_synced opens all =
    (moment told, le, omega arith, omega arith, (told.now, inl (refl, refl), is_synced, subst (OpensToHistory (content told)) (sym (upto_prefix (prefix_refl h) is)) opens), tt)
moments_commit told h from (t ∷ ts) is le is_synced opens all = (all.0, all.1, all.2, all.3, all.4, moments_commit told h all.0 ts is all.2 is_synced opens all.5)

acknowledged-append : (ts : List ℕ) (xs ys : List Line) → acknowledged ts (xs ++ ys) ≡ acknowledged (acknowledged ts xs) ys
acknowledged-append ts [] ys = refl
acknowledged-append ts (x ∷ xs) ys = acknowledged-append (with_line ts x) xs ys

begun-append : (r : Beginning) (xs ys : List Line) → begun_at r (xs ++ ys) ≡ begun_at (begun_at r xs) ys
begun-append r [] ys = refl
begun-append r (x ∷ xs) ys = begun-append (begun_anew r x) xs ys

begins_piles : (old new : Told) (given : List ℕ) (p h : History) (r : Beginning) → Piles old new → IsPrefixOf p h → IsHistory h → BeginsWith old given p r → BeginsWith new given h r
begins_piles old new given p h As_given piles grows is b = subst (λ hs. HeldAt hs 0 (record { now = given; before = [] })) (sym piles.1) (held_piles piles.0 (moments old) 0 (record { now = given; before = [] }) b)
begins_piles old new given p h (At_restart t) piles grows is b =
    let longer : last p ≤ last h = last_grows grows is in
    (omega (arith, b.0, longer), opened_piles old new 0 (upto h t) piles (subst (OpenedAt old 0) (sym (upto_stays t grows is b.0)) b.1))
begins_piles old new given p h At_pack piles grows is b = tt

-- lines that neither acknowledge a commit nor tell of a restart or a pack
abbrev pub IsQuiet : List Line → Type 0
IsQuiet lines = ((ts : List ℕ) → acknowledged ts lines ≡ ts) × ((r : Beginning) → begun_at r lines ≡ r)

-- a step, and any item, whose lines are quiet
pub keeps_on : (old new : Told) (given : List ℕ) (p h : History) (lines more : List Line) → Acknowledges old given p lines → Piles old new → IsPrefixOf p h → IsHistory h → IsQuiet more → Acknowledges new given h (lines ++ more)
keeps_on old new given p h lines more all piles grows is quiet = record {
  commits = subst (HasMoments new h 0) (sym (acknowledged-append [] lines more ∙ quiet.0 (acknowledged [] lines))) (moments_pile old new h 0 (acknowledged [] lines) piles (moments_grow old p h 0 (acknowledged [] lines) grows is all.commits));
  first = subst (BeginsWith new given h) (sym (begun-append As_given lines more ∙ quiet.1 (begun_at As_given lines))) (begins_piles old new given p h (begun_at As_given lines) piles grows is all.first);
}

-- a commit, whose finish left the disk synced and opening to the history with its transaction
pub keeps_commit : (old new : Told) (given : List ℕ) (p h : History) (lines rest : List Line) (w t : ℕ) (bytes : List ℕ) → Acknowledges old given p lines → Piles old new → IsPrefixOf p h → IsHistory h → IsQuiet rest → t ≡ last h → IsSynced new → OpensToHistory (content new) h
    → Acknowledges new given h (lines ++ Line.ReplyCommit w t bytes ∷ rest)
keeps_commit old new given p h lines rest w t bytes all piles grows is quiet at is_synced opens =
    let before : HasMoments new h 0 (acknowledged [] lines) = moments_pile old new h 0 (acknowledged [] lines) piles (moments_grow old p h 0 (acknowledged [] lines) grows is all.commits) in
    let with_it : HasMoments new h 0 (acknowledged [] lines ++ t ∷ []) = subst (λ k. HasMoments new h 0 (acknowledged [] lines ++ k ∷ [])) (sym at) (moments_commit new h 0 (acknowledged [] lines) is (omega arith) is_synced opens before) in
    record {
      commits = subst (HasMoments new h 0) (sym (acknowledged-append [] lines (Line.ReplyCommit w t bytes ∷ rest) ∙ quiet.0 (acknowledged [] lines ++ t ∷ []))) with_it;
      first = subst (BeginsWith new given h) (sym (begun-append As_given lines (Line.ReplyCommit w t bytes ∷ rest) ∙ quiet.1 (begun_at As_given lines))) (begins_piles old new given p h (begun_at As_given lines) piles grows is all.first);
    }

-- A restart: the disk is the one that the last stop left, whose one image opens to the history that the opening found.
pub keeps_restart : (image given : List ℕ) (new : Told) (h : History) (lines stopped : List Line) (n : ℕ) → IsHistory h → OpensToHistory image h → Piles (synced image) new → Acknowledges new given h (lines ++ (stopped ++ Line.Restart (last h) n ∷ []))
keeps_restart image given new h lines stopped n is opens piles =
    let at_first : OpenedAt (synced image) 0 h = (record { now = image; before = [] }, inl (refl, refl), refl, opens) in
    let whole : OpenedAt new 0 (upto h (last h)) = subst (OpenedAt new 0) (sym (upto_prefix (prefix_refl h) is)) (opened_piles (synced image) new 0 h piles at_first) in
    record {
      commits = subst (HasMoments new h 0) (sym (acknowledged-append [] lines (stopped ++ Line.Restart (last h) n ∷ []) ∙ acknowledged-append (acknowledged [] lines) stopped (Line.Restart (last h) n ∷ []))) tt;
      first = subst (BeginsWith new given h) (sym (begun-append As_given lines (stopped ++ Line.Restart (last h) n ∷ []) ∙ begun-append (begun_at As_given lines) stopped (Line.Restart (last h) n ∷ []))) (omega arith, whole);
    }

-- A pack: the disk is another one, of which nothing is said yet.
pub keeps_packed : (given : List ℕ) (new : Told) (h : History) (lines printed : List Line) (t n : ℕ) → Acknowledges new given h (lines ++ (printed ++ Line.Packed t n ∷ []))
keeps_packed given new h lines printed t n = record {
  commits = subst (HasMoments new h 0) (sym (acknowledged-append [] lines (printed ++ Line.Packed t n ∷ []) ∙ acknowledged-append (acknowledged [] lines) printed (Line.Packed t n ∷ []))) tt;
  first = subst (BeginsWith new given h) (sym (begun-append As_given lines (printed ++ Line.Packed t n ∷ []) ∙ begun-append (begun_at As_given lines) printed (Line.Packed t n ∷ []))) tt;
}
