-- What a stop at any moment of an opening may leave.
use Rattle.std.proofs.Common.{◌≡◌, ℕ, ◌+◌, ◌<◌, ◌≤◌, Bool, true, false, ◌||◌, List, ◌++◌, length, get_or, set, take, drop, Option, Some, None, IfSome, refl, sym, ap, subst, ◌∙◌, arith, inl, inr}
use Rattle.std.specs.Prelude.{◌⊎◌, ◌==◌, nat_lt}
use Rattle.std.proofs.lemmas.Bool.{cases_lt, lt-ltb}
use Rattle.std.proofs.lemmas.List.{drop_at, get_or-set_same, length-append, length-set, take_at}
use Rattle.zbase.specs.History.{History}
use Rattle.zdisk.specs.Calls.{Follows, changed}
use Rattle.zdisk.specs.Crashes.{IsSynced, IsTorn}
use Rattle.zdisk.specs.Disk.{Held, Told, content}
use Rattle.zdisk.specs.Images.{IsMixture}
use Rattle.zdisk.specs.OneChange.{before_or_after, put_byte}
use Rattle.fs_record.specs.File.{Front, IsFile}
use Rattle.fs_record.specs.Opening.{Cut, is_end, length_in, status_in}
use Rattle.fs_record.specs.OpeningLaws.{one_cut}
use Rattle.fs_store.specs.declared.opening.OpenRefusal.{OpenRefusal}
use Rattle.fs_store.specs.Moments.{EachOpensTo, KeepsGiven, OpensTo}
use Rattle.fs_store.specs.Opened.{CutOffFailed, CutsOff, LeavesDisk, Readies, StaysTorn, Synced, Tidies, TornStayed, waiting_from}
use Rattle.fs_store.specs.Stores.{most_length}
use Rattle.fs_store.proofs.Counted.{set_behind}
use Rattle.fs_store.proofs.Images.{opens_before, opens_rest, own_image, torn_is_end, torn_long, torn_off}
use Rattle.fs_store.proofs.Tellings.{moved, on_both, on_told}
use Rattle.fs_store.proofs.MomentSteps.{Keeps, MayChange, begun, brought, not_brought, synced_step, unsynced_step}

-- the bytes open to the history, whose file ends there
abbrev Says : History → ℕ → List ℕ → Type 0
Says h e image = OpensTo image h e

-- ---- rests

first_of_four : (a b c d : Bool) → a ≡ true → (a || b || c || d) ≡ true
first_of_four true b c d e = refl
first_of_four false b c d e = absurd cc

pub short_is_end : (rest : List ℕ) → length rest < 23 → is_end rest ≡ true
unfolding is_end
short_is_end rest lt = first_of_four (nat_lt (length rest) 23) (status_in rest == 99) (status_in rest == 0) (nat_lt (length rest) (length_in rest + 8)) (lt-ltb (length rest) 23 lt)

pub still_status : (rest left : List ℕ) → (status_in rest ≡ 99) ⊎ (status_in rest ≡ 0) → (get_or left 16 0 ≡ get_or rest 16 0) ⊎ (get_or left 16 0 ≡ 0) → (get_or left 16 0 ≡ 99) ⊎ (get_or left 16 0 ≡ 0)
still_status rest left (inl c) (inl same) = inl (same ∙ c)
still_status rest left (inr c) (inl same) = inr (same ∙ c)
still_status rest left status (inr lost) = inr lost

pub still_short : (left rest : List ℕ) → length rest < 23 → (length left ≡ 0) ⊎ (length left ≡ length rest) → length left < 23
still_short left rest lt (inl e) = omega (arith, e)
still_short left rest lt (inr e) = omega (arith, e, lt)

still_ends : (rest left : List ℕ) → StaysTorn rest → (length left ≡ 0) ⊎ (length left ≡ length rest) → (get_or left 16 0 ≡ get_or rest 16 0) ⊎ (get_or left 16 0 ≡ 0) → is_end left ≡ true
still_ends rest left (inl short) long byte = short_is_end left (still_short left rest short long)
still_ends rest left (inr status) long byte = torn_is_end left (still_status rest left status byte)

still_torn : (file rest image : List ℕ) (front : Front) (end : ℕ) → IsFile file front → StaysTorn rest → length file ≡ end → end + length rest ≤ most_length → IsTorn file rest image → OpensTo image front.history end
still_torn file rest image front end is stays at fits t =
    opens_rest file t.rest image front end is t.behind (still_ends rest t.rest stays t.long (t.each 16)) at (omega (arith, torn_long file rest image t, at, fits))

-- ---- the file before it is cut

-- the bytes open to the history, up to there
record IsOpened (h : History) (e end : ℕ) (t : Told) : Type 0 where
  synced : IsSynced t
  fits : length (content t) ≤ most_length
  ends : end ≡ e
  front : Front
  cut : Cut (content t) front end
  is : front.history ≡ h

-- a file of the history, and behind it a rest that stays torn
record IsReady (h : History) (e end : ℕ) (t : Told) : Type 0 where
  synced : IsSynced t
  fits : length (content t) ≤ most_length
  ends : end ≡ e
  file : List ℕ
  rest : List ℕ
  front : Front
  is_file : IsFile file front
  joined : content t ≡ file ++ rest
  at : end ≡ length file
  stays : StaysTorn rest
  is : front.history ≡ h

ready_fits : (h : History) (e end : ℕ) (t : Told) (r : IsReady h e end t) → e + length r.rest ≤ most_length
ready_fits h e end t r = omega (arith, r.fits, r.ends, r.at, ap length r.joined, length-append r.file r.rest)

cut_change : (h : History) (e end : ℕ) (t : Told) → IsReady h e end t → MayChange (Says h e) (take end) t
cut_change h e end t r =
    let file : take end (content t) ≡ r.file = ap (take end) r.joined ∙ take_at r.file r.rest end (sym r.at) in (
      r.synced,
      λ image m. subst (λ (g : History). OpensTo image g e) r.is (still_torn r.file r.rest image r.front e r.is_file r.stays (sym r.at ∙ r.ends) (ready_fits h e end t r)
          (torn_off r.file r.rest image (subst (λ (b : List ℕ). IsMixture b r.file image) r.joined (subst (λ (b : List ℕ). IsMixture (content t) b image) file m)))),
    )

rest_of : (end : ℕ) (t : Told) (front : Front) (cut : Cut (content t) front end) → drop end (content t) ≡ cut.0
rest_of end t front cut = ap (drop end) cut.1.joined ∙ drop_at cut.1.file cut.0 end (sym cut.1.at)

as_it_is : (h : History) (e end : ℕ) (t : Told) → IsOpened h e end t → StaysTorn (drop end (content t)) → IsReady h e end t
as_it_is h e end t o stays = record {
  synced = o.synced;
  fits = o.fits;
  ends = o.ends;
  file = o.cut.1.file;
  rest = o.cut.0;
  front = o.front;
  is_file = o.cut.1.is_file;
  joined = o.cut.1.joined;
  at = o.cut.1.at;
  stays = subst StaysTorn (rest_of end t o.front o.cut) stays;
  is = o.is;
}

long_rest : (end : ℕ) (t : Told) (front : Front) (cut : Cut (content t) front end) → (StaysTorn (drop end (content t)) → ⊥) → 23 ≤ length cut.0
long_rest end t front cut may = elim (cases_lt (length cut.0) 23) [
  | inl lt ↦ absurd (may (subst StaysTorn (sym (rest_of end t front cut)) (inl lt)))
  | inr le ↦ le
]

within : (end : ℕ) (t : Told) (front : Front) (cut : Cut (content t) front end) → 23 ≤ length cut.0 → end + 16 < length (content t)
within end t front cut long = omega (arith, long, cut.1.at, ap length cut.1.joined, length-append cut.1.file cut.0)

-- the file and the rest of status c
marked : (end : ℕ) (t : Told) (front : Front) (cut : Cut (content t) front end) → 23 ≤ length cut.0 → set (content t) (end + 16) 99 ≡ cut.1.file ++ set cut.0 16 99
marked end t front cut long =
    ap (λ (b : List ℕ). set b (end + 16) 99) cut.1.joined
    ∙ ap (λ (n : ℕ). set (cut.1.file ++ cut.0) (n + 16) 99) cut.1.at
    ∙ set_behind cut.1.file cut.0 16 99

status_marked : (rest : List ℕ) → 23 ≤ length rest → get_or (set rest 16 99) 16 0 ≡ 99
status_marked rest long = get_or-set_same rest 16 99 0 (omega (arith, long))

-- a byte is set, and none added
marked_fits : (h : History) (e end : ℕ) (t : Told) (o : IsOpened h e end t) → 23 ≤ length o.cut.0 → length (o.cut.1.file ++ set o.cut.0 16 99) ≤ most_length
marked_fits h e end t o long =
    omega (arith, o.fits, length-append o.cut.1.file (set o.cut.0 16 99), length-append o.cut.1.file o.cut.0, ap length o.cut.1.joined, length-set o.cut.0 16 99)

set_change : (h : History) (e end : ℕ) (t : Told) → IsOpened h e end t → (StaysTorn (drop end (content t)) → ⊥) → MayChange (Says h e) (waiting_from end) t
set_change h e end t o may =
    let long = long_rest end t o.front o.cut may in
    let in_file = within end t o.front o.cut long in
    let given : OpensTo (content t) o.front.history e = record { fits = o.fits; front = o.front; cut = subst (Cut (content t) o.front) o.ends o.cut; is = refl } in
    let set_too : OpensTo (set (content t) (end + 16) 99) o.front.history e = subst (λ (b : List ℕ). OpensTo b o.front.history e) (sym (marked end t o.front o.cut long))
    (opens_before o.cut.1.file (set o.cut.0 16 99) o.front e o.cut.1.is_file (torn_is_end (set o.cut.0 16 99) (inl (status_marked o.cut.0 long))) (sym o.cut.1.at ∙ o.ends) (marked_fits h e end t o long)) in (
      o.synced,
      λ image m. subst (λ (g : History). OpensTo image g e) o.is (elim (before_or_after (content t) image (end + 16) 99 in_file (subst (λ (b : List ℕ). IsMixture (content t) b image) (put_byte (content t) (end + 16) 99 in_file) m)) [
        | inl same ↦ subst (λ (b : List ℕ). OpensTo b o.front.history e) (sym same) given
        | inr changed ↦ subst (λ (b : List ℕ). OpensTo b o.front.history e) (sym changed) set_too
      ]),
    )

-- once it has the status c
set_ready : (h : History) (e end : ℕ) (t v : Told) → IsOpened h e end t → (StaysTorn (drop end (content t)) → ⊥) → IsSynced v → content v ≡ waiting_from end (content t) → IsReady h e end v
set_ready h e end t v o may synced is =
    let long = long_rest end t o.front o.cut may in
    let joined : content v ≡ o.cut.1.file ++ set o.cut.0 16 99 = is ∙ put_byte (content t) (end + 16) 99 (within end t o.front o.cut long) ∙ marked end t o.front o.cut long in
    record {
      synced = synced;
      fits = subst (λ (b : List ℕ). length b ≤ most_length) (sym joined) (marked_fits h e end t o long);
      ends = o.ends;
      file = o.cut.1.file;
      rest = set o.cut.0 16 99;
      front = o.front;
      is_file = o.cut.1.is_file;
      joined = joined;
      at = o.cut.1.at;
      stays = inr (inl (status_marked o.cut.0 long));
      is = o.is;
    }

-- ---- an opening

brings_to : (f : List ℕ → List ℕ) (a m b : Option Told) (P Q : Told → Type 0) → ((s t : Told) → P s → IsSynced t → content t ≡ f (content s) → Q t) → IfSome a P → Follows a m (λ held next. next ≡ changed (f held.now) held) → Follows m b Synced → IfSome b Q
brings_to f a m None P Q to p change synced = tt
brings_to f a None (Some u) P Q to p change synced = absurd synced
brings_to f None (Some t) (Some u) P Q to p change synced = absurd change
brings_to f (Some s) (Some t) (Some u) P Q to p change synced =
    to s u p (ap (λ (h : Held). h.before) synced.0) (ap (λ (h : Held). h.now) synced.0 ∙ ap (λ (h : Held). h.now) change.0)

-- it opens so, and its rest may not stay torn
abbrev IsUnready : History → ℕ → ℕ → Told → Type 0
IsUnready h e end t = IsOpened h e end t × (StaysTorn (drop end (content t)) → ⊥)

readied : (h : History) (e end : ℕ) (o first m : Option Told) → Keeps (Says h e) o first → IfSome first (IsOpened h e end) → Readies first m end → Keeps (Says h e) o m × IfSome m (IsReady h e end)
readied h e end o first m all opened (inl s) =
    (subst (Keeps (Says h e) o) (sym s.0) all, moved first m (IsReady h e end) s.0 (on_both first (IsOpened h e end) (λ t. StaysTorn (drop end (content t))) (IsReady h e end) (as_it_is h e end) opened s.1))
readied h e end o first m all opened (inr s) =
    let unready = on_both first (IsOpened h e end) (λ t. StaysTorn (drop end (content t)) → ⊥) (IsUnready h e end) (λ t x y. (x, y)) opened s.0 in (
      brought (Says h e) (waiting_from end) o first m all (on_told first (IsUnready h e end) (MayChange (Says h e) (waiting_from end)) (λ t u. set_change h e end t u.0 u.1) unready) s.1,
      brings_to (waiting_from end) first s.1.between m (IsUnready h e end) (IsReady h e end) (λ t v u. set_ready h e end t v u.0 u.1) unready s.1.change s.1.synced,
    )

cut_keeps : (h : History) (e end : ℕ) (o first n : Option Told) → Keeps (Says h e) o first → IfSome first (IsOpened h e end) → CutsOff first n end → Keeps (Says h e) o n
cut_keeps h e end o first n all opened c =
    let r = readied h e end o first c.readied all opened c.ready in
    brought (Says h e) (take end) o c.readied n r.0 (on_told c.readied (IsReady h e end) (MayChange (Says h e) (take end)) (cut_change h e end) r.1) c.cut

failed_keeps : (h : History) (e end : ℕ) (o first n : Option Told) → Keeps (Says h e) o first → IfSome first (IsOpened h e end) → CutOffFailed first n end → Keeps (Says h e) o n
failed_keeps h e end o first n all opened (inl same) = subst (Keeps (Says h e) o) (sym same) all
failed_keeps h e end o first n all opened (inr (inl f)) =
    not_brought (Says h e) (waiting_from end) o first n all (on_both first (IsOpened h e end) (λ t. StaysTorn (drop end (content t)) → ⊥) (MayChange (Says h e) (waiting_from end)) (set_change h e end) opened f.0) f.1
failed_keeps h e end o first n all opened (inr (inr c)) =
    let r = readied h e end o first c.readied all opened c.ready in
    not_brought (Says h e) (take end) o c.readied n r.0 (on_told c.readied (IsReady h e end) (MayChange (Says h e) (take end)) (cut_change h e end) r.1) c.failed

opened_first : (h : History) (e end : ℕ) (o first : Option Told) → IfSome o (EachOpensTo h e) → IfSome o (λ t. (front : Front) × Cut (content t) front end) → Follows o first Synced → IfSome first (IsOpened h e end)
opened_first h e end o None each cut synced = tt
opened_first h e end None (Some f) each cut synced = absurd synced
opened_first h e end (Some t) (Some f) each cut synced =
    let given = each (content t) (own_image t.now) in
    record {
      synced = ap (λ (x : Held). x.before) synced.0;
      fits = subst (λ (b : List ℕ). length b ≤ most_length) (sym (ap (λ (x : Held). x.now) synced.0)) given.fits;
      ends = (one_cut (content t) cut.0 given.front end e cut.1 given.cut).1;
      front = cut.0;
      cut = subst (λ (b : List ℕ). Cut b cut.0 end) (sym (ap (λ (x : Held). x.now) synced.0)) cut.1;
      is = ap (λ (f : Front). f.history) (one_cut (content t) cut.0 given.front end e cut.1 given.cut).0 ∙ given.is;
    }

pub tidied_keeps : (o n : Option Told) (end torn : ℕ) → IfSome o (λ t. (front : Front) × Cut (content t) front end) → Tidies o n end torn → KeepsGiven o n
tidied_keeps o n end torn cut tidies h e each = go tidies.then
  where
    first : Keeps (Says h e) o tidies.first
    first = synced_step (Says h e) o o tidies.first (begun (Says h e) o each) tidies.synced

    go : ((torn ≡ 0) × (n ≡ tidies.first)) ⊎ ((0 < torn) × CutsOff tidies.first n end) → Keeps (Says h e) o n
    go (inl s) = subst (Keeps (Says h e) o) (sym s.1) first
    go (inr s) = cut_keeps h e end o tidies.first n first (opened_first h e end o tidies.first each cut tidies.synced) s.1

synced_keeps : (h : History) (e : ℕ) (o n : Option Told) → IfSome o (EachOpensTo h e) → Follows o n Synced → Keeps (Says h e) o n
synced_keeps h e o n each synced = synced_step (Says h e) o o n (begun (Says h e) o each) synced

torn_keeps : (h : History) (e : ℕ) (o n : Option Told) → IfSome o (EachOpensTo h e) → TornStayed o n → Keeps (Says h e) o n
torn_keeps h e o n each t = failed_keeps h e t.end o t.first n (synced_step (Says h e) o o t.first (begun (Says h e) o each) t.synced) (opened_first h e t.end o t.first each t.opens t.synced) t.failed

pub refused_keeps : (o n : Option Told) (refusal : OpenRefusal) → LeavesDisk o n refusal → KeepsGiven o n
refused_keeps o n (OpenRefusal.Damaged kind place) left h e each = synced_keeps h e o n each left
refused_keeps o n OpenRefusal.Disk (inl synced) h e each = synced_keeps h e o n each synced
refused_keeps o n OpenRefusal.Disk (inr (inl any)) h e each = unsynced_step (Says h e) o o n (begun (Says h e) o each) any
refused_keeps o n OpenRefusal.Disk (inr (inr t)) h e each = torn_keeps h e o n each t
refused_keeps o n (OpenRefusal.TooLong n_bytes) left h e each = synced_keeps h e o n each left
refused_keeps o n OpenRefusal.Memory (inl same) h e each = subst (Keeps (Says h e) o) (sym same) (begun (Says h e) o each)
refused_keeps o n OpenRefusal.Memory (inr synced) h e each = synced_keeps h e o n each synced
