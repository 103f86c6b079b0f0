-- A walk that has come to a place, and goes on by what stands there.
use Rattle.std.proofs.Common.{◌≡◌, ℕ, ◌+◌, Bool, true, false, cond, List, [], ◌∷◌, ◌++◌, length, take, drop, ◌<◌, Option, Some, None, IfSome, Result, Ok, Err, IfOk, OnOk, OnErr, refl, sym, ap, subst, ◌∙◌, append_assoc, append-nil, arith, inr}
use Rattle.std.specs.Prelude.{◌==◌, if◌then◌else◌, MatchOption}
use Rattle.std.specs.Option.{ForSome}
use Rattle.std.specs.List.{AllByRecursion, list_all, flat_map}
use Rattle.std.proofs.lemmas.List.{length-append, drop-drop, drop_at}
use Rattle.std.proofs.lemmas.Bool.{eq-eqb, ne_eqb, false≢true}
use Rattle.zbase.specs.History.{History, Transaction}
use Rattle.zbase.specs.Values.{Revision, last}
use Rattle.zbase.specs.declared.ids.Row.{Row}
use Rattle.zdisk.specs.Disk.{Told, content}
use Rattle.fs_record.specs.declared.damage.Damage.{Damage as Kind}
use Rattle.fs_record.specs.declared.damage.Damage.TheVariants.{BadTid, BadPrev, BadBack}
use Rattle.fs_record.specs.Spelling.{Data, Inside, Records, Skipped, Block, data_spelling, block_spelling, inside_spelling, txn_head_of}
use Rattle.fs_record.specs.SpellingLaws.{length-block, long_data, same_records}
use Rattle.fs_record.specs.Fits.{FitsInside, FitsData}
use Rattle.fs_record.specs.File.{Earlier, Front, IsRight, rows, has_body, fault_in, magic, front_of, after, after_in, longer, transaction_of}
use Rattle.fs_record.specs.FileLaws.{file_place}
use Rattle.fs_record.specs.Opening.{SplitsAt, Stands, Damaged}
use Rattle.fs_record.specs.Standing.{IsRevision}
use Rattle.fs_record.specs.StandingLaws.{each_stands}
use Rattle.fs_scan.specs.declared.extent.Extent.{Extent}
use Rattle.fs_scan.specs.declared.wholes.Whole.{Whole}
use Rattle.fs_scan.specs.Extent.{block_in}
use Rattle.fs_scan.specs.Followed.{MeansWhole, StandsNone}
use Rattle.fs_scan.specs.Marked.{AreRecords}
use Rattle.fs_scan.specs.Present.{AllStand}
use Rattle.fs_scan.specs.Taking.{Takes}
use Rattle.fs_scan.specs.Ahead.{IsAhead, StandIn}
use Rattle.fs_scan.specs.Keeping.{KeepsOn, rows_on}
use Rattle.fs_scan.specs.Stepped.{StepsOn}
use Rattle.fs_scan.specs.Walked.{Course, FrontAt, Goes, IsFresh, IsOn, Passes, Walks, place_on, reading, standing}
use Rattle.fs_scan.specs.Wholes.{transaction_in}
use Rattle.fs_scan.proofs.Behind.{rows_then, id_then}
use Rattle.fs_scan.proofs.OneByOne.{tail_fits}
use Rattle.fs_scan.proofs.Stepping.{head_of_block}
use Rattle.fs_scan.proofs.KeptPlaces.{none_said}
use Rattle.fs_scan.specs.declared.step.Step.TheVariants as steps

-- ---- a right block more

-- the front up to at, with what a walk keeps of it, and its history
pub record Reaches (bytes : List ℕ) (at id : ℕ) (records : List Row) (h : History) : Type 0 where
  pub front : Front
  pub splits : SplitsAt bytes at front (drop at bytes)
  pub stood : rows front.records ≡ records
  pub ids : last front.history ≡ id
  pub history : front.history ≡ h

module _ (bytes : List ℕ) (at id : ℕ) (old new : List Row) (h : History) (e : Extent) (r : Reaches bytes at id old h) (k : Takes (drop at bytes) at id old new e) where
  next_block : Block
  next_block = block_in e (drop at bytes) k.inside

  front_place : r.front.place ≡ at
  front_place = file_place r.splits.file r.front r.splits.is_file ∙ sym r.splits.at

  pub next_right : IsRight r.front (block_in e (drop at bytes) k.inside)
  next_right = record { fits = k.stands.fits; right = rw (front_place, r.ids, r.stood) k.right }

  pub next_splits : SplitsAt bytes (at + (e.long + 8)) (after r.front (block_in e (drop at bytes) k.inside)) (drop (at + (e.long + 8)) bytes)
  unfolding next_block
  next_splits =
      let s = r.splits in
      record {
        file = s.file ++ block_spelling next_block;
        is_file = record {
          blocks = next_block ∷ s.is_file.blocks;
          right = (subst (λ (f : Front). IsRight f next_block) s.is_file.said next_right, s.is_file.right);
          spelled = ap (λ (x : List ℕ). x ++ block_spelling next_block) s.is_file.spelled;
          said = ap (λ (f : Front). after f next_block) s.is_file.said;
        };
        joined = s.joined ∙ ap (λ (x : List ℕ). s.file ++ x) (k.stands.spelled ∙ ap (λ (x : List ℕ). block_spelling next_block ++ x) (drop-drop (e.long + 8) at bytes)) ∙ sym (append_assoc s.file (block_spelling next_block) (drop (at + (e.long + 8)) bytes));
        at = omega (arith, s.at, k.size, length-block next_block, length-append s.file (block_spelling next_block));
      }

  pub next_stood : rows (after r.front (block_in e (drop at bytes) k.inside)).records ≡ new
  next_stood = rows_then r.front (block_in e (drop at bytes) k.inside) k.inside ∙ rw (r.stood, front_place) (sym k.rows)

  pub next_ids : last (after r.front (block_in e (drop at bytes) k.inside)).history ≡ (if e.head.status == 117 then id else e.head.tid)
  next_ids = id_then r.front (block_in e (drop at bytes) k.inside) k.inside k.stands.fits.inside ∙ ap (λ (n : ℕ). if e.head.status == 117 then n else e.head.tid) r.ids

-- ---- one undone in the old manner

skipped_history : (front : Front) (b : Block) (i : Inside) → FitsInside b.status i → b.status ≡ 117 → (after_in front b i).history ≡ front.history
unfolding after_in
skipped_history front b (Skipped bytes) fits u = refl
skipped_history front b (Records ds) fits u = absurd (false≢true (sym fits.0 ∙ eq-eqb b.status 117 u))

pub skips : (bytes : List ℕ) (at id id2 : ℕ) (old new : List Row) (h : History) (e : Extent) → Reaches bytes at id old h → Takes (drop at bytes) at id old new e → e.head.status ≡ 117 → id2 ≡ (if e.head.status == 117 then id else e.head.tid) → Reaches bytes (at + (e.long + 8)) id2 new h
skips bytes at id id2 old new h e r k u i = record {
  front = after r.front (block_in e (drop at bytes) k.inside);
  splits = next_splits bytes at id old new h e r k;
  stood = next_stood bytes at id old new h e r k;
  ids = next_ids bytes at id old new h e r k ∙ sym i;
  history = skipped_history r.front (block_in e (drop at bytes) k.inside) k.inside k.stands.fits.inside u ∙ r.history;
}

-- ---- one that counts

none_more : (more : List Data) → [] ≡ flat_map data_spelling more → AllByRecursion FitsData more → more ≡ []
none_more [] e fits = refl
none_more (d ∷ more) e fits = absurd (omega (arith, ap length e, length-append (data_spelling d) (flat_map data_spelling more), long_data d fits.0.body))

pub same_ds : (area : List ℕ) (ds es : List Data) → AreRecords area ds → AreRecords area es → es ≡ ds
same_ds area ds es a b =
    let s = same_records ds es [] a.fits b.fits (append-nil (flat_map data_spelling ds) ∙ sym a.spelled ∙ b.spelled) in
    s.1 ∙ ap (λ (more : List Data). ds ++ more) (none_more s.0 s.2 (tail_fits ds s.0 (subst (AllByRecursion FitsData) s.1 b.fits))) ∙ append-nil ds

inside_is : (status : ℕ) (area : List ℕ) (i : Inside) (ds : List Data) → FitsInside status i → area ≡ inside_spelling i → AreRecords area ds → (status ≡ 117 → ⊥) → i ≡ Records ds
inside_is status area (Records es) ds fits e are counted = ap Records (same_ds area ds es are (record { fits = fits.1; spelled = e }))
inside_is status area (Skipped bytes) ds fits e are counted = absurd (false≢true (sym (ne_eqb status 117 counted) ∙ fits))

passed : (t : Bool) (o : Option Kind) (d : Kind) → cond t o (Some d) ≡ None → (t ≡ true) × (o ≡ None)
passed true o d e = (refl, e)
passed false o d e = absurd cc

pub right_bodies : (place t : ℕ) (rs : List Row) (b : Block) (ds : List Data) → fault_in place t rs b (Records ds) ≡ None → list_all (has_body rs) ds ≡ true
unfolding fault_in
right_bodies place t rs b ds e = (passed _ _ BadBack (passed _ _ BadPrev (passed _ _ BadTid e).1).1).0

records_history : (front : Front) (b : Block) (ds : List Data) → (after_in front b (Records ds)).history ≡ longer front.history b.status (transaction_of front.records b ds)
unfolding after_in
records_history front b ds = refl

all_stand : (bytes : List ℕ) (at : ℕ) (front : Front) (rest : List ℕ) → SplitsAt bytes at front rest → AllStand bytes front.records
all_stand bytes at front rest s oid place is = subst (λ (x : List ℕ). (r : Revision) × IsRevision x front.records oid place r) (sym s.joined) (each_stands s.file rest front s.is_file oid place is)

-- what the whole says is what the block says
says_block : (front : Front) (h : History) (b : Block) (i : Inside) (ds : List Data) (status : ℕ) (x : Transaction) → i ≡ Records ds → front.history ≡ h → b.status ≡ status → x ≡ transaction_of front.records b ds → (after_in front b i).history ≡ longer h status x
says_block front h b i ds status x is same st said = ap (λ (j : Inside). (after_in front b j).history) is ∙ records_history front b ds ∙ rw (same, st) (ap (longer h status) (sym said))

-- ---- a walk under way

-- the walk stands at the place, behind undone transactions alone since it began
pub record Underway (bytes : List ℕ) (old now : Course) (at : ℕ) : Type 0 where
  pub on : IsOn bytes old
  pub here : now.place ≡ Some at
  pub reaches : Reaches bytes at now.last (rows_on bytes now.kept.places) on.front.history
  pub keeps : KeepsOn bytes now.kept
  pub ahead : StandIn bytes now.ahead

split_drops : (bytes : List ℕ) (at : ℕ) (front : Front) (rest : List ℕ) → SplitsAt bytes at front rest → rest ≡ drop at bytes
split_drops bytes at front rest s = sym (ap (drop at) s.joined ∙ drop_at s.file rest at (sym s.at))

entered_by : (bytes : List ℕ) (place : Option ℕ) (front : Front) → FrontAt bytes place front → (place ≡ None → bytes ≡ magic ++ drop 4 bytes) → SplitsAt bytes (place_on place) front (drop (place_on place) bytes)
entered_by bytes None front is begins = record { file = magic; is_file = record { blocks = []; right = tt; spelled = refl; said = is }; joined = begins refl; at = refl }
entered_by bytes (Some place) front is begins = subst (SplitsAt bytes place front) (split_drops bytes place front is.0 is.1) is.1

pub entered : (disk : Option Told) (old now : Course) (at : ℕ) → ForSome disk (λ told. IsOn (content told) old) → at ≡ place_on old.place → now ≡ standing at now.ahead old → IsAhead disk now.ahead
    → (old.place ≡ None → IfSome disk (λ told. content told ≡ magic ++ drop 4 (content told))) → IfSome disk (λ told. Underway (content told) old now at)
entered None old now at on is stands ahead begins = tt
entered (Some told) old now at on is stands ahead begins =
    let o = on told refl in
    let bytes = content told in
    record {
      on = o;
      here = ap (λ (c : Course). c.place) stands;
      reaches = record {
        front = o.front;
        splits = subst (λ (n : ℕ). SplitsAt bytes n o.front (drop n bytes)) (sym is) (entered_by bytes old.place o.front o.stands begins);
        stood = o.records ∙ sym (ap (λ (c : Course). rows_on bytes c.kept.places) stands);
        ids = o.last ∙ sym (ap (λ (c : Course). c.last) stands);
        history = refl;
      };
      keeps = subst (KeepsOn bytes) (sym (ap (λ (c : Course). c.kept) stands)) o.keeps;
      ahead = ahead;
    }

-- the condition of a walk, where other bytes were read ahead
pub read_on : (disk : Option Told) (old now : Course) → ForSome disk (λ told. IsOn (content told) old) → now ≡ reading now.ahead old → IsAhead disk now.ahead → IfSome disk (λ told. IsOn (content told) now)
read_on None old now on is ahead = tt
read_on (Some told) old now on is ahead =
    let o = on told refl in
    record {
      front = o.front;
      stands = subst (λ (p : Option ℕ). FrontAt (content told) p o.front) (sym (ap (λ (c : Course). c.place) is)) o.stands;
      records = o.records ∙ sym (ap (λ (c : Course). rows_on (content told) c.kept.places) is);
      last = o.last ∙ sym (ap (λ (c : Course). c.last) is);
      keeps = subst (KeepsOn (content told)) (sym (ap (λ (c : Course). c.kept) is)) o.keeps;
      ahead = ahead;
    }

-- the condition of a walk holds under way
is_on : (bytes : List ℕ) (now : Course) (at : ℕ) (h : History) → now.place ≡ Some at → Reaches bytes at now.last (rows_on bytes now.kept.places) h → KeepsOn bytes now.kept → StandIn bytes now.ahead → IsOn bytes now
is_on bytes now at h here r keeps ahead = record {
  front = r.front;
  stands = subst (λ (p : Option ℕ). FrontAt bytes p r.front) (sym here) (drop at bytes, r.splits);
  records = r.stood;
  last = r.ids;
  keeps = keeps;
  ahead = ahead;
}

pub fresh_on : (bytes : List ℕ) (now : Course) → IsFresh now → IsOn bytes now
fresh_on bytes now f =
    let none : rows_on bytes now.kept.places ≡ [] = ap (rows_on bytes) f.kept.places in
    record {
      front = front_of [];
      stands = subst (λ (p : Option ℕ). FrontAt bytes p (front_of [])) (sym f.place) refl;
      records = sym none;
      last = sym f.last;
      keeps = none_said bytes now.kept f.kept;
      ahead = subst (λ (bs : List ℕ). bs ≡ take (length bs) (drop now.ahead.from bytes)) (sym f.ahead) refl;
    }

pub anew : (disk : Option Told) (now : Course) → IsFresh now → IfSome disk (λ told. IsOn (content told) now)
anew None now f = tt
anew (Some told) now f = fresh_on (content told) now f

pub keeps_on : (disk : Option Told) (old now : Course) (at : ℕ) → IfSome disk (λ told. Underway (content told) old now at) → IfSome disk (λ told. KeepsOn (content told) now.kept)
keeps_on None old now at u = tt
keeps_on (Some told) old now at u = u.keeps

pub stands_ahead : (disk : Option Told) (old now : Course) (at : ℕ) → IfSome disk (λ told. Underway (content told) old now at) → IsAhead disk now.ahead
stands_ahead None old now at u = tt
stands_ahead (Some told) old now at u = u.ahead

pub on_ahead : (disk : Option Told) (old : Course) → ForSome disk (λ told. IsOn (content told) old) → IsAhead disk old.ahead
on_ahead None old on = tt
on_ahead (Some told) old on = (on told refl).ahead

-- ---- what a step answers

-- records of a transaction that isn't undone
records_of : (status : ℕ) (i : Inside) → FitsInside status i → (status ≡ 117 → ⊥) → (ds : List Data) × (i ≡ Records ds)
records_of status (Records ds) fits counted = (ds, refl)
records_of status (Skipped bytes) fits counted = absurd (false≢true (sym (ne_eqb status 117 counted) ∙ fits))

module _ (bytes : List ℕ) (len : ℕ) (old now new : Course) (at : ℕ) (e : Extent) (u : Underway bytes old now at) (says : StepsOn bytes at now.last now.kept new.kept (steps.Right e)) (goes : Goes len at now new (steps.Right e)) (ahead : StandIn bytes new.ahead) where
  taken : Takes (drop at bytes) at now.last (rows_on bytes now.kept.places) (rows_on bytes new.kept.places) e
  taken = says.0.1

  new_place : new.place ≡ Some (at + (e.long + 8))
  new_place = ap (λ (c : Course). c.place) goes.there

  new_last : new.last ≡ (if e.head.status == 117 then now.last else e.head.tid)
  new_last = ap (λ (c : Course). c.last) goes.there

  step_on : IsOn bytes new
  step_on = record {
    front = after u.reaches.front (block_in e (drop at bytes) taken.inside);
    stands = subst (λ (p : Option ℕ). FrontAt bytes p (after u.reaches.front (block_in e (drop at bytes) taken.inside))) (sym new_place) (drop (at + (e.long + 8)) bytes, next_splits bytes at now.last _ _ u.on.front.history e u.reaches taken);
    records = next_stood bytes at now.last _ _ u.on.front.history e u.reaches taken;
    last = next_ids bytes at now.last _ _ u.on.front.history e u.reaches taken ∙ sym new_last;
    keeps = says.1;
    ahead = ahead;
  }

  step_skips : (next : ℕ) → next ≡ at + (e.long + 8) → e.head.status ≡ 117 → Underway bytes old new next
  step_skips next is undone = record {
    on = u.on;
    here = new_place ∙ ap Some (sym is);
    reaches = subst (λ (n : ℕ). Reaches bytes n new.last (rows_on bytes new.kept.places) u.on.front.history) (sym is) (skips bytes at now.last new.last _ _ u.on.front.history e u.reaches taken undone new_last);
    keeps = says.1;
    ahead = ahead;
  }

  -- what is known of the transaction that stands there and counts
  step_stands : (e.head.status ≡ 117 → ⊥) → (ds : List Data) × (block_in e (drop at bytes) taken.inside).inside ≡ Records ds × (e.head ≡ txn_head_of (block_in e (drop at bytes) taken.inside)) × AllStand bytes u.reaches.front.records × (list_all (has_body (rows u.reaches.front.records)) ds ≡ true)
  step_stands counted =
      let r = u.reaches in
      let k = taken in
      let b = block_in e (drop at bytes) k.inside in
      let ds = records_of e.head.status k.inside k.stands.fits.inside counted in
      let right = right_bodies at now.last (rows_on bytes now.kept.places) b ds.0 (subst (λ (i : Inside). fault_in at now.last (rows_on bytes now.kept.places) b i ≡ None) ds.1 k.right) in
      (ds.0, ds.1, head_of_block (drop at bytes) e k.inside k.whole k.size, all_stand bytes at r.front (drop at bytes) r.splits, rw r.stood right)

  step_passes : (whole : Whole) → (e.head.status ≡ 117 → ⊥) → whole.place ≡ at → whole.status ≡ e.head.status
      → ((b : Block) (ds : List Data) (more : List ℕ) (records : List Earlier) → Stands b (drop at bytes) more → b.inside ≡ Records ds → e.head ≡ txn_head_of b → AllStand bytes records → list_all (has_body (rows records)) ds ≡ true → transaction_in whole ≡ transaction_of records b ds)
      → Passes bytes old new whole
  unfolding step_on
  step_passes whole counted begins status said =
      let r = u.reaches in
      let k = taken in
      let b = block_in e (drop at bytes) k.inside in
      let s = step_stands counted in
      let x = said b s.0 (drop (e.long + 8) (drop at bytes)) r.front.records k.stands s.1 s.2 s.3 s.4 in
      record {
        before = u.on.front;
        came = u.on.stands;
        here = r.front;
        begins = subst (λ (n : ℕ). FrontAt bytes (Some n) r.front) (sym begins) (drop at bytes, r.splits);
        undone = r.history;
        block = b;
        right = next_right bytes at now.last _ _ u.on.front.history e r k;
        status = sym status;
        behind = step_on.stands;
        counts = says_block r.front u.on.front.history b k.inside s.0 whole.status (transaction_in whole) s.1 r.history (sym status) x;
      }

-- ---- the same, where the disk tells

module _ (disk : Option Told) (len : ℕ) (old now new : Course) (at : ℕ) (under : IfSome disk (λ told. Underway (content told) old now at)) (ahead : IsAhead disk new.ahead) where
  pub ends : IfSome disk (λ told. StepsOn (content told) at now.last now.kept new.kept steps.End) → Goes len at now new steps.End → IfSome disk (λ told. Walks (content told) old new None × IsOn (content told) new)
  ends says goes = by_disk disk under ahead says
    where
      by_disk : (d : Option Told) → IfSome d (λ told. Underway (content told) old now at) → IsAhead d new.ahead → IfSome d (λ told. StepsOn (content told) at now.last now.kept new.kept steps.End) → IfSome d (λ told. Walks (content told) old new None × IsOn (content told) new)
      by_disk None u a s = tt
      by_disk (Some told) u a s =
          let bytes = content told in
          let here : new.place ≡ Some at = ap (λ (c : Course). c.place) goes.there in
          let last : new.last ≡ now.last = ap (λ (c : Course). c.last) goes.there in (
            record { before = u.on.front; came = u.on.stands; front = u.reaches.front; end = at; cut = (drop at bytes, u.reaches.splits, s.0.0); at = here; undone = u.reaches.history },
            is_on bytes new at u.on.front.history here (subst (λ (n : ℕ). Reaches bytes at n (rows_on bytes new.kept.places) u.on.front.history) (sym last) (subst (λ (rs : List Row). Reaches bytes at now.last rs u.on.front.history) (sym s.0.1) u.reaches)) s.1 a,
          )

  pub breaks : (k kind : Kind) (place : ℕ) → IfSome disk (λ told. StepsOn (content told) at now.last now.kept new.kept (steps.Damaged k)) → k ≡ kind → at ≡ place → IfSome disk (λ told. Damaged (content told) place kind)
  breaks k kind place says is here = by_disk disk under says
    where
      by_disk : (d : Option Told) → IfSome d (λ told. Underway (content told) old now at) → IfSome d (λ told. StepsOn (content told) at now.last now.kept new.kept (steps.Damaged k)) → IfSome d (λ told. Damaged (content told) place kind)
      by_disk None u s = tt
      by_disk (Some told) u s =
          let bytes = content told in
          let r = u.reaches in
          let front_place : r.front.place ≡ at = file_place r.splits.file r.front r.splits.is_file ∙ sym r.splits.at in
          subst (λ (n : ℕ). Damaged bytes n kind) here (subst (Damaged bytes at) is (inr (r.front, drop at bytes, r.splits, s.0.0, rw (front_place, r.ids, r.stood) s.0.1)))

  pub stays_on : (k : Kind) → IfSome disk (λ told. StepsOn (content told) at now.last now.kept new.kept (steps.Damaged k)) → Goes len at now new (steps.Damaged k) → IfSome disk (λ told. IsOn (content told) new)
  stays_on k says goes = by_disk disk under ahead says
    where
      by_disk : (d : Option Told) → IfSome d (λ told. Underway (content told) old now at) → IsAhead d new.ahead → IfSome d (λ told. StepsOn (content told) at now.last now.kept new.kept (steps.Damaged k)) → IfSome d (λ told. IsOn (content told) new)
      by_disk None u a s = tt
      by_disk (Some told) u a s =
          let bytes = content told in
          let last : new.last ≡ now.last = ap (λ (c : Course). c.last) goes.there in
          is_on bytes new at u.on.front.history (ap (λ (c : Course). c.place) goes.there) (subst (λ (n : ℕ). Reaches bytes at n (rows_on bytes new.kept.places) u.on.front.history) (sym last) (subst (λ (rs : List Row). Reaches bytes at now.last rs u.on.front.history) (sym s.0.2) u.reaches)) s.1 a

  module _ (e : Extent) (says : IfSome disk (λ told. StepsOn (content told) at now.last now.kept new.kept (steps.Right e))) (goes : Goes len at now new (steps.Right e)) where
    pub goes_on : IfSome disk (λ told. IsOn (content told) new)
    goes_on = by_disk disk under ahead says
      where
        by_disk : (d : Option Told) → IfSome d (λ told. Underway (content told) old now at) → IsAhead d new.ahead → IfSome d (λ told. StepsOn (content told) at now.last now.kept new.kept (steps.Right e)) → IfSome d (λ told. IsOn (content told) new)
        by_disk None u a s = tt
        by_disk (Some told) u a s = step_on (content told) len old now new at e u s goes a

    pub goes_over : (next : ℕ) → next ≡ at + (e.long + 8) → e.head.status ≡ 117 → IfSome disk (λ told. Underway (content told) old new next)
    goes_over next is undone = by_disk disk under ahead says
      where
        by_disk : (d : Option Told) → IfSome d (λ told. Underway (content told) old now at) → IsAhead d new.ahead → IfSome d (λ told. StepsOn (content told) at now.last now.kept new.kept (steps.Right e)) → IfSome d (λ told. Underway (content told) old new next)
        by_disk None u a s = tt
        by_disk (Some told) u a s = step_skips (content told) len old now new at e u s goes a next is undone

    -- it does stand there
    pub stands_there : (again : Option Told) (kind : Kind) (place : ℕ) → again ≡ disk → (e.head.status ≡ 117 → ⊥) → StandsNone again at e → IfSome disk (λ told. Damaged (content told) place kind)
    stands_there again kind place same counted none = by_disk disk under ahead says (subst (λ (d : Option Told). StandsNone d at e) same none)
      where
        by_disk : (d : Option Told) → IfSome d (λ told. Underway (content told) old now at) → IsAhead d new.ahead → IfSome d (λ told. StepsOn (content told) at now.last now.kept new.kept (steps.Right e)) → StandsNone d at e → IfSome d (λ told. Damaged (content told) place kind)
        by_disk None u a s missing = tt
        by_disk (Some told) u a s missing =
            let k = taken (content told) len old now new at e u s goes a in
            let t = step_stands (content told) len old now new at e u s goes a counted in
            absurd (missing (block_in e (drop at (content told)) k.inside) t.0 (drop (e.long + 8) (drop at (content told))) u.reaches.front.records k.stands t.1 t.2 t.3 t.4)

    pub passes : (again : Option Told) (later : Course) (whole : Whole) → again ≡ disk → later ≡ reading later.ahead new → (e.head.status ≡ 117 → ⊥) → MeansWhole again at e whole → IfSome disk (λ told. Passes (content told) old later whole)
    passes again later whole same is counted m = by_disk disk under ahead says (subst (λ (d : Option Told). Meant d whole) same m.said)
      where
        Meant : Option Told → Whole → Type 0
        Meant d w = IfSome d (λ told. (b : Block) (ds : List Data) (more : List ℕ) (records : List Earlier) → Stands b (drop at (content told)) more → b.inside ≡ Records ds → e.head ≡ txn_head_of b → AllStand (content told) records → list_all (has_body (rows records)) ds ≡ true → transaction_in w ≡ transaction_of records b ds)

        by_disk : (d : Option Told) → IfSome d (λ told. Underway (content told) old now at) → IsAhead d new.ahead → IfSome d (λ told. StepsOn (content told) at now.last now.kept new.kept (steps.Right e)) → Meant d whole → IfSome d (λ told. Passes (content told) old later whole)
        by_disk None u a s said = tt
        by_disk (Some told) u a s said =
            let p = step_passes (content told) len old now new at e u s goes a whole counted m.begins m.status said in
            record {
              before = p.before;
              came = p.came;
              here = p.here;
              begins = p.begins;
              undone = p.undone;
              block = p.block;
              right = p.right;
              status = p.status;
              behind = subst (λ (o : Option ℕ). FrontAt (content told) o (after p.here p.block)) (sym (ap (λ (c : Course). c.place) is)) p.behind;
              counts = p.counts;
            }

-- ---- with what was read of the transaction, or not

pub walks_over : {E : Type 0} (disk again : Option Told) (old mid later : Course) (at : ℕ) (e : Extent) (r : Result (Option Whole) E) → IfOk r (λ found. MatchOption found ⊥ (MeansWhole again at e)) → OnOk r (later ≡ reading later.ahead mid)
    → ((whole : Whole) → later ≡ reading later.ahead mid → MeansWhole again at e whole → IfSome disk (λ told. Passes (content told) old later whole)) → IfOk r (λ found. IfSome disk (λ told. Walks (content told) old later found))
walks_over disk again old mid later at e (Ok (Some whole)) means same passes = passes whole same means
walks_over disk again old mid later at e (Ok None) means same passes = absurd means
walks_over disk again old mid later at e (Err refusal) means same passes = tt

pub on_either : {E : Type 0} (disk : Option Told) (mid later : Course) (r : Result (Option Whole) E) → OnOk r (later ≡ reading later.ahead mid) → OnErr r (IsFresh later) → IsAhead disk later.ahead → IfSome disk (λ told. IsOn (content told) mid) → IfSome disk (λ told. IsOn (content told) later)
on_either None mid later r same fresh ahead on = tt
on_either (Some told) mid later (Ok found) same fresh ahead on = read_on (Some told) mid later (λ t is. subst (λ (x : Told). IsOn (content x) mid) (one_told told t is) on) same ahead
  where
    one_told : (a b : Told) → Some a ≡ Some b → a ≡ b
    one_told a b is = cc
on_either (Some told) mid later (Err refusal) same fresh ahead on = fresh_on (content told) later fresh

-- ---- ids rise, also where the disk doesn't tell

pub same_last : (last : ℕ) (e : Extent) {now : ℕ} → e.head.status ≡ 117 → now ≡ (if e.head.status == 117 then last else e.head.tid) → now ≡ last
same_last last e undone is = is ∙ ap (λ (t : Bool). if t then last else e.head.tid) (eq-eqb e.head.status 117 undone)

pub found_later : {E : Type 0} (len : ℕ) (again : Option Told) (old now mid later : Course) (at : ℕ) (e : Extent) (r : Result (Option Whole) E) → now.last ≡ old.last → Goes len at now mid (steps.Right e) → (e.head.status ≡ 117 → ⊥) → IfOk r (λ found. MatchOption found ⊥ (MeansWhole again at e)) → OnOk r (later ≡ reading later.ahead mid)
    → IfOk r (λ found. IfSome found (λ whole. (old.last < whole.tid) × (later.last ≡ whole.tid)))
found_later len again old now mid later at e (Ok (Some whole)) same goes counted means is =
    let last : mid.last ≡ e.head.tid = ap (λ (c : Course). c.last) goes.there ∙ ap (λ (t : Bool). if t then now.last else e.head.tid) (ne_eqb e.head.status 117 counted) in
    (omega (arith, goes.fits.later counted, same, means.tid), ap (λ (c : Course). c.last) is ∙ last ∙ sym means.tid)
found_later len again old now mid later at e (Ok None) same goes counted means is = tt
found_later len again old now mid later at e (Err refusal) same goes counted means is = tt

pub walked_of : (A B : Told → Type 0) (disk : Option Told) → IfSome disk (λ told. A told × B told) → IfSome disk A
walked_of A B None both = tt
walked_of A B (Some told) both = both.0

pub on_of : (A B : Told → Type 0) (disk : Option Told) → IfSome disk (λ told. A told × B told) → IfSome disk B
on_of A B None both = tt
on_of A B (Some told) both = both.1
