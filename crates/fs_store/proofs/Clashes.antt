-- An object that was read clashes where its newest record stands elsewhere now.
use Rattle.std.proofs.Common.{◌≡◌, ◌≢◌, ℕ, ◌<◌, ◌+◌, ◌∷◌, Bool, true, false, cond, List, length, get_or, drop, Option, Some, None, sym, ap, subst, ◌∙◌, arith, inl, inr}
use Rattle.std.specs.Prelude.{nat_lt}
use Rattle.std.proofs.lemmas.Bool.{cases_eq, le-ltb, lt-ltb}
use Rattle.std.proofs.lemmas.List.{drop_more}
use Rattle.zbase.specs.History.{History}
use Rattle.zbase.specs.Values.{serial, serial_of}
use Rattle.zbase.specs.declared.ids.Clash.{Clash}
use Rattle.zdisk.specs.Disk.{Told}
use Rattle.fs_record.specs.declared.heads.DataHead.{DataHead}
use Rattle.fs_record.specs.Spelling.{head_of}
use Rattle.fs_record.specs.File.{last_place, rows}
use Rattle.fs_record.specs.WalkLaws.{none_at_all, other, same, whole}
use Rattle.fs_scan.specs.Newest.{place_in}
use Rattle.fs_index.specs.Places.{place_of}
use Rattle.fs_store.specs.declared.file.OpenFile.{OpenFile}
use Rattle.fs_store.specs.declared.reads.Seen.{Seen}
use Rattle.fs_store.specs.Fronts.{file_at, front_at, history_at}
use Rattle.fs_store.specs.Knowing.{Knows}
use Rattle.fs_store.specs.Seeing.{SeenIn}
use Rattle.fs_store.specs.Verdicts.{clash_among, clash_at, first_of}
use Rattle.fs_store.proofs.WayBack.{Tells, head_there, leads_back, no_head, way_first}

abbrev SeenAt : Told → OpenFile → Seen → Type 0
SeenAt told known seen = SeenIn (file_at told known.end) (front_at told known.end) seen.oid seen.serial seen.place

abbrev clash_by : Seen → ℕ → Bool → Option Clash
clash_by seen found later = cond later (let c : Clash = record { oid = seen.oid; seen = seen.serial; found = found } in Some c) None

not_less : (m n : ℕ) → m ≡ n → nat_lt m n ≡ false
not_less m n e = le-ltb m n (omega (arith, e))

pub no_clash : (told : Told) (known : OpenFile) (seen : Seen) → Knows told known → SeenAt told known seen → place_in (place_of known.index seen.oid) ≡ seen.place → None ≡ clash_at (history_at told known.end) seen
no_clash told known seen k s here =
    let still = same (file_at told known.end) (front_at told known.end) s.at seen.oid s.passed (sym s.place_is ∙ sym here ∙ k.newest seen.oid) in
    sym (ap (clash_by seen (serial (history_at told known.end) seen.oid)) (not_less seen.serial (serial (history_at told known.end) seen.oid) (s.serial_is ∙ still)))

-- the newest record stands elsewhere, so there is one, with a later serial
pub moved_on : (told : Told) (known : OpenFile) (seen : Seen) (place : ℕ) → Knows told known → SeenAt told known seen → place ≡ place_in (place_of known.index seen.oid) → place ≢ seen.place → (0 < place) × (seen.serial < serial (history_at told known.end) seen.oid)
moved_on told known seen place k s is elsewhere =
    let file = file_at told known.end in
    let front = front_at told known.end in
    let now : place ≡ last_place seen.oid 0 (rows front.records) = is ∙ k.newest seen.oid in
    let less = other file front s.at seen.oid s.passed (λ e. elsewhere (now ∙ sym e ∙ sym s.place_is)) in
    let later : seen.serial < serial front.history seen.oid = subst (λ (n : ℕ). n < serial front.history seen.oid) (sym s.serial_is) less in (
      elim (cases_eq place 0) [
        | inl zero ↦ absurd (omega (arith, later, ap serial_of (none_at_all file front front seen.oid (whole file front k.file) (sym now ∙ zero))))
        | inr some ↦ omega (arith, some)
      ],
      later,
    )

-- its serial is that of its newest record
serial_there : (told : Told) (known : OpenFile) (oid : ℕ) (head : DataHead) → Knows told known → 0 < place_in (place_of known.index oid) → Tells told (place_in (place_of known.index oid)) (Some head) → head.tid ≡ serial (history_at told known.end) oid
serial_there told known oid head k positive tells =
    let l = leads_back told known.end oid 0 (place_in (place_of known.index oid)) 0 0 (way_first told known oid 0 0 k) positive in
    let is : head ≡ head_of l.written = head_there told (place_in (place_of known.index oid)) head tells l.written l.behind l.fits l.spelled in
    ap (λ (h : DataHead). h.tid) is ∙ sym l.serial_is

pub clash_here : (told : Told) (known : OpenFile) (seen : Seen) (place : ℕ) (head : DataHead) → Knows told known → SeenAt told known seen → place ≡ place_in (place_of known.index seen.oid) → place ≢ seen.place → Tells told place (Some head)
    → clash_by seen head.tid true ≡ clash_at (history_at told known.end) seen
clash_here told known seen place head k s is elsewhere tells =
    let h = history_at told known.end in
    let m = moved_on told known seen place k s is elsewhere in
    let tid = serial_there told known seen.oid head k (subst (λ (n : ℕ). 0 < n) is m.0) (subst (λ (n : ℕ). Tells told n (Some head)) is tells) in
    ap (λ (n : ℕ). clash_by seen n true) tid ∙ ap (clash_by seen (serial h seen.oid)) (sym (lt-ltb seen.serial (serial h seen.oid) m.1))

pub some_head : {X : Type 0} (told : Told) (known : OpenFile) (seen : Seen) (place : ℕ) → Knows told known → SeenAt told known seen → place ≡ place_in (place_of known.index seen.oid) → place ≢ seen.place → Tells told place None → X
some_head told known seen place k s is elsewhere tells =
    let m = moved_on told known seen place k s is elsewhere in
    no_head told known.end seen.oid 0 (place_in (place_of known.index seen.oid)) 0 0 (way_first told known seen.oid 0 0 k) (subst (λ (n : ℕ). 0 < n) is m.0) (subst (λ (n : ℕ). Tells told n None) is tells)

-- ---- one after another

clash_next : (h : History) (reads : List Seen) (i : ℕ) (s : Seen) → i < length reads → s ≡ get_or reads i s → clash_among h (drop i reads) ≡ first_of (clash_at h s) (clash_among h (drop (i + 1) reads))
clash_next h reads i s lt is = ap (clash_among h) (drop_more reads i s lt ∙ ap (λ (x : Seen). x ∷ drop (i + 1) reads) (sym is))

pub clash_found : (h : History) (reads : List Seen) (i : ℕ) (s : Seen) (c : Clash) → i < length reads → s ≡ get_or reads i s → Some c ≡ clash_at h s → clash_among h (drop i reads) ≡ Some c
clash_found h reads i s c lt is found = clash_next h reads i s lt is ∙ ap (λ (o : Option Clash). first_of o (clash_among h (drop (i + 1) reads))) (sym found)

pub clash_later : (h : History) (reads : List Seen) (i : ℕ) (s : Seen) → i < length reads → s ≡ get_or reads i s → None ≡ clash_at h s → clash_among h (drop i reads) ≡ clash_among h (drop (i + 1) reads)
clash_later h reads i s lt is none = clash_next h reads i s lt is ∙ ap (λ (o : Option Clash). first_of o (clash_among h (drop (i + 1) reads))) (sym none)
