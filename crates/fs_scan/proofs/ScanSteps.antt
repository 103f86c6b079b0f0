-- A scan of a disk that tells, by the steps of its walk.
use Rattle.std.proofs.Common.{◌≡◌, ℕ, ◌+◌, ◌-◌, ◌≤◌, List, length, Option, Some, None, IfSome, sym, ap, subst, ◌∙◌, arith}
use Rattle.std.specs.Prelude.{◌==◌, if◌then◌else◌}
use Rattle.std.proofs.lemmas.List.{length-append}
use Rattle.zbase.specs.declared.ids.Row.{Row}
use Rattle.zdisk.specs.Disk.{Told, content}
use Rattle.fs_record.specs.declared.damage.Damage.{Damage as Kind}
use Rattle.fs_record.specs.File.{Front}
use Rattle.fs_record.specs.Opening.{Cut, Damaged}
use Rattle.fs_scan.specs.declared.extent.Extent.{Extent}
use Rattle.fs_scan.specs.declared.opening.Scanned.{Scanned}
use Rattle.fs_scan.specs.declared.opening.Tally.{Tally}
use Rattle.fs_scan.specs.declared.step.Step.TheVariants as steps
use Rattle.fs_scan.specs.Keeping.{Keeping, KeepsOn, rows_on}
use Rattle.fs_scan.specs.Newest.{IsNewest, greatest_of}
use Rattle.fs_scan.specs.Scanned.{Reaches, Tells}
use Rattle.fs_scan.specs.Stepped.{StepsOn}
use Rattle.fs_scan.proofs.Scanning.{ScansTo, damaged, reached, went}

-- the scan has come to the place, and what is kept is that of the file
abbrev pub CameTo : Option Told → ℕ → ℕ → ℕ → ℕ → Keeping → Type 0
CameTo disk at id floor count kept = IfSome disk (λ told. ScansTo (content told) at id floor count (rows_on (content told) kept.places) × KeepsOn (content told) kept)

pub keeps_there : (disk : Option Told) (at id floor count : ℕ) (kept : Keeping) → CameTo disk at id floor count kept → IfSome disk (λ told. KeepsOn (content told) kept)
keeps_there None at id floor count kept c = tt
keeps_there (Some told) at id floor count kept c = c.1

module _ (disk : Option Told) (at id floor count : ℕ) (old new : Keeping) (came : CameTo disk at id floor count old) where
  pub scans_on : (e : Extent) (next id2 floor2 count2 : ℕ) → IfSome disk (λ told. StepsOn (content told) at id old new (steps.Right e)) → next ≡ at + (e.long + 8) → id2 ≡ (if e.head.status == 117 then id else e.head.tid) → floor2 ≡ (if e.head.status == 112 then e.head.tid else floor) → count2 ≡ (if e.head.status == 117 then count else count + 1)
      → CameTo disk next id2 floor2 count2 new
  scans_on e next id2 floor2 count2 says is i f n = by_disk disk came says
    where
      by_disk : (d : Option Told) → CameTo d at id floor count old → IfSome d (λ told. StepsOn (content told) at id old new (steps.Right e)) → CameTo d next id2 floor2 count2 new
      by_disk None c s = tt
      by_disk (Some told) c s = rw (is, i, f, n) (went (content told) at id floor count (rows_on (content told) old.places) (rows_on (content told) new.places) e c.0 s.0.1, s.1)

  pub scan_breaks : (k kind : Kind) (place : ℕ) → IfSome disk (λ told. StepsOn (content told) at id old new (steps.Damaged k)) → k ≡ kind → at ≡ place → IfSome disk (λ told. Damaged (content told) place kind)
  scan_breaks k kind place says is here = by_disk disk came says
    where
      by_disk : (d : Option Told) → CameTo d at id floor count old → IfSome d (λ told. StepsOn (content told) at id old new (steps.Damaged k)) → IfSome d (λ told. Damaged (content told) place kind)
      by_disk None c s = tt
      by_disk (Some told) c s = subst (λ (n : ℕ). Damaged (content told) n kind) here (subst (Damaged (content told) at) is (damaged (content told) at id floor count (rows_on (content told) old.places) k c.0 s.0.0 s.0.1))

  pub scan_ends : IfSome disk (λ told. StepsOn (content told) at id old new steps.End) → IfSome disk (λ told. Reaches (content told) (record { at = at; last = id; floor = floor; count = count }) new)
  scan_ends says = by_disk disk came says
    where
      by_disk : (d : Option Told) → CameTo d at id floor count old → IfSome d (λ told. StepsOn (content told) at id old new steps.End) → IfSome d (λ told. Reaches (content told) (record { at = at; last = id; floor = floor; count = count }) new)
      by_disk None c e = tt
      by_disk (Some t) c e = reached (content t) (record { at = at; last = id; floor = floor; count = count }) (rows_on (content t) old.places) new c.0 e.0.0 e.0.1 e.1

-- ---- what is told

whole : (bytes : List ℕ) (front : Front) (n : ℕ) → Cut bytes front n → n ≤ length bytes
whole bytes front n cut = omega (arith, cut.1.at, ap length cut.1.joined, length-append cut.1.file cut.0)

tells_of : (bytes : List ℕ) (torn : ℕ) (t : Tally) (kept : Keeping) (s : Scanned) → Reaches bytes t kept → torn ≡ length bytes - t.at → s ≡ record { end = t.at; torn = torn; greatest = kept.greatest; last = t.last; floor = t.floor; count = t.count; newest = kept.newest } → Tells bytes s
tells_of bytes torn t kept s r rest is = rw is (record {
  front = r.front;
  cut = r.cut;
  torn = omega (arith, rest, whole bytes r.front t.at r.cut);
  greatest = r.keeps.greatest_in ∙ ap greatest_of (sym r.records);
  last = r.last;
  floor = r.floor;
  count = r.count;
  newest = subst (λ (rs : List Row). IsNewest rs kept.newest) (sym r.records) r.keeps.newest_of;
})

pub tells : (disk given : Option Told) (len torn : ℕ) (t : Tally) (kept : Keeping) (s : Scanned) → given ≡ disk → IfSome given (λ told. Reaches (content told) t kept) → IfSome disk (λ told. len ≡ length (content told)) → torn ≡ len - t.at
    → s ≡ record { end = t.at; torn = torn; greatest = kept.greatest; last = t.last; floor = t.floor; count = t.count; newest = kept.newest } → IfSome disk (λ told. Tells (content told) s)
tells None given len torn t kept s same r long rest is = tt
tells (Some told) given len torn t kept s same r long rest is =
    tells_of (content told) torn t kept s (subst (λ (d : Option Told). IfSome d (λ x. Reaches (content x) t kept)) same r) (omega (arith, rest, long)) is
