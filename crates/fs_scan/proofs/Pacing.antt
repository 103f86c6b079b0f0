-- What it costs to go over a file forward, added up.
use Rattle.std.proofs.Common.{◌≡◌, ℕ, ◌+◌, ◌-◌, ◌<◌, ◌≤◌, List, [], ◌∷◌, ◌++◌, length, Option, Some, None, IfSome, subst, arith, inl, inr}
use Rattle.std.proofs.lemmas.Bool.{cases_lt}
use Rattle.std.proofs.lemmas.List.{length-append}
use Rattle.zdisk.specs.Disk.{Told, content}
use Rattle.fs_scan.specs.Ahead.{Covers, Shown}
use Rattle.fs_scan.specs.Backs.{PointsTo}
use Rattle.fs_scan.specs.Keeping.{PlacesWithin}
use Rattle.fs_scan.specs.Pacing.{AllPoint, Forward, IsPiece, Paces, Spends}
use Rattle.fs_scan.specs.Scanned.{CostsScan}
use Rattle.fs_scan.proofs.RisingPlaces.{further, rise_within}

-- ---- pieces

-- a place that isn't in the piece lies 65,487 bytes behind its begin
uncovered : (len at size : ℕ) (s : Shown) → IsPiece len at s → size ≤ 50 → at + size ≤ len → (Covers s at size → ⊥) → s.from + 65487 ≤ at
uncovered len at size s p le within un = elim (cases_lt (s.from + length s.bytes) (at + size)) [
  | inl lt ↦ omega (arith, p.full (omega (arith, lt, within)), lt, le)
  | inr covers ↦ absurd (un (record { begins = p.begins; ends = covers }))
]

pub piece_read : (len at size : ℕ) (old new : Shown) (calls more : ℕ) → at + size ≤ len → (Covers old at size → ⊥) → new.from ≡ at → more ≤ calls + 1 → IsPiece len at old → size ≤ 50 → Forward at old new calls more
piece_read len at size old new calls more within un is one p le = record { reached = omega (arith, is); apart = omega (arith, uncovered len at size old p le within un, is, one) }

pub no_piece : (at : ℕ) (s : Shown) (calls : ℕ) → s.from ≤ at → Forward at s s calls calls
no_piece at s calls le = record { reached = le; apart = omega arith }

pub piece_on : (len at to : ℕ) (s : Shown) → IsPiece len at s → at ≤ to → IsPiece len to s
piece_on len at to s p le = record { begins = omega (arith, p.begins, le); full = p.full }

-- ---- records that point back

lower : (n mid end : ℕ) (ps : List ℕ) → n ≤ mid → PlacesWithin mid end ps → PlacesWithin n end ps
lower n mid end [] le h = omega (arith, le, h)
lower n mid end (p ∷ ps) le h = (omega (arith, le, h.0), h.1)

rise_more : (n mid end : ℕ) (ps qs : List ℕ) → PlacesWithin n mid ps → PlacesWithin mid end qs → PlacesWithin n end (ps ++ qs)
rise_more n mid end [] qs h k = lower n mid end qs h k
rise_more n mid end (p ∷ ps) qs h k = (h.0, rise_more (p + 1) mid end ps qs h.1 k)

point_more : (bytes ps qs : List ℕ) → AllPoint bytes ps → AllPoint bytes qs → AllPoint bytes (ps ++ qs)
point_more bytes [] qs h k = k
point_more bytes (p ∷ ps) qs h k = (h.0, point_more bytes ps qs h.1 k)

-- ---- what was spent

pub spends_then : (bytes : List ℕ) (a b c x y z calls now more : ℕ) → Spends bytes a b x y calls now → Spends bytes b c y z now more → Spends bytes a c x z calls more
spends_then bytes a b c x y z calls now more s t = record {
  backs = s.backs ++ t.backs;
  rise = rise_more a b c s.backs t.backs s.rise t.rise;
  point = point_more bytes s.backs t.backs s.point t.point;
  within = omega (arith, s.within, t.within, length-append s.backs t.backs);
}

-- over these bytes no record was judged
spends_forward : (bytes : List ℕ) (from to at : ℕ) (old new : Shown) (calls more : ℕ) → Forward at old new calls more → from ≤ to → Spends bytes from to old.from new.from calls more
spends_forward bytes from to at old new calls more f le = record { backs = []; rise = le; point = tt; within = omega (arith, f.apart) }

pub spends_more : (bytes : List ℕ) (a b c x y z calls more : ℕ) → Spends bytes a b x y calls more → b ≤ c → y ≤ z → Spends bytes a c x z calls more
spends_more bytes a b c x y z calls more s le far = record { backs = s.backs; rise = further a b c s.backs s.rise le; point = s.point; within = omega (arith, s.within, far) }

-- one record was judged, that points back or not
spends_one : (bytes : List ℕ) (at to x calls more n back : ℕ) → at < to → more ≤ calls + 1 → ((n ≡ 0 → back ≡ 0) → more ≤ calls) → (n ≡ 0 → 0 < back → PointsTo bytes at back) → Spends bytes at to x x calls more
spends_one bytes at to x calls more n back lt one spares points = elim (cases_lt 0 n) [
  | inl some ↦ none (λ z. omega (arith, some, z))
  | inr below ↦ elim (cases_lt 0 back) [
    | inl some ↦ record { backs = at ∷ []; rise = (omega arith, omega (arith, lt)); point = ((back, points (omega (arith, below)) some), tt); within = omega (arith, one) }
    | inr least ↦ none (λ z. omega (arith, least))
  ]
]
  where
    none : (n ≡ 0 → back ≡ 0) → Spends bytes at to x x calls more
    none has = record { backs = []; rise = omega (arith, lt); point = tt; within = omega (arith, spares has) }

-- ---- where the disk tells

pub paces_forward : (disk : Option Told) (from to at : ℕ) (old new : Shown) (calls more : ℕ) → Forward at old new calls more → from ≤ to → at ≤ to → Paces disk from to old new calls more
paces_forward disk from to at old new calls more f le far = record { reached = omega (arith, f.reached, far); spends = by_disk disk }
  where
    by_disk : (d : Option Told) → IfSome d (λ told. Spends (content told) from to old.from new.from calls more)
    by_disk None = tt
    by_disk (Some told) = spends_forward (content told) from to at old new calls more f le

pub paces_then : (disk given : Option Told) (a b c : ℕ) (s m t : Shown) (calls now more : ℕ) → given ≡ disk → Paces disk a b s m calls now → Paces given b c m t now more → Paces disk a c s t calls more
paces_then disk given a b c s m t calls now more same p q = record { reached = q.reached; spends = by_disk disk p.spends (subst (λ (d : Option Told). IfSome d (λ told. Spends (content told) b c m.from t.from now more)) same q.spends) }
  where
    by_disk : (d : Option Told) → IfSome d (λ told. Spends (content told) a b s.from m.from calls now) → IfSome d (λ told. Spends (content told) b c m.from t.from now more) → IfSome d (λ told. Spends (content told) a c s.from t.from calls more)
    by_disk None h k = tt
    by_disk (Some told) h k = spends_then (content told) a b c s.from m.from t.from calls now more h k

pub paces_more : (disk : Option Told) (a b c : ℕ) (s t : Shown) (calls more : ℕ) → Paces disk a b s t calls more → b ≤ c → Paces disk a c s t calls more
paces_more disk a b c s t calls more p le = record { reached = omega (arith, p.reached, le); spends = by_disk disk p.spends }
  where
    by_disk : (d : Option Told) → IfSome d (λ told. Spends (content told) a b s.from t.from calls more) → IfSome d (λ told. Spends (content told) a c s.from t.from calls more)
    by_disk None h = tt
    by_disk (Some told) h = spends_more (content told) a b c s.from t.from t.from calls more h le (omega arith)

-- from an earlier place on
pub paces_from : (disk : Option Told) (a b c : ℕ) (s t : Shown) (calls more : ℕ) → a ≤ b → Paces disk b c s t calls more → Paces disk a c s t calls more
paces_from disk a b c s t calls more le p = record { reached = p.reached; spends = by_disk disk p.spends }
  where
    by_disk : (d : Option Told) → IfSome d (λ told. Spends (content told) b c s.from t.from calls more) → IfSome d (λ told. Spends (content told) a c s.from t.from calls more)
    by_disk None h = tt
    by_disk (Some told) h = record { backs = h.backs; rise = lower a b c h.backs le h.rise; point = h.point; within = h.within }

-- one record more, judged behind what was read ahead for it
pub paces_one : (disk : Option Told) (at to : ℕ) (old new : Shown) (calls now more n back : ℕ) → Forward at old new calls now → at < to → more ≤ now + 1 → ((n ≡ 0 → back ≡ 0) → more ≤ now)
    → IfSome disk (λ told. n ≡ 0 → 0 < back → PointsTo (content told) at back) → Paces disk at to old new calls more
paces_one disk at to old new calls now more n back f lt one spares points = record { reached = omega (arith, f.reached, lt); spends = by_disk disk points }
  where
    by_disk : (d : Option Told) → IfSome d (λ told. n ≡ 0 → 0 < back → PointsTo (content told) at back) → IfSome d (λ told. Spends (content told) at to old.from new.from calls more)
    by_disk None p = tt
    by_disk (Some told) p =
        spends_then (content told) at at to old.from new.from new.from calls now more (spends_forward (content told) at at at old new calls now f (omega arith))
        (spends_one (content told) at to new.from now more n back lt one spares p)

-- ---- a scan

-- nothing was gone over yet
pub costs_begin : (disk : Option Told) (calls more : ℕ) → more ≤ calls + 2 → IfSome disk (λ told. CostsScan (content told) calls more)
costs_begin None calls more le = tt
costs_begin (Some told) calls more le = record { pieces = 0; apart = omega arith; backs = []; rise = tt; point = tt; within = omega (arith, le) }

abbrev pub Spent : Option Told → ℕ → ℕ → ℕ → ℕ → Type 0
Spent disk to after calls more = IfSome disk (λ told. Spends (content told) 0 to 0 after calls more)

costs_of : (bytes : List ℕ) (to after calls now more : ℕ) → Spends bytes 0 to 0 after now more → after ≤ length bytes → now ≤ calls + 2 → CostsScan bytes calls more
costs_of bytes to after calls now more s far le = elim (cases_lt more (calls + 2 + length s.backs)) [
  | inl few ↦ record { pieces = 0; apart = omega arith; backs = s.backs; rise = rise_within 0 to s.backs s.rise; point = s.point; within = omega (arith, few) }
  | inr many ↦
      let pieces = more - (calls + 2 + length s.backs) in
      record { pieces = pieces; apart = omega (arith, s.within, far, le, many); backs = s.backs; rise = rise_within 0 to s.backs s.rise; point = s.point; within = omega (arith, many) }
]

-- the whole file was gone over
pub costs : (disk given : Option Told) (len calls now more : ℕ) → given ≡ disk → Spent given len len now more → IfSome disk (λ told. len ≡ length (content told)) → now ≤ calls + 2 → IfSome disk (λ told. CostsScan (content told) calls more)
costs None given len calls now more same s long le = tt
costs (Some told) given len calls now more same s long le = costs_of (content told) len len calls now more (subst (λ (d : Option Told). Spent d len len now more) same s) (omega (arith, long)) le

pub spent_on : (disk given : Option Told) (at to x y calls now more : ℕ) → given ≡ disk → Spent disk at x calls now → IfSome given (λ told. Spends (content told) at to x y now more) → Spent disk to y calls more
spent_on disk given at to x y calls now more same s t = by_disk disk s (subst (λ (d : Option Told). IfSome d (λ told. Spends (content told) at to x y now more)) same t)
  where
    by_disk : (d : Option Told) → Spent d at x calls now → IfSome d (λ told. Spends (content told) at to x y now more) → Spent d to y calls more
    by_disk None h k = tt
    by_disk (Some told) h k = spends_then (content told) 0 at to 0 x y calls now more h k

pub spent_none : (disk : Option Told) (at after calls more : ℕ) → more ≤ calls → Spent disk at after calls more
spent_none None at after calls more le = tt
spent_none (Some told) at after calls more le = record { backs = []; rise = omega arith; point = tt; within = omega (arith, le) }

pub spent_far : (disk : Option Told) (to x y calls more : ℕ) → Spent disk to x calls more → x ≤ y → Spent disk to y calls more
spent_far None to x y calls more s le = tt
spent_far (Some told) to x y calls more s le = spends_more (content told) 0 to to 0 x y calls more s (omega arith) le
