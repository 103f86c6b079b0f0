-- A scan that has come to a place.
use Rattle.std.proofs.Common.{◌≡◌, ℕ, ◌+◌, ◌≤◌, Bool, true, false, List, [], ◌∷◌, ◌++◌, length, drop, refl, sym, ap, ◌∙◌, append_assoc, arith, inr}
use Rattle.std.specs.Prelude.{◌==◌, if◌then◌else◌}
use Rattle.std.proofs.lemmas.List.{length-append, drop-drop}
use Rattle.zbase.specs.declared.ids.Row.{Row}
use Rattle.zbase.specs.Values.{last}
use Rattle.fs_record.specs.declared.damage.Damage.{Damage as Kind}
use Rattle.fs_record.specs.Spelling.{Block, block_spelling}
use Rattle.fs_record.specs.SpellingLaws.{length-block}
use Rattle.fs_record.specs.File.{rows, magic, front_of, bytes_of, AreRight}
use Rattle.fs_record.specs.Opening.{is_end, SplitsAt, Damaged}
use Rattle.fs_scan.specs.declared.extent.Extent.{Extent}
use Rattle.fs_scan.specs.declared.opening.Tally.{Tally}
use Rattle.fs_scan.specs.Extent.{block_in}
use Rattle.fs_scan.specs.Keeping.{Keeping, KeepsOn, rows_on}
use Rattle.fs_scan.specs.Scanned.{Reaches}
use Rattle.fs_scan.specs.Taking.{Takes, IsDamageAt}
use Rattle.fs_scan.proofs.Behind.{block_place, rows_then, id_then, floor_then, count_then}

-- right blocks up to at, and what is kept of them
pub record ScansTo (bytes : List ℕ) (at id floor count : ℕ) (places : List Row) : Type 0 where
  pub blocks : List Block
  pub right : AreRight blocks
  pub joined : bytes ≡ bytes_of blocks ++ drop at bytes
  pub at_end : at ≡ length (bytes_of blocks)
  pub ids : last (front_of blocks).history ≡ id
  pub floors : (front_of blocks).history.floor ≡ floor
  pub counted : length (front_of blocks).history.transactions ≡ count
  pub stood : rows (front_of blocks).records ≡ places
  pub few : count ≤ at

pub begun : (bytes : List ℕ) (places : List Row) → bytes ≡ magic ++ drop 4 bytes → places ≡ [] → ScansTo bytes 4 0 0 0 places
begun bytes places e p = record {
  blocks = [];
  right = tt;
  joined = e;
  at_end = refl;
  ids = refl;
  floors = refl;
  counted = refl;
  stood = sym p;
  few = omega arith;
}

fewer : (t : Bool) (count at long : ℕ) → count ≤ at → (if t then count else count + 1) ≤ at + (long + 8)
fewer true count at long le = omega arith
fewer false count at long le = omega arith

-- a right transaction more
pub went : (bytes : List ℕ) (at id floor count : ℕ) (old new : List Row) (e : Extent) → ScansTo bytes at id floor count old → Takes (drop at bytes) at id old new e
    → ScansTo bytes (at + (e.long + 8)) (if e.head.status == 117 then id else e.head.tid) (if e.head.status == 112 then e.head.tid else floor) (if e.head.status == 117 then count else count + 1) new
went bytes at id floor count old new e c k =
    let rest = drop at bytes in
    let front = front_of c.blocks in
    let b = block_in e rest k.inside in
    let place : front.place ≡ at = block_place c.blocks c.right ∙ sym c.at_end in
    let fits = k.stands.fits.inside in
    record {
      blocks = b ∷ c.blocks;
      right = (record { fits = k.stands.fits; right = rw (place, c.ids, c.stood) k.right }, c.right);
      joined = c.joined ∙ ap (λ (s : List ℕ). bytes_of c.blocks ++ s) (k.stands.spelled ∙ ap (λ (s : List ℕ). block_spelling b ++ s) (drop-drop (e.long + 8) at bytes)) ∙ sym (append_assoc (bytes_of c.blocks) (block_spelling b) (drop (at + (e.long + 8)) bytes));
      at_end = omega (arith, c.at_end, k.size, length-block b, length-append (bytes_of c.blocks) (block_spelling b));
      ids = id_then front b k.inside fits ∙ ap (λ (n : ℕ). if e.head.status == 117 then n else e.head.tid) c.ids;
      floors = floor_then front b k.inside fits ∙ ap (λ (n : ℕ). if e.head.status == 112 then e.head.tid else n) c.floors;
      counted = count_then front b k.inside fits ∙ ap (λ (n : ℕ). if e.head.status == 117 then n else n + 1) c.counted;
      stood = rows_then front b k.inside ∙ rw (c.stood, place) (sym k.rows);
      few = fewer (e.head.status == 117) count at e.long c.few;
    }

split : (bytes : List ℕ) (at id floor count : ℕ) (places : List Row) → (c : ScansTo bytes at id floor count places) → SplitsAt bytes at (front_of c.blocks) (drop at bytes)
split bytes at id floor count places c = record {
  file = bytes_of c.blocks;
  is_file = record { blocks = c.blocks; right = c.right; spelled = refl; said = refl };
  joined = c.joined;
  at = c.at_end;
}

-- the end was met
pub reached : (bytes : List ℕ) (t : Tally) (places : List Row) (kept : Keeping) → ScansTo bytes t.at t.last t.floor t.count places → is_end (drop t.at bytes) ≡ true → rows_on bytes kept.places ≡ places → KeepsOn bytes kept → Reaches bytes t kept
reached bytes t places kept c e same keeps = record {
  front = front_of c.blocks;
  cut = (drop t.at bytes, split bytes t.at t.last t.floor t.count places c, e);
  last = sym c.ids;
  floor = sym c.floors;
  count = sym c.counted;
  records = c.stood ∙ sym same;
  keeps = keeps;
}

-- a damage was met
pub damaged : (bytes : List ℕ) (at id floor count : ℕ) (places : List Row) (kind : Kind) → ScansTo bytes at id floor count places → is_end (drop at bytes) ≡ false → IsDamageAt (drop at bytes) at id places kind → Damaged bytes at kind
damaged bytes at id floor count places kind c e d =
    let front = front_of c.blocks in
    let place : front.place ≡ at = block_place c.blocks c.right ∙ sym c.at_end in
    inr (front, drop at bytes, split bytes at id floor count places c, e, rw (place, c.ids, c.stood) d)
