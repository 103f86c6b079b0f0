-- The record at an object's last place.
use Rattle.std.proofs.Common.{◌≡◌, ℕ, ◌==◌, ◌&&◌, ◌||◌, ◌≢◌, Bool, true, false, cond, List, [], ◌∷◌, Option, Some, None, refl, sym, ap, ◌∙◌, eq-eqb, ne_eqb, if◌then◌else◌}
use Rattle.std.specs.List.{list_any}
use Rattle.zbase.specs.History.{Value}
use Rattle.zbase.specs.declared.ids.Row.{Row}
use Rattle.fs_index.specs.Places.{known}
use Rattle.fs_record.specs.File.{Earlier, is_row, last_place, rows, value_at}
use Rattle.fs_record.specs.Standing.{IsPlace}
use Rattle.fs_pack.specs.Marked.{meant}

is_there : (oid found place : ℕ) (rs : List Row) → last_place oid found rs ≡ place → found ≢ place → list_any (is_row oid place) rs ≡ true
is_there oid found place [] e other = absurd (other e)
is_there oid found place (row ∷ rs) e other = go (row.oid == oid) (row.place == place) refl refl e (is_there oid row.place place rs) (is_there oid found place rs)
  where
    go : (a b : Bool) → (row.oid == oid) ≡ a → (row.place == place) ≡ b → last_place oid (cond a row.place found) rs ≡ place
        → (last_place oid row.place rs ≡ place → row.place ≢ place → list_any (is_row oid place) rs ≡ true) → (last_place oid found rs ≡ place → found ≢ place → list_any (is_row oid place) rs ≡ true)
        → ((row.oid == oid) && (row.place == place) || list_any (is_row oid place) rs) ≡ true
    go true true p q e' here there = rw (p, q) refl
    go true false p q e' here there = rw (p, q) (here e' (λ same. absurd (wrong (sym q ∙ eq-eqb row.place place same))))
      where
        wrong : false ≡ true → ⊥
        wrong w = cc
    go false b p q e' here there = rw p (there e' other)

from_known : (n place : ℕ) → known n ≡ Some place → (n ≡ place) × (0 ≢ place)
from_known n place e = go (n == 0) refl e
  where
    go : (b : Bool) → (n == 0) ≡ b → cond b None (Some n) ≡ Some place → (n ≡ place) × (0 ≢ place)
    go true is e' = absurd cc
    go false is e' =
        let same : n ≡ place = cc in
        (same, λ zero. absurd (wrong (sym is ∙ eq-eqb n 0 (same ∙ sym zero))))
      where
        wrong : false ≡ true → ⊥
        wrong w = cc

-- what is known of an object by its last place
pub record Last (records : List Earlier) (oid place : ℕ) : Type 0 where
  pub is_place : IsPlace records oid place
  pub means : meant records oid ≡ value_at place records

pub last_of : (records : List Earlier) (oid place : ℕ) (found : Option ℕ) → found ≡ known (last_place oid 0 (rows records)) → found ≡ Some place → Last records oid place
last_of records oid place found e is =
    let k = from_known (last_place oid 0 (rows records)) place (sym e ∙ is) in
    record {
      is_place = is_there oid 0 place (rows records) k.0 k.1;
      means = ap (λ (n : ℕ). let v : Value = (if n == 0 then None else value_at n records) in v) k.0 ∙ ap (λ (b : Bool). let v : Value = cond b None (value_at place records) in v) (ne_eqb place 0 (λ z. k.1 (sym z)));
    }
