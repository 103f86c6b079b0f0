-- A back pointer, judged by the records before its transaction.
use Rattle.std.proofs.Common.{◌≡◌, ℕ, zero, suc, ◌<◌, Bool, true, List, refl, arith}
use Rattle.std.specs.List.{list_any}
use Rattle.std.proofs.lemmas.Bool.{ne_eqb, eq-eqb}
use Rattle.zbase.specs.declared.ids.Row.{Row}
use Rattle.fs_record.specs.File.{is_right_body, is_row}
use Rattle.fs_scan.specs.Found.{body_in}

pub data_right : (rows : List Row) (oid n back : ℕ) (behind : List ℕ) → 0 < n → true ≡ is_right_body rows oid (body_in n back behind)
data_right rows oid zero back behind some = absurd (omega arith)
data_right rows oid (suc n) back behind some = refl

pub none_right : (rows : List Row) (oid n back : ℕ) (behind : List ℕ) → n ≡ 0 → back ≡ 0 → true ≡ is_right_body rows oid (body_in n back behind)
none_right rows oid zero back behind none is = rw (eq-eqb back 0 is) refl
none_right rows oid (suc n) back behind none is = absurd (omega arith)

pub back_right : (rows : List Row) (oid n back : ℕ) (behind : List ℕ) (right : Bool) → n ≡ 0 → (back ≡ 0 → ⊥) → right ≡ list_any (is_row oid back) rows → right ≡ is_right_body rows oid (body_in n back behind)
back_right rows oid zero back behind right none some is = rw (ne_eqb back 0 some) is
back_right rows oid (suc n) back behind right none some is = absurd (omega arith)
