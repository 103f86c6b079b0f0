-- A text that keeps its rule but for too many bytes keeps it where it hasn't too many.
use Rattle.std.proofs.Common.{◌≡◌, ℕ, ◌≤◌, ◌&&◌, ◌||◌, ◌==◌, Bool, true, false, not, List, length, nat_le, refl, arith}
use Rattle.std.specs.List.{list_all}
use Rattle.std.specs.Str.{is_utf8}
use Rattle.std.proofs.lemmas.Bool.Decides.{nat_tests}
use Rattle.zobject.specs.declared.version.Kind.TheVariants.{Folder, Method, Document, UserFolder}
use Rattle.zobject.specs.declared.version.Rule.{Rule}
use Rattle.zobject.specs.declared.version.Rule.TheVariants.{StoredId, ChildName, PropertyName, Value, Role, UserName, Password, Title, Source}
use Rattle.zobject.specs.Texts.{fits, is_acl_users, is_hidden, is_id, is_id_byte, is_of_length, is_reserved, is_spelled}
use Rattle.zobject.specs.Likely.{is_like, is_like_id, is_likely, is_some, most_bytes}
use Rattle.zobject.specs.Rules.{Keeps}

both : (a b : Bool) → (a && b) ≡ true → (a ≡ true) × (b ≡ true)
both true b e = (refl, e)
both false b e = absurd (let bad = e in cc)

and_so : (a b : Bool) → a ≡ true → b ≡ true → (a && b) ≡ true
and_so true b e f = f
and_so false b e f = e

either : (a b c : Bool) → (a || b) ≡ true → (b ≡ true → c ≡ true) → (a || c) ≡ true
either true b c e f = refl
either false b c e f = f e

first_or : (a b c : Bool) → (a || b) ≡ true → (a ≡ true → c ≡ true) → (c || b) ≡ true
first_or true b true e f = refl
first_or true b false e f = absurd (let bad = f refl in cc)
first_or false b true e f = refl
first_or false b false e f = e

few_so : (n m : ℕ) → n ≤ m → nat_le n m ≡ true
few_so n m h = grind (arith, nat_tests)

long_so : (most : ℕ) (text : List ℕ) → is_some text ≡ true → length text ≤ most → is_of_length most text ≡ true
long_so most text some few = and_so (nat_le 1 (length text)) (nat_le (length text) most) some (few_so (length text) most few)

-- with its length in the place of a test that it isn't empty
with_length : (most : ℕ) (text : List ℕ) (others : Bool) → (is_some text && others) ≡ true → length text ≤ most → (is_of_length most text && others) ≡ true
with_length most text others e few = let p = both (is_some text) others e in and_so (is_of_length most text) others (long_so most text p.0 few) p.1

id_so : (text : List ℕ) → is_like_id text ≡ true → length text ≤ 100 → is_id text ≡ true
unfolding is_like_id is_id
id_so text e few =
    let named = both (is_some text && list_all is_id_byte text && not (is_hidden text)) (not (is_reserved text)) e in
    let shown = both (is_some text && list_all is_id_byte text) (not (is_hidden text)) named.0 in
    and_so (is_spelled text && not (is_hidden text)) (not (is_reserved text))
    (and_so (is_spelled text) (not (is_hidden text)) (with_length 100 text (list_all is_id_byte text) shown.0 few) shown.1) named.1

name_so : (text : List ℕ) (bytes letter free : Bool) → (is_some text && bytes && letter && free) ≡ true → length text ≤ 100 → (is_of_length 100 text && bytes && letter && free) ≡ true
name_so text bytes letter free e few =
    let p = both (is_some text && bytes && letter) free e in
    let q = both (is_some text && bytes) letter p.0 in
    and_so (is_of_length 100 text && bytes && letter) free (and_so (is_of_length 100 text && bytes) letter (with_length 100 text bytes q.0 few) q.1) p.1

fits_so : (rule : Rule) (text : List ℕ) → is_likely rule text ≡ true → length text ≤ most_bytes rule → fits rule text ≡ true
fits_so (StoredId Folder) text e few = either (length text == 0) (is_like_id text) (is_id text) e (λ l. id_so text l few)
fits_so (StoredId UserFolder) text e few = either (is_acl_users text) (is_like_id text) (is_id text) e (λ l. id_so text l few)
fits_so (StoredId Method) text e few = id_so text e few
fits_so (StoredId Document) text e few = id_so text e few
fits_so ChildName text e few = first_or (is_like_id text) (is_acl_users text) (is_id text) e (λ l. id_so text l few)
fits_so PropertyName text e few = name_so text _ _ _ e few
fits_so Value text e few = few_so _ _ few
fits_so Role text e few = with_length 64 text _ e few
fits_so UserName text e few = with_length 100 text _ e few
fits_so Password text e few = few_so _ _ few
fits_so Title text e few = few_so _ _ few
fits_so Source text e few = few_so _ _ few

pub likely_keeps : (rule : Rule) (text : List ℕ) → is_like rule text ≡ true → length text ≤ most_bytes rule → Keeps rule text
likely_keeps rule text e few = let p = both (is_likely rule text) (is_utf8 text) e in and_so (fits rule text) (is_utf8 text) (fits_so rule text p.0 few) p.1
