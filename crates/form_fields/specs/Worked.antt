-- Worked forms and cookies.
use lib.Utf8.{encode}
use Rattle.std.specs.Prelude.{◌≡◌, refl, ℕ, pos, negsuc, true, List, [], ◌∷◌, Ok, Err, Some, None, codes, map}
use Rattle.std.specs.Str.{is_utf8, chars}
use Rattle.std.specs.Str.Lossy.{utf8_lossy, utf8_valid_len}
use Rattle.form_urlencoded.specs.Form.{raw_pairs, split}
use Rattle.percent_encoding.specs.Percent.{percent_decode}
use Rattle.http_in.specs.declared.message.Request.{Request}
use Rattle.http_in.specs.declared.message.Verb.{Verb}
use Rattle.form_fields.specs.declared.field.FieldValue.{FieldValue}
use Rattle.form_fields.specs.declared.field.Scalar.{Scalar}
use Rattle.form_fields.specs.Cookies.{cookies_of, trimmed}
use Rattle.form_fields.specs.Fields.{fields_if, fields_of}
use Rattle.form_fields.specs.Names.{named_by}
use Rattle.form_fields.specs.Numbers.{whole_number}
use Rattle.form_fields.specs.Pairs.{pairs, pairs_of}
use Rattle.form_fields.specs.Rows.{rows_of}

abbrev text : List ℕ → FieldValue
text value = FieldValue.One (Scalar.Text value)

-- ---- names and numbers

names : map (λ n. (named_by n).name) (codes "a" ∷ codes "a:int" ∷ codes "a:list:int:string" ∷ codes "a:int:x" ∷ codes ":int:list" ∷ codes "int" ∷ codes "a:" ∷ codes "a:INT" ∷ [])
    ≡ codes "a" ∷ codes "a" ∷ codes "a" ∷ codes "a:int:x" ∷ [] ∷ codes "int" ∷ codes "a:" ∷ codes "a:INT" ∷ []
unfolding named_by
names = refl

both : named_by (codes "n:int:list:string") ≡ record { name = codes "n"; is_int = true; is_list = true }
unfolding named_by
both = refl

numbers : map whole_number (codes "0" ∷ codes "-0" ∷ codes "007" ∷ codes "-7" ∷ codes "9223372036854775807" ∷ codes "-9223372036854775808" ∷ [])
    ≡ Some (pos 0) ∷ Some (pos 0) ∷ Some (pos 7) ∷ Some (negsuc 6) ∷ Some (pos 9223372036854775807) ∷ Some (negsuc 9223372036854775807) ∷ []
unfolding whole_number
numbers = refl

none : map whole_number ([] ∷ codes "-" ∷ codes "+5" ∷ codes "5 " ∷ codes "--5" ∷ codes "5a" ∷ codes "9223372036854775808" ∷ codes "-9223372036854775809" ∷ [])
    ≡ None ∷ None ∷ None ∷ None ∷ None ∷ None ∷ None ∷ None ∷ []
unfolding whole_number
none = refl

-- ---- fields

ids : fields_if (rows_of ((codes "a", codes "1") ∷ (codes "b:list", codes "x") ∷ (codes "a", codes "2") ∷ (codes "n:int:string", codes "-07") ∷ []))
    ≡ Ok (record { name = codes "a"; value = FieldValue.List (Scalar.Text (codes "1") ∷ Scalar.Text (codes "2") ∷ []) }
    ∷ record { name = codes "b"; value = FieldValue.List (Scalar.Text (codes "x") ∷ []) }
    ∷ record { name = codes "n"; value = FieldValue.One (Scalar.Int (negsuc 6)) } ∷ [])
unfolding named_by whole_number
ids = refl

too_wide : fields_if (rows_of ((codes "y", codes "z") ∷ (codes "x:int", codes "9223372036854775808") ∷ (codes "w:int", []) ∷ [])) ≡ Err (codes "x")
unfolding named_by whole_number
too_wide = refl

abbrev posted : Request
posted = record { method = Verb.Post; path = []; raw = codes "/"; query = codes "b=1&c=x+y"; headers = []; body = codes "b:int=2" }

-- the query first, then the body, each name once
sent : fields_of posted ≡ Ok (record { name = codes "b"; value = FieldValue.List (Scalar.Text (codes "1") ∷ Scalar.Int (pos 2) ∷ []) } ∷ record { name = codes "c"; value = text (codes "x y") } ∷ [])
unfolding fields_of pairs pairs_of raw_pairs split percent_decode named_by whole_number utf8_lossy utf8_valid_len is_utf8 chars encode
sent = refl

-- ---- cookies

spaces : map trimmed (codes " a b  " ∷ codes "   " ∷ [] ∷ codes "a" ∷ []) ≡ codes "a b" ∷ [] ∷ [] ∷ codes "a" ∷ []
spaces = refl

abbrev request : List ℕ → Request
request cookie = record { method = Verb.Get; path = []; raw = []; query = []; headers = record { name = codes "cookie"; value = cookie } ∷ []; body = [] }

some : cookies_of (request (codes "c=1; d=2;e; c = 3;f=a=b;c=4;=v")) ≡ record { name = codes "c"; value = text (codes "1") } ∷ record { name = codes "d"; value = text (codes "2") } ∷ record { name = codes "c "; value = text (codes " 3") } ∷ record { name = codes "f"; value = text (codes "a=b") } ∷ record { name = []; value = text (codes "v") } ∷ []
unfolding cookies_of
some = refl
