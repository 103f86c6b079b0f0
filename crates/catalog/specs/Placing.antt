-- Lists of ids and of texts: what stands in them, and the same with an id more or less.
use Rattle.std.specs.Prelude.{ℕ, nat_eq, nat_lt, Bool, not, List}
use Rattle.std.specs.List.{filter, list_any}
use Rattle.std.specs.Str.{bytes_eq}
use Rattle.zobject.specs.Changes.{put}

-- ---- ids of objects

abbrev pub is_among : ℕ → List ℕ → Bool
is_among o oids = list_any (nat_eq o) oids

abbrev pub without_oid : ℕ → List ℕ → List ℕ
without_oid o oids = filter (λ p. not (nat_eq o p)) oids

abbrev pub with_oid : ℕ → List ℕ → List ℕ
with_oid o oids = put nat_lt o oids

-- ---- texts

abbrev pub has_text : List ℕ → List (List ℕ) → Bool
has_text text texts = list_any (bytes_eq text) texts
