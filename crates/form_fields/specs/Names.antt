-- The suffixes of a field's name.
--
-- Zope Book, "Variables and Advanced DTML": `:int`, `:list` and `:string` behind a name say what its value is.
use Rattle.std.specs.Prelude.{ℕ, ◌-◌, zero, suc, Bool, true, false, List, length, take, Option, Some, None, if◌then◌else◌, codes}
use Rattle.std.specs.Bool.{nat_eq}
use Rattle.std.specs.List.{ends_with}

-- a name, with what its suffixes say
pub record Named : Type 0 where
  pub name : List ℕ
  pub is_int : Bool
  pub is_list : Bool

-- the name without that suffix, where it ends in it
abbrev pub without : List ℕ → List ℕ → Option (List ℕ)
without suffix name = if ends_with nat_eq name suffix then Some (take (length name - length suffix) name) else None

abbrev pub or_else : {A : Type 0} → Option A → Option A → Option A
or_else None other = other
or_else (Some x) other = Some x

abbrev pub said : Bool → Bool → Option (List ℕ) → Option Named
said is_int is_list None = None
said is_int is_list (Some name) = Some (record { name = name; is_int = is_int; is_list = is_list })

-- without the suffix at its end, where it has one
abbrev pub shorter : Named → Option Named
shorter x =
    or_else (said true x.is_list (without (codes ":int") x.name))
    (or_else (said x.is_int true (without (codes ":list") x.name))
    (said x.is_int x.is_list (without (codes ":string") x.name)))

abbrev pub goes_on : (Named → Named) → Named → Option Named → Named
goes_on go x None = x
goes_on go x (Some y) = go y

-- suffixes are taken off from the right as long as there are any, at most so many
abbrev pub stripped : ℕ → Named → Named
stripped zero x = x
stripped (suc n) x = goes_on (stripped n) x (shorter x)

-- each suffix takes some bytes of the name
unfoldable pub named_by : List ℕ → Named
named_by name = stripped (length name) (record { name = name; is_int = false; is_list = false })
