-- What is known keeps the rules of objects, where each object that was added does.
use Rattle.std.proofs.Common.{◌≡◌, ℕ, ◌==◌, Bool, true, false, List, Option, Some, None, option_map, Result, Ok, Err, sym, subst, ap, if◌then◌else◌}
use Rattle.zobject.specs.declared.object.Object.{Object}
use Rattle.zobject.specs.declared.refusal.CodecRefusal.{CodecRefusal}
use Rattle.zobject.specs.declared.refusal.CodecRefusal.TheVariants as refusal
use Rattle.zobject.specs.Rules.{IsObject}
use Rattle.zknown.specs.declared.kept.Kept.{Kept}
use Rattle.zknown.specs.Seen.{Added, Here, Seen, kept_of, last_added, objects, seen_as}
use Rattle.manage.specs.Changing.{KeepRules}

some_is : {A : Type 0} {x y : A} → ◌≡◌ {A = Option A} (Some x) (Some y) → x ≡ y
some_is e = cc

here_is : {x y : Object} → ◌≡◌ {A = Seen Object} (Here x) (Here y) → x ≡ y
here_is e = cc

abbrev whole : Kept → Seen Object
whole = seen_as (λ object. object)

-- an object that is seen is the one that was read
seen_read : (fact : Option (Result Object CodecRefusal)) (x : Object) → option_map whole (kept_of fact) ≡ Some (Here x) → fact ≡ Some (Ok x)
seen_read None x e = absurd (let bad = e in cc)
seen_read (Some (Ok o)) x e = ap (λ y. Some (Ok y)) (here_is (some_is e))
seen_read (Some (Err (refusal.BadRecord at))) x e = absurd (let bad = e in cc)
seen_read (Some (Err refusal.Memory)) x e = absurd (let bad = e in cc)

-- what is found is what was added, or what was known before
one_more : (is : Bool) (added : Kept) (found : Option Kept) (x : Object) → (option_map whole (Some added) ≡ Some (Here x) → IsObject x) → (option_map whole found ≡ Some (Here x) → IsObject x)
    → option_map whole (if is then Some added else found) ≡ Some (Here x) → IsObject x
one_more true added found x this others e = this e
one_more false added found x this others e = others e

pub keeps_more : (old new : List (ℕ × Kept)) (oid : ℕ) (fact : Option (Result Object CodecRefusal)) → ((o : Object) → fact ≡ Some (Ok o) → IsObject o) → KeepRules (objects old) → Added oid fact old new → KeepRules (objects new)
keeps_more old new oid fact lawful keeps added o x e =
    one_more (oid == o) added.0 (last_added old o) x
    (λ s. lawful x (seen_read fact x (subst (λ k. option_map whole k ≡ Some (Here x)) (sym added.1) s)))
    (keeps o x)
    (subst (λ found. option_map whole found ≡ Some (Here x)) (added.2 o) e)

pub none_keep : (rows : List (ℕ × Kept)) → ((o : ℕ) → last_added rows o ≡ None) → KeepRules (objects rows)
none_keep rows none o x e = absurd (let bad = subst (λ found. option_map whole found ≡ Some (Here x)) (none o) e in cc)

-- rows that are others keep the rules where those do
pub same_keep : (new old : List (ℕ × Kept)) → new ≡ old → KeepRules (objects old) → KeepRules (objects new)
same_keep new old same keeps = subst (λ rows. KeepRules (objects rows)) (sym same) keeps
