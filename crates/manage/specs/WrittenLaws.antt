-- A settled record spells what its object is, whichever id the first new object gets.
use Rattle.std.proofs.Common.{◌≡◌, ◌∙◌, ℕ, ◌<◌, ◌+◌, ◌-◌, List, [], ◌∷◌, ◌++◌, length, take, drop, refl, sym, ap, arith, append_assoc, append-nil}
use Rattle.std.specs.Int.{w64, to_be_bytes}
use Rattle.std.specs.List.{flat_map}
use Rattle.std.proofs.lemmas.Grind.{flat_map-append}
use Rattle.std.proofs.lemmas.List.{length-append}
use Rattle.std.proofs.Math.Seq.{drop-append-add, take-append_seam}
use Rattle.zbase.specs.Numbers.{be16, be64}
use Rattle.zobject.specs.declared.object.Child.{Child}
use Rattle.zobject.specs.declared.object.Object.{Object}
use Rattle.zobject.specs.declared.version.Kind.TheVariants.{Folder}
use Rattle.zobject.specs.declared.version.Version.TheVariants.{Second}
use Rattle.zobject.specs.Texts.{letter}
use Rattle.zcodec.specs.Record.{child, list_of, local_roles, magic, property, record_text, setting, text}
use Rattle.evaluator.specs.declared.draft.Name.{Name}
use Rattle.manage.specs.Laws.{HolesFit}
use Rattle.manage.specs.Written.{IsSettled, grown, whole, with_child}

-- a field more before what is in two parts
behind : (a front last both : List ℕ) → both ≡ front ++ last → a ++ both ≡ (a ++ front) ++ last
behind a front last both e = ap (λ l. a ++ l) e ∙ sym (append_assoc a front last)

-- ---- the record of a folder, up to the id of its last child

pub children_front : List Child → List ℕ → List ℕ
children_front cs name = be16 (length cs + 1) ++ (flat_map child cs ++ text name)

children_end : (cs : List Child) (name : List ℕ) (oid : ℕ) → list_of child (cs ++ record { name = name; oid = oid } ∷ []) ≡ children_front cs name ++ be64 oid
unfolding list_of children_front
children_end cs name oid =
    ap (λ n. be16 n ++ flat_map child (cs ++ record { name = name; oid = oid } ∷ [])) (length-append cs (record { name = name; oid = oid } ∷ []))
    ∙ behind (be16 (length cs + 1)) (flat_map child cs ++ text name) (be64 oid) (flat_map child (cs ++ record { name = name; oid = oid } ∷ [])) items
  where
    items : flat_map child (cs ++ record { name = name; oid = oid } ∷ []) ≡ (flat_map child cs ++ text name) ++ be64 oid
    items = flat_map-append child cs (record { name = name; oid = oid } ∷ []) ∙ ap (λ l. flat_map child cs ++ l) (append-nil (text name ++ be64 oid)) ∙ sym (append_assoc (flat_map child cs) (text name) (be64 oid))

pub before_children : Object → List ℕ
before_children o =
    magic Second ++ (letter Folder ∷ []) ++ text o.id ++ be64 o.parent ++ text o.title
    ++ list_of setting o.settings ++ list_of local_roles o.locals ++ list_of (property Second) o.properties

pub folder_front : Object → List Child → List ℕ → List ℕ
folder_front o cs name = before_children o ++ children_front cs name

-- the id stands last
pub ends_with_id : (o : Object) (cs : List Child) (name : List ℕ) (oid : ℕ) → record_text Second (with_child o cs name oid) ≡ folder_front o cs name ++ be64 oid
unfolding record_text folder_front before_children
ends_with_id o cs name oid = behind (before_children o) (children_front cs name) (be64 oid) (list_of child (cs ++ record { name = name; oid = oid } ∷ [])) (children_end cs name oid)

-- ---- the hole

-- a record has some bytes
pub record_is_some : (o : Object) → 0 < length (record_text Second o)
unfolding record_text
record_is_some o = omega arith

eight : (n : ℕ) → length (be64 n) ≡ 8
unfolding be64
eight n = refl

place : (o : Object) (cs : List Child) (name : List ℕ) → length (record_text Second (with_child o cs name 0)) - 8 ≡ length (folder_front o cs name)
place o cs name =
    let whole = ap length (ends_with_id o cs name 0) in
    let parts = length-append (folder_front o cs name) (be64 0) in
    let last = eight 0 in
    omega (arith, whole, parts, last)

no_more : (n : ℕ) → n + 0 ≡ n
no_more n = omega arith

put_id : (front : List ℕ) (first : ℕ) → (take (length front) (front ++ be64 0) ++ to_be_bytes w64 (first + 0)) ++ drop (length front + 8) (front ++ be64 0) ≡ front ++ be64 first
unfolding be64
put_id front first = rw (take-append_seam front (be64 0), drop-append-add front (be64 0) 8, no_more first) (append-nil (front ++ to_be_bytes w64 first))

put_at : (bytes front : List ℕ) (at first : ℕ) → bytes ≡ front ++ be64 0 → at ≡ length front → (take at bytes ++ to_be_bytes w64 (first + 0)) ++ drop (at + 8) bytes ≡ front ++ be64 first
put_at bytes front at first is there = rw (is, there) (put_id front first)

-- ---- what is written

pub whole_settles : (name : Name) (object : Object) → IsSettled (whole name object)
whole_settles name object = λ first few. refl

pub grown_settles : (o : ℕ) (folder : Object) (cs : List Child) (name : List ℕ) → IsSettled (grown o folder cs name)
grown_settles o folder cs name = λ first few.
    put_at (record_text Second (with_child folder cs name 0)) (folder_front folder cs name) (length (record_text Second (with_child folder cs name 0)) - 8) first (ends_with_id folder cs name 0) (place folder cs name)
    ∙ sym (ends_with_id folder cs name first)

pub grown_fits : (o : ℕ) (folder : Object) (cs : List Child) (name : List ℕ) → HolesFit (grown o folder cs name)
grown_fits o folder cs name =
    let whole = ap length (ends_with_id folder cs name 0) in
    let parts = length-append (folder_front folder cs name) (be64 0) in
    let last = eight 0 in
    (((omega (arith, whole, parts, last), refl), tt), omega arith)
