-- Objects of which one part is another, as management changes them.
--
-- Zope Developer's Guide, "Object Publishing": the calls of management.
use Rattle.std.specs.Prelude.{ℕ, Bool, not, List, [], ◌∷◌, ◌++◌, nat_lt}
use Rattle.std.specs.List.{filter, list_any}
use Rattle.std.specs.Str.{bytes_eq}
use Rattle.zobject.specs.declared.object.Setting.{Setting}
use Rattle.zobject.specs.declared.object.Local.{Local}
use Rattle.zobject.specs.declared.object.Property.{Property}
use Rattle.zobject.specs.declared.object.Child.{Child}
use Rattle.zobject.specs.declared.object.User.{User}
use Rattle.zobject.specs.declared.object.Part2.{Part2}
use Rattle.zobject.specs.declared.object.Object.{Object}
use Rattle.zobject.specs.Rules.{comes_before}

-- ---- an object with another part

abbrev pub with_id : List ℕ → Object → Object
with_id id o = record { id = id; parent = o.parent; title = o.title; settings = o.settings; locals = o.locals; properties = o.properties; part = o.part }

abbrev pub with_title : List ℕ → Object → Object
with_title title o = record { id = o.id; parent = o.parent; title = title; settings = o.settings; locals = o.locals; properties = o.properties; part = o.part }

abbrev pub with_settings : List Setting → Object → Object
with_settings settings o = record { id = o.id; parent = o.parent; title = o.title; settings = settings; locals = o.locals; properties = o.properties; part = o.part }

abbrev pub with_locals : List Local → Object → Object
with_locals locals o = record { id = o.id; parent = o.parent; title = o.title; settings = o.settings; locals = locals; properties = o.properties; part = o.part }

abbrev pub with_properties : List Property → Object → Object
with_properties properties o = record { id = o.id; parent = o.parent; title = o.title; settings = o.settings; locals = o.locals; properties = properties; part = o.part }

abbrev pub with_part : Part2 → Object → Object
with_part part o = record { id = o.id; parent = o.parent; title = o.title; settings = o.settings; locals = o.locals; properties = o.properties; part = part }

-- an object that was just made: it has an id, a container, a title and what only its kind has
abbrev pub new_object : List ℕ → ℕ → List ℕ → Part2 → Object
new_object id parent title part = record { id = id; parent = parent; title = title; settings = []; locals = []; properties = []; part = part }

-- ---- lists that rise

-- those that come before it, it, and those that come behind it: one that is neither gives way to it
abbrev pub put : {X : Type 0} → (X → X → Bool) → X → List X → List X
put before x xs = filter (λ y. before y x) xs ++ x ∷ filter (λ y. before x y) xs

abbrev pub put_setting : Setting → List Setting → List Setting
put_setting = put (λ (s t : Setting). nat_lt s.permission t.permission)

abbrev pub put_local : Local → List Local → List Local
put_local = put (λ (l k : Local). comes_before l.user k.user)

abbrev pub put_property : Property → List Property → List Property
put_property = put (λ (p q : Property). comes_before p.name q.name)

abbrev pub put_user : User → List User → List User
put_user = put (λ (u v : User). comes_before u.name v.name)

-- ---- children

-- those whose name is none of these
abbrev pub without_children : List (List ℕ) → List Child → List Child
without_children names cs = filter (λ (c : Child). not (list_any (bytes_eq c.name) names)) cs
