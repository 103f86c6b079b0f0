-- The object that was viewed last, and the text that it lends under a name.
use Rattle.std.specs.Prelude.{ℕ, ◌≡◌, nat_eq, true, List, Option, Some, None, Ok}
use Rattle.std.specs.List.{find, list_any}
use Rattle.std.specs.Str.{bytes_eq}
use Rattle.zbase.specs.Query.{run}
use Rattle.evaluator.specs.declared.permission.TheConstants.{VIEW}
use Rattle.evaluator.specs.declared.reply.Shown.{Shown}
use Rattle.zobject.specs.declared.object.Object.{Object}
use Rattle.zobject.specs.declared.object.Property.{Property}
use Rattle.zobject.specs.declared.object.PropValue.{PropValue}
use Rattle.zobject.specs.declared.object.PropValue.TheVariants as values
use Rattle.zobject.specs.Shapes.{shape_of}
use Rattle.zknown.specs.declared.kept.Kept.{Kept}
use Rattle.zknown.specs.Seen.{objects, shapes}
use Rattle.acquisition.specs.Acquiring.{here}
use Rattle.permissions.specs.Roles.{Role}
use Rattle.permissions.specs.Verdicts.{verdict_on}
use Rattle.permissions.specs.declared.who.Who.{Who}
use Rattle.permissions.specs.declared.who.Verdict.TheVariants as verdicts
use Rattle.namespace.specs.declared.viewed.Viewed.{Viewed}
use Rattle.namespace.specs.declared.word.Word.{Word}
use Rattle.namespace.specs.declared.word.Word.TheVariants as word
use Rattle.namespace.specs.Looks.{outlined}
use Rattle.namespace.specs.Names.{title_or_id, word_of}

-- the user is granted the view of the object, and it is shown
abbrev pub IsViewed : List (ℕ × Kept) → Who → List Shown → ℕ → Object → Type 0
IsViewed rows who shown o object = (role : Role)
    × (run (objects rows) (outlined (verdict_on who o VIEW)) ≡ Ok (verdicts.Granted role))
    × (run (objects rows) (here o) ≡ Ok object)
    × (run (shapes rows) (here o) ≡ Ok (shape_of object))
    × (list_any (λ (s : Shown). nat_eq s.oid o) shown ≡ true)

-- so is the one that is remembered, if one is
abbrev pub IsRemembered : List (ℕ × Kept) → Who → List Shown → Option Viewed → Type 0
IsRemembered rows who shown None = Unit {0}
IsRemembered rows who shown (Some v) = IsViewed rows who shown v.oid v.object.now

abbrev pub lent_value : PropValue → Option (List ℕ)
lent_value (values.Line t) = Some t
lent_value (values.Int n) = None
lent_value (values.Lines ts) = None

abbrev pub lent_property : Option Property → Option (List ℕ)
lent_property None = None
lent_property (Some p) = lent_value p.value

abbrev pub lent_as : Word → List ℕ → Object → Option (List ℕ)
lent_as word.Id name object = Some object.id
lent_as word.Title name object = Some object.title
lent_as word.TitleOrId name object = Some (title_or_id object)
lent_as word.ObjectIds name object = None
lent_as word.ObjectValues name object = None
lent_as word.Other name object = lent_property (find (λ (p : Property). bytes_eq p.name name) object.properties)

-- the text that the object itself has under a name, where that is one
unfoldable pub lent : Object → List ℕ → Option (List ℕ)
lent object name = lent_as (word_of name) name object
