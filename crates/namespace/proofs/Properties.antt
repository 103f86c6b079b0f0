-- An object has a property exactly where its shape has the name.
use Rattle.std.proofs.Common.{ℕ, ◌≡◌, ◌∙◌, refl, ap, Bool, true, false, ◌||◌, List, [], ◌∷◌, map, None, Some, is_some, if◌then◌else◌}
use Rattle.std.specs.List.{find, list_any}
use Rattle.std.specs.Str.{bytes_eq}
use Rattle.zobject.specs.declared.object.Object.{Object}
use Rattle.zobject.specs.declared.object.Property.{Property}
use Rattle.zobject.specs.Shapes.{shape_of, form_of, child_in}
use Rattle.permissions.specs.declared.who.Who.{Who}
use Rattle.namespace.specs.Names.{property_in, child_at, property_or_child}

is_named : (name : List ℕ) (properties : List Property) →
    list_any (λ n. bytes_eq n name) (map (λ (p : Property). p.name) properties) ≡ is_some (find (λ (p : Property). bytes_eq p.name name) properties)
is_named name [] = refl
is_named name (p ∷ properties) = at (bytes_eq p.name name) (is_named name properties)
  where
    at : (b : Bool) → list_any (λ n. bytes_eq n name) (map (λ (p : Property). p.name) properties) ≡ is_some (find (λ (p : Property). bytes_eq p.name name) properties) →
        (b || list_any (λ n. bytes_eq n name) (map (λ (p : Property). p.name) properties)) ≡ is_some (if b then Some p else find (λ (p : Property). bytes_eq p.name name) properties)
    at true further = refl
    at false further = further

module _ (who : Who) (name whole : List ℕ) (o : ℕ) (object : Object) where
  pub property_is : (p : Property) → find (λ (p : Property). bytes_eq p.name name) object.properties ≡ Some p → property_or_child who name whole o (shape_of object) ≡ property_in who name o
  unfolding property_or_child shape_of
  property_is p e = ap (λ has. if has then property_in who name o else child_at whole (child_in name (form_of object.part))) (is_named name object.properties ∙ ap is_some e)

  pub child_is : find (λ (p : Property). bytes_eq p.name name) object.properties ≡ None → property_or_child who name whole o (shape_of object) ≡ child_at whole (child_in name (form_of object.part))
  unfolding property_or_child shape_of
  child_is e = ap (λ has. if has then property_in who name o else child_at whole (child_in name (form_of object.part))) (is_named name object.properties ∙ ap is_some e)
