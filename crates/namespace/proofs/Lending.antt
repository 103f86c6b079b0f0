-- What an object lends that was viewed is what its name means.
use Rattle.std.proofs.Common.{ℕ, ◌≡◌, ◌∙◌, ◌||◌, refl, sym, ap, Bool, true, false, nat_eq, if◌then◌else◌, List, [], ◌∷◌, ◌++◌, reverse, codes, Option, None, Some, option_map, Ok}
use Rattle.std.proofs.lemmas.Cmp.{nat_eq_equiv}
use Rattle.std.specs.Prelude.{IfSome}
use Rattle.std.specs.List.{find, list_any}
use Rattle.std.specs.Str.{bytes_eq}
use Rattle.evaluator.specs.declared.reply.Shown.{Shown}
use Rattle.zobject.specs.Texts.{begins_with}
use Rattle.zobject.specs.Shapes.{shape_of}
use Rattle.zobject.specs.declared.object.Object.{Object}
use Rattle.zobject.specs.declared.object.Property.{Property}
use Rattle.zobject.specs.declared.object.PropValue.{PropValue}
use Rattle.zobject.specs.declared.object.PropValue.TheVariants as values
use Rattle.zknown.specs.declared.kept.Kept.{Kept}
use Rattle.zknown.specs.Seen.{objects}
use Rattle.permissions.specs.Roles.{Role}
use Rattle.permissions.specs.declared.who.Who.{Who}
use Rattle.namespace.specs.declared.val.Layer.{Layer}
use Rattle.namespace.specs.declared.val.Layer.TheVariants as layer
use Rattle.namespace.specs.declared.val.Named.{Named}
use Rattle.namespace.specs.declared.val.Val.{Val}
use Rattle.namespace.specs.declared.viewed.Viewed.{Viewed}
use Rattle.namespace.specs.declared.word.Word.{Word}
use Rattle.namespace.specs.declared.word.Word.TheVariants as word
use Rattle.namespace.specs.Looks.{Looks, Done, looked, taken, ◌>>=◌}
use Rattle.namespace.specs.LookLaws.{looked_goes}
use Rattle.namespace.specs.declared.hit.Hit.TheVariants as code
use Rattle.namespace.specs.Locating.{Found, all_of, given_of, leading, located_among, located_by_word, located_for, located_in, located_in_base, located_in_layer, located_in_layers, located_in_one, located_is}
use Rattle.namespace.specs.Names.{text, title_or_id, word_of, value_of, property_value, seeing, viewing, by_word, title_in, title_or_id_in, property_in, property_or_child, named_for}
use Rattle.namespace.specs.Told.{Begins}
use Rattle.namespace.specs.Viewing.{IsViewed, IsRemembered, lent, lent_as, lent_property, lent_value}
use Rattle.namespace.proofs.Loops.{hit_ends, search_hits, layer_hits}
use Rattle.namespace.proofs.Properties.{property_is}
use Rattle.namespace.proofs.Steps.{view_goes, sees}

the_same : (s t : List ℕ) → Some s ≡ Some t → s ≡ t
the_same s t e = cc

module _ (rows : List (ℕ × Kept)) (who : Who) (name whole : List ℕ) (o : ℕ) (object : Object) (shown : List Shown) (viewed : IsViewed rows who shown o object) (t : List ℕ) where
  -- what is shown already isn't shown again
  took : (who : Who) → shown ≡ taken who o viewed.0 shown
  took who = sym (ap (λ b. if b then shown else shown ++ record { oid = o; role = viewed.0 } ∷ []) viewed.4)

  of_view : (next : Object → Looks (Option Val)) → next object ≡ Done (Some (text t)) → looked (objects rows) shown (viewing who o >>= next) ≡ Ok (Some (text t), shown)
  of_view next made = view_goes (objects rows) who o viewed.0 object shown shown next (Some (text t)) viewed.1 viewed.2 made took

  value_is : (v : PropValue) → lent_value v ≡ Some t → value_of v ≡ text t
  value_is (values.Line s) e = ap text (the_same s t e)
  value_is (values.Int n) e = absurd (let bad = e in cc)
  value_is (values.Lines ss) e = absurd (let bad = e in cc)

  of_property : (p : Option Property) → find (λ (p : Property). bytes_eq p.name name) object.properties ≡ p → lent_property p ≡ Some t → looked (objects rows) shown (property_or_child who name whole o (shape_of object)) ≡ Ok (Some (text t), shown)
  unfolding property_in
  of_property None found e = absurd (let bad = e in cc)
  of_property (Some p) found e =
      ap (looked (objects rows) shown) (property_is who name whole o object p found)
      ∙ of_view (λ object. Done (property_value name object.properties)) (ap (λ f. Done (option_map (λ (p : Property). value_of p.value) f)) found ∙ ap (λ v. Done (Some v)) (value_is p.value e))

  of_word : (w : Word) → lent_as w name object ≡ Some t → looked (objects rows) shown (by_word who w name whole o (shape_of object)) ≡ Ok (Some (text t), shown)
  unfolding by_word title_in title_or_id_in shape_of
  of_word word.Id e = ap (λ t. Ok (Some (text t), shown)) (the_same object.id t e)
  of_word word.Title e = of_view (λ object. Done (Some (text object.title))) (ap (λ t. Done (Some (text t))) (the_same object.title t e))
  of_word word.TitleOrId e = of_view (λ object. Done (Some (text (title_or_id object)))) (ap (λ t. Done (Some (text t))) (the_same (title_or_id object) t e))
  of_word word.ObjectIds e = absurd (let bad = e in cc)
  of_word word.ObjectValues e = absurd (let bad = e in cc)
  of_word word.Other e = of_property (find (λ (p : Property). bytes_eq p.name name) object.properties) refl e

  -- so the word leads to that text
  led : (w : Word) → looked (objects rows) shown (by_word who w name whole o (shape_of object)) ≡ Ok (Some (text t), shown) → looked (objects rows) shown (leading (by_word who w name whole o (shape_of object))) ≡ Ok (Some (Found (text t)), shown)
  led w e = looked_goes (objects rows) shown (by_word who w name whole o (shape_of object)) given_of (Some (text t), shown) e

  led_by_word : (w : Word) → lent_as w name object ≡ Some t → looked (objects rows) shown (located_by_word who w name whole o (shape_of object)) ≡ Ok (Some (Found (text t)), shown)
  unfolding located_by_word
  led_by_word word.Id e = led word.Id (of_word word.Id e)
  led_by_word word.Title e = led word.Title (of_word word.Title e)
  led_by_word word.TitleOrId e = led word.TitleOrId (of_word word.TitleOrId e)
  led_by_word word.ObjectIds e = led word.ObjectIds (of_word word.ObjectIds e)
  led_by_word word.ObjectValues e = absurd (let bad = e in cc)
  led_by_word word.Other e = led word.Other (of_word word.Other e)

  module _ (is_lent : lent object name ≡ Some t) where
    in_itself : looked (objects rows) shown (located_in_one who name whole o) ≡ Ok (Some (Found (text t)), shown)
    unfolding located_in_one lent
    in_itself = looked_goes (objects rows) shown (seeing o) (λ shape. located_by_word who (word_of name) name whole o shape) (shape_of object, shown) (sees rows o (shape_of object) shown viewed.3) ∙ led_by_word (word_of name) is_lent

    module _ (others : List ℕ) (is_first : whole ≡ o ∷ others) (is_open : begins_with (codes "_") name ≡ false) where
      in_whole : looked (objects rows) shown (located_in who whole name) ≡ Ok (Some (Found (text t)), shown)
      unfolding located_in
      in_whole = ap (λ b. looked (objects rows) shown (if b then Done None else located_among who name whole whole)) is_open ∙ search_hits (objects rows) shown who name whole whole others o _ is_first refl shown (Some (code.Found (text t))) in_itself refl

      located_so : (layers older : List Layer) (client : List ℕ) (request : List Named) → layers ≡ older ++ layer.Object whole ∷ [] → looked (objects rows) shown (located_for who name layers client request) ≡ Ok (Some (Found (text t)), shown)
      unfolding located_for located_in_layer
      located_so layers older client request is =
          hit_ends (objects rows) shown shown (located_in_layers who name (reverse layers)) (located_in_base who name client request) (Some (code.Found (text t))) (layer_hits (objects rows) shown who name layers older (layer.Object whole) _ is refl shown (Some (code.Found (text t))) in_whole refl) refl

      pub lent_so : (layers older : List Layer) (client : List ℕ) (request : List Named) → layers ≡ older ++ layer.Object whole ∷ [] → looked (objects rows) shown (named_for who name layers client request) ≡ Ok (Some (text t), shown)
      lent_so layers older client request is =
          ap (looked (objects rows) shown) (sym (located_is (record { user = who; acting = None; layers = layers; client = client; request = request }) name))
          ∙ looked_goes (objects rows) shown (located_for who name layers client request) all_of (Some (Found (text t)), shown) (located_so layers older client request is)

pub if_some : {A : Type 0} (r : Option A) (P Q : A → Type 0) → ((x : A) → P x → Q x) → IfSome r P → IfSome r Q
if_some None P Q so is = tt
if_some (Some x) P Q so is = so x is

-- ---- what is shown stays shown

or_right : (a b : Bool) → b ≡ true → (a || b) ≡ true
or_right true b e = refl
or_right false b e = e

any_last : (o : ℕ) (role : Role) (former : List Shown) → list_any (λ (s : Shown). nat_eq s.oid o) (former ++ record { oid = o; role = role } ∷ []) ≡ true
any_last o role [] = ap (λ b. b || false) (nat_eq_equiv.refl o)
any_last o role (s ∷ former) = or_right (nat_eq s.oid o) (list_any (λ (s : Shown). nat_eq s.oid o) (former ++ record { oid = o; role = role } ∷ [])) (any_last o role former)

pub any_taken : (who : Who) (o : ℕ) (role : Role) (former present : List Shown) → present ≡ taken who o role former → list_any (λ (s : Shown). nat_eq s.oid o) present ≡ true
any_taken who o role former present is = ap (list_any (λ (s : Shown). nat_eq s.oid o)) is ∙ at (list_any (λ (s : Shown). nat_eq s.oid o) former) refl
  where
    at : (b : Bool) → list_any (λ (s : Shown). nat_eq s.oid o) former ≡ b → list_any (λ (s : Shown). nat_eq s.oid o) (if b then former else former ++ record { oid = o; role = role } ∷ []) ≡ true
    at true e = e
    at false e = any_last o role former

any_more : (o : ℕ) (former rest : List Shown) → list_any (λ (s : Shown). nat_eq s.oid o) former ≡ true → list_any (λ (s : Shown). nat_eq s.oid o) (former ++ rest) ≡ true
any_more o [] rest e = absurd (let bad = e in cc)
any_more o (s ∷ former) rest e = at (nat_eq s.oid o) e (any_more o former rest)
  where
    at : (b : Bool) → (b || list_any (λ (s : Shown). nat_eq s.oid o) former) ≡ true → (list_any (λ (s : Shown). nat_eq s.oid o) former ≡ true → list_any (λ (s : Shown). nat_eq s.oid o) (former ++ rest) ≡ true) → (b || list_any (λ (s : Shown). nat_eq s.oid o) (former ++ rest)) ≡ true
    at true e further = refl
    at false e further = further e

pub still : (rows : List (ℕ × Kept)) (who : Who) (former present : List Shown) (v : Option Viewed) → Begins former present → IsRemembered rows who former v → IsRemembered rows who present v
still rows who former present None begins is = tt
still rows who former present (Some v) begins is = (is.0, is.1, is.2, is.3, ap (list_any (λ (s : Shown). nat_eq s.oid v.oid)) begins.1 ∙ any_more v.oid former begins.0 is.4)
