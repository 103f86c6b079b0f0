-- The names of a request.
--
-- Zope Book, "Variables and Advanced DTML": the web request, `URL0`, `REQUEST_METHOD` and `AUTHENTICATED_USER`.
use Rattle.std.specs.Prelude.{ℕ, List, [], ◌∷◌, ◌++◌, map, Option, Some, None, codes}
use Rattle.http_in.specs.declared.message.Request.{Request}
use Rattle.http_in.specs.declared.message.Verb.{Verb}
use Rattle.http_in.specs.declared.message.Verb.TheVariants as verb
use Rattle.http_in.specs.Headers.{first_value}
use Rattle.form_fields.specs.declared.field.Field.{Field}
use Rattle.form_fields.specs.declared.field.FieldValue.{FieldValue}
use Rattle.form_fields.specs.declared.field.FieldValue.TheVariants as fields
use Rattle.form_fields.specs.declared.field.Scalar.{Scalar}
use Rattle.form_fields.specs.declared.field.Scalar.TheVariants as scalar
use Rattle.permissions.specs.declared.who.Who.{Who}
use Rattle.permissions.specs.declared.who.Who.TheVariants as who
use Rattle.namespace.specs.declared.val.Single.{Single}
use Rattle.namespace.specs.declared.val.Single.TheVariants as single
use Rattle.namespace.specs.declared.val.Val.{Val}
use Rattle.namespace.specs.declared.val.Val.TheVariants as val
use Rattle.namespace.specs.declared.val.Named.{Named}
use Rattle.namespace.specs.Names.{text}

abbrev pub or_localhost : Option (List ℕ) → List ℕ
or_localhost None = codes "localhost"
or_localhost (Some host) = host

abbrev pub host_name : List ℕ
host_name = codes "Host"

-- the address that was asked for, up to its `?`, as it came
abbrev pub url : Request → List ℕ
url q = codes "http://" ++ or_localhost (first_value host_name q.headers) ++ q.raw

abbrev pub method_text : Verb → List ℕ
method_text verb.Get = codes "GET"
method_text verb.Head = codes "HEAD"
method_text verb.Post = codes "POST"

abbrev pub user_text : Who → List ℕ
user_text who.Anonymous = codes "Anonymous User"
user_text (who.Known name roles home) = name

abbrev pub scalar_value : Scalar → Single
scalar_value (scalar.Text t) = single.Text t
scalar_value (scalar.Int n) = single.Int n

-- a list is a sequence
abbrev pub field_value : FieldValue → Val
field_value (fields.One x) = val.Single (scalar_value x)
field_value (fields.List xs) = val.Seq (map scalar_value xs)

abbrev pub named_field : Field → Named
named_field f = record { name = f.name; val = field_value f.value }

abbrev pub named_text : List ℕ → List ℕ → Named
named_text name t = record { name = name; val = text t }

-- the names of every request
abbrev pub own_names : Request → Who → List Named
own_names q user = named_text (codes "URL0") (url q) ∷ named_text (codes "REQUEST_METHOD") (method_text q.method) ∷ named_text (codes "AUTHENTICATED_USER") (user_text user) ∷ []

-- these, then the fields, then the cookies; the first of a name counts
unfoldable pub request_names : Request → Who → List Field → List Field → List Named
request_names q user form cookies = own_names q user ++ map named_field form ++ map named_field cookies
