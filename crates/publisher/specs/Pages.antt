-- The page of a published object: its user must be granted to view it, and its source is then rendered.
--
-- Zope Book, "Basic DTML"; the limits are this project's own.
use Rattle.std.specs.Prelude.{ℕ, List, [], None}
use Rattle.zobject.specs.declared.object.Object.{Object}
use Rattle.zobject.specs.Shapes.{shape_of}
use Rattle.permissions.specs.declared.who.Who.{Who}
use Rattle.permissions.specs.Verdicts.{proxy_user}
use Rattle.namespace.specs.declared.val.Named.{Named}
use Rattle.namespace.specs.Looks.{Looks, ◌>>=◌}
use Rattle.namespace.specs.Names.{Scope, act, viewing, whose}
use Rattle.dtml_values.specs.Values.{Left}
use Rattle.dtml_render.specs.Rendering.{source_of, source_text}

-- how many tags a page may evaluate, how many renderings may stand inside one another, and how many bytes of text may be
-- made
abbrev pub most_tags : ℕ
most_tags = 10000

abbrev pub most_renders : ℕ
most_renders = 32

abbrev pub most_output : ℕ
most_output = 1048576

abbrev pub whole_budget : Left
whole_budget = record { tags = most_tags; output = most_output }

-- the source of the published object, rendered; its verdicts are those of someone with the object's proxy roles, where it
-- has any
abbrev pub source_page : Scope → ℕ → Object → Looks (List ℕ × Left)
source_page scope o object = source_text most_renders (act (proxy_user (shape_of object)) scope) o (source_of object.part) whole_budget

-- the page of an object in a scope
unfoldable pub scope_page : Scope → ℕ → Looks (List ℕ × Left)
scope_page scope o = viewing (whose scope) o >>= source_page scope o

-- the names of a page: no layer yet, its client, and the request's values
abbrev pub page_scope : Who → List ℕ → List Named → Scope
page_scope user client request = record { user = user; acting = None; layers = []; client = client; request = request }

-- the page of an object for a user, with the names of a client and a request
abbrev pub page_text : Who → ℕ → List ℕ → List Named → Looks (List ℕ × Left)
page_text user o client request = scope_page (page_scope user client request) o
