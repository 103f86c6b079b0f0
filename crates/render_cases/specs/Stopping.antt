-- A page that stopped, with the names that it goes on with.
use Rattle.std.specs.Prelude.{[]}
use Rattle.namespace.specs.Names.{Rested}
use Rattle.dtml_render.specs.declared.page.Page.{Page}
use Rattle.dtml_render.specs.Frames.{IsStanding, place_of}

-- it may go on with them
abbrev pub Stands : Page → Rested → Type 0
Stands page rested = IsStanding (place_of page (record { known = []; scope = rested.scope; shown = rested.shown }))
