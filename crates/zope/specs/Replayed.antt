-- What a run of a schedule over a file did: a replay, or a run of its requests one after another.
use Rattle.std.specs.Prelude.{◌≡◌, ℕ, List, [], Option}
use Rattle.std.specs.List.{AllByRecursion}
use Rattle.zbase.specs.History.{History}
use Rattle.zio.specs.Shelves.{Entry}
use Rattle.schedule.specs.declared.item.Item2.{Item2}
use Rattle.schedule.specs.declared.line.Line.{Line}
use Rattle.schedule.specs.Alone.{IsNoIdle, IsSerial}
use Rattle.schedule.specs.Courses.{lines_of}
use Rattle.schedule.specs.Explained.{Explained}
use Rattle.schedule.specs.Moments.{lost_lines}
use Rattle.fs_store.specs.Moments.{OpensTo}
use Rattle.http_in.specs.Messages.{one_message}
use Rattle.publisher.specs.Site.{site}
use Rattle.replay.specs.Printed.{Prints, terms_of}
use Rattle.site_links.specs.Linked.{linked}
use Rattle.zope.specs.Given.{Scheduled, Stored}

-- these bytes open to a history, and the sink grew by a report that the schedule may have over it
pub record Explains (limit : ℕ) (bytes : List ℕ) (items : List Item2) (old new : Option (List ℕ)) : Type 0 where
  pub history : History
  pub end : ℕ
  pub opens : OpensTo bytes history end
  pub report : List Line
  pub explained : Explained (terms_of one_message site linked limit end) history items report
  pub printed : Prints old new report

pub record Replayed (name : List ℕ) (limit : ℕ) (files : Option (List Entry)) (input old new : Option (List ℕ)) : Type 0 where
  -- where the shelf tells, that file has these bytes, and not too many
  pub bytes : List ℕ
  pub file : Stored files name bytes
  -- where the source tells, all of the input spells this schedule, within its limit
  pub items : List Item2
  pub scheduled : Scheduled input items
  -- what was written explains the schedule over that file
  pub explains : Explains limit bytes items old new

-- ---- requests that run one after another

-- These bytes open to a history, over which the requests of the schedule run one by one, each with as many steps as it needs to its
-- reply: no step is idle, and no request is lost. The sink grew by a report that this run may have.
pub record ExplainsAlone (limit : ℕ) (bytes : List ℕ) (items : List Item2) (old new : Option (List ℕ)) : Type 0 where
  pub history : History
  pub end : ℕ
  pub opens : OpensTo bytes history end
  pub run : List Item2
  pub serial : IsSerial items run
  pub report : List Line
  pub explained : Explained (terms_of one_message site linked limit end) history run report
  pub needed : AllByRecursion IsNoIdle (lines_of explained.trace)
  pub none_lost : lost_lines explained.end ≡ []
  pub printed : Prints old new report

-- the same of all of the input and of a file as of a replay
pub record RanAlone (name : List ℕ) (limit : ℕ) (files : Option (List Entry)) (input old new : Option (List ℕ)) : Type 0 where
  pub bytes : List ℕ
  pub file : Stored files name bytes
  pub items : List Item2
  pub scheduled : Scheduled input items
  pub explains : ExplainsAlone limit bytes items old new
