-- What a drawn run did, or why it did not end well: the schedule that a number draws, replayed over a new site, and six lines on its report.
--
-- The order of looking is: the run; the printing.
use Rattle.std.specs.Prelude.{◌≡◌, ◌⊎◌, ◌+◌, ℕ, List, [], ◌∷◌, ◌++◌, Option, Some, codes, decimal}
use Rattle.std.specs.Io.KnownBytes.{append_known}
use Rattle.zbase.specs.Hex.{hex16_text}
use Rattle.zbase.specs.History.{History}
use Rattle.schedule.specs.declared.item.Item2.{Item2}
use Rattle.schedule.specs.declared.line.Line.{Line}
use Rattle.schedule.specs.Explained.{Explained}
use Rattle.schedule.specs.Lines.{report_text}
use Rattle.fs_store.specs.Moments.{OpensTo}
use Rattle.fs_store.specs.Stores.{most_length}
use Rattle.http_in.specs.Messages.{one_message}
use Rattle.publisher.specs.Site.{site}
use Rattle.replay.specs.Printed.{terms_of}
use Rattle.drawn_runs.specs.Rounds.{drawn_run}
use Rattle.new_site.specs.NewSite.{site_file}
use Rattle.report_tally.specs.Lasts.{last_tid}
use Rattle.report_tally.specs.Tallies.{capped, tally_of}
use Rattle.report_tally.specs.declared.kind.Tally.{Tally}
use Rattle.site_links.specs.Linked.{linked}
use Rattle.zope.specs.declared.refusal.Refusal.{Refusal}
use Rattle.zope.specs.CheckCauses.{PrintCause}
use Rattle.zope.specs.ReplayCauses.{Broke}

-- ---- the site

-- 0331620000000000, in hexadecimal
abbrev pub first_stamp : ℕ
first_stamp = 230072808112128000

-- a new site with the manager `admin` and the password `secret`
abbrev pub first_file : List ℕ
first_file = site_file first_stamp (codes "admin") (codes "secret")

-- ---- what is printed

abbrev pub requests_in : List Item2 → ℕ
requests_in [] = 0
requests_in (Item2.Request w bytes ∷ items) = 1 + requests_in items
requests_in (_ ∷ items) = requests_in items

abbrev pub counted_lines : ℕ → Tally → List ℕ
counted_lines requests t =
    codes "requests " ++ (decimal requests ++ (10 ∷ codes "reads " ++ (decimal t.reads ++ (10 ∷ codes "commits " ++ (decimal t.commits ++ (10 ∷ codes "conflicts " ++ (decimal t.conflicts ++ (10 ∷ codes "givenup " ++ (decimal t.given_up ++ 10 ∷ [])))))))))

-- six lines: five counts, and the digits of the last transaction
abbrev pub six_lines : ℕ → Tally → List ℕ → List ℕ
six_lines requests tally last = counted_lines requests tally ++ codes "last " ++ last ++ 10 ∷ []

-- of a schedule and a report
abbrev pub summary_text : List Item2 → List Line → List ℕ
summary_text items report = six_lines (capped (requests_in items)) (tally_of report) (hex16_text (last_tid report))

-- a report that the drawn schedule may have over the site
pub record ReportsDrawn (number : ℕ) (report : List Line) : Type 0 where
  pub history : History
  pub end : ℕ
  pub opens : OpensTo first_file history end
  pub explained : Explained (terms_of one_message site linked most_length end) history (drawn_run number) report

-- these bytes are the text of such a report
pub record IsReportOf (number : ℕ) (written : Option (List ℕ)) : Type 0 where
  pub report : List Line
  pub reports : ReportsDrawn number report
  pub text : written ≡ Some (report_text report)

-- the six lines on such a report were printed
pub record Drawn (number : ℕ) (old new : Option (List ℕ)) : Type 0 where
  pub report : List Line
  pub reports : ReportsDrawn number report
  pub printed : new ≡ append_known old (summary_text (drawn_run number) report)

-- ---- why not

-- what the run is refused for: a request that can't be run at its line, or want of memory
abbrev pub RunCause : (number : ℕ) → Refusal → Type 0
RunCause number (Refusal.BadLine n) = (old new : Option (List ℕ)) × Broke most_length first_file (drawn_run number) old new n
RunCause number Refusal.Memory = Unit {0}
RunCause number _ = ⊥

-- it did all, but for the printing, of which a front was written
pub record DrawnUntold (number : ℕ) (sink : Type 0) (old new : Option (List ℕ)) (e : Refusal) : Type 0 where
  pub report : List Line
  pub reports : ReportsDrawn number report
  pub printed : PrintCause sink (summary_text (drawn_run number) report) old new e

-- the cause of a refusal: of the run, before which nothing is written, or of the printing
abbrev pub DrawnCause : (number : ℕ) (sink : Type 0) (old new : Option (List ℕ)) → Refusal → Type 0
DrawnCause number sink old new e = (RunCause number e × (new ≡ old)) ⊎ DrawnUntold number sink old new e

-- Nothing is a cause: whatever report the lines before it may have, a line's request is one message and comes to a free worker; and no
-- count rose.
pub record NoDrawnCause (number : ℕ) (sink : Type 0) : Type 0 where
  pub runs : (n : ℕ) (old new : Option (List ℕ)) → Broke most_length first_file (drawn_run number) old new n → ⊥
  pub sink_calm : sink → ⊥
