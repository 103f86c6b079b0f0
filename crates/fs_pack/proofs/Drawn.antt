-- What the steps of planning say, where the disk tells.
use Rattle.std.proofs.Common.{◌≡◌, ℕ, ◌<◌, ◌^◌, List, length, Option, Some, None, IfSome, sym, subst}
use Rattle.zbase.specs.History.{Value}
use Rattle.zdisk.specs.Disk.{Told, content}
use Rattle.packing.specs.Packed.{records_in}
use Rattle.packing.specs.Reachable.{Linking}
use Rattle.fs_pack.specs.Chosen.{Planned, marks_of}
use Rattle.fs_pack.specs.Entries.{entries, said}
use Rattle.fs_pack.specs.KeepLaws.{least_of}
use Rattle.fs_pack.specs.Marked.{is_in}
use Rattle.fs_pack.specs.Measured.{IsOver, Measures}
use Rattle.fs_pack.specs.Numbered.{AreNumbered, oids_of}
use Rattle.fs_pack.specs.PlanLaws.{Search, draws, lacks_one, passes_so, stands_so}
use Rattle.fs_pack.specs.Plans.{Draws, LacksObject, PassesLimit, StandsFor}
use Rattle.fs_pack.specs.Surveyed.{Surveys, entries_to}
use Rattle.fs_pack.specs.declared.surveying.Survey.{Survey}
use Rattle.fs_pack.specs.declared.tallying.Tally.{Tally}

abbrev pub Searched : Option Told → Linking → List ℕ → Survey → List ℕ → Option ℕ → Type 0
Searched o links places s now fails = IfSome o (λ told. Search links (content told) places s now fails)

pub lacks_there : (o p : Option Told) (links : Linking) (t : ℕ) (places : List ℕ) (s : Survey) (now : List ℕ) (fails : Option ℕ) (oid : ℕ) → p ≡ o → IfSome o (λ told. Surveys links (content told) t places s)
    → Searched p links places s now fails → least_of fails s.broken ≡ Some oid → IfSome o (λ told. LacksObject links (content told) t oid)
lacks_there None p links t places s now fails oid same v search is = tt
lacks_there (Some told) p links t places s now fails oid same v search is =
    lacks_one links (content told) t places s v now fails (subst (λ (d : Option Told). Searched d links places s now fails) same search) oid is

pub draws_there : (o p : Option Told) (links : Linking) (t : ℕ) (places : List ℕ) (s : Survey) (now : List ℕ) (fails : Option ℕ) (plan : Planned) → p ≡ o → IfSome o (λ told. Surveys links (content told) t places s)
    → Searched p links places s now fails → least_of fails s.broken ≡ None → plan.before ≡ t → plan.until ≡ s.until
    → ((rs : List (ℕ × Value)) → s.records ≡ length (oids_of rs) → AreNumbered s.newest (oids_of rs) → plan.marks ≡ marks_of (is_in now) rs) → IfSome o (λ told. Draws links (content told) plan)
draws_there None p links t places s now fails plan same v search none before until marks = tt
draws_there (Some told) p links t places s now fails plan same v search none before until marks =
    draws links (content told) t places s v now fails (subst (λ (d : Option Told). Searched d links places s now fails) same search) plan none before until
    (marks (records_in (said (entries_to t (entries v.blocks)))) v.found.records v.found.newest)

pub stands_there : (o p : Option Told) (links : Linking) (plan : Planned) (tally : Tally) (size : ℕ) (whole : Planned) → p ≡ o → IfSome o (λ told. Draws links (content told) plan) → IfSome p (λ told. Measures (content told) plan tally)
    → tally.size ≡ Some size → whole ≡ record { before = plan.before; until = plan.until; marks = plan.marks; floor = tally.floor; count = tally.count; size = size } → IfSome o (λ told. StandsFor links (content told) whole)
stands_there None p links plan tally size whole same d m is made = tt
stands_there (Some told) p links plan tally size whole same d m is made =
    subst (StandsFor links (content told)) (sym made) (stands_so links (content told) plan tally size d (subst (λ (x : Option Told). IfSome x (λ told. Measures (content told) plan tally)) same m) is)

pub passes_there : (o p : Option Told) (links : Linking) (plan : Planned) (tally : Tally) (t need limit : ℕ) → p ≡ o → plan.before ≡ t → limit < 2 ^ 64 → IfSome o (λ told. Draws links (content told) plan)
    → IfSome p (λ told. Measures (content told) plan tally) → IsOver tally.size limit need → IfSome o (λ told. PassesLimit links (content told) t need limit)
passes_there None p links plan tally t need limit same at short d m over = tt
passes_there (Some told) p links plan tally t need limit same at short d m over =
    subst (λ n. PassesLimit links (content told) n need limit) at (passes_so links (content told) plan tally need limit short d (subst (λ (x : Option Told). IfSome x (λ told. Measures (content told) plan tally)) same m) over)
