-- What a survey and a search come to is a plan of what the pack leaves.
use Rattle.std.proofs.Common.{◌≡◌, ℕ, ◌<◌, ◌≤◌, ◌^◌, ◌||◌, Bool, true, List, [], ◌∷◌, ◌++◌, length, filter, nat_lt, Option, None, Some, refl, sym, ap, ap₂, subst, ◌∙◌, arith}
use Rattle.zbase.specs.History.{History, IsHistory, RisesFrom, Transaction, Value}
use Rattle.fs_record.specs.File.{AreRight, Earlier, Front, IsFile, bytes_of, front_of}
use Rattle.fs_record.specs.FileLaws.{file_history}
use Rattle.fs_record.specs.Opening.{Cut, is_end}
use Rattle.fs_record.specs.OpeningLaws.{one_cut}
use Rattle.fs_record.specs.Spelling.{Block}
use Rattle.fs_scan.specs.Present.{AllStand}
use Rattle.packing.specs.Packed.{packed, records_in}
use Rattle.packing.specs.Reachable.{AreReadable, IsKeep, Linking, behind, is_broken, spells_none, written_behind}
use Rattle.packing.specs.Sizes.{full_size}
use Rattle.fs_pack.specs.Chosen.{Planned, chosen_of, marks_of}
use Rattle.fs_pack.specs.ChosenLaws.{chosen_are}
use Rattle.fs_pack.specs.Entries.{Entry, entries, packed_entries, said}
use Rattle.fs_pack.specs.EntryLaws.{floor_entries, floor_packed_entries, said_entries, said_filter, said_packed_entries}
use Rattle.fs_pack.specs.KeepLaws.{Begins, LeastKept, LeastLater, is_keep, least_kept, least_of}
use Rattle.fs_pack.specs.Marked.{Leading, is_in, meant}
use Rattle.fs_pack.specs.Measured.{IsOver, IsTally, Measures, fitting}
use Rattle.fs_pack.specs.MeasuredLaws.{fits_below, fits_not, fits_so}
use Rattle.fs_pack.specs.Numbered.{AreLast}
use Rattle.fs_pack.specs.PartLaws.{blocks_to, part_last, part_stands, part_value}
use Rattle.fs_pack.specs.PassedEntries.{length_said, same_entries}
use Rattle.fs_pack.specs.Plans.{Draws, LacksObject, Packs, PassesLimit, StandsFor, history_of, left}
use Rattle.fs_pack.specs.SpelledLaws.{full_said}
use Rattle.fs_pack.specs.SurveyLaws.{begins_so, fails_kept, fails_so, later_fails}
use Rattle.fs_pack.specs.Surveyed.{Surveys, entries_behind, entries_to, failing, seeded}
use Rattle.fs_pack.specs.declared.surveying.Survey.{Survey}
use Rattle.fs_pack.specs.declared.tallying.Tally.{Tally}

the_file : (bs : List Block) → AreRight bs → IsFile (bytes_of bs) (front_of bs)
the_file bs right = record { blocks = bs; right = right; spelled = refl; said = refl }

later_said : (t : ℕ) (bs : List Block) → said (entries_behind t (entries bs)) ≡ behind (front_of bs).history t
later_said t bs = said_filter (λ (x : Transaction). nat_lt t x.tid) (entries bs) ∙ ap (filter (λ (x : Transaction). nat_lt t x.tid)) (said_entries bs)

-- the search from what a survey found
abbrev pub Search : Linking → List ℕ → List ℕ → Survey → List ℕ → Option ℕ → Type 0
Search links bytes places s now fails = (records : List Earlier) → AllStand bytes records → AreLast places s.newest records → Leading links (meant records) s.kept now fails

module _ (links : Linking) (bytes : List ℕ) (t : ℕ) (places : List ℕ) (s : Survey) (v : Surveys links bytes t places s) (now : List ℕ) (fails : Option ℕ) (search : Search links bytes places s now fails) where
  abbrev part : List Earlier
  part = (front_of (blocks_to t v.blocks)).records

  abbrev h : History
  h = (front_of v.blocks).history

  led : Leading links (meant part) s.kept now fails
  led = search part (part_stands t v.blocks v.rest bytes v.right v.spelled) (part_last t v.blocks places s.newest v.right v.records v.found.newest)

  begins : Begins links h t s.kept
  begins = subst (Begins links h t) (sym (v.found.kept ∙ ap (λ (xs : List Transaction). seeded links (records_in xs) (0 ∷ [])) (later_said t v.blocks))) (begins_so links h t)

  keeps : IsKeep links h t (is_in now)
  keeps = is_keep links h t (meant part) s.kept now fails (part_value t v.blocks v.right) begins led

  abbrev packs : Packs links bytes t
  packs = record { blocks = v.blocks; right = v.right; rest = v.rest; spelled = v.spelled; end = v.end; keep = is_in now; is_keep = keeps }

  abbrev fails_at : ℕ → Bool
  fails_at o = spells_none links (meant part o) || later_fails links h t o

  least : LeastKept fails_at now (least_of fails s.broken)
  least = least_kept (λ o. spells_none links (meant part o)) (later_fails links h t) now fails s.broken led.fails
      (subst (LeastLater (later_fails links h t)) (sym (v.found.broken ∙ ap (λ (xs : List Transaction). failing links (records_in xs) None) (later_said t v.blocks))) (fails_so links h t))
      (λ o is. fails_kept links (is_in now) (written_behind h t) o keeps.closed.written is)

  broken_at : (o : ℕ) → is_broken links h t o ≡ fails_at o
  broken_at o = ap (λ (v : Value). spells_none links v || later_fails links h t o) (part_value t v.blocks v.right o)

  readable : least_of fails s.broken ≡ None → AreReadable links h t (is_in now)
  readable none = λ o kept. broken_at o ∙ subst (LeastKept fails_at now) none least o kept

  pub lacks_one : (o : ℕ) → least_of fails s.broken ≡ Some o → LacksObject links bytes t o
  lacks_one o some =
      let one = subst (LeastKept fails_at now) some least in
      (packs, record { kept = one.0; broken = broken_at o ∙ one.1; first = λ p lt kept. broken_at p ∙ one.2 p lt kept })

  pub draws : (p : Planned) → least_of fails s.broken ≡ None → p.before ≡ t → p.until ≡ s.until → p.marks ≡ marks_of (is_in now) (records_in (said (entries_to t (entries v.blocks)))) → Draws links bytes p
  draws p none before until marks =
      let d = the p.before before in
      record { packs = d.0; readable = d.1; chosen = ap₂ (λ (n : ℕ) (qs : List Bool). chosen_of p.before n qs (entries d.0.blocks)) until marks ∙ d.2 }
    where
      rises : RisesFrom 0 (said (entries v.blocks))
      rises = subst (RisesFrom 0) (sym (said_entries v.blocks)) (file_history (bytes_of v.blocks) (front_of v.blocks) (the_file v.blocks v.right))

      chosen : chosen_of t s.until (marks_of (is_in now) (records_in (said (entries_to t (entries v.blocks))))) (entries v.blocks) ≡ packed_entries (is_in now) t (entries v.blocks)
      chosen = ap (λ (n : ℕ). chosen_of t n (marks_of (is_in now) (records_in (said (entries_to t (entries v.blocks))))) (entries v.blocks)) v.found.until ∙ chosen_are (is_in now) t 0 (entries v.blocks) rises

      the : (b : ℕ) → b ≡ t → (packs : Packs links bytes b) × AreReadable links (history_of packs) b packs.keep × (chosen_of b s.until (marks_of (is_in now) (records_in (said (entries_to t (entries v.blocks))))) (entries packs.blocks) ≡ left packs)
      the b e = subst (λ (n : ℕ). (packs : Packs links bytes n) × AreReadable links (history_of packs) n packs.keep × (chosen_of n s.until (marks_of (is_in now) (records_in (said (entries_to t (entries v.blocks))))) (entries packs.blocks) ≡ left packs)) (sym e) (packs, readable none, chosen)

-- ---- with what is measured

pub one_file : (bytes : List ℕ) (bs cs : List Block) (x y : List ℕ) → AreRight bs → AreRight cs → bytes ≡ bytes_of bs ++ x → bytes ≡ bytes_of cs ++ y → is_end x ≡ true → is_end y ≡ true → entries bs ≡ entries cs
one_file bytes bs cs x y p q e f ends other =
    let first : Cut bytes (front_of bs) (length (bytes_of bs)) = (x, record { file = bytes_of bs; is_file = the_file bs p; joined = e; at = refl }, ends) in
    let second : Cut bytes (front_of cs) (length (bytes_of cs)) = (y, record { file = bytes_of cs; is_file = the_file cs q; joined = f; at = refl }, other) in
    same_entries bs cs x y p q (sym e ∙ f) (ap (λ (g : Front). g.history.transactions) (one_cut bytes (front_of bs) (front_of cs) (length (bytes_of bs)) (length (bytes_of cs)) first second).0)

-- what is told of the packed file
pub record IsTold {links : Linking} {bytes : List ℕ} {t : ℕ} (p : Packs links bytes t) (tally : Tally) : Type 0 where
  pub floor : tally.floor ≡ (packed p.keep (history_of p) t).floor
  pub count : tally.count ≡ length (packed p.keep (history_of p) t).transactions
  pub size : tally.size ≡ fitting (full_size (packed p.keep (history_of p) t))

told_so : (links : Linking) (bytes : List ℕ) (p : Planned) (tally : Tally) (d : Draws links bytes p) → Measures bytes p tally → IsTold d.packs tally
told_so links bytes p tally d m =
    let bs = d.packs.blocks in
    let es = left d.packs in
    let h = history_of d.packs in
    let good : IsHistory h = file_history (bytes_of bs) (front_of bs) (the_file bs d.packs.right) in
    let same : chosen_of p.before p.until p.marks (entries m.blocks) ≡ es = ap (chosen_of p.before p.until p.marks) (one_file bytes m.blocks bs m.rest d.packs.rest m.right d.packs.right m.spelled d.packs.spelled m.end d.packs.end) ∙ d.chosen in
    let tells : IsTally es tally = subst (λ (fs : List Entry). IsTally fs tally) same m.tells in
    let says : said es ≡ (packed d.packs.keep h p.before).transactions = said_packed_entries d.packs.keep p.before (entries bs) h (said_entries bs) in
    record {
      floor = tells.floor ∙ floor_packed_entries d.packs.keep p.before (entries bs) h (said_entries bs) (floor_entries bs) good;
      count = tells.count ∙ sym (length_said es) ∙ ap length says;
      size = tells.size ∙ ap fitting (full_said es (packed d.packs.keep h p.before) says);
    }

pub stands_so : (links : Linking) (bytes : List ℕ) (p : Planned) (tally : Tally) (size : ℕ) → Draws links bytes p → Measures bytes p tally → tally.size ≡ Some size
    → StandsFor links bytes (record { before = p.before; until = p.until; marks = p.marks; floor = tally.floor; count = tally.count; size = size })
stands_so links bytes p tally size d m is =
    let t = told_so links bytes p tally d m in
    record {
      packs = d.packs;
      readable = d.readable;
      chosen = d.chosen;
      floor = t.floor;
      count = t.count;
      size = fits_so size (full_size (packed d.packs.keep (history_of d.packs) p.before)) (sym t.size ∙ is);
    }

pub passes_so : (links : Linking) (bytes : List ℕ) (p : Planned) (tally : Tally) (need limit : ℕ) → limit < 2 ^ 64 → Draws links bytes p → Measures bytes p tally → IsOver tally.size limit need → PassesLimit links bytes p.before need limit
passes_so links bytes p tally need limit short d m over = go tally.size over t.size
  where
    t : IsTold d.packs tally
    t = told_so links bytes p tally d m

    full : ℕ
    full = full_size (packed d.packs.keep (history_of d.packs) p.before)

    go : (o : Option ℕ) → IsOver o limit need → o ≡ fitting full → PassesLimit links bytes p.before need limit
    go None e size =
        let long : 2 ^ 64 ≤ full = fits_not full (sym size) in
        record { packs = d.packs; readable = d.readable; told = omega (arith, long, e); above = omega (arith, long, short) }
    go (Some n) e size =
        let is : n ≡ full = fits_so n full (sym size) in
        let below : full < 2 ^ 64 = fits_below n full (sym size) in
        record { packs = d.packs; readable = d.readable; told = omega (arith, is, below, e.0); above = omega (arith, is, e.1) }
