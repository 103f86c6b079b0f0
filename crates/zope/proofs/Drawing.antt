-- The report of a drawn run, and what is told of it.
use Rattle.std.proofs.Common.{◌≡◌, ◌+◌, ◌<◌, ◌≤◌, ◌^◌, ℕ, List, [], ◌∷◌, ◌++◌, Option, Some, Result, Ok, Err, inr, length, refl, ap, ◌∙◌, subst, arith}
use lib.Utf8.{encode}
use Rattle.std.specs.Str.{chars, is_utf8}
use Rattle.std.specs.Prelude.{IfErr, OnOk, codes, true}
use Rattle.std.specs.Io.KnownBytes.{append_known}
use Rattle.std.proofs.lemmas.List.{length-append}
use Rattle.zbase.specs.Faults.{Arms, Counter, Counts}
use Rattle.zbase.specs.Hex.{hex16_text}
use Rattle.zbase.specs.History.{History}
use Rattle.zdisk.specs.Disk.{Told}
use Rattle.fs_record.specs.File.{Front, magic}
use Rattle.fs_record.specs.Opening.{Cut, Damaged}
use Rattle.fs_record.specs.Spelling.{block_spelling}
use Rattle.fs_record.specs.Written.{transaction}
use Rattle.fs_record.specs.declared.damage.Damage.{Damage}
use Rattle.zobject.specs.Rules.{Keeps}
use Rattle.zobject.specs.declared.version.Rule.TheVariants.{UserName}
use Rattle.schedule.specs.declared.item.Item2.{Item2}
use Rattle.schedule.specs.declared.line.Line.{Line}
use Rattle.schedule.specs.Explained.{Explained}
use Rattle.schedule.specs.Lines.{report_text}
use Rattle.schedule.specs.Moments.{Terms}
use Rattle.fs_store.specs.Moments.{OpensTo}
use Rattle.fs_store.specs.Stores.{most_length}
use Rattle.http_in.specs.declared.message.Message.{Message}
use Rattle.http_in.specs.Messages.{one_message}
use Rattle.publisher.specs.Site.{site}
use Rattle.replay.specs.Printed.{terms_of}
use Rattle.replay.specs.Replayed.{Breaks, Replays}
use Rattle.drawn_runs.specs.Rounds.{drawn_run}
use Rattle.new_site.specs.NewSite.{file_with, items as site_items, site_file, site_history, texts}
use Rattle.new_site.specs.SiteLaws.{site_fits}
use Rattle.report_tally.specs.Lasts.{last_tid}
use Rattle.report_tally.specs.Tallies.{capped, tally_of}
use Rattle.report_tally.specs.Tidy.{AreTidy}
use Rattle.site_links.specs.Linked.{linked}
use Rattle.zope.specs.declared.refusal.Refusal.{Refusal}
use Rattle.zope.specs.CheckCauses.{PrintCause}
use Rattle.zope.specs.Drawn.{Drawn, DrawnCause, IsReportOf, RunCause, first_file, first_stamp, requests_in, six_lines, summary_text}
use Rattle.zope.specs.ReplayCauses.{Broke}

-- ---- the site

pub admin_keeps : Keeps UserName (codes "admin")
unfolding is_utf8 chars encode
admin_keeps = refl

-- it is short
pub site_is_short : length first_file ≤ most_length
unfolding file_with
site_is_short = omega (arith, site_fits first_stamp 32 (codes "admin") (codes "secret") admin_keeps, length-append magic (block_spelling (transaction 4 first_stamp 32 texts (site_items (codes "admin") (codes "secret")))))

abbrev pub Opens : Type 0
Opens = (stamp : ℕ) (name password : List ℕ) → 0 < stamp → stamp < 2 ^ 64 → Keeps UserName name
    → (front : Front) × Cut (site_file stamp name password) front (length (site_file stamp name password)) × (front.history ≡ site_history stamp name password)

abbrev pub NotDamaged : Type 0
NotDamaged = (bytes : List ℕ) (front : Front) (m n : ℕ) (kind : Damage) → Cut bytes front m → Damaged bytes n kind → ⊥

-- and opens
pub undamaged : Opens → NotDamaged → (bytes : List ℕ) (place : ℕ) (kind : Damage) → bytes ≡ first_file → Damaged bytes place kind → ⊥
undamaged opens law bytes place kind is bad =
    let opened = opens first_stamp (codes "admin") (codes "secret") (omega arith) (omega arith) admin_keeps in
    law first_file opened.0 (length first_file) place kind opened.1 (subst (λ (b : List ℕ). Damaged b place kind) is bad)

-- ---- the run

pub reported : (number : ℕ) (bytes : List ℕ) (items : List Item2) (disk : Option Told) (arms : Arms) (new : Option (List ℕ)) → bytes ≡ first_file → items ≡ drawn_run number → Replays one_message site linked most_length bytes items disk arms (Some []) new → IsReportOf number new
reported number bytes items disk arms new is drawn r = record {
  report = r.report;
  reports = record {
    history = r.history;
    end = r.end;
    opens = subst (λ (b : List ℕ). OpensTo b r.history r.end) is r.opens;
    explained = subst (λ (s : List Item2). Explained (terms_of one_message site linked most_length r.end) r.history s r.report) drawn r.explained;
  };
  text = r.printed;
}

pub broke_off : (number n : ℕ) (bytes : List ℕ) (items : List Item2) (new : Option (List ℕ)) → bytes ≡ first_file → items ≡ drawn_run number → Breaks one_message site linked most_length bytes items n (Some []) new → RunCause number (Refusal.BadLine n)
broke_off number n bytes items new is drawn b = (
  Some [],
  new,
  subst (λ (s : List Item2). Broke most_length first_file s (Some []) new n) drawn (subst (λ (bs : List ℕ). Broke most_length bs items (Some []) new n) is b),
)

-- a sink that can't fail doesn't
pub no_fault : (old new : Counter) (fault : Type 0) → Counts old new fault → old.count ≡ 0 → old.sound ≡ true → fault → ⊥
no_fault old new fault counts zero sound failed =
    let calm = counts.calm (record { sound = sound; below = omega (arith, zero) }) in
    let rose = counts.cause failed in
    omega (arith, zero, calm.1, rose)

-- ---- what is told of the report

abbrev pub Tidies : Type 0
Tidies = (terms : Terms Message) (h : History) (items : List Item2) (report : List Line) → terms.takes ≡ one_message → terms.eval ≡ site → Explained terms h items report → AreTidy report

same_text : (o : Option (List ℕ)) (a b : List ℕ) → o ≡ Some a → o ≡ Some b → a ≡ b
same_text o a b p q = cc

pub told_by : (number : ℕ) (written : Option (List ℕ)) (bytes text : List ℕ) (requests : ℕ) (r : IsReportOf number written) → Tidies → written ≡ Some bytes → requests ≡ capped (requests_in (drawn_run number))
    → ((lines : List Line) → AreTidy lines → bytes ≡ report_text lines → text ≡ six_lines requests (tally_of lines) (hex16_text (last_tid lines))) → text ≡ summary_text (drawn_run number) r.report
told_by number written bytes text requests r tidies is counted says =
    let plain : AreTidy r.report = tidies (terms_of one_message site linked most_length r.reports.end) r.reports.history (drawn_run number) r.report refl refl r.reports.explained in
    says r.report plain (same_text written bytes (report_text r.report) is r.text) ∙ ap (λ k. six_lines k (tally_of r.report) (hex16_text (last_tid r.report))) counted

-- ---- the ends of a drawn run

-- the six lines that were written are those on the report
pub drawn_done : (number : ℕ) (written : Option (List ℕ)) (bytes text : List ℕ) (requests : ℕ) (old new : Option (List ℕ)) → IsReportOf number written → Tidies → written ≡ Some bytes → requests ≡ capped (requests_in (drawn_run number))
    → ((lines : List Line) → AreTidy lines → bytes ≡ report_text lines → text ≡ six_lines requests (tally_of lines) (hex16_text (last_tid lines))) → new ≡ append_known old text → Drawn number old new
drawn_done number written bytes text requests old new r tidies is counted says printed = record {
  report = r.report;
  reports = r.reports;
  printed = printed ∙ ap (append_known old) (told_by number written bytes text requests r tidies is counted says);
}

pub drawn_untold : (number : ℕ) (written : Option (List ℕ)) (bytes text : List ℕ) (requests : ℕ) (sink : Type 0) (old new : Option (List ℕ)) (e : Refusal) → IsReportOf number written → Tidies → written ≡ Some bytes → requests ≡ capped (requests_in (drawn_run number))
    → ((lines : List Line) → AreTidy lines → bytes ≡ report_text lines → text ≡ six_lines requests (tally_of lines) (hex16_text (last_tid lines))) → PrintCause sink text old new e → DrawnCause number sink old new e
drawn_untold number written bytes text requests sink old new e r tidies is counted says cause = inr (record {
  report = r.report;
  reports = r.reports;
  printed = subst (λ (t : List ℕ). PrintCause sink t old new e) (told_by number written bytes text requests r tidies is counted says) cause;
})

pub done : {T : Type 0} (number : ℕ) (written : Option (List ℕ)) (bytes text : List ℕ) (requests : ℕ) (old new : Option (List ℕ)) (result : Result T Refusal) → IsReportOf number written → Tidies → written ≡ Some bytes → requests ≡ capped (requests_in (drawn_run number))
    → ((lines : List Line) → AreTidy lines → bytes ≡ report_text lines → text ≡ six_lines requests (tally_of lines) (hex16_text (last_tid lines))) → OnOk result (new ≡ append_known old text) → OnOk result (Drawn number old new)
done number written bytes text requests old new (Ok x) r tidies is counted says printed = drawn_done number written bytes text requests old new r tidies is counted says printed
done number written bytes text requests old new (Err e) r tidies is counted says printed = tt

pub untold : {T : Type 0} (number : ℕ) (written : Option (List ℕ)) (bytes text : List ℕ) (requests : ℕ) (sink : Type 0) (old new : Option (List ℕ)) (result : Result T Refusal) → IsReportOf number written → Tidies → written ≡ Some bytes → requests ≡ capped (requests_in (drawn_run number))
    → ((lines : List Line) → AreTidy lines → bytes ≡ report_text lines → text ≡ six_lines requests (tally_of lines) (hex16_text (last_tid lines))) → IfErr result (PrintCause sink text old new) → IfErr result (DrawnCause number sink old new)
untold number written bytes text requests sink old new (Ok x) r tidies is counted says cause = tt
untold number written bytes text requests sink old new (Err e) r tidies is counted says cause = drawn_untold number written bytes text requests sink old new e r tidies is counted says cause

-- ---- how many requests there are

requests_more : (items : List Item2) (item : Item2) → requests_in (items ++ item ∷ []) ≡ requests_in items + requests_in (item ∷ [])
requests_more [] item = omega arith
requests_more (Item2.Request w bytes ∷ items) item = omega (arith, requests_more items item)
requests_more (Item2.Step w ∷ items) item = requests_more items item
requests_more (Item2.Clock t ∷ items) item = requests_more items item
requests_more (Item2.Stop n seed ∷ items) item = requests_more items item
requests_more (Item2.Fail n seed ∷ items) item = requests_more items item
requests_more (Item2.Pack t ∷ items) item = requests_more items item
requests_more (Item2.End ∷ items) item = requests_more items item

pub one_item : (front : List Item2) (item : Item2) (count : ℕ) → count ≡ capped (requests_in front) → capped (count + requests_in (item ∷ [])) ≡ capped (requests_in (front ++ item ∷ []))
one_item front item count is = omega (arith, is, requests_more front item)
