-- Whatever a run does, it prints tidy lines: what each worker is about to show keeps the rule of roles.
use Rattle.std.proofs.Common.{◌≡◌, ℕ, zero, suc, ◌+◌, ◌-◌, ◌≤◌, ◌==◌, ◌&&◌, ◌⊎◌, inl, inr, Bool, true, false, cond, List, [], ◌∷◌, ◌++◌, map, flat_map, replicate, slice_get, slice_set, Option, Some, None, length, min, nat_lt, refl, sym, subst, arith}
use Rattle.std.specs.Prelude.{if◌then◌else◌}
use Rattle.std.specs.List.{AllByRecursion, enumerate_from, filter_map}
use Rattle.zbase.specs.History.{History, Transaction, Value}
use Rattle.zbase.specs.Limits.{greatest_number}
use Rattle.zbase.specs.Roles.{IsRole}
use Rattle.zbase.specs.Values.{last, next}
use Rattle.zbase.specs.declared.ids.Clash.{Clash}
use Rattle.evaluator.specs.declared.ask.Ask.{Ask}
use Rattle.evaluator.specs.declared.draft.Draft.{Draft}
use Rattle.evaluator.specs.declared.fact.Fact.{Fact}
use Rattle.evaluator.specs.declared.outcome.Outcome.{Outcome}
use Rattle.evaluator.specs.declared.reply.Denial.{Denial}
use Rattle.evaluator.specs.declared.reply.Reply.{Reply}
use Rattle.evaluator.specs.declared.reply.Shown.{Shown}
use Rattle.evaluator.specs.Change.{IsReply, made}
use Rattle.evaluator.specs.Exec.{WasTaken}
use Rattle.evaluator.specs.Facts.{look}
use Rattle.schedule.specs.declared.item.Item2.{Item2}
use Rattle.schedule.specs.declared.line.Line.{Line}
use Rattle.schedule.specs.Causes.{by_oid, conflict_reply, denied_line, fault_reply, full_reply, memory_reply, oids_reply, placed, shown_lines, tids_reply, unknown_reply}
use Rattle.schedule.specs.Courses.{Course, Happens, Place, lines_of}
use Rattle.schedule.specs.Explained.{Explained}
use Rattle.schedule.specs.Histories.{floor_lines, history_lines, record_line, transaction_lines}
use Rattle.schedule.specs.Moments.{Terms, Attempt, Doing, Free, Waiting, Asking, Computed, Vote, Moment, start, doing, turned, dropped, stood, emptied, lost_line, lost_lines}
use Rattle.schedule.specs.Packing.{Lacks_memory, PackTrouble, Pack_fails, Is_cut_off, PacksAt, pack_fails, packs_to, refused_so}
use Rattle.packing.specs.Packed.{packed}
use Rattle.packing.specs.Reachable.{AreReadable, IsUnreadable}
use Rattle.packing.specs.Sizes.{full_size}
use Rattle.schedule.specs.Rows.{Lacks}
use Rattle.schedule.specs.Stepping.{Told, Opening, Stops, Faults, Trouble, Wants_memory, Disk_fails, Is_unknown, Is_stopped, commits, conflicts, ended, fails, first_clash, from_asking, from_computed, from_doing, has_request, held_by, need, opening_line, restarted, settled, validated, votes}
use Rattle.report_tally.specs.Tidy.{AreTidy, IsTidy}

-- ---- lists of lines

tidy_append : (xs ys : List Line) → AreTidy xs → AreTidy ys → AreTidy (xs ++ ys)
tidy_append [] ys p q = q
tidy_append (x ∷ xs) ys p q = (p.0, tidy_append xs ys p.1 q)

record_tidy : (records : List (ℕ × Value)) → AreTidy (map record_line records)
record_tidy [] = tt
record_tidy (r ∷ records) = (tt, record_tidy records)

transactions_tidy : (transactions : List Transaction) → AreTidy (flat_map transaction_lines transactions)
transactions_tidy [] = tt
transactions_tidy (t ∷ transactions) = (tt, tidy_append (map record_line t.records) (flat_map transaction_lines transactions) (record_tidy t.records) (transactions_tidy transactions))

floor_tidy : (b : Bool) (floor : ℕ) → AreTidy (if b then Line.Floor floor ∷ [] else [])
floor_tidy true floor = (tt, tt)
floor_tidy false floor = tt

history_tidy : (h : History) → AreTidy (history_lines h)
history_tidy h = (tt, tidy_append (floor_lines h.floor) (flat_map transaction_lines h.transactions) (floor_tidy (nat_lt 0 h.floor) h.floor) (transactions_tidy h.transactions))

openings_tidy : (openings : List Opening) → AreTidy (map opening_line openings)
openings_tidy [] = tt
openings_tidy (Stops ∷ openings) = (tt, openings_tidy openings)
openings_tidy (Faults ∷ openings) = (tt, openings_tidy openings)

lost_tidy : {R : Type 0} (n : ℕ) (workers : List (Doing R)) → AreTidy (filter_map lost_line (enumerate_from n workers))
lost_tidy n [] = tt
lost_tidy n (Free ∷ workers) = lost_tidy (n + 1) workers
lost_tidy n (Waiting q cs ∷ workers) = (tt, lost_tidy (n + 1) workers)
lost_tidy n (Asking a ∷ workers) = (tt, lost_tidy (n + 1) workers)
lost_tidy n (Computed a x d ∷ workers) = (tt, lost_tidy (n + 1) workers)

-- ---- what a reply shows

-- each role is in one line
abbrev pub ShowsTidily : List Shown → Type 0
ShowsTidily shown = AllByRecursion (λ (s : Shown). Lacks 10 s.role) shown

byte_is_none : (role : List ℕ) → AllByRecursion (λ (b : ℕ). (32 ≤ b) × (b ≤ 126) × (b ≡ 44 → ⊥)) role → Lacks 10 role
byte_is_none [] all = tt
byte_is_none (b ∷ role) all = ((λ (e : b ≡ 10). absurd (omega (arith, e, all.0.0))), byte_is_none role all.1)

roles_tidy : (shown : List Shown) → AllByRecursion (λ (s : Shown). IsRole s.role) shown → ShowsTidily shown
roles_tidy [] all = tt
roles_tidy (s ∷ shown) all = (byte_is_none s.role all.0.2, roles_tidy shown all.1)

pub reply_shows : (x : Reply) → IsReply x → ShowsTidily x.shown
reply_shows x is = roles_tidy x.shown is.roles

placed_tidy : (s : Shown) (shown : List Shown) → Lacks 10 s.role → ShowsTidily shown → ShowsTidily (placed s shown)
placed_tidy s [] one all = (one, tt)
placed_tidy s (t ∷ ts) one all = go (nat_lt s.oid t.oid) (placed_tidy s ts one all.1)
  where
    go : (b : Bool) → ShowsTidily (placed s ts) → ShowsTidily (if b then s ∷ t ∷ ts else t ∷ placed s ts)
    go true rest = (one, all)
    go false rest = (all.0, rest)

sorted_tidy : (shown : List Shown) → ShowsTidily shown → ShowsTidily (by_oid shown)
sorted_tidy [] all = tt
sorted_tidy (s ∷ shown) all = placed_tidy s (by_oid shown) all.0 (sorted_tidy shown all.1)

lines_tidy : (w : ℕ) (shown : List Shown) → ShowsTidily shown → AreTidy (map (λ (s : Shown). Line.Shown w s.oid s.role) shown)
lines_tidy w [] all = tt
lines_tidy w (s ∷ shown) all = (all.0, lines_tidy w shown all.1)

shown_tidy : (w : ℕ) (x : Reply) → ShowsTidily x.shown → AreTidy (shown_lines w x)
shown_tidy w x all = lines_tidy w (by_oid x.shown) (sorted_tidy x.shown all)

denied_tidy : (w : ℕ) (d : Option Denial) → AreTidy (denied_line w d)
denied_tidy w None = tt
denied_tidy w (Some d) = (tt, tt)

-- ---- lists of workers

set_all : {X : Type 0} (P : Option X → Type 0) (d : X) → P (Some d) → (xs : List X) (w : ℕ) → ((v : ℕ) → P (slice_get xs v)) → (v : ℕ) → P (slice_get (slice_set xs w d) v)
set_all P d here [] w each v = each v
set_all P d here (x ∷ xs) zero each zero = here
set_all P d here (x ∷ xs) zero each (suc v) = each (suc v)
set_all P d here (x ∷ xs) (suc w) each zero = each zero
set_all P d here (x ∷ xs) (suc w) each (suc v) = set_all P d here xs w (λ k. each (suc k)) v

all_free : {R : Type 0} (P : Option (Doing R) → Type 0) → P None → P (Some Free) → (n w : ℕ) → P (slice_get (replicate n Free) w)
all_free P none free zero w = none
all_free P none free (suc n) zero = free
all_free P none free (suc n) (suc w) = all_free P none free n w

-- ---- moments

-- requests were taken, and what is to be shown keeps the rule
abbrev pub TameDoing : {R : Type 0} → Terms R → Option (Doing R) → Type 0
TameDoing terms None = Unit {0}
TameDoing terms (Some Free) = Unit {0}
TameDoing terms (Some (Waiting q cs)) = WasTaken terms.takes q
TameDoing terms (Some (Asking a)) = WasTaken terms.takes a.request
TameDoing terms (Some (Computed a x d)) = WasTaken terms.takes a.request × ShowsTidily x.shown

abbrev pub TameVote : Option Vote → Type 0
TameVote None = Unit {0}
TameVote (Some v) = ShowsTidily v.reply.shown

pub record Tame {R : Type 0} (terms : Terms R) (m : Moment R) : Type 0 where
  pub workers : (w : ℕ) → TameDoing terms (doing m w)
  pub vote : TameVote m.vote

-- what an evaluator's laws say of replies
pub record Keeps {R : Type 0} (terms : Terms R) : Type 0 where
  pub answers : (known : Ask → Option Fact) (q : R) (x : Reply) → terms.eval known q ≡ Outcome.Answer x → IsReply x
  pub changes : (facts : List Fact) (q : R) (x : Reply) (d : Draft) → WasTaken terms.takes q → terms.eval (look facts) q ≡ Outcome.Change x d → IsReply x

-- these lines are tidy, and the moment behind them is tame
abbrev Neat : {R : Type 0} → Terms R → Told R → Type 0
Neat terms r = AreTidy r.0 × Tame terms r.1

module _ {R : Type 0} (terms : Terms R) (keeps : Keeps terms) where
  tame_turned : (m : Moment R) (w : ℕ) (d : Doing R) → Tame terms m → TameDoing terms (Some d) → Tame terms (turned m w d)
  tame_turned m w d tame here = record { workers = set_all (TameDoing terms) d here m.workers w tame.workers; vote = tame.vote }

  tame_emptied : (m : Moment R) → Tame terms (emptied m)
  tame_emptied m = record { workers = all_free (TameDoing terms) tt tt 16; vote = tt }

  tame_dropped : (m : Moment R) → Tame terms m → Tame terms (dropped m)
  tame_dropped m tame = record { workers = tame.workers; vote = tt }

  tame_stood : (m : Moment R) (v : Vote) → Tame terms m → Tame terms (stood m v)
  tame_stood m v tame = record { workers = tame.workers; vote = tt }

  neat_cond : (b : Bool) (r s : Told R) → Neat terms r → Neat terms s → Neat terms (cond b r s)
  neat_cond true r s p q = p
  neat_cond false r s p q = q

  neat_ended : (m : Moment R) (w : ℕ) (lines : List Line) (x : Reply) → Tame terms m → AreTidy lines → Neat terms (ended terms m w lines x)
  neat_ended m w lines x tame tidy = (tidy_append lines _ tidy (tt, tt), tame_turned m w Free tame tt)

  neat_votes : (m : Moment R) (w : ℕ) (x : Reply) (d : Draft) → Tame terms m → ShowsTidily x.shown → Neat terms (votes terms m w x d)
  neat_votes m w x d tame shows =
      neat_cond (last m.standing == greatest_number) _ _ (neat_ended m w (Line.SpentTids w ∷ []) tids_reply tame (tt, tt))
      (neat_cond (nat_lt 0 (made d) && nat_lt greatest_number (next m.standing + made d)) _ _ (neat_ended m w (Line.SpentOids w (next m.standing - 1) (made d) ∷ []) oids_reply tame (tt, tt))
      (neat_cond (nat_lt terms.limit (need m d)) _ _ (neat_ended m w (Line.SpentFull w (need m d) terms.limit ∷ []) (full_reply (need m d) terms.limit) tame (tt, tt))
      ((tt, tt), record { workers = tame.workers; vote = shows })))

  neat_conflicts : (m : Moment R) (w : ℕ) (a : Attempt R) (c : Clash) → Tame terms m → WasTaken terms.takes a.request → Neat terms (conflicts terms m w a c)
  neat_conflicts m w a c tame taken =
      neat_cond (nat_lt (length a.clashes) 3) _ _ ((tt, tt), tame_turned m w (Waiting a.request (a.clashes ++ c ∷ [])) tame taken)
      (neat_ended m w (Line.Conflict w c ∷ Line.GivenUp w (a.clashes ++ c ∷ []) ∷ []) (conflict_reply c.oid) tame (tt, (tt, tt)))

  neat_validated : (m : Moment R) (w : ℕ) (a : Attempt R) (x : Reply) (d : Draft) (o : Option Clash) → Tame terms m → WasTaken terms.takes a.request × ShowsTidily x.shown → Neat terms (validated terms m w a x d o)
  neat_validated m w a x d (Some c) tame here = neat_conflicts m w a c tame here.0
  neat_validated m w a x d None tame here = neat_votes m w x d tame here.1

  neat_commits : (m : Moment R) (w : ℕ) (v : Vote) → Tame terms m → ShowsTidily v.reply.shown → Neat terms (commits terms m w v)
  neat_commits m w v tame shows = ((tt, shown_tidy w v.reply shows), tame_turned (stood m v) w Free (tame_stood m v tame) tt)

  neat_computed : (m : Moment R) (w : ℕ) (a : Attempt R) (x : Reply) (d : Draft) (o : Option Vote) → Tame terms m → TameVote o → WasTaken terms.takes a.request × ShowsTidily x.shown → Neat terms (from_computed terms m w a x d o)
  neat_computed m w a x d (Some v) tame shows here = neat_cond (v.holder == w) (commits terms m w v) (Line.Busy w v.holder ∷ [], m) (neat_commits m w v tame shows) ((tt, tt), tame)
  neat_computed m w a x d None tame shows here = neat_validated m w a x d (first_clash m.standing a.facts) tame here

  neat_asking : (m : Moment R) (w : ℕ) (a : Attempt R) (o : Outcome) → Tame terms m → WasTaken terms.takes a.request → terms.eval (look a.facts) a.request ≡ o → Neat terms (from_asking terms m w a o)
  neat_asking m w a (Outcome.Need ask) tame taken e = ((tt, tt), tame_turned m w _ tame taken)
  neat_asking m w a (Outcome.Answer x) tame taken e =
      let shows = reply_shows x (keeps.answers (look a.facts) a.request x e) in
      ((tt, tidy_append (shown_lines w x) (denied_line w x.denied) (shown_tidy w x shows) (denied_tidy w x.denied)), tame_turned m w Free tame tt)
  neat_asking m w a (Outcome.Change x d) tame taken e = ((tt, tt), tame_turned m w (Computed a x d) tame (taken, reply_shows x (keeps.changes a.facts a.request x d taken e)))

  neat_doing : (m : Moment R) (w : ℕ) (o : Option (Doing R)) → Tame terms m → TameDoing terms o → Neat terms (from_doing terms m w o)
  neat_doing m w None tame here = (tt, tame)
  neat_doing m w (Some Free) tame here = ((tt, tt), tame)
  neat_doing m w (Some (Waiting q cs)) tame here = ((tt, tt), tame_turned m w _ tame here)
  neat_doing m w (Some (Asking a)) tame here = neat_asking m w a (terms.eval (look a.facts) a.request) tame here refl
  neat_doing m w (Some (Computed a x d)) tame here = neat_computed m w a x d m.vote tame tame.vote here

  tame_settled : (m : Moment R) (o : Option Vote) (stands : Bool) → Tame terms m → Tame terms (settled m o stands)
  tame_settled m (Some v) true tame = tame_stood m v tame
  tame_settled m (Some v) false tame = tame_dropped m tame
  tame_settled m None stands tame = tame_dropped m tame

  neat_restarted : (m : Moment R) (lost : List Line) (openings : List Opening) → AreTidy lost → Neat terms (restarted lost openings m)
  neat_restarted m lost openings tidy =
      ((tt, tidy_append (lost ++ map opening_line openings) _ (tidy_append lost (map opening_line openings) tidy (openings_tidy openings)) (tt, tt)), tame_emptied m)

  the_told : (r s : Told R) → Some r ≡ Some s → r ≡ s
  the_told r s e = cc

  no_told : (s : Told R) → (let none : Option (Told R) = None in none) ≡ Some s → ⊥
  no_told s e = cc

  neat_fails : (m : Moment R) (w : ℕ) (o : Option Vote) (trouble : Trouble) (r : Told R) → Tame terms m → fails terms m w o trouble ≡ Some r → Neat terms r
  neat_fails m w None Wants_memory r tame e = subst (Neat terms) (the_told _ r e) (neat_ended m w (Line.Memory w ∷ []) memory_reply tame (tt, tt))
  neat_fails m w None Disk_fails r tame e = subst (Neat terms) (the_told _ r e) (neat_ended m w (Line.DiskFault w ∷ []) fault_reply tame (tt, tt))
  neat_fails m w None (Is_unknown stands) r tame e = absurd (no_told r e)
  neat_fails m w None (Is_stopped stands openings) r tame e = subst (Neat terms) (the_told _ r e) (neat_restarted (settled m None stands) (lost_lines m) openings (lost_tidy 0 m.workers))
  neat_fails m w (Some v) Wants_memory r tame e = absurd (no_told r e)
  neat_fails m w (Some v) Disk_fails r tame e = absurd (no_told r e)
  neat_fails m w (Some v) (Is_unknown stands) r tame e =
      subst (Neat terms) (the_told _ r e) (neat_ended (settled m (Some v) stands) w (Line.Unknown w v.transaction.tid ∷ []) (unknown_reply v.transaction.tid) (tame_settled m (Some v) stands tame) (tt, tt))
  neat_fails m w (Some v) (Is_stopped stands openings) r tame e = subst (Neat terms) (the_told _ r e) (neat_restarted (settled m (Some v) stands) (lost_lines m) openings (lost_tidy 0 m.workers))

  neat_troubled : (m : Moment R) (w : ℕ) (trouble : Trouble) (b : Bool) (r : Told R) → Tame terms m → (if b then fails terms m w (held_by w m.vote) trouble else None) ≡ Some r → Neat terms r
  neat_troubled m w trouble true r tame e = neat_fails m w (held_by w m.vote) trouble r tame e
  neat_troubled m w trouble false r tame e = absurd (no_told r e)

  -- ---- packs

  neat_refused : (m : Moment R) (line : Line) → Tame terms m → IsTidy line → Neat terms (refused_so m line)
  neat_refused m line tame tidy = ((tidy, tt), tame)

  neat_packs_to : (m : Moment R) (g : History) → Tame terms m → Neat terms (packs_to terms m g)
  neat_packs_to m g tame =
      neat_cond (nat_lt terms.limit (full_size g)) _ _ (neat_refused m (Line.PackFull (min (full_size g) greatest_number) terms.limit) tame tt)
      (tidy_append (history_lines m.standing) _ (history_tidy m.standing) (tt, tt), record { workers = tame.workers; vote = tame.vote })

  neat_pack_fails : (m : Moment R) (trouble : PackTrouble) → Tame terms m → Neat terms (pack_fails m trouble)
  neat_pack_fails m Lacks_memory tame = neat_refused m Line.PackMemory tame tt
  neat_pack_fails m Pack_fails tame = neat_refused m Line.PackFault tame tt
  neat_pack_fails m (Is_cut_off openings) tame = neat_restarted m [] openings tt

  neat_packs : (m : Moment R) (t : ℕ) (lines : List Line) (new : Moment R) → Tame terms m → PacksAt terms m t lines new → Neat terms (lines, new)
  neat_packs m t lines new tame (inl busy) = subst (Neat terms) busy.1 (neat_refused m Line.PackBusy tame tt)
  neat_packs m t lines new tame (inr (idle, inl packs)) = go packs.told
    where
      go : ((o : ℕ) × IsUnreadable terms.links m.standing t packs.keep o × (refused_so m (Line.PackUnreadable o) ≡ (lines, new))) ⊎ (AreReadable terms.links m.standing t packs.keep × (packs_to terms m (packed packs.keep m.standing t) ≡ (lines, new))) → Neat terms (lines, new)
      go (inl (o, unreadable, is)) = subst (Neat terms) is (neat_refused m (Line.PackUnreadable o) tame tt)
      go (inr (readable, is)) = subst (Neat terms) is (neat_packs_to m (packed packs.keep m.standing t) tame)
  neat_packs m t lines new tame (inr (idle, inr (trouble, is))) = subst (Neat terms) is (neat_pack_fails m trouble tame)

  -- ---- a whole run

  no_lines : (lines : List Line) → lines ≡ [] → AreTidy lines
  no_lines lines e = subst AreTidy (sym e) tt

  neat_item : (m : Moment R) (item : Item2) (lines : List Line) (new : Moment R) → Tame terms m → Happens terms m item lines new → Neat terms (lines, new)
  neat_item m (Item2.Request w bytes) lines new tame (q, takes, free, none, is) =
      (no_lines lines none, subst (Tame terms) (sym is) (tame_turned m w (Waiting q []) tame (bytes, takes)))
  neat_item m (Item2.Step w) lines new tame (inl told) = subst (Neat terms) told (neat_doing m w (doing m w) tame (tame.workers w))
  neat_item m (Item2.Step w) lines new tame (inr (trouble, is)) = neat_troubled m w trouble (has_request (doing m w)) (lines, new) tame is
  neat_item m (Item2.Clock t) lines new tame (none, is) = (no_lines lines none, subst (Tame terms) (sym is) (record { workers = tame.workers; vote = tame.vote }))
  neat_item m (Item2.Stop n seed) lines new tame (none, is) = (no_lines lines none, subst (Tame terms) (sym is) tame)
  neat_item m (Item2.Fail n seed) lines new tame (none, is) = (no_lines lines none, subst (Tame terms) (sym is) tame)
  neat_item m (Item2.Pack t) lines new tame packs = neat_packs m t lines new tame packs
  neat_item m Item2.End lines new tame bad = absurd bad

  neat_course : (m : Moment R) (places : List (Place R)) (end : Moment R) → Tame terms m → Course terms m places end → AreTidy (lines_of places)
  neat_course m [] end tame course = tt
  neat_course m (p ∷ places) end tame course =
      let one = neat_item p.before p.item p.lines p.after (subst (Tame terms) course.0 tame) course.1 in
      tidy_append p.lines (lines_of places) one.0 (neat_course p.after places end one.1 course.2)

  tame_start : (h : History) → Tame terms (start terms h)
  tame_start h = record { workers = all_free (TameDoing terms) tt tt 16; vote = tt }

  pub tidy_report : (h : History) (items : List Item2) (r : List Line) → Explained terms h items r → AreTidy r
  tidy_report h items r it =
      subst AreTidy (sym it.lines) (
        tt,
        (
          tt,
          tidy_append (lines_of it.trace ++ lost_lines it.end ++ history_lines it.end.standing) _
              (tidy_append (lines_of it.trace ++ lost_lines it.end) (history_lines it.end.standing)
              (tidy_append (lines_of it.trace) (lost_lines it.end) (neat_course (start terms h) it.trace it.end (tame_start h) it.course) (lost_tidy 0 it.end.workers))
              (history_tidy it.end.standing)) (tt, tt),
        ),
      )
