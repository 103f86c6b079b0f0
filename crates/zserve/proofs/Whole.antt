-- A whole run of a server: its tape, and what the hub tells of it.
use Rattle.std.proofs.Common.{◌≡◌, ◌∙◌, ℕ, ◌+◌, List, [], ◌++◌, flat_map, Option, Some, None, refl, sym, ap, subst, arith, inl, inr}
use Rattle.std.specs.Option.{ForSome, option_map}
use Rattle.std.specs.Prelude.{◌⊎◌, IfSome}
use Rattle.zbase.specs.Faults.{Counter}
use Rattle.zdisk.specs.Crashes.{IsSynced}
use Rattle.zdisk.specs.Disk.{Told, content}
use Rattle.zio.specs.Clocks.{Tick}
use Rattle.zio.specs.HubCalls.{listening_on}
use Rattle.zio.specs.Hubs.{Peers}
use Rattle.schedule.specs.Items.{IsSchedule, first_line, item_text}
use Rattle.schedule.specs.declared.item.Item2.{Item2}
use Rattle.http_clients.specs.Arriving.{Tells}
use Rattle.http_clients.specs.Hearing.{message_front}
use Rattle.zserve.specs.Happened.{Happening}
use Rattle.zserve.specs.Served.{RunTold, ToldSoFar}
use Rattle.zserve.specs.Taping.{Continues, Grows}
use Rattle.zserve.specs.Tapes.{AreRounds, Round}
use Rattle.zserve.proofs.Rounding.{rounds_whole}

-- the tape from its first line to its last is a schedule of what happened
pub tape_spells : (t0 t1 t2 t3 : Option Told) (all : List Item2) → ForSome t0 (λ told. content told ≡ []) → Grows t0 first_line t1 → Continues t1 all t2 → Grows t2 (item_text Item2.End) t3 → ForSome t3 IsSynced
    → IfSome t3 (λ told. IsSynced told × IsSchedule (content told) all)
tape_spells None t1 t2 t3 all empty first more last synced =
    let second : t2 ≡ None = subst (λ (o : Option Told). Grows o (flat_map item_text all) t2) first more.0 in
    let third : t3 ≡ None = subst (λ (o : Option Told). Grows o (item_text Item2.End) t3) second last in
    subst (λ (o : Option Told). IfSome o (λ told. IsSynced told × IsSchedule (content told) all)) (sym third) tt
tape_spells (Some t) t1 t2 t3 all empty first more last synced =
    let second : Grows (Some first.0) (flat_map item_text all) t2 = subst (λ (o : Option Told). Grows o (flat_map item_text all) t2) first.1 more.0 in
    let third : Grows (Some second.0) (item_text Item2.End) t3 = subst (λ (o : Option Told). Grows o (item_text Item2.End) t3) second.1 last in
    let begun : content first.0 ≡ first_line = first.2 ∙ ap (λ (xs : List ℕ). xs ++ first_line) (empty t refl) in
    let gone : content second.0 ≡ first_line ++ flat_map item_text all = second.2 ∙ ap (λ (xs : List ℕ). xs ++ flat_map item_text all) begun in
    subst (λ (o : Option Told). IfSome o (λ told. IsSynced told × IsSchedule (content told) all)) (sym third.1)
    (synced third.0 third.1, record { lines = more.1; text = third.2 ∙ ap (λ (xs : List ℕ). xs ++ item_text Item2.End) gone })

same_rounds : (connections most port : ℕ) (p q : Peers) (rounds : List Round) → AreRounds message_front connections most (listening_on port p) q rounds → AreRounds message_front connections most p q rounds
same_rounds connections most port p q rounds a = record { came = a.came; accepted = a.accepted; sized = a.sized; each = a.each }

-- what the hub tells of the rounds, from its listening on
pub run_told : (hub listening done : Option Peers) (port connections most : ℕ) (all : List Happening) (ticks : Option (List Tick)) (counter : Counter) (ticks' : Option (List Tick)) (counter' : Counter) (left accepted replies : ℕ) → listening ≡ option_map (listening_on port) hub
    → Tells listening done (ToldSoFar connections most all ticks counter ticks' counter' left replies) → accepted + left ≡ connections → (left ≡ 0) ⊎ IfSome done (λ q. q.coming ≡ []) → Tells hub done (RunTold port connections most all ticks counter ticks' counter' accepted replies)
run_told None listening done port connections most all ticks counter ticks' counter' left accepted replies listens told count ends =
    subst (λ (o : Option Peers). Tells o done (ToldSoFar connections most all ticks counter ticks' counter' left replies)) listens told
run_told (Some p) listening done port connections most all ticks counter ticks' counter' left accepted replies listens told count ends =
    let so : Tells (Some (listening_on port p)) done (ToldSoFar connections most all ticks counter ticks' counter' left replies) = subst (λ (o : Option Peers). Tells o done (ToldSoFar connections most all ticks counter ticks' counter' left replies)) listens told in
    let sum = so.2.count in (
      so.0,
      so.1,
      record {
        port_is = so.2.port;
        rounds = so.2.rounds;
        is = so.2.is;
        are = same_rounds connections most port p so.0 so.2.rounds (elim so.2.kept [ inl far ↦ rounds_whole message_front connections most (listening_on port p) so.0 so.2.rounds left far | inr last ↦ last.0 ]);
        whole = elim ends [ inl none ↦ inl (omega (arith, sum, none)) | inr ended ↦ inr (subst (λ (o : Option Peers). IfSome o (λ q. q.coming ≡ [])) so.1 ended) ];
        stamps = so.2.stamps;
        many = omega (arith, sum, count);
        replied = sym so.2.replied;
      },
    )
