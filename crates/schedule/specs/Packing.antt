-- Packed rightly: what a `pack` item prints, and the moment after it.
--
-- ZODB Programming Guide, "Packing and garbage collection".
use Rattle.std.specs.Prelude.{ℕ, ◌≡◌, ◌⊎◌, Bool, true, false, List, [], ◌∷◌, ◌++◌, length, min, Some, nat_lt, if◌then◌else◌}
use Rattle.std.specs.List.{list_any}
use Rattle.zbase.specs.History.{History}
use Rattle.zbase.specs.Limits.{greatest_number}
use Rattle.packing.specs.Packed.{packed}
use Rattle.packing.specs.Reachable.{AreReadable, IsKeep, IsUnreadable}
use Rattle.packing.specs.Sizes.{full_size}
use Rattle.schedule.specs.declared.line.Line.{Line}
use Rattle.schedule.specs.Histories.{history_lines}
use Rattle.schedule.specs.Moments.{Terms, Doing, Moment}
use Rattle.schedule.specs.Stepping.{Told, Opening, has_request, restarted}

-- some worker has a request
abbrev pub any_request : {R : Type 0} → List (Doing R) → Bool
any_request ds = list_any (λ d. has_request (Some d)) ds

-- From now on the packed history stands, in a file in which every value is written in full.
abbrev pub packed_to : {R : Type 0} → Moment R → History → Moment R
packed_to m g = record { standing = g; end = full_size g; clock = m.clock; vote = m.vote; workers = m.workers }

-- all stays as it was, and this is said
abbrev pub refused_so : {R : Type 0} → Moment R → Line → Told R
refused_so m line = (line ∷ [], m)

-- a pack to this history: there is no room for it, or the history that stood is printed whole, and that of the pack stands
abbrev pub packs_to : {R : Type 0} → Terms R → Moment R → History → Told R
packs_to terms m g =
    if nat_lt terms.limit (full_size g) then refused_so m (Line.PackFull (min (full_size g) greatest_number) terms.limit)
    else (history_lines m.standing ++ Line.Packed g.floor (length g.transactions) ∷ [], packed_to m g)

-- Where nothing goes wrong: an object that is kept can't be read, of which the least is named, or the history is packed.
pub record Packs {R : Type 0} (terms : Terms R) (m : Moment R) (t : ℕ) (lines : List Line) (new : Moment R) : Type 0 where
  pub keep : ℕ → Bool
  pub kept : IsKeep terms.links m.standing t keep
  pub told : ((o : ℕ) × IsUnreadable terms.links m.standing t keep o × (refused_so m (Line.PackUnreadable o) ≡ (lines, new)))
      ⊎ (AreReadable terms.links m.standing t keep × (packs_to terms m (packed keep m.standing t) ≡ (lines, new)))

-- What may go wrong in a pack: of a stop also what met the openings after it. No request is lost, since there is none.
pub data PackTrouble : Type 0 where
  Lacks_memory : PackTrouble
  Pack_fails : PackTrouble
  Is_cut_off : (openings : List Opening) → PackTrouble

abbrev pub pack_fails : {R : Type 0} → Moment R → PackTrouble → Told R
pack_fails m Lacks_memory = refused_so m Line.PackMemory
pack_fails m Pack_fails = refused_so m Line.PackFault
pack_fails m (Is_cut_off openings) = restarted [] openings m

-- A pack at t may print these lines, and this is the moment after it.
abbrev pub PacksAt : {R : Type 0} → Terms R → Moment R → ℕ → List Line → Moment R → Type 0
PacksAt terms old t lines new =
    ((any_request old.workers ≡ true) × (refused_so old Line.PackBusy ≡ (lines, new)))
    ⊎ ((any_request old.workers ≡ false) × (Packs terms old t lines new ⊎ ((trouble : PackTrouble) × (pack_fails old trouble ≡ (lines, new)))))
