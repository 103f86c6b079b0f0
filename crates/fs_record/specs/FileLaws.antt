-- A file says a history, and ends at its counted place.
use Rattle.std.proofs.Common.{◌≡◌, ℕ, ◌+◌, ◌<◌, Bool, true, false, cond, ◌&&◌, ltb, List, [], ◌∷◌, length, Option, Some, None, refl, sym, ap, subst, ◌∙◌, arith}
use Rattle.std.specs.List.{list_all}
use Rattle.std.proofs.lemmas.List.{length-append}
use Rattle.std.proofs.lemmas.Bool.{ltb-true}
use Rattle.zbase.specs.History.{IsHistory}
use Rattle.zbase.specs.Values.{last}
use Rattle.zbase.specs.HistoryLaws.{added_history}
use Rattle.zbase.specs.declared.ids.Row.{Row}
use Rattle.fs_record.specs.declared.damage.Damage.{Damage}
use Rattle.fs_record.specs.declared.damage.Damage.TheVariants.{BadTid}
use Rattle.fs_record.specs.Spelling.{Inside, Records, Skipped, Block, block_spelling, long_of}
use Rattle.fs_record.specs.SpellingLaws.{length-block}
use Rattle.fs_record.specs.File.{Front, IsFile, AreRight, after_in, fault_in, front_of, bytes_of, rows, is_own, transaction_of}

place_after : (front : Front) (b : Block) (i : Inside) → (after_in front b i).place ≡ front.place + (long_of b + 8)
unfolding after_in
place_after front b (Skipped bytes) = refl
place_after front b (Records ds) = refl

place_is : (bs : List Block) → (front_of bs).place ≡ length (bytes_of bs)
place_is [] = refl
place_is (b ∷ bs) = omega (arith, place_after (front_of bs) b b.inside, place_is bs, length-append (bytes_of bs) (block_spelling b), length-block b)

pub file_place : (bytes : List ℕ) (front : Front) → IsFile bytes front → front.place ≡ length bytes
file_place bytes front file = ap (λ (f : Front). f.place) file.said ∙ place_is file.blocks ∙ ap length (sym file.spelled)

first_test : (t u : Bool) (d : Damage) (o : Option Damage) → cond (t && u) o (Some d) ≡ None → t ≡ true
first_test true u d o e = refl
first_test false u d o e = absurd cc

pub rises : (place t : ℕ) (rs : List Row) (b : Block) (ds : List _) → fault_in place t rs b (Records ds) ≡ None → t < b.tid
unfolding fault_in
rises place t rs b ds e = ltb-true t b.tid (first_test (ltb t b.tid) (list_all (is_own b.tid place) ds) BadTid _ e)

history_after : (front : Front) (b : Block) (i : Inside) → fault_in front.place (last front.history) (rows front.records) b i ≡ None → IsHistory front.history → IsHistory (after_in front b i).history
unfolding after_in
history_after front b (Skipped bytes) e h = h
history_after front b (Records ds) e h = added_history front.history (transaction_of front.records b ds) h (rises front.place (last front.history) (rows front.records) b ds e)

histories : (bs : List Block) → AreRight bs → IsHistory (front_of bs).history
histories [] right = tt
histories (b ∷ bs) right = history_after (front_of bs) b b.inside right.0.right (histories bs right.1)

pub file_history : (bytes : List ℕ) (front : Front) → IsFile bytes front → IsHistory front.history
file_history bytes front file = subst (λ (f : Front). IsHistory f.history) (sym file.said) (histories file.blocks file.right)
