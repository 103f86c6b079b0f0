-- What a tape has where a server is refused.
use Rattle.std.proofs.Common.{◌∙◌, ℕ, List, [], append_assoc, flat_map, inl, inr, refl, sym}
use Rattle.zdisk.specs.Disk.{Told, content}
use Rattle.schedule.specs.Items.{IsSchedule, first_line, item_text}
use Rattle.schedule.specs.declared.item.Item2.{Item2}
use Rattle.zserve.specs.Happened.{Happening, items}
use Rattle.zserve.specs.Taping.{Stands, Taped, text_of}

-- one that is whole
pub taped_whole : (F : Type 0) (all : List Happening) (told : Told) → IsSchedule (content told) (items all) → Taped F all [] told
taped_whole F all told is = record {
  done = text_of all;
  piece = item_text Item2.End;
  put = inr (refl, inr (refl, refl));
  lines = is.lines;
  stands = inr (inl (is.text ∙ sym (append_assoc first_line (flat_map item_text (items all)) (item_text Item2.End))));
}

stands_as : (F G : Type 0) (done piece : List ℕ) (told : Told) → (F → G) → Stands F done piece told → Stands G done piece told
stands_as F G done piece told turn (inl same) = inl same
stands_as F G done piece told turn (inr (inl whole)) = inr (inl whole)
stands_as F G done piece told turn (inr (inr (failed, torn))) = inr (inr (turn failed, torn))

-- whether it failed, told in other words
pub taped_as : (F G : Type 0) (all more : List Happening) (told : Told) → (F → G) → Taped F all more told → Taped G all more told
taped_as F G all more told turn taped = record { done = taped.done; piece = taped.piece; put = taped.put; lines = taped.lines; stands = stands_as F G taped.done taped.piece told turn taped.stands }
