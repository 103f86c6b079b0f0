-- A file and a right block behind it.
use Rattle.std.proofs.Common.{◌≡◌, ◌∙◌, sym, ap, subst, ◌∷◌, ◌++◌, List, ℕ, length}
use Rattle.fs_record.specs.declared.body.Item.{Item}
use Rattle.fs_record.specs.declared.body.TxnTexts.{TxnTexts}
use Rattle.fs_record.specs.Spelling.{Block, block_spelling}
use Rattle.fs_record.specs.File.{Front, IsFile, IsRight, after}
use Rattle.fs_record.specs.FileLaws.{file_place}
use Rattle.fs_record.specs.Written.{transaction, IsWritable, GoesBehind}
use Rattle.fs_record.specs.WrittenLaws.{right_behind}

pub grown : (bytes : List ℕ) (front : Front) (b : Block) → IsFile bytes front → IsRight front b → IsFile (bytes ++ block_spelling b) (after front b)
grown bytes front b file right = record {
  blocks = b ∷ file.blocks;
  right = (subst (λ (f : Front). IsRight f b) file.said right, file.right);
  spelled = ap (λ (s : List ℕ). s ++ block_spelling b) file.spelled;
  said = ap (λ (f : Front). after f b) file.said;
}

pub written : (bytes : List ℕ) (front : Front) (start tid status : ℕ) (texts : TxnTexts) (items : List Item) → IsFile bytes front → start ≡ length bytes → IsWritable start tid status texts items → GoesBehind front tid status items
    → IsFile (bytes ++ block_spelling (transaction start tid status texts items)) (after front (transaction start tid status texts items))
written bytes front start tid status texts items file at w g = grown bytes front (transaction start tid status texts items) file (right_behind front start tid status texts items (at ∙ sym (file_place bytes front file)) w g)
