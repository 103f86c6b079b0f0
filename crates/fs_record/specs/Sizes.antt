-- How many bytes a transaction takes.
use Rattle.std.specs.Prelude.{ℕ, ◌≡◌, ◌+◌, List, [], ◌∷◌, length, sum_by}
use Rattle.std.specs.List.{flat_map}
use Rattle.std.proofs.Common.{refl, sym, ap₂, ◌∙◌, arith}
use Rattle.std.proofs.lemmas.List.{length-append}
use Rattle.std.proofs.lemmas.List.Sums.{sum_by-cons}
use Rattle.fs_record.specs.declared.body.Item.{Item}
use Rattle.fs_record.specs.declared.body.TxnTexts.{TxnTexts}
use Rattle.fs_record.specs.Spelling.{Data, data_spelling, block_spelling, body_spelling, long_of, head_of, data_head}
use Rattle.fs_record.specs.SpellingLaws.{length-data_head, length-block, length-texts}
use Rattle.fs_record.specs.Written.{data_of, records_of, transaction}

-- a data record: its head, and its data or back pointer
abbrev pub record_size : Item → ℕ
record_size item = 42 + length (body_spelling item.body)

abbrev pub records_size : List Item → ℕ
records_size items = sum_by record_size items

abbrev pub texts_size : TxnTexts → ℕ
texts_size texts = length texts.user + length texts.description + length texts.extension

pub length-data : (d : Data) → length (data_spelling d) ≡ 42 + length (body_spelling d.body)
unfolding data_spelling
length-data d = omega (arith, length-append (data_head (head_of d)) (body_spelling d.body), length-data_head (head_of d))

pub length-records : (tid start : ℕ) (items : List Item) → length (flat_map data_spelling (records_of tid start items)) ≡ records_size items
length-records tid start [] = refl
length-records tid start (item ∷ items) =
    length-append (data_spelling (data_of tid start item)) (flat_map data_spelling (records_of tid start items))
    ∙ ap₂ (λ m n. m + n) (length-data (data_of tid start item)) (length-records tid start items)
    ∙ sym (sum_by-cons record_size item items)

pub long-transaction : (start tid status : ℕ) (texts : TxnTexts) (items : List Item) → long_of (transaction start tid status texts items) ≡ 23 + texts_size texts + records_size items
long-transaction start tid status texts items = omega (arith, length-texts (transaction start tid status texts items), length-records tid start items)

pub length-transaction : (start tid status : ℕ) (texts : TxnTexts) (items : List Item) → length (block_spelling (transaction start tid status texts items)) ≡ 31 + texts_size texts + records_size items
length-transaction start tid status texts items = omega (arith, length-block (transaction start tid status texts items), long-transaction start tid status texts items)
