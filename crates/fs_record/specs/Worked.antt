-- Worked rows of the spellings of heads, data records and transactions, by hand from the tables of the formats.
use Rattle.std.proofs.Common.{◌≡◌, ℕ, List, [], ◌∷◌, refl, codes}
use Rattle.zbase.specs.Numbers.{be64, be16}
use Rattle.fs_record.specs.declared.heads.TxnHead.{TxnHead}
use Rattle.fs_record.specs.declared.heads.DataHead.{DataHead}
use Rattle.fs_record.specs.declared.body.TxnTexts.{TxnTexts}
use Rattle.fs_record.specs.declared.body.Item.{Item}
use Rattle.fs_record.specs.declared.body.Body.TheVariants.{Full, Back}
use Rattle.fs_record.specs.Spelling.{txn_head, data_head, data_spelling, block_spelling}
use Rattle.fs_record.specs.Reading.{u64_read, u16_read, txn_head_read, data_head_read}
use Rattle.fs_record.specs.Written.{data_of, transaction}

-- ---- heads

abbrev pub packed_head : TxnHead
packed_head = record { tid = 230072808112128001; length = 258; status = 112; user = 5; description = 6; extension = 256 }

abbrev pub packed_bytes : List ℕ
packed_bytes =
    3 ∷ 49 ∷ 98 ∷ 0 ∷ 0 ∷ 0 ∷ 0 ∷ 1 ∷ 0 ∷ 0 ∷ 0 ∷ 0 ∷ 0 ∷ 0 ∷ 1 ∷ 2 ∷ 112 ∷ 0 ∷ 5 ∷ 0 ∷ 6 ∷ 1 ∷ 0 ∷ []

abbrev pub versioned_head : DataHead
versioned_head = record { oid = 7; tid = 230072808112128001; prev = 512; start = 4; version = 3; length = 256 }

abbrev pub versioned_bytes : List ℕ
versioned_bytes =
    0 ∷ 0 ∷ 0 ∷ 0 ∷ 0 ∷ 0 ∷ 0 ∷ 7 ∷ 3 ∷ 49 ∷ 98 ∷ 0 ∷ 0 ∷ 0 ∷ 0 ∷ 1 ∷ 0 ∷ 0 ∷ 0 ∷ 0 ∷ 0 ∷ 0 ∷ 2 ∷ 0
    ∷ 0 ∷ 0 ∷ 0 ∷ 0 ∷ 0 ∷ 0 ∷ 0 ∷ 4 ∷ 0 ∷ 3 ∷ 0 ∷ 0 ∷ 0 ∷ 0 ∷ 0 ∷ 0 ∷ 1 ∷ 0 ∷ []

transaction_head_is_spelled : txn_head packed_head ≡ packed_bytes
unfolding txn_head be64 be16
transaction_head_is_spelled = refl

transaction_head_is_read : txn_head_read packed_bytes ≡ packed_head
unfolding u64_read u16_read
transaction_head_is_read = refl

data_head_is_spelled : data_head versioned_head ≡ versioned_bytes
unfolding data_head be64 be16
data_head_is_spelled = refl

data_head_is_read : data_head_read versioned_bytes ≡ versioned_head
unfolding u64_read u16_read
data_head_is_read = refl

-- The first bytes of other records are a head too, and what follows it changes nothing.
what_follows_a_head_changes_nothing : txn_head_read versioned_bytes ≡ record { tid = 7; length = 230072808112128001; status = 0; user = 0; description = 0; extension = 2 }
unfolding u64_read u16_read
what_follows_a_head_changes_nothing = refl

-- ---- data records

-- A back pointer to 66,051 in the place of data, behind a length of 0.
back_pointer_is_spelled : data_spelling (data_of 230072808112128001 515 (record { oid = 3; prev = 258; body = Back 66051 })) ≡
    0 ∷ 0 ∷ 0 ∷ 0 ∷ 0 ∷ 0 ∷ 0 ∷ 3 ∷ 3 ∷ 49 ∷ 98 ∷ 0 ∷ 0 ∷ 0 ∷ 0 ∷ 1 ∷ 0 ∷ 0 ∷ 0 ∷ 0 ∷ 0 ∷ 0 ∷ 1 ∷ 2
    ∷ 0 ∷ 0 ∷ 0 ∷ 0 ∷ 0 ∷ 0 ∷ 2 ∷ 3 ∷ 0 ∷ 0 ∷ 0 ∷ 0 ∷ 0 ∷ 0 ∷ 0 ∷ 0 ∷ 0 ∷ 0 ∷ 0 ∷ 0 ∷ 0 ∷ 0 ∷ 0 ∷ 1
    ∷ 2 ∷ 3 ∷ []
unfolding data_spelling data_head be64 be16
back_pointer_is_spelled = refl

-- Data of three bytes; the id and the previous place are numbers whose bytes all differ.
data_are_spelled : data_spelling (data_of 230072808112128001 515 (record { oid = 72623859790382856; prev = 17434265340928784376; body = Full (0 ∷ 255 ∷ 0 ∷ []) })) ≡
    1 ∷ 2 ∷ 3 ∷ 4 ∷ 5 ∷ 6 ∷ 7 ∷ 8 ∷ 3 ∷ 49 ∷ 98 ∷ 0 ∷ 0 ∷ 0 ∷ 0 ∷ 1 ∷ 241 ∷ 242 ∷ 243 ∷ 244 ∷ 245 ∷ 246 ∷ 247 ∷ 248
    ∷ 0 ∷ 0 ∷ 0 ∷ 0 ∷ 0 ∷ 0 ∷ 2 ∷ 3 ∷ 0 ∷ 0 ∷ 0 ∷ 0 ∷ 0 ∷ 0 ∷ 0 ∷ 0 ∷ 0 ∷ 3 ∷ 0 ∷ 255 ∷ 0 ∷ []
unfolding data_spelling data_head be64 be16
data_are_spelled = refl

-- ---- transactions

abbrev pub two_texts : TxnTexts
two_texts = record { user = codes "uu"; description = codes "ddd"; extension = [] }

-- A back pointer of the object 0 whose record stands at 27, and new data of the object 1, whose record stands at 103.
abbrev pub two_items : List Item
two_items = record { oid = 0; prev = 27; body = Back 27 } ∷ record { oid = 1; prev = 103; body = Full (codes "new") } ∷ []

-- Behind a file of 184 bytes.
transaction_is_spelled : block_spelling (transaction 184 230072808112128001 32 two_texts two_items) ≡
    3 ∷ 49 ∷ 98 ∷ 0 ∷ 0 ∷ 0 ∷ 0 ∷ 1 ∷ 0 ∷ 0 ∷ 0 ∷ 0 ∷ 0 ∷ 0 ∷ 0 ∷ 123 ∷ 32 ∷ 0 ∷ 2 ∷ 0 ∷ 3 ∷ 0 ∷ 0 ∷ 117
    ∷ 117 ∷ 100 ∷ 100 ∷ 100 ∷ 0 ∷ 0 ∷ 0 ∷ 0 ∷ 0 ∷ 0 ∷ 0 ∷ 0 ∷ 3 ∷ 49 ∷ 98 ∷ 0 ∷ 0 ∷ 0 ∷ 0 ∷ 1 ∷ 0 ∷ 0 ∷ 0 ∷ 0
    ∷ 0 ∷ 0 ∷ 0 ∷ 27 ∷ 0 ∷ 0 ∷ 0 ∷ 0 ∷ 0 ∷ 0 ∷ 0 ∷ 184 ∷ 0 ∷ 0 ∷ 0 ∷ 0 ∷ 0 ∷ 0 ∷ 0 ∷ 0 ∷ 0 ∷ 0 ∷ 0 ∷ 0
    ∷ 0 ∷ 0 ∷ 0 ∷ 0 ∷ 0 ∷ 27 ∷ 0 ∷ 0 ∷ 0 ∷ 0 ∷ 0 ∷ 0 ∷ 0 ∷ 1 ∷ 3 ∷ 49 ∷ 98 ∷ 0 ∷ 0 ∷ 0 ∷ 0 ∷ 1 ∷ 0 ∷ 0
    ∷ 0 ∷ 0 ∷ 0 ∷ 0 ∷ 0 ∷ 103 ∷ 0 ∷ 0 ∷ 0 ∷ 0 ∷ 0 ∷ 0 ∷ 0 ∷ 184 ∷ 0 ∷ 0 ∷ 0 ∷ 0 ∷ 0 ∷ 0 ∷ 0 ∷ 0 ∷ 0 ∷ 3
    ∷ 110 ∷ 101 ∷ 119 ∷ 0 ∷ 0 ∷ 0 ∷ 0 ∷ 0 ∷ 0 ∷ 0 ∷ 123 ∷ []
unfolding block_spelling txn_head data_spelling data_head be64 be16
transaction_is_spelled = refl
