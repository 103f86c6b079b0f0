-- Where the records of a transaction stand that is written.
use Rattle.std.specs.Prelude.{◌+◌, ℕ, max, List, [], ◌∷◌}
use Rattle.zbase.specs.declared.ids.Row.{Row}
use Rattle.fs_record.specs.declared.body.Item.{Item}
use Rattle.fs_record.specs.declared.body.TxnTexts.{TxnTexts}
use Rattle.fs_record.specs.Sizes.{record_size, texts_size}

-- one behind another, the first at a place
abbrev pub item_rows : ℕ → List Item → List Row
item_rows place [] = []
item_rows place (item ∷ items) = record { oid = item.oid; place = place } ∷ item_rows (place + record_size item) items

-- one more than the greatest object id, where it was this before the items
abbrev pub next_with : ℕ → List Item → ℕ
next_with above [] = above
next_with above (item ∷ items) = next_with (max above (item.oid + 1)) items

-- where the first record of a transaction stands that begins there
abbrev pub first_at : ℕ → TxnTexts → ℕ
first_at start texts = start + 23 + texts_size texts
