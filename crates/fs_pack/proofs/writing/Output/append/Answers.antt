use Rattle.std.proofs.Common.{◌≡◌, ◌+◌, ◌∙◌, ℕ, List, length, ap, ap₂, arith}
use Rattle.fs_index.specs.Places.{place_of}
use Rattle.fs_record.specs.Spelling.{block_spelling}
use Rattle.fs_record.specs.Written.{transaction}
use Rattle.fs_record.specs.declared.body.Item.{Item}
use Rattle.fs_record.specs.declared.layout.TheConstants.{TXN_HEAD_LEN}
use Rattle.fs_pack.specs.Entries.{entry_of}
use Rattle.fs_pack.specs.Output.{noted}
use Rattle.fs_pack.specs.OutputLaws.{with_size}
use Rattle.fs_pack.specs.Spelled.{entry_size}
use Rattle.fs_pack.proofs.Outputs.{sized_so}
use Rattle.fs_pack.proofs.writing.Output.append.Goals as goal

pub write_txn-requires-clause-fits : goal.write_txn-requires-clause-fits
write_txn-requires-clause-fits g c =
    let old = c.args.self.now in
    let w = c.args.whole in
    let sized = sized_so old.end c.in-Some.end (entry_of w) c.plus_whole.result c.plus_whole.ensures c.in-Some.is in
    let same : length (block_spelling (transaction old.end w.tid w.status w.texts c.as_slice.result.now)) ≡ entry_size (entry_of w) =
    ap (λ (items : List Item). length (block_spelling (transaction old.end w.tid w.status w.texts items))) (c.as_slice.ensures ∙ c.in_ok-items.ensures.items) ∙ with_size old.end (place_of old.newest) (entry_of w) in
    omega (arith, sized.short, same)

pub overflow_add-first : goal.overflow_add-first
overflow_add-first g c =
    let sized = sized_so c.args.self.now.end c.in-Some.end (entry_of c.args.whole) c.plus_whole.result c.plus_whole.ensures c.in-Some.is in
    omega (arith, sized.short)

pub overflow_add-first-2 : goal.overflow_add-first-2
overflow_add-first-2 g c =
    let sized = sized_so c.args.self.now.end c.in-Some.end (entry_of c.args.whole) c.plus_whole.result c.plus_whole.ensures c.in-Some.is in
    omega (arith, sized.short, c.texts_size.ensures)

pub returns-clause-appends : goal.returns-clause-appends
returns-clause-appends g c =
    let old = c.args.self.now in
    let sized = sized_so old.end c.in-Some.end (entry_of c.args.whole) c.plus_whole.result c.plus_whole.ensures c.in-Some.is in
    record {
      end = sized.is;
      newest = λ o.
          c.in_ok-note.ensures o
          ∙ ap₂ (λ (n : ℕ) (items : List Item). noted o (place_of old.newest o) (old.end + TXN_HEAD_LEN + n) items) c.texts_size.ensures (c.as_slice-3.ensures ∙ c.in_ok-items.ensures.items);
    }
