use Rattle.std.proofs.Common.{◌≡◌, ℕ, ◌+◌, List, [], ◌∷◌, ◌++◌, append_assoc, refl, sym, ap, ap₂, subst, ◌∙◌, rules, arith}
use Rattle.std.specs.Prelude.{All}
use Rattle.std.specs.List.{AllByRecursion}
use Rattle.std.specs.Vec.Iter.{into_iter_items}
use Rattle.std.proofs.lemmas.List.{map_push}
use Rattle.std.proofs.lemmas.List.Elements.{All-push}
use Rattle.std.proofs.lemmas.List.Sums.{sum_by_push}
use Rattle.zdisk.specs.Disk.{Told, content}
use Rattle.evaluator.specs.declared.draft.Entry.{Entry}
use Rattle.evaluator.specs.Settle.{record_of, size_of_entry}
use Rattle.fs_record.specs.declared.body.Item.{Item}
use Rattle.fs_record.specs.Sizes.{record_size, records_size}
use Rattle.fs_record.specs.Written.{HasBody}
use Rattle.fs_scan.specs.OnlyReads.{reads_as, reads_none, reads_then}
use Rattle.fs_store.specs.Drafts.{FitsEntry, NeedsNoLook, sizes_of}
use Rattle.fs_store.specs.Fronts.{history_at, records_at}
use Rattle.fs_store.specs.Pointing.{IsDirect}
use Rattle.fs_store.specs.Settled.{AreOf, IsRight, says}
use Rattle.fs_store.proofs.Tellings.{always, moved, on_both, on_three}
use Rattle.fs_store.proofs.file.OpenFile.items_of.Goals as goal

are_more : (told : Told) (end : ℕ) (es : List Entry) (e : Entry) (items : List Item) (item : Item) → AreOf told end es items → says (records_at told end) item ≡ record_of (history_at told end) e → IsRight (records_at told end) item → AreOf told end (es ++ e ∷ []) (items ++ item ∷ [])
are_more told end es e items item are said right = (
  map_push (says (records_at told end)) items item ∙ ap₂ (λ x y. x ++ y ∷ []) are.0 said ∙ sym (map_push (record_of (history_at told end)) es e),
  All-push (IsRight (records_at told end)) items item are.1 right,
)

size_more : (es : List Entry) (e : Entry) (items : List Item) (item : Item) → records_size items ≡ sizes_of es → record_size item ≡ size_of_entry e → records_size (items ++ item ∷ []) ≡ sizes_of (es ++ e ∷ [])
size_more es e items item same one = sum_by_push record_size items item ∙ ap₂ (λ x y. x + y) same one ∙ sym (sum_by_push size_of_entry es e)

-- what holds of all holds in front and behind
all_split : (P : Entry → Type 0) (es fs : List Entry) → AllByRecursion P (es ++ fs) → AllByRecursion P es × AllByRecursion P fs
all_split P [] fs all = (tt, all)
all_split P (x ∷ xs) fs all = let rest = all_split P xs fs all.1 in ((all.0, rest.0), rest.1)

none_of : {X : Type 0} (P : X → Type 0) → All P []
none_of P = λ k d lt. absurd (omega (arith, lt))

pub loop-entry-init : goal.loop-entry-init
loop-entry-init g c =
    let o = g.D.Disk.told c.args.disk.now in
    let end = c.args.self.now.end in
    let all : into_iter_items c.into_iter-entry-iterator.result ≡ c.args.entries = cc in
    let none : c.in_ok-items.items.items ≡ [] = c.in_ok-items.ensures.items in
    record {
      front = [];
      joined = all;
      are = rw none (always o (λ told. AreOf told end [] []) (λ told. (refl, none_of (IsRight (records_at told end)))));
      direct = rw none (always o (λ told. All (λ x. IsDirect (content told) x.body) []) (λ told. none_of (λ (x : Item). IsDirect (content told) x.body)));
      bodies = rw none (none_of HasBody);
      size = ap records_size none;
      fits = subst (AllByRecursion (FitsEntry c.args.self.now.next)) (sym all) c.requires.fits;
      calls = λ nothing. refl;
      only = reads_none g.D.Disk c.args.disk.now;
    }

-- the entries before the next one, that one, and those behind it
split_at : (P : Entry → Type 0) (front left behind entries : List Entry) (entry : Entry) → front ++ left ≡ entries → left ≡ entry ∷ behind → AllByRecursion P entries → AllByRecursion P front × P entry
split_at P front left behind entries entry joined is all =
    let parts = all_split P front left (subst (AllByRecursion P) (sym joined) all) in
    (parts.0, (subst (AllByRecursion P) is parts.1).0)

pub returns-in_err-item-clause-calls : goal.returns-in_err-item-clause-calls
returns-in_err-item-clause-calls g c = λ all.
    let i = c.loop-entry.invariant in
    let parts = split_at NeedsNoLook i.front _ _ c.args.entries c.in-Some.entry i.joined c.in-Some.ensures.steps.0 all in
    c.in_err-item.ensures.calls parts.1 ∙ i.calls parts.0

pub returns-in_err-push-clause-calls : goal.returns-in_err-push-clause-calls
returns-in_err-push-clause-calls g c = λ all.
    let i = c.loop-entry.invariant in
    let parts = split_at NeedsNoLook i.front _ _ c.args.entries c.in-Some.entry i.joined c.in-Some.ensures.steps.0 all in
    c.in_ok-item.ensures.calls parts.1 ∙ i.calls parts.0

pub loop-entry-preserved : goal.loop-entry-preserved
loop-entry-preserved g c =
    let o = g.D.Disk.told c.args.disk.now in
    let i = c.loop-entry.invariant in
    let e = c.in_ok-item.ensures in
    let end = c.args.self.now.end in
    let entry = c.in-Some.entry in
    let items = c.loop-entry.items.items in
    let item = c.in_ok-item.item in
    let pushed : c.push.new.self.items ≡ items ++ item ∷ [] = c.in_ok-push.ensures.items in
    record {
      front = i.front ++ entry ∷ [];
      joined = append_assoc i.front (entry ∷ []) (into_iter_items c.next.new.self) ∙ ap (λ (es : List Entry). i.front ++ es) (sym c.in-Some.ensures.steps.0) ∙ i.joined;
      are = rw pushed (on_three o (λ told. AreOf told end i.front items) (λ told. says (records_at told end) item ≡ record_of (history_at told end) entry) (λ told. IsRight (records_at told end) item) (λ told. AreOf told end (i.front ++ entry ∷ []) (items ++ item ∷ []))
          (λ told are said right. are_more told end i.front entry items item are said right) i.are (moved _ o _ (sym i.only.same) e.said) (moved _ o _ (sym i.only.same) e.right));
      direct = rw pushed (on_both o (λ told. All (λ x. IsDirect (content told) x.body) items) (λ told. IsDirect (content told) item.body) (λ told. All (λ x. IsDirect (content told) x.body) (items ++ item ∷ []))
          (λ told all one. All-push (λ x. IsDirect (content told) x.body) items item all one) i.direct (moved _ o _ (sym i.only.same) e.direct));
      bodies = search rules;
      size = rw pushed (size_more i.front entry items item i.size e.size);
      fits = (subst (AllByRecursion (FitsEntry c.args.self.now.next)) c.in-Some.ensures.steps.0 i.fits).1;
      calls = λ none. let parts = all_split NeedsNoLook i.front (entry ∷ []) none in e.calls parts.1.0 ∙ i.calls parts.0;
      only = reads_then i.only (λ none. none) (reads_as e.only_reads (λ x. cc) (λ none. absurd none));
    }
