use Rattle.std.proofs.Common.{◌≡◌, ℕ, arith, length, refl, subst, ◌∙◌, slice_index_or, inl, inr}
use Rattle.std.proofs.lemmas.Bool.{cases_lt}
use Rattle.std.proofs.lemmas.List.{get_or_read_under}
use Rattle.fs_index.specs.Places.{HasRoom}
use Rattle.fs_index.proofs.index.Index.reserve.Goals as goal

pub loop-oid-preserved : goal.loop-oid-preserved
loop-oid-preserved c =
    let kept = c.loop-oid.invariant in
    record {
      places = λ o. c.in_ok-reserve_one.ensures.places o ∙ kept.places o;
      keeps = λ o has. c.in_ok-reserve_one.ensures.keeps o (kept.keeps o has);
      room = λ k d lt. elim (cases_lt k c.loop-oid.oid-index) [
        | inl less ↦ c.in_ok-reserve_one.ensures.keeps _ (kept.room k d less)
        | inr least ↦
            let here : c.loop-oid.oid-index ≡ k = omega (arith, lt, least) in
            let read = get_or_read_under c.args.oids.now c.loop-oid.oid-index (length c.args.oids.now) c.oid-item.result d c.oid-item.is c.loop-oid-test.true refl in
            subst (λ (i : ℕ). HasRoom c.reserve_one.new.self (slice_index_or c.args.oids.now i d)) here (subst (HasRoom c.reserve_one.new.self) read c.in_ok-reserve_one.ensures.room)
      ];
    }
