use Rattle.std.proofs.Common.{◌≡◌, ◌+◌, ℕ, Contains, eqb, sym, ap, subst, ◌∙◌, arith, inl}
use Rattle.std.specs.Prelude.{◌⊎◌}
use Rattle.lru.specs.LruCache.{LruCache, put_entries}
use Rattle.fs_store.specs.declared.reads.Loaded.{Loaded}
use Rattle.fs_store.specs.Recent.{Fits}
use Rattle.fs_store.proofs.Recents.{fits_left, fits_put, put_with, with_fewer}
use Rattle.fs_store.proofs.recent.put_in.Goals as goal

pub returns-in-Ok-clause-fits : goal.returns-in-Ok-clause-fits
returns-in-Ok-clause-fits c =
    let es = c.args.records.now.entries in
    let mid = c.make_room-room.new.records in
    let fewer : (e : ℕ × Loaded) → Contains mid.entries e → Contains es e = λ e there. c.remove-left.ensures.stays e (c.make_room-room.ensures.stays e there) in
    let room = c.make_room-room.ensures in
    subst (λ (x : LruCache ℕ Loaded). Fits x.entries (c.make_room-room.result + c.args.length)) (sym c.in-Ok.ensures.entries)
    (fits_put es mid c.oid.inside.0 c.args.loaded c.args.bytes c.make_room-room.result c.args.length c.requires.fits fewer room.total room.room c.requires.length c.requires.short)

pub returns-in-Ok-clause-with : goal.returns-in-Ok-clause-with
returns-in-Ok-clause-with c = λ e there.
    let es = c.args.records.now.entries in
    let mid = c.make_room-room.new.records in
    let fewer : (e : ℕ × Loaded) → Contains mid.entries e → Contains es e = λ e there. c.remove-left.ensures.stays e (c.make_room-room.ensures.stays e there) in
    subst (λ (n : ℕ). Contains es e ⊎ (e ≡ (n, c.args.loaded))) c.oid.view_is
    (with_fewer es mid.entries (put_entries eqb mid c.oid.inside.0 c.args.loaded) c.oid.inside.0 c.args.loaded fewer (put_with mid c.oid.inside.0 c.args.loaded) e
    (subst (λ (x : LruCache ℕ Loaded). Contains x.entries e) c.in-Ok.ensures.entries there))

pub returns-clause-fits : goal.returns-clause-fits
returns-clause-fits c =
    let es = c.args.records.now.entries in
    let mid = c.make_room-room.new.records in
    let fewer : (e : ℕ × Loaded) → Contains mid.entries e → Contains es e = λ e there. c.remove-left.ensures.stays e (c.make_room-room.ensures.stays e there) in
    let room = c.make_room-room.ensures in
    subst (λ (x : LruCache ℕ Loaded). Fits x.entries c.make_room-room.result) (sym c.in-Err.ensures.err)
    (fits_left es mid.entries c.args.bytes c.make_room-room.result c.requires.fits fewer room.total (omega (arith, room.room)))

pub returns-clause-with : goal.returns-clause-with
returns-clause-with c = λ e there.
    inl (c.remove-left.ensures.stays e (c.make_room-room.ensures.stays e (subst (λ (x : LruCache ℕ Loaded). Contains x.entries e) c.in-Err.ensures.err there)))

pub returns-in-Ok-clause-cap : goal.returns-in-Ok-clause-cap
returns-in-Ok-clause-cap c = ap (λ (x : LruCache ℕ Loaded). x.cap) c.in-Ok.ensures.entries ∙ c.make_room-room.ensures.cap ∙ c.remove-left.ensures.cap

pub returns-clause-cap : goal.returns-clause-cap
returns-clause-cap c = ap (λ (x : LruCache ℕ Loaded). x.cap) c.in-Err.ensures.err ∙ c.make_room-room.ensures.cap ∙ c.remove-left.ensures.cap
