use Rattle.std.proofs.Common.{◌-◌, ℕ, Contains, length, sym, ap, subst, ◌∙◌, arith}
use Rattle.lru.specs.LruCache.{LruCache}
use Rattle.lru.proofs.CallerLemmas.{Contains-take}
use Rattle.fs_store.specs.declared.reads.Loaded.{Loaded}
use Rattle.fs_store.specs.Recent.{total}
use Rattle.fs_store.proofs.Recents.{none_last, total_last, total_taken}
use Rattle.fs_store.proofs.recent.make_room.Goals as goal

pub overflow_sub-bytes : goal.overflow_sub-bytes
overflow_sub-bytes c =
    let es = c.loop-records.records.entries in
    let e : ℕ × Loaded = (c.in-Some.field-0-0, c.in-Some.loaded) in
    let last = total_last es e (sym c.pop_lru.ensures.value ∙ c.in-Some.is) in
    omega (arith, last, c.bytes_in-bytes.ensures, c.loop-records.invariant.total)

pub loop-records-preserved-in-Some : goal.loop-records-preserved-in-Some
loop-records-preserved-in-Some c =
    let es = c.loop-records.records.entries in
    let e : ℕ × Loaded = (c.in-Some.field-0-0, c.in-Some.loaded) in
    let last = total_last es e (sym c.pop_lru.ensures.value ∙ c.in-Some.is) in
    let left = ap (λ (x : LruCache ℕ Loaded). total x.entries) c.pop_lru.ensures.entries in
    record {
      total = omega (arith, last, left, c.bytes_in-bytes.ensures, c.loop-records.invariant.total);
      bytes = omega (arith, c.loop-records.invariant.bytes);
      stays = λ x there. c.loop-records.invariant.stays x (Contains-take (length es - 1) es x (subst (λ (y : LruCache ℕ Loaded). Contains y.entries x) c.pop_lru.ensures.entries there));
      cap = ap (λ (x : LruCache ℕ Loaded). x.cap) c.pop_lru.ensures.entries ∙ c.loop-records.invariant.cap;
    }

pub loop-records-preserved : goal.loop-records-preserved
loop-records-preserved c =
    let es = c.loop-records.records.entries in
    let e : ℕ × Loaded = (c.in-Some.field-0-0, c.in-Some.loaded) in
    let last = total_last es e (sym c.pop_lru.ensures.value ∙ c.in-Some.is) in
    let left = ap (λ (x : LruCache ℕ Loaded). total x.entries) c.pop_lru.ensures.entries in
    record {
      total = omega (arith, last, left, c.bytes_in-bytes.ensures, c.loop-records.invariant.total);
      bytes = omega (arith, c.loop-records.invariant.bytes);
      stays = λ x there. c.loop-records.invariant.stays x (Contains-take (length es - 1) es x (subst (λ (y : LruCache ℕ Loaded). Contains y.entries x) c.pop_lru.ensures.entries there));
      cap = ap (λ (x : LruCache ℕ Loaded). x.cap) c.pop_lru.ensures.entries ∙ c.loop-records.invariant.cap;
    }

pub returns-in-None-clause-total : goal.returns-in-None-clause-total
returns-in-None-clause-total c =
    let es = c.loop-records.records.entries in
    let none = ap total (none_last es (sym c.pop_lru.ensures.value ∙ c.in-None.is)) in
    omega (arith, none, total_taken (length es - 1) es, ap (λ (x : LruCache ℕ Loaded). total x.entries) c.pop_lru.ensures.entries)

pub returns-in-None-clause-stays : goal.returns-in-None-clause-stays
returns-in-None-clause-stays c = λ x there.
    let es = c.loop-records.records.entries in
    c.loop-records.invariant.stays x (Contains-take (length es - 1) es x (subst (λ (y : LruCache ℕ Loaded). Contains y.entries x) c.pop_lru.ensures.entries there))

pub returns-in-None-clause-cap : goal.returns-in-None-clause-cap
returns-in-None-clause-cap c = ap (λ (x : LruCache ℕ Loaded). x.cap) c.pop_lru.ensures.entries ∙ c.loop-records.invariant.cap
