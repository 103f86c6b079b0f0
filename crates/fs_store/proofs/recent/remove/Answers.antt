use Rattle.std.proofs.Common.{ℕ, Contains, eqb, sym, ap, subst, ◌∙◌, arith}
use Rattle.lru.specs.LruCache.{LruCache}
use Rattle.lru.proofs.CallerLemmas.{Contains-remove_entry}
use Rattle.fs_store.specs.declared.reads.Loaded.{Loaded}
use Rattle.fs_store.specs.Recent.{total}
use Rattle.fs_store.proofs.Recents.{total_removed, total_without}
use Rattle.fs_store.proofs.recent.remove.Goals as goal

pub overflow_sub-result : goal.overflow_sub-result
overflow_sub-result c =
    let es = c.args.records.now.entries in
    let e : ℕ × Loaded = (c.in-Some.field-0-0, c.in-Some.loaded) in
    let removed = total_removed (eqb c.oid.inside.0) es e (sym c.pop_entry.ensures.value ∙ c.in-Some.is) in
    omega (arith, removed, c.bytes_in.ensures, c.requires)

pub returns-in-Some-clause-total : goal.returns-in-Some-clause-total
returns-in-Some-clause-total c =
    let es = c.args.records.now.entries in
    let e : ℕ × Loaded = (c.in-Some.field-0-0, c.in-Some.loaded) in
    let removed = total_removed (eqb c.oid.inside.0) es e (sym c.pop_entry.ensures.value ∙ c.in-Some.is) in
    (omega (arith, removed, c.bytes_in.ensures, c.requires, ap (λ (x : LruCache ℕ Loaded). total x.entries) c.pop_entry.ensures.entries), omega arith)

pub returns-in-Some-clause-stays : goal.returns-in-Some-clause-stays
returns-in-Some-clause-stays c = λ e there. Contains-remove_entry (eqb c.oid.inside.0) c.args.records.now.entries e (subst (λ (x : LruCache ℕ Loaded). Contains x.entries e) c.pop_entry.ensures.entries there)

pub returns-in-None-clause-total : goal.returns-in-None-clause-total
returns-in-None-clause-total c =
    (omega (arith, total_without (eqb c.oid.inside.0) c.args.records.now.entries, c.requires, ap (λ (x : LruCache ℕ Loaded). total x.entries) c.pop_entry.ensures.entries), omega arith)

pub returns-in-None-clause-stays : goal.returns-in-None-clause-stays
returns-in-None-clause-stays c = λ e there. Contains-remove_entry (eqb c.oid.inside.0) c.args.records.now.entries e (subst (λ (x : LruCache ℕ Loaded). Contains x.entries e) c.pop_entry.ensures.entries there)

pub returns-in-Some-clause-cap : goal.returns-in-Some-clause-cap
returns-in-Some-clause-cap c = ap (λ (x : LruCache ℕ Loaded). x.cap) c.pop_entry.ensures.entries

pub returns-in-None-clause-cap : goal.returns-in-None-clause-cap
returns-in-None-clause-cap c = ap (λ (x : LruCache ℕ Loaded). x.cap) c.pop_entry.ensures.entries
