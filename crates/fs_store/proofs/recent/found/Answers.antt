use Rattle.std.proofs.Common.{◌≡◌, ℕ, Contains, Some, eqb, sym, ap, subst, ◌∙◌}
use Rattle.std.specs.Map.{lookup}
use Rattle.std.specs.Option.{option_copied}
use Rattle.lru.specs.LruCache.{LruCache}
use Rattle.lru.proofs.CallerLemmas.{Contains-promoted}
use Rattle.fs_store.specs.declared.reads.Loaded.{Loaded}
use Rattle.fs_store.specs.Recent.{total}
use Rattle.fs_store.proofs.Recents.{found_by, found_one, total_promoted}
use Rattle.fs_store.proofs.recent.found.Goals as goal

pub returns-in-Some-clause-found : goal.returns-in-Some-clause-found
returns-in-Some-clause-found c =
    let es = c.args.records.now.entries in
    let oid = c.args.oid in
    let now : c.promote.new.self.entries ≡ _ = ap (λ (x : LruCache ℕ Loaded). x.entries) c.promote.ensures.entries in
    let there = found_by c.promote.new.self.entries oid c.in-Some.loaded.now (subst (λ (n : ℕ). lookup (eqb n) c.promote.new.self.entries ≡ Some c.in-Some.loaded.now) c.oid.view_is (sym c.peek.ensures ∙ ap option_copied c.in-Some.is)) in
    found_one c.copy_at.result es oid c.args.place c.args.at c.in-Some.loaded.now
    (Contains-promoted (eqb c.oid.inside.0) es (oid, c.in-Some.loaded.now) (subst (λ l. Contains l (oid, c.in-Some.loaded.now)) now there)) c.copy_at.ensures

pub returns-in-Some-clause-stays : goal.returns-in-Some-clause-stays
returns-in-Some-clause-stays c = λ e there. Contains-promoted (eqb c.oid.inside.0) c.args.records.now.entries e (subst (λ (x : LruCache ℕ Loaded). Contains x.entries e) c.promote.ensures.entries there)

pub returns-in-Some-clause-total : goal.returns-in-Some-clause-total
returns-in-Some-clause-total c = ap (λ (x : LruCache ℕ Loaded). total x.entries) c.promote.ensures.entries ∙ total_promoted (eqb c.oid.inside.0) c.args.records.now.entries

pub returns-in-None-clause-stays : goal.returns-in-None-clause-stays
returns-in-None-clause-stays c = λ e there. Contains-promoted (eqb c.oid.inside.0) c.args.records.now.entries e (subst (λ (x : LruCache ℕ Loaded). Contains x.entries e) c.promote.ensures.entries there)

pub returns-in-None-clause-total : goal.returns-in-None-clause-total
returns-in-None-clause-total c = ap (λ (x : LruCache ℕ Loaded). total x.entries) c.promote.ensures.entries ∙ total_promoted (eqb c.oid.inside.0) c.args.records.now.entries

pub returns-in-Some-clause-cap : goal.returns-in-Some-clause-cap
returns-in-Some-clause-cap c = ap (λ (x : LruCache ℕ Loaded). x.cap) c.promote.ensures.entries

pub returns-in-None-clause-cap : goal.returns-in-None-clause-cap
returns-in-None-clause-cap c = ap (λ (x : LruCache ℕ Loaded). x.cap) c.promote.ensures.entries
