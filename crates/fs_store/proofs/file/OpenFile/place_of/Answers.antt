use Rattle.std.proofs.Common.{◌≡◌, Option, IfSome, sym, subst, ◌∙◌}
use Rattle.fs_record.specs.declared.body.Body.TheVariants.{Back}
use Rattle.fs_record.specs.File.{is_right_body, rows, value_of}
use Rattle.zbase.specs.Values.{upto, value}
use Rattle.zdisk.specs.Disk.{content}
use Rattle.std.specs.Prelude.{true}
use Rattle.fs_store.specs.declared.finding.Record.{Record}
use Rattle.fs_store.specs.Finding.{FoundIn}
use Rattle.fs_store.specs.Fronts.{history_at, records_at}
use Rattle.fs_store.specs.Pointing.{IsDirect}
use Rattle.fs_store.proofs.PutBack.{back_data, back_to_none, data_there, direct_data, right_data}
use Rattle.fs_store.proofs.file.OpenFile.place_of.Goals as goal

pub returns-then-to-eq0-clause-value : goal.returns-then-to-eq0-clause-value
returns-then-to-eq0-clause-value g c = back_to_none (g.D.Disk.told c.args.disk.now) c.args.self.now c.args.oid c.args.to c.requires (sym c.to.view_is ∙ c.if-to-eq0.true)

pub returns-in-Some-clause-value : goal.returns-in-Some-clause-value
returns-in-Some-clause-value g c =
    let o = g.D.Disk.told c.args.disk.now in
    let end = c.args.self.now.end in
    let found = subst (λ (x : Option Record). IfSome o (λ told. FoundIn told end c.args.oid c.args.to x)) c.in-Some.is c.in_ok-find.ensures.found in
    data_there o (g.D.Disk.told c.find.new.disk) c.args.self.now c.args.oid c.args.to c.in-Some.found c.data_place.result (λ told at. value_of (records_at told end) (Back at) ≡ value (upto (history_at told end) c.args.to) c.args.oid)
    c.in_ok-find.ensures.only_reads.same c.requires found c.data_place.ensures.data_stands (λ told at f has. back_data told end c.args.oid c.args.to at c.in-Some.found f has)

pub returns-in-Some-clause-right : goal.returns-in-Some-clause-right
returns-in-Some-clause-right g c =
    let o = g.D.Disk.told c.args.disk.now in
    let end = c.args.self.now.end in
    let found = subst (λ (x : Option Record). IfSome o (λ told. FoundIn told end c.args.oid c.args.to x)) c.in-Some.is c.in_ok-find.ensures.found in
    data_there o (g.D.Disk.told c.find.new.disk) c.args.self.now c.args.oid c.args.to c.in-Some.found c.data_place.result (λ told at. is_right_body (rows (records_at told end)) c.args.oid (Back at) ≡ true)
    c.in_ok-find.ensures.only_reads.same c.requires found c.data_place.ensures.data_stands (λ told at f has. right_data told end c.args.oid at c.in-Some.found has)

pub returns-in-Some-clause-direct : goal.returns-in-Some-clause-direct
returns-in-Some-clause-direct g c =
    let o = g.D.Disk.told c.args.disk.now in
    let end = c.args.self.now.end in
    let found = subst (λ (x : Option Record). IfSome o (λ told. FoundIn told end c.args.oid c.args.to x)) c.in-Some.is c.in_ok-find.ensures.found in
    data_there o (g.D.Disk.told c.find.new.disk) c.args.self.now c.args.oid c.args.to c.in-Some.found c.data_place.result (λ told at. IsDirect (content told) (Back at))
    c.in_ok-find.ensures.only_reads.same c.requires found c.data_place.ensures.data_stands (λ told at f has. direct_data told end c.args.oid at c.in-Some.found has)
