use Rattle.std.proofs.Common.{◌≡◌, ℕ, List, true, Option, Some, None, IfSome, drop, subst}
use Rattle.std.specs.Option.{option_map}
use Rattle.std.specs.List.{list_all}
use Rattle.zdisk.specs.Disk.{Told, content}
use Rattle.fs_record.specs.File.{Earlier, has_body, rows, values_of}
use Rattle.fs_record.specs.Opening.{Stands}
use Rattle.fs_record.specs.Spelling.{Block, Data, Records, txn_head_of}
use Rattle.fs_scan.specs.declared.extent.Extent.{Extent}
use Rattle.fs_scan.specs.declared.wholes.OidValue.{OidValue}
use Rattle.fs_scan.specs.Followed.{StandsNone}
use Rattle.fs_scan.specs.Present.{AllStand}
use Rattle.fs_scan.specs.Wholes.{records_in}
use Rattle.fs_scan.proofs.wholes.read_whole.Goals as goal

-- no values are read only where no such transaction stands
no_values : (disk given : Option Told) (place : ℕ) (extent : Extent) (found : Option (List OidValue)) → given ≡ disk → found ≡ None
    → IfSome given (λ told. (b : Block) (ds : List Data) (more : List ℕ) (records : List Earlier) → Stands b (drop place (content told)) more → b.inside ≡ Records ds → extent.head ≡ txn_head_of b → AllStand (content told) records → list_all (has_body (rows records)) ds ≡ true
    → option_map records_in found ≡ Some (values_of records ds)) → StandsNone disk place extent
no_values None given place extent found same none says = tt
no_values (Some told) given place extent found same none says = λ b ds more records stands inside head all right.
    let said = subst (λ (d : Option Told). IfSome d (λ told. (b : Block) (ds : List Data) (more : List ℕ) (records : List Earlier) → Stands b (drop place (content told)) more → b.inside ≡ Records ds → extent.head ≡ txn_head_of b → AllStand (content told) records → list_all (has_body (rows records)) ds ≡ true → option_map records_in found ≡ Some (values_of records ds))) same says in
    let is : option_map records_in None ≡ Some (values_of records ds) = subst (λ (f : Option (List OidValue)). option_map records_in f ≡ Some (values_of records ds)) none (said b ds more records stands inside head all right) in
    absurd cc

pub returns-in_default-2-clause-means : goal.returns-in_default-2-clause-means
returns-in_default-2-clause-means g c = no_values (g.D.Disk.told c.args.disk.now) _ c.args.place c.args.extent.now _ c.in_ok-texts.ensures.only_reads.same c.in_default-2.is c.in_ok-values.ensures.values
