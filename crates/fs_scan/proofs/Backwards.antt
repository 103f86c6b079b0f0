-- What it has cost to follow back pointers.
use Rattle.std.proofs.Common.{◌≡◌, ◌≢◌, ℕ, suc, ◌+◌, ◌*◌, ◌<◌, ◌≤◌, false, List, ◌++◌, drop, Option, Some, None, IfSome, refl, sym, ap, subst, ◌∙◌, arith}
use Rattle.zdisk.specs.Disk.{Told, content}
use Rattle.fs_record.specs.declared.heads.DataHead.{DataHead}
use Rattle.fs_record.specs.declared.body.Body.{Body}
use Rattle.fs_record.specs.declared.body.Body.TheVariants.{Back}
use Rattle.fs_record.specs.File.{Earlier, value_at}
use Rattle.fs_record.specs.Fits.{FitsData}
use Rattle.fs_record.specs.Spelling.{Data, data_spelling, head_of}
use Rattle.fs_record.specs.Standing.{IsPlace}
use Rattle.fs_scan.specs.Backs.{CostsBacks, LeadsTo, PointsTo}
use Rattle.fs_scan.specs.Present.{AllStand, back_in, means_value}
use Rattle.fs_scan.proofs.BodiesRead.{HasBody, HasHead}
use Rattle.fs_scan.proofs.Present.{leads}

-- the place was come to by two calls for each back pointer
pub record Came (bytes : List ℕ) (place at calls now : ℕ) : Type 0 where
  pub backs : ℕ
  pub leads : LeadsTo bytes backs place at
  pub within : now ≤ calls + 2 * backs

-- ---- what is known on the way, where the disk tells

abbrev CameTo : Option Told → ℕ → ℕ → ℕ → ℕ → Type 0
CameTo disk place at calls now = IfSome disk (λ told. (records : List Earlier) (oid : ℕ) → AllStand (content told) records → IsPlace records oid place → Came (content told) place at calls now)

abbrev Costs : Option Told → ℕ → ℕ → ℕ → Type 0
Costs disk place calls more = IfSome disk (λ told. (records : List Earlier) (oid : ℕ) → AllStand (content told) records → IsPlace records oid place → CostsBacks (content told) place calls more)

abbrev pub Headed : Option Told → ℕ → DataHead → Type 0
Headed disk at head = IfSome disk (λ told. (d : Data) (more : List ℕ) → FitsData d → drop at (content told) ≡ data_spelling d ++ more → head ≡ head_of d)

abbrev pub Leads : Option Told → ℕ → ℕ → Type 0
Leads disk place at = IfSome disk (λ told. (records : List Earlier) (oid : ℕ) → AllStand (content told) records → IsPlace records oid place → IsPlace records oid at × (value_at at records ≡ value_at place records))

pub begins : (disk : Option Told) (place calls : ℕ) → CameTo disk place place calls calls
begins None place calls = tt
begins (Some told) place calls = λ records oid all is. record { backs = 0; leads = refl; within = omega arith }

same_body : (a b : Body) → Some a ≡ Some b → a ≡ b
same_body a b e = cc

same_head : (a b : DataHead) → Some a ≡ Some b → a ≡ b
same_head a b e = cc

points : (told : Told) (place at back : ℕ) (head : DataHead) (records : List Earlier) (oid : ℕ) → AllStand (content told) records → IsPlace records oid at → Headed (Some told) at head → HasBody (Some told) at head (Some (Back back)) → back ≢ 0 → PointsTo (content told) at back
points told place at back head records oid all is headed body some =
    let s = (all oid at is).1.stands in
    record {
      written = s.written;
      behind = s.behind;
      fits = s.fits;
      spelled = s.spelled;
      body = sym (same_body (Back back) s.written.body (body s.written s.behind s.fits s.spelled (headed s.written s.behind s.fits s.spelled)));
      some = omega (arith, some);
    }

-- one back pointer more
pub further : (disk given : Option Told) (place at back calls now more : ℕ) (head : DataHead) → given ≡ disk → CameTo disk place at calls now → Leads disk place at → Headed disk at head → HasBody given at head (Some (Back back)) → back ≢ 0 → more ≤ now + 2 → CameTo disk place back calls more
further None given place at back calls now more head same came leads headed body some le = tt
further (Some told) given place at back calls now more head same came leads headed body some le = λ records oid all is.
    let c = came records oid all is in
    let there = subst (λ (x : Option Told). HasBody x at head (Some (Back back))) same body in
    record {
      backs = suc c.backs;
      leads = (at, c.leads, points told place at back head records oid all (leads records oid all is).0 headed there some);
      within = omega (arith, c.within, le);
    }

-- what is known of the record to which it points

pub headed_on : (disk given : Option Told) (at : ℕ) (read : Option DataHead) (head : DataHead) → given ≡ disk → HasHead given at read → read ≡ Some head → Headed disk at head
headed_on None given at read head same has is = tt
headed_on (Some told) given at read head same has is = λ d more fits e. same_head head (head_of d) (sym is ∙ subst (λ (x : Option Told). HasHead x at read) same has d more fits e)

back_of : (back : ℕ) (body : Body) → Some (Back back) ≡ Some body → Some back ≡ back_in body
back_of back body e = ap back_in (same_body (Back back) body e)

-- where it leads
pub back_leads : (told : Told) (given : Option Told) (records : List Earlier) (oid at back : ℕ) (head : DataHead) → given ≡ Some told → Headed (Some told) at head → HasBody given at head (Some (Back back)) → AllStand (content told) records → IsPlace records oid at
    → (back < at) × (back ≡ 0 → means_value records at ≡ false) × (back ≢ 0 → IsPlace records oid back × (value_at back records ≡ value_at at records))
back_leads told given records oid at back head same headed body all is =
    let there = subst (λ (x : Option Told). HasBody x at head (Some (Back back))) same body in
    leads (content told) (drop at (content told)) records oid at (Some back) refl (λ d more fits e. back_of back d.body (there d more fits e (headed d more fits e))) all is

pub leads_on : (disk given : Option Told) (place at back : ℕ) (head : DataHead) → given ≡ disk → Leads disk place at → Headed disk at head → HasBody given at head (Some (Back back)) → back ≢ 0 → Leads disk place back
leads_on None given place at back head same way headed body some = tt
leads_on (Some told) given place at back head same way headed body some = λ records oid all is.
    let here = way records oid all is in
    let l = back_leads told given records oid at back head same headed body all here.0 in
    ((l.2 some).0, (l.2 some).1 ∙ here.1)

-- ---- the end

pub costs : (disk : Option Told) (place at calls now more : ℕ) → CameTo disk place at calls now → more ≤ now + 1 → Costs disk place calls more
costs None place at calls now more came le = tt
costs (Some told) place at calls now more came le = λ records oid all is.
    let c = came records oid all is in
    record { backs = c.backs; at = at; leads = c.leads; within = omega (arith, c.within, le) }
