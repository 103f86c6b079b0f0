-- Where the data stands to which back pointers lead.
use Rattle.std.proofs.Common.{◌≡◌, ◌≢◌, ℕ, ◌<◌, ◌≤◌, false, List, Option, Some, None, IfSome, is_some, refl, sym, ap, subst, ◌∙◌, arith, inl, inr}
use Rattle.zdisk.specs.Disk.{Told, content}
use Rattle.fs_record.specs.declared.heads.DataHead.{DataHead}
use Rattle.fs_record.specs.declared.body.Body.{Body}
use Rattle.fs_record.specs.declared.body.Body.TheVariants.{Back, Full}
use Rattle.fs_record.specs.File.{Earlier, value_at}
use Rattle.fs_record.specs.Spelling.{body_length, head_of}
use Rattle.fs_record.specs.Standing.{IsPlace}
use Rattle.fs_scan.specs.Backs.{HasDataOf}
use Rattle.fs_scan.specs.Present.{AllStand}
use Rattle.fs_scan.proofs.Backwards.{Headed, Leads, back_leads}
use Rattle.fs_scan.proofs.BodiesRead.{HasBody, HasHead}

-- the data that is meant stands there
abbrev pub DataStands : Option Told → ℕ → ℕ → Type 0
DataStands disk place at = IfSome disk (λ told. (records : List Earlier) (oid : ℕ) → AllStand (content told) records → IsPlace records oid place → 0 < place → HasDataOf (content told) records oid place at)

has_value : (body : Body) (n : ℕ) → n ≡ body_length body → n ≢ 0 → (value : List ℕ) × (body ≡ Full value)
has_value (Full bytes) n e some = (bytes, refl)
has_value (Back at) n e some = absurd (some e)

-- a record whose head has a length has data
pub stands_here : (disk : Option Told) (place at : ℕ) (head : DataHead) → Leads disk place at → Headed disk at head → head.length ≢ 0 → (0 < place → 0 < at) → DataStands disk place at
stands_here None place at head way headed some above = tt
stands_here (Some told) place at head way headed some above = λ records oid all is positive.
    let here = way records oid all is in
    let s = (all oid at here.0).1.stands in
    let v = has_value s.written.body head.length (ap (λ (h : DataHead). h.length) (headed s.written s.behind s.fits s.spelled)) some in
    inr (above positive, record { written = s.written; behind = s.behind; fits = s.fits; spelled = s.spelled; value = v.0; body = v.1 }, here.0, here.1)

no_value : {A : Type 0} (value : Option A) → is_some value ≡ false → value ≡ None
no_value None e = refl
no_value (Some x) e = absurd cc

-- a back pointer 0 means none
pub stands_none : (disk given : Option Told) (place at back : ℕ) (head : DataHead) → given ≡ disk → Leads disk place at → Headed disk at head → HasBody given at head (Some (Back back)) → back ≡ 0 → DataStands disk place 0
stands_none None given place at back head same way headed body none = tt
stands_none (Some told) given place at back head same way headed body none = λ records oid all is positive.
    let here = way records oid all is in
    let l = back_leads told given records oid at back head same headed body all here.0 in
    inl (refl, sym here.1 ∙ no_value (value_at at records) (l.1 none))

-- and any other leads to an earlier place
pub never_behind : (disk given : Option Told) (place at back : ℕ) (head : DataHead) → given ≡ disk → Leads disk place at → Headed disk at head → HasBody given at head (Some (Back back)) → at ≤ back → DataStands disk place 0
never_behind None given place at back head same way headed body le = tt
never_behind (Some told) given place at back head same way headed body le = λ records oid all is positive.
    let l = back_leads told given records oid at back head same headed body all (way records oid all is).0 in
    absurd (omega (arith, l.0, le))

none_some : {A : Type 0} (a : A) → None ≡ Some a → ⊥
none_some a e = absurd cc

-- some record stands there
pub never_none : (disk given : Option Told) (place at : ℕ) (head : DataHead) → given ≡ disk → Leads disk place at → Headed disk at head → HasBody given at head None → DataStands disk place 0
never_none None given place at head same way headed body = tt
never_none (Some told) given place at head same way headed body = λ records oid all is positive.
    let s = (all oid at (way records oid all is).0).1.stands in
    absurd (none_some s.written.body (subst (λ (x : Option Told). HasBody x at head None) same body s.written s.behind s.fits s.spelled (headed s.written s.behind s.fits s.spelled)))

pub never_headless : (disk given : Option Told) (place back : ℕ) → given ≡ disk → Leads disk place back → HasHead given back None → DataStands disk place 0
never_headless None given place back same way has = tt
never_headless (Some told) given place back same way has = λ records oid all is positive.
    let s = (all oid back (way records oid all is).0).1.stands in
    absurd (none_some (head_of s.written) (subst (λ (x : Option Told). HasHead x back None) same has s.written s.behind s.fits s.spelled))
