-- The head and the body of a data record, read where the record stands.
use Rattle.std.proofs.Common.{◌≡◌, ◌≢◌, ℕ, ◌+◌, ◌-◌, ◌<◌, ◌≤◌, ◌^◌, List, ◌++◌, length, take, drop, Option, Some, None, IfSome, refl, sym, ap, ◌∙◌, append_assoc, append-nil, arith}
use Rattle.std.specs.Option.{ForSome}
use Rattle.std.proofs.lemmas.List.{length-append, length-drop, take-append-drop, take_at, drop_at, drop-drop, drop_all}
use Rattle.zbase.specs.Numbers.{be64}
use Rattle.zbase.specs.NumberLaws.{length-be64, same_be64}
use Rattle.zdisk.specs.Disk.{Told, bytes_at, content}
use Rattle.fs_record.specs.declared.heads.DataHead.{DataHead}
use Rattle.fs_record.specs.declared.body.Body.{Body}
use Rattle.fs_record.specs.declared.body.Body.TheVariants.{Full, Back}
use Rattle.fs_record.specs.Spelling.{data_head, head_of, Data, data_spelling, body_length, body_spelling}
use Rattle.fs_record.specs.SpellingLaws.{length-data_head}
use Rattle.fs_record.specs.Fits.{FitsDataHead, FitsBody, FitsData}
use Rattle.fs_scan.proofs.Present.{too_short, head_is}

-- ---- what stands behind a head

back_is : (body : Body) (place : ℕ) (piece behind more : List ℕ) → FitsBody body → body_length body ≡ 0 → behind ≡ body_spelling body ++ more → piece ≡ take 8 behind → piece ≡ be64 place ++ drop 8 piece → place < 2 ^ 64 → Back place ≡ body
back_is (Full bytes) place piece behind more fits none e p read lt = absurd (omega (arith, fits, none))
back_is (Back at) place piece behind more fits none e p read lt =
    let whole : behind ≡ be64 place ++ (drop 8 piece ++ drop 8 behind) = sym (take-append-drop 8 behind) ∙ ap (λ (x : List ℕ). x ++ drop 8 behind) (sym p ∙ read) ∙ append_assoc (be64 place) (drop 8 piece) (drop 8 behind) in
    ap Back (same_be64 place at (drop 8 piece ++ drop 8 behind) more lt fits (sym whole ∙ e)).0

full_is : (body : Body) (n : ℕ) (piece behind more : List ℕ) → body_length body ≡ n → n ≢ 0 → behind ≡ body_spelling body ++ more → piece ≡ take n behind → Full piece ≡ body
full_is (Full bytes) n piece behind more long some e p = ap Full (p ∙ ap (take n) e ∙ take_at bytes more n long)
full_is (Back at) n piece behind more long some e p = absurd (some (sym long))

has_room : (body : Body) (n size : ℕ) (behind more : List ℕ) → FitsBody body → body_length body ≡ n → (n ≡ 0 → size ≡ 8) → (n ≢ 0 → size ≡ n) → behind ≡ body_spelling body ++ more → size ≤ length behind
has_room (Full bytes) n size behind more fits long none some e = omega (arith, ap length e, length-append bytes more, long, some (λ z. omega (arith, long, fits, z)))
has_room (Back at) n size behind more fits long none some e = omega (arith, ap length e, length-append (be64 at) more, length-be64 at, none (sym long))

-- ---- the head, where the disk tells

-- what is said of the head that was read there
abbrev pub HasHead : Option Told → ℕ → Option DataHead → Type 0
HasHead disk at head = IfSome disk (λ told. (d : Data) (more : List ℕ) → FitsData d → drop at (content told) ≡ data_spelling d ++ more → head ≡ Some (head_of d))

too_few : (told : Told) (len at left : ℕ) (d : Data) (more : List ℕ) → len ≡ length (content told) → left ≡ len - at → left < 42 → FitsData d → drop at (content told) ≡ data_spelling d ++ more → ⊥
too_few told len at left d more whole e few fits spelled = too_short (drop at (content told)) d more fits spelled (omega (arith, length-drop at (content told), whole, e, few))

pub no_head : (disk : Option Told) (len at left : ℕ) → ForSome disk (λ told. len ≡ length (content told)) → left ≡ len - at → left < 42 → HasHead disk at None
no_head None len at left whole e few = tt
no_head (Some told) len at left whole e few = λ d more fits spelled. absurd (too_few told len at left d more (whole told refl) e few fits spelled)

-- bytes whose head was read
headed : (rest piece : List ℕ) (h : DataHead) → piece ≡ take 42 rest → piece ≡ data_head h ++ drop 42 piece → length piece ≡ 42 → rest ≡ data_head h ++ drop 42 rest
headed rest piece h p read long =
    sym (take-append-drop 42 rest) ∙ ap (λ (x : List ℕ). x ++ drop 42 rest) (sym p ∙ read ∙ ap (λ (x : List ℕ). data_head h ++ x) (drop_all 42 piece (omega arith)) ∙ append-nil (data_head h))

pub reads_head : (disk : Option Told) (at : ℕ) (piece : List ℕ) (h : DataHead) → IfSome disk (λ told. piece ≡ bytes_at told at (length piece)) → piece ≡ data_head h ++ drop 42 piece → length piece ≡ 42 → FitsDataHead h → HasHead disk at (Some h)
reads_head None at piece h there read long fits = tt
reads_head (Some told) at piece h there read long fits = λ d more fits_data e.
    let rest = drop at (content told) in
    ap Some (head_is rest h d more (headed rest piece h (there ∙ ap (λ (n : ℕ). take n rest) long) read long) fits fits_data e).0

-- ---- the body, where the disk tells

-- what is said of the body that was read behind this head
abbrev pub HasBody : Option Told → ℕ → DataHead → Option Body → Type 0
HasBody disk at h body = IfSome disk (λ told. (d : Data) (more : List ℕ) → FitsData d → drop at (content told) ≡ data_spelling d ++ more → h ≡ head_of d → body ≡ Some d.body)

pub no_body : (disk : Option Told) (len at left : ℕ) (h : DataHead) → ForSome disk (λ told. len ≡ length (content told)) → left ≡ len - at → left < 42 → HasBody disk at h None
no_body None len at left h whole e few = tt
no_body (Some told) len at left h whole e few = λ d more fits spelled is. absurd (too_few told len at left d more (whole told refl) e few fits spelled)

behind : (bytes : List ℕ) (at : ℕ) (d : Data) (more : List ℕ) → drop at bytes ≡ data_spelling d ++ more → drop (at + 42) bytes ≡ body_spelling d.body ++ more
unfolding data_spelling
behind bytes at d more e =
    sym (drop-drop 42 at bytes) ∙ ap (drop 42) (e ∙ append_assoc (data_head (head_of d)) (body_spelling d.body) more) ∙ drop_at (data_head (head_of d)) (body_spelling d.body ++ more) 42 (length-data_head (head_of d))

length_of : (h : DataHead) (d : Data) → h ≡ head_of d → body_length d.body ≡ h.length
length_of h d is = sym (ap (λ (g : DataHead). g.length) is)

pub no_room : (disk : Option Told) (len at left size : ℕ) (h : DataHead) → ForSome disk (λ told. len ≡ length (content told)) → left ≡ len - at → (h.length ≡ 0 → size ≡ 8) → (h.length ≢ 0 → size ≡ h.length) → left - 42 < size → HasBody disk at h None
no_room None len at left size h whole e none some few = tt
no_room (Some told) len at left size h whole e none some few = λ d more fits spelled is.
    absurd (omega (arith, has_room d.body h.length size (drop (at + 42) (content told)) more fits.body (length_of h d is) none some (behind (content told) at d more spelled), length-drop (at + 42) (content told), whole told refl))

pub reads_back : (disk : Option Told) (at size : ℕ) (h : DataHead) (piece : List ℕ) (place : ℕ) → IfSome disk (λ told. piece ≡ bytes_at told (at + 42) size) → h.length ≡ 0 → size ≡ 8 → piece ≡ be64 place ++ drop 8 piece → place < 2 ^ 64 → HasBody disk at h (Some (Back place))
reads_back None at size h piece place there none eight read lt = tt
reads_back (Some told) at size h piece place there none eight read lt = λ d more fits spelled is.
    let rest = drop (at + 42) (content told) in
    ap Some (back_is d.body place piece rest more fits.body (length_of h d is ∙ none) (behind (content told) at d more spelled) (there ∙ ap (λ (n : ℕ). take n rest) eight) read lt)

pub reads_full : (disk : Option Told) (at size : ℕ) (h : DataHead) (piece : List ℕ) → IfSome disk (λ told. piece ≡ bytes_at told (at + 42) size) → h.length ≢ 0 → size ≡ h.length → HasBody disk at h (Some (Full piece))
reads_full None at size h piece there some all = tt
reads_full (Some told) at size h piece there some all = λ d more fits spelled is.
    let rest = drop (at + 42) (content told) in
    ap Some (full_is d.body h.length piece rest more (length_of h d is) some (behind (content told) at d more spelled) (there ∙ ap (λ (n : ℕ). take n rest) all))
