-- What a file has in common with what was last synced, and what an image of the two leaves alone.
use Rattle.std.proofs.Common.{◌≡◌, ℕ, ◌+◌, ◌<◌, ◌≤◌, Bool, true, false, List, [], ◌∷◌, ◌++◌, length, get_or, take, drop, min, reverse, refl, sym, ap, subst, ◌∙◌, arith}
use Rattle.std.proofs.lemmas.List.{drop_all, ext_get_or, get_or-take, get_or_append_left, length-append, length-drop, length-take, length-take-le}
use Rattle.zbase.specs.Limits.{greatest_number}
use Rattle.zdisk.specs.Recorded.{Buffer, file_of, last_of, undone}
use Rattle.zdisk.specs.SeedLaws.{get_or-image, length-image}
use Rattle.zdisk.specs.Seeds.{chosen, image_of, takes_new}
use Rattle.zdisk.specs.Undoing.{FitsBack, FitsWrite, back, fits_len, lowest_since}
use Rattle.zdisk.specs.declared.record.Entry.{Entry}
use Rattle.zdisk.specs.declared.record.Entry.TheVariants as entries
use Rattle.zdisk.proofs.Buffers.{buffers_alike, three_parts}
use Rattle.zdisk.proofs.Covering.{back_within, undone_covering}

-- ---- the least place at which a call changed something

-- Below a place the files of two buffers have the same bytes, and both reach it.
pub record AgreesBelow (place : ℕ) (b c : Buffer) : Type 0 where
  pub first : place ≤ b.len
  pub second : place ≤ c.len
  pub same : (i : ℕ) → i < place → get_or b.bytes i 0 ≡ get_or c.bytes i 0

pub lowest_less : (n : ℕ) (es : List Entry) → lowest_since n es ≤ n
lowest_less n [] = omega arith
lowest_less n (entries.Sync ∷ es) = omega arith
lowest_less n (entries.Write at written covered len ∷ es) = omega (arith, lowest_less (min n (min at len)) es)
lowest_less n (entries.Cut len ∷ es) = omega (arith, lowest_less (min n len) es)
lowest_less n (entries.Failed ∷ es) = lowest_less n es

-- what is taken back of a write stands at its place and behind it
before_write : (at written covered len : ℕ) (b : Buffer) (i : ℕ) → FitsWrite b at written covered → i < at → get_or (undone (entries.Write at written covered len) b).bytes i 0 ≡ get_or b.bytes i 0
before_write at written covered len b i f lt =
    let front : length (take at b.bytes) ≡ at = length-take-le at b.bytes (omega (arith, f.0.0)) in
    get_or_append_left (take at b.bytes ++ last_of covered b.covered) (drop (at + written) b.bytes) 0 i (omega (arith, lt, front, length-append (take at b.bytes) (last_of covered b.covered)))
    ∙ get_or_append_left (take at b.bytes) (last_of covered b.covered) 0 i (omega (arith, lt, front))
    ∙ get_or-take at b.bytes i 0 lt

pub lowest_agrees : (n : ℕ) (b : Buffer) (es : List Entry) → n ≤ b.len → FitsBack b es → AgreesBelow (lowest_since n es) b (back b es)
lowest_agrees n b [] le f = record { first = le; second = le; same = λ i lt. refl }
lowest_agrees n b (entries.Sync ∷ es) le f = record { first = le; second = le; same = λ i lt. refl }
lowest_agrees n b (entries.Write at written covered len ∷ es) le f =
    let u : Buffer = undone (entries.Write at written covered len) b in
    let less : lowest_since (min n (min at len)) es ≤ min n (min at len) = lowest_less (min n (min at len)) es in
    let rest : AgreesBelow (lowest_since (min n (min at len)) es) u (back u es) = lowest_agrees (min n (min at len)) u es (omega arith) f.1.1 in
    record {
      first = omega (arith, le, less);
      second = rest.second;
      same = λ i lt. sym (before_write at written covered len b i f.1.0 (omega (arith, lt, less))) ∙ rest.same i lt;
    }
lowest_agrees n b (entries.Cut len ∷ es) le f =
    let u : Buffer = undone (entries.Cut len) b in
    let rest : AgreesBelow (lowest_since (min n len) es) u (back u es) = lowest_agrees (min n len) u es (omega arith) f.1 in
    record { first = omega (arith, le, lowest_less (min n len) es); second = rest.second; same = rest.same }
lowest_agrees n b (entries.Failed ∷ es) le f = lowest_agrees n b es le f.1

-- it lies within the buffer
pub lowest_within : (b : Buffer) (es : List Entry) (at : ℕ) → at ≡ lowest_since b.len es → FitsBack b es → at ≤ length b.bytes
lowest_within b es at e f = omega (arith, e, lowest_less b.len es, fits_len b es f)

-- ---- an image has what both contents have

either_long : (b : Bool) (place : ℕ) (old new : List ℕ) → place ≤ length old → place ≤ length new → place ≤ length (chosen b old new)
either_long true place old new le lf = lf
either_long false place old new le lf = le

either_byte : (b : Bool) (i : ℕ) (old new : List ℕ) → get_or new i 0 ≡ get_or old i 0 → get_or (chosen b old new) i 0 ≡ get_or new i 0
either_byte true i old new e = refl
either_byte false i old new e = sym e

image_long : (seed place : ℕ) (old new : List ℕ) → place ≤ length old → place ≤ length new → place ≤ length (image_of seed old new)
image_long seed place old new le lf = omega (arith, length-image seed old new, either_long (takes_new seed greatest_number) place old new le lf)

-- below a place where the file agrees with what was last synced, an image of the two changes nothing
pub front_mixed : (seed place len result : ℕ) (bytes covered mixed : List ℕ) (c : Buffer) → AgreesBelow place (record { bytes = bytes; len = len; covered = covered }) c → len ≤ length bytes → c.len ≤ length c.bytes
    → length mixed ≡ length bytes → result ≤ length mixed → take result mixed ≡ image_of seed (file_of c) (take len bytes) → take place mixed ≡ take place bytes
front_mixed seed place len result bytes covered mixed c a within short long fits image =
    ext_get_or 0 (take place mixed) (take place bytes) (omega (arith, length-take place mixed, length-take place bytes, long)) (λ i lt. each i (omega (arith, lt, length-take place mixed)))
  where
    reaches : place ≤ length (image_of seed (file_of c) (take len bytes))
    reaches = image_long seed place (file_of c) (take len bytes) (omega (arith, a.second, length-take-le c.len c.bytes short)) (omega (arith, a.first, length-take-le len bytes within))

    far : place ≤ result
    far = omega (arith, reaches, ap length image, length-take-le result mixed fits)

    each : (i : ℕ) → i < place → get_or (take place mixed) i 0 ≡ get_or (take place bytes) i 0
    each i lt =
        let new : get_or (take len bytes) i 0 ≡ get_or bytes i 0 = get_or-take len bytes i 0 (omega (arith, lt, a.first)) in
        let old : get_or (file_of c) i 0 ≡ get_or c.bytes i 0 = get_or-take c.len c.bytes i 0 (omega (arith, lt, a.second)) in
        get_or-take place mixed i 0 lt
        ∙ sym (get_or-take result mixed i 0 (omega (arith, lt, far)))
        ∙ ap (λ (xs : List ℕ). get_or xs i 0) image
        ∙ get_or-image seed i (file_of c) (take len bytes) (omega (arith, lt, reaches))
        ∙ either_byte (takes_new seed i) i (file_of c) (take len bytes) (new ∙ a.same i lt ∙ sym old)
        ∙ new
        ∙ sym (get_or-take place bytes i 0 lt)

-- ---- a failed sync covered what it may have changed

whole_rest : (at count : ℕ) (bytes mixed : List ℕ) → at + count ≡ length bytes → length mixed ≡ length bytes → take at mixed ≡ take at bytes → take at mixed ++ take count (drop at bytes) ++ drop (at + count) mixed ≡ bytes
whole_rest at count bytes mixed all long front =
    ap (λ (x : List ℕ). x ++ take count (drop at bytes) ++ drop (at + count) mixed) front
    ∙ ap (λ (x : List ℕ). take at bytes ++ take count (drop at bytes) ++ x) (drop_all (at + count) mixed (omega (arith, all, long)) ∙ sym (drop_all (at + count) bytes (omega (arith, all))))
    ∙ three_parts at count bytes

image_alike : (seed len : ℕ) (bytes bytes2 covered covered2 : List ℕ) (es fs : List Entry) → bytes2 ≡ bytes → covered2 ≡ covered → fs ≡ es
    → image_of seed (file_of (back (record { bytes = bytes2; len = len; covered = covered2 }) (reverse fs))) (take len bytes2) ≡ image_of seed (file_of (back (record { bytes = bytes; len = len; covered = covered }) (reverse es))) (take len bytes)
image_alike seed len bytes bytes2 covered covered2 es fs e f g =
    ap (λ (b : Buffer). image_of seed (file_of (back b (reverse fs))) (take len b.bytes)) (buffers_alike bytes2 bytes len covered2 covered e f)
    ∙ ap (λ (gs : List Entry). image_of seed (file_of (back (record { bytes = bytes; len = len; covered = covered }) (reverse gs))) (take len bytes)) g

pub undone_left : (seed at count len len2 : ℕ) (bytes bytes2 mixed covered covered2 out : List ℕ) (es fs : List Entry) → bytes2 ≡ bytes → covered2 ≡ covered → fs ≡ es
    → at ≡ lowest_since len (reverse es) → FitsBack (record { bytes = bytes; len = len; covered = covered }) (reverse es) → at + count ≡ length bytes → length mixed ≡ length bytes → len2 ≤ length mixed
    → take len2 mixed ≡ image_of seed (file_of (back (record { bytes = bytes2; len = len; covered = covered2 }) (reverse fs))) (take len bytes2) → out ≡ covered ++ take count (drop at bytes)
    → undone (entries.Write at count count len) (record { bytes = mixed; len = len2; covered = out }) ≡ record { bytes = bytes; len = len; covered = covered }
undone_left seed at count len len2 bytes bytes2 mixed covered covered2 out es fs e f g lowest fits all long within image cut =
    let b : Buffer = record { bytes = bytes; len = len; covered = covered } in
    let agrees : AgreesBelow at b (back b (reverse es)) = subst (λ (k : ℕ). AgreesBelow k b (back b (reverse es))) (sym lowest) (lowest_agrees len b (reverse es) (omega arith) fits) in
    let front : take at mixed ≡ take at bytes =
    front_mixed seed at len len2 bytes covered mixed (back b (reverse es)) agrees (fits_len b (reverse es) fits) (back_within b (reverse es) fits) long within (image ∙ image_alike seed len bytes bytes2 covered covered2 es fs e f g) in
    ap (λ (x : List ℕ). undone (entries.Write at count count len) (record { bytes = mixed; len = len2; covered = x })) cut
    ∙ undone_covering at count count len len2 bytes mixed covered (take count (drop at bytes)) (omega (arith, length-take count (drop at bytes), length-drop at bytes, all)) (whole_rest at count bytes mixed all long front)
