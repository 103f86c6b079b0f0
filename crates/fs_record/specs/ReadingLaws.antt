-- What is read is what stands there: `Reading` and `Opening` agree, both ways.
use Rattle.std.proofs.Common.{◌≡◌, ℕ, suc, zero, ◌<◌, ◌≤◌, Bool, true, false, cond, List, [], ◌∷◌, ◌++◌, length, take, drop, Option, Some, None, refl, sym, ap, subst, ◌∙◌, append_assoc, arith, inl, inr}
use Rattle.std.specs.Prelude.{All, ◌⊎◌, ◌↔◌, bytes_eq}
use Rattle.std.proofs.lemmas.List.{length-append, length-drop, take-append-drop}
use Rattle.std.proofs.lemmas.Bool.{lt-ltb, false≢true}
use Rattle.std.proofs.lemmas.Slice.Eq.{bytes_eq-Decides}
use Rattle.fs_record.specs.declared.damage.Damage.{Damage}
use Rattle.fs_record.specs.declared.damage.Damage.TheVariants.{BadMagic}
use Rattle.fs_record.specs.Spelling.{Block, block_spelling}
use Rattle.fs_record.specs.SpellingLaws.{same_block, length-block}
use Rattle.fs_record.specs.File.{Front, IsFile, AreRight, front_of, bytes_of, fault_of, magic}
use Rattle.fs_record.specs.FileLaws.{file_place}
use Rattle.fs_record.specs.Opening.{is_end, NoBlock, Stands, SplitsAt, Cut, Damaged}
use Rattle.fs_record.specs.OpeningLaws.{one_cut, not_both, one_damage}
use Rattle.fs_record.specs.Reading.{block_read, Opened, Opens, Broken, judged, stepped, opening_behind, opening_of}
use Rattle.fs_record.specs.HeadLaws.{IsBytes, bytes_from_all, IsBytes-drop, IsBytes-behind}
use Rattle.fs_record.specs.BlockLaws.{BlockSays, block_says}

-- what bytes open to
abbrev pub OpeningSays : List ℕ → Opened → Type 0
OpeningSays bytes (Opens front n) = Cut bytes front n
OpeningSays bytes (Broken kind n) = Damaged bytes n kind

file_is : (bs : List Block) → AreRight bs → IsFile (bytes_of bs) (front_of bs)
file_is bs right = record { blocks = bs; right = right; spelled = refl; said = refl }

splits : (bytes : List ℕ) (bs : List Block) (rest : List ℕ) → AreRight bs → bytes ≡ bytes_of bs ++ rest → SplitsAt bytes (front_of bs).place (front_of bs) rest
splits bytes bs rest right e = record { file = bytes_of bs; is_file = file_is bs right; joined = e; at = file_place (bytes_of bs) (front_of bs) (file_is bs right) }

-- opening says so of all that is shorter
abbrev OpensBelow : List ℕ → ℕ → (Front → List ℕ → Opened) → Type 0
OpensBelow bytes n read = (bs : List Block) (rest : List ℕ) → AreRight bs → bytes ≡ bytes_of bs ++ rest → IsBytes rest → length rest < n → OpeningSays bytes (read (front_of bs) rest)

judged_says : (bytes : List ℕ) (bs : List Block) (rest : List ℕ) (read : Front → List ℕ → Opened) (b : Block) (more : List ℕ) (fault : Option Damage)
    → AreRight bs → bytes ≡ bytes_of bs ++ rest → IsBytes rest → is_end rest ≡ false → OpensBelow bytes (length rest) read → Stands b rest more → fault_of (front_of bs) b ≡ fault
    → OpeningSays bytes (judged read (front_of bs) b more fault)
judged_says bytes bs rest read b more (Some kind) right e fits goes below stands is = inr (front_of bs, rest, splits bytes bs rest right e, goes, inr (b, more, stands, is))
judged_says bytes bs rest read b more None right e fits goes below stands is =
    below (b ∷ bs) more (record { fits = stands.fits; right = is }, right) (e ∙ ap (λ (x : List ℕ). bytes_of bs ++ x) stands.spelled ∙ sym (append_assoc (bytes_of bs) (block_spelling b) more))
    (IsBytes-behind (block_spelling b) more rest stands.spelled fits)
    (omega (arith, ap length stands.spelled, length-append (block_spelling b) more, length-block b))

stepped_says : (bytes : List ℕ) (bs : List Block) (rest : List ℕ) (read : Front → List ℕ → Opened) (o : Option (Block × List ℕ))
    → AreRight bs → bytes ≡ bytes_of bs ++ rest → IsBytes rest → is_end rest ≡ false → OpensBelow bytes (length rest) read → BlockSays rest o
    → OpeningSays bytes (stepped read (front_of bs) o)
stepped_says bytes bs rest read None right e fits goes below says = inr (front_of bs, rest, splits bytes bs rest right e, goes, inl (refl, says))
stepped_says bytes bs rest read (Some found) right e fits goes below says = judged_says bytes bs rest read found.0 found.1 _ right e fits goes below says refl

behind_says : (bytes : List ℕ) (bs : List Block) (rest : List ℕ) (read : Front → List ℕ → Opened) (end : Bool)
    → AreRight bs → bytes ≡ bytes_of bs ++ rest → IsBytes rest → is_end rest ≡ end → OpensBelow bytes (length rest) read
    → OpeningSays bytes (cond end (Opens (front_of bs) (front_of bs).place) (stepped read (front_of bs) (block_read rest)))
behind_says bytes bs rest read true right e fits is below = (rest, splits bytes bs rest right e, is)
behind_says bytes bs rest read false right e fits is below = stepped_says bytes bs rest read (block_read rest) right e fits is below (block_says rest fits)

nothing_left : (rest : List ℕ) → length rest ≤ 0 → is_end rest ≡ true
unfolding is_end
nothing_left rest le = rw (lt-ltb (length rest) 23 (omega arith)) refl

opens : (most : ℕ) (bytes : List ℕ) (bs : List Block) (rest : List ℕ) → AreRight bs → bytes ≡ bytes_of bs ++ rest → IsBytes rest → length rest ≤ most → OpeningSays bytes (opening_behind most (front_of bs) rest)
unfolding opening_behind
opens zero bytes bs rest right e fits le = (rest, splits bytes bs rest right e, nothing_left rest le)
opens (suc most) bytes bs rest right e fits le =
    behind_says bytes bs rest (opening_behind most) _ right e fits refl (λ cs more right2 e2 fits2 lt. opens most bytes cs more right2 e2 fits2 (omega arith))

magic_by : (bytes : List ℕ) (has : Bool) → IsBytes bytes → bytes_eq (take 4 bytes) magic ≡ has → OpeningSays bytes (cond has (opening_behind (length bytes) (front_of []) (drop 4 bytes)) (Broken BadMagic 0))
magic_by bytes true bs is =
    let front : take 4 bytes ≡ magic = (bytes_eq-Decides (take 4 bytes) magic).0 is in
    opens (length bytes) bytes [] (drop 4 bytes) tt (sym (take-append-drop 4 bytes) ∙ ap (λ (x : List ℕ). x ++ drop 4 bytes) front) (IsBytes-drop 4 bytes bs) (omega (arith, length-drop 4 bytes))
magic_by bytes false bs is = inl (refl, refl, λ more e. false≢true (sym is ∙ (bytes_eq-Decides (take 4 bytes) magic).1 (ap (take 4) e)))

pub opening_says : (bytes : List ℕ) → IsBytes bytes → OpeningSays bytes (opening_of bytes)
unfolding opening_of
opening_says bytes bs = magic_by bytes _ bs refl

-- ---- both ways

some_block : (bytes : List ℕ) (b : Block) (more : List ℕ) (o : Option (Block × List ℕ)) → BlockSays bytes o → Stands b bytes more → o ≡ Some (b, more)
some_block bytes b more None says stands = absurd (says b more stands.fits stands.spelled)
some_block bytes b more (Some found) says stands =
    let s = same_block found.0 b found.1 more says.fits stands.fits (sym says.spelled ∙ stands.spelled) in
    ap (λ (c : Block). Some (c, found.1)) s.0 ∙ ap (λ (x : List ℕ). Some (b, x)) s.1

no_block : (bytes : List ℕ) (o : Option (Block × List ℕ)) → BlockSays bytes o → NoBlock bytes → o ≡ None
no_block bytes None says none = refl
no_block bytes (Some found) says none = absurd (none found.0 found.1 says.fits says.spelled)

pub block_both : (bytes : List ℕ) → All (λ byte. byte < 256) bytes → (b : Block) (more : List ℕ) → block_read bytes ≡ Some (b, more) ↔ Stands b bytes more
block_both bytes all b more =
    let says = block_says bytes (bytes_from_all bytes all) in
    (λ e. subst (BlockSays bytes) e says, some_block bytes b more (block_read bytes) says)

pub no_block_both : (bytes : List ℕ) → All (λ byte. byte < 256) bytes → block_read bytes ≡ None ↔ NoBlock bytes
no_block_both bytes all =
    let says = block_says bytes (bytes_from_all bytes all) in
    (λ e. subst (BlockSays bytes) e says, no_block bytes (block_read bytes) says)

to_opens : (bytes : List ℕ) (front : Front) (n : ℕ) (o : Opened) → OpeningSays bytes o → Cut bytes front n → o ≡ Opens front n
to_opens bytes front n (Opens g m) says cut =
    let s = one_cut bytes g front m n says cut in
    ap (λ (f : Front). Opens f m) s.0 ∙ ap (Opens front) s.1
to_opens bytes front n (Broken kind m) says cut = absurd (not_both bytes front n m kind cut says)

to_broken : (bytes : List ℕ) (kind : Damage) (n : ℕ) (o : Opened) → OpeningSays bytes o → Damaged bytes n kind → o ≡ Broken kind n
to_broken bytes kind n (Opens g m) says bad = absurd (not_both bytes g m n kind says bad)
to_broken bytes kind n (Broken k m) says bad =
    let s = one_damage bytes m n k kind says bad in
    ap (Broken k) s.0 ∙ ap (λ (j : Damage). Broken j n) s.1

pub cut_both : (bytes : List ℕ) → All (λ byte. byte < 256) bytes → (front : Front) (n : ℕ) → opening_of bytes ≡ Opens front n ↔ Cut bytes front n
cut_both bytes all front n =
    let says = opening_says bytes (bytes_from_all bytes all) in
    (λ e. subst (OpeningSays bytes) e says, to_opens bytes front n (opening_of bytes) says)

pub damaged_both : (bytes : List ℕ) → All (λ byte. byte < 256) bytes → (kind : Damage) (n : ℕ) → opening_of bytes ≡ Broken kind n ↔ Damaged bytes n kind
damaged_both bytes all kind n =
    let says = opening_says bytes (bytes_from_all bytes all) in
    (λ e. subst (OpeningSays bytes) e says, to_broken bytes kind n (opening_of bytes) says)

either_of : (bytes : List ℕ) (o : Opened) → OpeningSays bytes o → ((front : Front) × (n : ℕ) × Cut bytes front n) ⊎ ((kind : Damage) × (n : ℕ) × Damaged bytes n kind)
either_of bytes (Opens front n) says = inl (front, n, says)
either_of bytes (Broken kind n) says = inr (kind, n, says)

pub either : (bytes : List ℕ) → All (λ byte. byte < 256) bytes → ((front : Front) × (n : ℕ) × Cut bytes front n) ⊎ ((kind : Damage) × (n : ℕ) × Damaged bytes n kind)
either bytes all = either_of bytes (opening_of bytes) (opening_says bytes (bytes_from_all bytes all))
