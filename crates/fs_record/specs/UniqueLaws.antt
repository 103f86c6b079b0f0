-- A right block is no end, and as many right blocks with the same spelling are the same.
use Rattle.std.proofs.Common.{◌≡◌, ℕ, ◌+◌, Bool, true, false, cond, eqb, ltb, ◌||◌, ◌&&◌, List, [], ◌∷◌, ◌++◌, length, Option, Some, None, refl, sym, ap, ◌∙◌, append_assoc, arith}
use Rattle.std.specs.List.{list_all}
use Rattle.std.proofs.lemmas.List.{append_cancel_left, length-append}
use Rattle.std.proofs.lemmas.Bool.{eqb-true, le-ltb, false≢true}
use Rattle.fs_record.specs.Spelling.{Inside, Records, Skipped, Block, block_spelling, long_of}
use Rattle.fs_record.specs.Fits.{FitsInside}
use Rattle.fs_record.specs.SpellingLaws.{length-block, same_block, status_stands, length_stands}
use Rattle.zbase.specs.declared.ids.Row.{Row}
use Rattle.fs_record.specs.declared.damage.Damage.{Damage}
use Rattle.fs_record.specs.declared.damage.Damage.TheVariants.{BadTid, BadPrev, BadBack, BadStatus}
use Rattle.fs_record.specs.File.{Front, rows, fault_in, IsRight, AreRight, bytes_of, magic, is_own, has_prev, has_body, is_counted}
use Rattle.zbase.specs.Values.{last}
use Rattle.fs_record.specs.Opening.{length_in, is_end}

passed : (t : Bool) (d : Damage) (o : Option Damage) → cond t o (Some d) ≡ None → (t ≡ true) × (o ≡ None)
passed true d o e = (refl, e)
passed false d o e = absurd cc

-- a status that stands for something
abbrev KnownStatus : ℕ → Type 0
KnownStatus status = (eqb status 99 ≡ false) × (eqb status 0 ≡ false)

of_three : (status n : ℕ) → eqb status n ≡ true → eqb n 99 ≡ false → eqb n 0 ≡ false → KnownStatus status
of_three status n e p q = (ap (λ (s : ℕ). eqb s 99) (eqb-true status n e) ∙ p, ap (λ (s : ℕ). eqb s 0) (eqb-true status n e) ∙ q)

counted_known : (status : ℕ) (a b : Bool) → eqb status 32 ≡ a → eqb status 112 ≡ b → (a || b) ≡ true → KnownStatus status
counted_known status true b p q e = of_three status 32 p refl refl
counted_known status false true p q e = of_three status 112 q refl refl
counted_known status false false p q e = absurd (false≢true e)

known : (place t : ℕ) (rs : List Row) (b : Block) (i : Inside) → FitsInside b.status i → fault_in place t rs b i ≡ None → KnownStatus b.status
unfolding fault_in
known place t rs b (Skipped bytes) fits e = of_three b.status 117 fits refl refl
known place t rs b (Records ds) fits e =
    let own = passed (ltb t b.tid && list_all (is_own b.tid place) ds) BadTid _ e in
    let prev = passed (list_all (has_prev rs) ds) BadPrev _ own.1 in
    let back = passed (list_all (has_body rs) ds) BadBack _ prev.1 in
    let status = passed (is_counted b.status) BadStatus _ back.1 in
    counted_known b.status _ _ refl refl status.0

no_end : (a b c d : Bool) → a ≡ false → b ≡ false → c ≡ false → d ≡ false → (((a || b) || c) || d) ≡ false
no_end a b c d p q r s = rw (p, q, r, s) refl

pub not_end : (front : Front) (b : Block) (more : List ℕ) → IsRight front b → is_end (block_spelling b ++ more) ≡ false
unfolding is_end length_in
not_end front b more right =
    let rest = block_spelling b ++ more in
    let long : length rest ≡ long_of b + 8 + length more = omega (arith, length-append (block_spelling b) more, length-block b) in
    let status = known front.place (last front.history) (rows front.records) b b.inside right.fits.inside right.right in
    let says = length_stands b more right.fits.head.length in
    no_end _ _ _ _ (le-ltb _ _ (omega arith)) (ap (λ (s : ℕ). eqb s 99) (status_stands b more) ∙ status.0) (ap (λ (s : ℕ). eqb s 0) (status_stands b more) ∙ status.1) (le-ltb _ _ (omega (arith, says)))

-- as many blocks are the same blocks
pub same_count : (bs cs : List Block) (x y : List ℕ) → AreRight bs → AreRight cs → length bs ≡ length cs → bytes_of bs ++ x ≡ bytes_of cs ++ y → (bs ≡ cs) × (x ≡ y)
same_count [] [] x y p q l e = (refl, append_cancel_left magic x y e)
same_count [] (c ∷ cs) x y p q l e = absurd (omega arith)
same_count (b ∷ bs) [] x y p q l e = absurd (omega arith)
same_count (b ∷ bs) (c ∷ cs) x y p q l e =
    let m : length bs ≡ length cs = omega arith in
    let r = same_count bs cs (block_spelling b ++ x) (block_spelling c ++ y) p.1 q.1 m (sym (append_assoc (bytes_of bs) (block_spelling b) x) ∙ e ∙ append_assoc (bytes_of cs) (block_spelling c) y) in
    let s = same_block b c x y p.0.fits q.0.fits r.1 in
    (ap (λ (h : Block). h ∷ bs) s.0 ∙ ap (λ (t : List Block). c ∷ t) r.0, s.1)
