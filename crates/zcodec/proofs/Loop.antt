-- Reading items one after another, as a loop does.
use Rattle.std.proofs.Common.{◌≡◌, ℕ, suc, ◌-◌, ◌+◌, ◌≤◌, ◌<◌, List, [], ◌∷◌, ◌++◌, length, Ok, Err, Option, Some, refl, sym, ap, ◌∙◌, append_assoc, arith}
use Rattle.std.specs.List.{slice_get}
use Rattle.std.proofs.lemmas.List.{append-nil, length-append}
use Rattle.zcodec.specs.declared.unread.Unread.{Unread}
use Rattle.zcodec.specs.declared.unread.Unread.TheVariants as unread
use Rattle.zcodec.specs.Reading.{◌>>=◌, Fails, Reads, items_at}

-- what was read before, and what is still read
abbrev pub with_front : {X : Type 0} → List X → Reads (List X) → Reads (List X)
with_front front read = read >>= λ x. Ok (front ++ x.0, x.1)

front_nil : {X : Type 0} (read : Reads (List X)) → with_front [] read ≡ read
front_nil (Ok x) = refl
front_nil (Err left) = refl

regroup : {X : Type 0} (front : List X) (y : X) (read : Reads (List X)) → with_front front (read >>= λ x. Ok (y ∷ x.0, x.1)) ≡ with_front (front ++ y ∷ []) read
regroup {X} front y (Ok x) = ap (λ (ys : List X). Ok (ys, x.1)) (simp append_assoc)
regroup front y (Err left) = refl

module _ {S X : Type 0} (next : S → List ℕ → Reads X) (keep : S → X → S) where
  pub starts : (xs : List X) (count : ℕ) (s : S) (bytes : List ℕ) → xs ≡ [] → with_front xs (items_at next keep (count - 0) s bytes) ≡ items_at next keep count s bytes
  starts xs count s bytes k = let e : count - 0 ≡ count = omega arith in rw (k, e) (front_nil (items_at next keep count s bytes))

  pub goes_on : (front : List X) (count i : ℕ) (s : S) (bytes : List ℕ) (x : X) (after : List ℕ) (total : Reads (List X)) → i < count → next s bytes ≡ Ok (x, after)
      → with_front front (items_at next keep (count - i) s bytes) ≡ total → with_front (front ++ x ∷ []) (items_at next keep (count - (i + 1)) (keep s x) after) ≡ total
  unfolding items_at
  goes_on front count i s bytes x after total lt h so_far =
      let k : count - i ≡ suc (count - (i + 1)) = omega arith in
      let one : with_front front (items_at next keep (count - i) s bytes) ≡ with_front (front ++ x ∷ []) (items_at next keep (count - (i + 1)) (keep s x) after) = rw (k, h) (regroup front x (items_at next keep (count - (i + 1)) (keep s x) after)) in
      sym one ∙ so_far

  pub ends : (e : Unread) (front : List X) (count i : ℕ) (s : S) (bytes : List ℕ) (total : Reads (List X)) → i < count → Fails e (next s bytes)
      → with_front front (items_at next keep (count - i) s bytes) ≡ total → Fails e total
  unfolding items_at
  ends unread.Memory front count i s bytes total lt h so_far = tt
  ends (unread.Bad left) front count i s bytes total lt h so_far =
      let k : count - i ≡ suc (count - (i + 1)) = omega arith in
      let one : with_front front (items_at next keep (count - i) s bytes) ≡ Err left = rw (k, h) refl in
      sym so_far ∙ one

  pub is_done : (front : List X) (count i : ℕ) (s : S) (bytes : List ℕ) (total : Reads (List X)) → count ≤ i → with_front front (items_at next keep (count - i) s bytes) ≡ total → total ≡ Ok (front, bytes)
  unfolding items_at
  is_done front count i s bytes total le so_far =
      let k : count - i ≡ 0 = omega arith in
      let one : with_front front (items_at next keep (count - i) s bytes) ≡ Ok (front, bytes) = rw k (ap (λ (xs : List X). Ok (xs, bytes)) (append-nil front)) in
      sym so_far ∙ one

-- ---- the last item

abbrev pub last_of : {X : Type 0} → List X → Option X
last_of xs = slice_get xs (length xs - 1)

get_pushed : {X : Type 0} (xs : List X) (x : X) → slice_get (xs ++ x ∷ []) (length xs) ≡ Some x
get_pushed [] x = refl
get_pushed (y ∷ ys) x = get_pushed ys x

pub last_pushed : {X : Type 0} (xs : List X) (x : X) → last_of (xs ++ x ∷ []) ≡ Some x
last_pushed xs x = let n : length (xs ++ x ∷ []) - 1 ≡ length xs = omega (arith, length-append xs (x ∷ [])) in rw n (get_pushed xs x)
