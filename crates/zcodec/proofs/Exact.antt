-- A field that is read is the field that was written, and what was written is read again.
use Rattle.std.proofs.Common.{◌≡◌, inl, inr, ℕ, zero, suc, ◌+◌, ◌^◌, ◌<◌, ◌≤◌, Bool, true, false, ◌&&◌, cond, ltb, leb, List, [], ◌∷◌, ◌++◌, length, get_or, take, drop, Option, Some, None, Result, Ok, Err, refl, sym, ap, subst, ◌∙◌, append_assoc, arith}
use Rattle.std.specs.List.{flat_map, AllByRecursion}
use Rattle.std.specs.Int.{Width, w16, w32, w64, byte_len, from_be_bytes, to_be_bytes}
use Rattle.std.proofs.lemmas.Bool.{cases_lt, ltb-false, le-ltb, leb-true, le-leb}
use Rattle.std.proofs.lemmas.List.{take_at, drop_at, take-append-drop, length-append, length-take, get_or-drop, get_or-take, get_or_past}
use Rattle.std.proofs.lemmas.List.Concat.{flat_map-cons}
use Rattle.std.proofs.lemmas.Nat.{be_bytes_2, be_bytes_4, be_bytes_8, from_be_bytes-to_be_bytes_2, from_be_bytes-to_be_bytes_4, from_be_bytes-to_be_bytes_8}
use Rattle.zbase.specs.Numbers.{be16}
use Rattle.zobject.specs.Rules.{AreMany, Rise}
use Rattle.zcodec.specs.Record.{list_of}
use Rattle.zcodec.specs.Reading.{◌>>=◌, Reads, where_kept, byte_at, number_at, front_at, count_at, items_at, list_at, last_one, rises}

abbrev pub IsBytes : List ℕ → Type 0
IsBytes bytes = (i : ℕ) → get_or bytes i 0 < 256

IsBytes-drop : (n : ℕ) (bytes : List ℕ) → IsBytes bytes → IsBytes (drop n bytes)
IsBytes-drop n bytes h i = rw get_or-drop (h (n + i))

IsBytes-take : (n : ℕ) (bytes : List ℕ) → IsBytes bytes → IsBytes (take n bytes)
IsBytes-take n bytes h i =
    elim (cases_lt i n) [
      | inl lt ↦ rw (get_or-take n bytes i 0 lt) (h i)
      | inr le ↦ rw (get_or_past (take n bytes) i 0 (omega (arith, length-take n bytes))) (omega arith)
    ]

pub ok_is : {X : Type 0} (x y : X) → ◌≡◌ {A = Result X ℕ} (Ok x) (Ok y) → x ≡ y
ok_is x y e = cc

-- what a reader took from the front
pub record Takes {X : Type 0} (IsRight : X → Type 0) (spelled : X → List ℕ) (bytes : List ℕ) (x : X) (rest : List ℕ) : Type 0 where
  pub parts : bytes ≡ spelled x ++ rest
  pub right : IsRight x
  pub fits : IsBytes rest

-- a reader of the fields that are right, each of which has that spelling
pub record IsExact {X : Type 0} (IsRight : X → Type 0) (spelled : X → List ℕ) (reads : List ℕ → Reads X) : Type 0 where
  pub takes : (bytes : List ℕ) (x : X) (rest : List ℕ) → IsBytes bytes → reads bytes ≡ Ok (x, rest) → Takes IsRight spelled bytes x rest
  pub again : (x : X) (rest : List ℕ) → IsRight x → reads (spelled x ++ rest) ≡ Ok (x, rest)

-- the first of several fields, and what is read behind it
pub record Got {X Y : Type 0} (IsRight : X → Type 0) (spelled : X → List ℕ) (next : X × List ℕ → Result Y ℕ) (bytes : List ℕ) (y : Y) : Type 0 where
  pub value : X
  pub rest : List ℕ
  pub took : Takes IsRight spelled bytes value rest
  pub goes : next (value, rest) ≡ Ok y

pub got : {X Y : Type 0} (IsRight : X → Type 0) (spelled : X → List ℕ) (reads : List ℕ → Reads X) (next : X × List ℕ → Result Y ℕ) (bytes : List ℕ) (y : Y) →
    IsExact IsRight spelled reads → IsBytes bytes → (reads bytes >>= next) ≡ Ok y → Got IsRight spelled next bytes y
got {X} IsRight spelled reads next bytes y exact fits e = at (reads bytes) refl e
  where
    at : (r : Reads X) → reads bytes ≡ r → (r >>= next) ≡ Ok y → Got IsRight spelled next bytes y
    at (Err left) is e' = absurd (let bad = e' in cc)
    at (Ok x) is e' = record { value = x.0; rest = x.1; took = exact.takes bytes x.0 x.1 fits is; goes = e' }

pub gives : {X Y : Type 0} (IsRight : X → Type 0) (spelled : X → List ℕ) (reads : List ℕ → Reads X) (next : X × List ℕ → Result Y ℕ) (x : X) (rest : List ℕ) →
    IsExact IsRight spelled reads → IsRight x → (reads (spelled x ++ rest) >>= next) ≡ next (x, rest)
gives IsRight spelled reads next x rest exact right = ap (λ r. r >>= next) (exact.again x rest right)

-- a field that keeps a rule besides
pub kept_ok : {X : Type 0} (b : Bool) (left : ℕ) (x y : X) → where_kept b left x ≡ Ok y → (b ≡ true) × (x ≡ y)
kept_ok true left x y e = (refl, ok_is x y e)
kept_ok false left x y e = absurd (let bad = e in cc)

abbrev pub kept_at : {X : Type 0} → (X → Bool) → (List ℕ → Reads X) → List ℕ → Reads X
kept_at rule reads bytes = reads bytes >>= λ x. where_kept (rule x.0) (length bytes) x

pub kept_exact : {X : Type 0} (P : X → Type 0) (s : X → List ℕ) (rule : X → Bool) (reads : List ℕ → Reads X) → IsExact P s reads → IsExact (λ x. P x × (rule x ≡ true)) s (kept_at rule reads)
kept_exact {X} P s rule reads exact = record {
  takes = λ bytes x rest fits e.
      let a = got P s reads (λ y. where_kept (rule y.0) (length bytes) y) bytes (x, rest) exact fits e in
      let k = kept_ok (rule a.value) (length bytes) (a.value, a.rest) (x, rest) a.goes in
      subst (λ (w : X × List ℕ). Takes (λ y. P y × (rule y ≡ true)) s bytes w.0 w.1) k.1 (record { parts = a.took.parts; right = (a.took.right, k.0); fits = a.took.fits });
  again = λ x rest right. gives P s reads (λ y. where_kept (rule y.0) (length (s x ++ rest)) y) x rest exact right.0 ∙ ap (λ b. where_kept b (length (s x ++ rest)) (x, rest)) right.1;
}

-- ---- numbers

pub record IsWide (w : Width) (limit : ℕ) : Type 0 where
  pub len : (n : ℕ) → length (to_be_bytes w n) ≡ byte_len w
  pub back : (bytes : List ℕ) → length bytes ≡ byte_len w → IsBytes bytes → to_be_bytes w (from_be_bytes w bytes) ≡ bytes
  pub again : (n : ℕ) → n < limit → from_be_bytes w (to_be_bytes w n) ≡ n
  pub below : (bytes : List ℕ) → IsBytes bytes → from_be_bytes w bytes < limit

pub wide16 : IsWide w16 (2 ^ 16)
wide16 = record {
  len = λ n. refl;
  back = λ bytes len fits. be_bytes_2 bytes _ len fits refl;
  again = λ n lt. from_be_bytes-to_be_bytes_2 n lt;
  below = λ bytes fits. omega (arith, fits 0, fits 1);
}

pub wide32 : IsWide w32 (2 ^ 32)
wide32 = record {
  len = λ n. refl;
  back = λ bytes len fits. be_bytes_4 bytes _ len fits refl;
  again = λ n lt. from_be_bytes-to_be_bytes_4 n lt;
  below = λ bytes fits. omega (arith, fits 0, fits 1, fits 2, fits 3);
}

pub wide64 : IsWide w64 (2 ^ 64)
wide64 = record {
  len = λ n. refl;
  back = λ bytes len fits. be_bytes_8 bytes _ len fits refl;
  again = λ n lt. from_be_bytes-to_be_bytes_8 n lt;
  below = λ bytes fits. omega (arith, fits 0, fits 1, fits 2, fits 3, fits 4, fits 5, fits 6, fits 7);
}

test_ok : {X : Type 0} (b : Bool) (left : ℕ) (x y : X) → cond b (Err left) (Ok x) ≡ Ok y → (b ≡ false) × (x ≡ y)
test_ok true left x y e = absurd (let bad = e in cc)
test_ok false left x y e = (refl, ok_is x y e)

pub number_exact : (w : Width) (limit : ℕ) → IsWide w limit → IsExact (λ n. n < limit) (to_be_bytes w) (number_at w)
unfolding number_at
number_exact w limit wide = record {
  takes = λ bytes n rest fits e.
      let front = take (byte_len w) bytes in
      let g = test_ok (ltb (length bytes) (byte_len w)) (length bytes) (from_be_bytes w front, drop (byte_len w) bytes) (n, rest) e in
      let long : byte_len w ≤ length bytes = ltb-false _ _ g.0 in
      let whole : to_be_bytes w (from_be_bytes w front) ≡ front = wide.back front (omega (arith, length-take (byte_len w) bytes)) (IsBytes-take (byte_len w) bytes fits) in
      subst (λ (p : ℕ × List ℕ). Takes (λ m. m < limit) (to_be_bytes w) bytes p.0 p.1) g.1 (record {
        parts = sym (take-append-drop (byte_len w) bytes) ∙ ap (λ r. r ++ drop (byte_len w) bytes) (sym whole);
        right = wide.below front (IsBytes-take (byte_len w) bytes fits);
        fits = IsBytes-drop (byte_len w) bytes fits;
      });
  again = λ n rest lt.
      let len = wide.len n in
      let long : ltb (length (to_be_bytes w n ++ rest)) (byte_len w) ≡ false = le-ltb _ _ (omega (arith, length-append (to_be_bytes w n) rest)) in
      rw (long, take_at (to_be_bytes w n) rest (byte_len w) len, drop_at (to_be_bytes w n) rest (byte_len w) len, wide.again n lt) refl;
}

pub front_exact : (left n : ℕ) → IsExact (λ t. length t ≡ n) (λ t. t) (front_at left n)
unfolding front_at
front_exact left n = record {
  takes = λ bytes t rest fits e.
      let g = test_ok (ltb (length bytes) n) left (take n bytes, drop n bytes) (t, rest) e in
      let long : n ≤ length bytes = ltb-false _ _ g.0 in
      subst (λ (p : List ℕ × List ℕ). Takes (λ u. length u ≡ n) (λ u. u) bytes p.0 p.1) g.1 (record {
        parts = sym (take-append-drop n bytes);
        right = omega (arith, length-take n bytes);
        fits = IsBytes-drop n bytes fits;
      });
  again = λ t rest len.
      let long : ltb (length (t ++ rest)) n ≡ false = le-ltb _ _ (omega (arith, length-append t rest)) in
      rw (long, take_at t rest n len, drop_at t rest n len) refl;
}

pub byte_exact : IsExact (λ b. b < 256) (λ b. b ∷ []) byte_at
unfolding byte_at
byte_exact = record {
  takes = λ bytes b rest fits e. byte_takes bytes b rest fits e;
  again = λ b rest lt. refl;
}
  where
    byte_takes : (bytes : List ℕ) (b : ℕ) (rest : List ℕ) → IsBytes bytes → byte_at bytes ≡ Ok (b, rest) → Takes (λ b. b < 256) (λ b. b ∷ []) bytes b rest
    byte_takes [] b rest fits e = absurd (let bad = e in cc)
    byte_takes (c ∷ bytes) b rest fits e =
        subst (λ (p : ℕ × List ℕ). Takes (λ m. m < 256) (λ m. m ∷ []) (c ∷ bytes) p.0 p.1) (ok_is (c, bytes) (b, rest) e) (record { parts = refl; right = fits 0; fits = λ i. fits (suc i) })

-- ---- counts and lists

-- items that follow one another, each right behind what is kept of those before
abbrev pub Follow : {S X : Type 0} → (S → X → Type 0) → (S → X → S) → S → List X → Type 0
Follow Right keep s [] = Unit {0}
Follow Right keep s (x ∷ xs) = Right s x × Follow Right keep (keep s x) xs

module _ {S X : Type 0} (Right : S → X → Type 0) (spelled : X → List ℕ) (next : S → List ℕ → Reads X) (keep : S → X → S) (exact : (s : S) → IsExact (Right s) spelled (next s)) where
  abbrev Items : ℕ → S → List X → Type 0
  Items n s xs = (length xs ≡ n) × Follow Right keep s xs

  items_take : (n : ℕ) (s : S) (bytes : List ℕ) (xs : List X) (rest : List ℕ) → IsBytes bytes → items_at next keep n s bytes ≡ Ok (xs, rest) → Takes (Items n s) (flat_map spelled) bytes xs rest
  unfolding items_at
  items_take zero s bytes xs rest fits e =
      subst (λ (p : List X × List ℕ). Takes (Items zero s) (flat_map spelled) bytes p.0 p.1) (ok_is ([], bytes) (xs, rest) e) (record { parts = refl; right = (refl, tt); fits = fits })
  items_take (suc n) s bytes xs rest fits e =
      let a = got (Right s) spelled (next s) (λ first. items_at next keep n (keep s first.0) first.1 >>= λ others. Ok (first.0 ∷ others.0, others.1)) bytes (xs, rest) (exact s) fits e in
      let b = others (items_at next keep n (keep s a.value) a.rest) a.value a.goes in
      let took = items_take n (keep s a.value) a.rest b.0.0 b.0.1 a.took.fits b.1 in
      subst (λ (p : List X × List ℕ). Takes (Items (suc n) s) (flat_map spelled) bytes p.0 p.1) b.2 (record {
        parts = a.took.parts ∙ ap (λ r. spelled a.value ++ r) took.parts ∙ sym (append_assoc (spelled a.value) (flat_map spelled b.0.0) b.0.1) ∙ ap (λ r. r ++ b.0.1) (sym (flat_map-cons spelled a.value b.0.0));
        right = (ap suc took.right.0, (a.took.right, took.right.1));
        fits = took.fits;
      })
    where
      others : (r : Reads (List X)) → (x : X) → ◌>>=◌ {B = List X × List ℕ} r (λ o. Ok (x ∷ o.0, o.1)) ≡ Ok (xs, rest) → (p : List X × List ℕ) × (r ≡ Ok p) × (◌≡◌ {A = List X × List ℕ} (x ∷ p.0, p.1) (xs, rest))
      others (Err left) x e' = absurd (let bad = e' in cc)
      others (Ok p) x e' = (p, refl, ok_is (x ∷ p.0, p.1) (xs, rest) e')

  items_again : (s : S) (xs : List X) (rest : List ℕ) → Follow Right keep s xs → items_at next keep (length xs) s (flat_map spelled xs ++ rest) ≡ Ok (xs, rest)
  unfolding items_at
  items_again s [] rest follow = refl
  items_again s (x ∷ xs) rest follow =
      ap (items_at next keep (suc (length xs)) s) (ap (λ r. r ++ rest) (flat_map-cons spelled x xs) ∙ append_assoc (spelled x) (flat_map spelled xs) rest)
      ∙ gives (Right s) spelled (next s) (λ first. items_at next keep (length xs) (keep s first.0) first.1 >>= λ others. Ok (first.0 ∷ others.0, others.1)) x (flat_map spelled xs ++ rest) (exact s) follow.0
      ∙ ap (λ r. r >>= λ others. Ok (x ∷ others.0, others.1)) (items_again (keep s x) xs rest follow.1)

  pub items_exact : (n : ℕ) (s : S) → IsExact (Items n s) (flat_map spelled) (items_at next keep n s)
  items_exact n s = record {
    takes = λ bytes xs rest fits e. items_take n s bytes xs rest fits e;
    again = λ xs rest right. subst (λ m. items_at next keep m s (flat_map spelled xs ++ rest) ≡ Ok (xs, rest)) right.0 (items_again s xs rest right.1);
  }

-- a count within its limits
abbrev pub IsCount : ℕ → ℕ → ℕ → Type 0
IsCount least most n = (n < 2 ^ 16) × ((leb least n && leb n most) ≡ true)

pub count_exact : (least most : ℕ) → IsExact (IsCount least most) (to_be_bytes w16) (count_at least most)
unfolding count_at
count_exact least most = kept_exact (λ n. n < 2 ^ 16) (to_be_bytes w16) (λ n. leb least n && leb n most) (number_at w16) (number_exact w16 (2 ^ 16) wide16)

pub both_true : (a b : Bool) → (a && b) ≡ true → (a ≡ true) × (b ≡ true)
both_true true b e = (refl, e)
both_true false b e = absurd (let bad = e in cc)

true_both : (a b : Bool) → a ≡ true → b ≡ true → (a && b) ≡ true
true_both true b e f = f
true_both false b e f = absurd (let bad = e in cc)

-- a counted list of items
module _ {S X : Type 0} (Right : S → X → Type 0) (spelled : X → List ℕ) (next : S → List ℕ → Reads X) (keep : S → X → S) (exact : (s : S) → IsExact (Right s) spelled (next s)) where
  pub record IsListed (least most : ℕ) (s : S) (xs : List X) : Type 0 where
    pub enough : least ≤ length xs
    pub few : length xs ≤ most
    pub follow : Follow Right keep s xs

  abbrev pub counted_at : ℕ → ℕ → S → List ℕ → Reads (List X)
  counted_at least most s bytes = count_at least most bytes >>= λ n. items_at next keep n.0 s n.1

  pub counted_exact : (least most : ℕ) (s : S) → most < 2 ^ 16 → IsExact (IsListed least most s) (list_of spelled) (counted_at least most s)
  unfolding list_of be16
  counted_exact least most s small = record {
    takes = λ bytes xs rest fits e.
        let a = got (IsCount least most) (to_be_bytes w16) (count_at least most) (λ n. items_at next keep n.0 s n.1) bytes (xs, rest) (count_exact least most) fits e in
        let took = (items_exact Right spelled next keep exact a.value s).takes a.rest xs rest a.took.fits a.goes in
        let both = both_true (leb least a.value) (leb a.value most) a.took.right.1 in
        let len : length xs ≡ a.value = took.right.0 in
        record {
          parts = a.took.parts ∙ ap (λ r. to_be_bytes w16 a.value ++ r) took.parts ∙ sym (append_assoc (to_be_bytes w16 a.value) (flat_map spelled xs) rest) ∙ ap (λ n. (to_be_bytes w16 n ++ flat_map spelled xs) ++ rest) (sym len);
          right = record { enough = (let le = leb-true _ _ both.0 in omega (arith, le, len)); few = (let le = leb-true _ _ both.1 in omega (arith, le, len)); follow = took.right.1 };
          fits = took.fits;
        };
    again = λ xs rest right.
        let few = right.few in
        let fits : length xs < 2 ^ 16 = omega (arith, few, small) in
        let count : IsCount least most (length xs) = (fits, true_both _ _ (le-leb _ _ right.enough) (le-leb _ _ right.few)) in
        ap (counted_at least most s) (append_assoc (to_be_bytes w16 (length xs)) (flat_map spelled xs) rest)
        ∙ gives (IsCount least most) (to_be_bytes w16) (count_at least most) (λ n. items_at next keep n.0 s n.1) (length xs) (flat_map spelled xs ++ rest) (count_exact least most) count
        ∙ (items_exact Right spelled next keep exact (length xs) s).again xs rest (refl, right.follow);
  }

-- ---- lists that rise

module _ {X : Type 0} (P : X → Type 0) (before : X → X → Bool) where
  -- right, and behind the last one
  abbrev pub Behind : Option X → X → Type 0
  Behind last x = P x × (rises before last x ≡ true)

  abbrev From : Option X → List X → Type 0
  From None xs = Rise before xs
  From (Some x) xs = Rise before (x ∷ xs)

  rise_follow : (last : Option X) (xs : List X) → AllByRecursion P xs → From last xs → Follow Behind last_one last xs
  rise_follow last [] all rise = tt
  rise_follow None (x ∷ xs) all rise = ((all.0, refl), rise_follow (Some x) xs all.1 rise)
  rise_follow (Some y) (x ∷ xs) all rise = ((all.0, rise.0), rise_follow (Some x) xs all.1 rise.1)

  follow_all : (last : Option X) (xs : List X) → Follow Behind last_one last xs → AllByRecursion P xs
  follow_all last [] follow = tt
  follow_all last (x ∷ xs) follow = (follow.0.0, follow_all (Some x) xs follow.1)

  follow_rise : (last : Option X) (xs : List X) → Follow Behind last_one last xs → From last xs
  follow_rise None [] follow = tt
  follow_rise (Some y) [] follow = tt
  follow_rise None (x ∷ xs) follow = follow_rise (Some x) xs follow.1
  follow_rise (Some y) (x ∷ xs) follow = (follow.0.1, follow_rise (Some x) xs follow.1)

  abbrev pub AreRising : ℕ → ℕ → List X → Type 0
  AreRising least most xs = AreMany least most P xs × Rise before xs

  pub rising_exact : (spelled : X → List ℕ) (next : Option X → List ℕ → Reads X) → ((last : Option X) → IsExact (Behind last) spelled (next last)) →
      (least most : ℕ) → most < 2 ^ 16 → IsExact (AreRising least most) (list_of spelled) (list_at least most next)
  unfolding list_at
  rising_exact spelled next exact least most small =
      let whole = counted_exact Behind spelled next last_one exact least most None small in
      record {
        takes = λ bytes xs rest fits e.
            let t = whole.takes bytes xs rest fits e in
            record { parts = t.parts; right = (record { enough = t.right.enough; few = t.right.few; each = follow_all None xs t.right.follow }, follow_rise None xs t.right.follow); fits = t.fits };
        again = λ xs rest right. whole.again xs rest (record { enough = right.0.enough; few = right.0.few; follow = rise_follow None xs right.0.each right.1 });
      }
