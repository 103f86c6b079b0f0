-- What tells the names of children apart: that they rise, or that their keys differ.
use Rattle.std.proofs.Common.{◌≡◌, ℕ, Bool, true, false, List, [], ◌∷◌, ◌++◌, ◌&&◌, subst, map, reverse, Option, Some, None, option_map, Ordering, Less, Equal, Greater, refl, sym, ap, ◌∙◌, nat_cmp, is_eq, is_lt}
use Rattle.std.specs.List.{IsDistinct, AllByRecursion}
use Rattle.std.specs.Ordering.{ordering_reverse}
use Rattle.std.specs.Cmp.Lexicographic.{slice_cmp}
use Rattle.std.specs.Str.{bytes_eq}
use Rattle.std.proofs.lemmas.Cmp.{nat_list_cmp_total}
use Rattle.std.proofs.lemmas.List.Sorted.{IsPermutation-reverse, IsPermutation-sym}
use Rattle.std.proofs.lemmas.Map.Keys.{IsDistinct-IsPermutation}
use Rattle.std.proofs.lemmas.Map.Text.{is_eq-slice_cmp}
use denote.Ref.{Bor}
use Rattle.name_keys.specs.KeyLaws.{apart}
use Rattle.zobject.specs.declared.object.Child.{Child}
use Rattle.zobject.specs.Rules.{comes_before}
use Rattle.zcodec.specs.Reading.{Fails, rises}
use Rattle.zcodec.specs.Given.{any_child_at}
use Rattle.zcodec.specs.declared.unread.Unread.{Unread}
use Rattle.zcodec.proofs.Children.{named, named-push}
use Rattle.zcodec.proofs.Loop.{last_of, last_pushed}
use Rattle.zcodec.proofs.Distinct.{flipped, namesakes}

-- ---- names that rise

is_less : (o : Ordering) → is_lt o ≡ true → o ≡ Less
is_less Less e = refl
is_less Equal e = absurd (let bad = e in cc)
is_less Greater e = absurd (let bad = e in cc)

goes_on : (l m n : List ℕ) → comes_before l m ≡ true → comes_before m n ≡ true → comes_before l n ≡ true
goes_on l m n e f = ap is_lt (nat_list_cmp_total.trans l m n (is_less (slice_cmp nat_cmp l m) e) (is_less (slice_cmp nat_cmp m n) f))

differs : (m n : List ℕ) → comes_before m n ≡ true → bytes_eq n m ≡ false
differs m n e =
    let no : is_eq (slice_cmp nat_cmp m n) ≡ false = ap is_eq (is_less (slice_cmp nat_cmp m n) e) in
    flipped m n (sym (is_eq-slice_cmp m n) ∙ no)

-- the last one's name
abbrev pub last_name : List Child → Option (List ℕ)
last_name cs = option_map (λ (c : Child). c.name) (last_of cs)

-- a name that comes behind the last one is none of the earlier ones
abbrev pub IsPast : Option Child → List (List ℕ) → Type 0
IsPast last earlier = (n : List ℕ) → rises comes_before (option_map (λ (c : Child). c.name) last) n ≡ true → AllByRecursion (λ m. bytes_eq n m ≡ false) earlier

past_next : (last : Option Child) (earlier : List (List ℕ)) (c : Child) → IsPast last earlier → rises comes_before (option_map (λ (c : Child). c.name) last) c.name ≡ true → IsPast (Some c) (c.name ∷ earlier)
past_next None earlier c past e n f = (differs c.name n f, past n refl)
past_next (Some l) earlier c past e n f = (differs c.name n f, past n (goes_on l.name c.name n e f))

-- the names rise so far
abbrev pub HaveRisen : List Child → Type 0
HaveRisen cs = IsDistinct bytes_eq (named cs) × IsPast (last_of cs) (named cs)

pub none_risen : (cs : List Child) → cs ≡ [] → HaveRisen cs
unfolding IsDistinct
none_risen cs e = rw e (tt, λ n h. tt)

pub risen_more : (cs : List Child) (c : Child) → HaveRisen cs → rises comes_before (last_name cs) c.name ≡ true → HaveRisen (cs ++ c ∷ [])
unfolding IsDistinct
risen_more cs c risen e = rw (named-push cs c, last_pushed cs c) ((risen.1 c.name e, risen.0), past_next (last_of cs) (named cs) c risen.1 e)

turned : (o : Ordering) → is_eq (ordering_reverse o) ≡ is_eq o
turned Less = refl
turned Equal = refl
turned Greater = refl

either_way : (m n : List ℕ) → bytes_eq m n ≡ bytes_eq n m
either_way m n = sym (is_eq-slice_cmp m n) ∙ ap is_eq (nat_list_cmp_total.antisymm m n) ∙ turned (slice_cmp nat_cmp n m) ∙ is_eq-slice_cmp n m

pub risen : (cs : List Child) → HaveRisen cs → IsDistinct namesakes cs
risen cs all =
    let names = map (λ (c : Child). c.name) cs in
    apart bytes_eq namesakes (λ (c : Child). c.name) (λ c d e. e) cs
    (IsDistinct-IsPermutation bytes_eq either_way (reverse names) names (IsPermutation-sym names (reverse names) (IsPermutation-reverse names)) all.0)

-- ---- a child, whatever the last one is

pub any_alike : (last : Option Child) (bytes : List ℕ) → any_child_at last bytes ≡ any_child_at None bytes
unfolding any_child_at
any_alike last bytes = refl

pub fails_alike : (e : Unread) (last : Option Child) (bytes : List ℕ) → Fails e (any_child_at None bytes) → Fails e (any_child_at last bytes)
fails_alike e last bytes h = subst (Fails e) (sym (any_alike last bytes)) h

pub named_alike : (last : Option (Bor Child)) → option_map (λ (c : Bor Child). c.now.name) last ≡ option_map (λ (c : Child). c.name) (option_map (λ (c : Bor Child). c.now) last)
named_alike None = refl
named_alike (Some c) = refl

-- ---- both of two tests

pub then_first : (a b : Bool) → (a && b) ≡ true → a ≡ true
then_first true b e = refl
then_first false b e = e

pub then_second : (a b : Bool) → (a && b) ≡ true → b ≡ true
then_second true b e = e
then_second false b e = absurd (let bad = e in cc)
