-- The answers of wrong sites are refuted by the laws of access alone, whatever a page is defined to be.
use lib.Utf8.{encode}
use Rattle.std.proofs.Common.{ℕ, ◌≡◌, ◌∙◌, ◌⊎◌, inl, inr, refl, sym, ap, subst, arith, Bool, true, false, List, [], ◌∷◌, ◌++◌, Option, Some, None, option_map, Result, Ok, codes, nat_eq, if◌then◌else◌}
use Rattle.std.specs.Str.{is_utf8, chars}
use Rattle.std.specs.Str.Lossy.{utf8_lossy, utf8_valid_len}
use Rattle.std.proofs.lemmas.Bool.Decides.{nat_tests}
use Rattle.base64.specs.Decode.{groups_bytes, groups_error, scan_steps}
use Rattle.base64.specs.Rfc4648.{encode_symbols}
use Rattle.sha1.specs.Sha1.{sha1, digest_bytes, hash_after, compress, rounds, schedule, first_words}
use Rattle.zbase.specs.Query.{run, go_on}
use Rattle.zobject.specs.declared.object.Object.{Object}
use Rattle.zobject.specs.declared.object.Part2.TheVariants as parts
use Rattle.zobject.specs.Shapes.{shape_of}
use Rattle.zknown.specs.Seen.{Seen, Here, Absent, Unreadable, shape_seen}
use Rattle.acquisition.specs.Acquiring.{found, reached, containers, upwards, first, here, present}
use Rattle.acquisition.specs.Acquiring.{searched as finds}
use Rattle.permissions.specs.declared.who.Verdict.{Verdict}
use Rattle.permissions.specs.declared.who.Verdict.TheVariants as verdicts
use Rattle.permissions.specs.declared.who.Who.{Who}
use Rattle.permissions.specs.declared.who.Who.TheVariants as users
use Rattle.permissions.specs.Roles.{roles, has, locals_on, local_roles}
use Rattle.permissions.specs.Users.{Credentials, who, known_user, sought, taken_at, user_at}
use Rattle.permissions.specs.Verdicts.{proxy_user, verdict_on, judged}
use Rattle.user_folder.specs.Credentials.{credentials_of, spelled_by}
use Rattle.evaluator.specs.declared.outcome.Outcome.{Outcome}
use Rattle.evaluator.specs.declared.permission.TheConstants.{VIEW}
use Rattle.evaluator.specs.declared.reply.Shown.{Shown}
use Rattle.namespace.specs.LookLaws.{Same}
use Rattle.namespace.specs.Looks.{Use, veiled, view, without_users}
use Rattle.namespace.specs.Traces.{AreGrantedBy, AreJudged, AreOf, IsJudged, Kind, Look, refuses, viewed_at}
use Rattle.traverse.specs.declared.target.Target.{Target}
use Rattle.traverse.specs.declared.target.Target.TheVariants as targets
use Rattle.traverse.specs.Publishing.{published, walked, stepped, child, index}
use Rattle.traverse.specs.Publishing.{page as page_at}
use Rattle.dtml_lex.specs.Reading.{word_at, quotation_at, value_at, attribute_at, next_attribute, tag_end, attributes_at, tag_named, tag_at, name_at, entity_at, begins_part, plain_len, part_at}
use Rattle.dtml_parse.specs.Trees as trees
use Rattle.dtml_parse.specs.Trees.{Items, Marks}
use Rattle.dtml_parse.specs.TreeReading.{arms_at, nodes_at, template, template_at}
use Rattle.dtml_render.specs.Access.{HasNoRoles, HasRolesOfOne, HasSkip, RefusesRightly, SkipsIn, SkipsInOne}
use Rattle.dtml_render.specs.Rendering.{source_of}
use Rattle.publisher.specs.Access.{DeniesRightly, IsOfPage, IsPageFor, IsTargetFor, ShowsRightly, StaysApart}
use Rattle.publisher.specs.Site.{authorization}
use Rattle.publisher.specs.Worked.{held, managers, shown, site}
use Rattle.publisher.specs.WrongSites.{for_anyone, front_page, listing_site, not_granted, open_page, past_an_item, private_page, renamed_site, site_with_proxy, with_a_title, with_anothers_roles}
use Rattle.publisher.proofs.ForUsers.{AreForUsers, are_own}

ok_is : {A F : Type 0} (x y : A) → ◌≡◌ {A = Result A F} (Ok x) (Ok y) → x ≡ y
ok_is x y e = cc

nat_same : (a b : ℕ) → nat_eq a b ≡ true → a ≡ b
nat_same a b e = grind (arith, nat_tests)

-- ---- the small site

admin_user : Who
admin_user = users.Known (codes "admin") (codes "Manager" ∷ []) 0

his_credentials : credentials_of (authorization private_page) ≡ Ok (Some (codes "admin", codes "secret"))
unfolding published walked stepped child page_at index found reached containers upwards finds verdict_on judged roles has locals_on local_roles shape_of known_user sought taken_at user_at spelled_by groups_bytes groups_error scan_steps encode_symbols sha1 digest_bytes hash_after compress rounds schedule first_words is_utf8 encode chars utf8_lossy utf8_valid_len veiled
his_credentials = refl

private_is : run (veiled site) (published private_page.path) ≡ Ok (targets.Page (4 ∷ 0 ∷ []) (4 ∷ 0 ∷ []))
unfolding published walked stepped child page_at index found reached containers upwards finds verdict_on judged roles has locals_on local_roles shape_of known_user sought taken_at user_at spelled_by groups_bytes groups_error scan_steps encode_symbols sha1 digest_bytes hash_after compress rounds schedule first_words is_utf8 encode chars utf8_lossy utf8_valid_len veiled
private_is = refl

he_is : run (veiled site) (who (Some (codes "admin", codes "secret")) 4 view) ≡ Ok admin_user
unfolding published walked stepped child page_at index found reached containers upwards finds verdict_on judged roles has locals_on local_roles shape_of known_user sought taken_at user_at spelled_by groups_bytes groups_error scan_steps encode_symbols sha1 digest_bytes hash_after compress rounds schedule first_words is_utf8 encode chars utf8_lossy utf8_valid_len veiled admin_user
he_is = refl

he_may : run (veiled site) (verdict_on admin_user 4 VIEW) ≡ Ok (verdicts.Granted (codes "Manager"))
unfolding published walked stepped child page_at index found reached containers upwards finds verdict_on judged roles has locals_on local_roles shape_of known_user sought taken_at user_at spelled_by groups_bytes groups_error scan_steps encode_symbols sha1 digest_bytes hash_after compress rounds schedule first_words is_utf8 encode chars utf8_lossy utf8_valid_len veiled admin_user
he_may = refl

nobody_may_not : run (veiled site) (verdict_on users.Anonymous 4 VIEW) ≡ Ok (verdicts.Denied VIEW)
unfolding published walked stepped child page_at index found reached containers upwards finds verdict_on judged roles has locals_on local_roles shape_of known_user sought taken_at user_at spelled_by groups_bytes groups_error scan_steps encode_symbols sha1 digest_bytes hash_after compress rounds schedule first_words is_utf8 encode chars utf8_lossy utf8_valid_len veiled
nobody_may_not = refl

nobody_may_not_there : run (veiled site_with_proxy) (verdict_on users.Anonymous 4 VIEW) ≡ Ok (verdicts.Denied VIEW)
unfolding published walked stepped child page_at index found reached containers upwards finds verdict_on judged roles has locals_on local_roles shape_of known_user sought taken_at user_at spelled_by groups_bytes groups_error scan_steps encode_symbols sha1 digest_bytes hash_after compress rounds schedule first_words is_utf8 encode chars utf8_lossy utf8_valid_len veiled
nobody_may_not_there = refl

open_is : run (veiled site) (published open_page.path) ≡ Ok (targets.Page (3 ∷ 0 ∷ []) (3 ∷ 0 ∷ []))
unfolding published walked stepped child page_at index found reached containers upwards finds verdict_on judged roles has locals_on local_roles shape_of known_user sought taken_at user_at spelled_by groups_bytes groups_error scan_steps encode_symbols sha1 digest_bytes hash_after compress rounds schedule first_words is_utf8 encode chars utf8_lossy utf8_valid_len veiled
open_is = refl

nobodys : credentials_of (authorization front_page) ≡ Ok None
unfolding published walked stepped child page_at index found reached containers upwards finds verdict_on judged roles has locals_on local_roles shape_of known_user sought taken_at user_at spelled_by groups_bytes groups_error scan_steps encode_symbols sha1 digest_bytes hash_after compress rounds schedule first_words is_utf8 encode chars utf8_lossy utf8_valid_len veiled
nobodys = refl

nobodys_too : credentials_of (authorization open_page) ≡ Ok None
unfolding published walked stepped child page_at index found reached containers upwards finds verdict_on judged roles has locals_on local_roles shape_of known_user sought taken_at user_at spelled_by groups_bytes groups_error scan_steps encode_symbols sha1 digest_bytes hash_after compress rounds schedule first_words is_utf8 encode chars utf8_lossy utf8_valid_len veiled
nobodys_too = refl

-- ---- no object of it has proxy roles

abbrev IsPlain : Option (Seen Object) → Type 0
IsPlain None = Unit {0}
IsPlain (Some (Here object)) = proxy_user (shape_of object) ≡ None
IsPlain (Some Absent) = Unit {0}
IsPlain (Some Unreadable) = Unit {0}

if_plain : (b : Bool) (x y : Option (Seen Object)) → IsPlain x → IsPlain y → IsPlain (if b then x else y)
if_plain true x y p q = p
if_plain false x y p q = q

all_plain : (o : ℕ) → IsPlain (site o)
unfolding shape_of
all_plain o =
    if_plain (nat_eq o 0) _ _ refl (if_plain (nat_eq o 1) _ _ refl (if_plain (nat_eq o 2) _ _ refl (if_plain (nat_eq o 3) _ _ refl
    (if_plain (nat_eq o 4) _ _ refl (if_plain (nat_eq o 5) _ _ refl (if_plain (nat_eq o 6) _ _ refl (if_plain (nat_eq o 7) _ _ refl tt)))))))

no_roles : (o : ℕ) → HasNoRoles site o
no_roles o object e = at (site o) (all_plain o) e
  where
    at : (x : Option (Seen Object)) → IsPlain x → go_on o (λ seen. run site (present o seen)) x ≡ Ok object → proxy_user (shape_of object) ≡ None
    at None plain e' = absurd (let bad = e' in cc)
    at (Some (Here other)) plain e' = subst (λ z. proxy_user (shape_of z) ≡ None) (ok_is other object e') plain
    at (Some Absent) plain e' = absurd (let bad = e' in cc)
    at (Some Unreadable) plain e' = absurd (let bad = e' in cc)

nobody_has : (objects : List ℕ) (w : Who) → HasRolesOfOne site objects w → ⊥
nobody_has objects w (o, seen, (object, there, is)) = (let bad = sym (no_roles o object there) ∙ is in cc)

-- ---- a site that ignores credentials

his_user : (credentials : Option Credentials) (user : Who) (o : ℕ) → credentials_of (authorization private_page) ≡ Ok credentials → o ≡ 4 → run (veiled site) (who credentials o view) ≡ Ok user → user ≡ admin_user
his_user credentials user o carried is found =
    let same : Some (codes "admin", codes "secret") ≡ credentials = ok_is _ credentials (sym his_credentials ∙ carried) in
    ok_is user admin_user (sym found ∙ ap (λ p. run (veiled site) (who credentials p view)) is ∙ ap (λ c. run (veiled site) (who c 4 view)) (sym same) ∙ he_is)

page_object : (object client other client' : List ℕ) → ◌≡◌ {A = Target} (targets.Page object client) (targets.Page other client') → object ≡ other
page_object object client other client' e = cc

no_page_called : (name on object client : List ℕ) → ◌≡◌ {A = Target} (targets.Call name on) (targets.Page object client) → ⊥
no_page_called name on object client e = cc

private_object : (object client : List ℕ) (o : ℕ) → run (veiled site) (published private_page.path) ≡ Ok (targets.Page object client) → first object ≡ o → o ≡ 4
private_object object client o target is =
    sym is ∙ ap first (page_object object client (4 ∷ 0 ∷ []) (4 ∷ 0 ∷ []) (ok_is (targets.Page object client) (targets.Page (4 ∷ 0 ∷ []) (4 ∷ 0 ∷ [])) (sym target ∙ private_is)))

last_judged : (k : ℕ → Option (Seen Object)) (before : List Look) (last : Look) → AreJudged k (before ++ last ∷ []) → IsJudged k last
last_judged k [] last are = are.0
last_judged k (l ∷ before) last are = last_judged k before last are.1

last_of : (Sort Turns : List ℕ → Who → Type 0) (objects : List ℕ) (before : List Look) (last : Look) → AreOf Sort Turns objects (before ++ last ∷ []) → (seen : List ℕ) × Sort seen last.user
last_of Sort Turns objects [] last are = (objects, are.0.0)
last_of Sort Turns objects (l ∷ before) last are = last_of Sort Turns (viewed_at l.kind l.oid l.verdict objects) before last are.1

is_his : (objects : List ℕ) (user w : Who) → user ≡ admin_user → IsOfPage site user objects w → w ≡ admin_user
is_his objects user w is (inl same) = same ∙ is
is_his objects user w is (inr has) = absurd (nobody_has objects w has)

not_refused : (kind : Kind) (v : Verdict) (role : List ℕ) → v ≡ verdicts.Granted role → refuses kind v → ⊥
not_refused kind v role is r = subst (refuses kind) is r

pub ignoring_refuted : DeniesRightly site private_page not_granted → ⊥
ignoring_refuted (inr call) =
    no_page_called call.name call.on (4 ∷ 0 ∷ []) (4 ∷ 0 ∷ []) (ok_is (targets.Call call.name call.on) (targets.Page (4 ∷ 0 ∷ []) (4 ∷ 0 ∷ [])) (sym call.target ∙ private_is))
ignoring_refuted (inl page) =
    let p = page.publishes in
    let user = his_user p.credentials page.user page.o p.carried (private_object p.object page.client page.o p.target p.is_object) p.is_user in
    let refused = page.refused.refused in
    let judged = last_judged site refused.before refused.last (subst (AreJudged site) refused.are page.refused.judged) in
    let of = last_of (IsOfPage site page.user) (SkipsInOne site page.user) [] refused.before refused.last (subst (AreOf (IsOfPage site page.user) (SkipsInOne site page.user) []) refused.are page.refused.users) in
    let his = is_his of.0 page.user refused.last.user user of.1 in
    let verdict =
    ap (λ w. run (veiled site) (verdict_on w 4 VIEW)) (sym his) ∙ ap (λ o. run (veiled site) (verdict_on refused.last.user o VIEW)) (sym refused.object)
    ∙ ap (λ n. run (veiled site) (verdict_on refused.last.user refused.last.oid n)) (sym refused.needed) ∙ judged in
    not_refused refused.last.kind refused.last.verdict (codes "Manager") (sym (ok_is (verdicts.Granted (codes "Manager")) refused.last.verdict (sym he_may ∙ verdict))) refused.refuses

-- ---- one that shows every object for `Anonymous`

shown_is : (s t : Shown) (rest : List Shown) → ◌≡◌ {A = List Shown} (s ∷ []) (t ∷ rest) → s ≡ t
shown_is s t rest e = cc

granted_is : (a b : List ℕ) → ◌≡◌ {A = Verdict} (verdicts.Granted a) (verdicts.Granted b) → a ≡ b
granted_is a b e = cc

abbrev first_code : List ℕ → ℕ
first_code [] = 0
first_code (code ∷ rest) = code

no_anonymous_manager : codes "Manager" ≡ codes "Anonymous" → ⊥
no_anonymous_manager e = (let bad : 77 ≡ 65 = ap first_code e in omega (arith, bad))

anyone_at : (user : Who) (uses : List Use) → user ≡ admin_user → ◌≡◌ {A = List Shown} (shown 4 (codes "Anonymous") ∷ []) (without_users uses) → AreGrantedBy (IsOfPage site user) site [] uses → ⊥
anyone_at user [] is e are = (let bad = e in cc)
anyone_at user (u ∷ rest) is e are =
    let same = shown_is (shown 4 (codes "Anonymous")) u.shown (without_users rest) e in
    let his = is_his [] user u.user is are.0.0 in
    let verdict = ap (λ w. run (veiled site) (verdict_on w 4 VIEW)) (sym his) ∙ ap (λ (s : Shown). run (veiled site) (verdict_on u.user s.oid VIEW)) same ∙ are.0.1 in
    no_anonymous_manager
    (granted_is (codes "Manager") (codes "Anonymous") (ok_is (verdicts.Granted (codes "Manager")) (verdicts.Granted (codes "Anonymous")) (sym he_may ∙ verdict ∙ ap (λ (s : Shown). Ok (verdicts.Granted s.role)) (sym same))))

pub anyone_refuted : ShowsRightly site private_page for_anyone → ⊥
anyone_refuted shows =
    let p = shows.publishes in
    let user = his_user p.credentials shows.user shows.o p.carried (private_object p.object shows.client shows.o p.target p.is_object) p.is_user in
    anyone_at shows.user shows.uses user shows.shown shows.granted

-- ---- one that renders with another's proxy roles

nobody_is : (k : ℕ → Option (Seen Object)) (credentials : Option Credentials) (o : ℕ) (user : Who) → None ≡ credentials → run (veiled k) (who credentials o view) ≡ Ok user → user ≡ users.Anonymous
nobody_is k credentials o user none found = ok_is user users.Anonymous (sym found ∙ ap (λ c. run (veiled k) (who c o view)) (sym none))

-- the front page has none
front_has_none : (w : Who) → HasRolesOfOne site_with_proxy (2 ∷ []) w → ⊥
unfolding shape_of
front_has_none w (o, inl same, (object, there, is)) =
    let at_two : run site_with_proxy (here 2) ≡ Ok object = subst (λ p. run site_with_proxy (here p) ≡ Ok object) (sym same) there in
    let front : held 0 (codes "index_html") [] (parts.Method (codes "<b><dtml-var title></b>") []) ≡ object = ok_is _ object at_two in
    (let bad = ap (λ (x : Object). proxy_user (shape_of x)) front ∙ is in cc)
front_has_none w (o, inr none, has) = none

two_shown : (s t : Shown) (a b : Shown) (rest : List Shown) → ◌≡◌ {A = List Shown} (s ∷ t ∷ []) (a ∷ b ∷ rest) → (s ≡ a) × (t ≡ b)
two_shown s t a b rest e = (cc, cc)

no_denied_granted : (p : ℕ) (role : List ℕ) → ◌≡◌ {A = Verdict} (verdicts.Denied p) (verdicts.Granted role) → ⊥
no_denied_granted p role e = cc

borrowed_at : (user : Who) (uses : List Use) → user ≡ users.Anonymous → ◌≡◌ {A = List Shown} (shown 2 (codes "Anonymous") ∷ shown 4 (codes "Manager") ∷ []) (without_users uses) → AreGrantedBy (IsOfPage site_with_proxy user) site_with_proxy [] uses → ⊥
borrowed_at user [] is e are = (let bad = e in cc)
borrowed_at user (u ∷ []) is e are = (let bad = e in cc)
borrowed_at user (u ∷ v ∷ rest) is e are = at are.1.0.0
  where
    same : (shown 2 (codes "Anonymous") ≡ u.shown) × (shown 4 (codes "Manager") ≡ v.shown)
    same = two_shown (shown 2 (codes "Anonymous")) (shown 4 (codes "Manager")) u.shown v.shown (without_users rest) e

    at : (v.user ≡ user) ⊎ HasRolesOfOne site_with_proxy (u.shown.oid ∷ []) v.user → ⊥
    at (inl own) =
        let verdict = ap (λ w. run (veiled site_with_proxy) (verdict_on w 4 VIEW)) (sym (own ∙ is)) ∙ ap (λ (s : Shown). run (veiled site_with_proxy) (verdict_on v.user s.oid VIEW)) same.1 ∙ are.1.0.1 in
        no_denied_granted VIEW v.shown.role (ok_is (verdicts.Denied VIEW) (verdicts.Granted v.shown.role) (sym nobody_may_not_there ∙ verdict))
    at (inr has) = front_has_none v.user (subst (λ (s : Shown). HasRolesOfOne site_with_proxy (s.oid ∷ []) v.user) (sym same.0) has)

pub borrowed_refuted : ShowsRightly site_with_proxy front_page with_anothers_roles → ⊥
borrowed_refuted shows =
    let p = shows.publishes in
    let none = ok_is None p.credentials (sym nobodys ∙ p.carried) in
    borrowed_at shows.user shows.uses (nobody_is site_with_proxy p.credentials shows.o shows.user none p.is_user) shows.shown shows.granted

-- ---- one that passes over an item that isn't to be passed over

-- an object whose source has no such `dtml-in`
unskipped : (o : ℕ) (object : Object) (tree : Items) → run listing_site (here o) ≡ Ok object → template (source_of object.part) ≡ Ok tree → (HasSkip tree → ⊥) →
    (p : ℕ) → o ≡ p → (user w : Who) → SkipsIn listing_site user p w → ⊥
unskipped o object tree there reads none p same user w (other, at, (t, is, has), acts) =
    let one = ok_is object other (sym there ∙ subst (λ q. run listing_site (here q) ≡ Ok other) (sym same) at) in
    none (subst HasSkip (sym (ok_is tree t (sym reads ∙ ap (λ (x : Object). template (source_of x.part)) one ∙ is))) has)

abbrev no_marks : Marks
no_marks = record { html_quote = false; url_quote = false; newline_to_br = false; lower = false; upper = false; capitalize = false; missing = None; size = None; etc = None }

abbrev the_loop : Items
the_loop = trees.more (trees.Loop 13 (trees.Name (codes "objectValues")) false false trees.none trees.absent) trees.none

abbrev listing : Items
listing = trees.more (trees.With 0 (trees.Name (codes "H")) the_loop) (trees.more (trees.Var 57 (trees.Name (codes "s")) no_marks) trees.none)

listing_is : template (codes "<dtml-with H><dtml-in objectValues></dtml-in></dtml-with><dtml-var s>") ≡ Ok listing
unfolding word_at quotation_at value_at attribute_at next_attribute tag_end attributes_at tag_named tag_at name_at entity_at begins_part plain_len part_at nodes_at arms_at template_at
listing_is = refl

nothing_is : template [] ≡ Ok trees.none
unfolding word_at quotation_at value_at attribute_at next_attribute tag_end attributes_at tag_named tag_at name_at entity_at begins_part plain_len part_at nodes_at arms_at template_at
nothing_is = refl

no_skip : HasSkip listing → ⊥
no_skip (inl (inl (inl bad))) = (let no : false ≡ true = bad in cc)
no_skip (inl (inl (inr (inl bad)))) = bad
no_skip (inl (inl (inr (inr bad)))) = bad
no_skip (inl (inr bad)) = bad
no_skip (inr (inl bad)) = bad
no_skip (inr (inr bad)) = bad

none_skips : SkipsInOne listing_site users.Anonymous (6 ∷ 2 ∷ []) users.Anonymous → ⊥
none_skips (o, inl same, skips) = unskipped 6 _ trees.none refl nothing_is (λ bad. bad) o same users.Anonymous users.Anonymous skips
none_skips (o, inr (inl same), skips) = unskipped 2 _ listing refl listing_is no_skip o same users.Anonymous users.Anonymous skips
none_skips (o, inr (inr none), skips) = none

pub passing_refuted : RefusesRightly (IsOfPage listing_site users.Anonymous) (SkipsInOne listing_site users.Anonymous) listing_site 4 VIEW past_an_item → ⊥
passing_refuted refuses = none_skips refuses.users.1.1.1.0.1

-- ---- one in which another's title changes a page

abbrev renamed : Option (Seen Object)
renamed = Some (Here (record (held 0 (codes "s") managers (parts.Document (codes "hush") [])) { title = codes "U" }))

veiled_same : (o : ℕ) → veiled site o ≡ veiled renamed_site o
unfolding veiled shape_of
veiled_same o = shape_at (nat_eq o 4) refl
  where
    there : veiled site 4 ≡ veiled renamed_site 4
    there = refl

    shape_at : (b : Bool) → nat_eq o 4 ≡ b → veiled site o ≡ veiled renamed_site o
    shape_at true is = subst (λ p. veiled site p ≡ veiled renamed_site p) (sym (nat_same o 4 is)) there
    shape_at false is = subst (λ b. veiled site o ≡ option_map shape_seen (if b then renamed else site o)) (sym is) refl

contents_same : (o : ℕ) (role : List ℕ) → run (veiled site) (verdict_on users.Anonymous o VIEW) ≡ Ok (verdicts.Granted role) → site o ≡ renamed_site o
contents_same o role granted = seen_at (nat_eq o 4) refl
  where
    seen_at : (b : Bool) → nat_eq o 4 ≡ b → site o ≡ (if nat_eq o 4 then renamed else site o)
    seen_at true is = absurd (no_denied_granted VIEW role (ok_is (verdicts.Denied VIEW) (verdicts.Granted role) (sym nobody_may_not ∙ ap (λ p. run (veiled site) (verdict_on users.Anonymous p VIEW)) (sym (nat_same o 4 is)) ∙ granted)))
    seen_at false is = subst (λ b. site o ≡ (if b then renamed else site o)) (sym is) refl

same_for_nobody : Same users.Anonymous site renamed_site
same_for_nobody = record { without_contents = veiled_same; contents = contents_same }

page_for_nobody : AreForUsers → IsPageFor users.Anonymous site open_page
page_for_nobody all fields credentials target read carried leads = at target leads
  where
    none : None ≡ credentials
    none = ok_is None credentials (sym nobodys_too ∙ carried)

    at : (target : Target) → run (veiled site) (published open_page.path) ≡ Ok target → IsTargetFor users.Anonymous site open_page fields credentials target
    at (targets.Page object client) is = (λ user found. nobody_is site credentials (first object) user none found, are_own all users.Anonymous site open_page fields (first object) client (λ p seen. no_roles p))
    at (targets.Call name on) is = absurd (no_page_called name on (3 ∷ 0 ∷ []) (3 ∷ 0 ∷ []) (ok_is (targets.Call name on) (targets.Page (3 ∷ 0 ∷ []) (3 ∷ 0 ∷ [])) (sym is ∙ open_is)))

abbrev body_of : Outcome → List ℕ
body_of (Outcome.Answer x) = x.body
body_of (Outcome.Change x d) = []
body_of (Outcome.Need asks) = []

pub titles_refuted : AreForUsers → StaysApart site renamed_site open_page (with_a_title (codes "T")) (with_a_title (codes "U")) → ⊥
titles_refuted all apart = (let bad : 84 ≡ 85 = ap (λ o. first_code (body_of o)) (apart users.Anonymous same_for_nobody (page_for_nobody all)) in omega (arith, bad))
