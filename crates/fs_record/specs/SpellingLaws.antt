-- No spelling begins another, and what stands where in one.
use Rattle.std.proofs.Common.{◌≡◌, ℕ, ◌+◌, ◌^◌, ◌<◌, ◌≤◌, List, [], ◌∷◌, ◌++◌, length, get_or, take, drop, refl, sym, ap, subst, ◌∙◌, append_assoc, arith}
use Rattle.std.specs.Int.{w64, from_be_bytes}
use Rattle.std.specs.List.{flat_map, AllByRecursion}
use Rattle.std.proofs.lemmas.List.{take_at, drop_at, get_or_at, length-append, append-nil}
use Rattle.std.proofs.lemmas.Bool.{false≢true}
use Rattle.std.proofs.lemmas.Nat.{from_be_bytes-to_be_bytes_8}
use Rattle.zbase.specs.HexLaws.{fronts_same}
use Rattle.zbase.specs.NumberLaws.{length-be64, length-be16, same_be64, same_be16}
use Rattle.zbase.specs.Numbers.{be64, be16}
use Rattle.fs_record.specs.declared.heads.DataHead.{DataHead}
use Rattle.fs_record.specs.declared.heads.TxnHead.{TxnHead}
use Rattle.fs_record.specs.declared.body.Body.{Body}
use Rattle.fs_record.specs.declared.body.Body.TheVariants.{Full, Back}
use Rattle.fs_record.specs.Spelling.{txn_head, data_head, head_of, txn_head_of, Data, Inside, Records, Skipped, Block, data_spelling, block_spelling, body_length, body_spelling, long_of, texts_spelling, inside_spelling}
use Rattle.fs_record.specs.Fits.{FitsDataHead, FitsTxnHead, FitsBody, FitsData, FitsInside, FitsBlock}

pub length-data_head : (h : DataHead) → length (data_head h) ≡ 42
unfolding data_head
length-data_head h = simp (length-append, length-be64, length-be16)

pub length-txn_head : (h : TxnHead) → length (txn_head h) ≡ 23
unfolding txn_head
length-txn_head h = simp (length-append, length-be64, length-be16)

made_head : ℕ → ℕ → ℕ → ℕ → ℕ → ℕ → DataHead
made_head o t p s v l = record { oid = o; tid = t; prev = p; start = s; version = v; length = l }

same_made_head : (o o' t t' p p' s s' v v' l l' : ℕ) → o ≡ o' → t ≡ t' → p ≡ p' → s ≡ s' → v ≡ v' → l ≡ l' → made_head o t p s v l ≡ made_head o' t' p' s' v' l'
same_made_head o o' t t' p p' s s' v v' l l' a b c d e f = cc

pub data_head_from : (g h : DataHead) → g.oid ≡ h.oid → g.tid ≡ h.tid → g.prev ≡ h.prev → g.start ≡ h.start → g.version ≡ h.version → g.length ≡ h.length → g ≡ h
unfolding made_head
data_head_from g h a b c d e f = same_made_head g.oid h.oid g.tid h.tid g.prev h.prev g.start h.start g.version h.version g.length h.length a b c d e f

pub same_data_head : (g h : DataHead) (x y : List ℕ) → FitsDataHead g → FitsDataHead h → data_head g ++ x ≡ data_head h ++ y → (g ≡ h) × (x ≡ y)
unfolding data_head
same_data_head g h x y p q e =
    let a = same_be64 _ _ _ _ p.oid q.oid (simp append_assoc at e) in
    let b = same_be64 _ _ _ _ p.tid q.tid a.1 in
    let c = same_be64 _ _ _ _ p.prev q.prev b.1 in
    let d = same_be64 _ _ _ _ p.start q.start c.1 in
    let v = same_be16 _ _ _ _ p.version q.version d.1 in
    let l = same_be64 _ _ _ _ p.length q.length v.1 in
    (data_head_from g h a.0 b.0 c.0 d.0 v.0 l.0, l.1)

-- ---- data records

same_bodies : (a b : Body) (x y : List ℕ) → FitsBody a → FitsBody b → body_length a ≡ body_length b → body_spelling a ++ x ≡ body_spelling b ++ y → (a ≡ b) × (x ≡ y)
same_bodies (Full a) (Full b) x y p q l e = let s = fronts_same a b x y l e in (ap Full s.0, s.1)
same_bodies (Full a) (Back b) x y p q l e = absurd (omega arith)
same_bodies (Back a) (Full b) x y p q l e = absurd (omega arith)
same_bodies (Back a) (Back b) x y p q l e = let s = same_be64 a b x y p q e in (ap Back s.0, s.1)

made_data : ℕ → ℕ → ℕ → ℕ → ℕ → Body → Data
made_data o t p s v b = record { oid = o; tid = t; prev = p; start = s; version = v; body = b }

same_made_data : (o o' t t' p p' s s' v v' : ℕ) (b b' : Body) → o ≡ o' → t ≡ t' → p ≡ p' → s ≡ s' → v ≡ v' → b ≡ b' → made_data o t p s v b ≡ made_data o' t' p' s' v' b'
same_made_data o o' t t' p p' s s' v v' b b' h1 h2 h3 h4 h5 h6 = cc

same_fields : (a b : Data) → head_of a ≡ head_of b → a.body ≡ b.body → a ≡ b
unfolding made_data
same_fields a b h e = same_made_data a.oid b.oid a.tid b.tid a.prev b.prev a.start b.start a.version b.version a.body b.body
    (ap (λ (g : DataHead). g.oid) h) (ap (λ (g : DataHead). g.tid) h) (ap (λ (g : DataHead). g.prev) h) (ap (λ (g : DataHead). g.start) h) (ap (λ (g : DataHead). g.version) h) e

pub same_data : (a b : Data) (x y : List ℕ) → FitsData a → FitsData b → data_spelling a ++ x ≡ data_spelling b ++ y → (a ≡ b) × (x ≡ y)
unfolding data_spelling
same_data a b x y p q e =
    let h = same_data_head (head_of a) (head_of b) (body_spelling a.body ++ x) (body_spelling b.body ++ y) p.head q.head (sym (append_assoc (data_head (head_of a)) (body_spelling a.body) x) ∙ e ∙ append_assoc (data_head (head_of b)) (body_spelling b.body) y) in
    let s = same_bodies a.body b.body x y p.body q.body (ap (λ (g : DataHead). g.length) h.0) h.1 in
    (same_fields a b h.0 s.0, s.1)

long_body : (d : Data) (body : Body) → FitsBody body → 43 ≤ length (data_head (head_of d) ++ body_spelling body)
long_body d (Full bytes) p = omega (arith, length-append (data_head (head_of d)) bytes, length-data_head (head_of d))
long_body d (Back place) p = omega (arith, length-append (data_head (head_of d)) (be64 place), length-data_head (head_of d), length-be64 place)

pub long_data : (d : Data) → FitsBody d.body → 43 ≤ length (data_spelling d)
unfolding data_spelling
long_data d p = long_body d d.body p

-- records that are some of the front are the first of all
pub same_records : (ds es : List Data) (rest : List ℕ) → AllByRecursion FitsData ds → AllByRecursion FitsData es → flat_map data_spelling ds ++ rest ≡ flat_map data_spelling es → (more : List Data) × (es ≡ ds ++ more) × (rest ≡ flat_map data_spelling more)
same_records [] es rest p q e = (es, refl, e)
same_records (d ∷ ds) [] rest p q e = absurd (omega (arith, long_data d p.0.body, ap length e, length-append (data_spelling d) (flat_map data_spelling ds), length-append (data_spelling d ++ flat_map data_spelling ds) rest))
same_records (d ∷ ds) (f ∷ es) rest p q e =
    let s = same_data d f (flat_map data_spelling ds ++ rest) (flat_map data_spelling es) p.0 q.0 (sym (append_assoc (data_spelling d) (flat_map data_spelling ds) rest) ∙ e) in
    let r = same_records ds es rest p.1 q.1 s.1 in
    (r.0, cc, r.2)

-- ---- transactions

made_txn_head : ℕ → ℕ → ℕ → ℕ → ℕ → ℕ → TxnHead
made_txn_head t l s u d e = record { tid = t; length = l; status = s; user = u; description = d; extension = e }

same_made_txn_head : (t t' l l' s s' u u' d d' e e' : ℕ) → t ≡ t' → l ≡ l' → s ≡ s' → u ≡ u' → d ≡ d' → e ≡ e' → made_txn_head t l s u d e ≡ made_txn_head t' l' s' u' d' e'
same_made_txn_head t t' l l' s s' u u' d d' e e' h1 h2 h3 h4 h5 h6 = cc

pub txn_head_from : (g h : TxnHead) → g.tid ≡ h.tid → g.length ≡ h.length → g.status ≡ h.status → g.user ≡ h.user → g.description ≡ h.description → g.extension ≡ h.extension → g ≡ h
unfolding made_txn_head
txn_head_from g h a b c d e f = same_made_txn_head g.tid h.tid g.length h.length g.status h.status g.user h.user g.description h.description g.extension h.extension a b c d e f

same_first : (a b : ℕ) (x y : List ℕ) → a ∷ x ≡ b ∷ y → (a ≡ b) × (x ≡ y)
same_first a b x y e = (cc, cc)

pub same_txn_head : (g h : TxnHead) (x y : List ℕ) → FitsTxnHead g → FitsTxnHead h → txn_head g ++ x ≡ txn_head h ++ y → (g ≡ h) × (x ≡ y)
unfolding txn_head
same_txn_head g h x y p q e =
    let a = same_be64 _ _ _ _ p.tid q.tid (simp append_assoc at e) in
    let b = same_be64 _ _ _ _ p.length q.length a.1 in
    let c = same_first _ _ _ _ b.1 in
    let d = same_be16 _ _ _ _ p.user q.user c.1 in
    let v = same_be16 _ _ _ _ p.description q.description d.1 in
    let l = same_be16 _ _ _ _ p.extension q.extension v.1 in
    (txn_head_from g h a.0 b.0 c.0 d.0 v.0 l.0, l.1)

suffix_fits : (ds more : List Data) → AllByRecursion FitsData (ds ++ more) → AllByRecursion FitsData more
suffix_fits [] more h = h
suffix_fits (d ∷ ds) more h = suffix_fits ds more h.1

no_records : (ds : List Data) → AllByRecursion FitsData ds → flat_map data_spelling ds ≡ [] → ds ≡ []
no_records [] h e = refl
no_records (d ∷ ds) h e = absurd (omega (arith, long_data d h.0.body, ap length e, length-append (data_spelling d) (flat_map data_spelling ds)))

pub length-texts : (b : Block) → length (texts_spelling b.texts) ≡ length b.texts.user + length b.texts.description + length b.texts.extension
length-texts b = simp length-append

same_inside : (status : ℕ) (a b : Inside) → FitsInside status a → FitsInside status b → inside_spelling a ≡ inside_spelling b → a ≡ b
same_inside status (Records ds) (Records es) p q e =
    let r = same_records ds es [] p.1 q.1 (append-nil (flat_map data_spelling ds) ∙ e) in
    let none : r.0 ≡ [] = no_records r.0 (suffix_fits ds r.0 (subst (AllByRecursion FitsData) r.1 q.1)) (sym r.2) in
    ap Records (sym (r.1 ∙ ap (λ (m : List Data). ds ++ m) none ∙ append-nil ds))
same_inside status (Records ds) (Skipped b) p q e = absurd (false≢true (sym p.0 ∙ q))
same_inside status (Skipped a) (Records es) p q e = absurd (false≢true (sym q.0 ∙ p))
same_inside status (Skipped a) (Skipped b) p q e = ap Skipped e

made_block : ℕ → ℕ → List ℕ → List ℕ → List ℕ → Inside → ℕ → Block
made_block t s u d e i l = record { tid = t; status = s; texts = record { user = u; description = d; extension = e }; inside = i; tail = l }

same_made_block : (t t' s s' : ℕ) (u u' d d' e e' : List ℕ) (i i' : Inside) (l l' : ℕ) → t ≡ t' → s ≡ s' → u ≡ u' → d ≡ d' → e ≡ e' → i ≡ i' → l ≡ l' → made_block t s u d e i l ≡ made_block t' s' u' d' e' i' l'
same_made_block t t' s s' u u' d d' e e' i i' l l' h1 h2 h3 h4 h5 h6 h7 = cc

pub block_from : (a b : Block) → a.tid ≡ b.tid → a.status ≡ b.status → a.texts.user ≡ b.texts.user → a.texts.description ≡ b.texts.description → a.texts.extension ≡ b.texts.extension → a.inside ≡ b.inside → a.tail ≡ b.tail → a ≡ b
unfolding made_block
block_from a b h1 h2 h3 h4 h5 h6 h7 = same_made_block a.tid b.tid a.status b.status a.texts.user b.texts.user a.texts.description b.texts.description a.texts.extension b.texts.extension a.inside b.inside a.tail b.tail h1 h2 h3 h4 h5 h6 h7

regroup4 : (h t i l x : List ℕ) → (((h ++ t) ++ i) ++ l) ++ x ≡ h ++ (t ++ (i ++ (l ++ x)))
regroup4 h t i l x = simp append_assoc

regroup3 : (u d e x : List ℕ) → ((u ++ d) ++ e) ++ x ≡ u ++ (d ++ (e ++ x))
regroup3 u d e x = simp append_assoc

-- what the bytes of a transaction determine, whatever its inside is taken for
pub record SameParts (a b : Block) : Type 0 where
  pub tid : a.tid ≡ b.tid
  pub long : long_of a ≡ long_of b
  pub status : a.status ≡ b.status
  pub user : a.texts.user ≡ b.texts.user
  pub description : a.texts.description ≡ b.texts.description
  pub extension : a.texts.extension ≡ b.texts.extension
  pub inside : inside_spelling a.inside ≡ inside_spelling b.inside
  pub tail : a.tail ≡ b.tail

pub same_parts : (a b : Block) (x y : List ℕ) → FitsTxnHead (txn_head_of a) → a.tail < 2 ^ 64 → FitsTxnHead (txn_head_of b) → b.tail < 2 ^ 64 → block_spelling a ++ x ≡ block_spelling b ++ y → SameParts a b × (x ≡ y)
unfolding block_spelling
same_parts a b x y p p2 q q2 e =
    let e1 = sym (regroup4 (txn_head (txn_head_of a)) (texts_spelling a.texts) (inside_spelling a.inside) (be64 a.tail) x) ∙ e ∙ regroup4 (txn_head (txn_head_of b)) (texts_spelling b.texts) (inside_spelling b.inside) (be64 b.tail) y in
    let h = same_txn_head (txn_head_of a) (txn_head_of b) _ _ p q e1 in
    let e2 = sym (regroup3 a.texts.user a.texts.description a.texts.extension (inside_spelling a.inside ++ (be64 a.tail ++ x))) ∙ h.1 ∙ regroup3 b.texts.user b.texts.description b.texts.extension (inside_spelling b.inside ++ (be64 b.tail ++ y)) in
    let lu : length a.texts.user ≡ length b.texts.user = ap (λ (g : TxnHead). g.user) h.0 in
    let ld : length a.texts.description ≡ length b.texts.description = ap (λ (g : TxnHead). g.description) h.0 in
    let le : length a.texts.extension ≡ length b.texts.extension = ap (λ (g : TxnHead). g.extension) h.0 in
    let ll : long_of a ≡ long_of b = ap (λ (g : TxnHead). g.length) h.0 in
    let li : length (inside_spelling a.inside) ≡ length (inside_spelling b.inside) = omega (arith, length-texts a, length-texts b) in
    let u = fronts_same _ _ _ _ lu e2 in
    let d = fronts_same _ _ _ _ ld u.1 in
    let x1 = fronts_same _ _ _ _ le d.1 in
    let i = fronts_same (inside_spelling a.inside) (inside_spelling b.inside) (be64 a.tail ++ x) (be64 b.tail ++ y) li x1.1 in
    let t = same_be64 a.tail b.tail x y p2 q2 i.1 in
    (record { tid = ap (λ (g : TxnHead). g.tid) h.0; long = ll; status = ap (λ (g : TxnHead). g.status) h.0; user = u.0; description = d.0; extension = x1.0; inside = i.0; tail = t.0 }, t.1)

pub same_block : (a b : Block) (x y : List ℕ) → FitsBlock a → FitsBlock b → block_spelling a ++ x ≡ block_spelling b ++ y → (a ≡ b) × (x ≡ y)
same_block a b x y p q e =
    let s = same_parts a b x y p.head p.tail q.head q.tail e in
    let i : a.inside ≡ b.inside = same_inside b.status a.inside b.inside (subst (λ (s : ℕ). FitsInside s a.inside) s.0.status p.inside) q.inside s.0.inside in
    (block_from a b s.0.tid s.0.status s.0.user s.0.description s.0.extension i s.0.tail, s.1)

-- ---- what stands where in a transaction

pub length-block : (b : Block) → length (block_spelling b) ≡ long_of b + 8
unfolding block_spelling
length-block b = simp (length-append, length-be64, length-txn_head) (omega arith)

regroup_head : (h t i l x : List ℕ) → (((h ++ t) ++ i) ++ l) ++ x ≡ h ++ (((t ++ i) ++ l) ++ x)
regroup_head h t i l x = simp append_assoc

regroup6 : (t l s u d e x : List ℕ) → (((((t ++ l) ++ s) ++ u) ++ d) ++ e) ++ x ≡ (t ++ l) ++ (s ++ (((u ++ d) ++ e) ++ x))
regroup6 t l s u d e x = simp append_assoc

-- the tid and the length, the status, and the rest
front_stands : (b : Block) (more : List ℕ) → (rest : List ℕ) × (block_spelling b ++ more ≡ (be64 b.tid ++ be64 (long_of b)) ++ b.status ∷ rest)
unfolding block_spelling txn_head
front_stands b more =
    let z = ((texts_spelling b.texts ++ inside_spelling b.inside) ++ be64 b.tail) ++ more in (
      ((be16 (length b.texts.user) ++ be16 (length b.texts.description)) ++ be16 (length b.texts.extension)) ++ z,
      regroup_head (txn_head (txn_head_of b)) (texts_spelling b.texts) (inside_spelling b.inside) (be64 b.tail) more
          ∙ regroup6 (be64 b.tid) (be64 (long_of b)) (b.status ∷ []) (be16 (length b.texts.user)) (be16 (length b.texts.description)) (be16 (length b.texts.extension)) z,
    )

pub status_stands : (b : Block) (more : List ℕ) → get_or (block_spelling b ++ more) 16 0 ≡ b.status
status_stands b more =
    let f = front_stands b more in
    ap (λ (s : List ℕ). get_or s 16 0) f.1 ∙ get_or_at (be64 b.tid ++ be64 (long_of b)) b.status f.0 0 16 (simp (length-append, length-be64))

pub length_stands : (b : Block) (more : List ℕ) → long_of b < 2 ^ 64 → from_be_bytes w64 (take 8 (drop 8 (block_spelling b ++ more))) ≡ long_of b
unfolding be64
length_stands b more lt =
    let f = front_stands b more in
    let rest : drop 8 (block_spelling b ++ more) ≡ be64 (long_of b) ++ b.status ∷ f.0 = ap (λ (s : List ℕ). drop 8 s) (f.1 ∙ append_assoc (be64 b.tid) (be64 (long_of b)) (b.status ∷ f.0)) ∙ drop_at (be64 b.tid) (be64 (long_of b) ++ b.status ∷ f.0) 8 (length-be64 b.tid) in
    let bytes : take 8 (drop 8 (block_spelling b ++ more)) ≡ be64 (long_of b) = ap (λ (s : List ℕ). take 8 s) rest ∙ take_at (be64 (long_of b)) (b.status ∷ f.0) 8 (length-be64 (long_of b)) in
    ap (from_be_bytes w64) bytes ∙ from_be_bytes-to_be_bytes_8 (long_of b) lt
