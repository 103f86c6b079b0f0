-- A step that was made, with its reply.
use Rattle.std.proofs.Common.{◌≡◌, ℕ, ◌<◌, List, [], ◌∷◌, length, drop, take, ◌+◌, ◌++◌, get_or, Option, Result, Ok, Err, refl, sym, ap, ◌∙◌, subst, arith}
use Rattle.std.specs.Prelude.{IfOk}
use Rattle.std.proofs.lemmas.List.{drop_more, take_more}
use Rattle.evaluator.specs.Exec.{Eval}
use Rattle.txn_core.specs.Cores.{CoreView}
use Rattle.txn_core.specs.declared.step_line.StepLine.{StepLine}
use Rattle.txn_core.specs.Replying.{final}
use Rattle.http_clients.specs.Numbers.{Among}
use Rattle.zserve.specs.Waiting.{Stepped}
use Rattle.std.proofs.Common.{append-nil, append_assoc, flat_map, Bool, true, false, ◌==◌, eqb-true}
use Rattle.std.proofs.lemmas.Grind.{flat_map-append}
use Rattle.std.proofs.lemmas.List.{map-append}
use Rattle.schedule.specs.Items.{item_text}
use Rattle.zserve.specs.Happened.{Happening, items}
use Rattle.zserve.proofs.Lists.{among_here}

pub ok_final : {E R S M : Type 0} (takes : List ℕ → Option R) (eval : Eval R) (old new : CoreView E R S) (w now : ℕ) (line : StepLine) (r : Result (Option (List ℕ)) M) → Stepped takes eval old new w now line → IfOk r (λ b. b ≡ final line)
    → IfOk r (λ b. (x : StepLine) × Stepped takes eval old new w now x × (b ≡ final x))
ok_final takes eval old new w now line (Ok b) s e = (line, s, e)
ok_final takes eval old new w now line (Err m) s e = tt

-- the worker at this place of those that come
pub next_worker : (ws : List ℕ) (i w d : ℕ) → i < length ws → w ≡ get_or ws i d → drop i ws ≡ w ∷ drop (i + 1) ws
next_worker ws i w d less is = drop_more ws i d less ∙ ap (λ x. x ∷ drop (i + 1) ws) (sym is)

pub seen_more : (ws : List ℕ) (i w d : ℕ) → i < length ws → w ≡ get_or ws i d → take i ws ++ w ∷ [] ≡ take (i + 1) ws
seen_more ws i w d less is = sym (take_more ws i d less ∙ ap (λ x. take i ws ++ x ∷ []) (sym is))

pub comes_next : (still ws : List ℕ) (i d : ℕ) → i < length ws → Among (get_or ws i d) (still ++ drop i ws)
comes_next still ws i d less = subst (λ rest. Among (get_or ws i d) (still ++ rest)) (sym (next_worker ws i (get_or ws i d) d less refl)) (among_here (get_or ws i d) still (drop (i + 1) ws))

-- ---- the text of the tape

pub items_more : (all more : List Happening) → items (all ++ more) ≡ items all ++ items more
items_more all more = map-append (λ (h : Happening). h.0) all more

pub text_joined : (first old new : List ℕ) (all more : List Happening) → old ≡ first ++ flat_map item_text (items all) → new ≡ old ++ flat_map item_text (items more) → new ≡ first ++ flat_map item_text (items (all ++ more))
text_joined first old new all more e f =
    f ∙ ap (λ (xs : List ℕ). xs ++ flat_map item_text (items more)) e ∙ append_assoc first (flat_map item_text (items all)) (flat_map item_text (items more))
    ∙ ap (λ (xs : List ℕ). first ++ xs) (sym (flat_map-append item_text (items all) (items more)) ∙ ap (flat_map item_text) (sym (items_more all more)))

pub text_more : (first old new : List ℕ) (all : List Happening) (h : Happening) → old ≡ first ++ flat_map item_text (items all) → new ≡ old ++ item_text h.0 → new ≡ first ++ flat_map item_text (items (all ++ h ∷ []))
text_more first old new all h e f = text_joined first old new all (h ∷ []) e (f ∙ ap (λ (xs : List ℕ). old ++ xs) (sym (append-nil (item_text h.0))))

-- by the test for it, some wait or none does
pub some_wait : (xs : List ℕ) (n : ℕ) (b : Bool) → b ≡ false → b ≡ (n == 0) → length xs ≡ n → xs ≡ [] → ⊥
some_wait xs n b is test long none =
    let zero_ : n ≡ 0 = sym long ∙ ap length none in
    let bad : true ≡ false = sym (ap (λ k. k == 0) zero_) ∙ sym test ∙ is in
    cc

pub none_wait : (xs : List ℕ) (n : ℕ) (b : Bool) → b ≡ true → b ≡ (n == 0) → length xs ≡ n → xs ≡ []
none_wait [] n b is test long = refl
none_wait (x ∷ xs) n b is test long = absurd (let e : n ≡ 0 = eqb-true n 0 (sym test ∙ is) in omega (arith, e, long))
