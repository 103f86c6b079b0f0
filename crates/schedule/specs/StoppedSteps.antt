-- A step that a fault cut off, and the same step cut off by a stop.
use Rattle.std.proofs.Common.{◌≡◌, ℕ, ◌==◌, Bool, true, false, cond, List, ◌∷◌, Option, Some, None, refl, sym, ap, ◌∙◌, inl, inr}
use Rattle.std.specs.Prelude.{nat_lt, ◌&&◌, ◌+◌, length}
use Rattle.zbase.specs.declared.ids.Clash.{Clash}
use Rattle.zbase.specs.Limits.{greatest_number}
use Rattle.zbase.specs.Values.{last, next}
use Rattle.evaluator.specs.declared.draft.Draft.{Draft}
use Rattle.evaluator.specs.declared.outcome.Outcome.{Outcome}
use Rattle.evaluator.specs.declared.reply.Reply.{Reply}
use Rattle.evaluator.specs.Change.{made}
use Rattle.evaluator.specs.Facts.{look}
use Rattle.schedule.specs.declared.line.Line.{Line}
use Rattle.schedule.specs.Moments.{Terms, Attempt, Doing, Free, Waiting, Asking, Computed, Vote, Moment, doing, emptied, lost_lines, turned}
use Rattle.schedule.specs.Stepping.{Told, told, Steps, Trouble, Wants_memory, Disk_fails, Is_unknown, Is_stopped, Opening, fails, first_clash, from_asking, from_computed, from_doing, has_request, held_by, need, restarted, settled, troubled, validated, votes}

-- the lines don't begin with a fault's
abbrev pub is_plain : List Line → Bool
is_plain (Line.DiskFault w ∷ rest) = false
is_plain (Line.Unknown w t ∷ rest) = false
is_plain _ = true

abbrev Plain : {R : Type 0} → Told R → Type 0
Plain t = is_plain t.0 ≡ true

either : {R : Type 0} (b : Bool) (x y : Told R) → Plain x → Plain y → Plain (cond b x y)
either true x y p q = p
either false x y p q = q

plain_votes : {R : Type 0} (terms : Terms R) (m : Moment R) (w : ℕ) (x : Reply) (d : Draft) → Plain (votes terms m w x d)
plain_votes terms m w x d = either (last m.standing == greatest_number) _ _ refl (either (nat_lt 0 (made d) && nat_lt greatest_number (next m.standing + made d)) _ _ refl (either (nat_lt terms.limit (need m d)) _ _ refl refl))

plain_validated : {R : Type 0} (terms : Terms R) (m : Moment R) (w : ℕ) (a : Attempt R) (x : Reply) (d : Draft) (c : Option Clash) → Plain (validated terms m w a x d c)
plain_validated terms m w a x d (Some c) = either (nat_lt (length a.clashes) 3) _ _ refl refl
plain_validated terms m w a x d None = plain_votes terms m w x d

plain_computed : {R : Type 0} (terms : Terms R) (m : Moment R) (w : ℕ) (a : Attempt R) (x : Reply) (d : Draft) (v : Option Vote) → Plain (from_computed terms m w a x d v)
plain_computed terms m w a x d (Some v) = either (v.holder == w) _ _ refl refl
plain_computed terms m w a x d None = plain_validated terms m w a x d (first_clash m.standing a.facts)

plain_asking : {R : Type 0} (terms : Terms R) (m : Moment R) (w : ℕ) (a : Attempt R) (o : Outcome) → Plain (from_asking terms m w a o)
plain_asking terms m w a (Outcome.Need ask) = refl
plain_asking terms m w a (Outcome.Answer x) = refl
plain_asking terms m w a (Outcome.Change x d) = refl

plain_doing : {R : Type 0} (terms : Terms R) (m : Moment R) (w : ℕ) (d : Option (Doing R)) → Plain (from_doing terms m w d)
plain_doing terms m w None = refl
plain_doing terms m w (Some Free) = refl
plain_doing terms m w (Some (Waiting q cs)) = refl
plain_doing terms m w (Some (Asking a)) = plain_asking terms m w a (terms.eval (look a.facts) a.request)
plain_doing terms m w (Some (Computed a x d)) = plain_computed terms m w a x d m.vote

-- the table prints no fault
pub plain_told : {R : Type 0} (terms : Terms R) (m : Moment R) (w : ℕ) → is_plain (told terms m w).0 ≡ true
plain_told terms m w = plain_doing terms m w (doing m w)

-- the step under way was cut off by a stop, and these openings followed; then the history is that of the moment
abbrev pub StoppedTo : {R : Type 0} → Terms R → Moment R → ℕ → List Opening → Moment R → Type 0
StoppedTo terms m w openings to = (stands : Bool) × (troubled terms m w (Is_stopped stands openings) ≡ Some (restarted (lost_lines m) openings to))

pair_of : {R : Type 0} (x y : Told R) → Some x ≡ Some y → x ≡ y
pair_of x y e = cc

unknown_restart : {R : Type 0} (terms : Terms R) (m : Moment R) (w : ℕ) (v : Vote) (b : Bool) (openings : List Opening) → fails terms m w (Some v) (Is_stopped b openings) ≡ Some (restarted (lost_lines m) openings (turned (settled m (Some v) b) w Free))
unknown_restart terms m w v true openings = refl
unknown_restart terms m w v false openings = refl

stop_fails : {R : Type 0} (terms : Terms R) (m to : Moment R) (w : ℕ) (lines : List Line) (openings : List Opening) (held : Option Vote) (trouble : Trouble) → fails terms m w held trouble ≡ Some (lines, to) → is_plain lines ≡ false → (stands : Bool) × (fails terms m w held (Is_stopped stands openings) ≡ Some (restarted (lost_lines m) openings to))
stop_fails terms m to w lines openings None Wants_memory e fault = absurd (let p = ap (λ t. is_plain t.0) (pair_of _ (lines, to) e) in let bad : true ≡ false = p ∙ fault in cc)
stop_fails {R} terms m to w lines openings None Disk_fails e fault =
    let is : Moment R = turned m w Free in
    let same : is ≡ to = ap (λ t. t.1) (pair_of _ (lines, to) e) in
    (false, ap (λ (k : Moment R). Some (restarted (lost_lines m) openings k)) same)
stop_fails {R} terms m to w lines openings (Some v) (Is_unknown b) e fault =
    let is : Moment R = turned (settled m (Some v) b) w Free in
    let same : is ≡ to = ap (λ t. t.1) (pair_of _ (lines, to) e) in
    (b, unknown_restart terms m w v b openings ∙ ap (λ (k : Moment R). Some (restarted (lost_lines m) openings k)) same)
stop_fails terms m to w lines openings None (Is_stopped b os) e fault = absurd (let p = ap (λ t. is_plain t.0) (pair_of _ (lines, to) e) in let bad : true ≡ false = p ∙ fault in cc)
stop_fails terms m to w lines openings (Some v) (Is_stopped b os) e fault = absurd (let p = ap (λ t. is_plain t.0) (pair_of _ (lines, to) e) in let bad : true ≡ false = p ∙ fault in cc)
stop_fails terms m to w lines openings (Some v) Wants_memory e fault = absurd cc
stop_fails terms m to w lines openings (Some v) Disk_fails e fault = absurd cc
stop_fails terms m to w lines openings None (Is_unknown b) e fault = absurd cc

-- of a worker with a request
asked : {R : Type 0} (terms : Terms R) (m : Moment R) (w : ℕ) (t : Trouble) → has_request (doing m w) ≡ true → troubled terms m w t ≡ fails terms m w (held_by w m.vote) t
asked terms m w t e = rw e refl

-- A step that a fault cut off might have been cut off by a stop, and leads then to the same history.
pub stopped_instead : {R : Type 0} (terms : Terms R) (m to : Moment R) (w : ℕ) (lines : List Line) (openings : List Opening) → Steps terms m w lines to → is_plain lines ≡ false → StoppedTo terms m w openings to
stopped_instead {R} terms m to w lines openings (inl told_is) fault =
    absurd (let p : true ≡ is_plain lines = sym (plain_told terms m w) ∙ ap (λ (t : Told R). is_plain t.0) told_is in let bad : true ≡ false = p ∙ fault in cc)
stopped_instead {R} terms m to w lines openings (inr (trouble, is)) fault = go (has_request (doing m w)) refl
  where
    go : (b : Bool) → has_request (doing m w) ≡ b → StoppedTo terms m w openings to
    go false e = absurd (let none : troubled terms m w trouble ≡ None = rw e refl in let bad : None ≡ Some (let t : Told R = (lines, to) in t) = sym none ∙ is in cc)
    go true e =
        let s = stop_fails terms m to w lines openings (held_by w m.vote) trouble (sym (asked terms m w trouble e) ∙ is) fault in
        (s.0, asked terms m w (Is_stopped s.0 openings) e ∙ s.1)

-- So it is a step, and all requests are gone.
pub stopped_step : {R : Type 0} (terms : Terms R) (m to : Moment R) (w : ℕ) (lines : List Line) (openings : List Opening) → Steps terms m w lines to → is_plain lines ≡ false
    → Steps terms m w (restarted (lost_lines m) openings to).0 (emptied to)
stopped_step terms m to w lines openings steps fault = let s = stopped_instead terms m to w lines openings steps fault in inr (Is_stopped s.0 openings, s.1)
