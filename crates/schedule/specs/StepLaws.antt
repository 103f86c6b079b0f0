-- What each step makes of the history that stands, whatever it met.
use Rattle.std.proofs.Common.{◌≡◌, ℕ, ◌==◌, Bool, true, false, cond, List, [], ◌∷◌, Option, Some, None, refl, sym, ◌∙◌, inl, inr, subst}
use Rattle.std.specs.Prelude.{nat_lt, ◌&&◌, ◌+◌, length}
use Rattle.zbase.specs.declared.ids.Clash.{Clash}
use Rattle.zbase.specs.History.{History, IsPrefixOf, Transaction, added}
use Rattle.zbase.specs.HistoryLaws.{last_after-append, prefix_added, prefix_refl}
use Rattle.zbase.specs.Limits.{greatest_number}
use Rattle.zbase.specs.Values.{last, next}
use Rattle.evaluator.specs.declared.draft.Draft.{Draft}
use Rattle.evaluator.specs.declared.outcome.Outcome.{Outcome}
use Rattle.evaluator.specs.declared.reply.Reply.{Reply}
use Rattle.evaluator.specs.Change.{made}
use Rattle.evaluator.specs.Facts.{look}
use Rattle.schedule.specs.declared.line.Line.{Line}
use Rattle.schedule.specs.Moments.{Terms, Attempt, Doing, Free, Waiting, Asking, Computed, Vote, Moment, doing}
use Rattle.schedule.specs.Stepping.{Told, Steps, Trouble, Wants_memory, Disk_fails, Is_unknown, Is_stopped, fails, first_clash, from_asking, from_computed, from_doing, has_request, held_by, need, troubled, validated, votes}

-- a commit reply has the id of the last transaction
abbrev pub TellsLast : List Line → History → Type 0
TellsLast (Line.ReplyCommit w t bytes ∷ rest) h = t ≡ last h
TellsLast _ h = Unit {0}

-- the history stays or gets longer, and is told rightly
abbrev Grows : {R : Type 0} → History → Told R → Type 0
Grows h t = IsPrefixOf h t.1.standing × TellsLast t.0 t.1.standing

stays : (h : History) → IsPrefixOf h h × Unit {0}
stays h = (prefix_refl h, tt)

last_added : (h : History) (t : Transaction) → last (added h t) ≡ t.tid
last_added h t = last_after-append 0 h.transactions (t ∷ [])

either : {R : Type 0} (h : History) (b : Bool) (x y : Told R) → Grows h x → Grows h y → Grows h (cond b x y)
either h true x y p q = p
either h false x y p q = q

grow_votes : {R : Type 0} (terms : Terms R) (m : Moment R) (w : ℕ) (x : Reply) (d : Draft) → Grows m.standing (votes terms m w x d)
grow_votes terms m w x d = either m.standing (last m.standing == greatest_number) _ _ (stays m.standing) (either m.standing (nat_lt 0 (made d) && nat_lt greatest_number (next m.standing + made d)) _ _ (stays m.standing) (either m.standing (nat_lt terms.limit (need m d)) _ _ (stays m.standing) (stays m.standing)))

grow_validated : {R : Type 0} (terms : Terms R) (m : Moment R) (w : ℕ) (a : Attempt R) (x : Reply) (d : Draft) (c : Option Clash) → Grows m.standing (validated terms m w a x d c)
grow_validated terms m w a x d (Some c) = either m.standing (nat_lt (length a.clashes) 3) _ _ (stays m.standing) (stays m.standing)
grow_validated terms m w a x d None = grow_votes terms m w x d

grow_computed : {R : Type 0} (terms : Terms R) (m : Moment R) (w : ℕ) (a : Attempt R) (x : Reply) (d : Draft) (v : Option Vote) → Grows m.standing (from_computed terms m w a x d v)
grow_computed terms m w a x d (Some v) = either m.standing (v.holder == w) _ _ (prefix_added m.standing v.transaction, sym (last_added m.standing v.transaction)) (stays m.standing)
grow_computed terms m w a x d None = grow_validated terms m w a x d (first_clash m.standing a.facts)

grow_asking : {R : Type 0} (terms : Terms R) (m : Moment R) (w : ℕ) (a : Attempt R) (o : Outcome) → Grows m.standing (from_asking terms m w a o)
grow_asking terms m w a (Outcome.Need ask) = stays m.standing
grow_asking terms m w a (Outcome.Answer x) = stays m.standing
grow_asking terms m w a (Outcome.Change x d) = stays m.standing

grow_doing : {R : Type 0} (terms : Terms R) (m : Moment R) (w : ℕ) (d : Option (Doing R)) → Grows m.standing (from_doing terms m w d)
grow_doing terms m w None = stays m.standing
grow_doing terms m w (Some Free) = stays m.standing
grow_doing terms m w (Some (Waiting q cs)) = stays m.standing
grow_doing terms m w (Some (Asking a)) = grow_asking terms m w a (terms.eval (look a.facts) a.request)
grow_doing terms m w (Some (Computed a x d)) = grow_computed terms m w a x d m.vote

taken : {R : Type 0} (h : History) (x t : Told R) → Some x ≡ Some t → Grows h x → Grows h t
taken h x t e grows = (let same : x ≡ t = cc in subst (λ (k : Told _). Grows h k) same grows)

grow_fails : {R : Type 0} (terms : Terms R) (m : Moment R) (w : ℕ) (held : Option Vote) (trouble : Trouble) (t : Told R) → fails terms m w held trouble ≡ Some t → Grows m.standing t
grow_fails terms m w None Wants_memory t e = taken m.standing _ t e (stays m.standing)
grow_fails terms m w None Disk_fails t e = taken m.standing _ t e (stays m.standing)
grow_fails terms m w (Some v) (Is_unknown true) t e = taken m.standing _ t e (prefix_added m.standing v.transaction, tt)
grow_fails terms m w (Some v) (Is_unknown false) t e = taken m.standing _ t e (stays m.standing)
grow_fails terms m w None (Is_stopped true os) t e = taken m.standing _ t e (stays m.standing)
grow_fails terms m w None (Is_stopped false os) t e = taken m.standing _ t e (stays m.standing)
grow_fails terms m w (Some v) (Is_stopped true os) t e = taken m.standing _ t e (prefix_added m.standing v.transaction, tt)
grow_fails terms m w (Some v) (Is_stopped false os) t e = taken m.standing _ t e (stays m.standing)
grow_fails terms m w (Some v) Wants_memory t e = absurd cc
grow_fails terms m w (Some v) Disk_fails t e = absurd cc
grow_fails terms m w None (Is_unknown b) t e = absurd cc

grow_troubled : {R : Type 0} (terms : Terms R) (m : Moment R) (w : ℕ) (trouble : Trouble) (t : Told R) (b : Bool) → has_request (doing m w) ≡ b → troubled terms m w trouble ≡ Some t → Grows m.standing t
grow_troubled {R} terms m w trouble t true asked e =
    let here : troubled terms m w trouble ≡ fails terms m w (held_by w m.vote) trouble = rw asked refl in
    grow_fails terms m w (held_by w m.vote) trouble t (sym here ∙ e)
grow_troubled {R} terms m w trouble t false asked e =
    let none : troubled terms m w trouble ≡ None = rw asked refl in
    absurd (let bad : None ≡ Some t = sym none ∙ e in cc)

grow_steps : {R : Type 0} (terms : Terms R) (m to : Moment R) (w : ℕ) (lines : List Line) → Steps terms m w lines to → Grows m.standing (lines, to)
grow_steps {R} terms m to w lines (inl e) = subst (λ (k : Told R). Grows m.standing k) e (grow_doing terms m w (doing m w))
grow_steps {R} terms m to w lines (inr (trouble, e)) = grow_troubled terms m w trouble (lines, to) (has_request (doing m w)) refl e

-- a step leaves the history or makes it longer
pub steps_grow : {R : Type 0} (terms : Terms R) (old new : Moment R) (w : ℕ) (lines : List Line) → Steps terms old w lines new → IsPrefixOf old.standing new.standing
steps_grow terms old new w lines steps = (grow_steps terms old new w lines steps).0

-- a step that prints a commit reply ends with that transaction
pub steps_tell_last : {R : Type 0} (terms : Terms R) (old new : Moment R) (w : ℕ) (lines : List Line) → Steps terms old w lines new → TellsLast lines new.standing
steps_tell_last terms old new w lines steps = (grow_steps terms old new w lines steps).1
