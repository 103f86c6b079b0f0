-- Texts that are put, layers that are cut away, and sources.
use Rattle.std.proofs.Common.{ℕ, suc, zero, ◌≡◌, ◌∙◌, ◌<◌, ◌-◌, sym, ap, length, drop, take, List, ◌++◌, Option, Result, Ok, Err, arith}
use Rattle.std.proofs.lemmas.List.{length-take-le, take-append-le, take-append-drop}
use Rattle.std.proofs.Math.Seq.{take-length}
use Rattle.zbase.specs.Query.{Cause}
use Rattle.evaluator.specs.declared.reply.Shown.{Shown}
use Rattle.zobject.specs.declared.object.Object.{Object}
use Rattle.zknown.specs.Seen.{Seen}
use Rattle.dtml_parse.specs.Trees.{Items}
use Rattle.namespace.specs.declared.val.Layer.{Layer}
use Rattle.namespace.specs.Looks.{Looks, Done, Stops, Of, BadSource, Runaway, Renders, looked}
use Rattle.namespace.specs.LookLaws.{looked_goes, looked_passes}
use Rattle.namespace.specs.Names.{Scope, Space, popped}
use Rattle.namespace.specs.Told.{Shows}
use Rattle.std.specs.Prelude.{OnOk}
use Rattle.std.specs.Str.{IsUtf8}
use Rattle.dtml_values.specs.Values.{Left, spend_output}
use Rattle.dtml_values.specs.Told.{told}
use Rattle.dtml_values.specs.declared.refusal.RenderRefusal.{RenderRefusal}
use Rattle.dtml_render.specs.Rendering.{state, put, or_bad, whole_text, one_more, source_text}
use Rattle.dtml_lex.specs.declared.refusal.DtmlRefusal.{DtmlRefusal}
use Rattle.dtml_lex.specs.declared.refusal.DtmlRefusal.TheVariants.{Memory}
use Rattle.dtml_parse.specs.Refusals.{Refuses}
use Rattle.dtml_parse.specs.TreeReading.{ReadsRefusals, template}

pub put_so : (result : Result (Unit {0}) RenderRefusal) (k : ℕ → Option (Seen Object)) (shown : List Shown) (t out new : List ℕ) (left later : Left) →
    Shows told (λ u. later) shown result (looked k shown (spend_output (length t) left)) → OnOk result (new ≡ out ++ t) → Shows told (λ u. state new later) shown result (looked k shown (put t (state out left)))
put_so (Ok u) k shown t out new left later is new_is = looked_goes k shown (spend_output (length t) left) (λ left. Done (state (out ++ t) left)) (later, shown) is ∙ ap (λ (o : List ℕ). Ok (state o later, shown)) (sym new_is)
put_so (Err e) k shown t out new left later is new_is = looked_passes k shown (spend_output (length t) left) (λ left. Done (state (out ++ t) left)) (told e) is

-- a source that reads counts as a rendering
pub source_read : (renders : ℕ) (scope : Scope) (o : ℕ) (source : List ℕ) (left : Left) (tree : Items) → template source ≡ Ok tree → source_text renders scope o source left ≡ one_more renders scope tree left
unfolding source_text
source_read zero scope o source left tree e = ap (or_bad o (λ (tree : Items). Stops (Runaway Renders))) e
source_read (suc renders) scope o source left tree e = ap (or_bad o (λ (tree : Items). whole_text (source_text renders) scope tree left)) e

-- one layer fewer
pub cut_one : (depth : ℕ) (ls : List Layer) → depth < length ls → take depth (take (length ls - 1) ls) ≡ take depth ls
cut_one depth ls lt =
    let whole : take (length ls - 1) ls ++ drop (length ls - 1) ls ≡ ls = take-append-drop (length ls - 1) ls in
    let long : length (take (length ls - 1) ls) ≡ length ls - 1 = length-take-le (length ls - 1) ls (omega arith) in
    sym (take-append-le depth (take (length ls - 1) ls) (drop (length ls - 1) ls) (omega (arith, long))) ∙ ap (take depth) whole

pub popped_length : (ls : List Layer) → 0 < length ls → length (take (length ls - 1) ls) ≡ length ls - 1
popped_length ls lt = length-take-le (length ls - 1) ls (omega arith)

pub cut_step : (old before after : Space) (depth : ℕ) → record before.scope { layers = take depth before.scope.layers } ≡ record old.scope { layers = take depth old.scope.layers } → depth < length before.scope.layers →
    after ≡ record before { scope = popped before.scope } → record after.scope { layers = take depth after.scope.layers } ≡ record old.scope { layers = take depth old.scope.layers }
cut_step old before after depth same lt is =
    ap (λ (s : Space). record s.scope { layers = take depth s.scope.layers }) is
    ∙ ap (λ (ls : List Layer). record before.scope { layers = ls }) (cut_one depth before.scope.layers lt)
    ∙ same

pub cut_end : (old last : Space) (depth : ℕ) → record last.scope { layers = take depth last.scope.layers } ≡ record old.scope { layers = take depth old.scope.layers } → length last.scope.layers ≡ depth →
    last.scope ≡ record old.scope { layers = take depth old.scope.layers }
cut_end old last depth same long =
    ap (λ (ls : List Layer). record last.scope { layers = ls }) (sym (ap (λ (n : ℕ). take n last.scope.layers) (sym long) ∙ take-length last.scope.layers)) ∙ same

-- a source that can't be read is a bad one, however deep it stands
bad_source : (renders : ℕ) (scope : Scope) (o : ℕ) (source : List ℕ) (left : Left) (refusal : DtmlRefusal) → template source ≡ Err refusal → source_text renders scope o source left ≡ Stops (BadSource o refusal)
unfolding source_text
bad_source zero scope o source left refusal e = ap (or_bad o (λ (tree : Items). Stops (Runaway Renders))) e
bad_source (suc renders) scope o source left refusal e = ap (or_bad o (λ (tree : Items). whole_text (source_text renders) scope tree left)) e

pub refused_so : ReadsRefusals → (k : ℕ → Option (Seen Object)) (shown : List Shown) (renders : ℕ) (scope : Scope) (o : ℕ) (source : List ℕ) (left : Left) (refusal : DtmlRefusal) → IsUtf8 source → Refuses source refusal → (refusal ≡ Memory → ⊥) →
    looked k shown (source_text renders scope o source left) ≡ Err (Cause (Of (BadSource o refusal)))
refused_so refuses k shown renders scope o source left refusal utf8 is not =
    ap (λ (q : Looks (List ℕ × Left)). looked k shown q) (bad_source renders scope o source left refusal ((refuses source (length source) refusal utf8 (omega arith)).1 (is, not)))

-- where no rendering more may begin
pub none_begins : (k : ℕ → Option (Seen Object)) (shown : List Shown) (renders : ℕ) (scope : Scope) (o : ℕ) (source : List ℕ) (left : Left) (tree : Items) → template source ≡ Ok tree → renders ≡ 0 →
    looked k shown (source_text renders scope o source left) ≡ Err (Cause (Of (Runaway Renders)))
none_begins k shown renders scope o source left tree reads none =
    ap (λ (n : ℕ). looked k shown (source_text n scope o source left)) none ∙ ap (looked k shown) (source_read 0 scope o source left tree reads)
