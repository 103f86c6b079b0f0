use Rattle.std.proofs.Common.{◌≡◌, ◌+◌, Bool, true, false, Some, None, take, ap, sym, ◌∙◌, refl, arith}
use Rattle.std.proofs.lemmas.List.{length-take}
use Rattle.dtml_format.specs.Shaping as spec
use Rattle.dtml_format.proofs.Blocks.{few_chars}
use Rattle.dtml_format.proofs.Spaces.{found_at, none_found}
use Rattle.dtml_format.proofs.sizing.last_space.Goals as goal

is_false : (t : Bool) → (t ≡ true → ⊥) → t ≡ false
is_false true h = absurd (h refl)
is_false false h = refl

pub returns-in-None : goal.returns-in-None
returns-in-None c = record { is = sym (none_found None 0 c.args.bytes.now (λ j le lt. is_false _ (c.in-None.ensures j le lt))); within = tt }

pub returns-in-Some-clause-is : goal.returns-in-Some-clause-is
returns-in-Some-clause-is c =
    let found = c.in-Some.ensures in
    let from_none : spec.chars (take c.in-Some.place c.args.bytes.now) ≡ 0 + spec.chars (take c.in-Some.place c.args.bytes.now) = omega arith in
    ap (λ n. Some n) (c.chars.ensures ∙ from_none) ∙ sym (found_at None 0 c.args.bytes.now c.in-Some.place found.0.high found.1 (λ j le lt. is_false _ (found.0.after j le lt)))

pub returns-in-Some-clause-within : goal.returns-in-Some-clause-within
returns-in-Some-clause-within c =
    let found = c.in-Some.ensures in
    let before = found.0.high in
    omega (arith, c.chars.ensures, few_chars (take c.in-Some.place c.args.bytes.now), length-take c.in-Some.place c.args.bytes.now, before)
