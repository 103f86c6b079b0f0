-- A source that is a template, and one that is none.
use Rattle.std.proofs.Common.{◌≡◌, ℕ, List, length, Ok, Err, refl, arith}
use Rattle.std.specs.Str.{IsUtf8}
use Rattle.dtml_lex.specs.declared.refusal.DtmlRefusal.{DtmlRefusal}
use Rattle.dtml_lex.specs.declared.refusal.DtmlRefusal.TheVariants.{Memory}
use Rattle.dtml_parse.specs.Grammar.{Reads}
use Rattle.dtml_parse.specs.Refusals.{Refuses}
use Rattle.dtml_parse.specs.TreeReading.{ReadsRefusals, ReadsTrees, template}
use Rattle.dtml_parse.specs.Trees.{Items}
use Rattle.manage.specs.declared.refusal.ManageRefusal.TheVariants as refusals
use Rattle.manage.specs.Refusing.{where_read}
use Rattle.manage.specs.Fields.{Checked}

pub read_so : ReadsTrees → (source : List ℕ) (tree : Items) → IsUtf8 source → Reads source tree → ◌≡◌ {A = Checked (Unit {0})} (where_read tt (template source)) (Ok tt)
read_so reads source tree utf8 is = (let e : template source ≡ Ok tree = (reads source (length source) tree utf8 (omega arith)).1 is in rw e refl)

pub refused_so : ReadsRefusals → (source : List ℕ) (refusal : DtmlRefusal) → IsUtf8 source → Refuses source refusal → (refusal ≡ Memory → ⊥) → ◌≡◌ {A = Checked (Unit {0})} (where_read tt (template source)) (Err (refusals.BadSource refusal))
refused_so refuses source refusal utf8 is not = (let e : template source ≡ Err refusal = (refuses source (length source) refusal utf8 (omega arith)).1 (is, not) in rw e refl)
