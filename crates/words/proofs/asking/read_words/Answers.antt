use Rattle.std.proofs.Common.{rules, ◌∙◌, ap, sym, option_map}
use Rattle.clap.specs.Words.{app_of}
use Rattle.words.specs.Views.{view}
use Rattle.words.proofs.Parsed.{parsed, refused}
use Rattle.words.proofs.asking.read_words.Goals as goal

pub returns-in-Some-clause-ok : goal.returns-in-Some-clause-ok
returns-in-Some-clause-ok c =
    parsed (app_of c.in-Ok.command) _ c.in-Ok-try_get_matches_from.matches c.in-Ok.ensures c.in-Ok-try_get_matches_from.ensures.kinds c.in-Ok-try_get_matches_from.ensures.matches
    ∙ sym c.asked_of.ensures ∙ ap (option_map view) c.in-Some.is

pub returns-in-Ok-try_get_matches_from-clause-usage : goal.returns-in-Ok-try_get_matches_from-clause-usage
returns-in-Ok-try_get_matches_from-clause-usage c = λ _.
    parsed (app_of c.in-Ok.command) _ c.in-Ok-try_get_matches_from.matches c.in-Ok.ensures c.in-Ok-try_get_matches_from.ensures.kinds c.in-Ok-try_get_matches_from.ensures.matches
    ∙ sym c.asked_of.ensures ∙ ap (option_map view) c.in-None.is

pub returns : goal.returns
returns c = record {
  ok = tt;
  usage = λ _. refused (app_of c.in-Ok.command) _ c.in-Err.error c.in-Ok.ensures c.in-Err.ensures.kinds (λ memory. c.in_default-kind.not-OutOfMemory (search rules));
}
