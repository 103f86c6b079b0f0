use Rattle.std.proofs.Common.{None, lit<}
use Rattle.std.proofs.lemmas.Str.Pattern.{strip_suffix_char}
use Rattle.manage.proofs.Lines.{strip_none}
use Rattle.manage.proofs.properties.without_cr.Goals as goal

pub returns-in-None : goal.returns-in-None
returns-in-None c = strip_none c.args.line.now (strip_suffix_char 13 c.args.line.now None c.in-None.ensures.cases (lit< tt))
