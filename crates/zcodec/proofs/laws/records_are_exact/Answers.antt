use Rattle.std.proofs.Common.{◌∙◌, sym, refl}
use Rattle.zobject.specs.declared.version.Version.TheVariants.{Second}
use Rattle.zcodec.proofs.Whole.{one_object}
use Rattle.zcodec.proofs.Lawful.{is_older, lawful_older, spelled_is_lawful}
use Rattle.zcodec.proofs.laws.records_are_exact.Goals as goal

pub returns : goal.returns
returns c = record {
  one = one_object;
  lawful = spelled_is_lawful;
  has = λ o is. (Second, record { lawful = is; spelled = refl });
  older = λ o is older. record { lawful = lawful_older o is older; spelled = refl };
  newer = λ o bytes spells. is_older o spells.lawful;
  same = λ version o a b p q. p.spelled ∙ sym q.spelled;
}
