use Rattle.user_folder.specs.KeptLaws.{kept_is_lawful}
use Rattle.user_folder.proofs.users.kept_passwords_are_lawful.Goals as goal

pub returns : goal.returns
returns c = kept_is_lawful
